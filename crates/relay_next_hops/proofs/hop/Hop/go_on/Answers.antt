-- Connecting does not call the relay.
use Rattle.relay_next_hops.proofs.LeaveLemmas.{leaves_same}
use Rattle.relay_next_hops.proofs.TellingLemmas.{told_begun, told_running, told_waiting}
use Rattle.relay_next_hops.proofs.hop.Hop.go_on.Goals as goal

pub returns-in-None-clause-leaves : goal.returns-in-None-clause-leaves
returns-in-None-clause-leaves g c = leaves_same g.D.Disk.honest g.D.Disk.words c.args.relay.now

pub returns-in-Some-clause-told : goal.returns-in-Some-clause-told
returns-in-Some-clause-told g c = λ used told.
    told_running c.args.self.now c.exchange.new.self used c.in-Some.attempt c.in-Some.is c.exchange.ensures.attempt
    (c.exchange.ensures.told used) told

pub returns-in-None-clause-told : goal.returns-in-None-clause-told
returns-in-None-clause-told g c = λ used told.
    told_waiting c.args.self.now c.connect.new.self used c.in-None.is c.connect.ensures.attempt c.connect.ensures.talk told

pub returns-in-None-2-clause-told : goal.returns-in-None-2-clause-told
returns-in-None-2-clause-told g c = λ used told.
    told_begun c.args.self.now c.await_greeting.new.self used c.in-None-2.is c.await_greeting.ensures.told told
