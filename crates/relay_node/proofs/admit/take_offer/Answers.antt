-- A stop leaves the offer's accept, or not.
use Rattle.std.proofs.Common.{Option, subst}
use Rattle.relay_server.specs.Session.{offered}
use Rattle.relay_node.specs.declared.intake.Taken.{Taken}
use Rattle.relay_node.specs.Listening.{Weighs}
use Rattle.relay_node.proofs.AdmitLemmas.{stop_accepts}
use Rattle.relay_node.proofs.admit.take_offer.Goals as goal

pub returns-in-Ok-clause-stop : goal.returns-in-Ok-clause-stop
returns-in-Ok-clause-stop g c = λ changes keeps h.
    let taken = subst (λ (t : Option Taken). Weighs (record { config = c.args.config; peer = c.args.peer; number = c.next_number.result; size = c.size.result; at = c.args.now }) (offered c.args.offer.now) t) c.in-Some.is c.in_ok-weigh.ensures.weighs in
    stop_accepts g.D.Disk.honest g.D.Disk.words c.args.config.now changes c.args.peer c.args.now (offered c.args.offer.now) c.args.records.now _ _ taken.accept taken.room (c.next_number.ensures.kept changes keeps) c.size.ensures.size
    c.in-Some.taken.change taken.change_is c.add.new.self.spool.disk (c.add.ensures.stop changes keeps h)

pub returns-in-Err-clause-stop : goal.returns-in-Err-clause-stop
returns-in-Err-clause-stop g c = λ changes keeps h.
    let taken = subst (λ (t : Option Taken). Weighs (record { config = c.args.config; peer = c.args.peer; number = c.next_number.result; size = c.size.result; at = c.args.now }) (offered c.args.offer.now) t) c.in-Some.is c.in_ok-weigh.ensures.weighs in
    stop_accepts g.D.Disk.honest g.D.Disk.words c.args.config.now changes c.args.peer c.args.now (offered c.args.offer.now) c.args.records.now _ _ taken.accept taken.room (c.next_number.ensures.kept changes keeps) c.size.ensures.size
    c.in-Some.taken.change taken.change_is c.add.new.self.spool.disk (c.add.ensures.stop changes keeps h)
