-- Nothing is written to an attempt that has ended.
use Rattle.relay_next_hops.proofs.LeaveLemmas.{leaves_same}
use Rattle.std.proofs.Common.{false, refl, rules}
use Rattle.relay_next_hops.proofs.SendingLemmas.{sends_on, sends_same, sends_then}
use Rattle.relay_next_hops.proofs.TellingLemmas.{told_answered}
use Rattle.relay_next_hops.proofs.WaitingLemmas.{idles_flushed}
use Rattle.relay_next_hops.proofs.hop.Hop.answer.Goals as goal

pub returns-in_default-clause-leaves : goal.returns-in_default-clause-leaves
returns-in_default-clause-leaves g c = leaves_same g.D.Disk.honest g.D.Disk.words c.args.relay.now

pub returns-in-Some-clause-leaves : goal.returns-in-Some-clause-leaves
returns-in-Some-clause-leaves g c = leaves_same g.D.Disk.honest g.D.Disk.words c.args.relay.now

pub returns-in_default-clause-told : goal.returns-in_default-clause-told
returns-in_default-clause-told g c = λ used told.
    told_answered c.args.self.now (record c.args.self.now { hears = false }) used c.args.answered 0 (search rules) refl
    refl told

pub returns-in_default-clause-sends : goal.returns-in_default-clause-sends
returns-in_default-clause-sends g c = sends_same g.S.Stream.remaining g.S.Stream.contents c.args.attempt c.args.relay.now c.args.self.now.channel

pub returns-in-Some-clause-sends : goal.returns-in-Some-clause-sends
returns-in-Some-clause-sends g c =
    sends_on g.S.Stream.remaining g.S.Stream.contents c.args.attempt c.args.relay.now c.args.self.now.channel c.used.new.self c.used.new.self refl c.used.ensures.output

pub returns-clause-sends : goal.returns-clause-sends
returns-clause-sends g c =
    sends_then g.S.Stream.remaining g.S.Stream.contents c.args.attempt c.args.relay.now c.args.relay.now c.flush.new.relay c.args.self.now.channel c.wait_on.new.self.channel c.flush.new.self.channel
    (sends_on g.S.Stream.remaining g.S.Stream.contents c.args.attempt c.args.relay.now c.args.self.now.channel c.used.new.self c.wait_on.new.self.channel c.wait_on.ensures.channel.0 c.used.ensures.output)
    c.flush.ensures.sends

pub returns-clause-waits : goal.returns-clause-waits
returns-clause-waits g c = λ stays.
    idles_flushed c.args.now.now.tick c.args.attempt c.args.relay.now c.flush.new.relay c.wait_on.new.self c.flush.new.self c.wait_on.ensures.waits.idle c.flush.ensures.waits
