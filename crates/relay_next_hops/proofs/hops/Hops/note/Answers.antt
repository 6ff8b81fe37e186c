-- The connection is put back with its delivery.
use Rattle.std.proofs.Common.{refl, ◌∙◌}
use Rattle.relay_next_hops.specs.declared.hop.Hop.{Hop}
use Rattle.relay_next_hops.proofs.NotedLemmas.{noted_there}
use Rattle.relay_next_hops.proofs.SlotLemmas.{back_aimed, back_counts}
use Rattle.relay_next_hops.proofs.hops.Hops.note.Goals as goal

pub returns-in-Some-clause-counts : goal.returns-in-Some-clause-counts
returns-in-Some-clause-counts g c = λ paces.
    let after : Hop _ = record c.in-Some.taken { channel = c.note.new.self } in
    back_counts c.args.self.now.hops c.take.new.self c.args.number c.in-Some.taken after c.in-Some.ensures.taken c.take.ensures.rest (record { aim = refl; message = refl; name = refl }) c.put.new.self c.put.ensures.stands paces

pub returns-in-Some-clause-aimed : goal.returns-in-Some-clause-aimed
returns-in-Some-clause-aimed g c = λ routes.
    let after : Hop _ = record c.in-Some.taken { channel = c.note.new.self } in
    back_aimed c.args.self.now.hops c.take.new.self c.args.number c.in-Some.taken after c.in-Some.ensures.taken c.take.ensures.rest (record { aim = refl; message = refl; name = refl }) c.put.new.self c.put.ensures.stands routes

pub returns-in-Some-clause-noted : goal.returns-in-Some-clause-noted
returns-in-Some-clause-noted g c =
    noted_there c.args.ready c.args.self.now.hops c.take.new.self c.put.new.self c.args.number c.in-Some.taken c.note.new.self
    c.in-Some.ensures.taken c.take.ensures.rest c.put.ensures.stands c.note.ensures.all

pub returns-in-Some-clause-others : goal.returns-in-Some-clause-others
returns-in-Some-clause-others g c = λ other apart. c.put.ensures.others other apart ∙ c.take.ensures.others other apart
