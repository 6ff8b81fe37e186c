-- The connection stands again, or its number is free.
use Rattle.std.proofs.Common.{◌∙◌, Some, sym, subst}
use Rattle.relay_slots.specs.Slots.{slot_at}
use Rattle.relay_connections.specs.Leaving.{GoesOn, StaysOrCloses}
use Rattle.relay_connections.proofs.TableLemmas.{count_less, count_same}
use Rattle.relay_connections.proofs.leaving.Leaving.serve_one.Goals as goal

pub returns-then-serve-clause-count : goal.returns-then-serve-clause-count
returns-then-serve-clause-count g c =
    count_same c.args.self.now.leavers c.put.new.self c.args.number c.in-Some.taken _ (sym c.in-Some.ensures.taken) (c.put.ensures.there c.in-Some.ensures.within)
    (λ other apart. c.put.ensures.others other apart ∙ c.take.ensures.others other apart)

pub returns-clause-stays : goal.returns-clause-stays
returns-clause-stays g c =
    subst (λ slot. StaysOrCloses g.S.Stream.remaining g.S.Stream.contents c.args.now.now.tick slot (slot_at c.take.new.self c.args.number)) c.in-Some.ensures.taken
    (subst (λ slot. StaysOrCloses g.S.Stream.remaining g.S.Stream.contents c.args.now.now.tick (Some c.in-Some.taken) slot) (sym c.take.ensures.free)
    (record {
      last = c.serve.new.self;
      goes_on = subst (λ leaver. GoesOn g.S.Stream.remaining g.S.Stream.contents c.args.now.now.tick leaver c.serve.new.self) c.deref_mut.ensures.value c.serve.ensures.goes_on;
      over = c.serve.ensures.over c.if-serve.false;
    }))

pub returns-clause-count : goal.returns-clause-count
returns-clause-count g c = count_less c.args.self.now.leavers c.take.new.self c.args.number c.in-Some.taken (sym c.in-Some.ensures.taken) c.take.ensures.free c.take.ensures.others
