use Rattle.std.proofs.Common.{◌++◌, ap, ◌∙◌, arith}
use Rattle.relay_events.specs.Act.{did_of, stops_of}
use Rattle.relay_events.proofs.TryingLemmas.{few_try}
use Rattle.relay_events.proofs.relays.Relays.finish.Goals as goal

pub tell-requires-clause-list : goal.tell-requires-clause-list
tell-requires-clause-list g c =
    let few = few_try 16 c.args.self.now.attempts.items in
    let one = c.list_stop.ensures.few in
    omega (arith, few, one)

pub returns-clause-finished : goal.returns-clause-finished
returns-clause-finished g c = (
  c.tell.ensures.told.0,
  c.answer_of.ensures c.tell.ensures.told.0.stopped
      (c.tell.ensures.told.1
      ∙ ap (λ l. l ++ c.tell.ensures.told.0.stopped)
      (c.list_stop.ensures.nodes ∙ ap (λ l. l ++ stops_of (did_of c.args.act)) c.new-stopped.ensures)),
)

pub returns-clause-order : goal.returns-clause-order
returns-clause-order g c =
    record { bound = c.tell.ensures.bound; told = c.tell.ensures.told.0.told; room = c.tell.ensures.room }
