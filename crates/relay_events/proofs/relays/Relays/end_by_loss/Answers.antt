use Rattle.std.proofs.Common.{◌<◌, length, sym, subst, ap, ◌∙◌, arith}
use Rattle.std.specs.Prelude.{slice_get, slice_set, vec_capacity, vec_len}
use Rattle.relay_world.specs.declared.attempt.Fate.TheVariants.{Lost}
use Rattle.relay_world.specs.World.{World}
use Rattle.relay_events.proofs.relays.Relays.end_by_loss.Goals as goal

pub set_fate-requires : goal.set_fate-requires
set_fate-requires g c =
    subst (λ n. c.args.end.place < n) (sym (ap (λ (w : World _). length w.attempts) c.note_left.ensures.world)) c.requires.there

pub returns-clause-world : goal.returns-clause-world
returns-clause-world g c attempt there =
    c.set_fate.ensures.world attempt
    (ap (λ (w : World _). slice_get w.attempts c.args.end.place) c.note_left.ensures.world ∙ there)
    ∙ ap (λ (w : World _). let next : World _ = record w {
      attempts = slice_set w.attempts c.args.end.place (record attempt { fate = Lost c.args.change });
    } in next) c.note_left.ensures.world

pub returns-clause-len : goal.returns-clause-len
returns-clause-len g c = ap (λ l. vec_len l) c.set_fate.ensures.ledger ∙ c.note_left.ensures.len

pub returns-clause-capacity : goal.returns-clause-capacity
returns-clause-capacity g c =
    let same = ap (λ l. vec_capacity l) c.set_fate.ensures.ledger in
    let more = c.note_left.ensures.capacity in
    omega (arith, same, more)
