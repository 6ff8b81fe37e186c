-- The place of the message, in which the text counts for nothing.
use Rattle.std.proofs.Common.{◌≡◌, ℕ, List, MatchOption, Option, None, Some, sym, ap, subst}
use Rattle.std.specs.Option.{option_and_then}
use Rattle.relay_records.specs.HeldPlace.{waiting_in}
use Rattle.relay_outlines.proofs.look.Look.place.Goals as goal

pub returns-in-Some : goal.returns-in-Some
returns-in-Some c =
    subst (λ (waiting : Option (List ℕ × ℕ)). MatchOption c.held_place.result (waiting ≡ None)
    (λ found. waiting ≡ Some (found.path.now, found.due)))
    (ap (option_and_then (waiting_in c.args.place)) c.in-Some.ensures) c.held_place.ensures

pub returns-in-None : goal.returns-in-None
returns-in-None c = sym (ap (option_and_then (waiting_in c.args.place)) c.in-None.ensures)
