-- no place so far waits until then
use Rattle.std.proofs.Common.{◌≡◌, drop}
use Rattle.relay_book.specs.Moments.{waits_from}
use Rattle.relay_book.proofs.book.earliest.any_waits.Given as goal

abbrev pub invariant-loop-index : goal.invariant-loop-index
invariant-loop-index g l =
    waits_from (g.Q.PlaceQuestion.holds l.question l.number l.message) l.due l.index (drop l.index l.message.places)
    ≡ waits_from (g.Q.PlaceQuestion.holds l.question l.number l.message) l.due 0 l.message.places
