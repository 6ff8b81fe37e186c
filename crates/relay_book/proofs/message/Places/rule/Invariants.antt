-- what the verdicts so far made, and those to come make
use Rattle.std.proofs.Common.{◌≡◌, drop}
use Rattle.relay_book.specs.Queue.{places_ruled}
use Rattle.relay_book.proofs.message.Places.rule.Given as goal

abbrev pub invariant-loop-ruling : goal.invariant-loop-ruling
invariant-loop-ruling l =
    places_ruled l.outcome.version l.accept l.outcome.at l.self (drop l.ruling-index l.outcome.rulings)
    ≡ places_ruled l.outcome.version l.accept l.outcome.at l.initial.self l.outcome.rulings
