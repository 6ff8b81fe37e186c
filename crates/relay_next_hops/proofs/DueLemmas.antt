-- The last moment at which one of some places is due.
use Rattle.std.proofs.Common.{ℕ, ◌≤◌, List, [], ◌∷◌, arith}
use Rattle.relay_book.specs.declared.message.Place.{Place}
use Rattle.relay_next_hops.specs.Deliveries.{last_due}

pub now_or_later : (places : List Place) (now : ℕ) → now ≤ last_due places now
now_or_later [] now = omega arith
now_or_later (place ∷ places) now = omega (arith, now_or_later places now)
