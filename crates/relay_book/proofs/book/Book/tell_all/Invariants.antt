-- the places so far are told of
use Rattle.std.proofs.Common.{◌≡◌, ℕ, take, Contains}
use Rattle.relay_book.specs.Book.{AreTold}
use Rattle.relay_book.proofs.book.Book.tell_all.Given as goal

abbrev pub invariant-loop-place : goal.invariant-loop-place
invariant-loop-place l =
    (l.self.queue ≡ l.initial.self.queue) × (l.self.room ≡ l.initial.self.room)
    × AreTold l.self.told l.number (take l.place-index l.places)
    × ((key : ℕ × ℕ) → Contains l.initial.self.told key → Contains l.self.told key)
