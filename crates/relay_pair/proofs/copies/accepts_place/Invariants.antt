use Rattle.std.proofs.Common.{◌≡◌, ◌≤◌, length, drop}
use Rattle.relay_pair.specs.Copied.{accepts_place}
use Rattle.relay_pair.proofs.copies.accepts_place.Given as goal

-- what is left decides
abbrev pub invariant-loop-index : goal.invariant-loop-index
invariant-loop-index l = record {
  within : l.index ≤ length l.places;
  left : accepts_place l.place (drop l.index l.places) (drop l.index l.replies) ≡ accepts_place l.place l.places l.replies;
}
