-- the connections of the pieces so far are gone, and no others
use Rattle.std.proofs.Common.{◌≡◌, ℕ, take}
use Rattle.relay_slots.specs.Slots.{slot_at}
use Rattle.relay_loop.specs.GroupPieces.{AreOfOthers}
use Rattle.relay_loop.specs.Groups.{AllAreGone}
use Rattle.relay_loop.proofs.group.drop_all.Given as goal

abbrev pub invariant-loop-piece : goal.invariant-loop-piece
invariant-loop-piece l = record {
  gone : AllAreGone l.clients (take l.piece-index l.pieces);
  others : (session : ℕ) → AreOfOthers session (take l.piece-index l.pieces) → slot_at l.clients session ≡ slot_at l.initial.clients session;
}
