use Rattle.std.proofs.Common.{◌+◌, ◌<◌, ℕ, length, drop, sym, subst}
use Rattle.relay_pieces.specs.Pieces.{joined}
use Rattle.relay_pieces.specs.Window.{Overlaps, front_of}
use Rattle.relay_pieces.proofs.SeamLemmas.{fewer_let_go, first_is, turned_text}
use Rattle.relay_pieces.proofs.pieces.Pieces.take_up.Goals as goal

pub turn-requires-clause-overlaps : goal.turn-requires-clause-overlaps
turn-requires-clause-overlaps c =
    subst (Overlaps c.self.inside.window) (first_is c.self.inside.rest.items c.pop_front.new.self.items c.in-Some.piece c.in-Some.ensures.items) c.self.invariant

pub returns-clause-next : goal.returns-clause-next
returns-clause-next c =
    let old = c.self.inside.window in
    let new = c.turn.new.self in
    let pieces = c.self.inside.rest.items in
    let rest = c.pop_front.new.self.items in
    let piece = c.in-Some.piece in
    let is = c.in-Some.ensures.items in
    let was_in = subst (Overlaps old) (first_is pieces rest piece is) c.self.invariant in
    rw (sym c.self.view_is) (
      turned_text pieces rest piece is (front_of old) (front_of new) old.ahead new.ahead was_in.within c.turn.ensures.ahead c.turn.ensures.text,
      subst (λ (n : ℕ). length (drop n (joined rest)) + length rest < length (drop old.ahead (joined pieces)) + length pieces) (sym c.turn.ensures.ahead)
          (fewer_let_go pieces rest piece is old.ahead was_in.within),
    )
