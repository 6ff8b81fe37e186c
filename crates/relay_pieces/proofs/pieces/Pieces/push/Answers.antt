use Rattle.std.proofs.Common.{ℕ, List, [], ◌∷◌, ◌++◌, drop, sym, subst, ap, ◌∙◌, append_assoc, Vec}
use Rattle.std.specs.declared.alloc.Global.{Global}
use Rattle.relay_pieces.specs.Pieces.{first_of, joined}
use Rattle.relay_pieces.specs.Window.{Overlaps, front_of}
use Rattle.relay_pieces.proofs.SeamLemmas.{put_after, put_first}
use Rattle.relay_pieces.proofs.pieces.Pieces.push.Goals as goal

pub invariant_of-self-2 : goal.invariant_of-self-2
invariant_of-self-2 c =
    let window = c.self.inside.window in
    let pieces = c.self.inside.rest.items in
    let put = put_first pieces c.args.piece window.ahead c.self.invariant.within in
    let all : Overlaps window (first_of (pieces ++ c.args.piece ∷ [])) = record { within = put.0; same = c.self.invariant.same ∙ sym put.1 } in
    subst (λ (rest : List (Vec ℕ Global)). Overlaps window (first_of rest)) (sym c.in_ok-push_back.ensures.items) all

pub returns : goal.returns
returns c =
    let window = c.self.inside.window in
    let pieces = c.self.inside.rest.items in
    rw (sym c.self.view_is) (
    ap (λ (rest : List (Vec ℕ Global)). front_of window ++ drop window.ahead (joined rest)) c.in_ok-push_back.ensures.items
    ∙ ap (λ (xs : List ℕ). front_of window ++ xs) (put_after pieces c.args.piece window.ahead c.self.invariant.within)
    ∙ sym (append_assoc (front_of window) (drop window.ahead (joined pieces)) c.args.piece.items))
