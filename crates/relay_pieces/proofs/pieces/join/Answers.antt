-- The next piece is the first of the rest.
use Rattle.std.proofs.Common.{◌≡◌, ◌+◌, ◌<◌, ℕ, List, ◌++◌, length, drop, sym, subst, ap, ◌∙◌, arith, rules, Vec}
use Rattle.std.specs.declared.alloc.Global.{Global}
use Rattle.relay_pieces.specs.Pieces.{joined}
use Rattle.relay_pieces.specs.Window.{Overlaps, front_of}
use Rattle.relay_pieces.proofs.SeamLemmas.{fewer_let_go, fewer_more, first_at, first_is, let_go, same_text}
use Rattle.relay_pieces.proofs.pieces.join.Goals as goal

pub join-requires-clause-overlaps : goal.join-requires-clause-overlaps
join-requires-clause-overlaps c =
    let pieces = c.args.rest.now.items in
    let some : 0 < length pieces = search rules in
    let is = first_at pieces c.in-Some.piece.now some c.in-Some.ensures.lookup in
    subst (Overlaps c.args.window.now) (first_is pieces (drop 1 pieces) c.in-Some.piece.now is ∙ sym c.deref.ensures.value) c.requires.overlaps

pub returns-in_err-join-clause-overlaps : goal.returns-in_err-join-clause-overlaps
returns-in_err-join-clause-overlaps c =
    let pieces = c.args.rest.now.items in
    let some : 0 < length pieces = search rules in
    let is = first_at pieces c.in-Some.piece.now some c.in-Some.ensures.lookup in
    subst (Overlaps c.join.new.self) (c.deref.ensures.value ∙ sym (first_is pieces (drop 1 pieces) c.in-Some.piece.now is)) c.join.ensures.overlaps

pub returns-else-window-len-clause-overlaps : goal.returns-else-window-len-clause-overlaps
returns-else-window-len-clause-overlaps c =
    let pieces = c.args.rest.now.items in
    let some : 0 < length pieces = search rules in
    let is = first_at pieces c.in-Some.piece.now some c.in-Some.ensures.lookup in
    subst (Overlaps c.join.new.self) (c.deref.ensures.value ∙ sym (first_is pieces (drop 1 pieces) c.in-Some.piece.now is)) c.join.ensures.overlaps

pub returns-else-window-len-clause-next : goal.returns-else-window-len-clause-next
returns-else-window-len-clause-next c =
    let old = c.args.window.now in
    let new = c.join.new.self in
    let pieces = c.args.rest.now.items in
    let piece = c.in-Some.piece.now in
    let some : 0 < length pieces = search rules in
    let is = first_at pieces piece some c.in-Some.ensures.lookup in
    let own = c.deref.ensures.value in
    let was_in = subst (Overlaps old) (first_is pieces (drop 1 pieces) piece is) c.requires.overlaps in
    let now_in = subst (Overlaps new) own c.join.ensures.overlaps in
    let text = subst (λ (xs : List ℕ). front_of new ++ drop new.ahead xs ≡ front_of old ++ drop old.ahead xs) own c.in_ok-join.ensures.text in
    let counted : c.len.result ≡ length piece.items = search rules in
    let not_all = c.if-window-len.false in
    let was_fits = was_in.within in
    let now_fits = now_in.within in
    let no_less = c.in_ok-join.ensures.no_less in
    let long = ap length own in
    let more = c.in_ok-join.ensures.more (omega (arith, counted, not_all, was_fits, now_fits, no_less, long)) in (
      same_text pieces (drop 1 pieces) piece (front_of old) (front_of new) old.ahead new.ahead is was_fits now_fits text,
      fewer_more pieces (drop 1 pieces) piece is old.ahead new.ahead more now_fits,
    )

pub returns-then-window-len-clause-next : goal.returns-then-window-len-clause-next
returns-then-window-len-clause-next c =
    let old = c.args.window.now in
    let new = c.join.new.self in
    let pieces = c.args.rest.now.items in
    let piece = c.in-Some.piece.now in
    let some : 0 < length pieces = search rules in
    let is = first_at pieces piece some c.in-Some.ensures.lookup in
    let own = c.deref.ensures.value in
    let was_in = subst (Overlaps old) (first_is pieces (drop 1 pieces) piece is) c.requires.overlaps in
    let now_in = subst (Overlaps new) own c.join.ensures.overlaps in
    let text = subst (λ (xs : List ℕ). front_of new ++ drop new.ahead xs ≡ front_of old ++ drop old.ahead xs) own c.in_ok-join.ensures.text in
    let counted : c.len.result ≡ length piece.items = search rules in
    let all = c.if-window-len.true ∙ counted in
    let rest_is : c.pop_front.new.self.items ≡ drop 1 pieces = c.pop_front.ensures.rest in (
      ap (λ (rest : List (Vec ℕ Global)). front_of new ++ joined rest) rest_is
          ∙ ap (λ (xs : List ℕ). front_of new ++ xs) (sym (let_go pieces (drop 1 pieces) piece is new.ahead all))
          ∙ same_text pieces (drop 1 pieces) piece (front_of old) (front_of new) old.ahead new.ahead is was_in.within now_in.within text,
      subst (λ (rest : List (Vec ℕ Global)). length (joined rest) + length rest < length (drop old.ahead (joined pieces)) + length pieces) (sym rest_is)
          (fewer_let_go pieces (drop 1 pieces) piece is old.ahead was_in.within),
    )
