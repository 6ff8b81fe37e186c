use Rattle.std.proofs.Common.{◌≡◌, ◌+◌, ◌-◌, ◌≤◌, ℕ, List, ◌++◌, length, take, drop, ap, ◌∙◌, arith, rules, length-drop}
use Rattle.std.proofs.lemmas.List.{take_all}
use Rattle.relay_pieces.proofs.SeamLemmas.{more_same, more_text}
use Rattle.relay_pieces.proofs.window.Window.join.Goals as goal

-- the octets that are put, as the code names them
put_is : (count ahead : ℕ) (piece : List ℕ) → take count (take (length piece - ahead) (drop ahead piece)) ≡ take count (drop ahead piece)
put_is count ahead piece = let long = length-drop ahead piece in ap (take count) (take_all (length piece - ahead) (drop ahead piece) (omega (arith, long)))

pub returns-clause-overlaps : goal.returns-clause-overlaps
returns-clause-overlaps c =
    let settled = c.settle.new.self in
    let piece = c.args.piece.now in
    let count = c.min-count.result in
    let fits : settled.ahead + count ≤ length piece = search rules in
    let items : c.extend_from_slice.new.self.items ≡ settled.held.items ++ take count (drop settled.ahead piece) =
    c.in_ok-extend_from_slice.ensures.items ∙ ap (λ (xs : List ℕ). settled.held.items ++ xs) (put_is count settled.ahead piece) in
    record {
      within = fits;
      same = ap (λ (xs : List ℕ). drop (length xs - (settled.ahead + count)) xs) items
          ∙ more_same settled.held.items piece settled.ahead c.settle.ensures.overlaps.within c.settle.ensures.overlaps.same count fits;
    }

pub returns-clause-text : goal.returns-clause-text
returns-clause-text c =
    let settled = c.settle.new.self in
    let piece = c.args.piece.now in
    let count = c.min-count.result in
    let items : c.extend_from_slice.new.self.items ≡ settled.held.items ++ take count (drop settled.ahead piece) =
    c.in_ok-extend_from_slice.ensures.items ∙ ap (λ (xs : List ℕ). settled.held.items ++ xs) (put_is count settled.ahead piece) in
    ap (λ (n : ℕ). drop n c.extend_from_slice.new.self.items ++ drop (settled.ahead + count) piece) c.settle.ensures.used
    ∙ ap (λ (xs : List ℕ). xs ++ drop (settled.ahead + count) piece) items
    ∙ more_text settled.held.items piece settled.ahead count
    ∙ ap (λ (xs : List ℕ). xs ++ drop settled.ahead piece) c.settle.ensures.text
    ∙ ap (λ (n : ℕ). drop c.args.self.now.used c.args.self.now.held.items ++ drop n piece) c.settle.ensures.ahead
