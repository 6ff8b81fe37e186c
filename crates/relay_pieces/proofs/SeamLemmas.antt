-- Round the seam of two pieces: what stands in the window and in the piece after alike.
use Rattle.std.proofs.Common.{◌≡◌, ℕ, ◌+◌, ◌-◌, ◌<◌, ◌≤◌, List, [], ◌∷◌, ◌++◌, length, take, drop, get_or, suc, take-add, sym, ap, ◌∙◌, refl, arith, append_assoc, append-nil, length-append, length-take, length-drop, take-append-drop, Vec}
use Rattle.std.proofs.lemmas.Grind.{flat_map-append}
use Rattle.std.proofs.lemmas.List.{drop-drop, drop-append-le, drop_all}
use Rattle.std.specs.declared.alloc.Global.{Global}
use Rattle.relay_pieces.specs.Pieces.{first_of, joined}

-- octets that are held, the last of them the first of a piece
module _ (held piece : List ℕ) (ahead : ℕ) (within : ahead ≤ length piece) (same : drop (length held - ahead) held ≡ take ahead piece) where
  pub is_held : ahead ≤ length held
  is_held =
      let all = length-drop (length held - ahead) held in
      let some = length-take ahead piece in
      let equal = ap length same in
      omega (arith, all, some, equal, within)

  -- more of the piece is put to them
  pub more_same : (count : ℕ) → ahead + count ≤ length piece
      → drop (length (held ++ take count (drop ahead piece)) - (ahead + count)) (held ++ take count (drop ahead piece)) ≡ take (ahead + count) piece
  more_same count fits =
      let put = take count (drop ahead piece) in
      let all = length-append held put in
      let after = length-drop ahead piece in
      let some = length-take count (drop ahead piece) in
      let place : length (held ++ put) - (ahead + count) ≡ length held - ahead = omega (arith, all, after, some, fits, is_held) in
      ap (λ (n : ℕ). drop n (held ++ put)) place
      ∙ drop-append-le (length held - ahead) held put (omega arith)
      ∙ ap (λ (xs : List ℕ). xs ++ put) same
      ∙ sym (take-add ahead count piece)

  -- a front that stands in the piece too goes on there
  pub turned : (used : ℕ) → used ≤ length held → length held - used ≤ ahead → drop (ahead - (length held - used)) piece ≡ drop used held ++ drop ahead piece
  turned used kept few =
      let place = ahead - (length held - used) in
      let there : length held - ahead + place ≡ used = omega (arith, kept, few, is_held) in
      let front : drop place (take ahead piece) ≡ drop used held = ap (drop place) (sym same) ∙ drop-drop place (length held - ahead) held ∙ ap (λ (n : ℕ). drop n held) there in
      let some = length-take ahead piece in
      ap (drop place) (sym (take-append-drop ahead piece))
      ∙ drop-append-le place (take ahead piece) (drop ahead piece) (omega (arith, some, within))
      ∙ ap (λ (xs : List ℕ). xs ++ drop ahead piece) front

pub more_text : (held piece : List ℕ) (ahead count : ℕ) → (held ++ take count (drop ahead piece)) ++ drop (ahead + count) piece ≡ held ++ drop ahead piece
more_text held piece ahead count =
    append_assoc held (take count (drop ahead piece)) (drop (ahead + count) piece)
    ∙ ap (λ (xs : List ℕ). held ++ (take count (drop ahead piece) ++ xs)) (sym (drop-drop count ahead piece))
    ∙ ap (λ (xs : List ℕ). held ++ xs) (take-append-drop count (drop ahead piece))

-- what stands after a window, by the piece after it
pub after_is : (pieces rest : List (Vec ℕ Global)) (piece : Vec ℕ Global) (ahead : ℕ) → pieces ≡ piece ∷ rest → ahead ≤ length piece.items
    → drop ahead (joined pieces) ≡ drop ahead piece.items ++ joined rest
after_is pieces rest piece ahead is within =
    ap (λ (all : List (Vec ℕ Global)). drop ahead (joined all)) is
    ∙ drop-append-le ahead piece.items (joined rest) within

-- the text stays where the window and the piece after it have the same as before
pub same_text : (pieces rest : List (Vec ℕ Global)) (piece : Vec ℕ Global) (old new : List ℕ) (was ahead : ℕ) → pieces ≡ piece ∷ rest → was ≤ length piece.items → ahead ≤ length piece.items
    → new ++ drop ahead piece.items ≡ old ++ drop was piece.items → new ++ drop ahead (joined pieces) ≡ old ++ drop was (joined pieces)
same_text pieces rest piece old new was ahead is fits within same =
    ap (λ (xs : List ℕ). new ++ xs) (after_is pieces rest piece ahead is within)
    ∙ sym (append_assoc new (drop ahead piece.items) (joined rest))
    ∙ ap (λ (xs : List ℕ). xs ++ joined rest) same
    ∙ append_assoc old (drop was piece.items) (joined rest)
    ∙ ap (λ (xs : List ℕ). old ++ xs) (sym (after_is pieces rest piece was is fits))

-- a piece that is put after all others
pub put_first : (pieces : List (Vec ℕ Global)) (piece : Vec ℕ Global) (ahead : ℕ) → ahead ≤ length (first_of pieces)
    → (ahead ≤ length (first_of (pieces ++ piece ∷ []))) × (take ahead (first_of (pieces ++ piece ∷ [])) ≡ take ahead (first_of pieces))
put_first [] piece ahead within =
    let none : ahead ≡ 0 = omega (arith, within) in
    (omega (arith, none), ap (λ (n : ℕ). take n piece.items) none ∙ sym (ap (λ (n : ℕ). take n []) none))
put_first (first ∷ pieces) piece ahead within = (within, refl)

first_within : (pieces : List (Vec ℕ Global)) → length (first_of pieces) ≤ length (joined pieces)
first_within [] = omega arith
first_within (first ∷ pieces) = let all = length-append first.items (joined pieces) in omega (arith, all)

pub put_after : (pieces : List (Vec ℕ Global)) (piece : Vec ℕ Global) (ahead : ℕ) → ahead ≤ length (first_of pieces)
    → drop ahead (joined (pieces ++ piece ∷ [])) ≡ drop ahead (joined pieces) ++ piece.items
put_after pieces piece ahead within =
    let first = first_within pieces in
    ap (drop ahead) (flat_map-append (λ (one : Vec ℕ Global). one.items) pieces (piece ∷ []) ∙ ap (λ (xs : List ℕ). joined pieces ++ xs) (append-nil piece.items))
    ∙ drop-append-le ahead (joined pieces) piece.items (omega (arith, within, first))

-- the first of some pieces, by its place
pub first_at : (pieces : List (Vec ℕ Global)) (piece : Vec ℕ Global) → 0 < length pieces → piece ≡ get_or pieces 0 piece → pieces ≡ piece ∷ drop 1 pieces
first_at [] piece some is = absurd (omega (arith, some))
first_at (first ∷ pieces) piece some is = ap (λ (one : Vec ℕ Global). one ∷ pieces) (sym is)

-- a piece and those after it
module _ (pieces rest : List (Vec ℕ Global)) (piece : Vec ℕ Global) (is : pieces ≡ piece ∷ rest) where
  counted : length pieces ≡ suc (length rest)
  counted = ap length is

  all_long : length (joined pieces) ≡ length piece.items + length (joined rest)
  all_long = ap (λ (all : List (Vec ℕ Global)). length (joined all)) is ∙ length-append piece.items (joined rest)

  pub first_is : first_of pieces ≡ piece.items
  first_is = ap first_of is

  -- the piece is let go, where all of it stands in the window
  pub let_go : (ahead : ℕ) → ahead ≡ length piece.items → drop ahead (joined pieces) ≡ joined rest
  let_go ahead all =
      after_is pieces rest piece ahead is (omega (arith, all))
      ∙ ap (λ (xs : List ℕ). xs ++ joined rest) (ap (λ (n : ℕ). drop n piece.items) all ∙ drop_all (length piece.items) piece.items (omega arith))

  pub fewer_let_go : (was : ℕ) → was ≤ length piece.items → length (joined rest) + length rest < length (drop was (joined pieces)) + length pieces
  fewer_let_go was fits =
      let long = length-drop was (joined pieces) in
      omega (arith, counted, all_long, long, fits)

  pub fewer_more : (was ahead : ℕ) → was < ahead → ahead ≤ length piece.items → length (drop ahead (joined pieces)) + length pieces < length (drop was (joined pieces)) + length pieces
  fewer_more was ahead more within =
      let long = length-drop was (joined pieces) in
      let now = length-drop ahead (joined pieces) in
      omega (arith, counted, all_long, long, now, more, within)

  -- the window goes on in the piece
  pub turned_text : (old new : List ℕ) (was ahead : ℕ) → was ≤ length piece.items → ahead ≡ 0 → new ≡ old ++ drop was piece.items
      → new ++ drop ahead (joined rest) ≡ old ++ drop was (joined pieces)
  turned_text old new was ahead fits none front =
      ap (λ (n : ℕ). new ++ drop n (joined rest)) none
      ∙ ap (λ (xs : List ℕ). xs ++ joined rest) front
      ∙ append_assoc old (drop was piece.items) (joined rest)
      ∙ ap (λ (xs : List ℕ). old ++ xs) (sym (after_is pieces rest piece was is fits))
