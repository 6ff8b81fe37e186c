-- A list that is turned and cut off.
use Rattle.std.proofs.Common.{◌≡◌, ℕ, ◌+◌, ◌-◌, ◌≤◌, List, ◌++◌, take, drop, length, ap, ◌∙◌, arith, length-append}
use Rattle.std.proofs.Math.Seq.{drop-append-add, take-append_seam}
use Rattle.std.proofs.lemmas.List.{length-drop}

-- turned by so many, and cut to the others
pub cut_turned : (text : List ℕ) (count len : ℕ) → len + count ≡ length text → take len (drop count text ++ take count text) ≡ drop count text
cut_turned text count len whole =
    let left : length (drop count text) ≡ length text - count = length-drop count text in
    let same : len ≡ length (drop count text) = omega (arith, whole, left) in
    ap (λ n. take n (drop count text ++ take count text)) same
    ∙ take-append_seam (drop count text) (take count text)

-- one list ends another
pub record Ends (last text : List ℕ) : Type 0 where
  pub within : length last ≤ length text
  pub is_last : drop (length text - length last) text ≡ last

pub ends_itself : (last : List ℕ) → Ends last last
ends_itself last =
    let none : length last - length last ≡ 0 = omega arith in
    record {
      within = omega arith;
      is_last = ap (λ n. drop n last) none;
    }

-- more before it
pub ends_more : (front last text : List ℕ) → Ends last text → Ends last (front ++ text)
ends_more front last text ends =
    let long = length-append front text in
    let within = ends.within in
    let same : length (front ++ text) - length last ≡ length front + (length text - length last) = omega (arith, long, within) in
    record {
      within = omega (arith, long, within);
      is_last = ap (λ n. drop n (front ++ text)) same ∙ drop-append-add front text (length text - length last) ∙ ends.is_last;
    }
