-- What a search for an LF tells: the line before it, and what follows it.
use Rattle.std.proofs.Common.{◌≡◌, ◌+◌, ◌<◌, ℕ, zero, suc, true, false, List, [], ◌∷◌, ◌++◌, Option, Some, None, length, take, drop, get_or, slice_index, sym, ap, subst, ◌∙◌, arith, inl, inr, MatchOption}
use Rattle.std.specs.Borrow.{Bor}
use Rattle.std.proofs.lemmas.Bool.{false≢true}
use Rattle.std.proofs.lemmas.Bool.Decides.{eqb_tells}
use Rattle.std.proofs.lemmas.List.{get_or_append_left, length-append, take_at}
use Rattle.std.proofs.lemmas.Option.{none-some}
use Rattle.std.proofs.Math.Seq.{drop-append-add, get_or-append_seam}
use Rattle.memchr.specs.Find.{FindsNeedle, OccursAt, first_of, matches}
use Rattle.memchr.proofs.lemmas.ValueLemmas.{FindsNeedle-value}
use Rattle.bstr.specs.Text.{SplitsOnce}
use Rattle.relay_play.specs.Script.{HasNoLineFeed, is_line_feed}

-- a text has no LF, or a line before its first
data Ends (text : List ℕ) : Type 0 where
  Open : HasNoLineFeed text → Ends text
  Line : (line rest : List ℕ) → HasNoLineFeed line → text ≡ line ++ 10 ∷ rest → Ends text

ends : (text : List ℕ) → Ends text
ends [] = Open tt
ends (octet ∷ text) = elim (eqb_tells octet 10) [
  | inl here ↦ Line [] text tt (ap (λ o. o ∷ text) here.1)
  | inr other ↦ elim (ends text) [
    | Open none ↦ Open (other.0, none)
    | Line line rest none is ↦ Line (octet ∷ line) rest (other.0, none) (ap (λ l. octet ∷ l) is)
  ]
]

-- no LF is found in a text without one
no_feed_at : (text : List ℕ) (k : ℕ) → HasNoLineFeed text → k < length text → get_or text k 0 ≡ 10 → ⊥
no_feed_at [] k none within here = absurd (omega (arith, within))
no_feed_at (octet ∷ text) zero none within here = false≢true (sym none.0 ∙ ap is_line_feed here)
no_feed_at (octet ∷ text) (suc k) none within here = no_feed_at text k none.1 (omega (arith, within)) here

reads_feed : (text : List ℕ) (k : ℕ) → OccursAt text (10 ∷ []) k → get_or text k 0 ≡ 10
reads_feed text k occurs =
    let read = occurs.reads 0 (omega arith) in
    let at : get_or text (k + 0) 0 ≡ 10 = read in
    subst (λ i. get_or text i 0 ≡ 10) (omega arith) at

open_finds : (text : List ℕ) → HasNoLineFeed text → FindsNeedle text (10 ∷ []) 0 None
open_finds text none k low high occurs =
    no_feed_at text k none (let fits = occurs.fits in omega (arith, fits)) (reads_feed text k occurs)

line_finds : (line rest : List ℕ) → HasNoLineFeed line → FindsNeedle (line ++ 10 ∷ rest) (10 ∷ []) 0 (Some (length line))
line_finds line rest none =
    let size = length-append line (10 ∷ rest) in (
      record {
        low = omega arith;
        high = omega (arith, size);
        before = λ k low high occurs.
            no_feed_at line k none high
            (sym (get_or_append_left line (10 ∷ rest) 0 k high) ∙ reads_feed (line ++ 10 ∷ rest) k occurs);
      },
      record {
        fits = omega (arith, size);
        reads = λ j small.
            let first : j ≡ 0 = omega (arith, small) in
            subst (λ i. slice_index (line ++ 10 ∷ rest) (length line + i) ≡ slice_index (10 ∷ []) i) (sym first)
            (subst (λ i. get_or (line ++ 10 ∷ rest) i 0 ≡ 10) (omega arith) (get_or-append_seam line 10 rest 0));
      },
    )

-- what is split off at the first LF is the line before it
pub first_line_is : (text : List ℕ) (result : Option (Bor (List ℕ) × Bor (List ℕ)))
    → SplitsOnce text (10 ∷ []) (first_of (matches text (10 ∷ []) 0)) result
    → MatchOption result (HasNoLineFeed text)
    (λ parts. HasNoLineFeed parts.0.now × (text ≡ parts.0.now ++ 10 ∷ parts.1.now))
first_line_is text None none = elim (ends text) [
  | Open free ↦ free
  | Line line rest free is ↦
      absurd (none-some (length line)
      (sym none ∙ ap (λ l. first_of (matches l (10 ∷ []) 0)) is
      ∙ sym (FindsNeedle-value (line ++ 10 ∷ rest) (10 ∷ []) (Some (length line)) (line_finds line rest free))))
]
first_line_is text (Some parts) (k, some, front_is, rest_is) = elim (ends text) [
  | Open free ↦ absurd (none-some k (FindsNeedle-value text (10 ∷ []) None (open_finds text free) ∙ some))
  | Line line rest free is ↦
      let found : Some (length line) ≡ Some k =
      FindsNeedle-value (line ++ 10 ∷ rest) (10 ∷ []) (Some (length line)) (line_finds line rest free)
      ∙ ap (λ l. first_of (matches l (10 ∷ []) 0)) (sym is) ∙ some in
      let place : length line ≡ k = cc in
      let front : parts.0.now ≡ line = front_is ∙ ap (take k) is ∙ take_at line (10 ∷ rest) k place in
      let back : parts.1.now ≡ rest = rest_is ∙ ap (drop (k + 1)) is ∙ drop_past line rest k place in (
        subst HasNoLineFeed (sym front) free,
        is ∙ ap (λ l. l ++ 10 ∷ rest) (sym front) ∙ ap (λ l. parts.0.now ++ 10 ∷ l) (sym back),
      )
]
  where
    drop_past : (line rest : List ℕ) (k : ℕ) → length line ≡ k → drop (k + 1) (line ++ 10 ∷ rest) ≡ rest
    drop_past line rest k place =
        ap (λ n. drop (n + 1) (line ++ 10 ∷ rest)) (sym place) ∙ drop-append-add line (10 ∷ rest) 1
