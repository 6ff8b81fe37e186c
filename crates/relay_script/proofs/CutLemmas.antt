-- What a search for a space tells: the word before it, and the rest after it.
use Rattle.std.proofs.Common.{◌≡◌, ◌+◌, ◌<◌, ℕ, true, List, [], ◌∷◌, ◌++◌, Option, Some, None, length, take, drop, get_or, slice_index, refl, sym, ap, subst, ◌∙◌, arith, inl, inr, MatchOption, not}
use Rattle.std.specs.Borrow.{Bor}
use Rattle.std.specs.List.{list_all}
use Rattle.std.proofs.lemmas.Bool.{false≢true, and_from}
use Rattle.std.proofs.lemmas.Bool.Decides.{eqb_tells}
use Rattle.std.proofs.lemmas.List.{get_or_append_left, length-append, take_at}
use Rattle.std.proofs.lemmas.List.Folds.{list_all_at}
use Rattle.std.proofs.lemmas.Option.{none-some}
use Rattle.std.proofs.Math.Seq.{drop-append-add, get_or-append_seam}
use Rattle.memchr.specs.Find.{FindsNeedle, OccursAt, first_of, matches}
use Rattle.memchr.proofs.lemmas.ValueLemmas.{FindsNeedle-value}
use Rattle.bstr.specs.Text.{SplitsOnce}
use Rattle.relay_script.specs.Reading.{CutsWord, HasNoSpace, is_no_space}

-- a text has no space, or a word before its first
data Cuts (text : List ℕ) : Type 0 where
  Whole : list_all is_no_space text ≡ true → Cuts text
  Cut : (word rest : List ℕ) → list_all is_no_space word ≡ true → text ≡ word ++ 32 ∷ rest → Cuts text

cuts : (text : List ℕ) → Cuts text
cuts [] = Whole refl
cuts (octet ∷ text) =
    elim (eqb_tells octet 32) [
      | inl space ↦ Cut [] text refl (ap (λ o. o ∷ text) space.1)
      | inr other ↦
          let first : is_no_space octet ≡ true = ap not other.0 in
          elim (cuts text) [
            | Whole free ↦ Whole (and_from (is_no_space octet) (list_all is_no_space text) first free)
            | Cut word rest free is ↦
                Cut (octet ∷ word) rest (and_from (is_no_space octet) (list_all is_no_space word) first free)
                (ap (λ l. octet ∷ l) is)
          ]
    ]

-- no space occurs in a text without one
no_space_at : (text : List ℕ) (k : ℕ) → list_all is_no_space text ≡ true → k < length text → get_or text k 0 ≡ 32 → ⊥
no_space_at text k free within space =
    false≢true (sym (list_all_at is_no_space text k 0 within (ap is_no_space space)) ∙ free)

reads_space : (text : List ℕ) (k : ℕ) → OccursAt text (32 ∷ []) k → get_or text k 0 ≡ 32
reads_space text k occurs = let read = occurs.reads 0 (omega arith) in
    let at : get_or text (k + 0) 0 ≡ 32 = read in subst (λ i. get_or text i 0 ≡ 32) (omega arith) at

whole_finds : (text : List ℕ) → list_all is_no_space text ≡ true → FindsNeedle text (32 ∷ []) 0 None
whole_finds text free k low high occurs =
    no_space_at text k free (let fits = occurs.fits in omega (arith, fits)) (reads_space text k occurs)

cut_finds : (word rest : List ℕ) → list_all is_no_space word ≡ true
    → FindsNeedle (word ++ 32 ∷ rest) (32 ∷ []) 0 (Some (length word))
cut_finds word rest free =
    let size = length-append word (32 ∷ rest) in (
      record {
        low = omega arith;
        high = omega (arith, size);
        before =
            λ k low high occurs. no_space_at word k free high
            (sym (get_or_append_left word (32 ∷ rest) 0 k high) ∙ reads_space (word ++ 32 ∷ rest) k occurs);
      },
      record {
        fits = omega (arith, size);
        reads =
            λ j small. let first : j ≡ 0 = omega (arith, small) in
            subst (λ i. slice_index (word ++ 32 ∷ rest) (length word + i) ≡ slice_index (32 ∷ []) i) (sym first)
            (subst (λ i. get_or (word ++ 32 ∷ rest) i 0 ≡ 32) (omega arith) (get_or-append_seam word 32 rest 0));
      },
    )

-- what is split off at the first space is the word before it
pub cut_is : (text : List ℕ) (result : Option (Bor (List ℕ) × Bor (List ℕ)))
    → SplitsOnce text (32 ∷ []) (first_of (matches text (32 ∷ []) 0)) result
    → MatchOption result (HasNoSpace text) (λ parts. CutsWord text parts.0.now parts.1.now)
cut_is text None none =
    elim (cuts text) [
      | Whole free ↦ record { free = free }
      | Cut word rest free is ↦
          absurd (none-some (length word)
          (sym none ∙ ap (λ l. first_of (matches l (32 ∷ []) 0)) is
          ∙ sym (FindsNeedle-value (word ++ 32 ∷ rest) (32 ∷ []) (Some (length word)) (cut_finds word rest free))))
    ]
cut_is text (Some parts) (k, some, word_is, rest_is) =
    elim (cuts text) [
      | Whole free ↦
          absurd (none-some k (FindsNeedle-value text (32 ∷ []) None (whole_finds text free) ∙ some))
      | Cut word rest free is ↦
          let found : Some (length word) ≡ Some k =
          FindsNeedle-value (word ++ 32 ∷ rest) (32 ∷ []) (Some (length word)) (cut_finds word rest free)
          ∙ ap (λ l. first_of (matches l (32 ∷ []) 0)) (sym is) ∙ some in
          let place : length word ≡ k = cc in
          let front : parts.0.now ≡ word =
          word_is ∙ ap (take k) is ∙ take_at word (32 ∷ rest) k place in
          let back : parts.1.now ≡ rest =
          rest_is ∙ ap (drop (k + 1)) is ∙ drop_past word rest k place in
          record {
            free = ap (list_all is_no_space) front ∙ free;
            text_is = is ∙ ap (λ l. l ++ 32 ∷ rest) (sym front) ∙ ap (λ l. parts.0.now ++ 32 ∷ l) (sym back);
          }
    ]
  where
    drop_past : (word rest : List ℕ) (k : ℕ) → length word ≡ k → drop (k + 1) (word ++ 32 ∷ rest) ≡ rest
    drop_past word rest k place =
        ap (λ n. drop (n + 1) (word ++ 32 ∷ rest)) (sym place) ∙ drop-append-add word (32 ∷ rest) 1
