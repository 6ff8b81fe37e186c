-- Sums of messages, one recipient after another, are those of the numbers of their messages.
use Rattle.std.proofs.Common.{◌≡◌, ℕ, ◌+◌, ◌≤◌, ◌<◌, ◌==◌, Bool, true, false, List, [], ◌∷◌, length, drop, get_or, fold, Option, None, Some, if◌then◌else◌, refl, sym, ap, ◌∙◌}
use Rattle.std.proofs.lemmas.Bool.{eq-eqb, eqb-true}
use Rattle.std.proofs.lemmas.List.{drop_more}
use Rattle.std.proofs.Math.ListN.{drop_of_length-le}
use Rattle.relay_book.specs.Queue.{Queue}
use Rattle.relay_listing.specs.Load.{counted as sum_with}
use Rattle.relay_queue.specs.Table.{is_last, number_before, numbers_of, size_at, summed, sums_with}
use Rattle.relay_queue.specs.declared.table.Sums.{Sums}

abbrev Key : Type 0
Key = ℕ × ℕ × ℕ

-- the numbers that are still to be counted, after the one that was counted last
abbrev pub left : Option ℕ → List ℕ → List ℕ
left last [] = []
left last (number ∷ numbers) = if is_last last number then numbers else number ∷ numbers

-- a number that was counted last doesn't count again
counted_before : (last : Option ℕ) (number : ℕ) (numbers : List ℕ) → last ≡ Some number → left last (number_before number numbers) ≡ left last numbers
counted_before last number numbers e = rw e (by_numbers numbers)
  where
    itself : number == number ≡ true
    itself = eq-eqb number number refl

    by_numbers : (numbers : List ℕ) → left (Some number) (number_before number numbers) ≡ left (Some number) numbers
    by_numbers [] = ap (λ b. if b then [] else number ∷ []) itself
    by_numbers (next ∷ numbers) = by_test (number == next) refl
      where
        by_test : (test : Bool) → number == next ≡ test → left (Some number) (number_before number (next ∷ numbers)) ≡ left (Some number) (next ∷ numbers)
        by_test true t = ap (λ b. left (Some number) (if b then next ∷ numbers else number ∷ next ∷ numbers)) t
        by_test false t = rw (t, itself) refl

-- any other one does
counts : (last : Option ℕ) (number : ℕ) (numbers : List ℕ) → is_last last number ≡ false → left last (number_before number numbers) ≡ number ∷ left (Some number) numbers
counts last number [] e = rw e refl
counts last number (next ∷ numbers) e = by_test (number == next) refl
  where
    by_test : (test : Bool) → number == next ≡ test → left last (number_before number (next ∷ numbers)) ≡ number ∷ left (Some number) (next ∷ numbers)
    by_test true t =
        let same : number ≡ next = eqb-true number next t in
        let other : is_last last next ≡ false = ap (is_last last) (sym same) ∙ e in
        rw (t, other) (ap (λ n. n ∷ numbers) (sym same))
    by_test false t = rw (t, e) refl

is_same : (last : Option ℕ) (number : ℕ) → is_last last number ≡ true → last ≡ Some number
is_same None number e = let no : ⊥ = cc in absurd no
is_same (Some last) number e = ap Some (eqb-true last number e)

abbrev pub sums_from : (ℕ → ℕ) → ℕ → List ℕ → ℕ
sums_from amount from numbers = fold (λ sum number. sum_with sum (amount number)) from numbers

-- the sums so far, with those of the keys that are left, are the sums of all
pub record AreSoFar (queue : Queue) (keys rest : List Key) (sums : Sums) : Type 0 where
  pub messages : sums_from (λ number. 1) sums.messages (left sums.last (numbers_of rest)) ≡ summed (λ number. 1) (numbers_of keys)
  pub octets : sums_from (size_at queue) sums.octets (left sums.last (numbers_of rest)) ≡ summed (size_at queue) (numbers_of keys)

from_none : (numbers : List ℕ) → left None numbers ≡ numbers
from_none [] = refl
from_none (number ∷ numbers) = refl

pub none_so_far : (queue : Queue) (keys : List Key) → AreSoFar queue keys keys (record { messages = 0; octets = 0; last = None })
none_so_far queue keys = record {
  messages = ap (summed (λ number. 1)) (from_none (numbers_of keys));
  octets = ap (summed (size_at queue)) (from_none (numbers_of keys));
}

one_key_more : (queue : Queue) (keys rest : List Key) (key : Key) (sums : Sums) → AreSoFar queue keys (key ∷ rest) sums → AreSoFar queue keys rest (sums_with queue sums key.1)
one_key_more queue keys rest key sums so_far = by_test (is_last sums.last key.1) refl
  where
    by_test : (test : Bool) → is_last sums.last key.1 ≡ test → AreSoFar queue keys rest (sums_with queue sums key.1)
    by_test true t =
        let same : left sums.last (number_before key.1 (numbers_of rest)) ≡ left sums.last (numbers_of rest) =
        counted_before sums.last key.1 (numbers_of rest) (is_same sums.last key.1 t) in
        rw t (record {
          messages = ap (sums_from (λ number. 1) sums.messages) (sym same) ∙ so_far.messages;
          octets = ap (sums_from (size_at queue) sums.octets) (sym same) ∙ so_far.octets;
        })
    by_test false t =
        let more : left sums.last (number_before key.1 (numbers_of rest)) ≡ key.1 ∷ left (Some key.1) (numbers_of rest) =
        counts sums.last key.1 (numbers_of rest) t in
        rw t (record {
          messages = ap (sums_from (λ number. 1) sums.messages) (sym more) ∙ so_far.messages;
          octets = ap (sums_from (size_at queue) sums.octets) (sym more) ∙ so_far.octets;
        })

pub more_so_far : (queue : Queue) (keys : List Key) (i : ℕ) (d : Key) (sums new : Sums) → i < length keys → AreSoFar queue keys (drop i keys) sums
    → new ≡ sums_with queue sums (get_or keys i d).1 → AreSoFar queue keys (drop (i + 1) keys) new
more_so_far queue keys i d sums new more so_far is =
    let rest : drop i keys ≡ get_or keys i d ∷ drop (i + 1) keys = drop_more keys i d more in
    rw is (one_key_more queue keys (drop (i + 1) keys) (get_or keys i d) sums (rw rest at so_far))

none_left : (last : Option ℕ) → left last [] ≡ []
none_left last = refl

pub all_so_far : (queue : Queue) (keys : List Key) (i : ℕ) (sums : Sums) → length keys ≤ i → AreSoFar queue keys (drop i keys) sums
    → (sums.messages ≡ summed (λ number. 1) (numbers_of keys)) × (sums.octets ≡ summed (size_at queue) (numbers_of keys))
all_so_far queue keys i sums all so_far =
    let rest : drop i keys ≡ [] = drop_of_length-le keys all in
    let here : AreSoFar queue keys [] sums = rw rest at so_far in
    (here.messages, here.octets)
