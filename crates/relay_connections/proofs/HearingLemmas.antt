-- How the numbers of those that have something to hear are gathered, slot by slot.
use Rattle.std.proofs.Common.{◌≡◌, ℕ, ◌+◌, ◌-◌, ◌%◌, ◌<◌, suc, Bool, true, false, List, [], ◌∷◌, ◌++◌, Option, None, Some, MatchOption, refl, if◌then◌else◌, sym, ap, ◌∙◌, arith, append_assoc}
use Rattle.std.specs.List.{filter}
use Rattle.relay_connections.specs.Hearing.{turned}

-- what is said of an answer that is none
pub is_none : {A : Type 0} {none : Type 0} (some : A → Type 0) (answer : Option A) → MatchOption answer none some → ((value : A) → answer ≡ Some value → ⊥) → none
is_none some None holds nothing = holds
is_none some (Some value) holds nothing = absurd (nothing value refl)

module _ (slots first step : ℕ) where
  -- the slots after the one that is looked at next
  abbrev after : List ℕ
  after = turned slots (first + (step + 1)) (slots - (step + 1))

  -- the slot that is looked at next, and those after it
  pub turned_next : step < slots → turned slots (first + step) (slots - step) ≡ (first + step) % slots ∷ after
  turned_next below = ap (turned slots (first + step)) left ∙ ap (λ number. (first + step) % slots ∷ turned slots number (slots - (step + 1))) next where
    left : slots - step ≡ suc (slots - (step + 1))
    left = omega (arith, below)

    next : first + step + 1 ≡ first + (step + 1)
    next = omega arith

  -- where it has something to hear, it stands after those that were found before
  pub found_next : (hears : ℕ → Bool) (found all : List ℕ) → step < slots → hears ((first + step) % slots) ≡ true → found ++ filter hears (turned slots (first + step) (slots - step)) ≡ all → (found ++ (first + step) % slots ∷ []) ++ filter hears after ≡ all
  found_next hears found all below does so_far =
      append_assoc found ((first + step) % slots ∷ []) (filter hears after) ∙ ap (λ numbers. found ++ numbers) (sym here) ∙ so_far
    where
      here : filter hears (turned slots (first + step) (slots - step)) ≡ (first + step) % slots ∷ filter hears after
      here = ap (filter hears) (turned_next below) ∙ ap (λ is. if is then (first + step) % slots ∷ filter hears after else filter hears after) does

  -- where it hasn't, it is passed over
  pub passed_next : (hears : ℕ → Bool) (found all : List ℕ) → step < slots → hears ((first + step) % slots) ≡ false → found ++ filter hears (turned slots (first + step) (slots - step)) ≡ all → found ++ filter hears after ≡ all
  passed_next hears found all below not_here so_far = ap (λ numbers. found ++ numbers) (sym here) ∙ so_far where
    here : filter hears (turned slots (first + step) (slots - step)) ≡ filter hears after
    here = ap (filter hears) (turned_next below) ∙ ap (λ is. if is then (first + step) % slots ∷ filter hears after else filter hears after) not_here
