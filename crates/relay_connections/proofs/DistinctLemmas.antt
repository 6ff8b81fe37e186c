-- The numbers of the clients that have something to hear are all different.
use Rattle.std.proofs.Common.{◌≡◌, ◌≢◌, ◌⊎◌, inl, inr, ℕ, zero, suc, ◌+◌, ◌*◌, ◌/◌, ◌%◌, ◌<◌, ◌≤◌, Bool, true, false, List, [], ◌∷◌, Option, Box, length, subst, arith}
use Rattle.std.specs.List.{filter}
use Rattle.std.specs.Prelude.{if◌then◌else◌}
use Rattle.std.specs.Global.{Global}
use Rattle.std.proofs.lemmas.Bool.{cases_lt}
use Rattle.std.proofs.lemmas.Nat.{div-add-mod', mul-le}
use Rattle.relay_connections.specs.Hearing.{hearing_from, hears_at, turned}
use Rattle.relay_connections.specs.declared.client.Client.{Client}

-- the number is none of these
abbrev pub IsNoneOf : ℕ → List ℕ → Type 0
IsNoneOf number [] = Unit {0}
IsNoneOf number (other ∷ others) = (number ≢ other) × IsNoneOf number others

-- all are different
abbrev pub AreDistinct : List ℕ → Type 0
AreDistinct [] = Unit {0}
AreDistinct (number ∷ others) = IsNoneOf number others × AreDistinct others

-- a number and one that comes less than a round after it
differs : (number step slots : ℕ) → 0 < step → step < slots → number % slots ≢ (number + step) % slots
differs number step slots some less same = by (cases_lt (number / slots) ((number + step) / slots)) where
  one : number / slots * slots + number % slots ≡ number
  one = div-add-mod' number slots

  other : (number + step) / slots * slots + (number + step) % slots ≡ number + step
  other = div-add-mod' (number + step) slots

  by : (number / slots < (number + step) / slots) ⊎ ((number + step) / slots ≤ number / slots) → ⊥
  by (inl below) =
      let more : (number / slots + 1) * slots ≤ (number + step) / slots * slots = mul-le (number / slots + 1) slots ((number + step) / slots) slots (omega (arith, below)) (omega arith) in
      let is : (number / slots + 1) * slots ≡ number / slots * slots + slots = grind arith in
      absurd (omega (arith, more, is, one, other, same, less))
  by (inr above) =
      let less : (number + step) / slots * slots ≤ number / slots * slots = mul-le ((number + step) / slots) slots (number / slots) slots above (omega arith) in
      absurd (omega (arith, less, one, other, same, some))

none_of_turned : (slots number step count : ℕ) → 0 < step → step + count ≤ slots → IsNoneOf (number % slots) (turned slots (number + step) count)
none_of_turned slots number step zero some within = tt
none_of_turned slots number step (suc count) some within = (
  differs number step slots some (omega (arith, within)),
  subst (λ (next : ℕ). IsNoneOf (number % slots) (turned slots next count)) (next number step) (none_of_turned slots number (step + 1) count (omega arith) (omega (arith, within))),
)
  where
    next : (number step : ℕ) → number + (step + 1) ≡ number + step + 1
    next number step = omega arith

turned_distinct : (slots number count : ℕ) → count ≤ slots → AreDistinct (turned slots number count)
turned_distinct slots number zero within = tt
turned_distinct slots number (suc count) within =
    (none_of_turned slots number 1 count (omega arith) (omega (arith, within)), turned_distinct slots (number + 1) count (omega (arith, within)))

none_of_some : (test : ℕ → Bool) (number : ℕ) (others : List ℕ) → IsNoneOf number others → IsNoneOf number (filter test others)
none_of_some test number [] none = tt
none_of_some test number (other ∷ others) (apart, none) = by (test other) (none_of_some test number others none) where
  by : (is : Bool) → IsNoneOf number (filter test others) → IsNoneOf number (if is then other ∷ filter test others else filter test others)
  by true rest = (apart, rest)
  by false rest = rest

some_distinct : (test : ℕ → Bool) (numbers : List ℕ) → AreDistinct numbers → AreDistinct (filter test numbers)
some_distinct test [] distinct = tt
some_distinct test (number ∷ numbers) (none, distinct) = by (test number) (none_of_some test number numbers none) (some_distinct test numbers distinct) where
  by : (is : Bool) → IsNoneOf number (filter test numbers) → AreDistinct (filter test numbers) → AreDistinct (if is then number ∷ filter test numbers else filter test numbers)
  by true none rest = (none, rest)
  by false none rest = rest

pub are_distinct : {S : Type 0} (clients : List (Option (Box (Client S) Global))) (first : ℕ) → AreDistinct (hearing_from clients first)
are_distinct clients first = some_distinct (hears_at clients) (turned (length clients) first (length clients)) (turned_distinct (length clients) first (length clients) (omega arith))
