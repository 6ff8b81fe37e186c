-- A circle of slots: from one number on, each number comes in some step.
use Rattle.std.proofs.Common.{◌≡◌, ℕ, ◌+◌, ◌-◌, ◌*◌, ◌/◌, ◌%◌, ◌<◌, ◌≤◌, ◌⊎◌, ◌^◌, min, inl, inr, sym, ap, ◌∙◌, arith}
use Rattle.std.proofs.Math.Nat.{add-mod_left, min-eq_left, mod-add-div', mod-lt}
use Rattle.std.proofs.lemmas.Bool.{cases_lt}
use Rattle.std.proofs.lemmas.Nat.{mod-mul-add}

-- a step from a number leads to another one, in a circle of so many slots
pub record Leads (count first number : ℕ) : Type 0 where
  pub step : ℕ
  pub within : step < count
  pub there : (first + step) % count ≡ number

-- each number is led to
pub leads_to : (count first number : ℕ) → number < count → Leads count first number
leads_to count first number below = by (cases_lt number (first % count)) where
  rounds : ℕ
  rounds = first / count * count

  whole : first % count + rounds ≡ first
  whole = mod-add-div' first count

  small : first % count < count
  small = mod-lt first (omega (arith, below))

  on : (start left whole_rounds slots at : ℕ) → left + whole_rounds ≡ start → left ≤ at → start + (at - left) ≡ whole_rounds + at
  on start left whole_rounds slots at is past = omega (arith, is, past)

  around : (start left whole_rounds slots at : ℕ) → left + whole_rounds ≡ start → left < slots → start + (at + slots - left) ≡ slots + (whole_rounds + at)
  around start left whole_rounds slots at is low = omega (arith, is, low)

  near : (left slots at : ℕ) → at < slots → at - left < slots
  near left slots at low = omega (arith, low)

  far : (left slots at : ℕ) → at < left → left < slots → at + slots - left < slots
  far left slots at low high = omega (arith, low, high)

  by : (number < first % count) ⊎ (first % count ≤ number) → Leads count first number
  by (inr past) = record {
    step = number - first % count;
    within = near (first % count) count number below;
    there = ap (λ at. at % count) (on first (first % count) rounds count number whole past) ∙ mod-mul-add (first / count) count number below;
  }
  by (inl low) = record {
    step = number + count - first % count;
    within = far (first % count) count number low small;
    there = ap (λ at. at % count) (around first (first % count) rounds count number whole small) ∙ add-mod_left count (rounds + number) ∙ mod-mul-add (first / count) count number below;
  }

-- the number that is so many steps from another one, in a circle of at most 64 slots
pub turned_is : (first step count number : ℕ) → first < 64 → step < count → count ≤ 64 → number ≡ min (first + step) (2 ^ 64 - 1) % count → (first + step) % count ≡ number
turned_is first step count number low below few is = sym (is ∙ ap (λ n. n % count) (min-eq_left small)) where
  small : first + step ≤ 2 ^ 64 - 1
  small = omega (arith, low, below, few)
