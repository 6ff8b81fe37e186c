-- Lines of the ledger, counted one by one.
use Rattle.std.proofs.Common.{◌≡◌, ◌<◌, ◌≤◌, ◌+◌, ℕ, zero, suc, List, [], ◌∷◌, length, drop, refl, sym, ap, ◌∙◌, arith}
use Rattle.std.specs.Prelude.{slice_index_or}
use Rattle.relay_world.specs.declared.attempt.Attempt.{Attempt}
use Rattle.relay_world.specs.World.{Host}
use Rattle.relay_hosts.specs.Room.{lines_held, lines_left, lines_of_attempt, lines_to_come}

one_more : (n : ℕ) → suc n ≡ n + 1
one_more n = omega arith

-- what stands at a place, and what is after it
drop_one : {A : Type 0} (xs : List A) (place : ℕ) (x : A) → place < length xs → x ≡ slice_index_or xs place x
    → drop place xs ≡ x ∷ drop (suc place) xs
drop_one [] place x within there = absurd (omega (arith, within))
drop_one (x ∷ xs) zero value within there = ap (λ v. v ∷ xs) (sym there)
drop_one (x ∷ xs) (suc place) value within there = drop_one xs place value (omega (arith, within)) there

drop_more : {A : Type 0} (xs : List A) (place : ℕ) (x : A) → place < length xs → x ≡ slice_index_or xs place x
    → drop place xs ≡ x ∷ drop (place + 1) xs
drop_more xs place x within there = drop_one xs place x within there ∙ ap (λ n. x ∷ drop n xs) (one_more place)

drop_all : {A : Type 0} (xs : List A) (place : ℕ) → length xs ≤ place → drop place xs ≡ []
drop_all [] zero beyond = refl
drop_all [] (suc place) beyond = refl
drop_all (x ∷ xs) zero beyond = absurd (omega (arith, beyond))
drop_all (x ∷ xs) (suc place) beyond = drop_all xs place (omega (arith, beyond))

pub lines_one_more : (attempts : List Attempt) (place : ℕ) (attempt : Attempt) → place < length attempts
    → attempt ≡ slice_index_or attempts place attempt
    → lines_to_come (drop place attempts) ≡ lines_of_attempt attempt + lines_to_come (drop (place + 1) attempts)
lines_one_more attempts place attempt within there = ap lines_to_come (drop_more attempts place attempt within there)

pub lines_none_more : (attempts : List Attempt) (place : ℕ) → length attempts ≤ place → lines_to_come (drop place attempts) ≡ 0
lines_none_more attempts place beyond = ap lines_to_come (drop_all attempts place beyond)

pub left_one_more : {D : Type 0} (hosts : List (Host D)) (node base : ℕ) (host : Host D) → node < length hosts
    → host ≡ slice_index_or hosts node host
    → lines_left base (drop node hosts) ≡ lines_held base host.state + lines_left (base + 1) (drop (node + 1) hosts)
left_one_more hosts node base host within there = ap (λ hs. lines_left base hs) (drop_more hosts node host within there)

pub left_none_more : {D : Type 0} (hosts : List (Host D)) (node base : ℕ) → length hosts ≤ node
    → lines_left base (drop node hosts) ≡ 0
left_none_more hosts node base beyond = ap (λ hs. lines_left base hs) (drop_all hosts node beyond)
