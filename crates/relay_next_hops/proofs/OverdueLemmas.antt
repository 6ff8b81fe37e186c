-- The last tasks of a lane, which weren't checked, and the first of them that passes a test.
use Rattle.std.proofs.Common.{◌≡◌, append_assoc, ℕ, zero, suc, ◌+◌, ◌-◌, ◌≤◌, cond, Bool, true, false, List, [], ◌∷◌, ◌++◌, length, length-append, take, drop, refl, sym, ap, ◌∙◌, arith, find, option_map, option_to_list, slice_get, Option, Some, None, IfSome}
use Rattle.std.proofs.lemmas.List.{take-append-drop}
use Rattle.std.specs.Option.{option_map_or}
use Rattle.relay_lanes.specs.declared.lane.Lane.{Lane}
use Rattle.relay_lanes.specs.declared.lane.Task.{Task}
use Rattle.relay_next_hops.specs.declared.lanes.Lanes.{Lanes}
use Rattle.relay_next_hops.specs.Lanes.{tasks_at}
use Rattle.relay_lanes.specs.Lane.{tasks_of}
use Rattle.relay_next_hops.specs.Overdue.{TakesOut, checked_at, unchecked_at}
use Rattle.relay_lanes.specs.Lane.{checked_of, unchecked_of}

no_message : (m : ℕ) → None ≡ Some m → ⊥
no_message m e = cc

same_message : (a b : ℕ) → Some a ≡ Some b → a ≡ b
same_message a b e = cc

module _ {A : Type 0} (message : A → ℕ) (test : ℕ → Bool) where
  -- A test that looks at messages alone fails at the first, so the others decide.
  find_after : (tasks : List A) (m n : ℕ) → option_map message (slice_get tasks zero) ≡ Some m → test m ≡ false
      → find (λ t. test (message t)) (take n (drop 1 tasks)) ≡ find (λ t. test (message t)) (take (suc n) tasks)
  find_after [] m n is fails = absurd (no_message m is)
  find_after (t ∷ ts) m n is fails =
      sym (ap (λ b. cond b (Some t) (find (λ t. test (message t)) (take n ts))) (ap test (same_message _ _ is) ∙ fails))

  pub find_passes : (tasks : List A) (m n k : ℕ) → option_map message (slice_get tasks zero) ≡ Some m → test m ≡ false
      → n ≡ suc k → find (λ t. test (message t)) (take k (drop 1 tasks)) ≡ find (λ t. test (message t)) (take n tasks)
  find_passes tasks m n k is fails more =
      find_after tasks m k is fails ∙ ap (λ n. find (λ t. test (message t)) (take n tasks)) (sym more)

  -- It passes at the first, which is the one that is found.
  find_here : (tasks : List A) (m n : ℕ) → option_map message (slice_get tasks zero) ≡ Some m → test m ≡ true
      → find (λ t. test (message t)) (take (suc n) tasks) ≡ slice_get tasks zero
  find_here [] m n is passes = absurd (no_message m is)
  find_here (t ∷ ts) m n is passes =
      ap (λ b. cond b (Some t) (find (λ t. test (message t)) (take n ts))) (ap test (same_message _ _ is) ∙ passes)

  pub find_stops : (tasks : List A) (m n k : ℕ) → option_map message (slice_get tasks zero) ≡ Some m → test m ≡ true
      → n ≡ suc k → find (λ t. test (message t)) (take n tasks) ≡ slice_get tasks zero
  find_stops tasks m n k is passes more =
      ap (λ n. find (λ t. test (message t)) (take n tasks)) more ∙ find_here tasks m k is passes

-- Without a first task there is none.
pub none_left : {A : Type 0} (message : A → ℕ) (tasks : List A) → option_map message (slice_get tasks zero) ≡ None
    → tasks ≡ []
none_left message [] is = refl
none_left message (t ∷ ts) is = absurd (no_message (message t) (sym is))

-- What was taken from the front is the first.
pub first_taken : {A : Type 0} (taken : Option A) (tasks rest : List A) → tasks ≡ option_to_list taken ++ rest
    → (taken ≡ None → tasks ≡ []) → taken ≡ slice_get tasks zero
first_taken None tasks rest split none = sym (ap (λ tasks. slice_get tasks zero) (none refl))
first_taken (Some task) tasks rest split none = sym (ap (λ tasks. slice_get tasks zero) split)

parts_of : (lane : Option Lane)
    → option_map_or tasks_of lane [] ≡ option_map_or checked_of lane [] ++ option_map_or unchecked_of lane []
parts_of None = refl
parts_of (Some lane) =
    ap (λ tasks. lane.early.items ++ tasks) (sym (take-append-drop (length lane.tasks.items - lane.unchecked) lane.tasks.items))
    ∙ sym (append_assoc lane.early.items (take (length lane.tasks.items - lane.unchecked) lane.tasks.items) (unchecked_of lane))

-- the tasks of a lane are those that were checked and those that weren't
pub tasks_parts : (lanes : Lanes) (number : ℕ)
    → tasks_at lanes number ≡ checked_at lanes number ++ unchecked_at lanes number
tasks_parts lanes number = parts_of (slice_get lanes.lanes.items number)

-- of no tasks none passes
pub find_none : {A : Type 0} (test : A → Bool) (n : ℕ) → find test (take n []) ≡ None
find_none test zero = refl
find_none test (suc n) = refl

-- Where one may be taken, there are no more than before.
pub takes_fewer : (taken : Option Task) (lane : ℕ) (old between new : Lanes) → tasks_at between lane ≡ tasks_at old lane
    → unchecked_at between lane ≡ option_to_list taken ++ unchecked_at new lane
    → checked_at new lane ≡ checked_at between lane → length (tasks_at new lane) ≤ length (tasks_at old lane)
takes_fewer taken lane old between new same split front =
    let after : length (tasks_at new lane) ≡ length (checked_at new lane) + length (unchecked_at new lane) = ap length (tasks_parts new lane) ∙ length-append (checked_at new lane) (unchecked_at new lane) in
    let before : length (tasks_at between lane) ≡ length (checked_at between lane) + length (unchecked_at between lane) = ap length (tasks_parts between lane) ∙ length-append (checked_at between lane) (unchecked_at between lane) in
    let parts : length (unchecked_at between lane) ≡ length (option_to_list taken) + length (unchecked_at new lane) = ap length split ∙ length-append (option_to_list taken) (unchecked_at new lane) in
    omega (arith, after, before, parts, ap length front, ap length same)

-- Where the first that wasn't checked is taken, the others stay in their order.
pub takes_out : (taken : Option Task) (lane : ℕ) (old between new : Lanes) → tasks_at between lane ≡ tasks_at old lane
    → unchecked_at between lane ≡ option_to_list taken ++ unchecked_at new lane
    → checked_at new lane ≡ checked_at between lane → IfSome taken (λ task. TakesOut lane task old new)
takes_out None lane old between new same split front = tt
takes_out (Some task) lane old between new same split front = record {
  before = checked_at new lane;
  rest = unchecked_at new lane;
  there = sym same ∙ tasks_parts between lane ∙ ap (λ tasks. tasks ++ unchecked_at between lane) (sym front)
      ∙ ap (λ tasks. checked_at new lane ++ tasks) split;
  gone = tasks_parts new lane;
}
