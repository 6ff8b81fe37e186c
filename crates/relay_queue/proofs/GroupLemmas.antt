-- Places of one message in a row are a group.
use Rattle.std.proofs.Common.{◌≡◌, ℕ, suc, ◌+◌, ◌==◌, Bool, true, false, List, [], ◌∷◌, ◌++◌, map, take, drop, if◌then◌else◌, Some, slice_get, refl, sym, ap, ◌∙◌, append_assoc, arith}
use Rattle.std.specs.List.{prefix_len}
use Rattle.std.proofs.lemmas.Bool.{eq-eqb, eqb-true, false_from_ne_true}
use Rattle.std.proofs.lemmas.List.{map-append}
use Rattle.relay_queue.specs.Selection.{group_of, groups_of, joined}
use Rattle.relay_queue.specs.declared.groups.Selected.{Selected}

abbrev Mark : Type 0
Mark = ℕ × ℕ

abbrev is_of : ℕ → Mark → Bool
is_of number mark = mark.0 == number

one_more : (n : ℕ) → 1 + n ≡ suc n
one_more n = omega arith

not_same : {a b : ℕ} → a ≡ b → a == b ≡ false → ⊥
not_same {a} {b} same e = let is : a == b ≡ true = eq-eqb a b same in cc

eqb-sym-false : (a b : ℕ) → a == b ≡ false → b == a ≡ false
eqb-sym-false a b e = false_from_ne_true (b == a) (λ h. let same : b ≡ a = eqb-true b a h in not_same (sym same) e)

-- a place of another message begins a group of its own
apart : (mark next : Mark) (marks : List Mark) → mark.0 == next.0 ≡ false → joined mark (joined next (groups_of marks)) ≡ (mark.0, mark.1 ∷ []) ∷ joined next (groups_of marks)
apart mark next marks differ = by_groups (groups_of marks)
  where
    by_groups : (groups : List (ℕ × List ℕ)) → joined mark (joined next groups) ≡ (mark.0, mark.1 ∷ []) ∷ joined next groups
    by_groups [] = ap (λ b. if b then (next.0, mark.1 ∷ next.1 ∷ []) ∷ [] else (mark.0, mark.1 ∷ []) ∷ (next.0, next.1 ∷ []) ∷ []) differ
    by_groups (group ∷ groups) = by_test (next.0 == group.0) refl
      where
        by_test : (test : Bool) → next.0 == group.0 ≡ test → joined mark (joined next (group ∷ groups)) ≡ (mark.0, mark.1 ∷ []) ∷ joined next (group ∷ groups)
        by_test true e =
            let same : next.0 ≡ group.0 = eqb-true next.0 group.0 e in
            let other : mark.0 == group.0 ≡ false = ap (λ n. mark.0 == n) (sym same) ∙ differ in
            rw (e, other) refl
        by_test false e = rw (e, differ) refl

-- the first places, as far as they are of one message, are a group, which those after them follow
abbrev IsRun : ℕ → List Mark → ℕ → Type 0
IsRun number marks count =
    groups_of marks ≡ (number, map (λ mark. mark.1) (take count marks)) ∷ groups_of (drop count marks)

longer : (number : ℕ) (mark : Mark) (marks : List Mark) (count : ℕ) → is_of number mark ≡ true → IsRun number marks count → IsRun number (mark ∷ marks) (suc count)
longer number mark marks count is run =
    ap (joined mark) run
    ∙ ap (λ b. if b then (number, mark.1 ∷ map (λ mark. mark.1) (take count marks)) ∷ groups_of (drop count marks) else (mark.0, mark.1 ∷ []) ∷ (number, map (λ mark. mark.1) (take count marks)) ∷ groups_of (drop count marks)) is

alone : (number : ℕ) (mark : Mark) (marks : List Mark) → is_of number mark ≡ true → groups_of (mark ∷ marks) ≡ (mark.0, mark.1 ∷ []) ∷ groups_of marks → IsRun number (mark ∷ marks) 1
alone number mark marks is one = one ∙ ap (λ n. (n, mark.1 ∷ []) ∷ groups_of marks) (eqb-true mark.0 number is)

run_next : (number : ℕ) (mark next : Mark) (marks : List Mark) → is_of number mark ≡ true
    → (is_of number next ≡ true → IsRun number (next ∷ marks) (suc (prefix_len (is_of number) marks)))
    → IsRun number (mark ∷ next ∷ marks) (suc (prefix_len (is_of number) (next ∷ marks)))
run_next number mark next marks is others = by_test (is_of number next) refl
  where
    by_test : (test : Bool) → is_of number next ≡ test → IsRun number (mark ∷ next ∷ marks) (suc (prefix_len (is_of number) (next ∷ marks)))
    by_test true e =
        let count : prefix_len (is_of number) (next ∷ marks) ≡ suc (prefix_len (is_of number) marks) = rw e (one_more (prefix_len (is_of number) marks)) in
        rw count (longer number mark (next ∷ marks) (suc (prefix_len (is_of number) marks)) is (others e))
    by_test false e =
        let none : prefix_len (is_of number) (next ∷ marks) ≡ 0 = rw e refl in
        let same : mark.0 ≡ number = eqb-true mark.0 number is in
        let differ : mark.0 == next.0 ≡ false = eqb-sym-false next.0 mark.0 (ap (λ n. next.0 == n) same ∙ e) in
        rw none (alone number mark (next ∷ marks) is (apart mark next marks differ))

run_of : (number : ℕ) (mark : Mark) (marks : List Mark) → is_of number mark ≡ true → IsRun number (mark ∷ marks) (suc (prefix_len (is_of number) marks))
run_of number mark [] is = alone number mark [] is refl
run_of number mark (next ∷ marks) is = run_next number mark next marks is (λ e. run_of number next marks e)

-- the same by the number of the first place
pub first_group : (number : ℕ) (marks : List Mark) (mark : Mark) (rest : List Mark) → marks ≡ mark ∷ rest → mark.0 ≡ number → IsRun number marks (prefix_len (is_of number) marks)
first_group number marks mark rest e same =
    rw e (by_test (is_of number mark) refl)
  where
    by_test : (test : Bool) → is_of number mark ≡ test → IsRun number (mark ∷ rest) (prefix_len (is_of number) (mark ∷ rest))
    by_test true t =
        let count : prefix_len (is_of number) (mark ∷ rest) ≡ suc (prefix_len (is_of number) rest) = rw t (one_more (prefix_len (is_of number) rest)) in
        rw count (run_of number mark rest t)
    by_test false t = absurd (not_same same t)

-- the groups so far, and the next one
pub one_more_group : (number : ℕ) (rest : List Mark) (first : Mark) (old : List (ℕ × List ℕ)) (marks : List Mark) → slice_get rest 0 ≡ Some first → first.0 ≡ number
    → old ++ groups_of rest ≡ groups_of marks
    → (old ++ (number, map (λ mark. mark.1) (take (prefix_len (is_of number) rest) rest)) ∷ []) ++ groups_of (drop (prefix_len (is_of number) rest) rest) ≡ groups_of marks
one_more_group number [] first old marks found same so_far = let no : ⊥ = cc in absurd no
one_more_group number (mark ∷ rest) first old marks found same so_far =
    let is : mark ≡ first = cc in
    append_assoc old _ _
    ∙ ap (λ groups. old ++ groups) (sym (first_group number (mark ∷ rest) mark rest refl (ap (λ it. it.0) is ∙ same)))
    ∙ so_far

-- the same of the messages with these groups
pub one_more_selected : (number count : ℕ) (rest back : List Mark) (first : Mark) (old new : List Selected) (selected : Selected) (marks : List Mark)
    → map group_of old ++ groups_of rest ≡ groups_of marks → new ≡ old ++ selected ∷ [] → selected.message ≡ number
    → selected.places.items ≡ map (λ mark. mark.1) (take count rest) → back ≡ drop count rest → count ≡ prefix_len (λ mark. mark.0 == number) rest
    → slice_get rest 0 ≡ Some first → first.0 ≡ number → map group_of new ++ groups_of back ≡ groups_of marks
one_more_selected number count rest back first old new selected marks so_far new_is message places back_is count_is found same =
    let group : group_of selected ≡ (number, map (λ mark. mark.1) (take (prefix_len (is_of number) rest) rest)) =
    ap (λ n. (n, selected.places.items)) message ∙ ap (λ l. (number, l)) (places ∙ ap (λ n. map (λ mark. mark.1) (take n rest)) count_is) in
    let all : map group_of new ≡ map group_of old ++ (number, map (λ mark. mark.1) (take (prefix_len (is_of number) rest) rest)) ∷ [] =
    ap (map group_of) new_is ∙ map-append group_of old (selected ∷ []) ∙ ap (λ it. map group_of old ++ it ∷ []) group in
    ap (λ l. l ++ groups_of back) all
    ∙ ap (λ l. (map group_of old ++ (number, map (λ mark. mark.1) (take (prefix_len (is_of number) rest) rest)) ∷ []) ++ groups_of l) (back_is ∙ ap (λ n. drop n rest) count_is)
    ∙ one_more_group number rest first (map group_of old) marks found same so_far
