-- The due places of the messages that the keys tell of are all that are due.
use Rattle.std.proofs.Common.{◌≡◌, ◌≢◌, ◌⊎◌, inl, inr, ℕ, suc, ◌+◌, ◌<◌, ◌≤◌, ◌==◌, nat_le, Bool, true, false, cond, not, Bor, map, List, [], ◌∷◌, ◌++◌, length, filter, refl, sym, subst, ap, ◌∙◌, arith, if◌then◌else◌, append_assoc, Contains, nat_cmp, nat_lt, Some}
use Rattle.std.specs.List.{flat_map, AllByRecursion}
use Rattle.std.specs.BTreeMap.Range.{range_contains}
use Rattle.std.specs.BTreeSet.{insert_key}
use Rattle.std.proofs.lemmas.Map.Lookups.{exact_unsigned}
use Rattle.std.specs.declared.ops.Bound.TheVariants.{Unbounded, Excluded}
use Rattle.std.specs.Ordering.{is_le, ordering_then}
use Rattle.std.specs.declared.cmp.Ordering.{Ordering}
use Rattle.std.specs.declared.cmp.Ordering.TheVariants.{Less}
use Rattle.std.specs.List.Sorted.{IsStrictlySortedBy}
use Rattle.std.proofs.lemmas.List.Elements.{Contains-push_cases}
use Rattle.std.proofs.lemmas.Map.Keys.{below_from_sorted}
use Rattle.std.proofs.lemmas.Bool.{cond-true, cond-false, cases_order, eq-eqb, ne_eqb, and_parts, leb-true, ltb-true, false_from_ne_true, false≢true}
use Rattle.relay_book.specs.declared.message.Place.{Place}
use Rattle.relay_book.specs.declared.message.Message.{Message}
use Rattle.relay_book.specs.Queue.{is_due_at, marks_from, marks_of_entry, message_of}
use Rattle.relay_book.specs.Book.{AllTold, AreTold, HasNumbers, Rise, marks_at, marks_of_slot}
use Rattle.relay_book.proofs.EntryLemmas.{none_before}
use Rattle.relay_book.proofs.PlaceLemmas.{in_none, in_cons, head_in, tail_in}
use Rattle.relay_book.proofs.ToldLemmas.{insert_has, insert_keeps}

-- numbers that rise
abbrev Up : ℕ → List ℕ → Type 0
Up least [] = Unit {0}
Up least (n ∷ ns) = (least ≤ n) × Up (suc n) ns

-- a smaller number is not among them
not_below : (m least : ℕ) (ns : List ℕ) → Up least ns → m < least → Contains ns m → ⊥
not_below m least [] up below there = in_none m there
not_below m least (n ∷ ns) up below there = by (not_below m (suc n) ns up.1 (omega (arith, below, up.0))) (in_cons n m ns there)
  where
    by : (Contains ns m → ⊥) → (n ≡ m) ⊎ Contains ns m → ⊥
    by rest (inl same) = omega (arith, same, below, up.0)
    by rest (inr more) = rest more

-- the marks of the first entry, and of the others
here : (test : Place → Bool) (entry : ℕ × Message) (entries : List (ℕ × Message)) (n : ℕ) → entry.0 ≡ n → marks_at test (entry ∷ entries) n ≡ marks_of_entry test entry
here test entry entries n same =
    ap (marks_of_slot test n) (cond-true (entry.0 == n) (Some entry.1) (message_of entries n) (eq-eqb entry.0 n same))
    ∙ ap (λ k. marks_from test k 0 entry.1.places) (sym same)

past : (test : Place → Bool) (entry : ℕ × Message) (entries : List (ℕ × Message)) (n : ℕ) → (entry.0 ≡ n → ⊥) → marks_at test (entry ∷ entries) n ≡ marks_at test entries n
past test entry entries n off = ap (marks_of_slot test n) (cond-false (entry.0 == n) (Some entry.1) (message_of entries n) (ne_eqb entry.0 n off))

-- a number below all entries has no marks
none_at : (test : Place → Bool) (number least next : ℕ) (entries : List (ℕ × Message)) → number < least → Rise least next entries → marks_at test entries number ≡ []
none_at test number least next entries below rise = ap (marks_of_slot test number) (none_before least next entries number rise below)

-- an entry below all numbers may be left out
skip_entry : (test : Place → Bool) (entry : ℕ × Message) (entries : List (ℕ × Message)) (least : ℕ) (ns : List ℕ) → entry.0 < least → Up least ns
    → flat_map (marks_at test (entry ∷ entries)) ns ≡ flat_map (marks_at test entries) ns
skip_entry test entry entries least [] below up = refl
skip_entry test entry entries least (n ∷ ns) below up =
    let first = past test entry entries n (λ same. omega (arith, same, below, up.0)) in
    let rest = skip_entry test entry entries (suc n) ns (omega (arith, below, up.0)) up.1 in
    λ i. first i ++ rest i

-- an entry with a mark is among the numbers
abbrev IsNumbered : (Place → Bool) → List ℕ → ℕ × Message → Type 0
IsNumbered test ns entry = marks_of_entry test entry ≢ [] → Contains ns entry.0

-- entries above a number don't need it
later : (test : Place → Bool) (n : ℕ) (ns : List ℕ) (least next : ℕ) (entries : List (ℕ × Message)) → n < least → Rise least next entries
    → AllByRecursion (IsNumbered test (n ∷ ns)) entries → AllByRecursion (IsNumbered test ns) entries
later test n ns least next [] below rise told = tt
later test n ns least next (entry ∷ entries) below rise told =
    ((λ some. by (in_cons n entry.0 ns (told.0 some))), later test n ns (suc entry.0) next entries (omega (arith, below, rise.0)) rise.1 told.1)
  where
    by : (n ≡ entry.0) ⊎ Contains ns entry.0 → Contains ns entry.0
    by (inl same) = absurd (omega (arith, same, below, rise.0))
    by (inr more) = more

cons_is_some : (mark : ℕ × ℕ) (marks : List (ℕ × ℕ)) → mark ∷ marks ≢ []
cons_is_some mark marks e = let one : length (mark ∷ marks) ≡ 0 = ap length e in omega (arith, one)

-- an entry that isn't among the numbers has no mark
none_of : (test : Place → Bool) (ns : List ℕ) (entry : ℕ × Message) → IsNumbered test ns entry → (Contains ns entry.0 → ⊥) → [] ≡ marks_of_entry test entry
none_of test ns entry told out = by (marks_of_entry test entry) refl
  where
    by : (marks : List (ℕ × ℕ)) → marks_of_entry test entry ≡ marks → [] ≡ marks_of_entry test entry
    by [] e = sym e
    by (mark ∷ marks) e = absurd (out (told (λ none. cons_is_some mark marks (sym e ∙ none))))

nothing_left : (test : Place → Bool) (entries : List (ℕ × Message)) → AllByRecursion (IsNumbered test []) entries → [] ≡ flat_map (marks_of_entry test) entries
nothing_left test [] told = refl
nothing_left test (entry ∷ entries) told =
    let first = none_of test [] entry told.0 (in_none entry.0) in
    let rest = nothing_left test entries told.1 in
    λ i. first i ++ rest i

-- what rising numbers gather is all there is, where they have each number with a mark
gathered : (test : Place → Bool) (least next : ℕ) (entries : List (ℕ × Message)) (ns : List ℕ) → Up least ns → Rise least next entries
    → AllByRecursion (IsNumbered test ns) entries → flat_map (marks_at test entries) ns ≡ flat_map (marks_of_entry test) entries
gathered test least next [] [] up rise told = refl
gathered test least next [] (n ∷ ns) up rise told = nothing (n ∷ ns)
  where
    nothing : (ns : List ℕ) → flat_map (marks_at test []) ns ≡ []
    nothing [] = refl
    nothing (n ∷ ns) = nothing ns
gathered test least next (entry ∷ entries) [] up rise told = nothing_left test (entry ∷ entries) told
gathered test least next (entry ∷ entries) (n ∷ ns) up rise told =
    by
    (λ below. gathered test (suc n) next (entry ∷ entries) ns up.1 (below, rise.1) (later test n ns (suc n) next (entry ∷ entries) (omega arith) (below, rise.1) told))
    (λ again. gathered test (suc n) next entries ns up.1 again (later test n ns (suc n) next entries (omega arith) again told.1))
    (λ above. gathered test (suc entry.0) next entries (n ∷ ns) (above, up.1) rise.1 told.1)
    (cases_order n entry.0)
  where
    by : (n < entry.0 → flat_map (marks_at test (entry ∷ entries)) ns ≡ flat_map (marks_of_entry test) (entry ∷ entries))
        → (Rise (suc n) next entries → flat_map (marks_at test entries) ns ≡ flat_map (marks_of_entry test) entries)
        → (entry.0 < n → flat_map (marks_at test entries) (n ∷ ns) ≡ flat_map (marks_of_entry test) entries)
        → (n ≡ entry.0) ⊎ ((n < entry.0) ⊎ (entry.0 < n))
        → flat_map (marks_at test (entry ∷ entries)) (n ∷ ns) ≡ flat_map (marks_of_entry test) (entry ∷ entries)
    by below same above (inl e) =
        let first = here test entry entries n (sym e) in
        let rest = skip_entry test entry entries (suc n) ns (omega (arith, e)) up.1 in
        let more = same (subst (λ m. Rise (suc m) next entries) (sym e) rise.1) in
        λ i. first i ++ (rest ∙ more) i
    by below same above (inr (inl h)) =
        let again : Rise (suc n) next (entry ∷ entries) = (h, rise.1) in
        ap (λ (l : List (ℕ × ℕ)). l ++ flat_map (marks_at test (entry ∷ entries)) ns) (none_at test n (suc n) next (entry ∷ entries) (omega arith) again)
        ∙ below h
    by below same above (inr (inr h)) =
        let none = none_of test (n ∷ ns) entry told.0 (not_below entry.0 (suc entry.0) (n ∷ ns) (h, up.1) (omega arith)) in
        skip_entry test entry entries (suc entry.0) (n ∷ ns) (omega arith) (h, up.1) ∙ above h
        ∙ ap (λ (l : List (ℕ × ℕ)). l ++ flat_map (marks_of_entry test) entries) none

-- each message with a due place is told of
numbered_from : (keys : List (ℕ × ℕ)) (ns : List ℕ) (latest number n : ℕ) (places : List Place) → HasNumbers keys latest ns
    → AreTold keys number places → marks_from (is_due_at latest) number n places ≢ [] → Contains ns number
numbered_from keys ns latest number n [] has told some = absurd (some refl)
numbered_from keys ns latest number n (place ∷ places) has told some = by (numbered_from keys ns latest number (suc n) places has told.1) (is_due_at latest place) refl
  where
    by : (marks_from (is_due_at latest) number (suc n) places ≢ [] → Contains ns number) → (due : Bool) → is_due_at latest place ≡ due → Contains ns number
    by rest true e =
        let parts = and_parts place.held (nat_le place.due latest) e in
        has (place.due, number) (leb-true place.due latest parts.1) (told.0 parts.0)
    by rest false e =
        rest (λ none. some (ap (λ (b : Bool). (if b then (number, n) ∷ [] else []) ++ marks_from (is_due_at latest) number (suc n) places) e ∙ none))

numbered : (keys : List (ℕ × ℕ)) (ns : List ℕ) (latest : ℕ) (entries : List (ℕ × Message)) → HasNumbers keys latest ns → AllTold keys entries
    → AllByRecursion (IsNumbered (is_due_at latest) ns) entries
numbered keys ns latest [] has told = tt
numbered keys ns latest (entry ∷ entries) has told =
    ((λ some. numbered_from keys ns latest entry.0 0 entry.1.places has told.0 some), numbered keys ns latest entries has told.1)

-- the numbers of a set rise
less_than : (n m : ℕ) → nat_cmp n m ≡ Less → suc n ≤ m
unfolding IsStrictlySortedBy
less_than n m e = below_from_sorted (n ∷ m ∷ []) 0 1 0 ((e, tt), (tt, tt)) (omega arith) (omega arith)

above : (n : ℕ) (ns : List ℕ) → AllByRecursion (λ m. nat_cmp n m ≡ Less) ns → AllByRecursion (λ m. suc n ≤ m) ns
above n [] less = tt
above n (m ∷ ns) less = (less_than n m less.0, above n ns less.1)

rises : (ns : List ℕ) (least : ℕ) → IsStrictlySortedBy nat_cmp ns → AllByRecursion (λ m. least ≤ m) ns → Up least ns
unfolding IsStrictlySortedBy
rises [] least sorted all = tt
rises (n ∷ ns) least sorted all = (all.0, rises ns (suc n) sorted.1 (above n ns sorted.0))

all_from_0 : (ns : List ℕ) → AllByRecursion (λ m. 0 ≤ m) ns
all_from_0 [] = tt
all_from_0 (n ∷ ns) = (omega arith, all_from_0 ns)

pub due_gathered : (keys : List (ℕ × ℕ)) (ns : List ℕ) (latest next : ℕ) (entries : List (ℕ × Message)) → IsStrictlySortedBy nat_cmp ns → HasNumbers keys latest ns
    → Rise 0 next entries → AllTold keys entries → flat_map (marks_at (is_due_at latest) entries) ns ≡ flat_map (marks_of_entry (is_due_at latest)) entries
due_gathered keys ns latest next entries sorted has rise told =
    gathered (is_due_at latest) 0 next entries ns (rises ns 0 sorted (all_from_0 ns)) rise (numbered keys ns latest entries has told)

-- the keys before a moment
abbrev pub pair_cmp : ℕ × ℕ → ℕ × ℕ → Ordering
pair_cmp a b = ordering_then (nat_cmp a.0 b.0) (nat_cmp a.1 b.1)

in_filter : {A : Type 0} (test : A → Bool) (xs : List A) (x : A) → test x ≡ true → Contains xs x → Contains (filter test xs) x
in_filter test [] x passes there = there
in_filter {A} test (y ∷ xs) x passes there = by (test y) refl (in_filter test xs x passes) (in_cons y x xs there)
  where
    by : (b : Bool) → test y ≡ b → (Contains xs x → Contains (filter test xs) x) → (y ≡ x) ⊎ Contains xs x → Contains (cond b (y ∷ filter test xs) (filter test xs)) x
    by true e more (inl same) = subst (λ (z : A). Contains (y ∷ filter test xs) z) same (head_in y (filter test xs))
    by true e more (inr rest) = tail_in y x (filter test xs) (more rest)
    by false e more (inl same) = absurd (false≢true (sym e ∙ ap test same ∙ passes))
    by false e more (inr rest) = more rest

past_a_pair : (latest other : ℕ) (key : ℕ × ℕ) → key.0 ≤ latest → range_contains pair_cmp Unbounded (Excluded (latest + 1, other)) key ≡ true
past_a_pair latest other key below =
    let on = false_from_ne_true (nat_lt (latest + 1) key.0) (λ less. (let h = ltb-true (latest + 1) key.0 less in omega (arith, below, h))) in
    let off = ne_eqb (latest + 1) key.0 (λ same. omega (arith, same, below)) in
    ap (λ (o : Ordering). not (is_le (ordering_then o (nat_cmp other key.1)))) (cond-false (nat_lt (latest + 1) key.0) _ _ on ∙ cond-false ((latest + 1) == key.0) _ _ off)

-- a key up to a moment is before the first key after it
pub before_next : (keys : List (ℕ × ℕ)) (latest other : ℕ) (key : ℕ × ℕ) → key.0 ≤ latest → Contains keys key
    → Contains (filter (range_contains pair_cmp Unbounded (Excluded (latest + 1, other))) keys) key
before_next keys latest other key below there =
    in_filter (range_contains pair_cmp Unbounded (Excluded (latest + 1, other))) keys key (past_a_pair latest other key below) there

seen_more : {A : Type 0} (xs : List (Bor A)) (x : Bor A) → map (λ seen. seen.now) (xs ++ x ∷ []) ≡ map (λ seen. seen.now) xs ++ x.now ∷ []
seen_more [] x = refl
seen_more {A} (y ∷ xs) x = ap (λ (l : List A). y.now ∷ l) (seen_more xs x)

-- the numbers of the keys so far, and one key more
pub one_more_there : (yielded : List (Bor (ℕ × ℕ))) (next : Bor (ℕ × ℕ)) (old new : List ℕ) → new ≡ insert_key nat_cmp old next.now.1
    → ((key : ℕ × ℕ) → Contains {X = ℕ × ℕ} (map (λ seen. seen.now) yielded) key → Contains old key.1)
    → (key : ℕ × ℕ) → Contains {X = ℕ × ℕ} (map (λ seen. seen.now) (yielded ++ next ∷ [])) key → Contains new key.1
one_more_there yielded next old new is there key h =
    subst (λ (l : List ℕ). Contains l key.1) (sym is)
    (by (Contains-push_cases (map (λ seen. seen.now) yielded) next.now key (subst (λ (l : List (ℕ × ℕ)). Contains l key) (seen_more yielded next) h)))
  where
    by : Contains {X = ℕ × ℕ} (map (λ seen. seen.now) yielded) key ⊎ (next.now ≡ key) → Contains (insert_key nat_cmp old next.now.1) key.1
    by (inl before) = insert_keeps nat_cmp old next.now.1 key.1 (there key before)
    by (inr same) = subst (λ (k : ℕ × ℕ). Contains (insert_key nat_cmp old next.now.1) k.1) same (insert_has nat_cmp exact_unsigned old next.now.1)

-- the marks so far, and those to come
pub marks_next : (test : Place → Bool) (entries : List (ℕ × Message)) (n : ℕ) (before after : List ℕ) (old new all : List (ℕ × ℕ))
    → before ≡ n ∷ after → old ++ flat_map (marks_at test entries) before ≡ all → new ≡ old ++ marks_at test entries n
    → new ++ flat_map (marks_at test entries) after ≡ all
marks_next test entries n before after old new all is so_far new_is =
    ap (λ (l : List (ℕ × ℕ)). l ++ flat_map (marks_at test entries) after) new_is
    ∙ append_assoc old (marks_at test entries n) (flat_map (marks_at test entries) after)
    ∙ ap (λ (l : List ℕ). old ++ flat_map (marks_at test entries) l) (sym is)
    ∙ so_far
