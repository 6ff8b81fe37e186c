-- What the messages of rising numbers have is what all messages have, where no other message has any.
use Rattle.std.proofs.Common.{◌≡◌, ◌≢◌, ◌⊎◌, inl, inr, ℕ, suc, ◌<◌, ◌==◌, List, [], ◌∷◌, ◌++◌, length, None, Some, refl, sym, subst, ap, ◌∙◌, arith, append_assoc, Contains}
use Rattle.std.specs.List.{flat_map, AllByRecursion}
use Rattle.std.proofs.lemmas.Bool.{cond-true, cond-false, cases_order, eq-eqb, ne_eqb}
use Rattle.relay_book.specs.declared.message.Message.{Message}
use Rattle.relay_book.specs.Queue.{message_of}
use Rattle.relay_book.specs.Book.{Rise}
use Rattle.relay_attempts.specs.Gathering.{at_number, of_message}
use Rattle.relay_attempts.proofs.KeyLemmas.{Up, in_cons, in_none, not_below}

-- a message of a smaller number isn't there
pub none_before : (least next : ℕ) (entries : List (ℕ × Message)) (number : ℕ) → Rise least next entries → number < least → message_of entries number ≡ None
none_before least next [] number rise below = refl
none_before least next (entry ∷ entries) number rise below =
    cond-false (entry.0 == number) (Some entry.1) (message_of entries number) (ne_eqb entry.0 number (λ same. omega (arith, same, below, rise.0)))
    ∙ none_before (suc entry.0) next entries number rise.1 (omega (arith, below, rise.0))

cons_is_some : {X : Type 0} (x : X) (xs : List X) → x ∷ xs ≢ []
cons_is_some x xs e = let one : length (x ∷ xs) ≡ 0 = ap length e in omega (arith, one)

module _ {X : Type 0} (f : ℕ → Message → List X) where
  abbrev pub of_entry : ℕ × Message → List X
  of_entry entry = f entry.0 entry.1

  here : (entry : ℕ × Message) (entries : List (ℕ × Message)) (n : ℕ) → entry.0 ≡ n → at_number f (entry ∷ entries) n ≡ of_entry entry
  here entry entries n same =
      ap (of_message f n) (cond-true (entry.0 == n) (Some entry.1) (message_of entries n) (eq-eqb entry.0 n same))
      ∙ ap (λ k. f k entry.1) (sym same)

  past : (entry : ℕ × Message) (entries : List (ℕ × Message)) (n : ℕ) → (entry.0 ≡ n → ⊥) → at_number f (entry ∷ entries) n ≡ at_number f entries n
  past entry entries n off = ap (of_message f n) (cond-false (entry.0 == n) (Some entry.1) (message_of entries n) (ne_eqb entry.0 n off))

  -- a number below all entries has nothing
  none_at : (number least next : ℕ) (entries : List (ℕ × Message)) → number < least → Rise least next entries → at_number f entries number ≡ []
  none_at number least next entries below rise = ap (of_message f number) (none_before least next entries number rise below)

  -- an entry below all numbers may be left out
  skip_entry : (entry : ℕ × Message) (entries : List (ℕ × Message)) (least : ℕ) (ns : List ℕ) → entry.0 < least → Up least ns
      → flat_map (at_number f (entry ∷ entries)) ns ≡ flat_map (at_number f entries) ns
  skip_entry entry entries least [] below up = refl
  skip_entry entry entries least (n ∷ ns) below up =
      let first = past entry entries n (λ same. omega (arith, same, below, up.0)) in
      let rest = skip_entry entry entries (suc n) ns (omega (arith, below, up.0)) up.1 in
      λ i. first i ++ rest i

  -- an entry that has something is among the numbers
  abbrev pub IsNumbered : List ℕ → ℕ × Message → Type 0
  IsNumbered ns entry = of_entry entry ≢ [] → Contains ns entry.0

  -- entries above a number don't need it
  later : (n : ℕ) (ns : List ℕ) (least next : ℕ) (entries : List (ℕ × Message)) → n < least → Rise least next entries
      → AllByRecursion (IsNumbered (n ∷ ns)) entries → AllByRecursion (IsNumbered ns) entries
  later n ns least next [] below rise told = tt
  later n ns least next (entry ∷ entries) below rise told =
      ((λ some. by (in_cons n entry.0 ns (told.0 some))), later n ns (suc entry.0) next entries (omega (arith, below, rise.0)) rise.1 told.1)
    where
      by : (n ≡ entry.0) ⊎ Contains ns entry.0 → Contains ns entry.0
      by (inl same) = absurd (omega (arith, same, below, rise.0))
      by (inr more) = more

  -- an entry that isn't among the numbers has nothing
  none_of : (ns : List ℕ) (entry : ℕ × Message) → IsNumbered ns entry → (Contains ns entry.0 → ⊥) → [] ≡ of_entry entry
  none_of ns entry told out = by (of_entry entry) refl
    where
      by : (xs : List X) → of_entry entry ≡ xs → [] ≡ of_entry entry
      by [] e = sym e
      by (x ∷ xs) e = absurd (out (told (λ none. cons_is_some x xs (sym e ∙ none))))

  nothing_left : (entries : List (ℕ × Message)) → AllByRecursion (IsNumbered []) entries → [] ≡ flat_map of_entry entries
  nothing_left [] told = refl
  nothing_left (entry ∷ entries) told =
      let first = none_of [] entry told.0 (in_none entry.0) in
      let rest = nothing_left entries told.1 in
      λ i. first i ++ rest i

  nothing : (ns : List ℕ) → flat_map (at_number f []) ns ≡ []
  nothing [] = refl
  nothing (n ∷ ns) = nothing ns

  -- what rising numbers gather is all there is, where they have each number that has something
  pub all_gathered : (least next : ℕ) (entries : List (ℕ × Message)) (ns : List ℕ) → Up least ns → Rise least next entries
      → AllByRecursion (IsNumbered ns) entries → flat_map (at_number f entries) ns ≡ flat_map of_entry entries
  all_gathered least next [] [] up rise told = refl
  all_gathered least next [] (n ∷ ns) up rise told = nothing (n ∷ ns)
  all_gathered least next (entry ∷ entries) [] up rise told = nothing_left (entry ∷ entries) told
  all_gathered least next (entry ∷ entries) (n ∷ ns) up rise told =
      by
      (λ below. all_gathered (suc n) next (entry ∷ entries) ns up.1 (below, rise.1) (later n ns (suc n) next (entry ∷ entries) (omega arith) (below, rise.1) told))
      (λ again. all_gathered (suc n) next entries ns up.1 again (later n ns (suc n) next entries (omega arith) again told.1))
      (λ above. all_gathered (suc entry.0) next entries (n ∷ ns) (above, up.1) rise.1 told.1)
      (cases_order n entry.0)
    where
      by : (n < entry.0 → flat_map (at_number f (entry ∷ entries)) ns ≡ flat_map of_entry (entry ∷ entries))
          → (Rise (suc n) next entries → flat_map (at_number f entries) ns ≡ flat_map of_entry entries)
          → (entry.0 < n → flat_map (at_number f entries) (n ∷ ns) ≡ flat_map of_entry entries)
          → (n ≡ entry.0) ⊎ ((n < entry.0) ⊎ (entry.0 < n))
          → flat_map (at_number f (entry ∷ entries)) (n ∷ ns) ≡ flat_map of_entry (entry ∷ entries)
      by below same above (inl e) =
          let first = here entry entries n (sym e) in
          let rest = skip_entry entry entries (suc n) ns (omega (arith, e)) up.1 in
          let more = same (subst (λ m. Rise (suc m) next entries) (sym e) rise.1) in
          λ i. first i ++ (rest ∙ more) i
      by below same above (inr (inl h)) =
          let again : Rise (suc n) next (entry ∷ entries) = (h, rise.1) in
          ap (λ (l : List X). l ++ flat_map (at_number f (entry ∷ entries)) ns) (none_at n (suc n) next (entry ∷ entries) (omega arith) again)
          ∙ below h
      by below same above (inr (inr h)) =
          let none = none_of (n ∷ ns) entry told.0 (not_below entry.0 (suc entry.0) (n ∷ ns) (h, up.1) (omega arith)) in
          skip_entry entry entries (suc entry.0) (n ∷ ns) (omega arith) (h, up.1) ∙ above h
          ∙ ap (λ (l : List X). l ++ flat_map of_entry entries) none

  -- what is so far, and what is to come
  pub works_next : (entries : List (ℕ × Message)) (n : ℕ) (before after : List ℕ) (old new all : List X) → before ≡ n ∷ after
      → old ++ flat_map (at_number f entries) before ≡ all → new ≡ old ++ at_number f entries n → new ++ flat_map (at_number f entries) after ≡ all
  works_next entries n before after old new all is so_far new_is =
      ap (λ (l : List X). l ++ flat_map (at_number f entries) after) new_is
      ∙ append_assoc old (at_number f entries n) (flat_map (at_number f entries) after)
      ∙ ap (λ (l : List ℕ). old ++ flat_map (at_number f entries) l) (sym is)
      ∙ so_far
