-- A message that has work is among those that have a due place, or a held one without a hop.
use Rattle.std.proofs.Common.{◌≡◌, ◌≢◌, ℕ, suc, Bool, true, false, cond, List, [], ◌∷◌, ◌++◌, map, Option, refl, sym, subst, ap, ◌∙◌, if◌then◌else◌, Contains}
use Rattle.std.specs.List.{flat_map, AllByRecursion, filter, filter_map}
use Rattle.std.specs.List.Sorted.{IsStrictlySortedBy}
use Rattle.std.specs.Ordering.{nat_cmp}
use Rattle.std.proofs.lemmas.List.Elements.{Contains-append_right}
use Rattle.relay_routes.specs.Routes.{RouteTable}
use Rattle.relay_book.specs.declared.message.Place.{Place}
use Rattle.relay_book.specs.declared.message.Message.{Message}
use Rattle.relay_book.specs.Queue.{Queue, due_of, is_due_at, marks_from, marks_of_entry}
use Rattle.relay_book.specs.Book.{Rise}
use Rattle.relay_attempts.specs.declared.runs.Run.{Run}
use Rattle.relay_attempts.specs.declared.work.Work.TheVariants.{NoRoute}
use Rattle.relay_attempts.specs.Gathering.{AreGathered, at_number}
use Rattle.relay_attempts.specs.Hops.{due_hops, hop_of_place, is_any, places_where, stranded_of, stranded_places}
use Rattle.relay_attempts.specs.Work.{message_works, tries, works_of}
use Rattle.relay_attempts.proofs.KeyLemmas.{head_in, keys_rise, tail_in}
use Rattle.relay_attempts.proofs.GatherLemmas.{IsNumbered, all_gathered}

abbrev pub first_of : ℕ × ℕ → ℕ
first_of mark = mark.0

pub map_append : {A B : Type 0} (f : A → B) (xs ys : List A) → map f (xs ++ ys) ≡ map f xs ++ map f ys
map_append f [] ys = refl
map_append {A} {B} f (x ∷ xs) ys = ap (λ (l : List B). f x ∷ l) (map_append f xs ys)

-- a message with a place that passes has a mark
pub marked : (test : Place → Bool) (number n : ℕ) (places : List Place) (rest : List (ℕ × ℕ)) → places_where (λ n place. test place) n places ≢ []
    → Contains (map first_of (marks_from test number n places ++ rest)) number
marked test number n [] rest some = absurd (some refl)
marked test number n (place ∷ places) rest some = by (marked test number (suc n) places rest) (test place) refl
  where
    by : (places_where (λ n place. test place) (suc n) places ≢ [] → Contains (map first_of (marks_from test number (suc n) places ++ rest)) number)
        → (b : Bool) → test place ≡ b → Contains (map first_of (((if b then (number, n) ∷ [] else []) ++ marks_from test number (suc n) places) ++ rest)) number
    by more true is = head_in number (map first_of (marks_from test number (suc n) places ++ rest))
    by more false is =
        more (λ none. some (ap (λ (b : Bool). (if b then n ∷ [] else []) ++ places_where (λ n place. test place) (suc n) places) is ∙ none))

module _ (table : RouteTable) (runs : List (Option Run)) (now : ℕ) (ns : List ℕ) where
  due : ℕ → Place → Bool
  due n place = is_due_at now place

  here : (entry : ℕ × Message) (entries : List (ℕ × Message))
      → ((n : ℕ) → Contains (map first_of (flat_map (marks_of_entry (is_due_at now)) (entry ∷ entries))) n → Contains ns n)
      → ((n : ℕ) → Contains (stranded_of table (entry ∷ entries)) n → Contains ns n)
      → message_works table runs now entry.0 entry.1 ≢ [] → Contains ns entry.0
  here entry entries marks stranded some = by (is_any (stranded_places table entry.1)) refl
    where
      by : (b : Bool) → is_any (stranded_places table entry.1) ≡ b → Contains ns entry.0
      by true is =
          stranded entry.0
          (subst (λ (b : Bool). Contains (map (λ (e : ℕ × Message). e.0) (cond b (entry ∷ filter (λ e. is_any (stranded_places table e.1)) entries) (filter (λ e. is_any (stranded_places table e.1)) entries))) entry.0)
          (sym is) (head_in entry.0 (stranded_of table entries)))
      by false is =
          marks entry.0
          (marked (is_due_at now) entry.0 0 entry.1.places (flat_map (marks_of_entry (is_due_at now)) entries)
          (λ none. some
          (ap (λ (b : Bool). (if b then NoRoute entry.0 ∷ [] else []) ++ tries runs entry.0 (due_hops table now entry.1.accept.envelope.recipients entry.1.places)) is
          ∙ ap (λ (l : List ℕ). tries runs entry.0 (filter_map (hop_of_place table entry.1.accept.envelope.recipients) l)) none)))

  numbered : (entries : List (ℕ × Message))
      → ((n : ℕ) → Contains (map first_of (flat_map (marks_of_entry (is_due_at now)) entries)) n → Contains ns n)
      → ((n : ℕ) → Contains (stranded_of table entries) n → Contains ns n)
      → AllByRecursion (IsNumbered (message_works table runs now) ns) entries
  numbered [] marks stranded = tt
  numbered (entry ∷ entries) marks stranded =
      (here entry entries marks stranded, numbered entries (λ n there. marks n (more_marks n there)) (λ n there. stranded n (more_stranded (is_any (stranded_places table entry.1)) n there)))
    where
      more_marks : (n : ℕ) → Contains (map first_of (flat_map (marks_of_entry (is_due_at now)) entries)) n
          → Contains (map first_of (flat_map (marks_of_entry (is_due_at now)) (entry ∷ entries))) n
      more_marks n there =
          subst (λ (l : List ℕ). Contains l n) (sym (map_append first_of (marks_of_entry (is_due_at now) entry) (flat_map (marks_of_entry (is_due_at now)) entries)))
          (Contains-append_right (map first_of (marks_of_entry (is_due_at now) entry)) (map first_of (flat_map (marks_of_entry (is_due_at now)) entries)) n there)

      more_stranded : (b : Bool) (n : ℕ) → Contains (stranded_of table entries) n
          → Contains (map (λ (e : ℕ × Message). e.0) (cond b (entry ∷ filter (λ e. is_any (stranded_places table e.1)) entries) (filter (λ e. is_any (stranded_places table e.1)) entries))) n
      more_stranded true n there = tail_in entry.0 n (stranded_of table entries) there
      more_stranded false n there = there

-- the works of the gathered numbers are those of the queue
pub all_works : (table : RouteTable) (runs : List (Option Run)) (now next : ℕ) (queue : Queue) (marks : List (ℕ × ℕ)) (stranded ns : List ℕ)
    → marks ≡ due_of now queue → stranded ≡ stranded_of table queue.messages → AreGathered marks stranded ns → IsStrictlySortedBy nat_cmp ns
    → Rise 0 next queue.messages → flat_map (at_number (message_works table runs now) queue.messages) ns ≡ works_of table runs now queue
all_works table runs now next queue marks stranded ns marks_are stranded_are gathered sorted rise =
    all_gathered (message_works table runs now) 0 next queue.messages ns (keys_rise ns sorted) rise
    (numbered table runs now ns queue.messages
    (λ n there. gathered.marked n (subst (λ (l : List (ℕ × ℕ)). Contains (map first_of l) n) (sym marks_are) there))
    (λ n there. gathered.listed n (subst (λ (l : List ℕ). Contains l n) (sym stranded_are) there)))
