-- There is work from the first moment on at which a place is due that is to be tried.
use Rattle.std.proofs.Common.{◌≡◌, ◌≢◌, ◌⊎◌, inl, inr, MatchOption, ℕ, suc, ◌<◌, ◌≤◌, nat_le, max, Bool, true, false, cond, not, ◌==◌, ◌&&◌, ◌||◌, List, [], ◌∷◌, ◌++◌, length, map, filter, Option, None, Some, bytes_eq, refl, sym, subst, ap, ◌∙◌, arith, if◌then◌else◌, Contains}
use Rattle.std.specs.List.{AllByRecursion, cons_option, filter_map, flat_map}
use Rattle.std.specs.Option.{option_map_or}
use Rattle.std.proofs.lemmas.Bool.{and_from, and_parts, eq-eqb, eqb-true, false≢true, le-leb, leb-true, not-true}
use Rattle.std.proofs.Math.Nat.{le-max_left, le-max_right, max-le}
use Rattle.std.proofs.lemmas.Slice.Eq.{bytes_eq-Decides}
use Rattle.std.proofs.lemmas.List.Elements.{Contains-append_cases, Contains-append_left, Contains-append_right}
use Rattle.relay_trace.specs.DateTime.{last_second}
use Rattle.relay_envelope.specs.declared.envelope.Recipient.{Recipient}
use Rattle.relay_routes.specs.Routes.{RouteTable}
use Rattle.relay_book.specs.declared.message.Place.{Place}
use Rattle.relay_book.specs.declared.message.Message.{Message}
use Rattle.relay_book.specs.Moments.{IsLeastOf, moments_from, moments_of}
use Rattle.relay_book.specs.Queue.{Queue, is_due_at}
use Rattle.relay_attempts.specs.declared.runs.Run.{Run}
use Rattle.relay_attempts.specs.declared.work.Work.TheVariants.{NoRoute, Try}
use Rattle.relay_attempts.specs.Hops.{due_hops, each_once, hop_of_place, is_any, places_where, stranded_of, stranded_places}
use Rattle.relay_attempts.specs.Next.{IsNextDue, is_untried}
use Rattle.relay_attempts.specs.Runs.{is_running}
use Rattle.relay_attempts.specs.Work.{message_works, no_route, tries, works_of}
use Rattle.relay_attempts.proofs.KeyLemmas.{head_in, in_cons, in_none}
use Rattle.relay_attempts.proofs.WorkLemmas.{free_is_tried, is_among}

cons_some : {A : Type 0} (x : A) (xs : List A) → x ∷ xs ≢ []
cons_some x xs e = false≢true (sym (ap is_any e))

append_left : {A : Type 0} (xs ys : List A) → xs ≢ [] → xs ++ ys ≢ []
append_left [] ys some none = some refl
append_left (x ∷ xs) ys some none = cons_some x (xs ++ ys) none

append_right : {A : Type 0} (xs ys : List A) → ys ≢ [] → xs ++ ys ≢ []
append_right [] ys some none = some none
append_right (x ∷ xs) ys some none = cons_some x (xs ++ ys) none

append_none : {A : Type 0} (xs ys : List A) → xs ≡ [] → ys ≡ [] → xs ++ ys ≡ []
append_none {A} xs ys none also = ap (λ (l : List A). l ++ ys) none ∙ also

same_names : (name : List ℕ) → bytes_eq name name ≡ true
same_names name = (bytes_eq-Decides name name).1 refl

-- what passes no test passes none in a part
none_in_part : {A : Type 0} (test keep : A → Bool) (xs : List A) → filter test xs ≡ [] → filter test (filter keep xs) ≡ []
none_in_part test keep [] none = refl
none_in_part {A} test keep (x ∷ xs) none = by (test x) (keep x) refl (none_in_part test keep xs)
  where
    by : (passes keeps : Bool) → test x ≡ passes → (filter test xs ≡ [] → filter test (filter keep xs) ≡ []) → filter test (cond keeps (x ∷ filter keep xs) (filter keep xs)) ≡ []
    by true keeps e rest = absurd (cons_some x (filter test xs) (sym (ap (λ (b : Bool). cond b (x ∷ filter test xs) (filter test xs)) e) ∙ none))
    by false true e rest =
        ap (λ (b : Bool). cond b (x ∷ filter test (filter keep xs)) (filter test (filter keep xs))) e
        ∙ rest (sym (ap (λ (b : Bool). cond b (x ∷ filter test xs) (filter test xs)) e) ∙ none)
    by false false e rest = rest (sym (ap (λ (b : Bool). cond b (x ∷ filter test xs) (filter test xs)) e) ∙ none)

module _ (table : RouteTable) (runs : List (Option Run)) where
  -- an attempt is running for each of these hops
  abbrev AllRun : ℕ → List (List ℕ) → Type 0
  AllRun number hops = AllByRecursion (λ hop. is_running runs number hop ≡ true) hops

  none_free : (number : ℕ) (hops : List (List ℕ)) → AllRun number hops → filter (λ hop. not (is_running runs number hop)) (each_once hops) ≡ []
  none_free number [] all = refl
  none_free number (hop ∷ hops) all =
      let others : List (List ℕ) = filter (λ other. not (bytes_eq hop other)) (each_once hops) in
      let free : List ℕ → Bool = λ hop. not (is_running runs number hop) in
      ap (λ (b : Bool). cond (not b) (hop ∷ filter free others) (filter free others)) all.0
      ∙ none_in_part free (λ other. not (bytes_eq hop other)) (each_once hops) (none_free number hops all.1)

  no_tries : (number : ℕ) (hops : List (List ℕ)) → AllRun number hops → tries runs number hops ≡ []
  no_tries number hops all = ap (map (Try number)) (none_free number hops all)

  -- a hop that no attempt is running for is among these
  record HasFree (number : ℕ) (hops : List (List ℕ)) : Type 0 where
    hop : List ℕ
    free : is_running runs number hop ≡ false
    among : is_among hop hops ≡ true

  free_after : (number : ℕ) (first hops : List (List ℕ)) → HasFree number hops → HasFree number (first ++ hops)
  free_after number first hops has = record { hop = has.hop; free = has.free; among = after first }
    where
      after : (first : List (List ℕ)) → is_among has.hop (first ++ hops) ≡ true
      after [] = has.among
      after (other ∷ first) = or_true (bytes_eq other has.hop) (after first)
        where
          or_true : (b : Bool) {c : Bool} → c ≡ true → (b || c) ≡ true
          or_true true e = refl
          or_true false e = e

  module _ (number : ℕ) (message : Message) (now : ℕ) where
    abbrev recipients : List Recipient
    recipients = message.accept.envelope.recipients

    abbrev untried : ℕ → Bool
    untried = is_untried table runs number message

    abbrev due : ℕ → Place → Bool
    due n place = is_due_at now place

    abbrev hops_from : ℕ → List Place → List (List ℕ)
    hops_from n places = filter_map (hop_of_place table recipients) (places_where due n places)

    abbrev row : Place → Bool → List ℕ
    row place b = if b then place.due ∷ [] else []

    -- where no place is due that is to be tried, attempts are running for the hops of all that are due
    all_run : (n : ℕ) (places : List Place) → ((m : ℕ) → Contains (moments_from untried n places) m → m ≤ now → ⊥) → AllRun number (hops_from n places)
    all_run n [] none = tt
    all_run n (place ∷ places) none =
        by (all_run (suc n) places (λ m there. none m (Contains-append_right (row place (place.held && untried n)) (moments_from untried (suc n) places) m there)))
        (is_due_at now place) refl
      where
        rest : List (List ℕ)
        rest = hops_from (suc n) places

        not_untried : is_due_at now place ≡ true → untried n ≡ true → ⊥
        not_untried is to_try =
            let parts = and_parts place.held (nat_le place.due now) is in
            none place.due
            (subst (λ (b : Bool). Contains (row place b ++ moments_from untried (suc n) places) place.due) (sym (and_from place.held (untried n) parts.0 to_try))
            (head_in place.due (moments_from untried (suc n) places)))
            (leb-true place.due now parts.1)

        one : AllRun number rest → is_due_at now place ≡ true → (hop : Option (List ℕ)) → hop_of_place table recipients n ≡ hop → AllRun number (cons_option hop rest)
        one all is None e = all
        one all is (Some name) e = (runs_for (is_running runs number name) refl, all)
          where
            runs_for : (b : Bool) → is_running runs number name ≡ b → is_running runs number name ≡ true
            runs_for true runs_too = runs_too
            runs_for false free =
                absurd (not_untried is (ap (λ (o : Option (List ℕ)). option_map_or (λ hop. not (is_running runs number hop)) o false) e ∙ ap not free))

        by : AllRun number rest → (b : Bool) → is_due_at now place ≡ b → AllRun number (filter_map (hop_of_place table recipients) ((if b then n ∷ [] else []) ++ places_where due (suc n) places))
        by all true is = one all is (hop_of_place table recipients n) refl
        by all false is = all

    -- a place that is to be tried has a hop that no attempt is running for
    has_hop : (n : ℕ) → untried n ≡ true → (name : List ℕ) × (hop_of_place table recipients n ≡ Some name) × (is_running runs number name ≡ false)
    has_hop n to_try = by (hop_of_place table recipients n) refl
      where
        of : Option (List ℕ) → Bool
        of o = option_map_or (λ hop. not (is_running runs number hop)) o false

        by : (hop : Option (List ℕ)) → hop_of_place table recipients n ≡ hop → (name : List ℕ) × (hop_of_place table recipients n ≡ Some name) × (is_running runs number name ≡ false)
        by None e = absurd (false≢true (sym (ap of e) ∙ to_try))
        by (Some name) e = (name, e, not-true (is_running runs number name) (sym (ap of e) ∙ to_try))

    -- where a place is due that is to be tried, the hops of those that are due have one that no attempt is running for
    has_free : (n : ℕ) (places : List Place) (m : ℕ) → Contains (moments_from untried n places) m → m ≤ now → HasFree number (hops_from n places)
    has_free n [] m there within = absurd (in_none m there)
    has_free n (place ∷ places) m there within =
        by (has_free (suc n) places m) (Contains-append_cases (row place (place.held && untried n)) (moments_from untried (suc n) places) m there)
      where
        rest : List (List ℕ)
        rest = hops_from (suc n) places

        here : (b : Bool) → is_due_at now place ≡ b → HasFree number rest → HasFree number (filter_map (hop_of_place table recipients) ((if b then n ∷ [] else []) ++ places_where due (suc n) places))
        here false e has = has
        here true e has = after (hop_of_place table recipients n)
          where
            after : (hop : Option (List ℕ)) → HasFree number (cons_option hop rest)
            after None = has
            after (Some name) = free_after number (name ∷ []) rest has

        due_now : place.held ≡ true → place.due ≤ now → is_due_at now place ≡ true
        due_now held low = and_from place.held (nat_le place.due now) held (le-leb place.due now low)

        first : untried n ≡ true → is_due_at now place ≡ true → HasFree number (hops_from n (place ∷ places))
        first to_try is =
            let has = has_hop n to_try in
            subst (λ (b : Bool). HasFree number (filter_map (hop_of_place table recipients) ((if b then n ∷ [] else []) ++ places_where due (suc n) places))) (sym is)
            (subst (λ (o : Option (List ℕ)). HasFree number (cons_option o rest)) (sym has.1)
            (record { hop = has.0; free = has.2; among = ap (λ (b : Bool). b || is_among has.0 rest) (same_names has.0) }))

        one : (b : Bool) → (place.held && untried n) ≡ b → Contains (row place b) m → HasFree number (hops_from n (place ∷ places))
        one false e there = absurd (in_none m there)
        one true e there = of (in_cons place.due m [] there)
          where
            of : (place.due ≡ m) ⊎ Contains [] m → HasFree number (hops_from n (place ∷ places))
            of (inr none) = absurd (in_none m none)
            of (inl same) = let parts = and_parts place.held (untried n) e in first parts.1 (due_now parts.0 (omega (arith, same, within)))

        by : (Contains (moments_from untried (suc n) places) m → m ≤ now → HasFree number rest)
            → Contains (row place (place.held && untried n)) m ⊎ Contains (moments_from untried (suc n) places) m → HasFree number (hops_from n (place ∷ places))
        by more (inl there) = one (place.held && untried n) refl there
        by more (inr there) = here (is_due_at now place) refl (more there within)

  -- a message with a held place that has no hop has work
  stranded_works : (entry : ℕ × Message) (now : ℕ) → is_any (stranded_places table entry.1) ≡ true → message_works table runs now entry.0 entry.1 ≢ []
  stranded_works entry now is =
      append_left (no_route table entry.0 entry.1) _
      (subst (λ (b : Bool). (if b then NoRoute entry.0 ∷ [] else []) ≢ []) (sym is) (cons_some (NoRoute entry.0) []))

  -- there is work where a held place has no hop
  pub works_of_stranded : (now : ℕ) (queue : Queue) → stranded_of table queue.messages ≢ [] → works_of table runs now queue ≢ []
  works_of_stranded now queue some = works queue.messages some
    where
      works : (entries : List (ℕ × Message)) → stranded_of table entries ≢ [] → flat_map (λ entry. message_works table runs now entry.0 entry.1) entries ≢ []
      works [] some = absurd (some refl)
      works (entry ∷ entries) some = by (works entries) (is_any (stranded_places table entry.1)) refl
        where
          by : (stranded_of table entries ≢ [] → flat_map (λ entry. message_works table runs now entry.0 entry.1) entries ≢ [])
              → (b : Bool) → is_any (stranded_places table entry.1) ≡ b
              → flat_map (λ entry. message_works table runs now entry.0 entry.1) (entry ∷ entries) ≢ []
          by more true is = append_left (message_works table runs now entry.0 entry.1) _ (stranded_works entry now is)
          by more false is =
              append_right (message_works table runs now entry.0 entry.1) _
              (more (λ none. some (ap (λ (b : Bool). map (λ (e : ℕ × Message). e.0) (cond b (entry ∷ filter (λ e. is_any (stranded_places table e.1)) entries) (filter (λ e. is_any (stranded_places table e.1)) entries))) is ∙ none)))

  abbrev moments : List (ℕ × Message) → List ℕ
  moments entries = moments_of (is_untried table runs) entries

  -- there is work where a place is due that is to be tried
  pub works_at : (now m : ℕ) (queue : Queue) → Contains (moments queue.messages) m → m ≤ now → works_of table runs now queue ≢ []
  works_at now m queue there within = works queue.messages there
    where
      works : (entries : List (ℕ × Message)) → Contains (moments entries) m → flat_map (λ entry. message_works table runs now entry.0 entry.1) entries ≢ []
      works [] there = absurd (in_none m there)
      works (entry ∷ entries) there = by (works entries) (Contains-append_cases (moments_from (is_untried table runs entry.0 entry.1) 0 entry.1.places) (moments entries) m there)
        where
          by : (Contains (moments entries) m → flat_map (λ entry. message_works table runs now entry.0 entry.1) entries ≢ [])
              → Contains (moments_from (is_untried table runs entry.0 entry.1) 0 entry.1.places) m ⊎ Contains (moments entries) m
              → flat_map (λ entry. message_works table runs now entry.0 entry.1) (entry ∷ entries) ≢ []
          by more (inl here) =
              let has = has_free entry.0 entry.1 now 0 entry.1.places m here within in
              append_left (message_works table runs now entry.0 entry.1) _
              (append_right (no_route table entry.0 entry.1) _
              (free_is_tried runs entry.0 (due_hops table now entry.1.accept.envelope.recipients entry.1.places) has.hop has.free has.among))
          by more (inr rest) = append_right (message_works table runs now entry.0 entry.1) _ (more rest)

  -- there is none where each held place has a hop and none is due that is to be tried
  pub no_works : (now : ℕ) (queue : Queue) → stranded_of table queue.messages ≡ [] → ((m : ℕ) → Contains (moments queue.messages) m → m ≤ now → ⊥) → works_of table runs now queue ≡ []
  no_works now queue none idle = works queue.messages none idle
    where
      works : (entries : List (ℕ × Message)) → stranded_of table entries ≡ [] → ((m : ℕ) → Contains (moments entries) m → m ≤ now → ⊥)
          → flat_map (λ entry. message_works table runs now entry.0 entry.1) entries ≡ []
      works [] none idle = refl
      works (entry ∷ entries) none idle = by (works entries) (is_any (stranded_places table entry.1)) refl
        where
          kept : Bool → List (ℕ × Message)
          kept b = cond b (entry ∷ filter (λ e. is_any (stranded_places table e.1)) entries) (filter (λ e. is_any (stranded_places table e.1)) entries)

          as_kept : (b : Bool) → is_any (stranded_places table entry.1) ≡ b → map (λ (e : ℕ × Message). e.0) (kept b) ≡ []
          as_kept b is = sym (ap (λ (b : Bool). map (λ (e : ℕ × Message). e.0) (kept b)) is) ∙ none

          by : (stranded_of table entries ≡ [] → ((m : ℕ) → Contains (moments entries) m → m ≤ now → ⊥) → flat_map (λ entry. message_works table runs now entry.0 entry.1) entries ≡ [])
              → (b : Bool) → is_any (stranded_places table entry.1) ≡ b
              → flat_map (λ entry. message_works table runs now entry.0 entry.1) (entry ∷ entries) ≡ []
          by more true is = absurd (cons_some entry.0 (stranded_of table entries) (as_kept true is))
          by more false is =
              let first : List ℕ = moments_from (is_untried table runs entry.0 entry.1) 0 entry.1.places in
              append_none (message_works table runs now entry.0 entry.1) _
              (append_none (no_route table entry.0 entry.1) _
              (ap (λ (b : Bool). if b then NoRoute entry.0 ∷ [] else []) is)
              (no_tries entry.0 (due_hops table now entry.1.accept.envelope.recipients entry.1.places)
              (all_run entry.0 entry.1 now 0 entry.1.places (λ m there. idle m (Contains-append_left first (moments entries) m there)))))
              (more (as_kept false is) (λ m there. idle m (Contains-append_right first (moments entries) m there)))

  -- now, where a held place has no hop
  pub next_stranded : (queue : Queue) (stranded : List ℕ) (now : ℕ) → stranded ≢ [] → stranded ≡ stranded_of table queue.messages → IsNextDue table runs queue now (Some now)
  next_stranded queue stranded now some known = record {
    later = omega arith;
    works = works_of_stranded now queue (λ none. some (known ∙ none));
    idle = λ sooner from below. absurd (omega (arith, from, below));
  }

  -- at the first moment at which a place is due, or now where that has passed
  pub next_due : (queue : Queue) (now due moment : ℕ) → stranded_of table queue.messages ≡ [] → IsLeastOf (moments queue.messages) (Some due) → moment ≡ max now due
      → IsNextDue table runs queue now (Some moment)
  next_due queue now due moment none least is = record {
    later = subst (λ n. now ≤ n) (sym is) (le-max_left now due);
    works = works_at moment due queue least.0 (subst (λ n. due ≤ n) (sym is) (le-max_right now due));
    idle = λ sooner from below. no_works sooner queue none (λ m there within.
        let first = least.1 m there in
        let low : max now due ≤ sooner = max-le from (omega (arith, first, within)) in
        omega (arith, below, is, low));
  }

  -- never, where it is past the greatest moment
  pub next_past : (queue : Queue) (now due : ℕ) → stranded_of table queue.messages ≡ [] → IsLeastOf (moments queue.messages) (Some due) → last_second < due
      → IsNextDue table runs queue now None
  next_past queue now due none least past = λ moment within. no_works moment queue none (λ m there low.
      let first = least.1 m there in
      omega (arith, past, first, within, low))

  -- never, where no place is to be tried
  pub next_never : (queue : Queue) (now : ℕ) → stranded_of table queue.messages ≡ [] → IsLeastOf (moments queue.messages) None → IsNextDue table runs queue now None
  next_never queue now none empty = λ moment within. no_works moment queue none (λ m there low. in_none m (subst (λ (l : List ℕ). Contains l m) empty there))

  -- at or after a first moment, as far as there are moments
  pub next_after : (queue : Queue) (now due : ℕ) (result : Option ℕ) → stranded_of table queue.messages ≡ [] → IsLeastOf (moments queue.messages) (Some due)
      → MatchOption result (last_second < due) (λ moment. (due ≤ last_second) × (moment ≡ max now due)) → IsNextDue table runs queue now result
  next_after queue now due None none least past = next_past queue now due none least past
  next_after queue now due (Some moment) none least is = next_due queue now due moment none least is.1

-- a row that its length says is empty is, and another isn't
pub is_empty_row : (numbers : List ℕ) (len : ℕ) (test : Bool) → len ≡ length numbers → test ≡ (len == 0) → test ≡ true → numbers ≡ []
is_empty_row [] len test length_is asked yes_is = refl
is_empty_row (n ∷ numbers) len test length_is asked yes_is = let none = eqb-true len 0 (sym asked ∙ yes_is) in absurd (omega (arith, length_is, none))

pub is_some_row : (numbers : List ℕ) (len : ℕ) (test : Bool) → len ≡ length numbers → test ≡ (len == 0) → test ≡ false → numbers ≢ []
is_some_row numbers len test length_is asked no_is none =
    let empty = ap length none in
    false≢true (sym no_is ∙ asked ∙ eq-eqb len 0 (omega (arith, length_is, empty)))
