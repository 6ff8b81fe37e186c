-- The walk over the queue knows what is queued.
use Rattle.std.proofs.Common.{◌≡◌, ◌≢◌, ◌⊎◌, inl, inr, ℕ, ◌+◌, ◌<◌, ◌≤◌, zero, suc, eqb, Bool, true, false, List, [], ◌∷◌, ◌++◌, MatchOption, Option, None, Some, Result, Ok, Err, refl, sym, ap, subst, ◌∙◌, arith, if◌then◌else◌, Contains}
use Rattle.std.specs.Prelude.{IfOk, OnErr, OnOk, flat_map, is_err, slice_get}
use Rattle.std.specs.Option.{option_map_or}
use Rattle.std.proofs.lemmas.Bool.{cases_lt, cases_eq, false≢true}
use Rattle.std.proofs.lemmas.Bool.Decides.{eqb_tells}
use Rattle.std.proofs.lemmas.List.Elements.{Contains-append_left, Contains-append_right, Contains-append_cases}
use Rattle.relay_book.specs.Queue.{Queue, held_of, is_held, marks_from, marks_of_entry, message_of}
use Rattle.relay_book.specs.declared.message.Message.{Message}
use Rattle.relay_book.specs.declared.message.Place.{Place}
use Rattle.relay_node.specs.Node.{NodeState}
use Rattle.relay_lanes.specs.Numbers.{Walk, begun, numbers_after, with_left, with_newer, with_passed}
use Rattle.relay_next_hops.specs.Known.{AreKnown, IsKnown, IsUnderWay, KnowsQueue, NotesNumber, gathered, learned, walk_of}
use Rattle.relay_lanes.specs.Lane.{tasks_of}
use Rattle.relay_next_hops.specs.Lanes.{OpensForMore, tasks_at}
use Rattle.relay_next_hops.specs.declared.lanes.Lanes.{Lanes}

-- what stands at the front of a list, or in the rest
pub first_in : {A : Type 0} (x : A) (xs : List A) → Contains (x ∷ xs) x
first_in x xs = (0, omega arith, refl)

pub later_in : {A : Type 0} (x y : A) (xs : List A) → Contains xs y → Contains (x ∷ xs) y
later_in x y xs there = (suc there.0, omega (arith, there.1), there.2)

pub none_in : {A : Type 0} (y : A) → Contains [] y → ⊥
none_in y there = absurd (omega (arith, there.1))

pub split_in : {A : Type 0} (x y : A) (xs : List A) → Contains (x ∷ xs) y → (x ≡ y) ⊎ Contains xs y
split_in x y xs (zero, low, is) = inl is
split_in x y xs (suc k, low, is) = inr (k, omega (arith, low), is)

-- the number of each place is found among them, but for the last one before
pub numbers_have : (last : ℕ) (places : List (ℕ × ℕ)) (message place : ℕ) → message ≢ last → Contains places (message, place) → Contains (numbers_after last places) message
numbers_have last [] message place apart there = absurd (none_in (message, place) there)
numbers_have last (first ∷ places) message place apart there = by (λ from other later. numbers_have from places message place other later) (eqb_tells first.0 last) (split_in first (message, place) places there) where
  Rest : Type 0
  Rest = (from : ℕ) → message ≢ from → Contains places (message, place) → Contains (numbers_after from places) message

  fits : Bool → Type 0
  fits same = Contains (if same then numbers_after last places else first.0 ∷ numbers_after first.0 places) message

  next : Rest → (message ≡ first.0) ⊎ (message ≢ first.0) → Contains places (message, place) → Contains (first.0 ∷ numbers_after first.0 places) message
  next rest (inl same) later = subst (Contains (first.0 ∷ numbers_after first.0 places)) (sym same) (first_in first.0 (numbers_after first.0 places))
  next rest (inr other) later = later_in first.0 message (numbers_after first.0 places) (rest first.0 other later)

  by : Rest → ((eqb first.0 last ≡ true) × (first.0 ≡ last)) ⊎ ((eqb first.0 last ≡ false) × (first.0 ≢ last)) → (first ≡ (message, place)) ⊎ Contains places (message, place) → Contains (numbers_after last (first ∷ places)) message
  by rest (inl same) (inl own) = let is : first.0 ≡ message = ap (λ (it : ℕ × ℕ). it.0) own in absurd (apart (sym is ∙ same.1))
  by rest (inl same) (inr later) = subst fits (sym same.0) (rest last apart later)
  by rest (inr other) (inl own) = let is : first.0 ≡ message = ap (λ (it : ℕ × ℕ). it.0) own in subst fits (sym other.0) (subst (Contains (first.0 ∷ numbers_after first.0 places)) is (first_in first.0 (numbers_after first.0 places)))
  by rest (inr other) (inr later) = subst fits (sym other.0) (next rest (cases_eq message first.0) later)

-- a place that is marked is of its message
pub marked_of : (test : Place → Bool) (number n : ℕ) (places : List Place) (message place : ℕ) → Contains {X = ℕ × ℕ} (marks_from test number n places) (message, place) → number ≡ message
marked_of test number n [] message place there = absurd (none_in {A = ℕ × ℕ} (message, place) there)
marked_of test number n (one ∷ places) message place there = by (λ later. marked_of test number (suc n) places message place later) (test one) (Contains-append_cases {X = ℕ × ℕ} (if test one then (number, n) ∷ [] else []) (marks_from test number (suc n) places) (message, place) there) where
  own : ◌≡◌ {A = ℕ × ℕ} (number, n) (message, place) → number ≡ message
  own is = ap (λ (it : ℕ × ℕ). it.0) is

  alone : ◌≡◌ {A = ℕ × ℕ} (number, n) (message, place) ⊎ Contains {X = ℕ × ℕ} [] (message, place) → number ≡ message
  alone (inl is) = own is
  alone (inr none) = absurd (none_in {A = ℕ × ℕ} (message, place) none)

  by : (Contains {X = ℕ × ℕ} (marks_from test number (suc n) places) (message, place) → number ≡ message) → (passes : Bool) → Contains {X = ℕ × ℕ} (if passes then (number, n) ∷ [] else []) (message, place) ⊎ Contains {X = ℕ × ℕ} (marks_from test number (suc n) places) (message, place) → number ≡ message
  by rest true (inl here) = alone (split_in {A = ℕ × ℕ} (number, n) (message, place) [] here)
  by rest false (inl here) = absurd (none_in {A = ℕ × ℕ} (message, place) here)
  by rest passes (inr later) = rest later

-- a message with a held place is queued
pub held_found : (messages : List (ℕ × Message)) (message place : ℕ) → Contains {X = ℕ × ℕ} (flat_map (marks_of_entry is_held) messages) (message, place) → message_of messages message ≢ None
held_found [] message place there = absurd (none_in {A = ℕ × ℕ} (message, place) there)
held_found (entry ∷ messages) message place there = by (λ later. held_found messages message place later) (eqb_tells entry.0 message) (Contains-append_cases {X = ℕ × ℕ} (marks_of_entry is_held entry) (flat_map (marks_of_entry is_held) messages) (message, place) there) where
  fits : Bool → Type 0
  fits same = (if same then Some entry.1 else message_of messages message) ≢ None

  by : (Contains {X = ℕ × ℕ} (flat_map (marks_of_entry is_held) messages) (message, place) → message_of messages message ≢ None) → ((eqb entry.0 message ≡ true) × (entry.0 ≡ message)) ⊎ ((eqb entry.0 message ≡ false) × (entry.0 ≢ message)) → Contains {X = ℕ × ℕ} (marks_of_entry is_held entry) (message, place) ⊎ Contains {X = ℕ × ℕ} (flat_map (marks_of_entry is_held) messages) (message, place) → message_of (entry ∷ messages) message ≢ None
  by rest (inl same) held = subst fits (sym same.0) (λ is. absurd (cc is))
  by rest (inr other) (inl own) = absurd (other.1 (marked_of is_held entry.0 0 entry.1.places message place own))
  by rest (inr other) (inr later) = subst fits (sym other.0) (rest later)

-- what is known stays so, where more are
pub known_newer : (walk : Walk) (number message : ℕ) → IsKnown walk message → IsKnown (with_newer number walk) message
known_newer walk number message (inl left) = inl left
known_newer walk number message (inr (inl passed)) = inr (inl passed)
known_newer walk number message (inr (inr newer)) = inr (inr (Contains-append_left walk.newer (number ∷ []) message newer))

pub known_begun : (walk : Walk) (message : ℕ) → walk.left ≡ [] → IsKnown walk message → IsKnown (begun walk) message
known_begun walk message none (inl left) = absurd (none_in message (subst (λ (left : List ℕ). Contains left message) none left))
known_begun walk message none (inr (inl passed)) = inl (Contains-append_left walk.passed walk.newer message passed)
known_begun walk message none (inr (inr newer)) = inl (Contains-append_right walk.passed walk.newer message newer)

-- one more message has arrived, and its number is kept
pub known_next : {D : Type 0} (node : NodeState D) (number : ℕ) (old new : Lanes) → AreKnown node number old → NotesNumber (with_newer number) (message_of node.records.queue.messages number) old new → AreKnown node (number + 1) new
known_next node number old new before noted all message place some below held = by (message_of node.records.queue.messages number) refl noted (cases_lt message number) where
  by : (found : Option Message) → message_of node.records.queue.messages number ≡ found → NotesNumber (with_newer number) found old new → (message < number) ⊎ (number ≤ message) → IsKnown new.queued message
  by found is noted (inl low) = on found noted where
    on : (found : Option Message) → NotesNumber (with_newer number) found old new → IsKnown new.queued message
    on None same = subst (λ (walk : Walk). IsKnown walk message) (sym same.0) (before (sym same.1 ∙ all) message place some low held)
    on (Some it) (inl kept) = subst (λ (walk : Walk). IsKnown walk message) (sym kept.0) (known_newer old.queued number message (before (sym kept.1 ∙ all) message place some low held))
    on (Some it) (inr lost) = absurd (false≢true (sym lost ∙ all))
  by None is noted (inr high) =
      let own : message ≡ number = omega (arith, below, high) in
      absurd (held_found node.records.queue.messages message place held (ap (message_of node.records.queue.messages) own ∙ is))
  by (Some it) is (inl kept) (inr high) =
      let own : number ≡ message = omega (arith, below, high) in
      subst (λ (walk : Walk). IsKnown walk message) (sym kept.0)
      (inr (inr (Contains-append_right old.queued.newer (number ∷ []) message (subst (Contains (number ∷ [])) own (first_in number [])))))
  by (Some it) is (inr lost) (inr high) = absurd (false≢true (sym lost ∙ all))

-- the walk has come to the next message, and keeps its number if it is queued
pub known_passed : {D : Type 0} (node : NodeState D) (count number : ℕ) (old between new : Lanes) → old.queued.left ≡ number ∷ between.queued.left → between.queued ≡ with_left between.queued.left old.queued → between.knows_all ≡ old.knows_all → NotesNumber (with_passed number) (message_of node.records.queue.messages number) between new → AreKnown node count old → AreKnown node count new
known_passed node count number old between new split rest same noted before all message place some below held = by (message_of node.records.queue.messages number) refl noted where
  known : between.knows_all ≡ true → (number ≡ message) ⊎ IsKnown between.queued message
  known is = on (before (sym same ∙ is) message place some below held) where
    moved : IsKnown (with_left between.queued.left old.queued) message → IsKnown between.queued message
    moved = subst (λ (walk : Walk). IsKnown walk message) (sym rest)

    on : IsKnown old.queued message → (number ≡ message) ⊎ IsKnown between.queued message
    on (inl left) = in_left (split_in number message between.queued.left (subst (λ (left : List ℕ). Contains left message) split left)) where
      in_left : (number ≡ message) ⊎ Contains between.queued.left message → (number ≡ message) ⊎ IsKnown between.queued message
      in_left (inl own) = inl own
      in_left (inr later) = inr (inl later)
    on (inr (inl passed)) = inr (moved (inr (inl passed)))
    on (inr (inr newer)) = inr (moved (inr (inr newer)))

  by : (found : Option Message) → message_of node.records.queue.messages number ≡ found → NotesNumber (with_passed number) found between new → IsKnown new.queued message
  by None is noted = on (known (sym noted.1 ∙ all)) where
    on : (number ≡ message) ⊎ IsKnown between.queued message → IsKnown new.queued message
    on (inl own) = absurd (held_found node.records.queue.messages message place held (ap (message_of node.records.queue.messages) (sym own) ∙ is))
    on (inr there) = subst (λ (walk : Walk). IsKnown walk message) (sym noted.0) there
  by (Some it) is (inl kept) = on (known (sym kept.1 ∙ all)) where
    in_passed : IsKnown (with_passed number between.queued) message → IsKnown new.queued message
    in_passed = subst (λ (walk : Walk). IsKnown walk message) (sym kept.0)

    on : (number ≡ message) ⊎ IsKnown between.queued message → IsKnown new.queued message
    on (inl own) = in_passed (inr (inl (Contains-append_right between.queued.passed (number ∷ []) message (subst (Contains (number ∷ [])) own (first_in number [])))))
    on (inr (inl left)) = in_passed (inl left)
    on (inr (inr (inl passed))) = in_passed (inr (inl (Contains-append_left between.queued.passed (number ∷ []) message passed)))
    on (inr (inr (inr newer))) = in_passed (inr (inr newer))
  by (Some it) is (inr lost) = absurd (false≢true (sym lost ∙ all))

-- the same numbers are known
pub known_same : {D : Type 0} (node : NodeState D) (next : ℕ) (old new : Lanes) → new.queued ≡ old.queued → new.knows_all ≡ old.knows_all → AreKnown node next old → AreKnown node next new
known_same node next old new queued same before all message place some below held =
    subst (λ (walk : Walk). IsKnown walk message) (sym queued) (before (sym same ∙ all) message place some below held)

pub known_below : {D : Type 0} (node : NodeState D) (more less : ℕ) (lanes : Lanes) → less ≤ more → AreKnown node more lanes → AreKnown node less lanes
known_below node more less lanes few known all message place some below held = known all message place some (omega (arith, few, below)) held

-- a walk begins
pub known_begins : {D : Type 0} (node : NodeState D) (next : ℕ) (old new : Lanes) → old.queued.left ≡ [] → new.queued ≡ begun old.queued → new.knows_all ≡ old.knows_all → AreKnown node next old → AreKnown node next new
known_begins node next old new none is same before all message place some below held =
    subst (λ (walk : Walk). IsKnown walk message) (sym is) (known_begun old.queued message none (before (sym same ∙ all) message place some below held))

-- all numbers are known, once the node was asked for them
pub known_gathered : {D : Type 0} (node : NodeState D) (next : ℕ) (lanes : Lanes) → lanes.queued.newer ≡ numbers_after 0 (held_of node.records.queue) → AreKnown node next lanes
known_gathered node next lanes is all message place some below held =
    inr (inr (subst (λ (newer : List ℕ). Contains newer message) (sym is) (numbers_have 0 (held_of node.records.queue) message place (λ zero. absurd (omega (arith, some, zero))) held)))

-- The walk over the queue, with these numbers.
abbrev walk_with : List ℕ → List ℕ → List ℕ → Walk
walk_with left passed newer = record { left = left; passed = passed; newer = newer }

pub walk_is : (walk : Walk) (queue : Queue) (marks : List (ℕ × ℕ)) → marks ≡ held_of queue → walk.newer ≡ numbers_after 0 marks → walk.left ≡ [] → walk.passed ≡ [] → walk ≡ walk_of queue
walk_is walk queue marks are newer left passed =
    ap (λ (it : List ℕ). walk_with it walk.passed walk.newer) left
    ∙ ap (λ (it : List ℕ). walk_with [] it walk.newer) passed
    ∙ ap (λ (it : List ℕ). walk_with [] [] it) (newer ∙ ap (numbers_after 0) are)

abbrev with_walk : Lanes → Walk → Lanes
with_walk lanes walk = record lanes { queued = walk; knows_all = true }

pub gathered_is : (lanes : Lanes) (walk : Walk) (queue : Queue) (marks : List (ℕ × ℕ)) → marks ≡ held_of queue → walk.newer ≡ numbers_after 0 marks → walk.left ≡ [] → walk.passed ≡ [] → record lanes { queued = walk; knows_all = true } ≡ gathered queue lanes
gathered_is lanes walk queue marks are newer left passed = ap (with_walk lanes) (walk_is walk queue marks are newer left passed)

abbrev next_set : ℕ → Lanes → Lanes
next_set next lanes = record lanes { next_number = next }

pub learned_is : (queue : Queue) (old between : Lanes) (next : ℕ) → between ≡ gathered queue old → next ≡ queue.next → record between { next_number = next } ≡ learned queue old
learned_is queue old between next is last = ap (next_set next) is ∙ ap (λ (next : ℕ). next_set next (gathered queue old)) last

-- what is noted of a number, by whether there is a message of it
pub noted_none : (noted : Walk → Walk) (found : Option Message) (result : Bool) (old new : Lanes) → MatchOption found (result ≡ false) (λ message. result ≡ true) → result ≡ false → new.queued ≡ old.queued → new.knows_all ≡ old.knows_all → NotesNumber noted found old new
noted_none noted None result old new is none queued all = (queued, all)
noted_none noted (Some message) result old new is none queued all = absurd (false≢true (sym none ∙ is))

pub noted_some : (noted : Walk → Walk) (found : Option Message) (result : Bool) (old new : Lanes) → MatchOption found (result ≡ false) (λ message. result ≡ true) → result ≡ true → ((new.queued ≡ noted old.queued) × (new.knows_all ≡ old.knows_all)) ⊎ (new.knows_all ≡ false) → NotesNumber noted found old new
noted_some noted None result old new is some how = absurd (false≢true (sym is ∙ some))
noted_some noted (Some message) result old new is some how = how

-- numbers that were known stay unknown or known
pub unknown_stays : (noted : Walk → Walk) (found : Option Message) (old new : Lanes) → NotesNumber noted found old new → old.knows_all ≡ false → new.knows_all ≡ false
unknown_stays noted None old new same unknown = same.1 ∙ unknown
unknown_stays noted (Some message) old new (inl kept) unknown = kept.1 ∙ unknown
unknown_stays noted (Some message) old new (inr lost) unknown = lost

-- no listing is in progress: the walk is over
pub idle_over : (lanes : Lanes) → IsUnderWay lanes → lanes.is_listing ≡ false → lanes.queued.left ≡ []
idle_over lanes (inl listing) idle = absurd (false≢true (sym idle ∙ listing))
idle_over lanes (inr over) idle = over

pub under_way_same : (old new : Lanes) → new.queued.left ≡ old.queued.left → new.is_listing ≡ old.is_listing → IsUnderWay old → IsUnderWay new
under_way_same old new left listing (inl begun) = inl (listing ∙ begun)
under_way_same old new left listing (inr over) = inr (left ∙ over)

-- what is known of the queue, after all that has arrived was looked at
pub knows_taken : {D : Type 0} (node : NodeState D) (old new : Lanes) → 0 < node.records.queue.next → new.next_number ≡ node.records.queue.next → new.queued.left ≡ old.queued.left → new.is_listing ≡ old.is_listing → (0 < old.next_number → AreKnown node old.next_number old → AreKnown node new.next_number new) → (old.knows_all ≡ false → new.knows_all ≡ false) → KnowsQueue node old → KnowsQueue node new
knows_taken node old new some next left listing taken unknown before = record {
  under_way = under_way_same old new left listing before.under_way;
  begun = inl (subst (λ (n : ℕ). 0 < n) (sym next) some);
  known = by before.begun;
} where
  by : (0 < old.next_number) ⊎ (old.knows_all ≡ false) → AreKnown node new.next_number new
  by (inl started) = taken started before.known
  by (inr none) = λ all message place. absurd (false≢true (sym (unknown none) ∙ all))

-- and after a call that leaves that as it is
pub knows_same : {D : Type 0} (node : NodeState D) (old new : Lanes) → new.queued ≡ old.queued → new.is_listing ≡ old.is_listing → new.next_number ≡ old.next_number → new.knows_all ≡ old.knows_all → KnowsQueue node old → KnowsQueue node new
knows_same node old new queued listing next all before = record {
  under_way = under_way_same old new (ap (λ (walk : Walk). walk.left) queued) listing before.under_way;
  begun = by before.begun;
  known = subst (λ (n : ℕ). AreKnown node n new) (sym next) (known_same node old.next_number old new queued all before.known);
} where
  by : (0 < old.next_number) ⊎ (old.knows_all ≡ false) → (0 < new.next_number) ⊎ (new.knows_all ≡ false)
  by (inl started) = inl (subst (λ (n : ℕ). 0 < n) (sym next) started)
  by (inr none) = inr (all ∙ none)

-- and after a part of a listing
pub knows_listed : {D : Type 0} (node : NodeState D) (old between new : Lanes) → 0 < node.records.queue.next → old.next_number ≡ node.records.queue.next → between.next_number ≡ old.next_number → (IsUnderWay old → IsUnderWay between) → ((next : ℕ) → IsUnderWay old → AreKnown node next old → AreKnown node next between) → new.queued ≡ between.queued → new.next_number ≡ between.next_number → new.knows_all ≡ between.knows_all → (IsUnderWay between → IsUnderWay new) → KnowsQueue node old → KnowsQueue node new
knows_listed node old between new some last next goes known queued same all over before = record {
  under_way = over (goes before.under_way);
  begun = inl (subst (λ (n : ℕ). 0 < n) (sym (same ∙ next ∙ last)) some);
  known = subst (λ (n : ℕ). AreKnown node n new) (sym (same ∙ next)) (known_same node old.next_number between new queued all (known old.next_number before.under_way before.known));
}

-- what two changes after one another open
pub opens_then : (old between new : Lanes) → OpensForMore old between → OpensForMore between new → OpensForMore old new
opens_then old between new one (inl opened) = inl opened
opens_then old between new (inl opened) (inr same) = inl (same.0 ∙ opened)
opens_then old between new (inr before) (inr same) = inr (same.0 ∙ before.0, λ lane. same.1 lane ∙ before.1 lane)

-- the other value of a test
pub ok_of : {T E : Type 0} (P : Type 0) (result : Result T E) → is_err result ≡ false → OnOk result P → P
ok_of P (Ok value) ok holds = holds
ok_of P (Err fault) ok holds = absurd (false≢true (sym ok))

pub err_of : {T E : Type 0} (P : Type 0) (result : Result T E) → is_err result ≡ true → OnErr result P → P
err_of P (Ok value) err holds = absurd (false≢true err)
err_of P (Err fault) err holds = holds

-- the same lanes have the same tasks
pub same_lanes : (old new : Lanes) → new.lanes ≡ old.lanes → (lane : ℕ) → tasks_at new lane ≡ tasks_at old lane
same_lanes old new same lane = ap (λ lanes. option_map_or tasks_of (slice_get lanes.items lane) []) same

-- after the node was asked for the queue
abbrev pub Gathers : {E : Type 0} → Result Bool E → Queue → Lanes → Lanes → Type 0
Gathers result queue old new = IfOk result (λ knows. new ≡ (if knows then gathered queue old else old))

pub learned_left : {E : Type 0} (result : Result Bool E) (queue : Queue) (old new : Lanes) → Gathers result queue old new → old.queued.left ≡ [] → OnOk result (new.queued.left ≡ [])
learned_left (Ok true) queue old new is over = ap (λ (lanes : Lanes). lanes.queued.left) is
learned_left (Ok false) queue old new is over = ap (λ (lanes : Lanes). lanes.queued.left) is ∙ over
learned_left (Err fault) queue old new is over = tt

pub learned_all : {E : Type 0} (result : Result Bool E) (queue : Queue) (old new : Lanes) → Gathers result queue old new → IfOk result (λ knows. knows ≡ true → new.knows_all ≡ true)
learned_all (Ok true) queue old new is = λ knows. ap (λ (lanes : Lanes). lanes.knows_all) is
learned_all (Ok false) queue old new is = λ knows. absurd (false≢true knows)
learned_all (Err fault) queue old new is = tt

pub learned_known : {D E : Type 0} (result : Result Bool E) (node : NodeState D) (next : ℕ) (old new : Lanes) → Gathers result node.records.queue old new → AreKnown node next old → OnOk result (AreKnown node next new)
learned_known (Ok true) node next old new is before = known_gathered node next new (ap (λ (lanes : Lanes). lanes.queued.newer) is)
learned_known (Ok false) node next old new is before = subst (AreKnown node next) (sym is) before
learned_known (Err fault) node next old new is before = tt

pub gathered_so : (knows : Bool) (queue : Queue) (old new : Lanes) → knows ≡ true → new ≡ (if knows then gathered queue old else old) → new ≡ gathered queue old
gathered_so true queue old new knows is = is
gathered_so false queue old new knows is = absurd (false≢true knows)

pub gathered_not : (knows : Bool) (queue : Queue) (old new : Lanes) → knows ≡ false → new ≡ (if knows then gathered queue old else old) → new ≡ old
gathered_not true queue old new knows is = absurd (false≢true (sym knows))
gathered_not false queue old new knows is = is

-- a call that leaves the lanes as they are opens none
pub opens_same : (old new : Lanes) → new.is_open ≡ old.is_open → new.lanes ≡ old.lanes → OpensForMore old new
opens_same old new opened same = inr (opened, same_lanes old new same)
