-- Copies, counted attempt by attempt.
use Rattle.std.proofs.Common.{◌≡◌, ◌⊎◌, inl, inr, ℕ, zero, suc, ◌+◌, ◌-◌, ◌≤◌, ◌<◌, ◌==◌, Bool, true, false, ◌&&◌, List, [], ◌∷◌, ◌++◌, length, take, drop, Option, None, Some, MatchOption, refl, sym, subst, ap, ◌∙◌, arith, cond, if◌then◌else◌}
use Rattle.std.specs.Prelude.{slice_get, slice_index_or}
use Rattle.std.specs.List.{Contains, filter}
use Rattle.std.proofs.lemmas.Bool.{eq-eqb, eqb-true, false≢true}
use Rattle.std.proofs.lemmas.List.Elements.{Contains-append_cases, Contains-append_left, Contains-append_right}
use Rattle.std.proofs.lemmas.List.{at_drop_all, at_drop_more, length-drop, take-append-drop, take_all, take_rest}
use Rattle.std.proofs.Math.Seq.{take-add}
use Rattle.std.proofs.Math.ListN.{get_or}
use Rattle.std.proofs.lemmas.Option.{same_Some, slice_get-get_or}
use Rattle.relay_disk.specs.Device.{DiskWords}
use Rattle.relay_lines.specs.Reply.{Reply}
use Rattle.relay_lines.specs.ReplyReading.{CutsReplies, HasFault}
use Rattle.relay_lines.specs.ReplySteps.{HasRead}
use Rattle.relay_lines.specs.declared.reply_reader.ReplyFault.{ReplyFault}
use Rattle.relay_lines.specs.declared.reply_reader.ReplyFault.TheVariants.{NoMemory}
use Rattle.relay_lines.specs.declared.reply_reader.ReplyReader.{ReplyReader}
use Rattle.relay_lines.proofs.Theorems.{cut_goes_on, read_is_cut}
use Rattle.relay_book.specs.declared.change.Change.{Change}
use Rattle.relay_course.specs.Laws.{accepted_places}
use Rattle.relay_course.specs.Progress.{progress}
use Rattle.relay_course.specs.VerdictTable.{is_accepted}
use Rattle.relay_world.specs.declared.attempt.Attempt.{Attempt}
use Rattle.relay_world.specs.declared.link.Link.{Link}
use Rattle.relay_world.specs.Bound.{IsBound, IsTried, StandsAt}
use Rattle.relay_world.specs.Children.{IsAttempt, children_of}
use Rattle.relay_world.specs.Copies.{Copies, CopiesBy, CopiesByAll, HasFewCopies, IsDecidedBy, is_lost_reply, lost_replies_of}
use Rattle.relay_world.specs.GivingUp.{Withdrawing}
use Rattle.relay_world.specs.Once.{IsTriedOnce}
use Rattle.relay_world.specs.World.{World, link_at}
use Rattle.relay_world.proofs.Theorems.{decided_by}
use Rattle.relay_pair.specs.Copied.{AreReplies, CountsBy, CountsCopies, accepts_place, after_mail, is_no_memory}
use Rattle.relay_events.proofs.Theorems.{value_same}
use Rattle.relay_pair.proofs.AcceptedLemmas.{accepted_by_replies, accepted_in}

-- one place, and whether its RCPT was accepted
one_found : (same accepted more : Bool) (place tried : ℕ) (rest : List ℕ) → (same ≡ true → tried ≡ place)
    → (more ≡ true → Contains rest place) → (if same && accepted then true else more) ≡ true
    → Contains ((if accepted then tried ∷ [] else []) ++ rest) place
one_found true true more place tried rest is others found =
    Contains-append_left (tried ∷ []) rest place (0, omega arith, is refl)
one_found true false more place tried rest is others found = others found
one_found false true more place tried rest is others found = Contains-append_right (tried ∷ []) rest place (others found)
one_found false false more place tried rest is others found = others found

one_only : (tried place : ℕ) → Contains (tried ∷ []) place → tried ≡ place
one_only tried place (zero, within, is) = is
one_only tried place (suc k, within, is) = absurd (omega (arith, within))

one_tested : (same accepted more : Bool) (place tried : ℕ) (rest : List ℕ) → (tried ≡ place → same ≡ true)
    → (Contains rest place → more ≡ true) → Contains ((if accepted then tried ∷ [] else []) ++ rest) place
    → (if same && accepted then true else more) ≡ true
one_tested true true more place tried rest is others has = refl
one_tested true false more place tried rest is others has = others has
one_tested false true more place tried rest is others has = elim (Contains-append_cases (tried ∷ []) rest place has) [
  | inl first ↦ absurd (false≢true (is (one_only tried place first)))
  | inr afterwards ↦ others afterwards
]
one_tested false false more place tried rest is others has = others has

none_has : (place : ℕ) → Contains {X = ℕ} [] place → ⊥
none_has place (k, within, is) = omega (arith, within)

-- the test of the code finds a place exactly where its RCPT was accepted
pub found_there : (place : ℕ) (places : List ℕ) (replies : List Reply) → accepts_place place places replies ≡ true
    → Contains (accepted_in places replies) place
found_there place [] replies found = absurd (false≢true found)
found_there place (tried ∷ places) [] found = absurd (false≢true found)
found_there place (tried ∷ places) (reply ∷ replies) found =
    one_found (tried == place) (is_accepted reply) (accepts_place place places replies) place tried (accepted_in places replies)
    (eqb-true tried place) (found_there place places replies) found

pub there_found : (place : ℕ) (places : List ℕ) (replies : List Reply) → Contains (accepted_in places replies) place
    → accepts_place place places replies ≡ true
there_found place [] replies has = absurd (none_has place has)
there_found place (tried ∷ places) [] has = absurd (none_has place has)
there_found place (tried ∷ places) (reply ∷ replies) has =
    one_tested (tried == place) (is_accepted reply) (accepts_place place places replies) place tried (accepted_in places replies)
    (eq-eqb tried place) (there_found place places replies) has

module _ {D : Type 0} (honest : Type 0) (words : DiskWords D) (world : World D) (lists : List (List Change))
    (bound : IsBound honest words world lists) {asked : List Withdrawing} (once : IsTriedOnce world lists asked) (node message place : ℕ) where
  -- An attempt of a bound world, with its link.
  module _ (at : ℕ) (attempt : Attempt) (is_there : slice_get world.attempts at ≡ Some attempt) (link : Link)
      (its_link : link_at world.links attempt.link ≡ Some link) where
    tried : IsTried world lists attempt.link link at
    tried =
        let has = bound.attempts at attempt is_there in
        let same : has.link ≡ link = same_Some has.link link (sym has.is_there ∙ its_link) in
        bound.clients attempt.link at link its_link (ap (λ (l : Link). l.client) (sym same) ∙ has.client)

    same_attempt : tried.attempt ≡ attempt
    same_attempt = same_Some tried.attempt attempt (sym tried.attempt_at ∙ is_there)

    is_attempt : IsAttempt world lists tried.host tried.changes link attempt
    is_attempt = record {
      at = at;
      is_there = is_there;
      stands = subst (λ (a : Attempt). StandsAt world lists a.node tried.host tried.changes) same_attempt tried.stands;
      its_link = its_link;
    }

    module _ (its_node : attempt.node ≡ node) (its_message : attempt.message ≡ message) (replies : List Reply)
        (read : AreReplies (take link.down_read link.down) replies) where
      decided : IsDecidedBy world lists node message place attempt replies
      decided = decided_by honest words world lists bound once node message place tried.host tried.changes link attempt is_attempt replies
          read.0 its_node its_message read.1

      accepted : accepted_places (progress decided.delivery replies).answered ≡ accepted_in attempt.places.items (after_mail replies)
      accepted = accepted_by_replies decided.delivery replies decided.each
          ∙ ap (λ (l : List ℕ). accepted_in l (after_mail replies)) decided.places_are

      pub copied : accepts_place place attempt.places.items (after_mail replies) ≡ true
          → CopiesBy world lists node message place attempt (length (children_of world attempt))
      copied found = inl (
        decided.passes.1 (subst (λ (l : List ℕ). Contains l place) (sym accepted)
            (found_there place attempt.places.items (after_mail replies) found)),
        refl,
      )

      pub not_copied : accepts_place place attempt.places.items (after_mail replies) ≡ false
          → CopiesBy world lists node message place attempt 0
      not_copied none = inr (
        (λ passing. false≢true (sym none ∙ there_found place attempt.places.items (after_mail replies)
            (subst (λ (l : List ℕ). Contains l place) accepted (decided.passes.0 passing)))),
        refl,
      )

-- an attempt makes one number of copies
one_number : {D : Type 0} (world : World D) (lists : List (List Change)) (node message place : ℕ) (attempt : Attempt)
    (one other : ℕ) → CopiesBy world lists node message place attempt one → CopiesBy world lists node message place attempt other
    → one ≡ other
one_number world lists node message place attempt one other (inl a) (inl b) = a.1 ∙ sym b.1
one_number world lists node message place attempt one other (inl a) (inr b) = absurd (b.0 a.0)
one_number world lists node message place attempt one other (inr a) (inl b) = absurd (a.0 b.0)
one_number world lists node message place attempt one other (inr a) (inr b) = a.1 ∙ sym b.1

-- what is counted, and what is left of all, makes the number of all copies
pub record CountsOn {D : Type 0} (world : World D) (lists : List (List Change)) (node message place : ℕ)
    (left : List Attempt) (count total : ℕ) : Type 0 where
  pub others : ℕ
  pub theirs : CopiesByAll world lists node message place left others
  pub sum : count + others ≡ total

pub counts_first : {D : Type 0} (world : World D) (lists : List (List Change)) (node message place total : ℕ)
    → Copies world lists node message place total → CountsOn world lists node message place world.attempts 0 total
counts_first world lists node message place total copies = record { others = total; theirs = copies; sum = omega arith }

-- one attempt more is counted
pub counts_next : {D : Type 0} (world : World D) (lists : List (List Change)) (node message place : ℕ) (attempt : Attempt)
    (left : List Attempt) (count mine total : ℕ) → CountsOn world lists node message place (attempt ∷ left) count total
    → CopiesBy world lists node message place attempt mine
    → CountsOn world lists node message place left (count + mine) total × (count + mine ≤ total)
counts_next world lists node message place attempt left count mine total on by =
    let same : on.theirs.0 ≡ mine = one_number world lists node message place attempt on.theirs.0 mine on.theirs.2 by in
    let sum : (count + mine) + on.theirs.1 ≡ total = omega (arith, on.sum, on.theirs.4, same) in
    (record { others = on.theirs.1; theirs = on.theirs.3; sum = sum }, omega (arith, sum))

pub counts_last : {D : Type 0} (world : World D) (lists : List (List Change)) (node message place count total : ℕ)
    → CountsOn world lists node message place [] count total → count ≡ total
counts_last world lists node message place count total on = omega (arith, on.sum, on.theirs)

-- By lists of changes to which a world is bound there is a number of all copies, of which so many are counted, and the others
-- are those of the attempts that are left.
pub record Counts {D : Type 0} (honest : Type 0) (words : DiskWords D) (world : World D) (node message place : ℕ)
    (left : List Attempt) (count : ℕ) : Type 0 where
  pub lists : List (List Change)
  pub bound : IsBound honest words world lists
  pub asked : List Withdrawing
  pub once : IsTriedOnce world lists asked
  pub total : ℕ
  pub copies : Copies world lists node message place total
  pub few : total ≤ 1 + lost_replies_of node message place world.attempts
  pub on : CountsOn world lists node message place left count total

-- the octets after so many
abbrev pub octets_left : List ℕ → ℕ → List ℕ
octets_left octets used = take (length octets - used) (drop used octets)

module _ (octets : List ℕ) (used : ℕ) (before : ReplyReader) (replies : List Reply) (rest : List ℕ) where
  abbrev left : List ℕ
  left = octets_left octets used

  left_is : left ≡ drop used octets
  left_is = take_rest octets used

  -- what is left is faulty: no further reply can be cut
  pub cut_short : (fault : ReplyFault) → HasRead before (take used octets) replies rest → is_no_memory fault ≡ false
      → (fault ≡ NoMemory) ⊎ HasFault (rest ++ left) fault → AreReplies octets replies
  cut_short fault reads off (inl memory) = absurd (false≢true (sym off ∙ ap is_no_memory memory))
  cut_short fault reads off (inr faulty) = (
    rest ++ drop used octets,
    record {
      cut = subst (λ (o : List ℕ). CutsReplies o replies (rest ++ drop used octets)) (take-append-drop used octets)
          (cut_goes_on (take used octets) rest (drop used octets) replies
          (read_is_cut before (take used octets) rest replies reads).cut);
      ends = inr (fault, subst (λ (l : List ℕ). HasFault (rest ++ l) fault) left_is faulty);
    },
  )

  pub read_within : (count : ℕ) → used ≤ length octets → count ≤ length left → used + count ≤ length octets
  read_within count within more = omega (arith, within, subst (λ (l : List ℕ). count ≤ length l) left_is more, length-drop used octets)

  -- a reply was cut, or all was used, and the reader holds what came of the next one
  module _ (after : ReplyReader) (count : ℕ) where
    pub reads_one : (reply : Reply) → HasRead after (take used octets ++ take count left) (replies ++ reply ∷ []) []
        → HasRead after (take (used + count) octets) (replies ++ reply ∷ []) []
    reads_one reply reads =
        subst (λ (l : List ℕ). HasRead after l (replies ++ reply ∷ []) [])
        (ap (λ (l : List ℕ). take used octets ++ take count l) left_is ∙ sym (take-add used count octets)) reads

    pub reads_more : count ≡ length left → HasRead after (take used octets ++ left) replies (rest ++ left)
        → HasRead after (take (used + count) octets) replies (rest ++ left)
    reads_more all reads =
        subst (λ (l : List ℕ). HasRead after l replies (rest ++ left))
        (ap (λ (l : List ℕ). take used octets ++ l)
        (sym (ap (λ (n : ℕ). take n left) all ∙ take_all (length left) left (omega arith)) ∙ ap (λ (l : List ℕ). take count l) left_is)
        ∙ sym (take-add used count octets)) reads

-- what is said of a reply that was found, and where none was
pub some_of : {X : Type 0} (A : Type 0) (B : X → Type 0) (found : Option X) (x : X) → found ≡ Some x → MatchOption found A B → B x
some_of A B found x is match = subst (λ f. MatchOption f A B) is match

pub none_of : {X : Type 0} (A : Type 0) (B : X → Type 0) (found : Option X) → found ≡ None → MatchOption found A B → A
none_of A B found is match = subst (λ f. MatchOption f A B) is match

-- one place and one reply more
module _ (place index : ℕ) (places : List ℕ) (replies : List Reply) (reply : Reply)
    (within : index < length places) (here : index < length replies) where
  accepts_step : accepts_place place (drop index places) (drop index replies)
      ≡ (if get_or places index 0 == place && is_accepted (get_or replies index reply) then true
      else accepts_place place (drop (index + 1) places) (drop (index + 1) replies))
  accepts_step =
      at_drop_more (λ (l : List ℕ). accepts_place place l (drop index replies)) places index 0 within
      ∙ at_drop_more (λ (l : List Reply). accepts_place place (get_or places index 0 ∷ drop (index + 1) places) l) replies index reply here

  tested : (result : Bool) → reply ≡ get_or replies index reply → result ≡ (get_or places index 0 == place && is_accepted reply)
      → accepts_place place (drop index places) (drop index replies)
      ≡ (if result then true else accepts_place place (drop (index + 1) places) (drop (index + 1) replies))
  tested result there is =
      accepts_step
      ∙ ap (λ (b : Bool). if b then true else accepts_place place (drop (index + 1) places) (drop (index + 1) replies))
      (ap (λ (r : Reply). get_or places index 0 == place && is_accepted r) (sym there) ∙ sym is)

  pub found_here : (result : Bool) → reply ≡ get_or replies index reply
      → result ≡ (get_or places index 0 == place && is_accepted reply) → result ≡ true
      → accepts_place place (drop index places) (drop index replies) ≡ accepts_place place places replies
      → true ≡ accepts_place place places replies
  found_here result there is found left =
      sym (tested result there is
      ∙ ap (λ (b : Bool). if b then true else accepts_place place (drop (index + 1) places) (drop (index + 1) replies)) found) ∙ left

  pub not_here : (result : Bool) → reply ≡ get_or replies index reply
      → result ≡ (get_or places index 0 == place && is_accepted reply) → result ≡ false
      → accepts_place place (drop index places) (drop index replies) ≡ accepts_place place places replies
      → accepts_place place (drop (index + 1) places) (drop (index + 1) replies) ≡ accepts_place place places replies
  not_here result there is none left =
      sym (tested result there is
      ∙ ap (λ (b : Bool). if b then true else accepts_place place (drop (index + 1) places) (drop (index + 1) replies)) none) ∙ left

-- no place is left, or no reply
pub none_tried : (place index : ℕ) (places : List ℕ) (replies : List Reply) → length places ≤ index
    → accepts_place place (drop index places) (drop index replies) ≡ accepts_place place places replies
    → false ≡ accepts_place place places replies
none_tried place index places replies all left =
    sym (at_drop_all (λ (l : List ℕ). accepts_place place l (drop index replies)) places index all) ∙ left

none_accepted : (place : ℕ) (places : List ℕ) → accepts_place place places [] ≡ false
none_accepted place [] = refl
none_accepted place (one ∷ places) = refl

pub none_answered : (place index : ℕ) (places : List ℕ) (replies : List Reply) → length replies ≤ index
    → accepts_place place (drop index places) (drop index replies) ≡ accepts_place place places replies
    → false ≡ accepts_place place places replies
none_answered place index places replies all left =
    sym (at_drop_all (λ (l : List Reply). accepts_place place (drop index places) l) replies index all
    ∙ none_accepted place (drop index places)) ∙ left

kept_few : (is : Bool) (one : Attempt) (kept all : List Attempt) → length kept ≤ length all
    → length (cond is (one ∷ kept) kept) ≤ length (one ∷ all)
kept_few true one kept all few = omega (arith, few)
kept_few false one kept all few = omega (arith, few)

module _ {D : Type 0} (honest : Type 0) (words : DiskWords D) (world : World D) (node message place : ℕ) where
  abbrev CountsLeft : List Attempt → ℕ → Type 0
  CountsLeft left count = Counts honest words world node message place left count

  pub counts_begin : (lists : List (List Change)) (asked : List Withdrawing) → IsBound honest words world lists
      → IsTriedOnce world lists asked
      → HasFewCopies world lists node message place → CountsLeft world.attempts 0
  counts_begin lists asked bound once has = record {
    lists = lists;
    bound = bound;
    asked = asked;
    once = once;
    total = has.count;
    copies = has.copies;
    few = has.few;
    on = counts_first world lists node message place has.count has.copies;
  }

  lost_few : (attempts : List Attempt) → lost_replies_of node message place attempts ≤ length attempts
  lost_few [] = omega arith
  lost_few (attempt ∷ attempts) =
      kept_few (is_lost_reply node message place attempt) attempt (filter (is_lost_reply node message place) attempts) attempts
      (lost_few attempts)

  -- one attempt more, which stands at this place among the attempts
  module _ (at : ℕ) (attempt : Attempt) (count mine : ℕ) (within : at < length world.attempts)
      (there : attempt ≡ get_or world.attempts at attempt) where
    split_is : drop at world.attempts ≡ attempt ∷ drop (at + 1) world.attempts
    split_is = at_drop_more (λ (l : List Attempt). l) world.attempts at attempt within
        ∙ ap (λ (a : Attempt). a ∷ drop (at + 1) world.attempts) (sym there)

    pub is_there : slice_get world.attempts at ≡ Some attempt
    is_there = slice_get-get_or world.attempts at attempt within ∙ ap (λ a. Some a) (sym there)

    module _ (counts : CountsLeft (drop at world.attempts) count) (by : CountsBy honest words world node message place attempt mine) where
      next : CountsOn world counts.lists node message place (drop (at + 1) world.attempts) (count + mine) counts.total
          × (count + mine ≤ counts.total)
      next = counts_next world counts.lists node message place attempt (drop (at + 1) world.attempts) count mine counts.total
          (subst (λ (l : List Attempt). CountsOn world counts.lists node message place l count counts.total) split_is counts.on)
          (by counts.lists counts.asked counts.bound counts.once)

      pub counts_more : CountsLeft (drop (at + 1) world.attempts) (count + mine)
      counts_more = record {
        lists = counts.lists;
        bound = counts.bound;
        asked = counts.asked;
        once = counts.once;
        total = counts.total;
        copies = counts.copies;
        few = counts.few;
        on = next.0;
      }

      pub few_more : count + mine ≤ 1 + length world.attempts
      few_more = omega (arith, next.1, counts.few, lost_few world.attempts)

  pub counts_all : (at count : ℕ) → length world.attempts ≤ at → CountsLeft (drop at world.attempts) count
      → CountsCopies honest words world node message place count
  counts_all at count all counts =
      let on : CountsOn world counts.lists node message place [] count counts.total =
      subst (λ (l : List Attempt). CountsOn world counts.lists node message place l count counts.total)
      (at_drop_all (λ (l : List Attempt). l) world.attempts at all) counts.on in
      let same : count ≡ counts.total = counts_last world counts.lists node message place count counts.total on in
      record {
        lists = counts.lists;
        theirs = counts.bound;
        copies = subst (λ (n : ℕ). Copies world counts.lists node message place n) (sym same) counts.copies;
        few = subst (λ (n : ℕ). n ≤ 1 + lost_replies_of node message place world.attempts) (sym same) counts.few;
      }

-- the link of a number, as it was read at the place before it
pub link_read : (links : List Link) (number at : ℕ) (link value : Link) → number ≡ suc at → link_at links number ≡ Some link
    → value ≡ slice_index_or links at value → value ≡ link
link_read links number at link value is link_is there =
    value_same links at link value (subst (λ (n : ℕ). link_at links n ≡ Some link) is link_is) there
