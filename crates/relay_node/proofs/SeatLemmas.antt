-- A call on a session, whose seat it takes out and puts back.
use Rattle.std.proofs.Common.{◌≡◌, ℕ, ◌<◌, zero, suc, Bool, true, false, List, [], ◌∷◌, length, Option, None, Some, Result, Ok, Err, refl, sym, ap, ◌∙◌, subst, arith}
use Rattle.std.specs.Prelude.{if◌then◌else◌, slice_set}
use Rattle.std.proofs.lemmas.List.{length-set}
use Rattle.relay_disk.specs.Device.{DiskWords}
use Rattle.relay_slots.specs.Slots.{OthersStay, slot_at}
use Rattle.relay_slots.proofs.Theorems.{has_slot, others_of_set, others_twice, taken_is_none}
use Rattle.relay_routes.specs.declared.config.Config.{Config}
use Rattle.relay_records.specs.Records.{Kept}
use Rattle.relay_records.specs.Staged.{Row}
use Rattle.relay_records.specs.declared.fault.NodeFault.{NodeFault}
use Rattle.relay_records.specs.declared.fault.NodeFault.TheVariants.{NoMemory, Stopped, Unknown, TooMany, NotDue, Busy, Open, Full, NoSecond}
use Rattle.relay_attempts.specs.declared.runs.Run.{Run}
use Rattle.relay_node.specs.declared.seat.Seat.{Seat}
use Rattle.relay_node.specs.Node.{HasHistory, HaveHistories, IsGone, RefusesAt, RefusesToHear, RefusesToReceive}
use Rattle.relay_node.specs.Seats.{RefusesSeat, TakesSeat}
use Rattle.relay_node.specs.Staging.{RefusesToHearInto, RefusesToReceiveInto}
use Rattle.relay_node.proofs.NodeLemmas.{all_have_histories, rest_has_histories, standing_of}

-- where nothing stands, taking it out changes nothing
pub nothing_taken : {A : Type 0} (slots : List (Option A)) (number : ℕ) → slot_at slots number ≡ None → slice_set slots number None ≡ slots
nothing_taken [] number none = refl
nothing_taken (None ∷ slots) zero none = refl
nothing_taken (Some value ∷ slots) zero none = absurd (cc)
nothing_taken (first ∷ slots) (suc number) none = ap (λ rest. first ∷ rest) (nothing_taken slots number none)

module _ {D : Type 0} (records : Kept D) (number : ℕ) (old new : List (Option Seat)) where
  -- the records were live, or stopped, by the fault
  pub not_full : (fault : NodeFault) → RefusesSeat records number old new fault → fault ≡ Full → ⊥
  not_full Full refused is = refused
  not_full NoMemory refused is = absurd (cc)
  not_full Stopped refused is = absurd (cc)
  not_full Unknown refused is = absurd (cc)
  not_full TooMany refused is = refused
  not_full NotDue refused is = refused
  not_full Busy refused is = refused
  not_full NoSecond refused is = refused
  not_full (Open cause) refused is = refused

  pub was_stopped : (fault : NodeFault) → RefusesSeat records number old new fault → fault ≡ Stopped → records.spool.live ≡ false
  was_stopped Stopped refused is = refused.0
  was_stopped NoMemory refused is = absurd (cc)
  was_stopped Unknown refused is = absurd (cc)
  was_stopped Full refused is = absurd refused
  was_stopped TooMany refused is = absurd refused
  was_stopped NotDue refused is = absurd refused
  was_stopped Busy refused is = absurd refused
  was_stopped NoSecond refused is = absurd refused
  was_stopped (Open cause) refused is = absurd refused

  -- the seats left have their histories
  pub left_histories : (config : Config) (fault : NodeFault) → RefusesSeat records number old new fault → HaveHistories config old → HaveHistories config new
  left_histories config NoMemory refused all = rest_has_histories config old new number refused.2 all
  left_histories config Stopped refused all = subst (HaveHistories config) (sym refused.1) all
  left_histories config Unknown refused all = subst (HaveHistories config) (sym refused.2) all
  left_histories config Full refused all = absurd refused
  left_histories config TooMany refused all = absurd refused
  left_histories config NotDue refused all = absurd refused
  left_histories config Busy refused all = absurd refused
  left_histories config NoSecond refused all = absurd refused
  left_histories config (Open cause) refused all = absurd refused

  pub left_others : (fault : NodeFault) → RefusesSeat records number old new fault → OthersStay old new number
  left_others NoMemory refused = others_of_set old new number None refused.2
  left_others Stopped refused = λ other differs. ap (λ (l : List (Option Seat)). slot_at l other) refused.1
  left_others Unknown refused = λ other differs. ap (λ (l : List (Option Seat)). slot_at l other) refused.2
  left_others Full refused = absurd refused
  left_others TooMany refused = absurd refused
  left_others NotDue refused = absurd refused
  left_others Busy refused = absurd refused
  left_others NoSecond refused = absurd refused
  left_others (Open cause) refused = absurd refused

-- a seat that was taken out is put back, unless its session has closed
module _ {D : Type 0} (records : Kept D) (number : ℕ) (old mid : List (Option Seat)) (seat : Seat) (takes : TakesSeat records number old mid seat) where
  pub has_place : number < length mid
  has_place =
      let long = ap length takes.rest ∙ length-set old number None in
      let there = has_slot old number seat (sym takes.was) in
      omega (arith, long, there)

  module _ (new : Seat) where
    pub back_histories : (config : Config) (close : Bool) (all : List (Option Seat)) → all ≡ (if close then mid else slice_set mid number (Some new)) → HaveHistories config old → HasHistory config new.peer new.session.value → HaveHistories config all
    back_histories config true all put before history = rest_has_histories config old all number (put ∙ takes.rest) before
    back_histories config false all put before history = all_have_histories config mid all number new put (rest_has_histories config old mid number takes.rest before) history

    pub back_others : (close : Bool) (all : List (Option Seat)) → all ≡ (if close then mid else slice_set mid number (Some new)) → OthersStay old all number
    back_others true all put = others_of_set old all number None (put ∙ takes.rest)
    back_others false all put = others_twice old mid all number (others_of_set old mid number None takes.rest) (others_of_set mid all number (Some new) put)

-- a call that failed, whatever it would have answered
abbrev pub failed : (T : Type 0) → NodeFault → Result T NodeFault
failed T fault = Err fault

pub fault_is : (T : Type 0) (fault other : NodeFault) → failed T fault ≡ failed T other → fault ≡ other
fault_is T fault other is = cc

pub true_is_false : true ≡ false → ⊥
true_is_false e = cc

none_there : (seats : List (Option Seat)) (number : ℕ) (taken : Seat) → Some taken ≡ slot_at seats number → slot_at seats number ≡ None → ⊥
none_there seats number taken was none = absurd (cc)

-- the words below are of a call on a session whose answer is of this type
module _ {D : Type 0} (T : Type 0) (config : Config) (number : ℕ) (seats left : List (Option Seat)) (runs more : List (Option Run)) (Leaves : NodeFault → Type 0) where
  -- it got no seat
  pub refused_at_seat : (records : Kept D) (fault : NodeFault) → more ≡ runs → RefusesSeat records number seats left fault
      → (IsGone number (standing_of config seats runs records) (standing_of config left more records) → Leaves NoMemory)
      → (standing_of config left more records ≡ standing_of config seats runs records → Leaves Unknown)
      → RefusesAt {T = T} (standing_of config seats runs records) (standing_of config left more records) (slot_at seats number ≡ None) Leaves (Err fault)
  refused_at_seat records Stopped same refused gone unknown = record {
    refused = λ live. absurd (true_is_false (sym live ∙ refused.0));
    stopped = λ stopped. (refl, ap (λ (l : List (Option Seat)). standing_of config l more records) refused.1 ∙ ap (λ (l : List (Option Run)). standing_of config seats l records) same);
    unknown = (λ is. absurd (cc), λ free. absurd (true_is_false (sym free.0 ∙ refused.0)));
  }
  refused_at_seat records Unknown same refused gone unknown =
      let same_node : standing_of config left more records ≡ standing_of config seats runs records = ap (λ (l : List (Option Seat)). standing_of config l more records) refused.2 ∙ ap (λ (l : List (Option Run)). standing_of config seats l records) same in
      record {
        refused = λ live. unknown same_node;
        stopped = λ stopped. absurd (true_is_false (sym refused.0 ∙ stopped));
        unknown = (λ is. (refused.0, refused.1), λ free. refl);
      }
  refused_at_seat records NoMemory same refused gone unknown = record {
    refused = λ live. gone (record { session = ap (λ (l : List (Option Seat)). slot_at l number) refused.2 ∙ taken_is_none seats number; records = refl });
    stopped = λ stopped. absurd (true_is_false (sym refused.0 ∙ stopped));
    unknown = (λ is. absurd (cc), λ free. absurd (refused.1 free.1));
  }
  refused_at_seat records Full same refused gone unknown = absurd refused
  refused_at_seat records TooMany same refused gone unknown = absurd refused
  refused_at_seat records NotDue same refused gone unknown = absurd refused
  refused_at_seat records Busy same refused gone unknown = absurd refused
  refused_at_seat records NoSecond same refused gone unknown = absurd refused
  refused_at_seat records (Open cause) same refused gone unknown = absurd refused

  pub refused_seat : (result : Result T NodeFault) (records : Kept D) (fault : NodeFault) → result ≡ failed T fault → more ≡ runs → RefusesSeat records number seats left fault
      → (IsGone number (standing_of config seats runs records) (standing_of config left more records) → Leaves NoMemory)
      → (standing_of config left more records ≡ standing_of config seats runs records → Leaves Unknown)
      → RefusesAt {T = T} (standing_of config seats runs records) (standing_of config left more records) (slot_at seats number ≡ None) Leaves result
  refused_seat result records fault is same refused gone unknown =
      subst (λ (r : Result T NodeFault). RefusesAt {T = T} (standing_of config seats runs records) (standing_of config left more records) (slot_at seats number ≡ None) Leaves r) (sym is)
      (refused_at_seat records fault same refused gone unknown)

  module _ (before after : Kept D) (live : before.spool.live ≡ true) (taken : Seat) (was : Some taken ≡ slot_at seats number) where
    -- it heard nothing
    pub refused_at_hearing : (fault : NodeFault) → (fault ≡ Unknown → ⊥) → Leaves fault
        → RefusesAt {T = T} (standing_of config seats runs before) (standing_of config left more after) (slot_at seats number ≡ None) Leaves (Err fault)
    refused_at_hearing fault known leaves = record {
      refused = λ _. leaves;
      stopped = λ stopped. absurd (true_is_false (sym live ∙ stopped));
      unknown = (λ is. absurd (known (fault_is T fault Unknown is)), λ free. absurd (none_there seats number taken was free.1));
    }

    pub refused_hearing : (result : Result T NodeFault) (fault : NodeFault) → result ≡ failed T fault → (fault ≡ Unknown → ⊥) → Leaves fault
        → RefusesAt {T = T} (standing_of config seats runs before) (standing_of config left more after) (slot_at seats number ≡ None) Leaves result
    refused_hearing result fault is known leaves =
        subst (λ (r : Result T NodeFault). RefusesAt {T = T} (standing_of config seats runs before) (standing_of config left more after) (slot_at seats number ≡ None) Leaves r) (sym is)
        (refused_at_hearing fault known leaves)

    -- it was answered
    pub answered_at : (value : T)
        → RefusesAt {T = T} (standing_of config seats runs before) (standing_of config left more after) (slot_at seats number ≡ None) Leaves (Ok value)
    answered_at value = record {
      refused = λ _. tt;
      stopped = λ stopped. absurd (true_is_false (sym live ∙ stopped));
      unknown = (λ is. absurd (cc), λ free. absurd (none_there seats number taken was free.1));
    }

-- what a call leaves that heard nothing
module _ {D : Type 0} (words : DiskWords D) (config : Config) (number : ℕ) (seats left : List (Option Seat)) (runs more : List (Option Run)) (before after : Kept D) (set : left ≡ slice_set seats number None) where
  gone : after ≡ before → IsGone number (standing_of config seats runs before) (standing_of config left more after)
  gone same = record { session = ap (λ (l : List (Option Seat)). slot_at l number) set ∙ taken_is_none seats number; records = same }

  pub leaves_unheard : (fault : NodeFault) → RefusesToHear words before after fault → RefusesToReceive words number (standing_of config seats runs before) (standing_of config left more after) fault
  leaves_unheard NoMemory refused = gone refused
  leaves_unheard Stopped refused = refused
  leaves_unheard Full refused = (gone refused.0, refused.1)
  leaves_unheard Unknown refused = absurd refused
  leaves_unheard TooMany refused = absurd refused
  leaves_unheard NotDue refused = absurd refused
  leaves_unheard Busy refused = absurd refused
  leaves_unheard NoSecond refused = absurd refused
  leaves_unheard (Open cause) refused = absurd refused

  pub leaves_unstaged : (row back : Row) (fault : NodeFault) → RefusesToHearInto before after row back fault → RefusesToReceiveInto number (standing_of config seats runs before) (standing_of config left more after) row back fault
  leaves_unstaged row back NoMemory refused = record { gone = gone refused.0; row_is = refused.1 }
  leaves_unstaged row back Full refused = (record { gone = gone refused.0; row_is = refused.1 }, refused.2)
  leaves_unstaged row back Stopped refused = absurd refused
  leaves_unstaged row back Unknown refused = absurd refused
  leaves_unstaged row back TooMany refused = absurd refused
  leaves_unstaged row back NotDue refused = absurd refused
  leaves_unstaged row back Busy refused = absurd refused
  leaves_unstaged row back NoSecond refused = absurd refused
  leaves_unstaged row back (Open cause) refused = absurd refused

pub stages_known : {D : Type 0} (before after : Kept D) (row back : Row) (fault : NodeFault) → RefusesToHearInto before after row back fault → fault ≡ Unknown → ⊥
stages_known before after row back Unknown refused is = refused
stages_known before after row back NoMemory refused is = absurd (cc)
stages_known before after row back Full refused is = absurd (cc)
stages_known before after row back Stopped refused is = refused
stages_known before after row back TooMany refused is = refused
stages_known before after row back NotDue refused is = refused
stages_known before after row back Busy refused is = refused
stages_known before after row back NoSecond refused is = refused
stages_known before after row back (Open cause) refused is = refused

pub hears_known : {D : Type 0} (words : DiskWords D) (before after : Kept D) (fault : NodeFault) → RefusesToHear words before after fault → fault ≡ Unknown → ⊥
hears_known words before after Unknown refused is = refused
hears_known words before after NoMemory refused is = absurd (cc)
hears_known words before after Stopped refused is = absurd (cc)
hears_known words before after Full refused is = absurd (cc)
hears_known words before after TooMany refused is = refused
hears_known words before after NotDue refused is = refused
hears_known words before after Busy refused is = refused
hears_known words before after NoSecond refused is = refused
hears_known words before after (Open cause) refused is = refused
