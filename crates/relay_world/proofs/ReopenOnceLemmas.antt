-- A node that is opened again keeps a place from being tried twice, whether its undecided change is found or not.
use Rattle.std.proofs.Common.{◌≡◌, ◌+◌, ◌⊎◌, inl, inr, ℕ, suc, Bool, true, List, [], ◌∷◌, ◌++◌, length, Option, None, Some, refl, sym, subst, ap, ◌∙◌, cond}
use Rattle.std.specs.Prelude.{slice_get}
use Rattle.std.proofs.Math.Numerals.{add-one}
use Rattle.std.proofs.lemmas.Bool.{false≢true}
use Rattle.std.proofs.lemmas.Option.{same_Some}
use Rattle.relay_disk.specs.Device.{DiskWords}
use Rattle.relay_book.specs.declared.change.Change.{Change}
use Rattle.relay_book.specs.declared.change.Change.TheVariants as change
use Rattle.relay_book.specs.declared.change.Outcome.{Outcome}
use Rattle.relay_book.specs.declared.change.Verdict.{Verdict}
use Rattle.relay_book.specs.declared.change.Verdict.TheVariants.{Taken}
use Rattle.relay_book.specs.Marks.{Held, Transferred, change_at, place_steps}
use Rattle.relay_book.specs.Queue.{Fitting, queue_of}
use Rattle.relay_book.specs.Record.{IsChange}
use Rattle.relay_book.proofs.Theorems.{encoding_is_one}
use Rattle.relay_records.specs.declared.noted.Noted.{Noted}
use Rattle.relay_course.specs.Course.{Concludes}
use Rattle.relay_course.specs.VerdictTable.{all_later}
use Rattle.relay_world.specs.GivingUp.{Withdrawing}
use Rattle.relay_world.specs.declared.attempt.Attempt.{Attempt}
use Rattle.relay_world.specs.declared.attempt.Fate.{Fate}
use Rattle.relay_world.specs.declared.attempt.Fate.TheVariants.{Running, Replied, Lost, Dropped}
use Rattle.relay_world.specs.declared.link.Link.{Link}
use Rattle.relay_world.specs.Bound.{HasFate, HostKeeps, IsBound, IsListOf, MayBeHeard, MayBeIn, MayHaveCome, MayHaveEnded, PassesOn, StandsAt}
use Rattle.relay_world.specs.Children.{IsAttempt}
use Rattle.relay_world.specs.Ledger.{Accepts, lines_by, report_told, steps_by, steps_in}
use Rattle.relay_world.specs.Once.{Claims, ClaimsAt, EndsAlone, GivesUpAlone, IsTriedOnce}
use Rattle.relay_world.specs.Passing.{Rules}
use Rattle.relay_world.specs.Stops.{Decides, FindsAccept, FindsOutcome, Finds, HasFound, HasNotFound, HasReopened}
use Rattle.relay_world.specs.World.{Down, FromClient, FromLoss, FromGivingUp, FromReplies, Host, Origin, Undecided, Up, World}
use Rattle.relay_world.proofs.AddedLemmas.{none_accepts, same_outcome}
use Rattle.relay_world.proofs.ChildrenLemmas.{passes_of}
use Rattle.relay_world.proofs.ClaimLemmas.{GivenUpKept, HostsGrow, claim_before, given_up_at, hop_still, hosts_put, known_attempt, one_changed, outside_same, was_for, was_same}
use Rattle.relay_world.proofs.EventLemmas.{accepted_elsewhere, kept, left_same, relinked, same_ends, served, there_same}
use Rattle.relay_world.proofs.FrameLemmas.{get_last}
use Rattle.relay_world.proofs.GrowLemmas.{one_more, stored_fits}
use Rattle.relay_world.proofs.HeldLemmas.{held_before, last_fits, transferred_by}
use Rattle.relay_world.proofs.MoveLemmas.{put_cases}
use Rattle.relay_world.proofs.OpenLemmas.{list_there}
use Rattle.relay_world.proofs.PieceLemmas.{same_number}
use Rattle.relay_world.proofs.StopOnceLemmas.{state_alone}
use Rattle.relay_world.proofs.TakerLemmas.{AddsTo, EndedStay, HasTakers, ListsAdd, ended_put, lists_put, takers_kept}
use Rattle.relay_world.proofs.UndecidedLemmas.{up_not_down}

dropped_not_replied : (number : ℕ) → Replied number ≡ Dropped → ⊥
dropped_not_replied number same = cc

dropped_not_lost : (number : ℕ) → Lost number ≡ Dropped → ⊥
dropped_not_lost number same = cc

-- the verdicts of an attempt that was told of a loss
pub told_later : (places : List ℕ) (told : Bool) (rest : List ℕ) (ended verdicts : Option (List Verdict)) (all : List Verdict)
    → told ≡ true → verdicts ≡ Some all → Concludes places told rest ended verdicts → all ≡ all_later places
told_later places told rest (Some some) verdicts all is_told is so = absurd (false≢true (sym so.0 ∙ is_told))
told_later places told rest None verdicts all is_told is (inl so) = absurd (false≢true (sym so.0 ∙ is_told))
told_later places told rest None verdicts all is_told is (inr (inl so)) =
    same_Some all (all_later places) (sym is ∙ so.2)
told_later places told rest None verdicts all is_told is (inr (inr so)) = absurd (false≢true (sym so.0 ∙ is_told))

module _ {D : Type 0} (honest : Type 0) (words : DiskWords D) (old new : World D) (lists later : List (List Change))
    (bound : IsBound honest words old lists) {asked : List Withdrawing} (once : IsTriedOnce old lists asked) (now : IsBound honest words new later) (node : ℕ)
    (reopens : HasReopened honest words old new node) where
  listed : (list : List Change) × (slice_get lists node ≡ Some list)
  listed = list_there old.hosts lists node reopens.host bound.even reopens.host_at

  stands : StandsAt old lists node reopens.host listed.0
  stands = record { host_at = reopens.host_at; list_at = listed.1 }

  keeps : HostKeeps honest words reopens.host listed.0
  keeps = bound.hosts node reopens.host listed.0 stands

  not_found : HasNotFound old new node reopens.host reopens.after → IsTriedOnce new later asked
  not_found none =
      state_alone honest words old new lists later bound once now node reopens.host (Up reopens.after) reopens.host_at none.hosts
      none.links none.attempts none.ledger
      (given_up_at honest words old new lists later bound once now node reopens.host reopens.after reopens.host.records
      none.hosts)

  module _ (undecided : Undecided) (is : reopens.undecided ≡ Some undecided)
      (found : HasFound old new node reopens.host reopens.after undecided) where
    down : reopens.host.state ≡ Down reopens.disk (Some undecided)
    down = reopens.down ∙ ap (λ u. Down reopens.disk u) is

    may : MayBeIn old node reopens.host listed.0 undecided
    may = bound.may_be_in node reopens.host listed.0 reopens.disk undecided stands down

    abbrev note : Noted
    note = undecided.note

    abbrev moved : Host D
    moved = record reopens.host {
      state = Up reopens.after;
      records = reopens.host.records ++ undecided.note.octets ∷ [];
    }

    number_is : note.number ≡ suc (length listed.0)
    number_is = may.number ∙ add-one (length listed.0)

    grow : HostsGrow honest words old new lists later bound once now
    grow = hosts_put honest words old new lists later bound once now node reopens.host moved reopens.host_at found.hosts refl
        (note.octets ∷ [], refl)

    given : GivenUpKept honest words old new lists later bound once now
    given = given_up_at honest words old new lists later bound once now node reopens.host reopens.after
        (reopens.host.records ++ undecided.note.octets ∷ []) found.hosts

    grown_is : (more : List Change) → IsListOf (reopens.host.records ++ note.octets ∷ []) more
        → more ≡ listed.0 ++ may.change ∷ []
    grown_is more more_is =
        one_more reopens.host.records note.octets listed.0 more may.change keeps.list may.fitting may.octets more_is

    adds : HasTakers honest words old new lists later bound once now node listed.0 may.change
        → ListsAdd honest words old new lists later bound once now
    adds takers =
        lists_put honest words old new lists later bound once now node reopens.host moved reopens.host_at found.hosts
        (λ before more first second was more_is.
        subst (λ l. AddsTo honest words old new lists later bound once now node l more)
        (same_Some listed.0 before (sym listed.1 ∙ first)) (inr (may.change, grown_is more more_is, takers)))

    -- an accept is found
    found_accept : (number : ℕ) → FindsAccept old new number note.used
        → MayBeHeard old node reopens.host listed.0 may.change note number
        → new.ledger ≡ old.ledger ++ lines_by node note (FromClient number)
        → steps_in node (lines_by node note (FromClient number)) ≡ steps_by listed.0 may.change → IsTriedOnce new later asked
    found_accept number finds came ledger steps =
        kept honest words old new lists later bound once now grow
        (there_same honest words old new lists later bound once now finds.attempts)
        (adds (λ outcome same was at.
        absurd (none_accepts outcome.message _ note.number note.accepted (place_steps (queue_of listed.0) (change.Outcome outcome))
        (ap (λ c. steps_by listed.0 c) (sym same) ∙ sym steps
        ∙ ap (λ b. cond b (Accepts note.number note.accepted ∷ []) [] ++ []) (same_number node)))))
        (same_ends honest words old new lists later bound once now finds.attempts) given
        (served honest words old new lists later bound once now number
        (record finds.link { up_read = finds.link.up_read + note.used }) came.end
        (ap (λ (l : Link). l.server) (same_Some finds.link came.link (sym finds.link_is ∙ came.link_is)) ∙ came.serves)
        finds.links (accepted_elsewhere old.ledger new.ledger node note.number note.accepted number ledger))

    -- places are found to be given up
    found_given_up : (message : ℕ) → undecided.origin ≡ FromGivingUp message → new.links ≡ old.links → new.attempts ≡ old.attempts
        → new.ledger ≡ old.ledger ++ lines_by node note (FromGivingUp message) → IsTriedOnce new later asked
    found_given_up message origin links attempts ledger =
        let none : GivesUpAlone asked node reopens.host.config.routes listed.0 note.octets =
        once.given_up node message reopens.host listed.0 reopens.disk undecided stands down origin in
        let valid : IsChange may.change =
        stored_fits (queue_of listed.0) may.change (last_fits listed.0 may.change may.fitting) in
        let one : none.one ≡ may.change =
        encoding_is_one none.one may.change none.valid valid (sym none.octets_are ∙ may.octets) in
        kept honest words old new lists later bound once now grow
        (there_same honest words old new lists later bound once now attempts)
        (adds (λ outcome same was at. inr
        (subst (λ (h : Host D). EndsAlone asked node h.config.routes listed.0 outcome)
        (same_Some reopens.host was (sym reopens.host_at ∙ at)) (none.alone outcome (one ∙ same)))))
        (same_ends honest words old new lists later bound once now attempts) given
        (outside_same honest words old new lists later bound once now links
        (left_same old.ledger new.ledger node message 0 (report_told note.number note.report) note.left.items ledger))

    -- the outcome of an attempt is found
    module _ (number place message : ℕ) (fate : Fate) (finds : FindsOutcome old new number place note.used fate)
        (came : MayHaveEnded old node reopens.host listed.0 may.change note number place fate) where
      same_attempt : came.attempt ≡ finds.attempt
      same_attempt = same_Some came.attempt finds.attempt (sym came.attempt_at ∙ finds.attempt_at)

      abbrev attempt_now : Attempt
      attempt_now = record finds.attempt { fate = fate }

      dropped : finds.attempt.fate ≡ Dropped
      dropped = ap (λ (a : Attempt). a.fate) (sym same_attempt) ∙ came.dropped

      stay : EndedStay honest words old new lists later bound once now
      stay = ended_put honest words old new lists later bound once now place attempt_now finds.attempts (λ n k ended same.
          let its_fate = ap (λ (a : Attempt). a.fate) (same_Some ended.attempt finds.attempt
          (sym ended.is_there ∙ ap (λ i. slice_get old.attempts i) same ∙ finds.attempt_at)) ∙ dropped in
          elim ended.ended [
            | inl replied ↦ dropped_not_replied k (sym replied ∙ its_fate)
            | inr lost ↦ dropped_not_lost k (sym lost ∙ its_fate)
          ])

      -- an outcome under the next number is the change
      outcome_is : (outcome : Outcome) → change_at (listed.0 ++ may.change ∷ []) note.number ≡ Some (change.Outcome outcome)
          → may.change ≡ change.Outcome outcome
      outcome_is outcome at =
          same_Some may.change (change.Outcome outcome) (sym (get_last listed.0 may.change)
          ∙ ap (λ k. change_at (listed.0 ++ may.change ∷ []) k) (sym number_is) ∙ at)

    -- of an attempt whose link was lost
    module _ (number place message : ℕ) (finds : FindsOutcome old new number place note.used (Lost note.number))
        (came : MayHaveEnded old node reopens.host listed.0 may.change note number place (Lost note.number)) where
      lost_now : HasTakers honest words old new lists later bound once now node listed.0 may.change
      lost_now outcome same was at = inl (record {
        at = place;
        attempt = record finds.attempt { fate = Lost note.number };
        is_there = finds.attempts.at;
        its_node = ap (λ (a : Attempt). a.node) (sym (same_attempt number place message (Lost note.number) finds came))
            ∙ came.its_node;
        ended = inr (ap (λ k. Lost k) number_is);
      })

      found_lost : new.ledger ≡ old.ledger ++ lines_by node note (FromLoss number place message) → IsTriedOnce new later asked
      found_lost ledger =
          kept honest words old new lists later bound once now grow
          (one_changed honest words old new lists later bound once now place finds.attempt (Lost note.number) finds.attempt_at
          (λ changes p claims. absurd claims) finds.attempts)
          (adds lost_now)
          (stay number place message (Lost note.number) finds came) given
          (relinked honest words old new lists later bound once now number finds.link
          (record finds.link { down_read = finds.link.down_read + note.used }) finds.link_is refl finds.links
          (left_same old.ledger new.ledger node message number (report_told note.number note.report) note.left.items ledger))

    -- of an attempt that replies ended: it may have taken places, which were held
    module _ (number place message : ℕ) (finds : FindsOutcome old new number place note.used (Replied note.number))
        (came : MayHaveEnded old node reopens.host listed.0 may.change note number place (Replied note.number)) where
      abbrev now_replied : Attempt
      now_replied = record finds.attempt { fate = Replied note.number }

      same_one : came.attempt ≡ finds.attempt
      same_one = same_attempt number place message (Replied note.number) finds came

      takers : HasTakers honest words old new lists later bound once now node listed.0 may.change
      takers outcome same was at = inl (record {
        at = place;
        attempt = now_replied;
        is_there = finds.attempts.at;
        its_node = ap (λ (a : Attempt). a.node) (sym same_one) ∙ came.its_node;
        ended = inl (ap (λ k. Replied k) number_is);
      })

      -- what was claimed before isn't claimed by it now
      module _ (other its letter p : ℕ) (mine : ClaimsAt new later place its letter p) (same : now_replied ≡ mine.attempt)
          (yours : ClaimsAt old lists other its letter p) where
        its_is : its ≡ node
        its_is = sym mine.its_node ∙ ap (λ (a : Attempt). a.node) (sym same)
            ∙ ap (λ (a : Attempt). a.node) (sym same_one) ∙ came.its_node

        claims_now : (dsn : Bool) × Rules mine.changes note.number p (Taken dsn)
        claims_now = subst (λ f. Claims mine.changes p f) (ap (λ (a : Attempt). a.fate) (sym same)) mine.claims

        list_now : mine.changes ≡ listed.0 ++ may.change ∷ []
        list_now = grown_is mine.changes
            (now.hosts node moved mine.changes (record {
              host_at = found.hosts.at;
              list_at = ap (λ n. slice_get later n) (sym its_is) ∙ mine.list_at;
            })).list

        change_is : may.change ≡ change.Outcome claims_now.1.outcome
        change_is = outcome_is number place message (Replied note.number) finds came claims_now.1.outcome
            (ap (λ l. change_at l note.number) (sym list_now) ∙ claims_now.1.found)

        its_message : claims_now.1.outcome.message ≡ letter
        its_message =
            let fate = came.with_it.fate in
            let told = outcome_is number place message (Replied note.number) finds came _ fate.1.2.found in
            ap (λ (o : Outcome). o.message) (same_outcome claims_now.1.outcome _ (sym change_is ∙ told))
            ∙ ap (λ (a : Attempt). a.message) same_one ∙ ap (λ (a : Attempt). a.message) same ∙ mine.its_message

        held : Held listed.0 letter p
        held = subst (λ m. Held listed.0 m p) its_message
            (held_before listed.0 claims_now.1.outcome p (Taken claims_now.0) keeps.list.fitting
            (subst (λ c. Fitting (listed.0 ++ c ∷ [])) change_is may.fitting) claims_now.1.ruling)

        known : (host : Host D) × (changes : List Change) × (link : Link) × IsAttempt old lists host changes link yours.attempt
        known = known_attempt honest words old lists bound other yours.attempt yours.is_there

        passes : PassesOn known.0 known.1 known.2 yours.attempt
        passes = passes_of honest words old lists bound known.0 known.1 known.2 yours.attempt known.3

        same_host : known.0 ≡ reopens.host
        same_host = same_Some known.0 reopens.host
            (sym known.3.stands.host_at ∙ ap (λ n. slice_get old.hosts n) (yours.its_node ∙ its_is) ∙ reopens.host_at)

        same_list : known.1 ≡ listed.0
        same_list = same_Some known.1 listed.0
            (sym known.3.stands.list_at ∙ ap (λ n. slice_get lists n) (yours.its_node ∙ its_is) ∙ listed.1)

        claimed_by : yours.changes ≡ listed.0
        claimed_by = same_Some yours.changes listed.0
            (sym yours.list_at ∙ ap (λ n. slice_get lists n) its_is ∙ listed.1)

        clash : ⊥
        clash = by yours.attempt.fate refl yours.claims
          where
            by : (fate : Fate) → yours.attempt.fate ≡ fate → Claims yours.changes p fate → ⊥
            by (Running slot) is_fate claims =
                let fate : HasFate known.0 known.1 known.2 yours.attempt passes.accept passes.output passes.told passes.verdicts
                (Running slot) =
                subst
                (λ f. HasFate known.0 known.1 known.2 yours.attempt passes.accept passes.output passes.told passes.verdicts f)
                is_fate passes.fate in
                up_not_down fate.2.0 reopens.disk (Some undecided)
                (sym fate.2.1 ∙ ap (λ (h : Host D). h.state) same_host ∙ down)
            by (Replied k) is_fate claims =
                let transferred : Transferred known.1 yours.attempt.message p =
                transferred_by known.0 known.1 known.2 yours.attempt passes k p claims.0 is_fate
                (subst (λ l. Rules l k p (Taken claims.0)) (claimed_by ∙ sym same_list) claims.1) in
                held.1 (subst (λ m. Transferred listed.0 m p) yours.its_message
                (subst (λ l. Transferred l yours.attempt.message p) same_list transferred))
            by (Lost k) is_fate claims = claims
            by Dropped is_fate claims = claims

      claim_cases : (at its letter p : ℕ) (claim : ClaimsAt new later at its letter p)
          → ((at ≡ place) × (now_replied ≡ claim.attempt)) ⊎ ClaimsAt old lists at its letter p
      claim_cases at its letter p claim =
          elim (put_cases old.attempts new.attempts place now_replied finds.attempts at claim.attempt claim.is_there) [
            | inl here ↦ inl here
            | inr there ↦ inr (claim_before honest words old new lists later bound once now grow at its letter p claim
                (was_same honest words old new lists later bound once now at claim.attempt there.1))
          ]

      clashes : (at other its letter p : ℕ) (mine : ClaimsAt new later at its letter p) → at ≡ place
          → now_replied ≡ mine.attempt → ClaimsAt old lists other its letter p → ⊥
      clashes at other its letter p mine here same yours =
          clash other its letter p (record {
            attempt = mine.attempt;
            is_there = ap (λ n. slice_get new.attempts n) (sym here) ∙ mine.is_there;
            its_node = mine.its_node;
            its_message = mine.its_message;
            tries = mine.tries;
            changes = mine.changes;
            list_at = mine.list_at;
            claims = mine.claims;
          }) same yours

      found_replied : new.ledger ≡ old.ledger ++ lines_by node note (FromReplies number place message) → IsTriedOnce new later asked
      found_replied ledger = record {
        once = λ one other its letter p mine yours.
            elim (claim_cases one its letter p mine) [
              | inl here ↦ elim (claim_cases other its letter p yours) [
                | inl also ↦ here.0 ∙ sym also.0
                | inr there ↦ absurd (clashes one other its letter p mine here.0 here.1 there)
              ]
              | inr there ↦ elim (claim_cases other its letter p yours) [
                | inl here ↦ absurd (clashes other one its letter p yours here.0 here.1 there)
                | inr also ↦ once.once one other its letter p there also
              ]
            ];
        hops = λ at attempt is_there.
            elim (put_cases old.attempts new.attempts place now_replied finds.attempts at attempt is_there) [
              | inl here ↦ hop_still honest words old new lists later bound once now grow at attempt is_there
                  (was_for honest words old new lists later bound once now place finds.attempt (Replied note.number)
                  finds.attempt_at at attempt here.0 here.1)
              | inr there ↦ hop_still honest words old new lists later bound once now grow at attempt is_there
                  (was_same honest words old new lists later bound once now at attempt there.1).its
            ];
        outcomes = takers_kept honest words old new lists later bound once now grow (adds takers)
            (stay number place message (Replied note.number) finds came);
        given_up = given;
        outside = relinked honest words old new lists later bound once now number finds.link
            (record finds.link { down_read = finds.link.down_read + note.used }) finds.link_is refl finds.links
            (left_same old.ledger new.ledger node message number (report_told note.number note.report) note.left.items ledger);
      }

    found_by : (origin : Origin) → undecided.origin ≡ origin → Finds old new note origin
        → MayHaveCome old node reopens.host listed.0 may.change note origin
        → new.ledger ≡ old.ledger ++ lines_by node note origin
        → steps_in node (lines_by node note origin) ≡ steps_by listed.0 may.change → IsTriedOnce new later asked
    found_by (FromClient number) same finds came ledger steps = found_accept number finds came ledger steps
    found_by (FromReplies number place message) same finds came ledger steps =
        found_replied number place message finds came ledger
    found_by (FromLoss number place message) same finds came ledger steps = found_lost number place message finds came ledger
    found_by (FromGivingUp message) same finds came ledger steps = found_given_up message same finds.0 finds.1 ledger

    it_is_found : IsTriedOnce new later asked
    it_is_found = found_by undecided.origin refl found.finds may.came found.ledger may.steps

  decided : (undecided : Option Undecided) → reopens.undecided ≡ undecided
      → Decides old new node reopens.host reopens.after undecided → IsTriedOnce new later asked
  decided None is none = not_found none
  decided (Some undecided) is (inl none) = not_found none.1
  decided (Some undecided) is (inr found) = it_is_found undecided is found.1

  pub reopened_once : IsTriedOnce new later asked
  reopened_once = decided reopens.undecided refl reopens.decides

pub reopened : {D : Type 0} {asked : List Withdrawing} (honest : Type 0) (words : DiskWords D) (old new : World D) (lists later : List (List Change))
    → IsBound honest words old lists → IsTriedOnce old lists asked → IsBound honest words new later → (node : ℕ)
    → HasReopened honest words old new node → IsTriedOnce new later asked
reopened honest words old new lists later bound once now node reopens =
    reopened_once honest words old new lists later bound once now node reopens
