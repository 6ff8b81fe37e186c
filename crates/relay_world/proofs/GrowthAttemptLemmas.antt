-- Whatever event comes, an attempt goes on or comes to an end, and an outcome stays.
use Rattle.std.proofs.Common.{◌≡◌, inl, inr, ℕ, List, [], ◌∷◌, length, Option, None, Some, refl, sym, subst, ap, ◌∙◌, arith}
use Rattle.std.specs.Prelude.{slice_get}
use Rattle.std.proofs.lemmas.Bool.{cases_eq}
use Rattle.std.proofs.lemmas.Option.{same_Some, slice_get_within}
use Rattle.relay_disk.specs.Device.{DiskWords}
use Rattle.relay_book.specs.declared.change.Change.{Change}
use Rattle.relay_node.specs.Node.{NodeState}
use Rattle.relay_records.specs.Staged.{Row, no_row}
use Rattle.relay_world.specs.declared.attempt.Attempt.{Attempt}
use Rattle.relay_world.specs.declared.attempt.Fate.{Fate}
use Rattle.relay_world.specs.declared.attempt.Fate.TheVariants.{Running, Replied, Lost, Dropped}
use Rattle.relay_world.specs.Bound.{IsBound, MayBeIn, MayHaveCome, MayHaveEnded}
use Rattle.relay_world.specs.Crashes.{let_go as lets_go}
use Rattle.relay_world.specs.Groups.{AttemptDropped, HasHeardAll, HasHeardEach, HasReadInto, HasReopenedAfterGroup, HasTurnedTo, Heard, IsOpenedAgain, OutcomeInto, Piece, Read, SessionEnded}
use Rattle.relay_world.specs.Growth.{AttemptGrows, AttemptsGrow, FateGrows, HasCeased}
use Rattle.relay_world.specs.HangUp.{HangsUp}
use Rattle.relay_world.specs.Once.{BreaksOff, Drops, Ends, GivesUp, GoesOn, Happens, Hears, IsNotOpened, LetsGo, Loses, Opens, Reads, Reopens, Starts, Stops, StopsInGivingUp, StopsInHearing, StopsInLosing, StopsInReading, Ticks, Writes, Closes, HearsAll, ReopensAfterGroup}
use Rattle.relay_world.specs.Steps.{AttemptOf, IsPut, RecordsRead}
use Rattle.relay_world.specs.Stops.{Decides, Finds, FindsOutcome, HasReopened}
use Rattle.relay_world.specs.World.{Down, FromClient, FromLoss, FromGivingUp, FromReplies, Host, Origin, Undecided, World}
use Rattle.relay_world.proofs.CrashRestLemmas.{hangs}
use Rattle.relay_world.proofs.HangUpLemmas.{LooseAttempt, attempt_onward}
use Rattle.relay_world.proofs.OpenLemmas.{list_there}

-- what becomes of an attempt that has come to an end has come to one too
ceased_on : (then now : Fate) → HasCeased then → FateGrows then now → HasCeased now
ceased_on (Running slot) now ceased grows = absurd ceased
ceased_on (Replied number) now ceased grows = subst HasCeased (sym grows) tt
ceased_on (Lost number) now ceased grows = subst HasCeased (sym grows) tt
ceased_on Dropped now ceased grows = grows

fate_on : (was then now : Fate) → FateGrows was then → FateGrows then now → FateGrows was now
fate_on (Running slot) then now (inl same) second = subst (λ f. FateGrows f now) same second
fate_on (Running slot) then now (inr ceased) second = inr (ceased_on then now ceased second)
fate_on (Replied number) then now first second = subst (λ f. FateGrows f now) first second
fate_on (Lost number) then now first second = subst (λ f. FateGrows f now) first second
fate_on Dropped then now first second = ceased_on then now first second

same_fate : (fate : Fate) → FateGrows fate fate
same_fate (Running slot) = inl refl
same_fate (Replied number) = refl
same_fate (Lost number) = refl
same_fate Dropped = tt

same_attempt : (attempt : Attempt) → AttemptGrows attempt attempt
same_attempt attempt = record { same = refl; fate = same_fate attempt.fate }

-- an attempt that ran, or was dropped, and has come to this end
ran_grows : (attempt : Attempt) (slot : ℕ) (fate : Fate) → attempt.fate ≡ Running slot → HasCeased fate
    → AttemptGrows attempt (record attempt { fate = fate })
ran_grows attempt slot fate runs ceased =
    record { same = refl; fate = subst (λ f. FateGrows f fate) (sym runs) (inr ceased) }

found_grows : (attempt : Attempt) (fate : Fate) → attempt.fate ≡ Dropped → HasCeased fate
    → AttemptGrows attempt (record attempt { fate = fate })
found_grows attempt fate dropped ceased =
    record { same = refl; fate = subst (λ f. FateGrows f fate) (sym dropped) ceased }

loose_grows : (was now : Attempt) → LooseAttempt was now → AttemptGrows was now
loose_grows was now (inl same) = subst (λ a. AttemptGrows was a) (sym same) (same_attempt was)
loose_grows was now (inr gone) =
    subst (λ a. AttemptGrows was a) (sym gone.2) (ran_grows was gone.0 Dropped gone.1 tt)

attempt_on : (was then now : Attempt) → AttemptGrows was then → AttemptGrows then now → AttemptGrows was now
attempt_on was then now first second = record {
  same = second.same ∙ ap (λ (a : Attempt). record a { fate = now.fate }) first.same;
  fate = fate_on was.fate then.fate now.fate first.fate second.fate;
}

pub attempts_on : {D : Type 0} (old next new : World D) → AttemptsGrow old next → AttemptsGrow next new → AttemptsGrow old new
attempts_on old next new first second at attempt is =
    let one = first at attempt is in
    let other = second at one.0 one.1 in
    (other.0, other.1, attempt_on attempt one.0 other.0 one.2 other.2)

module _ {D : Type 0} (old new : World D) where
  pub attempts_same : new.attempts ≡ old.attempts → AttemptsGrow old new
  attempts_same same at attempt is = (attempt, ap (λ l. slice_get l at) same ∙ is, same_attempt attempt)

  -- one attempt has changed
  attempts_put : (place : ℕ) (was now : Attempt) → slice_get old.attempts place ≡ Some was
      → IsPut old.attempts new.attempts place now → AttemptGrows was now → AttemptsGrow old new
  attempts_put place was now there put grows at attempt is = elim (cases_eq at place) [
    | inl same ↦ (
      now,
      ap (λ k. slice_get new.attempts k) same ∙ put.at,
      subst (λ a. AttemptGrows a now)
          (same_Some was attempt (sym there ∙ ap (λ k. slice_get old.attempts k) (sym same) ∙ is)) grows,
    )
    | inr off ↦ (attempt, put.others at off ∙ is, same_attempt attempt)
  ]

  -- one has come to an end
  ended : (number : ℕ) (of : AttemptOf old number) (fate : Fate) → HasCeased fate
      → IsPut old.attempts new.attempts of.place (record of.attempt { fate = fate }) → AttemptsGrow old new
  ended number of fate ceased put =
      attempts_put of.place of.attempt (record of.attempt { fate = fate }) of.attempt_at put
      (ran_grows of.attempt of.slot fate of.runs ceased)

  -- one more has begun
  begun : (attempt : Attempt) → IsPut old.attempts new.attempts (length old.attempts) attempt → AttemptsGrow old new
  begun attempt put at was is = elim (cases_eq at (length old.attempts)) [
    | inl same ↦ let within = slice_get_within old.attempts at was is in absurd (omega (arith, within, same))
    | inr off ↦ (was, put.others at off ∙ is, same_attempt was)
  ]

  read_by : (number : ℕ) (of : AttemptOf old number) (after : NodeState D) (change : Option ℕ)
      → RecordsRead old new number of after change → AttemptsGrow old new
  read_by number of after None records = attempts_same records.2
  read_by number of after (Some change) records = ended number of (Replied change) tt records.attempts

  let_go : (node : ℕ) → HangsUp old new node → AttemptsGrow old new
  let_go node hangs at was is =
      let next = attempt_onward node (slice_get old.attempts at) (slice_get hangs.attempts at) was (hangs.each_attempt at) is in (
        next.0,
        ap (λ (w : World D). slice_get w.attempts at) hangs.new_is ∙ next.1,
        loose_grows was next.0 next.2,
      )

module _ {D : Type 0} (honest : Type 0) (words : DiskWords D) where
  -- a node that turns to a link
  read_into : (at : ℕ) (old new : World D) (node : ℕ) (piece : Piece) (row left : Row)
      → HasReadInto honest words at old new node piece row left → AttemptsGrow old new
  read_into at old new node piece row left is = by is.replied.change is.outcome
    where
      by : (change : Option ℕ) → OutcomeInto honest words old new piece.number is.of is.after row left change
          → AttemptsGrow old new
      by None puts = attempts_same old new puts.2
      by (Some change) ends = ended old new piece.number is.of (Replied change) tt ends.attempts

  pub turned_to : (at : ℕ) (old new : World D) (node : ℕ) (piece : Piece) (row left : Row)
      → HasTurnedTo honest words at old new node piece row left → AttemptsGrow old new
  turned_to at old new node piece row left (Heard hears) = attempts_same old new hears.rest.0
  turned_to at old new node piece row left (SessionEnded ends here same) = attempts_same old new ends.rest.0
  turned_to at old new node piece row left (Read reads) = read_into at old new node piece row left reads
  turned_to at old new node piece row left (AttemptDropped drops here same) =
      ended old new piece.number drops.of Dropped tt drops.attempts

  heard_each : (at : ℕ) (old new : World D) (node : ℕ) (pieces : List Piece) (row left : Row)
      → HasHeardEach honest words at old new node pieces row left → AttemptsGrow old new
  heard_each at old new node [] row left each = attempts_same old new (ap (λ (w : World D). w.attempts) each.0)
  heard_each at old new node (piece ∷ pieces) row left (next, more, first, others) =
      attempts_on old next new (turned_to at old next node piece row more first)
      (heard_each at next new node pieces more left others)

  heard_all : (old new : World D) (node : ℕ) (pieces : List Piece) → HasHeardAll honest words old new node pieces
      → AttemptsGrow old new
  heard_all old new node pieces is =
      attempts_on old is.heard new (heard_each old.clock old is.heard node pieces no_row is.row is.each)
      (attempts_same is.heard new is.rest.1)

  pub opened_again : (world new : World D) (node : ℕ) (host : Host D) (after : NodeState D)
      → IsOpenedAgain world new node host after → AttemptsGrow world new
  opened_again world new node host after again =
      attempts_on world (lets_go node world) new (let_go world (lets_go node world) node (hangs node world))
      (attempts_same (lets_go node world) new (ap (λ (w : World D). w.attempts) again.new_is))

  reopened_after : (old new : World D) (node : ℕ) (pieces : List Piece)
      → HasReopenedAfterGroup honest words old new node pieces → AttemptsGrow old new
  reopened_after old new node pieces is = elim is.decides [
    | inl none ↦ opened_again old new node is.before.host is.after none.1
    | inr all ↦
        attempts_on old is.heard new (heard_each is.at old is.heard node pieces no_row is.row is.each)
        (opened_again is.heard new node is.staged.host is.after all.1)
  ]

  module _ (old new : World D) (lists : List (List Change)) (bound : IsBound honest words old lists) where
    -- the outcome of an attempt that was dropped is found
    outcome : (node : ℕ) (host : Host D) (changes : List Change) (undecided : Undecided)
        (may : MayBeIn old node host changes undecided) (number place used : ℕ) (fate : Fate) → HasCeased fate
        → FindsOutcome old new number place used fate
        → MayHaveEnded old node host changes may.change undecided.note number place fate → AttemptsGrow old new
    outcome node host changes undecided may number place used fate ceased finds came =
        let same : came.attempt ≡ finds.attempt =
        same_Some came.attempt finds.attempt (sym came.attempt_at ∙ finds.attempt_at) in
        attempts_put old new place finds.attempt (record finds.attempt { fate = fate }) finds.attempt_at finds.attempts
        (found_grows finds.attempt fate (ap (λ (a : Attempt). a.fate) (sym same) ∙ came.dropped) ceased)

    found : (node : ℕ) (host : Host D) (changes : List Change) (undecided : Undecided)
        (may : MayBeIn old node host changes undecided) (origin : Origin) → Finds old new undecided.note origin
        → MayHaveCome old node host changes may.change undecided.note origin → AttemptsGrow old new
    found node host changes undecided may (FromClient number) finds came = attempts_same old new finds.attempts
    found node host changes undecided may (FromReplies number place message) finds came =
        outcome node host changes undecided may number place undecided.note.used (Replied undecided.note.number) tt finds came
    found node host changes undecided may (FromLoss number place message) finds came =
        outcome node host changes undecided may number place undecided.note.used (Lost undecided.note.number) tt finds came
    found node host changes undecided may (FromGivingUp message) finds came = attempts_same old new finds.1

    reopened : (node : ℕ) → HasReopened honest words old new node → AttemptsGrow old new
    reopened node is = by is.undecided refl is.decides
      where
        by : (undecided : Option Undecided) → is.undecided ≡ undecided
            → Decides old new node is.host is.after undecided → AttemptsGrow old new
        by None same none = attempts_same old new none.attempts
        by (Some undecided) same (inl none) = attempts_same old new none.1.attempts
        by (Some undecided) same (inr its) =
            let listed = list_there old.hosts lists node is.host bound.even is.host_at in
            let may : MayBeIn old node is.host listed.0 undecided =
            bound.may_be_in node is.host listed.0 is.disk undecided (record { host_at = is.host_at; list_at = listed.1 })
            (is.down ∙ ap (λ u. Down is.disk u) same) in
            found node is.host listed.0 undecided may undecided.origin its.1.finds may.came

    -- each event, in a line
    pub event_attempts : Happens honest words old new → AttemptsGrow old new
    event_attempts (Opens node peer is) = attempts_same old new is.rest.0
    event_attempts (Writes number octets is) = attempts_same old new (ap (λ (w : World D). w.attempts) is.new_is)
    event_attempts (Hears number count is) = attempts_same old new is.rest.0
    event_attempts (HearsAll node pieces is) = heard_all old new node pieces is
    event_attempts (Ends number is) = attempts_same old new is.rest.0
    event_attempts (Closes number reply is) = attempts_same old new is.ends.rest.0
    event_attempts (Reads number count is) = read_by old new number is.of is.after is.replied.change is.records
    event_attempts (Loses number change is) = ended old new number is.of (Lost change) tt is.records.attempts
    event_attempts (Drops number is) = ended old new number is.of Dropped tt is.attempts
    event_attempts (BreaksOff number is) = attempts_same old new (ap (λ (w : World D). w.attempts) is.new_is)
    event_attempts (Starts number message hop is) = begun old new is.attempt is.attempts
    event_attempts (GivesUp reason node message change is) = attempts_same old new is.rest.1
    event_attempts (Stops node is) = attempts_same old new is.rest.1
    event_attempts (StopsInHearing number count is) = attempts_same old new is.rest.0
    event_attempts (StopsInReading number count is) = ended old new number is.of Dropped tt is.drops.attempts
    event_attempts (StopsInLosing number is) = ended old new number is.of Dropped tt is.drops.attempts
    event_attempts (StopsInGivingUp reason node message is) = attempts_same old new is.rest.1
    event_attempts (IsNotOpened node is) = attempts_same old new is.rest.1
    event_attempts (Reopens node is) = reopened node is
    event_attempts (ReopensAfterGroup node pieces is) = reopened_after old new node pieces is
    event_attempts (Ticks clock is) = attempts_same old new (ap (λ (w : World D). w.attempts) is.new_is)
    event_attempts (LetsGo node is) = let_go old new node is
    event_attempts (GoesOn node is) = attempts_same old new is.rest.1
