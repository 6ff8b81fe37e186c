-- A stop of a node keeps a place from being tried twice, and so does its opening.
use Rattle.std.proofs.Common.{◌≡◌, ℕ, true, List, [], None, Some, refl, sym, subst, ap, ◌∙◌}
use Rattle.std.specs.Prelude.{slice_get}
use Rattle.std.proofs.lemmas.List.{append-nil}
use Rattle.std.proofs.lemmas.Option.{none-some, same_Some}
use Rattle.relay_disk.specs.Device.{DiskWords}
use Rattle.relay_disk.specs.declared.disks.Disks.{Disks}
use Rattle.relay_book.specs.declared.change.Change.{Change}
use Rattle.relay_book.specs.declared.change.Outcome.{Outcome}
use Rattle.relay_book.specs.Queue.{Queue, message_of, queue_of}
use Rattle.relay_book.proofs.Theorems.{fold_knows}
use Rattle.relay_routes.specs.declared.config.Config.{Config}
use Rattle.relay_records.specs.Records.{Kept}
use Rattle.relay_attempts.specs.AddedOutcome.{reported_as}
use Rattle.relay_world.specs.declared.attempt.Fate.TheVariants.{Dropped}
use Rattle.relay_world.specs.Bound.{HostKeeps, IsBound, NodeKeeps}
use Rattle.relay_world.specs.GivingUp.{CutsGivenUp, Reason, Withdrawing, outcome_for}
use Rattle.relay_world.specs.Once.{EndsAlone, GivesUpAlone, IsTriedOnce}
use Rattle.relay_world.specs.Steps.{AttemptOf, IsPut}
use Rattle.relay_world.specs.Stops.{DropsAtStop, HasStopped, StaysDown, StopsGivingUp, StopsHearing, StopsLosing, StopsReading, cut_off_link}
use Rattle.relay_world.specs.World.{Down, FromClient, FromLoss, FromGivingUp, FromReplies, HostState, Host, Origin, Undecided, World}
use Rattle.relay_world.proofs.AddedLemmas.{AsksBy, given_up_alone, noted_octets}
use Rattle.relay_world.proofs.ClaimLemmas.{GivenUpKept, given_put, list_still, one_ended, outside_same}
use Rattle.relay_world.proofs.DownLemmas.{same_undecided}
use Rattle.relay_world.proofs.EventLemmas.{kept, moved_on, relinked, same_accepts, same_ends, served, there_same}
use Rattle.relay_world.proofs.GrowLemmas.{stored_fits}
use Rattle.relay_world.proofs.OpenLemmas.{list_there, node_kept}
use Rattle.relay_world.proofs.TakerLemmas.{ended_still, lists_stay}
use Rattle.relay_report.specs.Report.{reporter_of}

-- a node that is down with this note has no other
same_note : {D : Type 0} (disk other : Disks D) (one another : Undecided) → Down disk (Some one) ≡ Down other (Some another)
    → one ≡ another
same_note disk other one another same =
    same_Some one another (same_undecided disk other (Some one) (Some another) same)

from_client : (number message : ℕ) → FromClient number ≡ FromGivingUp message → ⊥
from_client number message same = cc

from_replies : (number place of message : ℕ) → FromReplies number place of ≡ FromGivingUp message → ⊥
from_replies number place of message same = cc

from_loss : (number place of message : ℕ) → FromLoss number place of ≡ FromGivingUp message → ⊥
from_loss number place of message same = cc

module _ {D : Type 0} (honest : Type 0) (words : DiskWords D) (old new : World D) (lists later : List (List Change))
    (bound : IsBound honest words old lists) {asked : List Withdrawing} (once : IsTriedOnce old lists asked) (now : IsBound honest words new later) where
  abbrev Given : Type 0
  Given = GivenUpKept honest words old new lists later bound once now

  -- nothing but what one node holds has changed
  pub state_alone : (node : ℕ) (host : Host D) (state : HostState D) → slice_get old.hosts node ≡ Some host
      → IsPut old.hosts new.hosts node (record host { state = state }) → new.links ≡ old.links → new.attempts ≡ old.attempts
      → new.ledger ≡ old.ledger → Given → IsTriedOnce new later asked
  state_alone node host state at put links attempts ledger given =
      kept honest words old new lists later bound once now
      (moved_on honest words old new lists later bound once now node host (record host { state = state }) at put refl
      ([], sym (append-nil host.records)))
      (there_same honest words old new lists later bound once now attempts)
      (lists_stay honest words old new lists later bound once now node host (record host { state = state }) at put refl)
      (same_ends honest words old new lists later bound once now attempts) given
      (outside_same honest words old new lists later bound once now links
      (same_accepts honest words old new lists later bound once now ledger))

  -- what came from a client or an attempt was not given up
  given_by : (node : ℕ) (host : Host D) (disk : Disks D) (undecided : Undecided)
      → IsPut old.hosts new.hosts node (record host { state = Down disk (Some undecided) })
      → slice_get old.hosts node ≡ Some host
      → ((message : ℕ) (changes : List Change) → slice_get lists node ≡ Some changes → undecided.origin ≡ FromGivingUp message
      → GivesUpAlone asked node host.config.routes changes undecided.note.octets) → Given
  given_by node host disk undecided put at here =
      given_put honest words old new lists later bound once now node (record host { state = Down disk (Some undecided) }) put
      (λ message changes other its there down origin.
      let same : undecided ≡ its = same_note disk other undecided its down in
      subst (λ (u : Undecided). GivesUpAlone asked node host.config.routes changes u.note.octets) same
      (here message changes
      (list_still honest words old new lists later bound once now node host
      (record host { state = Down disk (Some undecided) }) changes at refl there)
      (ap (λ (u : Undecided). u.origin) same ∙ origin)))

  pub stopped : (node : ℕ) → HasStopped honest words old new node → IsTriedOnce new later asked
  stopped node stops =
      state_alone node stops.host (Down stops.disk None) stops.host_at stops.hosts stops.rest.0 stops.rest.1 stops.rest.2
      (given_put honest words old new lists later bound once now node (record stops.host { state = Down stops.disk None })
      stops.hosts (λ message changes other its there down origin.
      absurd (none-some its (same_undecided stops.disk other None (Some its) down))))

  pub stopped_hearing : (number count : ℕ) → StopsHearing honest words old new number count → IsTriedOnce new later asked
  stopped_hearing number count stops =
      let undecided : Undecided = record { note = stops.noted; origin = FromClient number } in
      let moved : Host D = record stops.of.host { state = Down stops.disk (Some undecided) } in
      kept honest words old new lists later bound once now
      (moved_on honest words old new lists later bound once now stops.of.end.node stops.of.host moved stops.of.host_at stops.hosts
      refl ([], sym (append-nil stops.of.host.records)))
      (there_same honest words old new lists later bound once now stops.rest.0)
      (lists_stay honest words old new lists later bound once now stops.of.end.node stops.of.host moved stops.of.host_at
      stops.hosts refl)
      (same_ends honest words old new lists later bound once now stops.rest.0)
      (given_by stops.of.end.node stops.of.host stops.disk undecided stops.hosts stops.of.host_at
      (λ message changes is origin. absurd (from_client number message origin)))
      (served honest words old new lists later bound once now number (cut_off_link stops.of.link stops.of.end)
      (record stops.of.end { session = None }) refl stops.links
      (λ other off. same_accepts honest words old new lists later bound once now stops.rest.1 other))

  -- an attempt was dropped at a stop, of which no outcome is recorded yet
  dropped_at : (number : ℕ) (of : AttemptOf old number) (stopped_at : Kept D) (origin : Origin)
      → DropsAtStop honest words old new number of stopped_at origin → ((message : ℕ) → origin ≡ FromGivingUp message → ⊥)
      → IsTriedOnce new later asked
  dropped_at number of stopped_at origin drops off =
      let undecided : Undecided = record { note = drops.noted; origin = origin } in
      let moved : Host D = record of.host { state = Down drops.disk (Some undecided) } in
      kept honest words old new lists later bound once now
      (moved_on honest words old new lists later bound once now of.attempt.node of.host moved of.host_at drops.hosts refl
      ([], sym (append-nil of.host.records)))
      (one_ended honest words old new lists later bound once now of.place of.slot of.attempt Dropped of.attempt_at of.runs
      drops.attempts)
      (lists_stay honest words old new lists later bound once now of.attempt.node of.host moved of.host_at drops.hosts refl)
      (ended_still honest words old new lists later bound once now of.place of.slot of.attempt
      (record of.attempt { fate = Dropped }) of.attempt_at of.runs drops.attempts)
      (given_by of.attempt.node of.host drops.disk undecided drops.hosts of.host_at
      (λ message changes is same. absurd (off message same)))
      (relinked honest words old new lists later bound once now number of.link (record of.link { broken = true }) of.link_is refl
      drops.links (same_accepts honest words old new lists later bound once now drops.rest.0))

  pub stopped_reading : (number count : ℕ) → StopsReading honest words old new number count → IsTriedOnce new later asked
  stopped_reading number count stops =
      dropped_at number stops.of stops.stopped _ stops.drops
      (λ message same. from_replies number stops.of.place stops.of.attempt.message message same)

  pub stopped_losing : (number : ℕ) → StopsLosing honest words old new number → IsTriedOnce new later asked
  stopped_losing number stops =
      dropped_at number stops.of stops.stopped _ stops.drops
      (λ message same. from_loss number stops.of.place stops.of.attempt.message message same)

  pub stopped_giving_up : (reason : Reason) (node message : ℕ) → AsksBy asked reason node message → StopsGivingUp honest words old new reason node message → IsTriedOnce new later asked
  stopped_giving_up reason node message asks stops =
      state_alone node stops.host (Down stops.disk (Some undecided)) stops.host_at stops.hosts stops.rest.0 stops.rest.1
      stops.rest.2
      (given_by node stops.host stops.disk undecided stops.hosts stops.host_at (λ other changes is origin.
      subst (λ l. GivesUpAlone asked node stops.host.config.routes l stops.noted.octets)
      (same_Some listed.0 changes (sym listed.1 ∙ is)) none_taken))
    where
      undecided : Undecided
      undecided = record { note = stops.noted; origin = FromGivingUp message }

      listed : (list : List Change) × (slice_get lists node ≡ Some list)
      listed = list_there old.hosts lists node stops.host bound.even stops.host_at

      kept_here : HostKeeps honest words stops.host listed.0
      kept_here = bound.hosts node stops.host listed.0 (record { host_at = stops.host_at; list_at = listed.1 })

      its_node : NodeKeeps honest words stops.host.config stops.before listed.0
      its_node = node_kept honest words stops.host listed.0 stops.before kept_here stops.up

      cuts : CutsGivenUp honest words (reporter_of stops.before.config) stops.before.config.routes reason message old.clock listed.0
          stops.before.records stops.stopped
      cuts = stops.cuts listed.0 its_node.keeps

      outcome : Outcome
      outcome = outcome_for reason stops.before.config.routes message old.clock cuts.message

      none_taken : GivesUpAlone asked node stops.host.config.routes listed.0 stops.noted.octets
      none_taken = record {
        one = reported_as outcome cuts.cuts.report;
        valid = stored_fits (queue_of listed.0) (reported_as outcome cuts.cuts.report) cuts.cuts.cuts.fits;
        octets_are = noted_octets stops.stopped.noted stops.noted listed.0 (reported_as outcome cuts.cuts.report) 0 stops.note_is
            cuts.cuts.cuts.noted;
        alone = λ said same.
            subst (λ (c : Config). EndsAlone asked node c.routes listed.0 said) its_node.config_is
            (given_up_alone asked node reason stops.before.config.routes listed.0 message old.clock cuts.message cuts.cuts.report said asks
            (fold_knows listed.0 its_node.keeps.fitting message cuts.message
            (ap (λ (q : Queue). message_of q.messages message) (sym its_node.keeps.queue) ∙ cuts.found)).accept_is same);
      }

  pub stayed_down : (node : ℕ) → StaysDown honest words old new node → IsTriedOnce new later asked
  stayed_down node stays =
      state_alone node stays.host (Down stays.again stays.undecided) stays.host_at stays.hosts stays.rest.0 stays.rest.1
      stays.rest.2
      (given_put honest words old new lists later bound once now node
      (record stays.host { state = Down stays.again stays.undecided }) stays.hosts
      (λ message changes other its there down origin.
      let same : stays.undecided ≡ Some its = same_undecided stays.again other stays.undecided (Some its) down in
      once.given_up node message stays.host changes stays.disk its (record {
        host_at = stays.host_at;
        list_at = list_still honest words old new lists later bound once now node stays.host
            (record stays.host { state = Down stays.again stays.undecided }) changes stays.host_at refl there;
      }) (stays.down ∙ ap (λ u. Down stays.disk u) same) origin))
