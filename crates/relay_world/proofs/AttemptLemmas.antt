-- What is known of an attempt that runs at the client end of a link.
use Rattle.std.proofs.Common.{◌≡◌, ◌≢◌, ℕ, List, take, Option, Some, refl, sym, subst, ap, ◌∙◌}
use Rattle.std.specs.Prelude.{slice_get}
use Rattle.std.proofs.lemmas.Option.{same_Some}
use Rattle.relay_disk.specs.Device.{DiskWords}
use Rattle.relay_slots.specs.Slots.{slot_at}
use Rattle.relay_book.specs.declared.change.Change.{Change}
use Rattle.relay_attempts.specs.declared.runs.Run.{Run}
use Rattle.relay_attempts.specs.Reply.{Told}
use Rattle.relay_node.specs.Attempts.{Tells}
use Rattle.relay_node.specs.Node.{NodeState}
use Rattle.relay_world.specs.declared.attempt.Attempt.{Attempt}
use Rattle.relay_world.specs.declared.attempt.Fate.TheVariants.{Running}
use Rattle.relay_world.specs.Bound.{HasFate, HasSlot, HostKeeps, IsBound, IsTried, NodeKeeps, PassesOn, StandsAt, told_by}
use Rattle.relay_world.specs.Steps.{AttemptOf}
use Rattle.relay_world.specs.World.{World}
use Rattle.relay_world.proofs.OpenLemmas.{list_there, node_kept, same_Up}

-- what is told of an attempt where its number has the same value
pub still_tells : (host : List ℕ) (changes : List Change) (old new : List (Option Run)) (slot : ℕ) (told : Told)
    → slot_at new slot ≡ slot_at old slot → Tells host changes old slot told → Tells host changes new slot told
still_tells host changes old new slot told same tells = record {
  run = tells.run;
  at = same ∙ tells.at;
  its_message = tells.its_message;
  its_hop = tells.its_hop;
  its_places = tells.its_places;
  accept = tells.accept;
  accepted = tells.accepted;
  envelope_is = tells.envelope_is;
  text_is = tells.text_is;
  follows = tells.follows;
}

-- what is known of an attempt of a bound world: its node's list, and what it has read and written
pub record KnowsAttempt {D : Type 0} (honest : Type 0) (words : DiskWords D) (world : World D)
    (lists : List (List Change)) (number : ℕ) (of : AttemptOf world number) : Type 0 where
  pub changes : List Change
  pub list_at : slice_get lists of.attempt.node ≡ Some changes
  pub kept : HostKeeps honest words of.host changes
  pub its_node : NodeKeeps honest words of.host.config of.before changes
  pub its_link : of.attempt.link ≡ number
  pub was : PassesOn of.host changes of.link of.attempt
  pub tells : Tells of.host.config.host changes of.before.attempts of.slot
      (told_by of.attempt was.accept (take of.link.down_read of.link.down) was.output)

module _ {D : Type 0} (honest : Type 0) (words : DiskWords D) (old : World D) (lists : List (List Change))
    (number : ℕ) (bound : IsBound honest words old lists) (of : AttemptOf old number) where
  tried : IsTried old lists number of.link of.place
  tried = bound.clients number of.place of.link of.link_is of.client

  same_attempt : tried.attempt ≡ of.attempt
  same_attempt = same_Some tried.attempt of.attempt (sym tried.attempt_at ∙ of.attempt_at)

  pub its_link : of.attempt.link ≡ number
  its_link = ap (λ (a : Attempt). a.link) (sym same_attempt) ∙ tried.its_link

  same_host : tried.host ≡ of.host
  same_host = same_Some tried.host of.host (sym tried.stands.host_at
      ∙ ap (λ (a : Attempt). slice_get old.hosts a.node) same_attempt ∙ of.host_at)

  -- where its node has this list
  module _ (list : List Change) (list_at : slice_get lists of.attempt.node ≡ Some list) where
    stands : StandsAt old lists of.attempt.node of.host list
    stands = record { host_at = of.host_at; list_at = list_at }

    pub kept : HostKeeps honest words of.host list
    kept = bound.hosts of.attempt.node of.host list stands

    pub its_node : NodeKeeps honest words of.host.config of.before list
    its_node = node_kept honest words of.host list of.before kept of.up

    same_list : tried.changes ≡ list
    same_list = same_Some tried.changes list (sym tried.stands.list_at
        ∙ ap (λ (a : Attempt). slice_get lists a.node) same_attempt ∙ list_at)

    pub was : PassesOn of.host list of.link of.attempt
    was = subst (λ a. PassesOn of.host list of.link a) same_attempt
        (subst (λ l. PassesOn of.host l of.link tried.attempt) same_list
        (subst (λ h. PassesOn h tried.changes of.link tried.attempt) same_host tried.passes))

    fate_was : HasFate of.host list of.link of.attempt was.accept was.output was.told was.verdicts (Running of.slot)
    fate_was = subst (λ f. HasFate of.host list of.link of.attempt was.accept was.output was.told was.verdicts f)
        of.runs was.fate

    abbrev pub told_was : Told
    told_was = told_by of.attempt was.accept (take of.link.down_read of.link.down) was.output

    pub tells_before : Tells of.host.config.host list of.before.attempts of.slot told_was
    tells_before = subst (λ (n : NodeState D). Tells of.host.config.host list n.attempts of.slot told_was)
        (same_Up fate_was.2.0 of.before (sym fate_was.2.1 ∙ of.up)) fate_was.2.2

    abbrev pub known_by : KnowsAttempt honest words old lists number of
    known_by = record {
      changes = list;
      list_at = list_at;
      kept = kept;
      its_node = its_node;
      its_link = its_link;
      was = was;
      tells = tells_before;
    }

  listed : (list : List Change) × (slice_get lists of.attempt.node ≡ Some list)
  listed = list_there old.hosts lists of.attempt.node of.host bound.even of.host_at

  pub known : KnowsAttempt honest words old lists number of
  known = known_by listed.0 listed.1

  -- another attempt isn't of this number
  pub other_slot : (place : ℕ) (attempt : Attempt) (slot : ℕ) → place ≢ of.place
      → slice_get old.attempts place ≡ Some attempt → HasSlot attempt of.attempt.node slot → slot ≢ of.slot
  other_slot place attempt slot off at has same =
      off (bound.slots place of.place attempt of.attempt of.attempt.node slot at of.attempt_at has
      (record { its_node = refl; runs = of.runs ∙ ap (λ s. Running s) (sym same) }))

  -- the attempt on a link that stays is another
  pub other_place : (place : ℕ) (attempt : Attempt) → slice_get old.attempts place ≡ Some attempt
      → attempt.link ≢ number → place ≢ of.place
  other_place place attempt at off same =
      off (ap (λ (a : Attempt). a.link)
      (same_Some attempt of.attempt (sym at ∙ ap (λ n. slice_get old.attempts n) same ∙ of.attempt_at)) ∙ its_link)
