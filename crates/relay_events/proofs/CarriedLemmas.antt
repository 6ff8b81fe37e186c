-- What is carried to the client end of a link: where there is something to carry, and what is seen of it.
use Rattle.std.proofs.Common.{inl, inr, ◌≡◌, ◌-◌, ℕ, zero, suc, Bool, true, false, not, List, [], ◌∷◌, ◌++◌, drop, Option, None, Some, refl, sym, subst, ap, ◌∙◌}
use Rattle.std.specs.Prelude.{if◌then◌else◌, slice_get, slice_index_or}
use Rattle.std.proofs.lemmas.Bool.{false≢true, true≢false}
use Rattle.std.proofs.lemmas.Bool.Decides.{eqb_tells}
use Rattle.std.proofs.lemmas.Option.{none-some, same_Some}
use Rattle.relay_disk.specs.Device.{DiskWords}
use Rattle.relay_records.specs.declared.fault.NodeFault.{NodeFault}
use Rattle.relay_world.specs.declared.attempt.Attempt.{Attempt}
use Rattle.relay_world.specs.declared.link.Link.{Link}
use Rattle.relay_world.specs.Crashes.{is_tried_for, serves_for, tries_for}
use Rattle.relay_world.specs.Steps.{Breaks, DropsAttempt, HasLost}
use Rattle.relay_world.specs.World.{World, link_at}
use Rattle.relay_events.specs.declared.event.Event.TheVariants.{Carry}
use Rattle.relay_events.specs.declared.fault.PairFault.{PairFault}
use Rattle.relay_events.specs.declared.fault.PairFault.TheVariants as fault
use Rattle.relay_events.specs.declared.seen.Seen.TheVariants as seen
use Rattle.relay_events.specs.declared.tell.Loss.{Loss}
use Rattle.relay_events.specs.declared.tell.Loss.TheVariants as loss
use Rattle.relay_events.specs.Carried.{RunsAndWaits, RunsAt, TellsLoss, TriesWhole, stops_by}
use Rattle.relay_events.specs.FirstFault.{carry_fault, carry_idles, first_fault}
use Rattle.relay_hosts.specs.Links.{client_closed, client_idles, is_nil, runs_there, tries_on, waits_down, whole_link}
use Rattle.relay_hosts.specs.Host.{is_up}
use Rattle.relay_events.specs.Step.{Carries, CrashesInLosing, IsCarriedTo, IsWhyDropped, Loses as LosesThere, Refuses, RefusesToRead, Shows, Stops, fault_of}
use Rattle.relay_events.specs.Told.{Crashes, CrashesTold, Drops, Loses, TellsSome, TriesAt}
use Rattle.relay_events.proofs.CarryLemmas.{is_carried, is_tried}
use Rattle.relay_events.proofs.PlaceLemmas.{link_same}
use Rattle.relay_events.proofs.SendLemmas.{whole_there}

-- where an event has no fault, no end idles
goes_on : {D : Type 0} (world : World D) (count : ℕ) (idles : Bool) → carry_idles world count idles ≡ None → idles ≡ false
goes_on world zero idles is = absurd (none-some fault.Nothing (sym is))
goes_on world (suc count) true is = absurd (none-some fault.Nothing (sym is))
goes_on world (suc count) false is = refl

up_goes_on : (up : Bool) (rest : Option PairFault) → (if up then rest else Some fault.Down) ≡ None → rest ≡ None
up_goes_on true rest is = is
up_goes_on false rest is = absurd (none-some fault.Down (sym is))

client_goes_on : (serves tried : Bool) (one two : Option PairFault) → serves ≡ false → tried ≡ true
    → (if serves then one else (if tried then two else Some fault.NotYours)) ≡ None → two ≡ None
client_goes_on true tried one two unserved its is = absurd (true≢false unserved)
client_goes_on false true one two unserved its is = is
client_goes_on false false one two unserved its is = absurd (false≢true its)

not_closed : (runs rest : Bool) → (if not runs then true else rest) ≡ false → runs ≡ true
not_closed true rest is = refl
not_closed false rest is = absurd (true≢false is)

client_runs : (attempts : List Attempt) (client : Option ℕ) (rest : Bool) (node : ℕ) → is_tried_for node attempts client ≡ true
    → (if client_closed attempts client then true else rest) ≡ false → tries_on attempts client ≡ true
client_runs attempts None rest node its is = absurd (false≢true its)
client_runs attempts (Some place) rest node its is = not_closed (runs_there (slice_get attempts place)) rest is

-- there is something to carry to an attempt of this node
pub runs_at : {D : Type 0} (world : World D) (number node count : ℕ) → first_fault world (Carry number node count) ≡ None
    → ((link : Link) → whole_link world.links number ≡ Some link → serves_for node link.server ≡ false)
    → ((link : Link) → whole_link world.links number ≡ Some link → is_tried_for node world.attempts link.client ≡ true)
    → RunsAt world number node
runs_at world number node count may unserved tried = by (whole_link world.links number) refl may
  where
    by : (found : Option Link) → whole_link world.links number ≡ found → carry_fault world found node count ≡ None
        → RunsAt world number node
    by None is free = absurd (none-some fault.NoLink (sym free))
    by (Some link) is free =
        let there = whole_there (link_at world.links number) link is in
        let up = client_goes_on (serves_for node link.server) (is_tried_for node world.attempts link.client) _ _ (unserved link is)
        (tried link is) free in
        let idle = goes_on world count (client_idles world.attempts link) (up_goes_on (is_up (slice_get world.hosts node)) _ up) in
        record {
          link = link;
          link_is = there.0;
          whole = there.1;
          tries = client_runs world.attempts link.client _ node (tried link is) idle;
          its = tried link is;
          unserved = unserved link is;
        }

-- where the server end of its link isn't the node's
pub runs_unserved : {D : Type 0} (world : World D) (number node count : ℕ)
    → carry_fault world (whole_link world.links number) node count ≡ None → (read : Link)
    → read ≡ slice_index_or world.links (number - 1) read → serves_for node read.server ≡ false → RunsAt world number node
runs_unserved world number node count none read there off =
    let its = is_carried world world.links number node count none in
    let same = link_same world.links number its.link read its.link_is there in
    let unserved = ap (λ (l : Link). serves_for node l.server) (sym same) ∙ off in
    runs_at world number node count none
    (λ link found. ap (λ (l : Link). serves_for node l.server) (same_Some link its.link (sym found ∙ its.found)) ∙ unserved)
    (λ link found. ap (λ (l : Link). is_tried_for node world.attempts l.client) (same_Some link its.link (sym found ∙ its.found))
    ∙ is_tried world world.links number node count none unserved)

pub tries_whole : {D : Type 0} (world : World D) (number node : ℕ) → RunsAt world number node → TriesWhole world number
tries_whole world number node at = record { link = at.link; link_is = at.link_is; whole = at.whole; tries = at.tries }

pub tries_at : {D : Type 0} (world : World D) (number : ℕ) → TriesWhole world number → TriesAt world number
tries_at world number at = record { link = at.link; link_is = at.link_is; tries = at.tries }

-- an attempt of this node is this node's
pub node_is : (node : ℕ) (attempt : Attempt) → tries_for node (Some attempt) ≡ true → attempt.node ≡ node
node_is node attempt is =
    elim (eqb_tells attempt.node node) [ inl same ↦ same.1 | inr off ↦ absurd (false≢true (sym off.0 ∙ is)) ]

module _ {D : Type 0} (world : World D) (number node : ℕ) (link : Link) (link_is : link_at world.links number ≡ Some link) (place : ℕ)
    (client : link.client ≡ Some place) (attempt : Attempt) (attempt_at : slice_get world.attempts place ≡ Some attempt) where
  its_link : (at : RunsAt world number node) → at.link ≡ link
  its_link at = same_Some at.link link (sym at.link_is ∙ link_is)

  pub attempt_node : RunsAt world number node → attempt.node ≡ node
  attempt_node at =
      node_is node attempt
      (sym (ap (λ o. tries_for node o) attempt_at) ∙ sym (ap (λ c. is_tried_for node world.attempts c) client)
      ∙ ap (λ (l : Link). is_tried_for node world.attempts l.client) (sym (its_link at)) ∙ at.its)

  pub carried_to : (waits : Bool) → RunsAndWaits world number node waits → IsCarriedTo link attempt node waits
  carried_to waits runs = record {
    its_node = attempt_node runs.at;
    unserved = ap (λ (l : Link). serves_for node l.server) (sym (its_link runs.at)) ∙ runs.at.unserved;
    waiting = ap waits_down (sym (its_link runs.at)) ∙ runs.waiting;
  }

-- and octets wait for it, or none does
pub waits_on : {D : Type 0} (world : World D) (number node : ℕ) (at : RunsAt world number node) (link : Link) (idle : Bool)
    → link ≡ slice_index_or world.links (number - 1) link → is_nil (drop link.down_read link.down) ≡ idle
    → RunsAndWaits world number node (not idle)
waits_on world number node at link idle there is = record {
  at = at;
  waiting = ap not (ap (λ (l : Link). is_nil (drop l.down_read l.down))
      (sym (link_same world.links number at.link link at.link_is there)) ∙ is);
}

module _ {D : Type 0} (honest : Type 0) (words : DiskWords D) where
  -- whatever became of the attempt, one end was told
  pub some_told : (old new : World D) (number : ℕ) (were are : List ℕ) (lost : Loss) → TellsLoss honest words old new number lost
      → are ≡ were ++ stops_by lost → TellsSome honest words old new number were are
  some_told old new number were are (loss.Ended change) tells is = ([], Loses change tells, is)
  some_told old new number were are (loss.Gone why) tells is = ([], Drops why tells.0 tells.1, is)
  some_told old new number were are (loss.Stopped node) tells is = (node ∷ [], Crashes node tells, is)

  -- an attempt was told that its connection is over, by a node that is this one
  pub lost_carries : (old new : World D) (number node count change : ℕ) → RunsAndWaits old number node false
      → HasLost honest words old new number change
      → Carries honest words old number node count new (Shows (seen.Carried 0 0 (Some change) true))
  lost_carries old new number node count change runs lost =
      LosesThere change lost
      (carried_to old number node lost.of.link lost.of.link_is lost.of.place lost.of.client lost.of.attempt lost.of.attempt_at false runs)

  pub dropped_carries : (old dropped new : World D) (number node count : ℕ) (waits : Bool) (why : NodeFault)
      → RunsAndWaits old number node waits → (gone : DropsAttempt old dropped number)
      → IsWhyDropped honest words old number count gone.of waits why → Breaks dropped new number
      → Carries honest words old number node count new (Refuses (fault_of why))
  dropped_carries old dropped new number node count waits why runs gone want breaks =
      RefusesToRead dropped gone waits
      (carried_to old number node gone.of.link gone.of.link_is gone.of.place gone.of.client gone.of.attempt gone.of.attempt_at waits
      runs) breaks why want

  crash_node : (old new : World D) (number its node : ℕ) → RunsAndWaits old number node false
      → CrashesTold honest words old new number its → its ≡ node
  crash_node old new number its node runs told =
      let of = told.crash.of in
      sym told.its_node
      ∙ attempt_node old number node of.link of.link_is of.place of.client of.attempt of.attempt_at runs.at

  pub told_carries : (old new : World D) (number its node count : ℕ) → RunsAndWaits old number node false
      → CrashesTold honest words old new number its → Carries honest words old number node count new (Stops its)
  told_carries old new number its node count runs told =
      let same = crash_node old new number its node runs told in
      let here : CrashesTold honest words old new number node = subst (λ n. CrashesTold honest words old new number n) same told in
      let of = here.crash.of in
      subst (λ n. Carries honest words old number node count new (Stops n)) (sym same)
      (CrashesInLosing here
      (carried_to old number node of.link of.link_is of.place of.client of.attempt of.attempt_at false runs))
