-- What a compaction does to records and to their list.
use Rattle.std.proofs.Common.{◌≡◌, ◌<◌, ◌^◌, ◌-◌, min, arith, inl, inr, ℕ, false, List, [], ◌∷◌, length, None, Ok, Err, sym, ap, ◌∙◌, subst}
use Rattle.std.specs.Prelude.{Result}
use Rattle.relay_disk.specs.declared.disks.Disks.{Disks}
use Rattle.relay_disk.specs.Device.{DiskWords}
use Rattle.relay_disk.specs.Disks.{Images}
use Rattle.relay_spool.specs.Pair.{HasBodies}
use Rattle.relay_spool.specs.Spool.{AtEachMoment, IsBeforeOrOne, IsCompacted}
use Rattle.relay_book.specs.declared.change.Change.{Change}
use Rattle.relay_book.specs.Queue.{Queue, queue_of}
use Rattle.relay_book.specs.Snapshot.{snapshot}
use Rattle.relay_book.specs.StandsFor.{StandsFor}
use Rattle.relay_book.proofs.Theorems.{snapshot_stands}
use Rattle.relay_records.specs.declared.fault.NodeFault.{NodeFault}
use Rattle.relay_records.specs.declared.fault.NodeFault.TheVariants.{Stopped}
use Rattle.relay_records.specs.Records.{Halted, Keeps, Kept}
use Rattle.relay_records.proofs.ListLemmas.{next_is_one_more}

-- The fields of the records are seen apart while a call changes them; `seen` is the value that they make.
module _ {D : Type 0} (honest : Type 0) (words : DiskWords D) (seen old : Kept D) (seen_is : seen ≡ old)
    (changes : List Change) (octets : List ℕ) (keeps : Keeps honest words old changes)
    (is : octets ≡ snapshot seen.queue) (short : length octets < 2 ^ 32) where
  seen_queue : seen.queue ≡ queue_of changes
  seen_queue = ap (λ (r : Kept D). r.queue) seen_is ∙ keeps.queue

  before : honest → StandsFor seen.spool.bodies changes
  before h = subst (λ (r : Kept D). StandsFor r.spool.bodies changes) (sym seen_is) (keeps.bodies h)

  -- the snapshot stands for the changes
  one_stands : (bodies : List (List ℕ)) → bodies ≡ octets ∷ [] → StandsFor bodies changes
  one_stands bodies are =
      let all : octets ≡ snapshot (queue_of changes) = is ∙ ap snapshot seen_queue in
      subst (λ (b : List (List ℕ)). StandsFor b changes) (sym (are ∙ ap (λ (o : List ℕ). o ∷ []) all))
      (snapshot_stands changes keeps.fitting (subst (λ (o : List ℕ). length o < 2 ^ 32) all short))

  images_stand : honest → (images : Images) → HasBodies (IsBeforeOrOne seen.spool.bodies octets) images → HasBodies (λ bodies. StandsFor bodies changes) images
  images_stand h images found =
      let stands : StandsFor found.0 changes = elim found.2 [
        | inl same ↦ subst (λ (b : List (List ℕ)). StandsFor b changes) (sym same) (before h)
        | inr one ↦ one_stands found.0 one
      ] in
      (found.0, found.1, stands)

  -- what a stop leaves at any moment of the call
  pub compact_stop : (new : Disks D) → honest → AtEachMoment words seen.spool.disk new (HasBodies (IsBeforeOrOne seen.spool.bodies octets))
      → AtEachMoment words old.spool.disk new (HasBodies (λ bodies. StandsFor bodies changes))
  compact_stop new h stop = subst (λ (r : Kept D). AtEachMoment words r.spool.disk new (HasBodies (λ bodies. StandsFor bodies changes))) seen_is moments
    where
      moments : AtEachMoment words seen.spool.disk new (HasBodies (λ bodies. StandsFor bodies changes))
      moments = record {
        since = λ images first second. images_stand h images (stop.since images first second);
        now = λ images left. images_stand h images (stop.now images left);
      }

  -- the records keep the changes
  pub compact_keeps : (new : Kept D) → new.queue ≡ seen.queue → IsCompacted honest words seen.spool octets new.spool → Keeps honest words new changes
  compact_keeps new queue compacted = record {
    live = compacted.live;
    fitting = keeps.fitting;
    queue = queue ∙ seen_queue;
    bodies = λ h. one_stands new.spool.bodies (compacted.bodies_are h);
    images = λ h images left. let found = compacted.images h images left in (found.0, found.1, one_stands found.0 found.2);
  }

  -- the device failed
  pub compact_halts : (new : Kept D) → new.queue ≡ seen.queue → new.spool.live ≡ false
      → (honest → AtEachMoment words seen.spool.disk new.spool.disk (HasBodies (IsBeforeOrOne seen.spool.bodies octets))) → Halted honest words new changes None
  compact_halts new queue stopped stop = record {
    stopped = stopped;
    fitting = keeps.fitting;
    next = ap (λ (q : Queue). q.next) (queue ∙ seen_queue) ∙ next_is_one_more changes;
    images = λ h images left. let found = images_stand h images ((stop h).now images left) in (found.0, found.1, inl found.2);
  }

-- a snapshot of which so many octets may be put in place of all is short enough to be a body
pub short_body : (octets whole : List ℕ) (found : ℕ) → octets ≡ whole → found ≡ min (length whole) (2 ^ 64 - 1) → found < 2 ^ 32 → length octets < 2 ^ 32
short_body octets whole found is found_is few = let same = ap length is in omega (arith, same, found_is, few)

-- the answer is that the device failed
abbrev pub SaysStopped : Result (Unit {0}) NodeFault → Type 0
SaysStopped (Ok _) = ⊥
SaysStopped (Err Stopped) = Unit {0}
SaysStopped (Err other) = ⊥

-- so no other is
pub not_stopped : (result other : Result (Unit {0}) NodeFault) → result ≡ other → result ≡ Err Stopped → SaysStopped other
not_stopped result other is stopped = subst SaysStopped (sym stopped ∙ is) tt
