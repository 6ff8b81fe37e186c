-- What a turn that makes the other disk shorter does to records and to their list.
use Rattle.std.proofs.Common.{◌≡◌, inl, ℕ, Bool, false, List, None, Ok, Err, sym, ap, ◌∙◌, subst}
use Rattle.std.specs.Prelude.{Result}
use Rattle.relay_disk.specs.declared.disks.Disks.{Disks}
use Rattle.relay_disk.specs.Device.{DiskWords}
use Rattle.relay_disk.specs.Disks.{Images}
use Rattle.relay_spool.specs.Pair.{HasBodies}
use Rattle.relay_spool.specs.Spool.{AtEachMoment}
use Rattle.relay_spool.specs.Trim.{IsTrimmed}
use Rattle.relay_book.specs.declared.change.Change.{Change}
use Rattle.relay_book.specs.Queue.{Queue}
use Rattle.relay_book.specs.StandsFor.{StandsFor}
use Rattle.relay_records.specs.declared.fault.NodeFault.{NodeFault}
use Rattle.relay_records.specs.declared.fault.NodeFault.TheVariants.{Stopped}
use Rattle.relay_records.specs.Records.{Halted, Keeps, Kept}
use Rattle.relay_records.proofs.ListLemmas.{next_is_one_more}

-- The fields of the records are seen apart while a call changes them; `seen` is the value that they make.
module _ {D : Type 0} (honest : Type 0) (words : DiskWords D) (seen old : Kept D) (seen_is : seen ≡ old)
    (changes : List Change) (keeps : Keeps honest words old changes) where
  before : honest → StandsFor seen.spool.bodies changes
  before h = subst (λ (r : Kept D). StandsFor r.spool.bodies changes) (sym seen_is) (keeps.bodies h)

  images_stand : honest → (images : Images) → HasBodies (λ bodies. bodies ≡ seen.spool.bodies) images → HasBodies (λ bodies. StandsFor bodies changes) images
  images_stand h images found =
      (found.0, found.1, subst (λ (b : List (List ℕ)). StandsFor b changes) (sym found.2) (before h))

  -- what a stop leaves at any moment of the call
  pub trim_stop : (new : Disks D) → honest → AtEachMoment words seen.spool.disk new (HasBodies (λ bodies. bodies ≡ seen.spool.bodies))
      → AtEachMoment words old.spool.disk new (HasBodies (λ bodies. StandsFor bodies changes))
  trim_stop new h stop = subst (λ (r : Kept D). AtEachMoment words r.spool.disk new (HasBodies (λ bodies. StandsFor bodies changes))) seen_is moments
    where
      moments : AtEachMoment words seen.spool.disk new (HasBodies (λ bodies. StandsFor bodies changes))
      moments = record {
        since = λ images first second. images_stand h images (stop.since images first second);
        now = λ images left. images_stand h images (stop.now images left);
      }

  -- the records keep the changes
  pub trim_keeps : (most : ℕ) (more : Bool) (new : Kept D) → new.queue ≡ seen.queue → IsTrimmed honest words most seen.spool new.spool more → Keeps honest words new changes
  trim_keeps most more new queue trimmed = record {
    live = trimmed.live;
    fitting = keeps.fitting;
    queue = queue ∙ ap (λ (r : Kept D). r.queue) seen_is ∙ keeps.queue;
    bodies = λ h. subst (λ (b : List (List ℕ)). StandsFor b changes) (sym (trimmed.bodies_are h)) (before h);
    images = λ h images left. images_stand h images (trimmed.images h images left);
  }

  -- the device failed
  pub trim_halts : (new : Kept D) → new.queue ≡ seen.queue → new.spool.live ≡ false
      → (honest → AtEachMoment words seen.spool.disk new.spool.disk (HasBodies (λ bodies. bodies ≡ seen.spool.bodies))) → Halted honest words new changes None
  trim_halts new queue stopped stop = record {
    stopped = stopped;
    fitting = keeps.fitting;
    next = ap (λ (q : Queue). q.next) (queue ∙ ap (λ (r : Kept D). r.queue) seen_is ∙ keeps.queue) ∙ next_is_one_more changes;
    images = λ h images left. let found = images_stand h images ((stop h).now images left) in (found.0, found.1, inl found.2);
  }

-- the answer is that the device failed
abbrev pub SaysStopped : Result Bool NodeFault → Type 0
SaysStopped (Ok _) = ⊥
SaysStopped (Err Stopped) = Unit {0}
SaysStopped (Err other) = ⊥

-- so no other is
pub not_stopped : (result other : Result Bool NodeFault) → result ≡ other → result ≡ Err Stopped → SaysStopped other
not_stopped result other is stopped = subst SaysStopped (sym stopped ∙ is) tt
