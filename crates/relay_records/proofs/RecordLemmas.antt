-- What one change more does to records and to their list.
use Rattle.std.proofs.Common.{◌≡◌, ◌+◌, ◌≢◌, inl, inr, ℕ, ◌<◌, ◌^◌, false, List, [], ◌∷◌, ◌++◌, length, Some, refl, sym, ap, ◌∙◌, subst}
use Rattle.relay_disk.specs.declared.disks.Disks.{Disks}
use Rattle.relay_disk.specs.Device.{DiskWords}
use Rattle.relay_disk.specs.Disks.{Images}
use Rattle.relay_spool.specs.Pair.{HasBodies}
use Rattle.relay_spool.specs.Spool.{AtEachMoment, IsAppended, IsBeforeOrWith, RefusesToAppend, Stored}
use Rattle.relay_spool.specs.declared.fault.SpoolFault.{SpoolFault}
use Rattle.relay_spool.specs.declared.fault.SpoolFault.TheVariants.{Device, NotASpool, Damaged, NoMemory, NotEmpty, Full, NoSecond}
use Rattle.relay_book.specs.declared.change.Change.{Change}
use Rattle.relay_book.specs.declared.change.Change.TheVariants.{Accept, Outcome}
use Rattle.relay_book.specs.Record.{IsChange, encode}
use Rattle.relay_book.specs.Queue.{Queue, FitsQueue, queue_of, step}
use Rattle.relay_book.specs.Marks.{place_steps}
use Rattle.relay_book.specs.Snapshot.{IsQueue}
use Rattle.relay_book.specs.StandsFor.{StandsFor}
use Rattle.relay_book.proofs.Theorems.{one_more_stands, record_is_short, step_is_queue}
use Rattle.relay_records.specs.declared.noted.Noted.{Noted}
use Rattle.relay_records.specs.Note.{IsNoted, NotesNext}
use Rattle.relay_records.specs.Records.{Adds, Cuts, Keeps, Kept, StandsForOrWith}
use Rattle.relay_records.proofs.ListLemmas.{fitting_more, next_is_one_more, queue_of_more}

pub fits_is_change : (queue : Queue) (change : Change) → FitsQueue queue change → IsChange change
fits_is_change queue (Accept accept) fits = fits.1
fits_is_change queue (Outcome outcome) fits = fits.2

-- the record of a change that fits is short enough to be a body
pub body_is_short : (queue : Queue) (change : Change) (body : List ℕ) → FitsQueue queue change → body ≡ encode change → length body < 2 ^ 32
body_is_short queue change body fits is = subst (λ (b : List ℕ). length b < 2 ^ 32) (sym is) (record_is_short change (fits_is_change queue change fits))

-- bodies with the record of a change that fits stand for one change more
stands_with : (bodies before : List (List ℕ)) (changes : List Change) (change : Change) (body : List ℕ) → StandsFor before changes
    → FitsQueue (queue_of changes) change → body ≡ encode change → bodies ≡ before ++ body ∷ [] → StandsFor bodies (changes ++ change ∷ [])
stands_with bodies before changes change body stands fits body_is are =
    subst (λ (b : List (List ℕ)). StandsFor b (changes ++ change ∷ [])) (sym (are ∙ ap (λ (b : List ℕ). before ++ b ∷ []) body_is)) (one_more_stands before changes change stands fits)

stands_or_with : (bodies before : List (List ℕ)) (changes : List Change) (change : Change) (body : List ℕ) → StandsFor before changes
    → FitsQueue (queue_of changes) change → body ≡ encode change → IsBeforeOrWith before body bodies → StandsForOrWith changes (Some change) bodies
stands_or_with bodies before changes change body stands fits body_is found =
    elim found [
      | inl same ↦ inl (subst (λ (b : List (List ℕ)). StandsFor b changes) (sym same) stands)
      | inr more ↦ inr (change, refl, fits, stands_with bodies before changes change body stands fits body_is more)
    ]

-- a refused append that isn't the device's changes nothing
pub refused_otherwise : {D : Type 0} (words : DiskWords D) (old new : Stored D) (fault : SpoolFault) → RefusesToAppend words old new fault → fault ≢ Device → new ≡ old
refused_otherwise words old new Device refused other = absurd (other refl)
refused_otherwise words old new NoMemory refused other = refused
refused_otherwise words old new Full refused other = refused
refused_otherwise words old new NotASpool refused other = absurd refused
refused_otherwise words old new (Damaged place) refused other = absurd refused
refused_otherwise words old new NotEmpty refused other = absurd refused
refused_otherwise words old new NoSecond refused other = absurd refused

-- one change more leaves a queue that may be stored
pub queue_more : (old new : Queue) (change : Change) → IsQueue old → FitsQueue old change → new ≡ step old change → IsQueue new
queue_more old new change valid fits is = subst IsQueue (sym is) (step_is_queue old change fits valid)

-- The fields of the records are seen apart while a call changes them; `seen` is the value that they make.
module _ {D : Type 0} (honest : Type 0) (words : DiskWords D) (seen old : Kept D) (seen_is : seen ≡ old)
    (changes : List Change) (change : Change) (body : List ℕ) (keeps : Keeps honest words old changes)
    (fits : FitsQueue old.queue change) (body_is : body ≡ encode change) where
  fits_list : FitsQueue (queue_of changes) change
  fits_list = subst (λ (q : Queue). FitsQueue q change) keeps.queue fits

  seen_queue : seen.queue ≡ queue_of changes
  seen_queue = ap (λ (r : Kept D). r.queue) seen_is ∙ keeps.queue

  before : honest → StandsFor seen.spool.bodies changes
  before h = subst (λ (r : Kept D). StandsFor r.spool.bodies changes) (sym seen_is) (keeps.bodies h)

  with_one : honest → (bodies : List (List ℕ)) → bodies ≡ seen.spool.bodies ++ body ∷ [] → StandsFor bodies (changes ++ change ∷ [])
  with_one h bodies are = stands_with bodies seen.spool.bodies changes change body (before h) fits_list body_is are

  -- the next number is that of the change after the list
  pub number_is : (number : ℕ) → number ≡ seen.queue.next → number ≡ length changes + 1
  number_is number next = next ∙ ap (λ (q : Queue). q.next) seen_queue ∙ next_is_one_more changes

  -- the note is of the change after the list
  pub noted_here : (used : ℕ) (note : Noted) → NotesNext seen.queue change body used note → IsNoted (Some note) changes change used
  noted_here used note notes = record {
    note = note;
    is = refl;
    number = number_is note.number notes.number;
    octets = notes.octets_are ∙ body_is;
    used_is = notes.used_is;
    accepted = notes.accepted;
    left = notes.left ∙ ap (λ (q : Queue). place_steps q change) seen_queue;
    report = notes.report;
  }

  -- the change was added
  pub added : (new : Kept D) (used : ℕ) → new.queue ≡ step seen.queue change → IsAppended honest words seen.spool body new.spool
      → IsNoted new.noted changes change used → Adds honest words new changes change used
  added new used queue appended noted = record {
    keeps = record {
      live = appended.live;
      fitting = fitting_more changes change keeps.fitting fits_list;
      queue = queue ∙ ap (λ (q : Queue). step q change) seen_queue ∙ sym (queue_of_more changes change);
      bodies = λ h. with_one h new.spool.bodies (appended.bodies_are h);
      images = λ h image left. let found = appended.images h image left in (found.0, found.1, with_one h found.0 found.2);
    };
    noted = noted;
  }

  image_is : honest → (images : Images) → HasBodies (IsBeforeOrWith seen.spool.bodies body) images → HasBodies (StandsForOrWith changes (Some change)) images
  image_is h images found = (found.0, found.1, stands_or_with found.0 seen.spool.bodies changes change body (before h) fits_list body_is found.2)

  -- what a stop leaves at any moment of the call
  pub stop_stands : (new : Disks D) → honest → AtEachMoment words seen.spool.disk new (HasBodies (IsBeforeOrWith seen.spool.bodies body))
      → AtEachMoment words old.spool.disk new (HasBodies (StandsForOrWith changes (Some change)))
  stop_stands new h stop = subst (λ (r : Kept D). AtEachMoment words r.spool.disk new (HasBodies (StandsForOrWith changes (Some change)))) seen_is moments
    where
      moments : AtEachMoment words seen.spool.disk new (HasBodies (StandsForOrWith changes (Some change)))
      moments = record {
        since = λ images first second. image_is h images (stop.since images first second);
        now = λ images left. image_is h images (stop.now images left);
      }

  -- the device failed while the change was added
  pub cut_short : (new : Kept D) (used : ℕ) → new.queue ≡ seen.queue → new.spool.live ≡ false
      → (honest → AtEachMoment words seen.spool.disk new.spool.disk (HasBodies (IsBeforeOrWith seen.spool.bodies body)))
      → IsNoted new.noted changes change used → Cuts honest words new changes change used
  cut_short new used queue stopped stop noted = record {
    halted = record {
      stopped = stopped;
      fitting = keeps.fitting;
      next = ap (λ (q : Queue). q.next) (queue ∙ seen_queue) ∙ next_is_one_more changes;
      images = λ h image left. image_is h image ((stop h).now image left);
    };
    fits = fits_list;
    noted = noted;
  }
