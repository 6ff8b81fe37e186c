-- What a row of changes does to records and to their list.
use Rattle.std.proofs.Common.{◌≡◌, ◌≢◌, ◌+◌, inl, inr, ℕ, false, List, [], ◌∷◌, ◌++◌, length, map, fold, refl, sym, ap, ◌∙◌, subst, arith, append_assoc, append-nil, length-append}
use Rattle.std.proofs.lemmas.List.{map-append}
use Rattle.std.proofs.lemmas.List.Sums.{fold-append, sum_by-append}
use Rattle.relay_disk.specs.declared.disks.Disks.{Disks}
use Rattle.relay_disk.specs.Device.{DiskWords}
use Rattle.relay_disk.specs.Disks.{Images}
use Rattle.relay_spool.specs.Image.{room_of}
use Rattle.relay_spool.specs.Pair.{HasBodies}
use Rattle.relay_spool.specs.Spool.{AreAppended, AtEachMoment, EveryImageHas, IsBeforeOrWithAll, RefusesToAppend, Stored}
use Rattle.relay_spool.specs.declared.fault.SpoolFault.{SpoolFault}
use Rattle.relay_spool.specs.declared.fault.SpoolFault.TheVariants.{Device, NotASpool, Damaged, NoMemory, NotEmpty, Full, NoSecond}
use Rattle.relay_book.specs.declared.change.Change.{Change}
use Rattle.relay_book.specs.Record.{encode}
use Rattle.relay_book.specs.Queue.{Queue, FitsFrom, FitsQueue, empty_queue, queue_of, step}
use Rattle.relay_book.specs.StandsFor.{StandsFor}
use Rattle.relay_book.proofs.Theorems.{one_more_fits, one_more_stands}
use Rattle.relay_records.specs.declared.noted.Noted.{Noted}
use Rattle.relay_records.specs.Note.{NotesNext}
use Rattle.relay_records.specs.Records.{Keeps, Kept}
use Rattle.relay_records.specs.Staged.{AreNotes, Awaits, CutsAll, Row, Settles, Stages, StandsForOrWithAll, no_row}
use Rattle.relay_records.proofs.ListLemmas.{next_is_one_more, queue_of_more}

-- the queue of two lists, one after the other
queue_of_all : (changes pending : List Change) → queue_of (changes ++ pending) ≡ fold step (queue_of changes) pending
queue_of_all changes pending = fold-append step empty_queue changes pending

-- changes that fit after others that do
fit_after : (queue : Queue) (changes pending : List Change) → FitsFrom queue changes → FitsFrom (fold step queue changes) pending → FitsFrom queue (changes ++ pending)
fit_after queue [] pending first second = second
fit_after queue (change ∷ changes) pending first second = (first.0, fit_after (step queue change) changes pending first.1 second)

-- a note more
notes_more : (queue : Queue) (pending : List Change) (notes : List Noted) (change : Change) (note : Noted) → AreNotes queue pending notes
    → NotesNext (fold step queue pending) change (encode change) note.used note → AreNotes queue (pending ++ change ∷ []) (notes ++ note ∷ [])
notes_more queue [] notes change note none next = (note, [], ap (λ (ns : List Noted). ns ++ note ∷ []) none, next, refl)
notes_more queue (first ∷ pending) notes change note (one, rest, is, one_next, others) next =
    (one, rest ++ note ∷ [], ap (λ (ns : List Noted). ns ++ note ∷ []) is, one_next, notes_more (step queue first) pending rest change note others next)

-- bodies with the records of changes that fit stand for these changes more
all_stand : (before : List (List ℕ)) (changes pending : List Change) → StandsFor before changes → FitsFrom (queue_of changes) pending
    → StandsFor (before ++ map encode pending) (changes ++ pending)
all_stand before changes [] stands fits =
    subst (λ (b : List (List ℕ)). StandsFor b (changes ++ [])) (sym (append-nil before)) (subst (λ (cs : List Change). StandsFor before cs) (sym (append-nil changes)) stands)
all_stand before changes (change ∷ pending) stands fits =
    let one = one_more_stands before changes change stands fits.0 in
    let rest = all_stand (before ++ encode change ∷ []) (changes ++ change ∷ []) pending one (subst (λ (q : Queue). FitsFrom q pending) (sym (queue_of_more changes change)) fits.1) in
    subst (λ (b : List (List ℕ)). StandsFor b (changes ++ change ∷ pending)) (append_assoc before (encode change ∷ []) (map encode pending))
    (subst (λ (cs : List Change). StandsFor ((before ++ encode change ∷ []) ++ map encode pending) cs) (append_assoc changes (change ∷ []) pending) rest)

-- the room of one body more
pub room_more : (bodies : List (List ℕ)) (body : List ℕ) → room_of (bodies ++ body ∷ []) ≡ room_of bodies + 5 + length body
room_more bodies body =
    let all = sum_by-append (λ (one : List ℕ). 5 + length one) bodies (body ∷ []) in
    omega (arith, all)

-- a refused append of a row that is neither the device's nor memory's changes nothing, and the row is too large
pub row_is_full : {D : Type 0} (words : DiskWords D) (old new : Stored D) (fault : SpoolFault) → RefusesToAppend words old new fault → fault ≢ Device → fault ≢ NoMemory
    → (fault ≡ Full) × (new ≡ old)
row_is_full words old new Device refused other memory = absurd (other refl)
row_is_full words old new NoMemory refused other memory = absurd (memory refl)
row_is_full words old new Full refused other memory = (refl, refused)
row_is_full words old new NotASpool refused other memory = absurd refused
row_is_full words old new (Damaged place) refused other memory = absurd refused
row_is_full words old new NotEmpty refused other memory = absurd refused
row_is_full words old new NoSecond refused other memory = absurd refused

-- the next number after them
next_after : (changes pending : List Change) → (queue_of (changes ++ pending)).next ≡ length changes + length pending + 1
next_after changes pending =
    let next = next_is_one_more (changes ++ pending) in
    let all = length-append changes pending in
    omega (arith, next, all)

module _ {D : Type 0} (honest : Type 0) (words : DiskWords D) where
  -- live records await no change
  pub none_awaited : (records : Kept D) (changes : List Change) → Keeps honest words records changes → Awaits honest words records changes [] no_row
  none_awaited records changes keeps = record {
    live = keeps.live;
    fitting = keeps.fitting;
    fits = tt;
    queue = keeps.queue ∙ ap queue_of (sym (append-nil changes));
    bodies = keeps.bodies;
    images = keeps.images;
    row_is = refl;
    notes = refl;
  }

  -- those that are awaited have numbers
  pub awaited_are_numbered : (records : Kept D) (changes pending : List Change) (row : Row) → Awaits honest words records changes pending row
      → records.queue.next ≡ length changes + length pending + 1
  awaited_are_numbered records changes pending row awaits = ap (λ (q : Queue). q.next) awaits.queue ∙ next_after changes pending

  -- a change more is awaited
  pub one_more_awaited : (old new : Kept D) (row left : Row) (changes pending : List Change) (change : Change) (used number : ℕ)
      → Awaits honest words old changes pending row → FitsQueue old.queue change → Stages old new row left change used number
      → Awaits honest words new changes (pending ++ change ∷ []) left
  one_more_awaited old new row left changes pending change used number awaits fits stages =
      let after : old.queue ≡ fold step (queue_of changes) pending = awaits.queue ∙ queue_of_all changes pending in
      let noted = subst (λ (n : ℕ). NotesNext old.queue change (encode change) n stages.note) (sym stages.notes_next.used_is) stages.notes_next in
      record {
        live = ap (λ (s : Stored D). s.live) stages.spool ∙ awaits.live;
        fitting = awaits.fitting;
        fits = one_more_fits (queue_of changes) pending change awaits.fits (subst (λ (q : Queue). FitsQueue q change) after fits);
        queue = stages.queue ∙ ap (λ (q : Queue). step q change) awaits.queue ∙ sym (queue_of_more (changes ++ pending) change)
            ∙ ap queue_of (append_assoc changes pending (change ∷ []));
        bodies = λ h. subst (λ (s : Stored D). StandsFor s.bodies changes) (sym stages.spool) (awaits.bodies h);
        images = λ h. subst (λ (s : Stored D). EveryImageHas words s.disk (λ bodies. StandsFor bodies changes)) (sym stages.spool) (awaits.images h);
        row_is = stages.bodies ∙ ap (λ (b : List (List ℕ)). b ++ encode change ∷ []) awaits.row_is ∙ sym (map-append encode pending (change ∷ []));
        notes = subst (λ (ns : List Noted). AreNotes (queue_of changes) (pending ++ change ∷ []) ns) (sym stages.notes)
            (notes_more (queue_of changes) pending row.notes change stages.note awaits.notes
            (subst (λ (q : Queue). NotesNext q change (encode change) stages.note.used stages.note) after noted));
      }

  -- The fields of the records are seen apart while a call changes them; `seen` is the value that they make.
  module _ (seen old : Kept D) (seen_is : seen ≡ old) (changes pending : List Change) (row told : Row) (row_is : row ≡ told)
      (awaited : Awaits honest words old changes pending told) where
    awaits : Awaits honest words old changes pending row
    awaits = subst (λ (r : Row). Awaits honest words old changes pending r) (sym row_is) awaited

    with_all : honest → (bodies : List (List ℕ)) → bodies ≡ seen.spool.bodies ++ row.bodies → StandsFor bodies (changes ++ pending)
    with_all h bodies are =
        let before = subst (λ (r : Kept D). StandsFor r.spool.bodies changes) (sym seen_is) (awaits.bodies h) in
        subst (λ (b : List (List ℕ)). StandsFor b (changes ++ pending)) (sym (are ∙ ap (λ (b : List (List ℕ)). seen.spool.bodies ++ b) awaits.row_is))
        (all_stand seen.spool.bodies changes pending before awaits.fits)

    seen_queue : seen.queue ≡ queue_of (changes ++ pending)
    seen_queue = ap (λ (r : Kept D). r.queue) seen_is ∙ awaits.queue

    -- the row came into the spool
    pub settled : (new : Kept D) (notes : List Noted) → new.queue ≡ seen.queue → AreAppended honest words seen.spool row.bodies new.spool → notes ≡ row.notes
        → Settles honest words new changes pending notes
    settled new notes queue appended same = record {
      keeps = record {
        live = appended.live;
        fitting = fit_after empty_queue changes pending awaits.fitting awaits.fits;
        queue = queue ∙ seen_queue;
        bodies = λ h. with_all h new.spool.bodies (appended.bodies_are h);
        images = λ h image left. let found = appended.images h image left in (found.0, found.1, with_all h found.0 found.2);
      };
      notes_are = subst (λ (ns : List Noted). AreNotes (queue_of changes) pending ns) (sym same) awaits.notes;
    }

    before_or_all : honest → (bodies : List (List ℕ)) → IsBeforeOrWithAll seen.spool.bodies row.bodies bodies → StandsForOrWithAll changes pending bodies
    before_or_all h bodies (inl same) = inl (subst (λ (b : List (List ℕ)). StandsFor b changes) (sym same) (subst (λ (r : Kept D). StandsFor r.spool.bodies changes) (sym seen_is) (awaits.bodies h)))
    before_or_all h bodies (inr more) = inr (with_all h bodies more)

    image_is : honest → (images : Images) → HasBodies (IsBeforeOrWithAll seen.spool.bodies row.bodies) images → HasBodies (StandsForOrWithAll changes pending) images
    image_is h images found = (found.0, found.1, before_or_all h found.0 found.2)

    -- what a stop leaves at any moment of the call
    pub stop_stands_all : (new : Disks D) → honest → AtEachMoment words seen.spool.disk new (HasBodies (IsBeforeOrWithAll seen.spool.bodies row.bodies))
        → AtEachMoment words old.spool.disk new (HasBodies (StandsForOrWithAll changes pending))
    stop_stands_all new h stop = subst (λ (r : Kept D). AtEachMoment words r.spool.disk new (HasBodies (StandsForOrWithAll changes pending))) seen_is moments
      where
        moments : AtEachMoment words seen.spool.disk new (HasBodies (StandsForOrWithAll changes pending))
        moments = record {
          since = λ images first second. image_is h images (stop.since images first second);
          now = λ images left. image_is h images (stop.now images left);
        }

    -- the device failed while the row came
    pub cut_all : (new : Kept D) (notes : List Noted) → new.queue ≡ seen.queue → new.spool.live ≡ false
        → (honest → AtEachMoment words seen.spool.disk new.spool.disk (HasBodies (IsBeforeOrWithAll seen.spool.bodies row.bodies)))
        → notes ≡ row.notes → CutsAll honest words new changes pending notes
    cut_all new notes queue stopped stop same = record {
      halted = record {
        stopped = stopped;
        fitting = awaits.fitting;
        fits = awaits.fits;
        next = ap (λ (q : Queue). q.next) (queue ∙ seen_queue) ∙ next_after changes pending;
        images = λ h image left. image_is h image ((stop h).now image left);
      };
      notes_are = subst (λ (ns : List Noted). AreNotes (queue_of changes) pending ns) (sym same) awaits.notes;
    }
