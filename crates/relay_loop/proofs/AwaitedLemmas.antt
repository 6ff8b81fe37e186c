-- Changes that records await, and one more that was staged.
use Rattle.std.proofs.Common.{◌≡◌, ℕ, List, [], ◌∷◌, ◌++◌, map, fold, refl, sym, ap, ◌∙◌, subst, append_assoc}
use Rattle.std.proofs.lemmas.List.{append_cancel_left, map-append}
use Rattle.std.proofs.lemmas.List.Sums.{fold-append}
use Rattle.relay_disk.specs.Device.{DiskWords}
use Rattle.relay_spool.specs.Spool.{EveryImageHas, Stored}
use Rattle.relay_book.specs.declared.change.Change.{Change}
use Rattle.relay_book.specs.declared.change.Change.TheVariants.{Accept, Outcome}
use Rattle.relay_book.specs.Queue.{FitsFrom, FitsQueue, Fitting, Queue, empty_queue, queue_of, step}
use Rattle.relay_book.specs.Record.{IsChange, encode}
use Rattle.relay_book.specs.StandsFor.{StandsFor}
use Rattle.relay_book.proofs.Theorems.{encoding_is_one, one_more_fits}
use Rattle.relay_records.specs.declared.noted.Noted.{Noted}
use Rattle.relay_records.specs.Note.{NotesNext}
use Rattle.relay_records.specs.Records.{Kept}
use Rattle.relay_records.specs.Staged.{AreNotes, Awaits, Row, Stages}

-- the front of what fits does
pub front_fits : (queue : Queue) (front rest : List Change) → FitsFrom queue (front ++ rest) → FitsFrom queue front
front_fits queue [] rest fits = tt
front_fits queue (change ∷ front) rest fits = (fits.0, front_fits (step queue change) front rest fits.1)

-- so does the last, after them
last_fits : (queue : Queue) (front : List Change) (change : Change) → FitsFrom queue (front ++ change ∷ [])
    → FitsQueue (fold step queue front) change
last_fits queue [] change fits = fits.0
last_fits queue (first ∷ front) change fits = last_fits (step queue first) front change fits.1

-- changes that fit after others that do
fit_after : (queue : Queue) (changes pending : List Change) → FitsFrom queue changes
    → FitsFrom (fold step queue changes) pending → FitsFrom queue (changes ++ pending)
fit_after queue [] pending first second = second
fit_after queue (change ∷ changes) pending first second =
    (first.0, fit_after (step queue change) changes pending first.1 second)

-- a change that fits may be stored
is_change : (queue : Queue) (change : Change) → FitsQueue queue change → IsChange change
is_change queue (Accept accept) fits = fits.1
is_change queue (Outcome outcome) fits = fits.2

-- a note more
notes_more : (queue : Queue) (pending : List Change) (notes : List Noted) (change : Change) (note : Noted)
    → AreNotes queue pending notes → NotesNext (fold step queue pending) change (encode change) note.used note
    → AreNotes queue (pending ++ change ∷ []) (notes ++ note ∷ [])
notes_more queue [] notes change note none next =
    (note, [], ap (λ (ns : List Noted). ns ++ note ∷ []) none, next, refl)
notes_more queue (first ∷ pending) notes change note (one, rest, is, one_next, others) next = (
  one,
  rest ++ note ∷ [],
  ap (λ (ns : List Noted). ns ++ note ∷ []) is,
  one_next,
  notes_more (step queue first) pending rest change note others next,
)

module _ {D : Type 0} (honest : Type 0) (words : DiskWords D) (changes pending : List Change) where
  -- the list of records that await changes fits, with these
  pub awaited_fit : (records : Kept D) (row : Row) → Awaits honest words records changes pending row
      → Fitting (changes ++ pending)
  awaited_fit records row awaits = fit_after empty_queue changes pending awaits.fitting awaits.fits

  -- a change more is awaited
  pub one_more_awaited : (old new : Kept D) (row left : Row) (change : Change) (used number : ℕ)
      → Awaits honest words old changes pending row → FitsQueue old.queue change
      → Stages old new row left change used number
      → Awaits honest words new changes (pending ++ change ∷ []) left
  one_more_awaited old new row left change used number awaits fits stages =
      let after : old.queue ≡ fold step (queue_of changes) pending =
      awaits.queue ∙ fold-append step empty_queue changes pending in
      let noted = subst (λ (n : ℕ). NotesNext old.queue change (encode change) n stages.note)
      (sym stages.notes_next.used_is) stages.notes_next in
      record {
        live = ap (λ (s : Stored D). s.live) stages.spool ∙ awaits.live;
        fitting = awaits.fitting;
        fits =
            one_more_fits (queue_of changes) pending change awaits.fits
            (subst (λ (q : Queue). FitsQueue q change) after fits);
        queue =
            stages.queue ∙ ap (λ (q : Queue). step q change) awaits.queue
            ∙ sym (fold-append step empty_queue (changes ++ pending) (change ∷ []))
            ∙ ap queue_of (append_assoc changes pending (change ∷ []));
        bodies = λ h. subst (λ (s : Stored D). StandsFor s.bodies changes) (sym stages.spool) (awaits.bodies h);
        images = λ h.
            subst (λ (s : Stored D). EveryImageHas words s.disk (λ bodies. StandsFor bodies changes))
            (sym stages.spool) (awaits.images h);
        row_is =
            stages.bodies ∙ ap (λ (b : List (List ℕ)). b ++ encode change ∷ []) awaits.row_is
            ∙ sym (map-append encode pending (change ∷ []));
        notes =
            subst (λ (ns : List Noted). AreNotes (queue_of changes) (pending ++ change ∷ []) ns) (sym stages.notes)
            (notes_more (queue_of changes) pending row.notes change stages.note awaits.notes
            (subst (λ (q : Queue). NotesNext q change (encode change) stages.note.used stages.note) after noted));
      }

  -- two changes that one row records after those that were pending are one
  pub one_is_staged : (old new : Kept D) (row left : Row) (change other : Change) (used number : ℕ)
      → Awaits honest words old changes pending row → FitsQueue old.queue change
      → Stages old new row left change used number → Awaits honest words new changes (pending ++ other ∷ []) left
      → change ≡ other
  one_is_staged old new row left change other used number awaits fits stages with_other =
      let mine : left.bodies ≡ map encode pending ++ encode change ∷ [] =
      stages.bodies ∙ ap (λ (b : List (List ℕ)). b ++ encode change ∷ []) awaits.row_is in
      let also : left.bodies ≡ map encode pending ++ encode other ∷ [] =
      with_other.row_is ∙ map-append encode pending (other ∷ []) in
      let one = append_cancel_left (map encode pending) (encode change ∷ []) (encode other ∷ []) (sym mine ∙ also) in
      encoding_is_one change other (is_change old.queue change fits)
      (is_change (fold step (queue_of changes) pending) other
      (last_fits (queue_of changes) pending other with_other.fits))
      (first_alike (encode change) (encode other) one)
    where
      first_alike : (x y : List ℕ) → ◌≡◌ {A = List (List ℕ)} (x ∷ []) (y ∷ []) → x ≡ y
      first_alike x y e = cc
