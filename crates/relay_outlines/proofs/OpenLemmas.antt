-- What a spool that was read to its end shows.
use Rattle.std.proofs.Common.{◌≡◌, ℕ, ◌<◌, ◌^◌, true, false, Bool, List, [], ◌∷◌, length, map, refl, ap, ◌∙◌, subst}
use Rattle.std.proofs.Common.{arith, if◌then◌else◌}
use Rattle.std.specs.List.{AllByRecursion}
use Rattle.relay_disk.specs.declared.disks.Disks.{Disks}
use Rattle.relay_disk.specs.Device.{DiskWords}
use Rattle.relay_disk.specs.Disks.{seen_of}
use Rattle.relay_spool.specs.Image.{size_of}
use Rattle.relay_spool.specs.Pair.{HasBodies}
use Rattle.relay_spool.specs.Run.{EachOnlyReads}
use Rattle.relay_book.specs.declared.message.Message.{Message}
use Rattle.relay_book.specs.Outline.{length_in, outline_entry, outline_of, outline_text}
use Rattle.relay_book.specs.Queue.{Queue}
use Rattle.relay_book.specs.Record.{is_null, report_limit, stored_text_limit}
use Rattle.relay_book.specs.Snapshot.{IsQueued}
use Rattle.relay_book.specs.StandsFor.{ReadsAll}
use Rattle.relay_book.proofs.Theorems.{outline_tells, read_is_queue}
use Rattle.relay_outlines.proofs.CursorLemmas.{seen_alike}
use Rattle.relay_outlines.specs.Look.{Seen, Shows, blank_entry, blank_texts, entry_as_told, seen, texts_as_told}
use Rattle.relay_outlines.specs.Look.{with_blank}
use Rattle.relay_outlines.specs.Reading.{HasOutline}

either_short : (report : Bool) → (if report then report_limit else stored_text_limit) < 2 ^ 64
either_short true = omega arith
either_short false = omega arith

-- a text that may be stored is as long as its outline says
told : (entry : ℕ × Message) → IsQueued entry
    → length_in (outline_text entry.1.accept.stored_text) ≡ length entry.1.accept.stored_text
told entry is =
    let within = is.accept.text in
    let short = either_short (is_null entry.1.accept.envelope.reverse_path) in
    outline_tells entry.1.accept.stored_text (omega (arith, within, short))

all_told : (entries : List (ℕ × Message)) → AllByRecursion IsQueued entries
    → map entry_as_told (map outline_entry entries) ≡ map blank_entry entries
all_told [] all = refl
all_told (entry ∷ entries) all =
    ap (λ (count : ℕ). (entry.0, with_blank count entry.1) ∷ map entry_as_told (map outline_entry entries))
    (told entry all.0)
    ∙ ap (λ (rest : List (ℕ × Message)). blank_entry entry ∷ rest) (all_told entries all.1)

abbrev with_messages : ℕ → List (ℕ × Message) → Queue
with_messages next messages = record { next = next; messages = messages }

-- the outline of a queue that bodies leave shows the queue
outline_shows : (bodies : List (List ℕ)) (queue : Queue) → ReadsAll bodies queue
    → texts_as_told (outline_of queue) ≡ blank_texts queue
outline_shows bodies queue reads =
    ap (with_messages queue.next) (all_told queue.messages (read_is_queue bodies queue reads).messages)

pub shows : {D : Type 0} (honest : Type 0) (words : DiskWords D) (disk : Disks D) (outline : Queue) (size : ℕ)
    (look : Seen) → look ≡ seen outline size
    → HasOutline honest (seen_of words disk) size outline → (queue : Queue) × Shows honest words disk look queue
shows honest words disk outline size look is has = (
  has.queue,
  record {
    blank =
        ap (λ (s : Seen). s.queue) is ∙ ap texts_as_told has.outline_is ∙ outline_shows has.bodies has.queue has.reads;
    reads = λ h. (has.bodies, (has.is_read h).is_image, has.reads);
    sized = λ h. (has.bodies, (has.is_read h).is_image, ap (λ (s : Seen). s.size) is ∙ (has.is_read h).size_is);
  },
)

-- disks that were only read hold the same
pub shows_before : {D : Type 0} (honest : Type 0) (words : DiskWords D) (old now : Disks D) (look : Seen)
    (queue : Queue) → (honest → EachOnlyReads words old now)
    → Shows honest words now look queue → Shows honest words old look queue
shows_before honest words old now look queue keeps shown = record {
  blank = shown.blank;
  reads = λ h. subst (HasBodies (λ bodies. ReadsAll bodies queue)) (seen_alike words old now (keeps h)) (shown.reads h);
  sized =
      λ h. subst (HasBodies (λ bodies. look.size ≡ size_of bodies)) (seen_alike words old now (keeps h))
      (shown.sized h);
}
