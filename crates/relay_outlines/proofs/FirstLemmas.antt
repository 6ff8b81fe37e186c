-- The first body, and what follows it.
use Rattle.std.proofs.Common.{◌≡◌, ℕ, true, List, [], ◌∷◌, refl, subst, arith}
use Rattle.relay_disk.specs.Device.{DiskWords}
use Rattle.relay_disk.specs.Disks.{FailsNot, Images, seen_of}
use Rattle.relay_spool.specs.Cursor.{AtGate, HasRead}
use Rattle.relay_spool.specs.Pair.{HasBodies, IsImageOf}
use Rattle.relay_spool.specs.Run.{EachOnlyReads}
use Rattle.relay_spool.specs.Spool.{RefusesToOpen}
use Rattle.relay_spool.specs.declared.fault.SpoolFault.{SpoolFault}
use Rattle.relay_book.specs.Queue.{Queue, empty_queue}
use Rattle.relay_records.specs.Open.{IsBadRecord}
use Rattle.relay_outlines.specs.Reading.{HasBadFirst, HasFirst, HasMore, IsReadTo}
use Rattle.relay_outlines.specs.declared.reading.Reading.{Reading}
use Rattle.relay_outlines.specs.declared.reading.Reading.TheVariants.{Outline, Bad}
use Rattle.relay_outlines.proofs.CursorLemmas.{Goes, is_bad, is_read_there, read_here, refuses_there, seen_alike}

-- a cursor goes on after a call that found more
pub goes_after : {D : Type 0} (honest : Type 0) (words : DiskWords D) (old new : AtGate D) → new.live ≡ true
    → new.side ≡ old.side
    → (honest → EachOnlyReads words old.disk new.disk) → FailsNot words old.disk new.disk → Goes honest words old new
goes_after honest words old new live side keeps failures =
    record { live = live; side = side; kept = keeps; failures = failures }

-- the first body leaves no queue
pub bad_first : {D : Type 0} (honest : Type 0) (words : DiskWords D) (old now : AtGate D) → Goes honest words old now
    → HasBadFirst honest (seen_of words old.disk) old.side now.place
    → (honest → (bodies : List (List ℕ)) → HasRead (seen_of words now.disk) now.side now.place bodies
    → HasMore (seen_of words now.disk) bodies)
    → honest → HasBodies (IsBadRecord 1) (seen_of words old.disk)
bad_first honest words old now goes first rest h =
    let here = read_here honest words old now now.place (first.body ∷ []) goes h (first.has h) in
    let more = rest h (first.body ∷ []) here in
    let all = first.body ∷ more.more in (
      all,
      subst (λ (images : Images). IsImageOf images all) (seen_alike words old.disk now.disk (goes.kept h))
          more.is_image,
      is_bad [] first.body more.more all 1 empty_queue refl refl (omega arith) (record { none = first.none.none }),
    )

-- why a cursor is refused that reads on after it
pub refuses_first : {D : Type 0} (honest : Type 0) (words : DiskWords D) (old now : AtGate D) (fault : SpoolFault)
    → Goes honest words old now → HasBadFirst honest (seen_of words old.disk) old.side now.place
    → ((bodies : List (List ℕ)) → (honest → HasRead (seen_of words now.disk) now.side now.place bodies)
    → RefusesToOpen honest (seen_of words now.disk) fault)
    → RefusesToOpen honest (seen_of words old.disk) fault
refuses_first honest words old now fault goes first refused =
    refuses_there honest words old now fault goes
    (refused (first.body ∷ []) (λ h. read_here honest words old now now.place (first.body ∷ []) goes h (first.has h)))

-- the first body stands in the disks that were read as well
pub first_here : {D : Type 0} (honest : Type 0) (words : DiskWords D) (old now : AtGate D) (outline : Queue)
    → Goes honest words old now → HasFirst honest (seen_of words old.disk) old.side now.place outline
    → HasFirst honest (seen_of words now.disk) now.side now.place outline
first_here honest words old now outline goes first = record {
  body = first.body;
  has = λ h. read_here honest words old now now.place (first.body ∷ []) goes h (first.has h);
  reads = first.reads;
}

-- what was read of disks that were only read before
pub reads_before : {D : Type 0} (honest : Type 0) (words : DiskWords D) (old now : AtGate D) (size : ℕ)
    (reading : Reading) → Goes honest words old now → IsReadTo honest (seen_of words now.disk) size reading
    → IsReadTo honest (seen_of words old.disk) size reading
reads_before honest words old now size (Outline book) goes has = record {
  bodies = has.bodies;
  queue = has.queue;
  reads = has.reads;
  outline_is = has.outline_is;
  is_read = λ h. is_read_there honest words old now size has.bodies goes h (has.is_read h);
}
reads_before honest words old now size (Bad number) goes bad =
    λ h. subst (HasBodies (IsBadRecord number)) (seen_alike words old.disk now.disk (goes.kept h)) (bad h)
