-- A cursor that goes on from body to body, and what was read by it so far.
use Rattle.std.proofs.Common.{◌≡◌, inl, ℕ, ◌+◌, ◌≤◌, ◌<◌, true, List, [], ◌∷◌, ◌++◌, length, Option, None, Some, refl}
use Rattle.std.proofs.Common.{sym, ap, ◌∙◌, subst, arith, append_assoc, append-nil, length-append}
use Rattle.relay_disk.specs.declared.disks.Disks.{Disks}
use Rattle.relay_disk.specs.declared.disks.Side.{Side}
use Rattle.relay_disk.specs.Device.{DiskWords}
use Rattle.relay_disk.specs.Disks.{FailsNot, Images, seen_of}
use Rattle.relay_pieces.specs.Pieces.{InPieces}
use Rattle.relay_spool.specs.Cursor.{AtGate, HasRead, IsRead, ReadsNext}
use Rattle.relay_spool.specs.Pair.{HasBodies, IsDamagedAt, IsImageOf, IsNoSpool, IsTooLarge}
use Rattle.relay_spool.specs.Run.{EachOnlyReads, OnlyReads}
use Rattle.relay_spool.specs.Spool.{RefusesToOpen}
use Rattle.relay_spool.specs.declared.fault.SpoolFault.{SpoolFault}
use Rattle.relay_spool.specs.declared.fault.SpoolFault.TheVariants.{Device, NotASpool, Damaged, NoMemory, NotEmpty}
use Rattle.relay_spool.specs.declared.fault.SpoolFault.TheVariants.{Full, NoSecond}
use Rattle.relay_spool.proofs.Theorems.{each_kept_on}
use Rattle.relay_book.specs.Outline.{ReadsOutline, outline_of}
use Rattle.relay_book.specs.Queue.{Queue, empty_queue}
use Rattle.relay_book.specs.StandsFor.{ReadsAll, ReadsBody, ReadsFirst, ReadsNoBody, ReadsQueue}
use Rattle.relay_book.proofs.Theorems.{bodies_leave_one, one_more_read}
use Rattle.relay_records.specs.declared.fault.Cause.{Cause}
use Rattle.relay_records.specs.declared.fault.Cause.TheVariants.{Spool, BadRecord}
use Rattle.relay_records.specs.Open.{IsBadRecord, RefusesImage}
use Rattle.relay_records.specs.Reading.{ReadsAt, ReadsNoneAt}
use Rattle.relay_outlines.specs.Reading.{HasFirst, HasMore, HasOutline}
use Rattle.relay_outlines.proofs.ReadLemmas.{next_at, none_next}

-- the cursor goes on from the old one: there is more to read, on the same disk, and no call has failed
pub record Goes {D : Type 0} (honest : Type 0) (words : DiskWords D) (old new : AtGate D) : Type 0 where
  pub live : new.live ≡ true
  pub side : new.side ≡ old.side
  pub kept : honest → EachOnlyReads words old.disk new.disk
  pub failures : FailsNot words old.disk new.disk

-- since this moment of the disk there is no other
abbrev OnlyNow : {D : Type 0} → DiskWords D → D → Type 0
OnlyNow words disk = (image : List ℕ) → words.left_since disk (words.moment disk) image → words.may_leave disk image

unread : {D : Type 0} (words : DiskWords D) (disk : D) → OnlyNow words disk → OnlyReads words disk disk
unread words disk only = record {
  reads = refl;
  stop = record {
    since =
        record { later = omega arith; each = λ image left. only image left; earlier = λ since image by left. inl left };
    now = λ image left. left;
  };
}

pub goes_nowhere : {D : Type 0} (honest : Type 0) (words : DiskWords D) (old : AtGate D)
    → (honest → (disk : D) (image : List ℕ) → words.left_since disk (words.moment disk) image
    → words.may_leave disk image)
    → old.live ≡ true → Goes honest words old old
goes_nowhere honest words old only live = record {
  live = live;
  side = refl;
  kept =
      λ h. (unread words old.disk.first (only h old.disk.first), unread words old.disk.second (only h old.disk.second));
  failures = (refl, refl);
}

-- calls that don't fail, one after another
pub fails_not_on : {D : Type 0} (words : DiskWords D) (old mid new : Disks D) → FailsNot words old mid
    → FailsNot words mid new → FailsNot words old new
fails_not_on words old mid new one two = (two.0 ∙ one.0, two.1 ∙ one.1)

pub goes_on : {D : Type 0} (honest : Type 0) (words : DiskWords D) (old mid new : AtGate D) → Goes honest words old mid
    → new.live ≡ true → new.side ≡ mid.side
    → (honest → EachOnlyReads words mid.disk new.disk) → FailsNot words mid.disk new.disk → Goes honest words old new
goes_on honest words old mid new goes live side keeps failures = record {
  live = live;
  side = side ∙ goes.side;
  kept = λ h. each_kept_on words old.disk mid.disk new.disk (goes.kept h) (keeps h);
  failures = fails_not_on words old.disk mid.disk new.disk goes.failures failures;
}

-- disks that are only read read the same
pub seen_alike : {D : Type 0} (words : DiskWords D) (old new : Disks D) → EachOnlyReads words old new
    → seen_of words new ≡ seen_of words old
seen_alike words old new keeps =
    ap (λ (octets : List ℕ). record { first = octets; second = words.seen new.second }) keeps.0.reads
    ∙ ap (λ (octets : List ℕ). record { first = words.seen old.first; second = octets }) keeps.1.reads

-- what was read of the old disks is so of the new ones
pub read_here : {D : Type 0} (honest : Type 0) (words : DiskWords D) (old now : AtGate D) (place : ℕ)
    (bodies : List (List ℕ)) → Goes honest words old now → honest
    → HasRead (seen_of words old.disk) old.side place bodies → HasRead (seen_of words now.disk) now.side place bodies
read_here honest words old now place bodies goes h has =
    subst (λ (images : Images). HasRead images now.side place bodies)
    (sym (seen_alike words old.disk now.disk (goes.kept h)))
    (subst (λ (side : Side). HasRead (seen_of words old.disk) side place bodies) (sym goes.side) has)

-- and what is read of the new ones, of the old ones
pub read_there : {D : Type 0} (honest : Type 0) (words : DiskWords D) (old now : AtGate D) (place : ℕ)
    (bodies : List (List ℕ)) → Goes honest words old now → honest
    → HasRead (seen_of words now.disk) now.side place bodies → HasRead (seen_of words old.disk) old.side place bodies
read_there honest words old now place bodies goes h has =
    subst (λ (side : Side). HasRead (seen_of words old.disk) side place bodies) goes.side
    (subst (λ (images : Images). HasRead images now.side place bodies)
    (seen_alike words old.disk now.disk (goes.kept h)) has)

-- images that are refused are so by another name
refuses_alike : (honest : Type 0) (images others : Images) (fault : SpoolFault) → (honest → images ≡ others)
    → RefusesToOpen honest images fault → RefusesToOpen honest others fault
refuses_alike honest images others Device same refused = refused
refuses_alike honest images others NotASpool same refused = λ h. subst IsNoSpool (same h) (refused h)
refuses_alike honest images others (Damaged place) same refused =
    λ h. subst (λ (i : Images). IsDamagedAt i place) (same h) (refused h)
refuses_alike honest images others NoMemory same refused = refused
refuses_alike honest images others NotEmpty same refused = refused
refuses_alike honest images others Full same refused = λ h. subst IsTooLarge (same h) (refused h)
refuses_alike honest images others NoSecond same refused = refused

-- a fault of the new disks is one of the old ones
pub refuses_there : {D : Type 0} (honest : Type 0) (words : DiskWords D) (old now : AtGate D) (fault : SpoolFault)
    → Goes honest words old now
    → RefusesToOpen honest (seen_of words now.disk) fault → RefusesToOpen honest (seen_of words old.disk) fault
refuses_there honest words old now fault goes refused =
    refuses_alike honest (seen_of words now.disk) (seen_of words old.disk) fault
    (λ h. seen_alike words old.disk now.disk (goes.kept h)) refused

-- no body follows
pub reads_end : (images : Images) (side : Side) (bodies : List (List ℕ)) (place : ℕ) (found : Option InPieces)
    → ((body : InPieces) → found ≡ Some body → ⊥)
    → ReadsNext images side bodies place found → IsRead images place bodies
reads_end images side bodies place None none reads = reads
reads_end images side bodies place (Some body) none reads = absurd (none body refl)

-- bodies were read to the end of the old disks
pub is_read_there : {D : Type 0} (honest : Type 0) (words : DiskWords D) (old now : AtGate D) (size : ℕ)
    (bodies : List (List ℕ)) → Goes honest words old now → honest
    → IsRead (seen_of words now.disk) size bodies → IsRead (seen_of words old.disk) size bodies
is_read_there honest words old now size bodies goes h is =
    subst (λ (images : Images). IsRead images size bodies) (seen_alike words old.disk now.disk (goes.kept h)) is

-- more bodies were read after those before, and stand before the cursor's gate
pub record Passing {D : Type 0} (honest : Type 0) (words : DiskWords D) (old now : AtGate D) : Type 0 where
  pub goes : Goes honest words old now
  pub more : List (List ℕ)
  pub has : honest → (bodies : List (List ℕ)) → HasRead (seen_of words old.disk) old.side old.place bodies
      → HasRead (seen_of words old.disk) old.side now.place (bodies ++ more)

pub passes_none : {D : Type 0} (honest : Type 0) (words : DiskWords D) (old : AtGate D)
    → (honest → (disk : D) (image : List ℕ) → words.left_since disk (words.moment disk) image
    → words.may_leave disk image)
    → old.live ≡ true → Passing honest words old old
passes_none honest words old only live = record {
  goes = goes_nowhere honest words old only live;
  more = [];
  has =
      λ h bodies has. subst (λ (all : List (List ℕ)). HasRead (seen_of words old.disk) old.side old.place all)
      (sym (append-nil bodies)) has;
}

pub passes_more : {D : Type 0} (honest : Type 0) (words : DiskWords D) (old mid new : AtGate D) (body : List ℕ)
    → Passing honest words old mid → Goes honest words old new
    → (honest → (bodies : List (List ℕ)) → HasRead (seen_of words mid.disk) mid.side mid.place bodies
    → HasRead (seen_of words mid.disk) mid.side new.place (bodies ++ body ∷ []))
    → Passing honest words old new
passes_more honest words old mid new body so_far goes reads = record {
  goes = goes;
  more = so_far.more ++ body ∷ [];
  has = λ h bodies has.
      let before = bodies ++ so_far.more in
      let here = read_here honest words old mid mid.place before so_far.goes h (so_far.has h bodies has) in
      let next = read_there honest words old mid new.place (before ++ body ∷ []) so_far.goes h (reads h before here) in
      subst (λ (all : List (List ℕ)). HasRead (seen_of words old.disk) old.side new.place all)
      (append_assoc bodies so_far.more (body ∷ [])) next;
}

-- why a cursor that passed more bodies is refused
pub refuses_passing : {D : Type 0} (honest : Type 0) (words : DiskWords D) (old now : AtGate D) (fault : SpoolFault)
    → Passing honest words old now
    → ((bodies : List (List ℕ)) → (honest → HasRead (seen_of words now.disk) now.side now.place bodies)
    → RefusesToOpen honest (seen_of words now.disk) fault)
    → (bodies : List (List ℕ)) → (honest → HasRead (seen_of words old.disk) old.side old.place bodies)
    → RefusesToOpen honest (seen_of words old.disk) fault
refuses_passing honest words old now fault so_far refused bodies has =
    refuses_there honest words old now fault so_far.goes
    (refused (bodies ++ so_far.more) (λ h. read_here honest words old now now.place (bodies ++ so_far.more) so_far.goes
    h (so_far.has h bodies (has h))))

-- the bodies that follow, when the cursor is at the end
pub more_to_end : {D : Type 0} (honest : Type 0) (words : DiskWords D) (old now : AtGate D) (size : ℕ)
    (found : Option InPieces) → Passing honest words old now
    → ((body : InPieces) → found ≡ Some body → ⊥)
    → (honest → (bodies : List (List ℕ)) → HasRead (seen_of words now.disk) now.side now.place bodies
    → ReadsNext (seen_of words now.disk) now.side bodies size found)
    → honest → (bodies : List (List ℕ)) → HasRead (seen_of words old.disk) old.side old.place bodies
    → HasMore (seen_of words old.disk) bodies
more_to_end honest words old now size found so_far none next h bodies has =
    let before = bodies ++ so_far.more in
    let here = read_here honest words old now now.place before so_far.goes h (so_far.has h bodies has) in
    let end = reads_end (seen_of words now.disk) now.side before size found none (next h before here) in
    record {
      more = so_far.more;
      is_image = (is_read_there honest words old now size before so_far.goes h end).is_image;
    }

-- the last of bodies that were read
rest_last : (queue : Queue) (bodies : List (List ℕ)) (body : List ℕ) (left : Queue)
    → ReadsQueue queue (bodies ++ body ∷ []) left
    → (mid : Queue) × ReadsQueue queue bodies mid × ReadsBody mid body left
rest_last queue [] body left reads = (queue, refl, subst (ReadsBody queue body) (sym reads.2) reads.1)
rest_last queue (first ∷ bodies) body left reads =
    let after = rest_last reads.0 bodies body left reads.2 in
    (after.0, (reads.0, reads.1, after.1), after.2)

all_last : (front : List (List ℕ)) (body : List ℕ) (left : Queue) → ReadsAll (front ++ body ∷ []) left
    → (mid : Queue) × ReadsAll front mid × ReadsAt (length front) mid body left
all_last [] body left reads = (empty_queue, refl, subst (ReadsFirst body) (sym reads.2) reads.1)
all_last (first ∷ front) body left reads =
    let after = rest_last reads.0 front body left reads.2 in
    (after.0, (reads.0, reads.1, after.1), after.2)

-- a body leaves no queue
pub is_bad : (front : List (List ℕ)) (body : List ℕ) (rest bodies : List (List ℕ)) (number : ℕ) (queue : Queue)
    → ReadsAll front queue
    → bodies ≡ front ++ body ∷ rest → number ≡ length front + 1 → ReadsNoneAt (length front) queue body
    → IsBadRecord number bodies
is_bad front body rest bodies number queue reads are is out = record {
  front = front;
  body = body;
  rest = rest;
  bodies_are = are;
  number_is = is;
  queue = queue;
  reads = reads;
  none = λ left more.
      let last = all_last front body left more in
      let same = bodies_leave_one front last.0 queue last.1 reads in
      out.none left (subst (λ (q : Queue). ReadsAt (length front) q body left) same last.2);
}

-- the bodies that were read so far leave a queue of this outline, and stand before the cursor's gate
pub record Outlining {D : Type 0} (honest : Type 0) (words : DiskWords D) (old now : AtGate D) (before : ℕ)
    (outline : Queue) : Type 0 where
  pub goes : Goes honest words old now
  pub bodies : List (List ℕ)
  pub queue : Queue
  pub reads : ReadsAll bodies queue
  pub outline_is : outline ≡ outline_of queue
  pub some : 1 ≤ before
  pub counted : before ≡ length bodies
  pub within : before ≤ now.place
  pub has : honest → HasRead (seen_of words old.disk) old.side now.place bodies

-- one body more was read
pub all_more : (front : List (List ℕ)) (body : List ℕ) (old new : Queue) → ReadsAll front old
    → ReadsAt (length front) old body new → ReadsAll (front ++ body ∷ []) new
all_more [] body old new reads at = (new, at, refl)
all_more (first ∷ front) body old new reads at = one_more_read (first ∷ front) old body new reads at

pub outline_more : {D : Type 0} (honest : Type 0) (words : DiskWords D) (old mid new : AtGate D) (before : ℕ)
    (outline left : Queue) (body : List ℕ)
    → (so_far : Outlining honest words old mid before outline) → Goes honest words old new → mid.place < new.place
    → (honest → HasRead (seen_of words mid.disk) mid.side new.place (so_far.bodies ++ body ∷ []))
    → ReadsOutline so_far.queue body left → Outlining honest words old new (before + 1) left
outline_more honest words old mid new before outline left body so_far goes moves has outlines =
    let long = length-append so_far.bodies (body ∷ []) in
    let counted = so_far.counted in
    let within = so_far.within in
    let some = so_far.some in
    record {
      goes = goes;
      bodies = so_far.bodies ++ body ∷ [];
      queue = outlines.left;
      reads =
          all_more so_far.bodies body so_far.queue outlines.left so_far.reads
          (next_at (length so_far.bodies) so_far.queue body outlines.left (omega (arith, some, counted))
          outlines.reads);
      outline_is = outlines.outline_is;
      some = omega (arith, some);
      counted = omega (arith, long, counted);
      within = omega (arith, within, moves);
      has = λ h. read_there honest words old mid new.place (so_far.bodies ++ body ∷ []) so_far.goes h (has h);
    }

-- why a cursor that read an outline so far is refused
pub refuses_outlining : {D : Type 0} (honest : Type 0) (words : DiskWords D) (old now : AtGate D) (before : ℕ)
    (outline : Queue) (fault : SpoolFault)
    → (so_far : Outlining honest words old now before outline)
    → ((bodies : List (List ℕ)) → (honest → HasRead (seen_of words now.disk) now.side now.place bodies)
    → RefusesToOpen honest (seen_of words now.disk) fault)
    → RefusesToOpen honest (seen_of words old.disk) fault
refuses_outlining honest words old now before outline fault so_far refused =
    refuses_there honest words old now fault so_far.goes
    (refused so_far.bodies (λ h. read_here honest words old now now.place so_far.bodies so_far.goes h (so_far.has h)))

-- the outline of the queue that all bodies leave
pub outline_to_end : {D : Type 0} (honest : Type 0) (words : DiskWords D) (old now : AtGate D) (before : ℕ)
    (outline : Queue) (size : ℕ) (found : Option InPieces)
    → (so_far : Outlining honest words old now before outline) → ((body : InPieces) → found ≡ Some body → ⊥)
    → (honest → (bodies : List (List ℕ)) → HasRead (seen_of words now.disk) now.side now.place bodies
    → ReadsNext (seen_of words now.disk) now.side bodies size found)
    → HasOutline honest (seen_of words old.disk) size outline
outline_to_end honest words old now before outline size found so_far none next = record {
  bodies = so_far.bodies;
  queue = so_far.queue;
  reads = so_far.reads;
  outline_is = so_far.outline_is;
  is_read = λ h.
      let here = read_here honest words old now now.place so_far.bodies so_far.goes h (so_far.has h) in
      is_read_there honest words old now size so_far.bodies so_far.goes h
      (reads_end (seen_of words now.disk) now.side so_far.bodies size found none (next h so_far.bodies here));
}

-- the first body was read
pub outlines_first : {D : Type 0} (honest : Type 0) (words : DiskWords D) (old : AtGate D) (outline : Queue)
    → (honest → (disk : D) (image : List ℕ) → words.left_since disk (words.moment disk) image
    → words.may_leave disk image)
    → old.live ≡ true → 1 ≤ old.place → HasFirst honest (seen_of words old.disk) old.side old.place outline
    → Outlining honest words old old 1 outline
outlines_first honest words old outline only live some first = record {
  goes = goes_nowhere honest words old only live;
  bodies = first.body ∷ [];
  queue = first.reads.left;
  reads = (first.reads.left, first.reads.reads, refl);
  outline_is = first.reads.outline_is;
  some = omega arith;
  counted = refl;
  within = some;
  has = first.has;
}

-- a body that leaves no queue, and those that follow it
pub bad_there : {D : Type 0} (honest : Type 0) (words : DiskWords D) (old mid now : AtGate D) (before : ℕ)
    (outline : Queue) (body : List ℕ) (number : ℕ)
    → (so_far : Outlining honest words old mid before outline) → Goes honest words old now
    → (honest → HasRead (seen_of words mid.disk) mid.side now.place (so_far.bodies ++ body ∷ []))
    → ReadsNoBody so_far.queue body → number ≡ before + 1
    → (honest → (bodies : List (List ℕ)) → HasRead (seen_of words now.disk) now.side now.place bodies
    → HasMore (seen_of words now.disk) bodies)
    → honest → HasBodies (IsBadRecord number) (seen_of words old.disk)
bad_there honest words old mid now before outline body number so_far goes has none number_is rest h =
    let front = so_far.bodies in
    let there = read_there honest words old mid now.place (front ++ body ∷ []) so_far.goes h (has h) in
    let here = read_here honest words old now now.place (front ++ body ∷ []) goes h there in
    let more = rest h (front ++ body ∷ []) here in
    let counted = so_far.counted in
    let some = so_far.some in
    let image : IsImageOf (seen_of words old.disk) ((front ++ body ∷ []) ++ more.more) =
    subst (λ (images : Images). IsImageOf images ((front ++ body ∷ []) ++ more.more))
    (seen_alike words old.disk now.disk (goes.kept h)) more.is_image in (
      (front ++ body ∷ []) ++ more.more,
      image,
      is_bad front body more.more ((front ++ body ∷ []) ++ more.more) number so_far.queue so_far.reads
          (append_assoc front (body ∷ []) more.more)
          (omega (arith, number_is, counted))
          (none_next (length front) so_far.queue body (omega (arith, some, counted)) none),
    )

-- the body that the cursor read last stands after those before
pub last_read : {D : Type 0} (honest : Type 0) (words : DiskWords D) (old mid : AtGate D) (before to : ℕ)
    (outline : Queue) (body : List ℕ)
    → (so_far : Outlining honest words old mid before outline)
    → (honest → (bodies : List (List ℕ)) → HasRead (seen_of words mid.disk) mid.side mid.place bodies
    → HasRead (seen_of words mid.disk) mid.side to (bodies ++ body ∷ []))
    → honest → HasRead (seen_of words mid.disk) mid.side to (so_far.bodies ++ body ∷ [])
last_read honest words old mid before to outline body so_far reads h =
    reads h so_far.bodies (read_here honest words old mid mid.place so_far.bodies so_far.goes h (so_far.has h))

-- why a cursor is refused that reads on after a body that leaves no queue
pub refuses_after : {D : Type 0} (honest : Type 0) (words : DiskWords D) (old mid now : AtGate D) (before : ℕ)
    (outline : Queue) (body : List ℕ) (fault : SpoolFault)
    → (so_far : Outlining honest words old mid before outline) → Goes honest words old now
    → (honest → HasRead (seen_of words mid.disk) mid.side now.place (so_far.bodies ++ body ∷ []))
    → ((bodies : List (List ℕ)) → (honest → HasRead (seen_of words now.disk) now.side now.place bodies)
    → RefusesToOpen honest (seen_of words now.disk) fault)
    → RefusesToOpen honest (seen_of words old.disk) fault
refuses_after honest words old mid now before outline body fault so_far goes has refused =
    let all = so_far.bodies ++ body ∷ [] in
    refuses_there honest words old now fault goes
    (refused all (λ h. read_here honest words old now now.place all goes h
    (read_there honest words old mid now.place all so_far.goes h (has h))))

-- disks that are refused after they were only read
pub image_refused_before : {D : Type 0} (honest : Type 0) (words : DiskWords D) (old now : Disks D) (cause : Cause)
    → (honest → EachOnlyReads words old now)
    → RefusesImage honest (seen_of words now) cause → RefusesImage honest (seen_of words old) cause
image_refused_before honest words old now (Spool fault) keeps refused =
    refuses_alike honest (seen_of words now) (seen_of words old) fault (λ h. seen_alike words old now (keeps h)) refused
image_refused_before honest words old now (BadRecord number) keeps refused =
    λ h. subst (HasBodies (IsBadRecord number)) (seen_alike words old now (keeps h)) (refused h)
