-- The laws of what bodies stand for.
use Rattle.std.proofs.Common.{◌≡◌, ℕ, List, [], ◌∷◌, ◌++◌, map, fold, inl, inr, refl, sym, subst, ap, ◌∙◌, arith}
use Rattle.std.specs.List.{AllByRecursion}
use Rattle.std.proofs.lemmas.List.Sums.{fold-append}
use Rattle.relay_book.specs.declared.version.Version.{Version}
use Rattle.relay_book.specs.declared.version.Version.TheVariants as version
use Rattle.relay_book.specs.declared.version.SnapshotVersion.{SnapshotVersion}
use Rattle.relay_book.specs.declared.version.SnapshotVersion.TheVariants.{WithoutDelay, WithDelay}
use Rattle.relay_book.specs.declared.message.Place.{Place}
use Rattle.relay_book.specs.declared.message.Message.{Message}
use Rattle.relay_book.specs.declared.change.Change.{Change}
use Rattle.relay_book.specs.declared.change.Change.TheVariants.{Accept, Outcome}
use Rattle.relay_book.specs.Record.{IsChange, encode, outcome_kind}
use Rattle.relay_book.specs.Queue.{Queue, FitsQueue, FitsFrom, empty_queue, queue_of, step}
use Rattle.relay_book.specs.Snapshot.{IsPlace, IsPlaceBy, IsQueue, IsQueued, IsQueuedBy, IsSnapshotOf, snapshot_kind}
use Rattle.relay_book.specs.StandsFor.{BodiesLeaveOne, EncodingsStand, NoneStandForNone, OneMoreStands, QueueIsRead, ReadsAll, ReadsBody, ReadsFirst, ReadsQueue, SnapshotIsRead, SnapshotStands}
use Rattle.relay_book.proofs.ChangeFieldLemmas.{encoding_is_one}
use Rattle.relay_book.proofs.CodeLemmas.{first_of}
use Rattle.relay_book.proofs.QueueLemmas.{list_is_queue, step_is_queue}
use Rattle.relay_book.proofs.SnapshotLemmas.{kind_of, snapshot_is_one}
use Rattle.relay_book.proofs.SnapshotLengthLemmas.{few_messages}

pub none_stand_for_none : NoneStandForNone
none_stand_for_none = record { fitting = tt; reads = refl }

pub one_more_fits : (queue : Queue) (changes : List Change) (change : Change) → FitsFrom queue changes → FitsQueue (fold step queue changes) change → FitsFrom queue (changes ++ change ∷ [])
one_more_fits queue [] change fitting fits = (fits, tt)
one_more_fits queue (first ∷ changes) change fitting fits = (fitting.0, one_more_fits (step queue first) changes change fitting.1 fits)

-- one body more is read
more_read : (queue : Queue) (bodies : List (List ℕ)) (mid : Queue) (body : List ℕ) (left : Queue) → ReadsQueue queue bodies mid → ReadsBody mid body left → ReadsQueue queue (bodies ++ body ∷ []) left
more_read queue [] mid body left reads one = (left, subst (λ (q : Queue). ReadsBody q body left) reads one, refl)
more_read queue (first ∷ bodies) mid body left reads one = (reads.0, reads.1, more_read reads.0 bodies mid body left reads.2 one)

pub one_more_read : (bodies : List (List ℕ)) (mid : Queue) (body : List ℕ) (left : Queue) → ReadsAll bodies mid → ReadsBody mid body left → ReadsAll (bodies ++ body ∷ []) left
one_more_read [] mid body left reads one = (left, inr (subst (λ (q : Queue). ReadsBody q body left) reads one), refl)
one_more_read (first ∷ bodies) mid body left reads one = (reads.0, reads.1, more_read reads.0 bodies mid body left reads.2 one)

pub one_more_stands : OneMoreStands
one_more_stands bodies changes change stands fits = record {
  fitting = one_more_fits empty_queue changes change stands.fitting fits;
  reads = one_more_read bodies (queue_of changes) (encode change) (queue_of (changes ++ change ∷ [])) stands.reads
      (record { change = change; fits = fits; body_is = refl; left_is = fold-append step empty_queue changes (change ∷ []) });
}

-- what fits a queue may be stored
pub fits_is_change : (queue : Queue) (change : Change) → FitsQueue queue change → IsChange change
fits_is_change queue (Accept accept) fits = fits.1
fits_is_change queue (Outcome outcome) fits = fits.2

-- a body is the record of one change
body_leaves_one : (queue : Queue) (body : List ℕ) (left other : Queue) → ReadsBody queue body left → ReadsBody queue body other → left ≡ other
body_leaves_one queue body left other one two =
    let same = encoding_is_one one.change two.change (fits_is_change queue one.change one.fits) (fits_is_change queue two.change two.fits) (sym one.body_is ∙ two.body_is) in
    one.left_is ∙ ap (step queue) same ∙ sym two.left_is

rest_leaves_one : (queue : Queue) (bodies : List (List ℕ)) (left other : Queue) → ReadsQueue queue bodies left → ReadsQueue queue bodies other → left ≡ other
rest_leaves_one queue [] left other one two = one ∙ sym two
rest_leaves_one queue (body ∷ bodies) left other one two =
    let same = body_leaves_one queue body one.0 two.0 one.1 two.1 in
    rest_leaves_one two.0 bodies left other (subst (λ (q : Queue). ReadsQueue q bodies left) same one.2) two.2

of_version : (of : SnapshotVersion) (other : Version) → snapshot_kind of ≡ outcome_kind other → ⊥
of_version WithoutDelay version.WithoutDelay e = omega (arith, e)
of_version WithoutDelay version.WithDelay e = omega (arith, e)
of_version WithoutDelay version.WithWithdrawal e = omega (arith, e)
of_version WithDelay version.WithoutDelay e = omega (arith, e)
of_version WithDelay version.WithDelay e = omega (arith, e)
of_version WithDelay version.WithWithdrawal e = omega (arith, e)

of_accept : (of : SnapshotVersion) → snapshot_kind of ≡ 1 → ⊥
of_accept WithoutDelay e = omega (arith, e)
of_accept WithDelay e = omega (arith, e)

-- no snapshot begins as a record
pub other_kinds : (of : SnapshotVersion) (change : Change) → snapshot_kind of ≡ first_of (encode change) → ⊥
other_kinds of (Accept accept) e = of_accept of e
other_kinds of (Outcome outcome) e = of_version of outcome.version e

-- no snapshot is the record of a change
pub not_both : (body : List ℕ) (queue left : Queue) → IsSnapshotOf body queue → ReadsBody empty_queue body left → ⊥
not_both body queue left is reads = other_kinds is.0 reads.change (sym (kind_of is.0 body queue is.1) ∙ ap first_of reads.body_is)

first_leaves_one : (body : List ℕ) (left other : Queue) → ReadsFirst body left → ReadsFirst body other → left ≡ other
first_leaves_one body left other (inl one) (inl two) = snapshot_is_one body left other one two
first_leaves_one body left other (inl one) (inr two) = absurd (not_both body left other one two)
first_leaves_one body left other (inr one) (inl two) = absurd (not_both body other left two one)
first_leaves_one body left other (inr one) (inr two) = body_leaves_one empty_queue body left other one two

pub bodies_leave_one : BodiesLeaveOne
bodies_leave_one [] left other one two = one ∙ sym two
bodies_leave_one (body ∷ bodies) left other one two =
    let same = first_leaves_one body one.0 two.0 one.1 two.1 in
    rest_leaves_one two.0 bodies left other (subst (λ (q : Queue). ReadsQueue q bodies left) same one.2) two.2

pub queue_is_read : QueueIsRead
queue_is_read bodies changes queue stands =
    ((λ reads. bodies_leave_one bodies queue (queue_of changes) reads stands.reads), (λ is. subst (ReadsAll bodies) (sym is) stands.reads))

are_read : (queue : Queue) (changes : List Change) → FitsFrom queue changes → ReadsQueue queue (map encode changes) (fold step queue changes)
are_read queue [] fits = refl
are_read queue (change ∷ changes) fits =
    (step queue change, record { change = change; fits = fits.0; body_is = refl; left_is = refl }, are_read (step queue change) changes fits.1)

all_read : (changes : List Change) → FitsFrom empty_queue changes → ReadsAll (map encode changes) (queue_of changes)
all_read [] fits = refl
all_read (change ∷ changes) fits =
    (step empty_queue change, inr (record { change = change; fits = fits.0; body_is = refl; left_is = refl }), are_read (step empty_queue change) changes fits.1)

pub encodings_stand : EncodingsStand
encodings_stand changes fits = record { fitting = fits; reads = all_read changes fits }

rest_front : (queue : Queue) (bodies rest : List (List ℕ)) (left : Queue) → ReadsQueue queue (bodies ++ rest) left → (mid : Queue) × ReadsQueue queue bodies mid
rest_front queue [] rest left reads = (queue, refl)
rest_front queue (body ∷ bodies) rest left reads =
    let after = rest_front reads.0 bodies rest left reads.2 in
    (after.0, (reads.0, reads.1, after.1))

-- what is read whole is read in front
pub reads_front : (bodies rest : List (List ℕ)) (left : Queue) → ReadsAll (bodies ++ rest) left → (mid : Queue) × ReadsAll bodies mid
reads_front [] rest left reads = (empty_queue, refl)
reads_front (body ∷ bodies) rest left reads =
    let after = rest_front reads.0 bodies rest left reads.2 in
    (after.0, (reads.0, reads.1, after.1))

-- the second version says all of a place
places_said : (places : List Place) → AllByRecursion IsPlace places → AllByRecursion (IsPlaceBy WithDelay) places
places_said [] all = tt
places_said (place ∷ places) all = (record { is = all.0; may = tt }, places_said places all.1)

messages_said : (messages : List (ℕ × Message)) → AllByRecursion IsQueued messages → AllByRecursion (IsQueuedBy WithDelay) messages
messages_said [] all = tt
messages_said (entry ∷ messages) all =
    (record { is = all.0; places = places_said entry.1.places all.0.places }, messages_said messages all.1)

pub snapshot_is_read : SnapshotIsRead
snapshot_is_read queue is short = (
  queue,
  inl (
    WithDelay,
    record { valid = is; messages = messages_said queue.messages is.messages; few = few_messages queue short; octets_are = refl },
  ),
  refl,
)

pub snapshot_stands : SnapshotStands
snapshot_stands changes fitting short = record {
  fitting = fitting;
  reads = snapshot_is_read (queue_of changes) (list_is_queue changes fitting) short;
}

-- what is read from a queue that may be stored leaves one
pub body_is_queue : (queue : Queue) (body : List ℕ) (left : Queue) → IsQueue queue → ReadsBody queue body left → IsQueue left
body_is_queue queue body left is reads = subst IsQueue (sym reads.left_is) (step_is_queue queue reads.change reads.fits is)

rest_is_queue : (queue : Queue) (bodies : List (List ℕ)) (left : Queue) → IsQueue queue → ReadsQueue queue bodies left → IsQueue left
rest_is_queue queue [] left is reads = subst IsQueue (sym reads) is
rest_is_queue queue (body ∷ bodies) left is reads =
    rest_is_queue reads.0 bodies left (body_is_queue queue body reads.0 is reads.1) reads.2

pub first_is_queue : (body : List ℕ) (left : Queue) → ReadsFirst body left → IsQueue left
first_is_queue body left (inl is) = is.1.valid
first_is_queue body left (inr reads) = body_is_queue empty_queue body left (list_is_queue [] tt) reads

pub read_is_queue : (bodies : List (List ℕ)) (left : Queue) → ReadsAll bodies left → IsQueue left
read_is_queue [] left reads = subst IsQueue (sym reads) (list_is_queue [] tt)
read_is_queue (body ∷ bodies) left reads =
    rest_is_queue reads.0 bodies left (first_is_queue body reads.0 reads.1) reads.2
