-- What follows from the definitions: what a read gives is one of the images, and time goes on.
use Rattle.std.specs.Prelude.{◌≡◌, ◌⊎◌, ℕ, ◌+◌, ◌-◌, ◌<◌, ◌≤◌, max, List, [], ◌∷◌, ◌++◌, length, take, drop}
use Rattle.std.specs.Prelude.{slice_index, refl}
use Rattle.std.proofs.Common.{inl, inr, arith, subst, sym, ap, ◌∙◌, get_or, get_or-take, length-take, length-append}
use Rattle.std.proofs.Common.{length-drop}
use Rattle.std.proofs.lemmas.List.{get_or-append_right, get_or-drop, get_or_append_left}
use Rattle.relay_disk.specs.declared.call.Call.{Call}
use Rattle.relay_disk.specs.declared.call.Call.TheVariants.{Write, FailedWrite, Cut, Sync}
use Rattle.relay_disk.specs.declared.memory.MemoryDisk.{MemoryDisk}
use Rattle.relay_disk.specs.Device.{written, Writes, Cuts}
use Rattle.relay_disk.specs.MayLeave.{seen_after, MayLeave, LeftSince}
use Rattle.relay_disk.specs.Memory.{image_of, start_of, calls_of, images_of, moment_of, images_since}

pub length-written : (old : List ℕ) (place : ℕ) (octets : List ℕ)
    → (length old ≤ length (written old place octets))
    × (length (written old place octets) ≤ max (length old) (place + length octets))
length-written old place octets =
    let all = length-append (take place old ++ octets) (drop (place + length octets) old) in
    let front = length-append (take place old) octets in
    let begin = length-take place old in
    let end = length-drop (place + length octets) old in
    (omega (arith, all, front, begin, end), omega (arith, all, front, begin, end))

-- a write leaves the octets outside its range
pub written_outside : (old : List ℕ) (place : ℕ) (octets : List ℕ) (at : ℕ) → at < length old
    → (at < place) ⊎ (place + length octets ≤ at)
    → slice_index (written old place octets) at ≡ slice_index old at
written_outside old place octets at within (inl before) =
    let begin = length-take place old in
    let front = length-append (take place old) octets in
    get_or_append_left (take place old ++ octets) (drop (place + length octets) old) 0 at (omega (arith, begin, front))
    ∙ get_or_append_left (take place old) octets 0 at (omega (arith, begin))
    ∙ get_or-take place old at 0 before
written_outside old place octets at within (inr after) =
    let begin = length-take place old in
    let front = length-append (take place old) octets in
    get_or-append_right (take place old ++ octets) (drop (place + length octets) old) (place + length octets) at 0
    (omega (arith, begin, front)) after
    ∙ get_or-drop (place + length octets) old (at - (place + length octets)) 0
    ∙ ap (λ n. get_or old n 0) (omega arith)

-- a write that was done is one that a stop may make of it
pub Writes-written : (old : List ℕ) (place : ℕ) (octets : List ℕ)
    → Writes place (length octets) old (written old place octets)
Writes-written old place octets =
    let len = length-written old place octets in
    record { stays = written_outside old place octets; no_shorter = len.0; no_longer = len.1 }

-- so is one that did nothing
pub Writes-same : (old : List ℕ) (place count : ℕ) → Writes place count old old
Writes-same old place count =
    record { stays = λ at within outside. refl; no_shorter = omega arith; no_longer = omega arith }

pub Cuts-take : (old : List ℕ) (size : ℕ) → Cuts size old (take size old)
Cuts-take old size =
    let begin = length-take size old in
    record {
      stays = λ at within. get_or-take size old at 0 (omega (arith, begin));
      no_shorter = omega (arith, begin);
      no_longer = omega (arith, begin);
    }

pub Cuts-same : (old : List ℕ) (size : ℕ) → Cuts size old old
Cuts-same old size = record { stays = λ at within. refl; no_shorter = omega arith; no_longer = omega arith }

-- what a read gives is one of the images
pub sees_now : (start : List ℕ) (calls : List Call) → MayLeave start calls (seen_after start calls)
sees_now start [] = refl
sees_now start (Write place octets ∷ earlier) =
    (seen_after start earlier, sees_now start earlier, Writes-written (seen_after start earlier) place octets.items)
sees_now start (FailedWrite place count ∷ earlier) =
    (seen_after start earlier, sees_now start earlier, Writes-same (seen_after start earlier) place count)
sees_now start (Cut size ∷ earlier) =
    (seen_after start earlier, sees_now start earlier, Cuts-take (seen_after start earlier) size)
sees_now start (Sync ∷ earlier) = refl

-- a sync leaves no image that wasn't there
pub seen_is_left : (start : List ℕ) (calls : List Call) (image : List ℕ) → image ≡ seen_after start calls
    → MayLeave start calls image
seen_is_left start calls image is = subst (MayLeave start calls) (sym is) (sees_now start calls)

-- this time is one of those since an earlier one
pub counts_now : (start : List ℕ) (calls : List Call) (since : ℕ) (image : List ℕ) → since ≤ length calls
    → MayLeave start calls image → LeftSince start calls since image
counts_now start [] since image by may = (by, may)
counts_now start (call ∷ earlier) since image by may = (by, inl may)

too_late : (start : List ℕ) (calls : List Call) (since : ℕ) (image : List ℕ) → length calls < since
    → LeftSince start calls since image → ⊥
too_late start [] since image late left = absurd (omega (arith, late, left.0))
too_late start (call ∷ earlier) since image late left = absurd (omega (arith, late, left.0))

-- since this time there is no other
pub only_now : (start : List ℕ) (calls : List Call) (image : List ℕ) → LeftSince start calls (length calls) image
    → MayLeave start calls image
only_now start [] image left = left.1
only_now start (call ∷ earlier) image left =
    elim (left.1) [
      | inl now ↦ now
      | inr past ↦ absurd (too_late start earlier (length (call ∷ earlier)) image (omega arith) past)
    ]

-- what a read gives is one of the images
pub sees_image : (disk : MemoryDisk) → images_of disk (image_of disk)
sees_image disk = subst (images_of disk) (sym disk.replayed) (sees_now (start_of disk) (calls_of disk))

-- this time is one of those since an earlier one
pub counts_image : (disk : MemoryDisk) (since : ℕ) (image : List ℕ) → since ≤ moment_of disk → images_of disk image
    → images_since disk since image
counts_image disk = counts_now (start_of disk) (calls_of disk)

-- since this time there is no other
pub leaves_image : (disk : MemoryDisk) (image : List ℕ) → images_since disk (moment_of disk) image
    → images_of disk image
leaves_image disk = only_now (start_of disk) (calls_of disk)
