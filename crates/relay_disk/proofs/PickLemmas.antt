-- Each pick gives an image that a stop may leave.
use Rattle.std.proofs.Common.{◌≡◌, ◌⊎◌, ℕ, zero, suc, ◌+◌, ◌<◌, ◌≤◌, min, max, Bool, true, false, ◌||◌, cond, List, [], ◌∷◌, length, map, slice_index, slice_index_or, nat_le, nat_lt, inl, inr, refl, sym, subst, ap, ◌∙◌, arith, ⊎_elim, length-take, get_or-take, zero-add}
use Rattle.std.specs.List.{range_with_len}
use Rattle.std.proofs.lemmas.List.{ext_get_or, get_or_past, get_or_default}
use Rattle.std.proofs.lemmas.List.FromFn.{length-map-range_with_len, get_or-map-range_with_len}
use Rattle.std.proofs.lemmas.Bool.{cases_lt}
use Rattle.std.proofs.lemmas.Bool.Decides.{nat_tests}
use Rattle.relay_disk.specs.declared.call.Call.{Call}
use Rattle.relay_disk.specs.declared.memory.MemoryDisk.{MemoryDisk}
use Rattle.relay_disk.specs.Memory.{start_of, calls_of, synced_of, images_of, LeavesByPick}
use Rattle.relay_disk.specs.declared.call.Call.TheVariants.{Write, FailedWrite, Cut, Sync}
use Rattle.relay_disk.specs.Device.{written, Writes, Cuts}
use Rattle.relay_disk.specs.MayLeave.{seen_after, are_within, synced_after, MayLeave}
use Rattle.relay_disk.specs.Pick.{is_in, end_of, is_written, is_changed, reach, IsPicked}
use Rattle.relay_disk.specs.MemoryLaws.{length-written, written_outside, Writes-same, Cuts-same, seen_is_left}
use Rattle.relay_disk.proofs.CallLemmas.{and_left, and_right}

-- the octets of a function at the first places
table : (ℕ → ℕ) → ℕ → List ℕ
table octet n = map octet (range_with_len 0 n)

length-table : (octet : ℕ → ℕ) (n : ℕ) → length (table octet n) ≡ n
unfolding table
length-table octet n = length-map-range_with_len octet 0 n

at-table : (octet : ℕ → ℕ) (n at : ℕ) → at < n → slice_index (table octet n) at ≡ octet at
unfolding table
at-table octet n at within = get_or-map-range_with_len octet 0 n at at 0 within (zero-add at)

-- the image keeps the synced octets at each place that wasn't changed
record Keeps (synced : List ℕ) (calls : List Call) (image : List ℕ) : Type 0 where
  octets : (at : ℕ) → at < length image → is_changed synced calls at ≡ false → slice_index image at ≡ slice_index synced at

-- Two images of one length that keep all octets are one.
all_kept : (synced image : List ℕ) → length synced ≤ length image → length image ≤ length synced
    → ((at : ℕ) → at < length image → nat_le (length synced) at || false ≡ false → slice_index image at ≡ slice_index synced at) → image ≡ synced
all_kept synced image low high kept =
    ext_get_or 0 image synced (omega arith) (λ at within. kept at within (grind (arith, nat_tests)))

-- before the latest write: the synced octets come back where only that write can have changed them
earlier_octet : List ℕ → List Call → List ℕ → ℕ → ℕ
earlier_octet synced earlier image at = cond (is_changed synced earlier at) (slice_index image at) (slice_index synced at)

before_write : List ℕ → List Call → List ℕ → ℕ → List ℕ
before_write synced earlier image = table (earlier_octet synced earlier image)

-- before the latest cut: the synced octets come back after the image
uncut_octet : List ℕ → List ℕ → ℕ → ℕ
uncut_octet synced image at = cond (nat_lt at (length image)) (slice_index image at) (slice_index synced at)

before_cut : List ℕ → List ℕ → ℕ → List ℕ
before_cut synced image = table (uncut_octet synced image)

outside_is : (place count at : ℕ) → (at < place) ⊎ (place + count ≤ at) → is_in (place, count) at ≡ false
outside_is place count at (inl before) = grind (arith, nat_tests)
outside_is place count at (inr after) = grind (arith, nat_tests)

either_kept : (past inside before : Bool) (new old synced : ℕ) → inside ≡ false → old ≡ cond (past || before) new synced
    → (past || (inside || before) ≡ false → new ≡ synced) → new ≡ old
either_kept true inside before new old synced out is kept = sym is
either_kept false inside true new old synced out is kept = sym is
either_kept false inside false new old synced out is kept = kept (cc) ∙ sym is

Writes-before_write : (synced : List ℕ) (earlier : List Call) (image : List ℕ) (place count n : ℕ) → n ≤ length image → length image ≤ max n (place + count)
    → ((at : ℕ) → at < length image → nat_le (length synced) at || (is_in (place, count) at || is_written earlier at) ≡ false → slice_index image at ≡ slice_index synced at)
    → Writes place count (before_write synced earlier image n) image
unfolding before_write earlier_octet
Writes-before_write synced earlier image place count n low high kept =
    let size = length-table (earlier_octet synced earlier image) n in
    record {
      stays = λ at within outside. either_kept (nat_le (length synced) at) (is_in (place, count) at) (is_written earlier at) (slice_index image at) _ (slice_index synced at)
          (outside_is place count at outside) (at-table (earlier_octet synced earlier image) n at (omega (arith, size))) (kept at (omega (arith, size)));
      no_shorter = omega (arith, size);
      no_longer = omega (arith, size);
    }

when_false : (b : Bool) (x y : ℕ) → b ≡ false → cond b x y ≡ y
when_false true x y is = cc
when_false false x y is = refl

Keeps-before_write : (synced : List ℕ) (earlier : List Call) (image : List ℕ) (n : ℕ) → Keeps synced earlier (before_write synced earlier image n)
unfolding before_write earlier_octet
Keeps-before_write synced earlier image n =
    let size = length-table (earlier_octet synced earlier image) n in
    record { octets = λ at within unchanged. at-table (earlier_octet synced earlier image) n at (omega (arith, size)) ∙ when_false _ _ _ unchanged }

length-before_write : (synced : List ℕ) (earlier : List Call) (image : List ℕ) (n : ℕ) → length (before_write synced earlier image n) ≡ n
unfolding before_write
length-before_write synced earlier image n = length-table (earlier_octet synced earlier image) n

when_true : (b : Bool) (x y : ℕ) → b ≡ true → cond b x y ≡ x
when_true true x y is = refl
when_true false x y is = cc

length-before_cut : (synced image : List ℕ) (n : ℕ) → length (before_cut synced image n) ≡ n
unfolding before_cut
length-before_cut synced image n = length-table (uncut_octet synced image) n

below_is : (at n : ℕ) → at < n → nat_lt at n ≡ true
below_is at n below = grind (arith, nat_tests)

Cuts-before_cut : (synced image : List ℕ) (size n : ℕ) → length image ≤ n → min size n ≤ length image → Cuts size (before_cut synced image n) image
unfolding before_cut uncut_octet
Cuts-before_cut synced image size n low high =
    let long = length-table (uncut_octet synced image) n in
    record {
      stays = λ at within. sym (at-table (uncut_octet synced image) n at (omega arith) ∙ when_true (nat_lt at (length image)) (slice_index image at) (slice_index synced at) (below_is at (length image) within));
      no_shorter = omega (arith, long);
      no_longer = omega (arith, long);
    }

-- a call with no range has written nothing
unwritten : (at : ℕ) → is_in (0, 0) at ≡ false
unwritten at = grind (arith, nat_tests)

same_or : (a b : Bool) → a ≡ false → (a || b) ≡ b
same_or true b is = cc
same_or false b is = refl

skip_unwritten : (past before : Bool) (at : ℕ) → past || before ≡ false → past || (is_in (0, 0) at || before) ≡ false
skip_unwritten past before at is = ap (λ (b : Bool). past || b) (same_or _ before (unwritten at)) ∙ is

uncut_kept : (within : Bool) (image synced : ℕ) → (within ≡ true → image ≡ synced) → cond within image synced ≡ synced
uncut_kept true image synced kept = kept refl
uncut_kept false image synced kept = refl

within_from : (at n : ℕ) → nat_lt at n ≡ true → at < n
within_from at n is = grind (arith, nat_tests)

Keeps-before_cut : (synced : List ℕ) (earlier : List Call) (image : List ℕ) (n : ℕ)
    → ((at : ℕ) → at < length image → nat_le (length synced) at || (is_in (0, 0) at || is_written earlier at) ≡ false → slice_index image at ≡ slice_index synced at)
    → Keeps synced earlier (before_cut synced image n)
unfolding before_cut uncut_octet
Keeps-before_cut synced earlier image n kept =
    let long = length-table (uncut_octet synced image) n in
    record {
      octets = λ at within unchanged. at-table (uncut_octet synced image) n at (omega (arith, long))
          ∙ uncut_kept (nat_lt at (length image)) _ _ (λ below. kept at (within_from at (length image) below) (skip_unwritten (nat_le (length synced) at) (is_written earlier at) at unchanged));
    }

end_of-le : (place count : ℕ) → end_of (place, count) ≤ place + count
end_of-le place count = grind (arith, nat_tests)

-- An image of a fit length that keeps the synced octets at each unchanged place is one that a stop may leave.
keeping_is_left : (start : List ℕ) (calls : List Call) (image : List ℕ) → length (seen_after start calls) ≤ length image
    → length image ≤ max (length (seen_after start calls)) (reach calls) → Keeps (synced_after start calls) calls image → MayLeave start calls image
keeping_is_left start [] image low high keeps = all_kept start image low (omega (arith, high)) keeps.octets
keeping_is_left start (Write place octets ∷ earlier) image low high keeps =
    let now = seen_after start earlier in
    let count = length octets.items in
    let n = min (length image) (max (length now) (reach earlier)) in
    let old = before_write (synced_after start earlier) earlier image n in
    let size : length old ≡ n = length-before_write (synced_after start earlier) earlier image n in
    let longer = length-written now place octets.items in
    let end = end_of-le place count in (
      old,
      keeping_is_left start earlier old (omega (arith, size, longer.0, low)) (omega (arith, size)) (Keeps-before_write (synced_after start earlier) earlier image n),
      Writes-before_write (synced_after start earlier) earlier image place count n (omega arith) (omega (arith, high, longer.1, end)) keeps.octets,
    )
keeping_is_left start (FailedWrite place count ∷ earlier) image low high keeps =
    let now = seen_after start earlier in
    let n = min (length image) (max (length now) (reach earlier)) in
    let old = before_write (synced_after start earlier) earlier image n in
    let size : length old ≡ n = length-before_write (synced_after start earlier) earlier image n in
    let end = end_of-le place count in (
      old,
      keeping_is_left start earlier old (omega (arith, size, low)) (omega (arith, size)) (Keeps-before_write (synced_after start earlier) earlier image n),
      Writes-before_write (synced_after start earlier) earlier image place count n (omega arith) (omega (arith, high, end)) keeps.octets,
    )
keeping_is_left start (Cut size ∷ earlier) image low high keeps =
    let now = seen_after start earlier in
    let n = max (length image) (length now) in
    let old = before_cut (synced_after start earlier) image n in
    let long : length old ≡ n = length-before_cut (synced_after start earlier) image n in
    let begin = length-take size now in (
      old,
      keeping_is_left start earlier old (omega (arith, long)) (omega (arith, long, high, begin)) (Keeps-before_cut (synced_after start earlier) earlier image n keeps.octets),
      Cuts-before_cut (synced_after start earlier) image size n (omega arith) (omega (arith, low, begin)),
    )
keeping_is_left start (Sync ∷ earlier) image low high keeps = all_kept (seen_after start earlier) image low (omega (arith, high)) keeps.octets

-- what the disk held at the last good sync is one of the images
synced_is_left : (start : List ℕ) (calls : List Call) → MayLeave start calls (synced_after start calls)
synced_is_left start [] = refl
synced_is_left start (Write place octets ∷ earlier) = (synced_after start earlier, synced_is_left start earlier, Writes-same (synced_after start earlier) place (length octets.items))
synced_is_left start (FailedWrite place count ∷ earlier) = (synced_after start earlier, synced_is_left start earlier, Writes-same (synced_after start earlier) place count)
synced_is_left start (Cut size ∷ earlier) = (synced_after start earlier, synced_is_left start earlier, Cuts-same (synced_after start earlier) size)
synced_is_left start (Sync ∷ earlier) = refl

-- a place that the tests call unchanged lies outside the range, and was not changed before
or_false_left : (a b : Bool) → a || b ≡ false → a ≡ false
or_false_left true b is = cc
or_false_left false b is = refl

or_false_right : (a b : Bool) → a || b ≡ false → b ≡ false
or_false_right true b is = cc
or_false_right false b is = is

outside_from : (place count at : ℕ) → is_in (place, count) at ≡ false → (at < place) ⊎ (place + count ≤ at)
outside_from place count at is = grind (arith, nat_tests)

place_within : (place n : ℕ) → nat_le place n ≡ true → place ≤ n
place_within place n is = grind (arith, nat_tests)

-- outside the range of a write that begins within the octets, a place of the new ones is one of the old
within_old : (now : List ℕ) (place : ℕ) (octets : List ℕ) (at : ℕ) → place ≤ length now → at < length (written now place octets)
    → (at < place) ⊎ (place + length octets ≤ at) → at < length now
within_old now place octets at begins within (inl before) = omega (arith, begins, before)
within_old now place octets at begins within (inr after) = omega (arith, (length-written now place octets).1, within, after)

-- A read gives the synced octet at each unchanged place.
unchanged_is_synced : (start : List ℕ) (calls : List Call) (at : ℕ) → are_within start calls ≡ true → at < length (seen_after start calls)
    → is_written calls at ≡ false → slice_index (seen_after start calls) at ≡ slice_index (synced_after start calls) at
unchanged_is_synced start [] at fit within unwritten = refl
unchanged_is_synced start (Write place octets ∷ earlier) at fit within unwritten =
    let now = seen_after start earlier in
    let outside = outside_from place (length octets.items) at (or_false_left _ _ unwritten) in
    let begins = place_within place (length now) (and_left _ _ fit) in
    let below = within_old now place octets.items at begins within outside in
    written_outside now place octets.items at below outside
    ∙ unchanged_is_synced start earlier at (and_right _ _ fit) below (or_false_right _ _ unwritten)
unchanged_is_synced start (FailedWrite place count ∷ earlier) at fit within unwritten =
    unchanged_is_synced start earlier at fit within (or_false_right _ _ unwritten)
unchanged_is_synced start (Cut size ∷ earlier) at fit within unwritten =
    let now = seen_after start earlier in
    let begin = length-take size now in
    get_or-take size now at 0 (omega (arith, within, begin))
    ∙ unchanged_is_synced start earlier at fit (omega (arith, within, begin)) (or_false_right _ _ unwritten)
unchanged_is_synced start (Sync ∷ earlier) at fit within unwritten = refl

-- what a read gives at a place, or else what was synced there
read_or_synced : (now synced : List ℕ) (at : ℕ) → (at < length now → slice_index now at ≡ slice_index synced at) → slice_index_or now at (slice_index synced at) ≡ slice_index synced at
read_or_synced now synced at same =
    ⊎_elim (λ below. get_or_default now at (slice_index synced at) 0 below ∙ same below) (λ past. get_or_past now at (slice_index synced at) past) (cases_lt at (length now))

Keeps-picked : (start : List ℕ) (calls : List Call) (image : List ℕ) (pick : ℕ) → are_within start calls ≡ true → 2 ≤ pick
    → IsPicked pick (synced_after start calls) (seen_after start calls) calls image → Keeps (synced_after start calls) calls image
Keeps-picked start calls image pick fit many picked = record {
  octets = λ at within unchanged. picked.octets many at within
      ∙ when_false (is_changed (synced_after start calls) calls at) _ _ unchanged
      ∙ read_or_synced (seen_after start calls) (synced_after start calls) at (λ below. unchanged_is_synced start calls at fit below (or_false_right _ _ unchanged));
}

-- Each pick gives an image that a stop may leave.
pub picked_is_left : (start : List ℕ) (calls : List Call) (image : List ℕ) (pick : ℕ) → are_within start calls ≡ true
    → IsPicked pick (synced_after start calls) (seen_after start calls) calls image → MayLeave start calls image
picked_is_left start calls image zero fit picked = subst (MayLeave start calls) (sym (picked.as_synced refl)) (synced_is_left start calls)
picked_is_left start calls image (suc zero) fit picked = seen_is_left start calls image (picked.as_read refl)
picked_is_left start calls image (suc (suc pick)) fit picked =
    let many : 2 ≤ suc (suc pick) = omega arith in
    let size = picked.size many in
    keeping_is_left start calls image (omega (arith, size)) (omega (arith, size)) (Keeps-picked start calls image (suc (suc pick)) fit many picked)

-- The same of a memory disk.
pub pick_is_left : (disk : MemoryDisk) (pick : ℕ) (image : List ℕ) → LeavesByPick disk pick image → images_of disk image
pick_is_left disk pick image picked =
    picked_is_left (start_of disk) (calls_of disk) image pick disk.within
    (subst (λ (now : List ℕ). IsPicked pick (synced_of disk) now (calls_of disk) image) disk.replayed picked)
