-- The image that a stop leaves of a memory disk, by the number that picks it: from what it held at the last good
-- sync, what a read gives, and its calls, the newest first.
use Rattle.std.specs.Prelude.{◌≡◌, ℕ, zero, suc, ◌+◌, ◌-◌, ◌<◌, ◌≤◌, max, Bool, true, false, ◌&&◌, ◌||◌, ◌==◌, nat_le}
use Rattle.std.specs.Prelude.{nat_lt, if◌then◌else◌, List, [], ◌∷◌, length, slice_index, slice_index_or}
use Rattle.relay_disk.specs.declared.call.Call.{Call}
use Rattle.relay_disk.specs.declared.call.Call.TheVariants.{Write, FailedWrite, Cut, Sync}

-- the call is a sync
abbrev pub is_sync : Call → Bool
is_sync (Write _ _) = false
is_sync (FailedWrite _ _) = false
is_sync (Cut _) = false
is_sync Sync = true

-- the range of a write, by its place and its count; that of another call is empty
abbrev pub range_of : Call → ℕ × ℕ
range_of (Write place octets) = (place, length octets.items)
range_of (FailedWrite place count) = (place, count)
range_of (Cut _) = (0, 0)
range_of Sync = (0, 0)

-- the place lies in the range
abbrev pub is_in : ℕ × ℕ → ℕ → Bool
is_in range at = nat_le range.0 at && nat_lt at (range.0 + range.1)

-- the end of the range, or 0 where it is empty
abbrev pub end_of : ℕ × ℕ → ℕ
end_of range = if range.1 == 0 then 0 else range.0 + range.1

-- the place lies in a range written since the last good sync
abbrev pub is_written : List Call → ℕ → Bool
is_written [] at = false
is_written (call ∷ earlier) at = if is_sync call then false else (is_in (range_of call) at || is_written earlier at)

-- the greatest end of these ranges
abbrev pub reach : List Call → ℕ
reach [] = 0
reach (call ∷ earlier) = if is_sync call then 0 else max (end_of (range_of call)) (reach earlier)

-- a changed place: one that was written since the last good sync, or lies past what the disk held then
abbrev pub is_changed : List ℕ → List Call → ℕ → Bool
is_changed synced calls at = nat_le (length synced) at || is_written calls at

-- how many changed places lie below this one
abbrev pub changed_below : List ℕ → List Call → ℕ → ℕ
changed_below synced calls zero = 0
changed_below synced calls (suc at) = changed_below synced calls at + (if is_changed synced calls at then 1 else 0)

-- What a stop leaves at a changed place: 1 by pick 2, 255 by pick 3. By a pick p from 4 on, the first p - 4 of them are
-- unchanged, and the others are as they were.
abbrev pub changed_octet : ℕ → ℕ → ℕ → ℕ → ℕ
changed_octet pick below is was =
    if pick == 2 then 1 else (if pick == 3 then 255 else (if nat_lt below (pick - 4) then is else was))

-- What it leaves at a place, of which this many changed ones lie below. Past the synced octets a place was 0, and past
-- what a read gives it is as it was.
abbrev pub octet_at : ℕ → List ℕ → List ℕ → ℕ → Bool → ℕ → ℕ
octet_at pick synced now at changed below =
    let was = slice_index synced at in
    let is = slice_index_or now at was in
    if changed then changed_octet pick below is was else is

abbrev pub octet_left : ℕ → List ℕ → List ℕ → List Call → ℕ → ℕ
octet_left pick synced now calls at =
    octet_at pick synced now at (is_changed synced calls at) (changed_below synced calls at)

-- Pick 0 leaves what the disk held at the last good sync, and pick 1 what a read gives. A greater one leaves that
-- but for the changed places, those past its end among them.
pub record IsPicked (pick : ℕ) (synced now : List ℕ) (calls : List Call) (image : List ℕ) : Type 0 where
  pub as_synced : pick ≡ 0 → image ≡ synced
  pub as_read : pick ≡ 1 → image ≡ now
  pub size : 2 ≤ pick → length image ≡ max (length now) (reach calls)
  pub octets : 2 ≤ pick → (at : ℕ) → at < length image → slice_index image at ≡ octet_left pick synced now calls at
