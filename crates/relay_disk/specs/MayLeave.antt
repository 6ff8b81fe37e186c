-- What a stop may leave of a disk that began with some octets and had these calls, the newest first.
use Rattle.std.specs.Prelude.{◌≡◌, ◌⊎◌, ℕ, ◌≤◌, Bool, true, ◌&&◌, nat_le, List, [], ◌∷◌, length, take}
use Rattle.relay_disk.specs.declared.call.Call.{Call}
use Rattle.relay_disk.specs.declared.call.Call.TheVariants.{Write, FailedWrite, Cut, Sync}
use Rattle.relay_disk.specs.Device.{written, Writes, Cuts}

-- what a read gives after the calls
abbrev pub seen_after : List ℕ → List Call → List ℕ
seen_after start [] = start
seen_after start (Write place octets ∷ earlier) = written (seen_after start earlier) place octets.items
seen_after start (FailedWrite _ _ ∷ earlier) = seen_after start earlier
seen_after start (Cut size ∷ earlier) = take size (seen_after start earlier)
seen_after start (Sync ∷ earlier) = seen_after start earlier

-- each write begins within what a read gave before it
abbrev pub are_within : List ℕ → List Call → Bool
are_within start [] = true
are_within start (Write place _ ∷ earlier) =
    nat_le place (length (seen_after start earlier)) && are_within start earlier
are_within start (FailedWrite _ _ ∷ earlier) = are_within start earlier
are_within start (Cut _ ∷ earlier) = are_within start earlier
are_within start (Sync ∷ earlier) = are_within start earlier

-- A stop may leave this image: since the last good sync each call has done its step as far as a stop lets it.
abbrev pub MayLeave : List ℕ → List Call → List ℕ → Type 0
MayLeave start [] image = image ≡ start
MayLeave start (Write place octets ∷ earlier) image =
    (old : List ℕ) × MayLeave start earlier old × Writes place (length octets.items) old image
MayLeave start (FailedWrite place count ∷ earlier) image =
    (old : List ℕ) × MayLeave start earlier old × Writes place count old image
MayLeave start (Cut size ∷ earlier) image = (old : List ℕ) × MayLeave start earlier old × Cuts size old image
MayLeave start (Sync ∷ earlier) image = image ≡ seen_after start earlier

-- A stop at this time or at one since might have left this image. A time is the number of calls before it.
abbrev pub LeftSince : List ℕ → List Call → ℕ → List ℕ → Type 0
LeftSince start [] since image = (since ≤ 0) × MayLeave start [] image
LeftSince start (call ∷ earlier) since image =
    (since ≤ length (call ∷ earlier)) × (MayLeave start (call ∷ earlier) image ⊎ LeftSince start earlier since image)

-- what the disk held at the last good sync, or else at its start
abbrev pub synced_after : List ℕ → List Call → List ℕ
synced_after start [] = start
synced_after start (Write _ _ ∷ earlier) = synced_after start earlier
synced_after start (FailedWrite _ _ ∷ earlier) = synced_after start earlier
synced_after start (Cut _ ∷ earlier) = synced_after start earlier
synced_after start (Sync ∷ earlier) = seen_after start earlier
