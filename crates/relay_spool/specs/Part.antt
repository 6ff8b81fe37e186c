-- A body that is read in parts: what stands between its gate and the octets that are still to be read.
use Rattle.std.specs.Prelude.{◌≡◌, ◌≢◌, ℕ, ◌+◌, ◌<◌, List, [], ◌∷◌, ◌++◌, length, Option, None, Some}
use Rattle.relay_disk.specs.declared.disks.Side.{Side}
use Rattle.relay_disk.specs.Disks.{Images, mine}
use Rattle.relay_spool.specs.Blocks.{Lies}
use Rattle.relay_spool.specs.Cursor.{HasRead, HasReadOne, IsRead, IsReadOne}
use Rattle.relay_spool.specs.Image.{number_of}
use Rattle.relay_spool.specs.Pair.{IsTaken}
use Rattle.relay_spool.specs.declared.fault.SpoolFault.{SpoolFault}
use Rattle.relay_spool.specs.declared.fault.SpoolFault.TheVariants.{Device, NoMemory}

-- what is at a gate: an octet that isn't 1, or an open gate and the length of a body in four octets
abbrev pub BeginsGate : List ℕ → ℕ → ℕ → Option ℕ → Type 0
BeginsGate image from to None = (gate : ℕ) × (gate ≢ 1) × Lies image from to (gate ∷ [])
BeginsGate image from to (Some left) =
    (size : List ℕ) × (length size ≡ 4) × (number_of size ≡ left) × Lies image from to (1 ∷ size)

-- how far that leads; the next gate is within the image
abbrev pub LeadsTo : ℕ → ℕ → ℕ → Option ℕ → Type 0
LeadsTo size from to None = to ≡ from + 1
LeadsTo size from to (Some left) = (to ≡ from + 5) × (to + left < size)

-- in an image, these bodies stand before an open gate. After it there are the length of a body and its first octets,
-- which are these, up to this place, and so many octets of the body are left
pub record HasPartOne (image : List ℕ) (place left : ℕ) (bodies : List (List ℕ)) (part : List ℕ) : Type 0 where
  pub gate : ℕ
  pub before : HasReadOne image gate bodies
  pub size : List ℕ
  pub width : length size ≡ 4
  pub number : number_of size ≡ length part + left
  pub place_is : place ≡ gate + 5 + length part
  pub lies : Lies image gate place (1 ∷ (size ++ part))

-- after these bodies none follows, or one more begins, of so many octets; then the reader is at this place
abbrev pub BeginsOne : List ℕ → List (List ℕ) → ℕ → Option ℕ → Type 0
BeginsOne image bodies place None = IsReadOne image place bodies
BeginsOne image bodies place (Some left) = HasPartOne image place left bodies []

-- the same in images of which the disk of this side is taken
pub record HasPart (images : Images) (side : Side) (place left : ℕ) (bodies : List (List ℕ)) (part : List ℕ)
    : Type 0 where
  pub is_taken : IsTaken side images
  pub has : HasPartOne (mine side images) place left bodies part

-- after these bodies none follows, or one more begins, of so many octets; then the cursor is at this place
abbrev pub BeginsNext : Images → Side → List (List ℕ) → ℕ → Option ℕ → Type 0
BeginsNext images side bodies place None = IsRead images place bodies
BeginsNext images side bodies place (Some left) = HasPart images side place left bodies []

-- the device failed, or memory ran out
abbrev pub IsNoPart : SpoolFault → Type 0
IsNoPart Device = Unit {0}
IsNoPart NoMemory = Unit {0}
IsNoPart _ = ⊥

-- A body of which nothing is left stands after those before, and the place is that of the next gate.
abbrev pub WholeIsRead : Type 0
WholeIsRead =
    (images : Images) (side : Side) (place : ℕ) (bodies : List (List ℕ)) (body : List ℕ)
    → HasPart images side place 0 bodies body → HasRead images side place (bodies ++ body ∷ [])
