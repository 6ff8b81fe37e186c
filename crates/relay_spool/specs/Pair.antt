-- The images of a spool's two disks, as a pair: one of each. That of the disk taken is read, and the other counts for
-- nothing. The names are those of specs of one image.
use Rattle.std.specs.Prelude.{◌≡◌, ◌⊎◌, ℕ, ◌+◌, ◌-◌, ◌^◌, ◌<◌, ◌≤◌, List, [], Some}
use Rattle.relay_disk.specs.declared.disks.Side.{Side}
use Rattle.relay_disk.specs.declared.disks.Side.TheVariants.{First, Second}
use Rattle.relay_disk.specs.Disks.{Images, mine, other, turned}
use Rattle.relay_spool.specs.declared.taken.Taken.{Taken}
use Rattle.relay_spool.specs.declared.taken.HeadGate.TheVariants.{Open}
use Rattle.relay_spool.specs.Image.{IsDamagedAt as IsDiskDamagedAt, IsImageOf as IsDiskImageOf}
use Rattle.relay_spool.specs.Image.{IsNoSpool as IsDiskNoSpool, Reading, size_of}
use Rattle.relay_spool.specs.Image.Reading.{Bodies, NoSpool, DamagedAt}
use Rattle.relay_spool.specs.Head.{HasOpenHead, IsGateOf, generation_of}

-- of two generations the greater is the newer; at equal ones the first disk's is
abbrev pub IsNewer : Side → ℕ → ℕ → Type 0
IsNewer First mine other = other ≤ mine
IsNewer Second mine other = other < mine

-- the disk of this side is taken: its head is open, and is the newer where the other's is open too
pub record IsTaken (side : Side) (images : Images) : Type 0 where
  pub head : HasOpenHead (mine side images)
  pub newest : HasOpenHead (other side images)
      → IsNewer side (generation_of (mine side images)) (generation_of (other side images))

-- the image of the disk that is taken has P
abbrev pub Shows : (List ℕ → Type 0) → Images → Type 0
Shows P images = (side : Side) × IsTaken side images × P (mine side images)

-- images of a spool with these bodies
abbrev pub IsImageOf : Images → List (List ℕ) → Type 0
IsImageOf images bodies = Shows (λ image. IsDiskImageOf image bodies) images

-- no spool: neither image begins with an open head
abbrev pub IsNoSpool : Images → Type 0
IsNoSpool images = IsDiskNoSpool images.first × IsDiskNoSpool images.second

-- the disk that is taken is damaged at this place
abbrev pub IsDamagedAt : Images → ℕ → Type 0
IsDamagedAt images place = Shows (λ image. IsDiskDamagedAt image place) images

-- the images read so
abbrev pub Reads : Images → Reading → Type 0
Reads images (Bodies bodies) = IsImageOf images bodies
Reads images NoSpool = IsNoSpool images
Reads images (DamagedAt place) = IsDamagedAt images place

-- the images have bodies with P
abbrev pub HasBodies : (List (List ℕ) → Type 0) → Images → Type 0
HasBodies P images = (bodies : List (List ℕ)) × IsImageOf images bodies × P bodies

-- images without a body: if they are a spool, it is an empty one
abbrev pub HasNoBody : Images → Type 0
HasNoBody images = (bodies : List (List ℕ)) → IsImageOf images bodies → bodies ≡ []

-- a spool that is larger than 2^40 octets
abbrev pub IsTooLarge : Images → Type 0
IsTooLarge images = HasBodies (λ bodies. 2 ^ 40 < size_of bodies) images

-- what is known of the disks is so of these images: which is taken, its generation, and the head gate of the other
pub record Describes (taken : Taken) (images : Images) : Type 0 where
  pub is_taken : IsTaken taken.side images
  pub generation_is : generation_of (mine taken.side images) ≡ taken.generation
  pub other_gate : IsGateOf (other taken.side images) taken.other

-- which disk is taken once the other is rewritten: that one, and the head of this one is open
abbrev pub renewed_taken : Taken → Taken
renewed_taken taken = record { side = turned taken.side; generation = taken.generation + 1; other = Some Open }

-- the other can't be rewritten with a body of this many octets: they pass 4,294,967,295, or no generation is left
abbrev pub IsTooMuch : Taken → ℕ → Type 0
IsTooMuch taken size = (2 ^ 32 ≤ size) ⊎ (taken.generation ≡ 2 ^ 64 - 1)

-- images have one list of bodies at most
abbrev pub OneListOfBodies : Type 0
OneListOfBodies =
    (images : Images) (first second : List (List ℕ)) → IsImageOf images first → IsImageOf images second
    → first ≡ second

-- images read as one thing
abbrev pub OneReading : Type 0
OneReading =
    (images : Images) (first second : Reading) → Reads images first → Reads images second → first ≡ second

-- images read as something
abbrev pub EachReads : Type 0
EachReads = (images : Images) → (reading : Reading) × Reads images reading
