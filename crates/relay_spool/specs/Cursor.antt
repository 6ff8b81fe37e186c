-- A spool that is read body by body: what its caller sees of it, and what was read so far.
use Rattle.std.specs.Prelude.{◌≡◌, ℕ, ◌+◌, ◌^◌, ◌≤◌, ◌<◌, Bool, true, List, [], ◌∷◌, ◌++◌, Option, None, Some, refl}
use Rattle.std.specs.Coded.{Coded, code_by, coded×, coded_ℕ, coded_bool}
use Rattle.relay_pieces.specs.Pieces.{InPieces, text_of}
use Rattle.relay_disk.specs.declared.disks.Disks.{Disks}
use Rattle.relay_disk.specs.declared.disks.Side.{Side}
use Rattle.relay_disk.specs.Device.{DiskWords}
use Rattle.relay_disk.specs.Disks.{Images, mine}
use Rattle.relay_spool.specs.declared.reader.Reader.{Reader}
use Rattle.relay_spool.specs.Blocks.{HasFront, IsAt}
use Rattle.relay_spool.specs.Image.{IsImageOf as IsDiskImageOf, size_of}
use Rattle.relay_spool.specs.Pair.{IsImageOf, IsTaken}
use Rattle.relay_spool.specs.Spool.{coded_disks, coded_side}

-- what a caller sees of a cursor: the disks, which of them is read, the place of the next gate there, how many octets
-- that disk holds, and whether there is more to read
pub record AtGate (D : Type 0) : Type 0 where
  pub disk : Disks D
  pub side : Side
  pub place : ℕ
  pub size : ℕ
  pub live : Bool

abbrev pub at_gate_code : {D : Type 0} → Coded D → Coded (AtGate D)
at_gate_code {D} code =
    code_by ((Disks D × Side) × (ℕ × (ℕ × Bool)))
    (coded× (coded× (coded_disks code) coded_side) (coded× coded_ℕ (coded× coded_ℕ coded_bool)))
    (λ c. ((c.disk, c.side), (c.place, (c.size, c.live))))
    (λ p. record { disk = p.0.0; side = p.0.1; place = p.1.0; size = p.1.1.0; live = p.1.1.1 }) (λ _. refl)

-- in an image, these bodies stand before the gate at this place
pub record HasReadOne (image : List ℕ) (place : ℕ) (bodies : List (List ℕ)) : Type 0 where
  pub front : HasFront image place bodies
  pub place_is : place + 1 ≡ size_of bodies

-- the image is of a spool with these bodies, which takes this many octets
pub record IsReadOne (image : List ℕ) (size : ℕ) (bodies : List (List ℕ)) : Type 0 where
  pub is_image : IsDiskImageOf image bodies
  pub size_is : size ≡ size_of bodies
  pub few : size ≤ 2 ^ 40

-- after these bodies none follows, or one more does; then the reader is at this place
abbrev pub ReadsOne : List ℕ → List (List ℕ) → ℕ → Option InPieces → Type 0
ReadsOne image bodies place None = IsReadOne image place bodies
ReadsOne image bodies place (Some body) = HasReadOne image place (bodies ++ text_of body ∷ [])

-- in images of which the disk of this side is taken, these bodies stand before the gate at this place of that disk
pub record HasRead (images : Images) (side : Side) (place : ℕ) (bodies : List (List ℕ)) : Type 0 where
  pub is_taken : IsTaken side images
  pub has : HasReadOne (mine side images) place bodies

-- the images are of a spool with these bodies, which takes this many octets
pub record IsRead (images : Images) (size : ℕ) (bodies : List (List ℕ)) : Type 0 where
  pub is_image : IsImageOf images bodies
  pub size_is : size ≡ size_of bodies
  pub few : size ≤ 2 ^ 40

-- after these bodies none follows, or one more does; then the cursor is at this place
abbrev pub ReadsNext : Images → Side → List (List ℕ) → ℕ → Option InPieces → Type 0
ReadsNext images side bodies place None = IsRead images place bodies
ReadsNext images side bodies place (Some body) = HasRead images side place (bodies ++ text_of body ∷ [])

-- while there is more to read, the reader is in what reads of the disk give, and before its end
pub record IsWithin {D : Type 0} (honest : Type 0) (words : DiskWords D) (reader : Reader) (live : Bool) (side : Side)
    (disks : Disks D) : Type 0 where
  pub more : live ≡ true → reader.place < reader.size
  pub at : honest → live ≡ true → IsAt (words.seen (mine side disks)) reader
