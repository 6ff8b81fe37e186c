-- A spool that is read body by body into the outline of its queue.
use Rattle.std.specs.Prelude.{◌≡◌, ℕ, List, [], ◌∷◌, ◌++◌, Bool, true, false}
use Rattle.relay_disk.specs.Disks.{Images}
use Rattle.relay_disk.specs.declared.disks.Side.{Side}
use Rattle.relay_spool.specs.Cursor.{HasRead, IsRead}
use Rattle.relay_spool.specs.Part.{HasPart}
use Rattle.relay_spool.specs.Pair.{HasBodies, IsImageOf}
use Rattle.relay_book.specs.declared.book.first_outline.FirstOutline.{FirstOutline}
use Rattle.relay_book.specs.FirstOutline.{HasReadOctets}
use Rattle.relay_book.specs.Outline.{ReadsFirstOutline, outline_of}
use Rattle.relay_book.specs.Queue.{Queue}
use Rattle.relay_book.specs.StandsFor.{ReadsAll, ReadsNoFirst}
use Rattle.relay_records.specs.Open.{IsBadRecord}
use Rattle.relay_outlines.specs.declared.first.First.{First}
use Rattle.relay_outlines.specs.declared.first.First.TheVariants.{Missing, Leaves, LeavesNone}
use Rattle.relay_outlines.specs.declared.reading.Reading.{Reading}
use Rattle.relay_outlines.specs.declared.reading.Reading.TheVariants.{Outline, Bad}

-- the images are of a spool of these bodies and some more
pub record HasMore (images : Images) (bodies : List (List ℕ)) : Type 0 where
  pub more : List (List ℕ)
  pub is_image : IsImageOf images (bodies ++ more)

-- bodies were read that leave a queue of this outline, and the images are of a spool of these, which takes this many
-- octets
pub record HasOutline (honest : Type 0) (images : Images) (size : ℕ) (outline : Queue) : Type 0 where
  pub bodies : List (List ℕ)
  pub queue : Queue
  pub reads : ReadsAll bodies queue
  pub outline_is : outline ≡ outline_of queue
  pub is_read : honest → IsRead images size bodies

-- what was read to the end: the outline of a queue, or bodies of which the one of this number leaves no queue
abbrev pub IsReadTo : Type 0 → Images → ℕ → Reading → Type 0
IsReadTo honest images size (Outline book) = HasOutline honest images size book.queue
IsReadTo honest images size (Bad number) = honest → HasBodies (IsBadRecord number) images

-- octets were read that are all of a body that was begun here, after others; then its next gate is at this place
pub record ReadsBlocks (honest : Type 0) (images : Images) (side : Side) (count from to : ℕ) (first : FirstOutline)
    : Type 0 where
  pub octets : List ℕ
  pub read : HasReadOctets first octets
  pub has : honest → (bodies : List (List ℕ)) → HasPart images side from count bodies []
      → HasRead images side to (bodies ++ octets ∷ [])

-- a first body was read that leaves a queue of this outline
pub record HasFirst (honest : Type 0) (images : Images) (side : Side) (place : ℕ) (outline : Queue) : Type 0 where
  pub body : List ℕ
  pub has : honest → HasRead images side place (body ∷ [])
  pub reads : ReadsFirstOutline body outline

-- one was that leaves none
pub record HasBadFirst (honest : Type 0) (images : Images) (side : Side) (place : ℕ) : Type 0 where
  pub body : List ℕ
  pub has : honest → HasRead images side place (body ∷ [])
  pub none : ReadsNoFirst body

-- what the first body leaves: a queue of this outline, or none; or there is no body. The next gate is at this place, or
-- the end
abbrev pub FirstLeaves : Type 0 → Images → Side → ℕ → First → Type 0
FirstLeaves honest images side place Missing = honest → IsRead images place []
FirstLeaves honest images side place (Leaves book) = HasFirst honest images side place book.queue
FirstLeaves honest images side place LeavesNone = HasBadFirst honest images side place

-- there is a first body
abbrev pub is_there : First → Bool
is_there Missing = false
is_there _ = true
