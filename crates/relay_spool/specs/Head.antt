-- The heads of a spool's disks, and a disk that is rewritten with one body.
use Rattle.std.specs.Prelude.{◌≡◌, ◌≢◌, ◌⊎◌, ℕ, ◌≤◌, List, [], ◌∷◌, ◌++◌, length, take, drop, slice_index, Option, None}
use Rattle.std.specs.Prelude.{Some}
use Rattle.std.specs.Int.{w64, from_be_bytes}
use Rattle.relay_spool.specs.declared.taken.HeadGate.{HeadGate}
use Rattle.relay_spool.specs.declared.taken.HeadGate.TheVariants.{Closed, Open}
use Rattle.relay_spool.specs.Image.{signature, number_of, IsChain}

-- the number that eight octets write, the highest first
unfoldable pub generation_in : List ℕ → ℕ
generation_in octets = from_be_bytes w64 octets

-- the generation of an image: octets 9 to 16
abbrev pub generation_of : List ℕ → ℕ
generation_of image = generation_in (take 8 (drop 9 image))

-- the image begins with an open head
pub record HasOpenHead (image : List ℕ) : Type 0 where
  pub long : 18 ≤ length image
  pub signed : take 8 image ≡ signature
  pub gate : slice_index image 8 ≡ 1

-- it doesn't
abbrev pub IsNotOpen : List ℕ → Type 0
IsNotOpen image = HasOpenHead image → ⊥

-- the image begins with the signature and a head gate: its disk can be rewritten
pub record HasHeadGate (image : List ℕ) : Type 0 where
  pub long : 9 ≤ length image
  pub signed : take 8 image ≡ signature

-- an octet is a gate that is so
abbrev pub IsGate : HeadGate → ℕ → Type 0
IsGate Closed octet = octet ≢ 1
IsGate Open octet = octet ≡ 1

-- the head gate of the image, if it has one: octet 8
abbrev pub IsGateOf : List ℕ → Option HeadGate → Type 0
IsGateOf image None = HasHeadGate image → ⊥
IsGateOf image (Some gate) = HasHeadGate image × IsGate gate (slice_index image 8)

-- what is written for a body: an open gate, the length of the body in four octets, the body, and a closed gate
pub record IsAddition (octets body : List ℕ) : Type 0 where
  pub size : List ℕ
  pub width : length size ≡ 4
  pub number : number_of size ≡ length body
  pub text : octets ≡ 1 ∷ (size ++ body ++ 0 ∷ [])

-- what is written for bodies: a link for each, and a closed gate
pub record AreAdded (octets : List ℕ) (bodies : List (List ℕ)) : Type 0 where
  pub chain : List ℕ
  pub is_chain : IsChain chain bodies
  pub text : octets ≡ chain ++ 0 ∷ []

-- what is written after a closed head gate: the generation, and what is written for the one body
pub record IsRenewal (octets : List ℕ) (generation : ℕ) (body : List ℕ) : Type 0 where
  pub number : List ℕ
  pub width : length number ≡ 8
  pub number_is : generation_in number ≡ generation
  pub link : List ℕ
  pub is_addition : IsAddition link body
  pub text : octets ≡ number ++ link

-- the image that has these octets after an open head gate
abbrev pub renewed : List ℕ → List ℕ
renewed octets = signature ++ 1 ∷ octets

-- what a read gives once all but that gate is written: the signature, a closed gate, and the octets
pub record IsFilled (image octets : List ℕ) : Type 0 where
  pub long : 9 ≤ length image
  pub signed : take 8 image ≡ signature
  pub closed : slice_index image 8 ≢ 1
  pub after : drop 9 image ≡ octets

-- what a stop may leave while an open head is closed: the image isn't open, or is as it was
abbrev pub IsClosedOr : List ℕ → List ℕ → Type 0
IsClosedOr old image = IsNotOpen image ⊎ (image ≡ old)

-- what it may leave of a disk that is rewritten: the image is as it was, or isn't open, or is the new one
abbrev pub IsOldOrNew : List ℕ → List ℕ → List ℕ → Type 0
IsOldOrNew old new image = (image ≡ old) ⊎ IsClosedOr new image

-- the first 17 octets stay, in which the head stands
abbrev pub KeepsHead : List ℕ → List ℕ → Type 0
KeepsHead old new = take 17 new ≡ take 17 old

-- how many calls of the device rewrite a disk that has this head gate: two more where it must be closed first, and none
-- if there is none
abbrev pub renewal_calls : Option HeadGate → ℕ
renewal_calls None = 0
renewal_calls (Some Closed) = 5
renewal_calls (Some Open) = 7
