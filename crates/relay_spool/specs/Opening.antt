-- What the first octets of two disks say of the spool there.
use Rattle.std.specs.Prelude.{◌≡◌, ℕ, List, length, Option, None, Some, MatchOption}
use Rattle.relay_disk.specs.Disks.{Images, mine}
use Rattle.relay_spool.specs.declared.heads.Choice.{Choice}
use Rattle.relay_spool.specs.declared.heads.Head.{Head}
use Rattle.relay_spool.specs.declared.heads.OpenHead.{OpenHead}
use Rattle.relay_spool.specs.Image.{IsNoSpool}
use Rattle.relay_spool.specs.Head.{HasOpenHead, IsGateOf, generation_of}
use Rattle.relay_spool.specs.Pair.{Describes, IsNoSpool as IsNoPair}

-- the image begins with this open head
pub record IsOpenHeadOf (image : List ℕ) (head : OpenHead) : Type 0 where
  pub is_open : HasOpenHead image
  pub generation_is : generation_of image ≡ head.generation
  pub size_is : head.size ≡ length image

-- the image begins with this head
pub record IsHeadOf (image : List ℕ) (head : Head) : Type 0 where
  pub gate : IsGateOf image head.gate
  pub opening : MatchOption head.opening (IsNoSpool image) (IsOpenHeadOf image)

-- which of two disks is taken, if any
abbrev pub Chooses : Images → Option Choice → Type 0
Chooses images None = IsNoPair images
Chooses images (Some choice) = Describes choice.taken images × IsOpenHeadOf (mine choice.taken.side images) choice.head
