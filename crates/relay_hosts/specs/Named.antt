-- The node that has a hop's name: the first of that name.
use Rattle.std.specs.Prelude.{◌≡◌, ◌≢◌, ◌<◌, ℕ, List, Some, slice_get}
use Rattle.relay_world.specs.World.{Host}

-- no node before this index has this name
abbrev pub NoneIsNamedBefore : {D : Type 0} → List (Host D) → List ℕ → ℕ → Type 0
NoneIsNamedBefore {D} hosts name place =
    (node : ℕ) (host : Host D) → node < place → slice_get hosts node ≡ Some host → host.config.host ≢ name

-- no node has this name
abbrev pub NoneIsNamed : {D : Type 0} → List (Host D) → List ℕ → Type 0
NoneIsNamed {D} hosts name = (node : ℕ) (host : Host D) → slice_get hosts node ≡ Some host → host.config.host ≢ name

-- this node has this name, and none before it has
pub record IsFirstNamed {D : Type 0} (hosts : List (Host D)) (name : List ℕ) (node : ℕ) : Type 0 where
  pub host : Host D
  pub host_at : slice_get hosts node ≡ Some host
  pub named : host.config.host ≡ name
  pub first : NoneIsNamedBefore hosts name node
