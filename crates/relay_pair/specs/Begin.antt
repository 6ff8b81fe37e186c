-- The relays at the start of a run: two of a play, or any number.
use Rattle.std.specs.Prelude.{◌≡◌, ℕ, ◌+◌, List, [], ◌∷◌, None, codes}
use Rattle.relay_disk.specs.Device.{DiskWords}
use Rattle.relay_disk.specs.Disks.{calls_left_of}
use Rattle.relay_disk.specs.declared.disks.Disks.{Disks}
use Rattle.relay_routes.specs.declared.config.Config.{Config}
use Rattle.relay_world.specs.World.{Down, Host, HostState, Up, World}
use Rattle.relay_pair.specs.Profiles.{AreProfiles, IsProfile, address_of, at_place, first_routes, second_routes}
use Rattle.relay_hosts.specs.Begin.{IsMadeOf, IsNew}
use Rattle.relay_events.specs.Begin.{begun_with}

-- each host is new and has the configuration of its index; the first one has this index
abbrev pub AreNew : {D : Type 0} → Type 0 → DiskWords D → ℕ → List Config → List (Host D) → Type 0
AreNew honest words place [] [] = Unit {0}
AreNew honest words place [] (host ∷ hosts) = ⊥
AreNew honest words place (config ∷ configs) [] = ⊥
AreNew honest words place (config ∷ configs) (host ∷ hosts) =
    IsNew honest words (at_place place config) host × AreNew honest words (place + 1) configs hosts

-- no device fault is set for a later call of the disks of a node
abbrev pub HasNoneSet : {D : Type 0} → DiskWords D → HostState D → Type 0
HasNoneSet words (Up node) = calls_left_of words node.records.spool.disk ≡ None
HasNoneSet words (Down disk undecided) = calls_left_of words disk ≡ None

-- nor of any node
abbrev pub NoneIsSet : {D : Type 0} → DiskWords D → List (Host D) → Type 0
NoneIsSet words [] = Unit {0}
NoneIsSet words (host ∷ hosts) = HasNoneSet words host.state × NoneIsSet words hosts

-- the nodes were made of these disks, each of its own, by calls that their fuses let pass
abbrev pub AreMadeOf : {D : Type 0} → DiskWords D → List (Disks D) → List (Host D) → Type 0
AreMadeOf words [] [] = Unit {0}
AreMadeOf words [] (host ∷ hosts) = ⊥
AreMadeOf words (disk ∷ disks) [] = ⊥
AreMadeOf words (disk ∷ disks) (host ∷ hosts) = IsMadeOf words disk host.state × AreMadeOf words disks hosts

-- Relays with these configurations, at time 0, without links.
pub record HasBegun {D : Type 0} (honest : Type 0) (words : DiskWords D) (configs : List Config) (world : World D)
    : Type 0 where
  pub hosts : List (Host D)
  pub are_new : AreNew honest words 0 configs hosts
  pub world_is : world ≡ begun_with hosts

-- The two relays of a play.
pub record HasBegunAsTwo {D : Type 0} (honest : Type 0) (words : DiskWords D) (world : World D) : Type 0 where
  pub one : Config
  pub first : IsProfile (codes "a.example") (address_of 0) first_routes one
  pub other : Config
  pub second : IsProfile (codes "b.example") (address_of 1) second_routes other
  pub begun : HasBegun honest words (one ∷ other ∷ []) world

-- This many relays of a play.
pub record HasBegunAsMany {D : Type 0} (honest : Type 0) (words : DiskWords D) (count : ℕ) (world : World D)
    : Type 0 where
  pub configs : List Config
  pub profiles : AreProfiles count configs
  pub begun : HasBegun honest words configs world
