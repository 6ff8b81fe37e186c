-- When the spool of a failed device is opened again, and when it isn't.
use Rattle.std.specs.Prelude.{◌≡◌, ◌⊎◌, ℕ, ◌*◌, ◌≤◌, min, MatchOption}
use Rattle.relay_disk.specs.declared.disks.Disks.{Disks}
use Rattle.relay_disk.specs.Device.{DiskWords}
use Rattle.relay_slots.specs.Slots.{AreFree}
use Rattle.relay_records.specs.Open.{Opens}
use Rattle.relay_loop.specs.Relay.{RelayState}
use Rattle.relay_routes.specs.declared.config.Config.{Config}
use Rattle.relay_next_hops.specs.Readiness.{hops_of}
use Rattle.relay_next_hops.specs.declared.next_hops.NextHops.{NextHops}
use Rattle.relay_run.specs.declared.known.Known.{Known}
use Rattle.relay_run.specs.declared.reopening.Opening.{Opening}
use Rattle.relay_run.specs.declared.reopening.Opening.TheVariants.{Done, Failed as Fails}
use Rattle.relay_run.specs.declared.reopening.Why.{Why}
use Rattle.relay_run.specs.declared.reopening.Why.TheVariants.{Failed, Renewed, Reloaded}

-- a sync of one of the two disks has failed
abbrev pub HasFailedToSync : {D : Type 0} → (D → Type 0) → Disks D → Type 0
HasFailedToSync has_failed disks = has_failed disks.first ⊎ has_failed disks.second

-- profile: twice as long each time, up to a minute
abbrev pub next_pause : ℕ → ℕ
next_pause seconds = min (seconds * 2) 60

-- The opened spool has all that was known: no lower number for the next change, and no fewer octets.
pub record HasAll (next size found_next found_size : ℕ) : Type 0 where
  pub changes : next ≤ found_next
  pub octets : size ≤ found_size

-- A compaction adds no change, and is done or isn't: the spool has its size from before, or the one after it.
pub record IsEither (next size left found_next found_size : ℕ) : Type 0 where
  pub changes : found_next ≡ next
  pub octets : (found_size ≡ size) ⊎ (found_size ≡ left)

-- the opened spool may be the known one
abbrev pub IsWhole : Known → ℕ → ℕ → Type 0
IsWhole known found_next found_size =
    MatchOption known.compacted (HasAll known.next_number known.size found_next found_size)
    (λ left. IsEither known.next_number known.size left found_next found_size)

-- the configuration is this one, but for the limit of the spool, which is lower while the relay is short of room
pub record KeepsConfig (config opened : Config) : Type 0 where
  pub host : opened.host ≡ config.host
  pub listen : opened.listen ≡ config.listen
  pub spool : opened.spool ≡ config.spool
  pub max_content : opened.max_content ≡ config.max_content
  pub bare_newlines : opened.bare_newlines ≡ config.bare_newlines
  pub routes : opened.routes ≡ config.routes
  pub trusted_clients : opened.trusted_clients ≡ config.trusted_clients
  pub routed_paths : opened.routed_paths ≡ config.routed_paths
  pub reports : opened.reports ≡ config.reports

-- the configuration of a spool that is opened again for this reason: another one only by a reload
abbrev pub config_for : Why → Config → Config
config_for Failed config = config
config_for Renewed config = config
config_for (Reloaded other) config = other

module _ {D : Type 0} (honest : Type 0) (words : DiskWords D) where
  -- The relay has opened the spool of these disks: its node keeps each list of changes for which they stood. It has no
  -- session, no attempt with a connection, and no connection of a client yet.
  pub record HasOpened (relay : RelayState D) : Type 0 where
    pub disks : Disks D
    pub opens : Opens honest words disks relay.node.records
    pub seats : AreFree relay.node.seats
    pub connections : AreFree relay.clients
    pub hops : AreFree relay.hops

  -- the same of the relay of a spool that was to be opened, if it is open
  abbrev pub HasOpenedIn : Opening D → Type 0
  HasOpenedIn (Done relay) = HasOpened relay
  HasOpenedIn (Fails closed) = Unit {0}

-- the relay and its connections to next hops are the same, or there is no connection to a next hop
abbrev pub GoesOnOrHasNoHops
    : {S D : Type 0} → NextHops S → NextHops S → RelayState D → RelayState D → Type 0
GoesOnOrHasNoHops old new before after = ((new ≡ old) × (after ≡ before)) ⊎ AreFree (hops_of new)

-- the configuration of a spool that was to be opened
abbrev pub config_in : {D : Type 0} → Opening D → Config
config_in (Done relay) = relay.node.config
config_in (Fails closed) = closed.config
