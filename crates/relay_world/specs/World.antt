-- Two relays and the links between them: what each node keeps, what each end of a link has written and read, the
-- attempts, and the ledger.
use Rattle.std.specs.Prelude.{ℕ, suc, zero, List, Option, None, slice_get}
use Rattle.relay_disk.specs.declared.disks.Disks.{Disks}
use Rattle.relay_routes.specs.declared.config.Config.{Config}
use Rattle.relay_records.specs.declared.noted.Noted.{Noted}
use Rattle.relay_node.specs.Node.{NodeState}
use Rattle.relay_world.specs.declared.attempt.Attempt.{Attempt}
use Rattle.relay_world.specs.declared.line.Line.{Line}
use Rattle.relay_world.specs.declared.link.Link.{Link}

-- The cause of a change: octets that a client wrote on a link; replies that the attempt at an index read, or the loss
-- of its link, with the attempt's message; or places of a message that the node gave up without an attempt.
pub data Origin : Type 0 where
  FromClient : (link : ℕ) → Origin
  FromReplies : (link place message : ℕ) → Origin
  FromLoss : (link place message : ℕ) → Origin
  FromGivingUp : (message : ℕ) → Origin

-- the change that a stop left undecided: its note, and its cause
pub record Undecided : Type 0 where
  pub note : Noted
  pub origin : Origin

-- a node is up; or it is down, with its disks and perhaps a change that its next opening decides
pub data HostState (D : Type 0) : Type 0 where
  Up : NodeState D → HostState D
  Down : Disks D → Option Undecided → HostState D

-- a node: its configuration, its state, and the records of its changes, in order
pub record Host (D : Type 0) : Type 0 where
  pub config : Config
  pub state : HostState D
  pub records : List (List ℕ)

-- all of this, at a time of the clock
pub record World (D : Type 0) : Type 0 where
  pub hosts : List (Host D)
  pub links : List Link
  pub attempts : List Attempt
  pub ledger : List Line
  pub clock : ℕ

-- the link of a number, counted from 1
abbrev pub link_at : List Link → ℕ → Option Link
link_at links zero = None
link_at links (suc n) = slice_get links n
