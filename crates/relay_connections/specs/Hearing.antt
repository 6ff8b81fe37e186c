-- What the sessions of clients hear in a turn: the first lines read from their own connection, and none of them twice.
use Rattle.std.specs.Prelude.{◌≡◌, ℕ, zero, suc, ◌+◌, ◌%◌, Bool, false, List, [], ◌∷◌, Option, None, Some, All, Box}
use Rattle.std.specs.Prelude.{length, map}
use Rattle.std.specs.Global.{Global}
use Rattle.std.specs.List.{filter}
use Rattle.relay_disk.specs.Device.{DiskWords}
use Rattle.relay_slots.specs.Slots.{slot_at}
use Rattle.relay_book.specs.declared.change.Change.{Change}
use Rattle.relay_records.specs.Records.{Keeps}
use Rattle.relay_loop.specs.declared.group.Group.{Group}
use Rattle.relay_loop.specs.declared.group.Piece.{Piece}
use Rattle.relay_loop.specs.declared.replying.ReplyPiece.{ReplyPiece}
use Rattle.relay_loop.specs.Groups.{ReadsAll}
use Rattle.relay_loop.specs.Relay.{RelayState}
use Rattle.relay_connections.specs.Channel.{unread_of}
use Rattle.relay_connections.specs.Share.{share_of}
use Rattle.relay_connections.specs.declared.client.Client.{Client}
use Rattle.relay_connections.specs.declared.hearing.Hearing.{Hearing}

-- a client has octets that its session may hear
abbrev pub hears : {S : Type 0} → Option (Box (Client S) Global) → Bool
hears None = false
hears (Some client) = client.value.hears

-- the client of a number has octets that its session may hear
abbrev pub hears_at : {S : Type 0} → List (Option (Box (Client S) Global)) → ℕ → Bool
hears_at clients number = hears (slot_at clients number)

-- this many numbers in a circle of slots, from one on: after the last comes 0
abbrev pub turned : ℕ → ℕ → ℕ → List ℕ
turned slots number zero = []
turned slots number (suc count) = number % slots ∷ turned slots (number + 1) count

-- the numbers of all clients with octets to hear, from the first one on
abbrev pub hearing_from : {S : Type 0} → List (Option (Box (Client S) Global)) → ℕ → List ℕ
hearing_from clients first = filter (hears_at clients) (turned (length clients) first (length clients))

-- a piece is the first lines of what was read from its session's client and isn't used yet
pub record IsOwn {S : Type 0} (clients : List (Option (Box (Client S) Global))) (piece : Piece) : Type 0 where
  pub client : Box (Client S) Global
  pub there : slot_at clients piece.session ≡ Some client
  pub octets : piece.octets.now ≡ share_of (unread_of client.value.channel)

abbrev pub session_of : Piece → ℕ
session_of piece = piece.session

-- Each session with octets to hear has heard octets of its own client, all in one call, and its result is at its
-- position; attempts have heard these replies in the same call.
pub record HearOwn {D S : Type 0} (honest : Type 0) (words : DiskWords D)
    (clients : List (Option (Box (Client S) Global))) (first : ℕ) (replies : List ReplyPiece) (at : ℕ)
    (old new : RelayState D) (hearing : Hearing) : Type 0 where
  pub pieces : List Piece
  pub own : All (IsOwn clients) pieces
  pub sessions : hearing.sessions.items ≡ map session_of pieces
  pub each : hearing.sessions.items ≡ hearing_from clients first
  pub group : Group
  pub heard : group.heard ≡ hearing.heard
  pub answered : group.answered ≡ hearing.replies.answered
  pub notes : group.notes ≡ hearing.replies.notes
  pub replied : length hearing.replies.answered.items ≡ length replies
  pub reads : (changes : List Change) → Keeps honest words old.node.records changes
      → ReadsAll honest words changes at pieces replies old new group
