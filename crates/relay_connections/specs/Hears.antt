-- Which sessions hear something in a turn of the clients: all that may, or memory ran out.
use Rattle.std.specs.Prelude.{◌≡◌, ◌≢◌, true, ℕ, List, [], Option, None, Some, Box}
use Rattle.std.specs.Global.{Global}
use Rattle.relay_disk.specs.Device.{DiskWords}
use Rattle.relay_slots.specs.Slots.{slot_at}
use Rattle.relay_loop.specs.Outboxes.{unwritten_at}
use Rattle.relay_loop.specs.Relay.{RelayState}
use Rattle.relay_loop.specs.declared.replying.ReplyPiece.{ReplyPiece}
use Rattle.relay_connections.specs.Channel.{held_of, unread_of}
use Rattle.relay_connections.specs.Hearing.{HearOwn}
use Rattle.relay_connections.specs.declared.channel.Channel.{Channel}
use Rattle.relay_connections.specs.declared.channel.End.TheVariants.{Broken}
use Rattle.relay_connections.specs.declared.client.Client.{Client}
use Rattle.relay_connections.specs.declared.hearing.Hearing.{Hearing}
use Rattle.relay_connections.specs.declared.hearing.Replied.{Replied}

-- Octets were read from a connection and aren't used yet, its client has taken all that was written, and it isn't
-- broken: its session may hear them.
pub record MayHear {D S : Type 0} (relay : RelayState D) (session : ℕ) (channel : Channel S) : Type 0 where
  pub unread : unread_of channel ≢ []
  pub held : held_of channel ≡ []
  pub unwritten : unwritten_at relay.clients session ≡ []
  pub whole : channel.end ≢ Some Broken

-- the client in a slot has this connection, and its session hears something in the next call
abbrev pub IsHearing : {S : Type 0} → Channel S → Option (Box (Client S) Global) → Type 0
IsHearing channel None = ⊥
IsHearing channel (Some client) = (client.value.hears ≡ true) × (client.value.channel ≡ channel)

-- the session of a number, with this connection, hears something in the next call, and is as it was
pub record IsToHear {D S : Type 0} (number : ℕ) (channel : Channel S) (old new : RelayState D)
    (clients : List (Option (Box (Client S) Global))) : Type 0 where
  pub hearing : IsHearing channel (slot_at clients number)
  pub connection : slot_at new.clients number ≡ slot_at old.clients number
  pub session : slot_at new.node.seats number ≡ slot_at old.node.seats number

-- each session that may hear something does so in the next call
abbrev pub AreToHear
    : {D S : Type 0} → RelayState D → List (Option (Box (Client S) Global)) → RelayState D
    → List (Option (Box (Client S) Global)) → Type 0
AreToHear old before new after =
    (number : ℕ) (client : Box (Client _) Global) → slot_at before number ≡ Some client
    → MayHear old number client.value.channel → IsToHear number client.value.channel old new after

-- the session of some client may hear something
pub record OneMayHear {D S : Type 0} (relay : RelayState D) (clients : List (Option (Box (Client S) Global)))
    : Type 0 where
  pub number : ℕ
  pub client : Box (Client S) Global
  pub there : slot_at clients number ≡ Some client
  pub may : MayHear relay number client.value.channel

-- a client is gone
pub record LosesOne {S : Type 0} (before after : List (Option (Box (Client S) Global))) : Type 0 where
  pub number : ℕ
  pub stood : slot_at before number ≢ None
  pub gone : slot_at after number ≡ None

-- All sessions with octets to hear have heard some in one call, each of its own client, and these are the results of
-- the replies that were heard in the same call.
pub record HearsAll {D S : Type 0} (honest : Type 0) (words : DiskWords D)
    (clients : List (Option (Box (Client S) Global))) (replies : List ReplyPiece) (at : ℕ) (old : RelayState D)
    (replied : Replied) : Type 0 where
  pub standing : List (Option (Box (Client S) Global))
  pub slots : (number : ℕ) → slot_at standing number ≡ slot_at clients number
  pub first : ℕ
  pub hearing : Hearing
  pub replied_is : hearing.replies ≡ replied
  pub later : RelayState D
  pub own : HearOwn honest words standing first replies at old later hearing

-- What a turn of clients lets them hear. The sessions that may hear something are among those that have heard octets of
-- their clients, all in one call.
pub record HearsThem {D S : Type 0} (honest : Type 0) (words : DiskWords D)
    (clients : List (Option (Box (Client S) Global))) (replies : List ReplyPiece) (at : ℕ) (old : RelayState D)
    (replied : Replied) : Type 0 where
  pub between : List (Option (Box (Client S) Global))
  pub before : RelayState D
  pub reads : AreToHear old clients before between
  pub hears : HearsAll honest words between replies at before replied

-- They have; or, without results, no session may hear anything, or memory ran out, and a client was closed for that.
abbrev pub HearsThemIf
    : {D S : Type 0} → Type 0 → DiskWords D → List (Option (Box (Client S) Global))
    → List (Option (Box (Client S) Global)) → List ReplyPiece → ℕ → RelayState D → Option Replied → Type 0
HearsThemIf honest words clients later replies at old None = OneMayHear old clients → LosesOne clients later
HearsThemIf honest words clients later replies at old (Some replied) =
    HearsThem honest words clients replies at old replied
