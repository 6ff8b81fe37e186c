-- What a client's connection and its session exchange: the session's octets go to the connection, and the octets read
-- from the connection go to the session.
use Rattle.std.specs.Prelude.{◌≡◌, ◌≢◌, ℕ, List, [], Option, None, Some, drop, is_some}
use Rattle.std.specs.Io.KnownBytes.{Keeps, append_known}
use Rattle.relay_slots.specs.Slots.{OthersStay, slot_at}
use Rattle.relay_loop.specs.Outboxes.{unwritten_at}
use Rattle.relay_loop.specs.Relay.{RelayState}
use Rattle.relay_connections.specs.Channel.{IsEndTrue, KeepsInput, input_left, output_of, unread_of}
use Rattle.relay_connections.specs.Sessions.{EndsAlone}
use Rattle.relay_connections.specs.declared.channel.Channel.{Channel}
use Rattle.relay_connections.specs.declared.client.Next.{Next}
use Rattle.relay_connections.specs.declared.client.Next.TheVariants.{Stays, Leaves, Gone}

-- no other client's connection has changed, no next hop's and not the node, and the session's connection is still there
pub record OnlyOutbox {D : Type 0} (session : ℕ) (old new : RelayState D) : Type 0 where
  pub stands : is_some (slot_at new.clients session) ≡ is_some (slot_at old.clients session)
  pub others : OthersStay old.clients new.clients session
  pub node : new.node ≡ old.node
  pub hops : new.hops ≡ old.hops

-- Below: the session of a number, given what is known of the streams of clients.
module _ {D S : Type 0} (remaining contents : S → Option (List ℕ)) (session : ℕ) where
  -- all octets of the session: what its client's stream has taken, what is held back, and what is unwritten
  abbrev pub said_by : RelayState D → Channel S → Option (List ℕ)
  said_by relay channel = append_known (output_of remaining contents channel) (unwritten_at relay.clients session)

  -- Octets of the session moved on to its client, as many as it takes, each once and in order.
  pub record IsHanded (old new : RelayState D) (before after : Channel S) : Type 0 where
    pub said : Keeps (said_by old before) (said_by new after)
    pub outbox : OnlyOutbox session old new

  -- The same, and nothing was read.
  pub record Hands (old new : RelayState D) (before after : Channel S) : Type 0 where
    pub handed : IsHanded old new before after
    pub input : KeepsInput remaining contents before after

  -- The same, and a block may have been read.
  pub record HandsAndReads (old new : RelayState D) (before after : Channel S) : Type 0 where
    pub handed : IsHanded old new before after
    pub input : Keeps (input_left remaining contents before) (input_left remaining contents after)
    pub ends : IsEndTrue remaining contents before → IsEndTrue remaining contents after

  -- The session has ended because its connection has, after all that was read from it. The octets that its client
  -- hasn't got yet are its last ones.
  pub record LeavesAfterEnd (old new : RelayState D) (before after : Channel S) (last : List ℕ) : Type 0 where
    pub ended : EndsAlone session old new
    pub said : Keeps (said_by old before) (append_known (output_of remaining contents after) last)
    pub input : Keeps (input_left remaining contents before) (input_left remaining contents after)
    pub unread : unread_of after ≡ []
    pub over : after.end ≢ None
    pub ends : IsEndTrue remaining contents before → IsEndTrue remaining contents after

  -- what happens to a client that is written to and read from; without a result its session has octets to hear
  abbrev pub IsRead : RelayState D → RelayState D → Channel S → Channel S → Option Next → Type 0
  IsRead old new before after None = HandsAndReads old new before after × (unread_of after ≢ [])
  IsRead old new before after (Some Stays) = HandsAndReads old new before after
  IsRead old new before after (Some (Leaves last)) = LeavesAfterEnd old new before after last
  IsRead old new before after (Some Gone) = EndsAlone session old new

-- this many octets of what was read are used, and the rest of the input is left
pub record Uses {S : Type 0} (remaining : S → Option (List ℕ)) (count : ℕ) (before after : Channel S) : Type 0 where
  pub unread : unread_of after ≡ drop count (unread_of before)
  pub left : remaining after.stream ≡ remaining before.stream
