-- What a connection sends to its next hop: each octet of its attempt once, in order.
use Rattle.std.specs.Prelude.{ℕ, List, Option}
use Rattle.std.specs.Io.KnownBytes.{append_known}
use Rattle.relay_loop.specs.Outboxes.{unwritten_at}
use Rattle.relay_loop.specs.Relay.{RelayState}
use Rattle.relay_connections.specs.Channel.{output_of}
use Rattle.relay_connections.specs.declared.channel.Channel.{Channel}

-- all octets for the next hop of an attempt, given what is known of its stream: what that has taken, what is held back,
-- and what is unwritten
abbrev pub sent_by
    : {D S : Type 0} → (S → Option (List ℕ)) → (S → Option (List ℕ)) → ℕ → RelayState D → Channel S → Option (List ℕ)
sent_by remaining contents attempt relay channel =
    append_known (output_of remaining contents channel) (unwritten_at relay.hops attempt)
