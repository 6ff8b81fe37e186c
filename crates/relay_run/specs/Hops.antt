-- What a turn of a running relay does with its connections to next hops, and what holds of them after any number of
-- turns.
use Rattle.std.specs.Prelude.{◌≡◌, ◌⊎◌, ℕ, List, [], Option, IfSome, map}
use Rattle.relay_disk.specs.Device.{DiskWords}
use Rattle.relay_connections.specs.Replies.{HearRepliesIf}
use Rattle.relay_connections.specs.Served.{LeavesClients}
use Rattle.relay_connections.specs.declared.hearing.Replied.{Replied}
use Rattle.relay_loop.specs.Relay.{RelayState}
use Rattle.relay_loop.specs.declared.replying.ReplyPiece.{ReplyPiece}
use Rattle.relay_next_hops.specs.Hearing.{AnswersEach, order_of, replies_of, told_of}
use Rattle.relay_next_hops.specs.Readiness.{hops_of}
use Rattle.relay_next_hops.specs.Tables.{TablesMatch}
use Rattle.relay_next_hops.specs.declared.next_hops.NextHops.{NextHops}

-- Each connection leads to the address that the relay's configuration gives for its next hop, and each lane counts its
-- connections.
abbrev pub HopsMatch : {S D : Type 0} → NextHops S → RelayState D → Type 0
HopsMatch next_hops relay = TablesMatch relay.node.config.routes.routes next_hops

-- Each attempt with unread octets has heard its own, all in one call, or none has, since there was no memory to gather
-- them. Each connection got the result for its own attempt, and was worked on by that alone.
pub record HopsHear {S D : Type 0} (honest : Type 0) (words : DiskWords D) (at tick : ℕ) (old new : NextHops S)
    (before after : RelayState D) : Type 0 where
  pub replies : List ReplyPiece
  pub own : (map told_of replies ≡ replies_of old.hops) ⊎ (replies ≡ [])
  pub replied : Option Replied
  pub between : RelayState D
  pub heard : HearRepliesIf honest words replies at before between replied
  pub answered : IfSome replied
      (λ replied. AnswersEach tick (order_of old.hops) replied.answered.items (hops_of old) (hops_of new))
  pub rest : LeavesClients honest words between after
