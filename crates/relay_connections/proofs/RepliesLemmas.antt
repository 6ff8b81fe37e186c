-- What leaves attempts alone, and what they hear, call after call.
use Rattle.std.proofs.Common.{◌≡◌, ℕ, List, [], Option, None, Some, Box, Result, Ok, Err, refl, ap, ◌∙◌}
use Rattle.std.specs.Prelude.{IfErr, IfOk}
use Rattle.relay_disk.specs.Device.{DiskWords}
use Rattle.relay_slots.specs.Slots.{slot_at}
use Rattle.relay_node.specs.Node.{NodeState, RefusesToConnect}
use Rattle.relay_records.specs.declared.fault.NodeFault.{NodeFault}
use Rattle.relay_loop.specs.declared.clients.Heard.{Heard}
use Rattle.relay_loop.specs.declared.group.Piece.{Piece}
use Rattle.relay_loop.specs.declared.replying.ReplyPiece.{ReplyPiece}
use Rattle.relay_loop.specs.Groups.{OnlyTheirs}
use Rattle.relay_loop.specs.Relay.{OnlyClient, RelayState}
use Rattle.std.specs.declared.net.socket_addr.SocketAddrV4.{SocketAddrV4}
use Rattle.std.specs.Global.{Global}
use Rattle.relay_connections.specs.Channel.{KeepsOutput}
use Rattle.relay_connections.specs.Exchange.{IsHanded, IsRead, OnlyOutbox}
use Rattle.relay_connections.specs.Matched.{IsGreeted}
use Rattle.relay_connections.specs.Replies.{HearRepliesIf, LeavesMail, OnlyRepliedTo}
use Rattle.relay_connections.specs.Sessions.{EndsAlone}
use Rattle.relay_connections.specs.declared.channel.Channel.{Channel}
use Rattle.relay_connections.specs.declared.client.Client.{Client}
use Rattle.relay_connections.specs.declared.client.Next.{Next}
use Rattle.relay_connections.specs.declared.client.Next.TheVariants.{Stays, Leaves, Gone}
use Rattle.relay_connections.specs.declared.hearing.Replied.{Replied}
use Rattle.relay_connections.proofs.MatchedLemmas.{refused_same}

module _ {D : Type 0} where
  pub mail_is : (old new : RelayState D) → new ≡ old → LeavesMail old new
  mail_is old new same = record {
    records = ap (λ (relay : RelayState D). relay.node.records) same;
    config = ap (λ (relay : RelayState D). relay.node.config) same;
    attempts = ap (λ (relay : RelayState D). relay.node.attempts) same;
    hops = ap (λ (relay : RelayState D). relay.hops) same;
  }

  pub mail_same : (relay : RelayState D) → LeavesMail relay relay
  mail_same relay = mail_is relay relay refl

  pub mail_then : (one two three : RelayState D) → LeavesMail one two → LeavesMail two three → LeavesMail one three
  mail_then one two three first second = record {
    records = second.records ∙ first.records;
    config = second.config ∙ first.config;
    attempts = second.attempts ∙ first.attempts;
    hops = second.hops ∙ first.hops;
  }

  -- a session has ended
  pub mail_ended : (session : ℕ) (old new : RelayState D) → EndsAlone session old new → LeavesMail old new
  mail_ended session old new ends = record {
    records = ends.records;
    config = ends.only.config;
    attempts = ends.only.attempts;
    hops = ends.only.hops;
  }

  -- some of its octets moved on
  pub mail_handed : (session : ℕ) (old new : RelayState D) → OnlyOutbox session old new → LeavesMail old new
  mail_handed session old new outbox = record {
    records = ap (λ (node : NodeState D). node.records) outbox.node;
    config = ap (λ (node : NodeState D). node.config) outbox.node;
    attempts = ap (λ (node : NodeState D). node.attempts) outbox.node;
    hops = outbox.hops;
  }

  -- a session was opened
  pub mail_opened : (session : ℕ) (old new : RelayState D) → OnlyClient old new session → new.node.records ≡ old.node.records → LeavesMail old new
  mail_opened session old new only records = record {
    records = records;
    config = only.config;
    attempts = only.attempts;
    hops = only.hops;
  }

  -- none was
  pub mail_refused : (old new : RelayState D) (fault : NodeFault) → new.hops ≡ old.hops → RefusesToConnect old.node new.node fault → LeavesMail old new
  mail_refused old new fault hops refused =
      let same = refused_same old.node new.node fault refused in
      record {
        records = ap (λ (node : NodeState D). node.records) same;
        config = ap (λ (node : NodeState D). node.config) same;
        attempts = ap (λ (node : NodeState D). node.attempts) same;
        hops = hops;
      }

  -- its client was greeted, or it has ended
  pub mail_greeted : {S : Type 0} (session : ℕ) (peer : SocketAddrV4) (old new : RelayState D) (found : Option (Box (Client S) Global)) → IsGreeted session peer old new found → LeavesMail old new
  mail_greeted session peer old new None freed = mail_ended session old new freed.ended
  mail_greeted session peer old new (Some client) greeted = mail_handed session old new greeted.1

  -- a client was written to and read from
  pub mail_read : {S : Type 0} (remaining contents : S → Option (List ℕ)) (session : ℕ) (old new : RelayState D) (before after : Channel S) (result : Result (Option Next) NodeFault)
      → IfOk result (IsRead remaining contents session old new before after) → IfErr result (λ _. EndsAlone session old new) → LeavesMail old new
  mail_read remaining contents session old new before after (Ok None) read ended = mail_handed session old new read.0.handed.outbox
  mail_read remaining contents session old new before after (Ok (Some Stays)) read ended = mail_handed session old new read.handed.outbox
  mail_read remaining contents session old new before after (Ok (Some (Leaves last))) read ended = mail_ended session old new read.ended
  mail_read remaining contents session old new before after (Ok (Some Gone)) read ended = mail_ended session old new read
  mail_read remaining contents session old new before after (Err fault) read ended = mail_ended session old new ended

  -- the result of its octets was taken
  pub mail_answered : {S : Type 0} (remaining contents : S → Option (List ℕ)) (session : ℕ) (old new : RelayState D) (before after : Channel S) (heard : Result Heard NodeFault) (result : Result Next NodeFault)
      → IfOk heard (λ heard. heard.last ≡ None → IfOk result (λ next. next ≡ Stays) × IsHanded remaining contents session old new before after)
      → IfOk heard (λ heard. (last : List ℕ) → heard.last ≡ Some last → IfOk result (λ next. next ≡ Leaves last) × (new ≡ old) × KeepsOutput remaining contents before after)
      → IfErr heard (λ _. IfOk result (λ next. next ≡ Gone) × (new ≡ old)) → LeavesMail old new
  mail_answered remaining contents session old new before after (Err fault) result stays leaves gone = mail_is old new gone.1
  mail_answered remaining contents session old new before after (Ok heard) result stays leaves gone = by heard.last stays leaves where
    by : (left : Option (List ℕ)) → (left ≡ None → IfOk result (λ next. next ≡ Stays) × IsHanded remaining contents session old new before after)
        → ((last : List ℕ) → left ≡ Some last → IfOk result (λ next. next ≡ Leaves last) × (new ≡ old) × KeepsOutput remaining contents before after) → LeavesMail old new
    by None stays leaves = mail_handed session old new (stays refl).1.outbox
    by (Some last) stays leaves = mail_is old new (leaves last refl).1

  pub only_mail : (replies : List ReplyPiece) (old new : RelayState D) → LeavesMail old new → OnlyRepliedTo replies old new
  only_mail replies old new mail = record {
    config = mail.config;
    attempts = λ attempt others. ap (λ slots. slot_at slots attempt) mail.attempts;
    hops = λ attempt others. ap (λ slots. slot_at slots attempt) mail.hops;
  }

  -- sessions and attempts were called together
  pub only_theirs : (pieces : List Piece) (replies : List ReplyPiece) (old new : RelayState D) → OnlyTheirs old new pieces replies → OnlyRepliedTo replies old new
  only_theirs pieces replies old new only = record {
    config = only.config;
    attempts = λ attempt others. (only.attempts attempt others).0;
    hops = λ attempt others. (only.attempts attempt others).1;
  }

  pub only_is : (replies : List ReplyPiece) (old new : RelayState D) → new ≡ old → OnlyRepliedTo replies old new
  only_is replies old new same = only_mail replies old new (mail_is old new same)

  pub only_then : (replies : List ReplyPiece) (one two three : RelayState D) → OnlyRepliedTo replies one two → OnlyRepliedTo replies two three → OnlyRepliedTo replies one three
  only_then replies one two three first second = record {
    config = second.config ∙ first.config;
    attempts = λ attempt others. second.attempts attempt others ∙ first.attempts attempt others;
    hops = λ attempt others. second.hops attempt others ∙ first.hops attempt others;
  }

module _ {D : Type 0} (honest : Type 0) (words : DiskWords D) where
  -- in a call that passed on none
  pub heard_none : (at : ℕ) (old new : RelayState D) (found : Option Replied) → HearRepliesIf honest words [] at old new found → OnlyRepliedTo [] old new
  heard_none at old new None only = only
  heard_none at old new (Some replied) heard =
      only_then [] old heard.before new (only_mail [] old heard.before heard.first)
      (only_then [] heard.before heard.after new heard.only heard.last)

  -- clients were read from before
  pub heard_after : (replies : List ReplyPiece) (at : ℕ) (old between new : RelayState D) (found : Option Replied) → LeavesMail old between
      → HearRepliesIf honest words replies at between new found → HearRepliesIf honest words replies at old new found
  heard_after replies at old between new None mail only = only_then [] old between new (only_mail [] old between mail) only
  heard_after replies at old between new (Some replied) mail heard = record {
    before = heard.before;
    first = mail_then old between heard.before mail heard.first;
    pieces = heard.pieces;
    group = heard.group;
    answered = heard.answered;
    notes = heard.notes;
    each = heard.each;
    after = heard.after;
    reads = heard.reads;
    only = heard.only;
    last = heard.last;
  }

  -- nothing touched an attempt after that
  pub heard_before : (replies : List ReplyPiece) (at : ℕ) (old between new : RelayState D) (found : Option Replied) → HearRepliesIf honest words replies at old between found
      → OnlyRepliedTo [] between new → HearRepliesIf honest words replies at old new found
  heard_before replies at old between new None only last = only_then [] old between new only last
  heard_before replies at old between new (Some replied) heard last = record {
    before = heard.before;
    first = heard.first;
    pieces = heard.pieces;
    group = heard.group;
    answered = heard.answered;
    notes = heard.notes;
    each = heard.each;
    after = heard.after;
    reads = heard.reads;
    only = heard.only;
    last = only_then [] heard.after between new heard.last last;
  }
