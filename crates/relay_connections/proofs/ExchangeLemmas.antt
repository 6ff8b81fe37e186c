-- What becomes of a session whose connection has ended, after what was handed over.
use Rattle.std.proofs.Common.{◌≡◌, ◌≢◌, ℕ, List, [], Option, None, Some, sym, ap, ◌∙◌, subst}
use Rattle.std.specs.Io.KnownBytes.{Keeps, append_known, prepend_known}
use Rattle.relay_slots.specs.Slots.{slot_at}
use Rattle.relay_loop.specs.Outboxes.{octets_of}
use Rattle.relay_loop.specs.Relay.{RelayState}
use Rattle.relay_connections.specs.Channel.{IsEndTrue, KeepsOutput, input_left, output_of, unread_of}
use Rattle.relay_connections.specs.Exchange.{Hands, IsRead, OnlyOutbox, said_by}
use Rattle.relay_connections.specs.Sessions.{EndsAlone, LeavesWithAll}
use Rattle.relay_connections.specs.declared.channel.Channel.{Channel}
use Rattle.relay_connections.specs.declared.client.Next.{Next}
use Rattle.relay_connections.specs.declared.client.Next.TheVariants.{Stays, Leaves, Gone}

pub some_is_not_none : {A : Type 0} {option : Option A} {value : A} → option ≡ Some value → option ≢ None
some_is_not_none is none = absurd (cc (sym is ∙ none))

-- a session that ends after octets that were handed over
pub ends_on : {D : Type 0} (session : ℕ) (one two three : RelayState D) → OnlyOutbox session one two → EndsAlone session two three → EndsAlone session one three
ends_on session one two three first second = record {
  gone = second.gone;
  only = record {
    seats = λ other apart. second.only.seats other apart ∙ ap (λ node. slot_at node.seats other) first.node;
    clients = λ other apart. second.only.clients other apart ∙ first.others other apart;
    config = second.only.config ∙ ap (λ node. node.config) first.node;
    attempts = second.only.attempts ∙ ap (λ node. node.attempts) first.node;
    hops = second.only.hops ∙ first.hops;
  };
  records = second.records ∙ ap (λ node. node.records) first.node;
}

module _ {D S : Type 0} (remaining contents : S → Option (List ℕ)) (session : ℕ) where
  -- the session has ended, since its connection has
  pub read_end : (one two three : RelayState D) (before between after : Channel S) (next : Next)
      → Hands remaining contents session one two before between → KeepsOutput remaining contents between after
      → EndsAlone session two three → LeavesWithAll two session next → unread_of after ≡ [] → after.end ≢ None
      → (IsEndTrue remaining contents between → IsEndTrue remaining contents after)
      → Keeps (input_left remaining contents between) (input_left remaining contents after)
      → IsRead remaining contents session one three before after (Some next)
  read_end one two three before between after Stays hands output ends next unread over true input = absurd next
  read_end one two three before between after Gone hands output ends next unread over true input =
      ends_on session one two three hands.handed.outbox ends
  read_end one two three before between after (Leaves last) hands output ends next unread over true input = record {
    ended = ends_on session one two three hands.handed.outbox ends;
    said = subst (λ known. Keeps (said_by remaining contents session one before) known) same hands.handed.said;
    input = subst (λ known. Keeps known (input_left remaining contents after)) left input;
    unread = unread;
    over = over;
    ends = λ was. true (hands.input.ends was);
  }
    where
      left : input_left remaining contents between ≡ input_left remaining contents before
      left =
          ap (λ (unread : List ℕ). prepend_known unread (remaining between.stream)) hands.input.unread
          ∙ ap (λ known. prepend_known (unread_of before) known) hands.input.left

      same : said_by remaining contents session two between ≡ append_known (output_of remaining contents after) last
      same =
          ap (λ waiting. append_known (output_of remaining contents between) waiting) (ap octets_of next)
          ∙ ap (λ held. append_known (append_known (contents between.stream) held) last) (sym output.held)
          ∙ ap (λ taken. append_known (append_known taken after.held) last) (sym output.taken)
