-- What a call of the node does to the connection to a next hop.
use Rattle.std.proofs.Common.{◌≡◌, ℕ, false, List, [], ◌++◌, take, drop, Option, None, Some, refl, sym, ap, ◌∙◌, subst, append-nil}
use Rattle.std.specs.Option.{option_map}
use Rattle.relay_disk.specs.Device.{DiskWords}
use Rattle.relay_slots.specs.Slots.{slot_at}
use Rattle.relay_book.specs.declared.change.Change.{Change}
use Rattle.relay_attempts.specs.AddedOutcome.{AddsOutcome}
use Rattle.relay_attempts.specs.Reply.{IsItsCourse, Told, outcome_at, told_more}
use Rattle.relay_attempts.specs.declared.reply.Replied.{Replied}
use Rattle.relay_attempts.specs.declared.start.Started.{Started}
use Rattle.relay_node.specs.Attempts.{BeginsAtMost, Replies as NodeReplies, RepliesBy as NodeRepliesBy, Tells, begun_with}
use Rattle.relay_node.specs.Node.{NodeState}
use Rattle.relay_loop.specs.declared.hops.Answered.{Answered}
use Rattle.relay_loop.specs.Hops.{HandsTo, IsAnsweredBy, IsSetTo, Replies, RepliesBy, StartsToAtMost}
use Rattle.relay_loop.specs.Outboxes.{unwritten_at}
use Rattle.relay_loop.specs.Relay.{RelayState}
use Rattle.relay_loop.proofs.ClientLemmas.{waits_there, written_more}
use Rattle.relay_report.specs.Report.{reporter_of}

-- octets were written to the connection of an attempt
pub hands_wrote : {D : Type 0} (changes : List Change) (old new : RelayState D) (attempt : ℕ) (told : Told) (written : List ℕ) (count : ℕ) → new.node ≡ old.node → slot_at new.hops attempt ≡ option_map (drop count) (slot_at old.hops attempt)
    → HandsTo changes old attempt told written → HandsTo changes new attempt told (written ++ take count (unwritten_at old.hops attempt))
hands_wrote {D = D} changes old new attempt told written count same left t = record {
  tells = subst (λ (node : NodeState D). Tells node.config.host changes node.attempts attempt told) (sym same) t.tells;
  waiting = drop count t.waiting;
  connection = left ∙ ap (option_map (drop count)) t.connection;
  output =
      subst (λ l. told.output ≡ (written ++ take count l) ++ drop count t.waiting) (sym (waits_there old.hops attempt t.waiting t.connection))
      (written_more told.output written t.waiting count t.output);
}

-- an attempt has begun, and nothing waits
pub starts_to : {D : Type 0} (changes : List Change) (message : ℕ) (hop : List ℕ) (most : Option ℕ) (now : ℕ) (old new : RelayState D) (started : Started) → new.node.config ≡ old.node.config → slot_at new.hops started.attempt ≡ Some [] → BeginsAtMost old.node.config changes message hop most now old.node.attempts new.node.attempts started
    → StartsToAtMost changes message hop most now old new started
starts_to changes message hop most now old new started same there b = record {
  begins = b;
  hands = record {
    tells = subst (λ host. Tells host changes new.node.attempts started.attempt (begun_with message hop started.places.items b.message)) (sym (ap (λ config. config.host) same)) b.tells;
    waiting = [];
    connection = there;
    output = refl;
  };
}

module _ {D : Type 0} (honest : Type 0) (words : DiskWords D) (changes : List Change) (attempt now : ℕ) (told : Told) (written piece : List ℕ) (old new : RelayState D) (replied : Replied) (answered : Answered)
    (t : HandsTo changes old attempt told written) (drained : unwritten_at old.hops attempt ≡ []) (same : new.node.config ≡ old.node.config) (a : IsAnsweredBy replied answered) where
  all_written : told.output ≡ written
  all_written = t.output ∙ ap (λ l. written ++ l) (sym (waits_there old.hops attempt t.waiting t.connection) ∙ drained) ∙ append-nil written

  output : told.output ++ replied.out.items ≡ written ++ replied.out.items
  output = ap (λ l. l ++ replied.out.items) all_written

  replies_by : (made : Option ℕ) → NodeRepliesBy honest words (reporter_of old.node.config) now changes attempt told piece old.node new.node replied made → IsSetTo made attempt replied.out.items answered.last new.hops → RepliesBy honest words changes attempt now told written piece old new answered made
  replies_by None r set = record {
    used = a.used ∙ r.used;
    same = r.same;
    last = set.1;
    out = replied.out.items;
    hands = record {
      tells =
          subst (λ host. Tells host changes new.node.attempts attempt (told_more told (take answered.used piece) replied.out.items)) (sym (ap (λ config. config.host) same))
          (subst (λ n. Tells old.node.config.host changes new.node.attempts attempt (told_more told (take n piece) replied.out.items)) (sym a.used) r.tells);
      waiting = replied.out.items;
      connection = set.0;
      output = output;
    };
  }
  replies_by (Some made) r set = record {
    last = replied.out.items;
    last_is = set.1;
    verdicts = r.verdicts;
    course = subst (λ n. IsItsCourse old.node.config.host (told_more told (take n piece) replied.out.items) false r.verdicts) (sym a.used) r.course;
    output = output;
    adds = subst (λ n. AddsOutcome honest words (reporter_of old.node.config) changes (outcome_at now told r.verdicts) n new.node.records made) (sym a.used) r.adds;
    gone = r.gone;
    connection = set.0;
  }

  pub replies : NodeReplies honest words (reporter_of old.node.config) now changes attempt told piece old.node new.node replied → IsSetTo replied.change attempt replied.out.items answered.last new.hops → Replies honest words changes attempt now told written piece old new answered
  replies r set = subst (λ (made : Option ℕ). RepliesBy honest words changes attempt now told written piece old new answered made) (sym a.change) (replies_by replied.change r set)
