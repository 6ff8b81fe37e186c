-- The last answers of next hops: replies (RFC 5321, section 4.2), and connections that failed.
use Rattle.std.specs.Prelude.{◌≡◌, ℕ, List, ◌∷◌, ◌++◌, Option, None, Some, bytes_eq, decimal, map, take}
use Rattle.std.specs.HashMap.{get_by}
use Rattle.relay_lines.specs.Reply.{Reply, last_text}
use Rattle.relay_lines.specs.Word.{shown}
use Rattle.relay_log.specs.declared.last_replies.Answer.{Answer}
use Rattle.relay_log.specs.declared.last_replies.Answer.TheVariants.{Failed, Replied}
use Rattle.relay_log.specs.declared.last_replies.LastReplies.{LastReplies}

-- what the next hop of a name has answered last, if it has
abbrev pub answer_of : LastReplies → List ℕ → Option Answer
answer_of replies name = get_by (λ key. bytes_eq name key.items) replies.answers

-- profile: a reply's code and the text of its last line, cut after 200 octets, and printable
abbrev pub shown_reply : Reply → List ℕ
shown_reply reply = map shown (take 200 (decimal reply.code ++ 32 ∷ last_text reply.lines))

-- the answer is this reply, at this time
abbrev pub HasReplied : Reply → ℕ → Option Answer → Type 0
HasReplied reply now (Some (Replied text at)) = (text.items ≡ shown_reply reply) × (at ≡ now)
HasReplied reply now (Some (Failed loss at)) = ⊥
HasReplied reply now None = ⊥
