-- Which reply of a next hop the log tells of a recipient, among those of an attempt (RFC 5321, sections 3.1 to 3.3 and
-- 3.8): the one that settled it, or the one by which the next hop closed the connection.
use Rattle.std.specs.Prelude.{ℕ, ◌-◌, ◌==◌, Bool, true, false, List, length, map, slice_get, take, Option, Some, None}
use Rattle.std.specs.Prelude.{option_map, if◌then◌else◌}
use Rattle.relay_lines.specs.Reply.{Reply, last_text}
use Rattle.relay_book.specs.declared.change.Verdict.{Verdict}
use Rattle.relay_book.specs.declared.change.Verdict.TheVariants.{Taken, Refused, Later}
use Rattle.relay_course.specs.declared.reply_kind.ReplyKind.{ReplyKind}
use Rattle.relay_course.specs.VerdictTable.{kind_of}
use Rattle.relay_course.specs.Settling.{settling_position}

abbrev pub kinds_of : List Reply → List ReplyKind
kinds_of replies = map (λ reply. kind_of reply.code) replies

-- the reply that settled the recipient of this index among this many, if it is one of these; the text was sent by DATA,
-- or as a chunk
abbrev pub settling_reply : Bool → List Reply → ℕ → ℕ → Option Reply
settling_reply by_data replies count index =
    slice_get replies (settling_position by_data (kinds_of replies) count index)

-- a 421, by which a next hop closes the connection, whatever it answers (section 3.8)
abbrev pub if_closing : Option Reply → Option Reply
if_closing None = None
if_closing (Some reply) = if reply.code == 421 then Some reply else None

-- the last of these replies, if the next hop closed the connection by it
abbrev pub closing_reply : List Reply → Option Reply
closing_reply replies = if_closing (slice_get replies (length replies - 1))

-- the first of two, if it is there, or else the second
abbrev pub one_or : Option Reply → Option Reply → Option Reply
one_or None other = other
one_or (Some reply) other = Some reply

-- the reply for which a recipient may be tried again: the one that settled it, of whatever class, since a 2yz to DATA
-- puts it off too; without one, and where the connection was lost, so that none settled it, the one that closed the
-- connection
abbrev pub deferring_reply : Bool → Bool → List Reply → ℕ → ℕ → Option Reply
deferring_reply true by_data replies count index = closing_reply replies
deferring_reply false by_data replies count index =
    one_or (settling_reply by_data replies count index) (closing_reply replies)

-- profile: the text that is told of a reply: the first 200 octets of its last line
abbrev pub told_text : Reply → List ℕ
told_text reply = take 200 (last_text reply.lines)

abbrev pub told_as : Option Reply → Option (ℕ × List ℕ)
told_as reply = option_map (λ one. (one.code, told_text one)) reply

-- such a code and text, if the next hop closed the connection by them
abbrev pub if_closing_told : Option (ℕ × List ℕ) → Option (ℕ × List ℕ)
if_closing_told None = None
if_closing_told (Some told) = if told.0 == 421 then Some told else None

-- The code and the text that the log has for the recipient of this index among this many, by its verdict: a refusal's
-- own; those of the reply that settled it, or put it off; or none.
abbrev pub told_of : Verdict → Bool → Bool → List Reply → ℕ → ℕ → Option (ℕ × List ℕ)
told_of (Refused code text) lost by_data replies count index = Some (code, text)
told_of (Taken dsn) lost by_data replies count index = told_as (settling_reply by_data replies count index)
told_of Later lost by_data replies count index = told_as (deferring_reply lost by_data replies count index)
told_of _ lost by_data replies count index = None
