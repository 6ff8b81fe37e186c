-- What replies say of places (RFC 5321, sections 4.2.1 and 4.2.4): the kind of a reply, and the verdict that comes of
-- one.
use Rattle.std.specs.Prelude.{ℕ, Bool, true, false, ◌==◌, nat_lt, List, [], ◌∷◌, map, take, Option, Some, None}
use Rattle.std.specs.Prelude.{unwrap_or, if◌then◌else◌}
use Rattle.relay_lines.specs.Reply.{Reply, last_text}
use Rattle.relay_lines.specs.Word.{shown}
use Rattle.relay_book.specs.Record.{refusal_limit}
use Rattle.relay_book.specs.declared.change.Verdict.{Verdict}
use Rattle.relay_book.specs.declared.change.Verdict.TheVariants.{Taken, Refused, Later}
use Rattle.relay_course.specs.declared.reply_kind.ReplyKind.{ReplyKind}
use Rattle.relay_course.specs.declared.reply_kind.ReplyKind.TheVariants.{Completion, Intermediate, Transient, Permanent}

-- the first digit of a reply's code (section 4.2.1); a reply that is read has a code of 200 to 599
abbrev pub kind_of : ℕ → ReplyKind
kind_of code =
    if nat_lt code 300 then Completion
    else (if nat_lt code 400 then Intermediate else (if nat_lt code 500 then Transient else Permanent))

-- profile: a refusal is kept as the code and the text of the reply's last line, of that as many octets
-- as a record holds
abbrev pub refusal : Reply → Verdict
refusal reply = Refused reply.code (map shown (take refusal_limit (last_text reply.lines)))

-- what a RCPT's reply of this kind says of its place: where it was accepted, nothing yet; 552 may be tried again
-- (section 4.5.3.1.10)
abbrev pub rcpt_verdict_by : ReplyKind → Reply → Option Verdict
rcpt_verdict_by Completion reply = None
rcpt_verdict_by Intermediate reply = Some Later
rcpt_verdict_by Transient reply = Some Later
rcpt_verdict_by Permanent reply = if reply.code == 552 then Some Later else Some (refusal reply)

abbrev pub rcpt_verdict : Reply → Option Verdict
rcpt_verdict reply = rcpt_verdict_by (kind_of reply.code) reply

-- the RCPT was accepted
abbrev pub is_accepted : Reply → Bool
is_accepted reply = nat_lt reply.code 300

-- one of them was accepted
abbrev pub some_accepted : List Reply → Bool
some_accepted [] = false
some_accepted (reply ∷ replies) = if is_accepted reply then true else some_accepted replies

-- each place has the verdict of its RCPT's reply, and where that gives none, or hasn't come, the last one
abbrev pub verdicts_of : List ℕ → List Reply → Verdict → List Verdict
verdicts_of [] replies last = []
verdicts_of (place ∷ places) [] last = last ∷ verdicts_of places [] last
verdicts_of (place ∷ places) (reply ∷ replies) last =
    unwrap_or (rcpt_verdict reply) last ∷ verdicts_of places replies last

-- what the reply to the content says of the places that are left, at a server that offers DSN or doesn't
abbrev pub content_verdict_by : Bool → ReplyKind → Reply → Verdict
content_verdict_by dsn Completion reply = Taken dsn
content_verdict_by dsn Intermediate reply = Later
content_verdict_by dsn Transient reply = Later
content_verdict_by dsn Permanent reply = refusal reply

-- the verdicts of places whose attempt was lost: each may be tried again
abbrev pub all_later : List ℕ → List Verdict
all_later places = map (λ place. Later) places
