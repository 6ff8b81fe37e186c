-- Which reply settled a place of an attempt (RFC 5321, sections 3.1 to 3.3, 4.2.1 and 4.3.2; RFC 2920, section 3.1;
-- RFC 3030, section 2). A reply answers the earliest command that has none yet: the greeting comes first, then the
-- replies to EHLO, or to HELO too where EHLO was refused, to MAIL, to the RCPT of each place in order, and to the
-- content. A place needs all of these, and of the RCPTs its own: the first reply that refuses one, or puts it off,
-- settles the place, and without one the reply to the content does. Where the connection was lost, none does.
use Rattle.std.specs.Prelude.{◌≡◌, ◌⊎◌, ℕ, ◌+◌, Bool, true, false, List, [], ◌∷◌, ◌++◌, length, map, slice_get}
use Rattle.std.specs.Prelude.{Option, Some, unwrap_or, if◌then◌else◌}
use Rattle.relay_lines.specs.Reply.{Reply}
use Rattle.relay_lines.specs.ReplyReading.{CutsReplies, IsUnfinished}
use Rattle.relay_body.specs.DotText.{ends_in_line_end}
use Rattle.relay_envelope.specs.declared.envelope.Envelope.{Envelope}
use Rattle.relay_book.specs.declared.change.Verdict.{Verdict}
use Rattle.relay_book.specs.declared.change.Verdict.TheVariants.{Later, CantSend}
use Rattle.relay_course.specs.declared.awaited.Awaited.{Awaited}
use Rattle.relay_course.specs.declared.awaited.Awaited.TheVariants.{Rcpt, Content}
use Rattle.relay_course.specs.declared.reply_kind.ReplyKind.{ReplyKind}
use Rattle.relay_course.specs.declared.reply_kind.ReplyKind.TheVariants.{Completion, Intermediate, Permanent}
use Rattle.relay_course.specs.VerdictTable.{all_later, content_verdict_by, kind_of, rcpt_verdict_by, refusal}
use Rattle.relay_course.specs.Progress.{Delivery, Answered, progress}
use Rattle.relay_course.specs.Course.{IsCourse, IsFaulty}

-- there is a reply, and its first digit is 2, 3 or 5
abbrev pub is_completion : Option ReplyKind → Bool
is_completion (Some Completion) = true
is_completion _ = false

abbrev pub is_intermediate : Option ReplyKind → Bool
is_intermediate (Some Intermediate) = true
is_intermediate _ = false

abbrev pub is_permanent : Option ReplyKind → Bool
is_permanent (Some Permanent) = true
is_permanent _ = false

-- The words below are of the first digits of an attempt's replies, in order; a position among them counts from 0.

-- the reply by which the server is greeted: to EHLO, or to HELO where EHLO was answered 5yz (section 3.2)
abbrev pub hello_position : List ReplyKind → ℕ
hello_position kinds = if is_permanent (slice_get kinds 1) then 2 else 1

abbrev pub mail_position : List ReplyKind → ℕ
mail_position kinds = hello_position kinds + 1

-- the RCPTs are answered in the order of the places
abbrev pub rcpt_position : List ReplyKind → ℕ → ℕ
rcpt_position kinds index = mail_position kinds + 1 + index

-- the reply to the content, after the RCPTs of this many places: by DATA the content follows a 3yz, and without one
-- the reply to DATA stands for it; a chunk is answered at once
abbrev pub content_position : Bool → List ReplyKind → ℕ → ℕ
content_position by_data kinds count =
    let next : ℕ = rcpt_position kinds count in
    if by_data then (if is_intermediate (slice_get kinds next) then next + 1 else next) else next

-- the first of these replies that isn't 2yz
abbrev pub first_refusal : List ReplyKind → List ℕ → ℕ → ℕ
first_refusal kinds [] last = last
first_refusal kinds (position ∷ positions) last =
    if is_completion (slice_get kinds position) then first_refusal kinds positions last else position

-- the reply that settles the place of this index among this many, where the text is sent by DATA or as a chunk
abbrev pub settling_position : Bool → List ReplyKind → ℕ → ℕ → ℕ
settling_position by_data kinds count index =
    first_refusal kinds (0 ∷ hello_position kinds ∷ mail_position kinds ∷ rcpt_position kinds index ∷ [])
    (content_position by_data kinds count)

abbrev pub kinds_of : List Answered → List ReplyKind
kinds_of answered = map (λ one. kind_of one.reply.code) answered

-- what a reply that settles a place says of it, by what it answered and by its first digit (section 4.2.1)
abbrev pub verdict_by : Bool → Awaited → ReplyKind → Reply → Verdict
verdict_by dsn Content kind reply = content_verdict_by dsn kind reply
verdict_by dsn (Rcpt place) kind reply = unwrap_or (rcpt_verdict_by kind reply) Later
verdict_by dsn _ Permanent reply = refusal reply
verdict_by dsn _ _ reply = Later

-- what was answered isn't the RCPT of another place
abbrev pub Concerns : ℕ → Awaited → Type 0
Concerns place (Rcpt other) = other ≡ place
Concerns place _ = Unit {0}

-- the reply at this position gave the place of this index its verdict
pub record SettlesAt (dsn : Bool) (answered : List Answered) (position index place : ℕ) (verdicts : List Verdict)
    : Type 0 where
  pub one : Answered
  pub there : slice_get answered position ≡ Some one
  pub concerns : Concerns place one.waited
  pub says : slice_get verdicts index ≡ Some (verdict_by dsn one.waited (kind_of one.reply.code) one.reply)

-- the place of this index among this many was settled by its reply, whatever else the server wrote after the end; or no
-- reply refused it, and the server takes no chunk where the text must be one
abbrev pub IsSettled : Bool → Bool → List Answered → ℕ → ℕ → ℕ → List Verdict → Type 0
IsSettled by_data dsn answered count index place verdicts =
    ((by_data ≡ false) × (slice_get verdicts index ≡ Some CantSend))
    ⊎ ((more : List ReplyKind)
    → SettlesAt dsn answered (settling_position by_data (kinds_of answered ++ more) count index) index place verdicts)

-- Where replies ended an attempt, each place has its verdict from the reply that settled it.
abbrev pub SettledByItsReply : Type 0
SettledByItsReply =
    (delivery : Delivery) (replies : List Reply) (verdicts : List Verdict)
    → (progress delivery replies).verdicts ≡ Some verdicts
    → (index place : ℕ) → slice_get delivery.places index ≡ Some place
    → IsSettled (ends_in_line_end delivery.text) (progress delivery replies).extensions.dsn
    (progress delivery replies).answered (length delivery.places) index place verdicts

-- what was read is replies and no octet more, at a server that offers DSN or doesn't, and they settled each place
pub record SettlesEach (text places input : List ℕ) (verdicts : List Verdict) : Type 0 where
  pub answered : List Answered
  pub dsn : Bool
  pub cut : CutsReplies input (map (λ one. one.reply) answered) []
  pub each : (index place : ℕ) → slice_get places index ≡ Some place
      → IsSettled (ends_in_line_end text) dsn answered (length places) index place verdicts

-- the replies stopped short: the caller told of a loss, or what follows is no reply
pub record StopsShort (input : List ℕ) (told : Bool) : Type 0 where
  pub replies : List Reply
  pub rest : List ℕ
  pub cut : CutsReplies input replies rest
  pub why : ((told ≡ true) × IsUnfinished rest) ⊎ ((told ≡ false) × IsFaulty rest)

-- how the places of a text got these verdicts by what was read: from replies, or, of a connection that was lost, from
-- none
abbrev pub Settles : List ℕ → List ℕ → List ℕ → Bool → List Verdict → Type 0
Settles text places input told verdicts =
    ((told ≡ false) × SettlesEach text places input verdicts)
    ⊎ (StopsShort input told × (verdicts ≡ all_later places))

-- The verdicts of a course are those of the replies that settled its places, or its connection was lost.
abbrev pub CourseSettles : Type 0
CourseSettles =
    (host : List ℕ) (envelope : Envelope) (text places input : List ℕ) (told : Bool) (output : List ℕ)
    (verdicts : List Verdict)
    → IsCourse host envelope text places input told output (Some verdicts)
    → Settles text places input told verdicts

-- the positions that settle three places, by the codes of an attempt's replies
abbrev pub positions : Bool → List ℕ → List ℕ
positions by_data codes =
    map (λ index. settling_position by_data (map kind_of codes) 3 index) (0 ∷ 1 ∷ 2 ∷ [])

-- Worked rows, by hand: all taken; a RCPT refused and one put off; HELO after a refused EHLO, and the mail data
-- refused; DATA put off; the greeting refused; MAIL put off in a group; and a chunk that is answered 3yz.
abbrev pub WorkedPositions : Type 0
WorkedPositions =
    (positions true (220 ∷ 250 ∷ 250 ∷ 250 ∷ 250 ∷ 250 ∷ 354 ∷ 250 ∷ []) ≡ 7 ∷ 7 ∷ 7 ∷ [])
    × (positions true (220 ∷ 250 ∷ 250 ∷ 250 ∷ 550 ∷ 450 ∷ 354 ∷ 250 ∷ []) ≡ 7 ∷ 4 ∷ 5 ∷ [])
    × (positions true (220 ∷ 502 ∷ 250 ∷ 250 ∷ 250 ∷ 550 ∷ 250 ∷ 354 ∷ 554 ∷ []) ≡ 8 ∷ 5 ∷ 8 ∷ [])
    × (positions true (220 ∷ 250 ∷ 250 ∷ 250 ∷ 550 ∷ 250 ∷ 451 ∷ []) ≡ 6 ∷ 4 ∷ 6 ∷ [])
    × (positions true (554 ∷ []) ≡ 0 ∷ 0 ∷ 0 ∷ [])
    × (positions true (220 ∷ 250 ∷ 452 ∷ 503 ∷ 503 ∷ 503 ∷ []) ≡ 2 ∷ 2 ∷ 2 ∷ [])
    × (positions false (220 ∷ 250 ∷ 250 ∷ 250 ∷ 250 ∷ 250 ∷ 354 ∷ 250 ∷ []) ≡ 6 ∷ 6 ∷ 6 ∷ [])
