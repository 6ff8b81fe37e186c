-- What an attempt writes: lines that every server reads as it means them, and of contents the stored text alone.
use Rattle.std.proofs.Common.{◌≡◌, inl, inr, ◌<◌, ℕ, zero, suc, Bool, true, false, MatchBool, List, [], ◌∷◌, ◌++◌, length, Some, refl, sym, subst, cond, arith}
use Rattle.std.specs.Prelude.{slice_get}
use Rattle.std.specs.List.{AllByRecursion, Contains}
use Rattle.std.proofs.lemmas.List.Elements.{Contains-append_right}
use Rattle.relay_lines.specs.Command.{Helo, Ehlo, Bdat, Quit}
use Rattle.relay_lines.specs.Command as line
use Rattle.relay_lines.specs.Reply.{Reply}
use Rattle.relay_lines.specs.WrittenCommand.{written_command}
use Rattle.relay_lines.proofs.Theorems.{written_command_is_read}
use Rattle.relay_body.specs.DotText.{WritesDotText, ends_in_line_end}
use Rattle.relay_envelope.specs.declared.envelope.Recipient.{Recipient}
use Rattle.relay_envelope.specs.Envelope.{IsRecipient, mail_text, rcpt_text}
use Rattle.relay_envelope.proofs.Theorems.{mail_is_command_line, rcpt_is_command_line}
use Rattle.relay_book.specs.declared.change.Verdict.{Verdict}
use Rattle.relay_book.specs.declared.change.Verdict.TheVariants.{Later, CantSend}
use Rattle.relay_course.specs.declared.awaited.Awaited.{Awaited}
use Rattle.relay_course.specs.declared.awaited.Awaited.TheVariants.{Greeting, Ehlo as EhloAwaited, Helo as HeloAwaited, Mail, Rcpt, Data, Content}
use Rattle.relay_course.specs.declared.reply_kind.ReplyKind.{ReplyKind}
use Rattle.relay_course.specs.declared.reply_kind.ReplyKind.TheVariants.{Completion, Intermediate, Permanent}
use Rattle.relay_course.specs.Extensions.{extensions_of}
use Rattle.relay_course.specs.WrittenLine.{ehlo_line, helo_line, mail_line, rcpt_line, rcpt_line_at, data_line, last_chunk, quit_line}
use Rattle.relay_course.specs.VerdictTable.{content_verdict_by, kind_of, refusal, some_accepted}
use Rattle.relay_course.specs.Progress.{Delivery, Progress, rcpt_replies, with_command, ended_by, with_rcpt, with_rcpts, with_content, with_next, with_mail, after_hello, after_answer, at_greeting, with_answer, after_reply, after_replies}
use Rattle.relay_course.specs.Laws.{AsLastChunk, AsLine, AsMailData, EachCommandIsRead, IsDelivery, IsWritten}
use Rattle.relay_course.proofs.GoingLemmas.{answered_by}

-- the place is one of the delivery's, and has a recipient
abbrev IsPlace : Delivery → ℕ → Type 0
IsPlace delivery place = (place < length delivery.envelope.recipients) × Contains delivery.places place

-- DATA waits only where the text is sent after it
abbrev MaySend : Delivery → Awaited → Type 0
MaySend delivery Data = ends_in_line_end delivery.text ≡ true
MaySend delivery _ = Unit {0}

-- what was written is as it may be, and what is to be written will be
abbrev IsSent : Delivery → Progress → Type 0
IsSent delivery now =
    AllByRecursion (IsWritten delivery) now.commands × AllByRecursion (IsPlace delivery) now.unasked
    × AllByRecursion (MaySend delivery) now.waits

one-more : {A : Type 0} (P : A → Type 0) (xs : List A) (x : A) → AllByRecursion P xs → P x → AllByRecursion P (xs ++ x ∷ [])
one-more P [] x all is = (is, tt)
one-more P (y ∷ xs) x all is = (all.0, one-more P xs x all.1 is)

lifted : {A : Type 0} (P Q : A → Type 0) (xs : List A) → ((x : A) → P x → Q x) → AllByRecursion P xs → AllByRecursion Q xs
lifted P Q [] step all = tt
lifted P Q (x ∷ xs) step all = (step x all.0, lifted P Q xs step all.1)

-- each place of a list is one of it
own-places : (n : ℕ) (places : List ℕ) → AllByRecursion (λ place. place < n) places
    → AllByRecursion (λ place. (place < n) × Contains places place) places
own-places n [] all = tt
own-places n (first ∷ places) all = (
  (all.0, (0, omega arith, refl)),
  lifted (λ place. (place < n) × Contains places place) (λ place. (place < n) × Contains (first ∷ places) place) places
      (λ place has. (has.0, Contains-append_right (first ∷ []) places place has.1)) (own-places n places all.1),
)

-- the line of a RCPT is that of its recipient
pub record HasLine (dsn : Bool) (recipients : List Recipient) (place : ℕ) : Type 0 where
  pub recipient : Recipient
  pub at : slice_get recipients place ≡ Some recipient
  pub line : rcpt_line_at dsn recipients place ≡ rcpt_line dsn recipient
  pub valid : IsRecipient recipient

line-at : (dsn : Bool) (recipients : List Recipient) (place : ℕ) → AllByRecursion IsRecipient recipients
    → place < length recipients → HasLine dsn recipients place
line-at dsn [] place all lt = absurd (omega (arith, lt))
line-at dsn (recipient ∷ recipients) zero all lt = record {
  recipient = recipient;
  at = refl;
  line = refl;
  valid = all.0;
}
line-at dsn (recipient ∷ recipients) (suc place) all lt =
    let more = line-at dsn recipients place all.1 (omega (arith, lt)) in
    record { recipient = more.recipient; at = more.at; line = more.line; valid = more.valid }

rcpt-line-written : (delivery : Delivery) (dsn : Bool) (place : ℕ) (recipient : Recipient) → Contains delivery.places place
    → slice_get delivery.envelope.recipients place ≡ Some recipient → IsRecipient recipient
    → IsWritten delivery (rcpt_line dsn recipient)
rcpt-line-written delivery true place recipient has at valid =
    AsLine (line.Rcpt (rcpt_text recipient)) (written_command (line.Rcpt (rcpt_text recipient)))
    (place, recipient, has, at, inl refl) (rcpt_is_command_line recipient valid).0 refl
rcpt-line-written delivery false place recipient has at valid =
    AsLine (line.Rcpt recipient.path) (written_command (line.Rcpt recipient.path))
    (place, recipient, has, at, inr refl) (rcpt_is_command_line recipient valid).1 refl

rcpt-written : (delivery : Delivery) (dsn : Bool) (place : ℕ) → IsDelivery delivery → IsPlace delivery place
    → IsWritten delivery (rcpt_line_at dsn delivery.envelope.recipients place)
rcpt-written delivery dsn place is has =
    let row = line-at dsn delivery.envelope.recipients place is.envelope.recipients has.0 in
    subst (λ (l : List ℕ). IsWritten delivery l) (sym row.line)
    (rcpt-line-written delivery dsn place row.recipient has.1 row.at row.valid)

mail-written : (delivery : Delivery) (dsn : Bool) → IsDelivery delivery → IsWritten delivery (mail_line dsn delivery.envelope)
mail-written delivery true is =
    AsLine (line.Mail (mail_text delivery.envelope)) (written_command (line.Mail (mail_text delivery.envelope)))
    (inl refl) (mail_is_command_line delivery.envelope is.envelope).0 refl
mail-written delivery false is =
    AsLine (line.Mail delivery.envelope.reverse_path) (written_command (line.Mail delivery.envelope.reverse_path))
    (inr refl) (mail_is_command_line delivery.envelope is.envelope).1 refl

ehlo-written : (delivery : Delivery) → IsDelivery delivery → IsWritten delivery (ehlo_line delivery.host)
ehlo-written delivery is =
    AsLine (Ehlo delivery.host) (written_command (Ehlo delivery.host)) refl
    (written_command_is_read (Ehlo delivery.host) is.host) refl

helo-written : (delivery : Delivery) → IsDelivery delivery → IsWritten delivery (helo_line delivery.host)
helo-written delivery is =
    AsLine (Helo delivery.host) (written_command (Helo delivery.host)) refl
    (written_command_is_read (Helo delivery.host) is.host) refl

data-written : (delivery : Delivery) → IsWritten delivery data_line
data-written delivery =
    AsLine line.Data (written_command line.Data) tt (written_command_is_read line.Data tt) refl

quit-written : (delivery : Delivery) → IsWritten delivery quit_line
quit-written delivery = AsLine Quit (written_command Quit) tt (written_command_is_read Quit tt) refl

chunk-written : (delivery : Delivery) → IsDelivery delivery → IsWritten delivery (last_chunk delivery.text)
chunk-written delivery is =
    AsLastChunk (written_command (Bdat (record { size = length delivery.text; last = true })))
    (written_command_is_read (Bdat (record { size = length delivery.text; last = true })) is.short) refl

sent-after : (text dot_text : List ℕ) (test : Bool) → test ≡ true
    → MatchBool test (WritesDotText text dot_text) (dot_text ≡ []) → WritesDotText text dot_text
sent-after text dot_text true e writes = writes
sent-after text dot_text false e writes = absurd (cc)

text-written : (delivery : Delivery) → IsDelivery delivery → ends_in_line_end delivery.text ≡ true
    → IsWritten delivery delivery.dot_text
text-written delivery is e =
    AsMailData (sent-after delivery.text delivery.dot_text (ends_in_line_end delivery.text) e is.dot_text)

command-sent : (delivery : Delivery) (command : List ℕ) (waited : Awaited) (now : Progress) → IsWritten delivery command
    → MaySend delivery waited → IsSent delivery now → IsSent delivery (with_command command waited now)
command-sent delivery command waited now written may sent = (
  one-more (IsWritten delivery) now.commands command sent.0 written,
  sent.1,
  one-more (MaySend delivery) now.waits waited sent.2 may,
)

ended-sent : (delivery : Delivery) (last : Verdict) (now : Progress) → IsSent delivery now
    → IsSent delivery (ended_by delivery last now)
ended-sent delivery last now sent =
    (one-more (IsWritten delivery) now.commands quit_line sent.0 (quit-written delivery), sent.1, tt)

rcpt-sent : (delivery : Delivery) (place : ℕ) (more : List ℕ) (now : Progress) → IsDelivery delivery
    → now.unasked ≡ place ∷ more → IsSent delivery now → IsSent delivery (with_rcpt delivery place more now)
rcpt-sent delivery place more now is next sent =
    let places = subst (λ (l : List ℕ). AllByRecursion (IsPlace delivery) l) next sent.1 in
    let line : List ℕ = rcpt_line_at now.extensions.dsn delivery.envelope.recipients place in (
      one-more (IsWritten delivery) now.commands line sent.0 (rcpt-written delivery now.extensions.dsn place is places.0),
      places.1,
      one-more (MaySend delivery) now.waits (Rcpt place) sent.2 tt,
    )

rcpts-sent : (delivery : Delivery) (places : List ℕ) (now : Progress) → IsDelivery delivery → now.unasked ≡ places
    → IsSent delivery now → IsSent delivery (with_rcpts delivery places now)
rcpts-sent delivery [] now is next sent = sent
rcpts-sent delivery (place ∷ places) now is next sent =
    rcpts-sent delivery places (with_rcpt delivery place places now) is refl (rcpt-sent delivery place places now is next sent)

-- of two the one that a test chooses
chosen : (delivery : Delivery) (test : Bool) (one other : Progress) → (test ≡ true → IsSent delivery one)
    → IsSent delivery other → IsSent delivery (cond test one other)
chosen delivery true one other a b = a refl
chosen delivery false one other a b = b

content-sent : (delivery : Delivery) (now : Progress) → IsDelivery delivery → IsSent delivery now
    → IsSent delivery (with_content delivery now)
content-sent delivery now is sent =
    chosen delivery (ends_in_line_end delivery.text) (with_command data_line Data now)
    (with_command (last_chunk delivery.text) Content now)
    (λ ends. command-sent delivery data_line Data now (data-written delivery) ends sent)
    (command-sent delivery (last_chunk delivery.text) Content now (chunk-written delivery is) tt sent)

next-sent : (delivery : Delivery) (waits : List Awaited) (unasked : List ℕ) (now : Progress) → IsDelivery delivery
    → now.unasked ≡ unasked → IsSent delivery now → IsSent delivery (with_next delivery waits unasked now)
next-sent delivery (waited ∷ waits) unasked now is next sent = sent
next-sent delivery [] (place ∷ more) now is next sent = rcpt-sent delivery place more now is next sent
next-sent delivery [] [] now is next sent =
    chosen delivery (some_accepted (rcpt_replies now.answered)) (with_content delivery now) (ended_by delivery Later now)
    (λ some. content-sent delivery now is sent) (ended-sent delivery Later now sent)

mail-sent : (delivery : Delivery) (now : Progress) → IsDelivery delivery → IsSent delivery now
    → IsSent delivery (with_mail delivery now)
mail-sent delivery now is sent =
    let line : List ℕ = mail_line now.extensions.dsn delivery.envelope in
    let mail : Progress = with_command line Mail now in
    let one = command-sent delivery line Mail now (mail-written delivery now.extensions.dsn is) tt sent in
    chosen delivery now.extensions.pipelining (with_rcpts delivery now.unasked mail) mail
    (λ groups. rcpts-sent delivery now.unasked mail is refl one) one

hello-sent : (delivery : Delivery) (now : Progress) → IsDelivery delivery → IsSent delivery now
    → IsSent delivery (after_hello delivery now)
hello-sent delivery now is sent =
    let cant : Progress = ended_by delivery CantSend now in
    chosen delivery (ends_in_line_end delivery.text) (with_mail delivery now)
    (cond now.extensions.chunking (with_mail delivery now) cant)
    (λ ends. mail-sent delivery now is sent)
    (chosen delivery now.extensions.chunking (with_mail delivery now) cant (λ chunks. mail-sent delivery now is sent)
    (ended-sent delivery CantSend now sent))

-- each row of the table
answer-sent : (delivery : Delivery) (waited : Awaited) (kind : ReplyKind) (reply : Reply) (now : Progress)
    → IsDelivery delivery → MaySend delivery waited → IsSent delivery now
    → IsSent delivery (after_answer delivery waited kind reply now)
answer-sent delivery Greeting Completion reply now is may sent =
    command-sent delivery (ehlo_line delivery.host) EhloAwaited now (ehlo-written delivery is) tt sent
answer-sent delivery Greeting Permanent reply now is may sent = ended-sent delivery (refusal reply) now sent
answer-sent delivery Greeting _ reply now is may sent = ended-sent delivery Later now sent
answer-sent delivery EhloAwaited Completion reply now is may sent =
    hello-sent delivery (record now { extensions = extensions_of reply }) is sent
answer-sent delivery EhloAwaited Permanent reply now is may sent =
    command-sent delivery (helo_line delivery.host) HeloAwaited now (helo-written delivery is) tt sent
answer-sent delivery EhloAwaited _ reply now is may sent = ended-sent delivery Later now sent
answer-sent delivery HeloAwaited Completion reply now is may sent = hello-sent delivery now is sent
answer-sent delivery HeloAwaited Permanent reply now is may sent = ended-sent delivery (refusal reply) now sent
answer-sent delivery HeloAwaited _ reply now is may sent = ended-sent delivery Later now sent
answer-sent delivery Mail Completion reply now is may sent =
    next-sent delivery now.waits now.unasked now is refl sent
answer-sent delivery Mail Permanent reply now is may sent = ended-sent delivery (refusal reply) now sent
answer-sent delivery Mail _ reply now is may sent = ended-sent delivery Later now sent
answer-sent delivery (Rcpt place) _ reply now is may sent =
    next-sent delivery now.waits now.unasked now is refl sent
answer-sent delivery Data Intermediate reply now is may sent =
    command-sent delivery delivery.dot_text Content now (text-written delivery is may) tt sent
answer-sent delivery Data Permanent reply now is may sent = ended-sent delivery (refusal reply) now sent
answer-sent delivery Data _ reply now is may sent = ended-sent delivery Later now sent
answer-sent delivery Content kind reply now is may sent =
    ended-sent delivery (content_verdict_by now.extensions.dsn kind reply) now sent

with_answer-sent : (delivery : Delivery) (waits : List Awaited) (reply : Reply) (now : Progress) → IsDelivery delivery
    → now.waits ≡ waits → IsSent delivery now → IsSent delivery (with_answer delivery waits reply now)
with_answer-sent delivery [] reply now is e sent = sent
with_answer-sent delivery (waited ∷ waits) reply now is e sent =
    let may = subst (λ (l : List Awaited). AllByRecursion (MaySend delivery) l) e sent.2 in
    answer-sent delivery waited (kind_of reply.code) reply (answered_by waited waits reply now) is may.0
    (sent.0, sent.1, may.1)

along-sent : (delivery : Delivery) (now : Progress) (replies : List Reply) → IsDelivery delivery → IsSent delivery now
    → IsSent delivery (after_replies delivery now replies)
along-sent delivery now [] is sent = sent
along-sent delivery now (reply ∷ replies) is sent =
    along-sent delivery (after_reply delivery now reply) replies is
    (with_answer-sent delivery now.waits reply now is refl sent)

pub each_command_is_read : EachCommandIsRead
each_command_is_read delivery replies is =
    (along-sent delivery (at_greeting delivery) replies is
    (tt, own-places (length delivery.envelope.recipients) delivery.places is.within, (tt, tt))).0
