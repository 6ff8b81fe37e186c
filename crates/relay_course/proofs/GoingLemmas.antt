-- What is done of a progress adds commands, each of which waits for a reply until it ends.
use Rattle.std.proofs.Common.{◌≡◌, ◌<◌, ℕ, ◌+◌, Bool, true, false, List, [], ◌∷◌, ◌++◌, length, Some, None, refl, sym, ap, ◌∙◌, subst, cond, arith}
use Rattle.std.proofs.lemmas.List.{append_assoc, append-nil, length-append}
use Rattle.relay_octets.specs.Beginning.{Begins}
use Rattle.relay_lines.specs.Reply.{Reply}
use Rattle.relay_body.specs.DotText.{ends_in_line_end}
use Rattle.relay_book.specs.declared.change.Verdict.{Verdict}
use Rattle.relay_book.specs.declared.change.Verdict.TheVariants.{Later, CantSend}
use Rattle.relay_course.specs.declared.awaited.Awaited.{Awaited}
use Rattle.relay_course.specs.declared.awaited.Awaited.TheVariants.{Greeting, Ehlo, Helo, Mail, Rcpt, Data, Content}
use Rattle.relay_course.specs.declared.reply_kind.ReplyKind.{ReplyKind}
use Rattle.relay_course.specs.declared.reply_kind.ReplyKind.TheVariants.{Completion, Intermediate, Permanent}
use Rattle.relay_course.specs.Extensions.{extensions_of}
use Rattle.relay_course.specs.WrittenLine.{ehlo_line, helo_line, mail_line, rcpt_line_at, data_line, last_chunk, quit_line}
use Rattle.relay_course.specs.VerdictTable.{content_verdict_by, kind_of, refusal, some_accepted}
use Rattle.relay_course.specs.Progress.{Delivery, Progress, answer_of, rcpt_replies, with_command, ended_by, with_rcpt, with_rcpts, with_content, after_rcpts, with_next, with_mail, after_hello, after_answer, at_greeting, with_answer, after_reply, after_replies, progress}
use Rattle.relay_course.specs.Laws.{CommandsStay, EachCommandWaits, EachReplyAnswers, EndIsEnd, ReplyLeadsOn}

-- the commands of the old begin those of the new; the old runs where the new does; while it runs each further command
-- waits; nothing more is answered
abbrev pub Adds : Progress → Progress → Type 0
Adds old new =
    Begins old.commands new.commands
    × (new.verdicts ≡ None → old.verdicts ≡ None)
    × (new.verdicts ≡ None → length new.waits + length old.commands ≡ length old.waits + length new.commands)
    × (new.answered ≡ old.answered)

-- while it runs it waits for something
abbrev pub Lives : Progress → Type 0
Lives now = now.verdicts ≡ None → 0 < length now.waits

abbrev pub GoesOn : Progress → Progress → Type 0
GoesOn old new = Adds old new × Lives new

begins-trans : {A : Type 0} (xs ys zs : List A) → Begins xs ys → Begins ys zs → Begins xs zs
begins-trans {A = A} xs ys zs one two =
    (one.0 ++ two.0, two.1 ∙ ap (λ (l : List A). l ++ two.0) one.1 ∙ append_assoc xs one.0 two.0)

adds-none : (now : Progress) → Adds now now
adds-none now = (([], sym (append-nil now.commands)), λ h. h, λ h. refl, refl)

adds-trans : (a b c : Progress) → Adds a b → Adds b c → Adds a c
adds-trans a b c one two = (
  begins-trans a.commands b.commands c.commands one.0 two.0,
  λ h. one.1 (two.1 h),
  λ h. (let e = two.2 h in let f = one.2 (two.1 h) in omega arith),
  two.3 ∙ one.3,
)

command-adds : (command : List ℕ) (waited : Awaited) (now : Progress) → Adds now (with_command command waited now)
command-adds command waited now = (
  (command ∷ [], refl),
  λ h. h,
  λ h. omega (arith, length-append now.commands (command ∷ []), length-append now.waits (waited ∷ [])),
  refl,
)

command-lives : (command : List ℕ) (waited : Awaited) (now : Progress) → Lives (with_command command waited now)
command-lives command waited now h = omega (arith, length-append now.waits (waited ∷ []))

pub some-none : {all : List Verdict} → Some all ≡ None → ⊥
some-none h = cc

asked : (command : List ℕ) (waited : Awaited) (now : Progress) → GoesOn now (with_command command waited now)
asked command waited now = (command-adds command waited now, command-lives command waited now)

ended : (delivery : Delivery) (last : Verdict) (now : Progress) → GoesOn now (ended_by delivery last now)
ended delivery last now = (
  ((quit_line ∷ [], refl), λ h. absurd (some-none h), λ h. absurd (some-none h), refl),
  λ h. absurd (some-none h),
)

rcpts-add : (delivery : Delivery) (places : List ℕ) (now : Progress) → Adds now (with_rcpts delivery places now)
rcpts-add delivery [] now = adds-none now
rcpts-add delivery (place ∷ places) now =
    let one : Progress = with_rcpt delivery place places now in
    adds-trans now one (with_rcpts delivery places one)
    (command-adds (rcpt_line_at now.extensions.dsn delivery.envelope.recipients place) (Rcpt place) now)
    (rcpts-add delivery places one)

rcpts-live : (delivery : Delivery) (places : List ℕ) (now : Progress) → Lives now → Lives (with_rcpts delivery places now)
rcpts-live delivery [] now h = h
rcpts-live delivery (place ∷ places) now h =
    rcpts-live delivery places (with_rcpt delivery place places now)
    (command-lives (rcpt_line_at now.extensions.dsn delivery.envelope.recipients place) (Rcpt place)
    (record now { unasked = places }))

-- of two the one that a test chooses
chosen : (old : Progress) (test : Bool) (one other : Progress) → GoesOn old one → GoesOn old other
    → GoesOn old (cond test one other)
chosen old true one other a b = a
chosen old false one other a b = b

content-goes : (delivery : Delivery) (now : Progress) → GoesOn now (with_content delivery now)
content-goes delivery now =
    chosen now (ends_in_line_end delivery.text) (with_command data_line Data now)
    (with_command (last_chunk delivery.text) Content now)
    (asked data_line Data now) (asked (last_chunk delivery.text) Content now)

pub rcpts-go : (delivery : Delivery) (now : Progress) → GoesOn now (after_rcpts delivery now)
rcpts-go delivery now =
    chosen now (some_accepted (rcpt_replies now.answered)) (with_content delivery now) (ended_by delivery Later now)
    (content-goes delivery now) (ended delivery Later now)

next-goes : (delivery : Delivery) (waits : List Awaited) (unasked : List ℕ) (now : Progress) → waits ≡ now.waits
    → GoesOn now (with_next delivery waits unasked now)
next-goes delivery (waited ∷ waits) unasked now e = (adds-none now, λ h. omega (arith, ap length e))
next-goes delivery [] (place ∷ more) now e =
    let line : List ℕ = rcpt_line_at now.extensions.dsn delivery.envelope.recipients place in
    (command-adds line (Rcpt place) now, command-lives line (Rcpt place) (record now { unasked = more }))
next-goes delivery [] [] now e = rcpts-go delivery now

mail-goes : (delivery : Delivery) (now : Progress) → GoesOn now (with_mail delivery now)
mail-goes delivery now =
    let line : List ℕ = mail_line now.extensions.dsn delivery.envelope in
    let mail : Progress = with_command line Mail now in
    let group : Progress = with_rcpts delivery now.unasked mail in
    chosen now now.extensions.pipelining group mail (
      adds-trans now mail group (command-adds line Mail now) (rcpts-add delivery now.unasked mail),
      rcpts-live delivery now.unasked mail (command-lives line Mail now),
    )
    (asked line Mail now)

hello-goes : (delivery : Delivery) (now : Progress) → GoesOn now (after_hello delivery now)
hello-goes delivery now =
    let cant : Progress = ended_by delivery CantSend now in
    chosen now (ends_in_line_end delivery.text) (with_mail delivery now)
    (cond now.extensions.chunking (with_mail delivery now) cant)
    (mail-goes delivery now)
    (chosen now now.extensions.chunking (with_mail delivery now) cant (mail-goes delivery now) (ended delivery CantSend now))

pub answer-goes : (delivery : Delivery) (waited : Awaited) (kind : ReplyKind) (reply : Reply) (now : Progress)
    → GoesOn now (after_answer delivery waited kind reply now)
answer-goes delivery Greeting Completion reply now = asked (ehlo_line delivery.host) Ehlo now
answer-goes delivery Greeting Permanent reply now = ended delivery (refusal reply) now
answer-goes delivery Greeting _ reply now = ended delivery Later now
answer-goes delivery Ehlo Completion reply now = hello-goes delivery (record now { extensions = extensions_of reply })
answer-goes delivery Ehlo Permanent reply now = asked (helo_line delivery.host) Helo now
answer-goes delivery Ehlo _ reply now = ended delivery Later now
answer-goes delivery Helo Completion reply now = hello-goes delivery now
answer-goes delivery Helo Permanent reply now = ended delivery (refusal reply) now
answer-goes delivery Helo _ reply now = ended delivery Later now
answer-goes delivery Mail Completion reply now = next-goes delivery now.waits now.unasked now refl
answer-goes delivery Mail Permanent reply now = ended delivery (refusal reply) now
answer-goes delivery Mail _ reply now = ended delivery Later now
answer-goes delivery (Rcpt place) _ reply now = next-goes delivery now.waits now.unasked now refl
answer-goes delivery Data Intermediate reply now = asked delivery.dot_text Content now
answer-goes delivery Data Permanent reply now = ended delivery (refusal reply) now
answer-goes delivery Data _ reply now = ended delivery Later now
answer-goes delivery Content kind reply now = ended delivery (content_verdict_by now.extensions.dsn kind reply) now

-- what waited first is taken out, and its reply is kept
abbrev pub answered_by : Awaited → List Awaited → Reply → Progress → Progress
answered_by waited waits reply now =
    record now { waits = waits; answered = now.answered ++ answer_of waited reply ∷ [] }

-- after one reply more
pub record Answers (old new : Progress) (reply : Reply) : Type 0 where
  pub begins : Begins old.commands new.commands
  pub lives : Lives new
  pub ran : new.verdicts ≡ None → old.verdicts ≡ None
  pub count : new.verdicts ≡ None
      → length new.waits + length old.commands + 1 ≡ length old.waits + length new.commands

with_answer-is : (delivery : Delivery) (waits : List Awaited) (reply : Reply) (now : Progress) → waits ≡ now.waits
    → Lives now → Answers now (with_answer delivery waits reply now) reply
with_answer-is delivery [] reply now e lives = record {
  begins = ([], sym (append-nil now.commands));
  lives = lives;
  ran = λ n. n;
  count = λ n. (let l = lives n in absurd (omega (arith, ap length e)));
}
with_answer-is delivery (waited ∷ waits) reply now e lives =
    let done = answer-goes delivery waited (kind_of reply.code) reply (answered_by waited waits reply now) in
    record {
      begins = done.0.0;
      lives = done.1;
      ran = λ n. done.0.1 n;
      count = λ n. (let b = done.0.2 n in omega (arith, ap length e));
    }

-- where something waits, one reply more is answered
pub answered_more : (delivery : Delivery) (now : Progress) (reply : Reply) (waits : List Awaited) → 0 < length waits
    → length (with_answer delivery waits reply now).answered ≡ length now.answered + 1
answered_more delivery now reply [] h = absurd (omega arith)
answered_more delivery now reply (waited ∷ waits) h =
    ap length (answer-goes delivery waited (kind_of reply.code) reply (answered_by waited waits reply now)).0.3
    ∙ length-append now.answered (answer_of waited reply ∷ [])

pub after_replies-append : (delivery : Delivery) (now : Progress) (replies more : List Reply)
    → after_replies delivery now (replies ++ more) ≡ after_replies delivery (after_replies delivery now replies) more
after_replies-append delivery now [] more = refl
after_replies-append delivery now (reply ∷ replies) more =
    after_replies-append delivery (after_reply delivery now reply) replies more

-- after many replies
pub record GoesAlong (old new : Progress) (replies : List Reply) : Type 0 where
  pub begins : Begins old.commands new.commands
  pub lives : Lives new
  pub ran : new.verdicts ≡ None → old.verdicts ≡ None
  pub count : new.verdicts ≡ None
      → length new.waits + length old.commands + length replies ≡ length old.waits + length new.commands

along : (delivery : Delivery) (now : Progress) (replies : List Reply) → Lives now
    → GoesAlong now (after_replies delivery now replies) replies
along delivery now [] lives = record {
  begins = ([], sym (append-nil now.commands));
  lives = lives;
  ran = λ n. n;
  count = λ n. omega arith;
}
along delivery now (reply ∷ replies) lives =
    let mid : Progress = after_reply delivery now reply in
    let one = with_answer-is delivery now.waits reply now refl lives in
    let more = along delivery mid replies one.lives in
    record {
      begins = begins-trans now.commands mid.commands (after_replies delivery mid replies).commands one.begins more.begins;
      lives = more.lives;
      ran = λ n. one.ran (more.ran n);
      count = λ n. (let a = more.count n in let b = one.count (more.ran n) in omega arith);
    }

greeting-lives : (delivery : Delivery) → Lives (at_greeting delivery)
greeting-lives delivery h = omega arith

pub commands_stay : CommandsStay
commands_stay delivery replies more =
    let here : Progress = progress delivery replies in
    let first = along delivery (at_greeting delivery) replies (greeting-lives delivery) in
    let after = along delivery here more first.lives in
    subst (λ (end : Progress). Begins here.commands end.commands)
    (sym (after_replies-append delivery (at_greeting delivery) replies more)) after.begins

pub each_command_waits : EachCommandWaits
each_command_waits delivery replies none =
    let all = along delivery (at_greeting delivery) replies (greeting-lives delivery) in
    (all.lives none, (let c = all.count none in omega arith))

pub stays : (delivery : Delivery) (now : Progress) (replies : List Reply) → now.waits ≡ [] → after_replies delivery now replies ≡ now
stays delivery now [] e = refl
stays delivery now (reply ∷ replies) e =
    let same : after_reply delivery now reply ≡ now =
    ap (λ (waits : List Awaited). with_answer delivery waits reply now) e in
    ap (λ (end : Progress). after_replies delivery end replies) same ∙ stays delivery now replies e

pub end_is_end : EndIsEnd
end_is_end delivery replies more e =
    after_replies-append delivery (at_greeting delivery) replies more ∙ stays delivery (progress delivery replies) more e

pub reply_leads_on : ReplyLeadsOn
reply_leads_on delivery replies reply = after_replies-append delivery (at_greeting delivery) replies (reply ∷ [])

pub each_reply_answers : EachReplyAnswers
each_reply_answers delivery replies reply none =
    let here : Progress = progress delivery replies in
    ap (λ (end : Progress). length end.answered) (reply_leads_on delivery replies reply)
    ∙ answered_more delivery here reply here.waits (each_command_waits delivery replies none).0
