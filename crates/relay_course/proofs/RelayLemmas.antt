-- How far an attempt comes at a server that offers all three extensions, and takes MAIL and DATA.
use Rattle.std.proofs.Common.{◌≡◌, ◌<◌, ℕ, Bool, true, false, List, [], ◌∷◌, ◌++◌, drop, length, map, None, Some, refl, sym, ap, ◌∙◌, cond, arith}
use Rattle.std.proofs.lemmas.List.{append_assoc, append-nil}
use Rattle.std.proofs.lemmas.List.Concat.{flat_map-append}
use Rattle.relay_lines.specs.Reply.{Reply}
use Rattle.relay_body.specs.DotText.{ends_in_line_end}
use Rattle.relay_book.specs.declared.change.Verdict.{Verdict}
use Rattle.relay_book.specs.declared.change.Verdict.TheVariants.{Later, CantSend}
use Rattle.relay_course.specs.declared.awaited.Awaited.{Awaited}
use Rattle.relay_course.specs.declared.awaited.Awaited.TheVariants.{Greeting, Ehlo, Mail, Rcpt, Data, Content}
use Rattle.relay_course.specs.declared.extensions.Extensions.{Extensions}
use Rattle.relay_course.specs.declared.reply_kind.ReplyKind.{ReplyKind}
use Rattle.relay_course.specs.declared.reply_kind.ReplyKind.TheVariants.{Completion, Intermediate}
use Rattle.relay_course.specs.Extensions.{no_extensions}
use Rattle.relay_course.specs.WrittenLine.{ehlo_line, mail_line, rcpt_line_at, data_line, last_chunk, quit_line}
use Rattle.relay_course.specs.VerdictTable.{content_verdict_by, kind_of, some_accepted, verdicts_of}
use Rattle.relay_course.specs.Progress.{Delivery, Answered, Progress, answer_of, if_rcpt, rcpt_replies, with_command, ended_by, with_rcpts, with_content, after_rcpts, with_mail, after_hello, after_answer, at_greeting, after_replies}
use Rattle.relay_course.specs.RelayLaws.{AllRcptsAnswered, AreWilling, CommandsToARelay, NothingBeforeAllRcpts, all_extensions, answered_rcpts, content_answers, content_commands, content_replies, last_verdict, opening_answers, opening_commands, opening_replies, relay_progress}
use Rattle.relay_course.proofs.GoingLemmas.{after_replies-append, rcpts-go}

abbrev rcpt_lines : Delivery → Bool → List ℕ → List (List ℕ)
rcpt_lines delivery dsn places = map (rcpt_line_at dsn delivery.envelope.recipients) places

abbrev rcpt_waits : List ℕ → List Awaited
rcpt_waits places = map (λ place. Rcpt place) places

-- a progress that goes on, by its parts
abbrev progress_at : List (List ℕ) → List Awaited → List ℕ → Extensions → List Answered → Progress
progress_at commands waits unasked extensions answered = record {
  commands = commands;
  waits = waits;
  unasked = unasked;
  extensions = extensions;
  answered = answered;
  verdicts = None;
}

-- the RCPTs of a group
group-is : (delivery : Delivery) (places : List ℕ) (commands : List (List ℕ)) (waits : List Awaited)
    (extensions : Extensions) (answered : List Answered)
    → with_rcpts delivery places (progress_at commands waits places extensions answered)
    ≡ progress_at (commands ++ rcpt_lines delivery extensions.dsn places) (waits ++ rcpt_waits places) [] extensions answered
group-is delivery [] commands waits extensions answered =
    ap (λ (k : List (List ℕ)). progress_at k waits [] extensions answered) (sym (append-nil commands))
    ∙ ap (λ (w : List Awaited). progress_at (commands ++ []) w [] extensions answered) (sym (append-nil waits))
group-is delivery (place ∷ places) commands waits extensions answered =
    let line : List ℕ = rcpt_line_at extensions.dsn delivery.envelope.recipients place in
    let lines : List (List ℕ) = rcpt_lines delivery extensions.dsn places in
    group-is delivery places (commands ++ line ∷ []) (waits ++ Rcpt place ∷ []) extensions answered
    ∙ ap (λ (k : List (List ℕ)).
    progress_at k ((waits ++ Rcpt place ∷ []) ++ rcpt_waits places) [] extensions answered)
    (append_assoc commands (line ∷ []) lines)
    ∙ ap (λ (w : List Awaited). progress_at (commands ++ line ∷ lines) w [] extensions answered)
    (append_assoc waits (Rcpt place ∷ []) (rcpt_waits places))

-- the replies to the RCPTs of a group, one after another; at the last one it is decided how it goes on
all-come : (delivery : Delivery) (place : ℕ) (places : List ℕ) (replies : List Reply) (commands : List (List ℕ))
    (extensions : Extensions) (answered : List Answered)
    → length replies ≡ length (place ∷ places)
    → after_replies delivery (progress_at commands (rcpt_waits (place ∷ places)) [] extensions answered) replies
    ≡ after_rcpts delivery
    (progress_at commands [] [] extensions (answered ++ answered_rcpts (place ∷ places) replies))
all-come delivery place places [] commands extensions answered e = absurd (omega arith)
all-come delivery place [] (reply ∷ []) commands extensions answered e = refl
all-come delivery place [] (reply ∷ next ∷ more) commands extensions answered e = absurd (omega arith)
all-come delivery place (other ∷ places) (reply ∷ replies) commands extensions answered e =
    let one : Answered = answer_of (Rcpt place) reply in
    all-come delivery other places replies commands extensions (answered ++ one ∷ []) (omega arith)
    ∙ ap (λ (a : List Answered). after_rcpts delivery (progress_at commands [] [] extensions a))
    (append_assoc answered (one ∷ []) (answered_rcpts (other ∷ places) replies))

-- before the last one nothing is written
some-come : (delivery : Delivery) (places : List ℕ) (replies : List Reply) (commands : List (List ℕ))
    (extensions : Extensions) (answered : List Answered)
    → length replies < length places
    → after_replies delivery (progress_at commands (rcpt_waits places) [] extensions answered) replies
    ≡ progress_at commands (rcpt_waits (drop (length replies) places)) [] extensions
    (answered ++ answered_rcpts places replies)
some-come delivery [] replies commands extensions answered lt = absurd (omega (arith, lt))
some-come delivery (place ∷ places) [] commands extensions answered lt =
    ap (λ (a : List Answered). progress_at commands (rcpt_waits (place ∷ places)) [] extensions a)
    (sym (append-nil answered))
some-come delivery (place ∷ []) (reply ∷ replies) commands extensions answered lt = absurd (omega (arith, lt))
some-come delivery (place ∷ other ∷ places) (reply ∷ replies) commands extensions answered lt =
    let one : Answered = answer_of (Rcpt place) reply in
    let left : List ℕ = drop (length replies) (other ∷ places) in
    some-come delivery (other ∷ places) replies commands extensions (answered ++ one ∷ []) (omega (arith, lt))
    ∙ ap (λ (a : List Answered). progress_at commands (rcpt_waits left) [] extensions a)
    (append_assoc answered (one ∷ []) (answered_rcpts (other ∷ places) replies))

-- the reply to MAIL, and those to all RCPTs after it
mail-and-all : (delivery : Delivery) (places : List ℕ) (mail : Reply) (rcpts : List Reply) (commands : List (List ℕ))
    (extensions : Extensions) (answered : List Answered)
    → kind_of mail.code ≡ Completion → length rcpts ≡ length places
    → after_replies delivery (progress_at commands (Mail ∷ rcpt_waits places) [] extensions answered) (mail ∷ rcpts)
    ≡ after_rcpts delivery
    (progress_at commands [] [] extensions ((answered ++ answer_of Mail mail ∷ []) ++ answered_rcpts places rcpts))
mail-and-all delivery [] mail [] commands extensions answered is e =
    let more : List Answered = answered ++ answer_of Mail mail ∷ [] in
    ap (λ (k : ReplyKind). after_answer delivery Mail k mail (progress_at commands [] [] extensions more)) is
    ∙ ap (λ (a : List Answered). after_rcpts delivery (progress_at commands [] [] extensions a)) (sym (append-nil more))
mail-and-all delivery [] mail (reply ∷ rcpts) commands extensions answered is e = absurd (omega (arith, e))
mail-and-all delivery (place ∷ places) mail rcpts commands extensions answered is e =
    let more : List Answered = answered ++ answer_of Mail mail ∷ [] in
    ap (λ (k : ReplyKind). after_replies delivery
    (after_answer delivery Mail k mail (progress_at commands (rcpt_waits (place ∷ places)) [] extensions more)) rcpts) is
    ∙ all-come delivery place places rcpts commands extensions more e

-- the reply to MAIL, and those to some of the RCPTs after it
mail-and-some : (delivery : Delivery) (places : List ℕ) (mail : Reply) (rcpts : List Reply) (commands : List (List ℕ))
    (extensions : Extensions) (answered : List Answered)
    → kind_of mail.code ≡ Completion → length rcpts < length places
    → after_replies delivery (progress_at commands (Mail ∷ rcpt_waits places) [] extensions answered) (mail ∷ rcpts)
    ≡ progress_at commands (rcpt_waits (drop (length rcpts) places)) [] extensions
    ((answered ++ answer_of Mail mail ∷ []) ++ answered_rcpts places rcpts)
mail-and-some delivery [] mail rcpts commands extensions answered is lt = absurd (omega (arith, lt))
mail-and-some delivery (place ∷ places) mail rcpts commands extensions answered is lt =
    let more : List Answered = answered ++ answer_of Mail mail ∷ [] in
    ap (λ (k : ReplyKind). after_replies delivery
    (after_answer delivery Mail k mail (progress_at commands (rcpt_waits (place ∷ places)) [] extensions more)) rcpts) is
    ∙ some-come delivery (place ∷ places) rcpts commands extensions more lt

either-same : (test : Bool) (now : Progress) → cond test now now ≡ now
either-same true now = refl
either-same false now = refl

-- a server that offers CHUNKING takes any text
hello-is : (delivery : Delivery) (now : Progress) → now.extensions ≡ all_extensions
    → after_hello delivery now ≡ with_mail delivery now
hello-is delivery now e =
    ap (λ (x : Extensions). cond (ends_in_line_end delivery.text) (with_mail delivery now)
    (cond x.chunking (with_mail delivery now) (ended_by delivery CantSend now))) e
    ∙ either-same (ends_in_line_end delivery.text) (with_mail delivery now)

-- the greeting and the reply to EHLO bring the group
opening : (delivery : Delivery) (places : List ℕ) (greeting hello mail input : Reply) (rest : List Reply)
    → AreWilling greeting hello mail input
    → after_replies delivery (progress_at [] (Greeting ∷ []) places no_extensions []) (greeting ∷ hello ∷ rest)
    ≡ after_replies delivery
    (progress_at (ehlo_line delivery.host ∷ mail_line true delivery.envelope ∷ rcpt_lines delivery true places)
    (Mail ∷ rcpt_waits places) [] all_extensions (answer_of Greeting greeting ∷ answer_of Ehlo hello ∷ [])) rest
opening delivery places greeting hello mail input rest willing =
    let ehlo : List (List ℕ) = ehlo_line delivery.host ∷ [] in
    let answers : List Answered = answer_of Greeting greeting ∷ answer_of Ehlo hello ∷ [] in
    let greeted : Progress = progress_at [] [] places no_extensions (answer_of Greeting greeting ∷ []) in
    let here : Progress = progress_at ehlo [] places no_extensions answers in
    ap (λ (k : ReplyKind). after_replies delivery (after_answer delivery Greeting k greeting greeted) (hello ∷ rest))
    willing.greets
    ∙ ap (λ (k : ReplyKind). after_replies delivery (after_answer delivery Ehlo k hello here) rest) willing.says_hello
    ∙ ap (λ (x : Extensions). after_replies delivery (after_hello delivery (progress_at ehlo [] places x answers)) rest)
    willing.offers
    ∙ ap (λ (now : Progress). after_replies delivery now rest)
    (hello-is delivery (progress_at ehlo [] places all_extensions answers) refl
    ∙ group-is delivery places (ehlo ++ mail_line true delivery.envelope ∷ []) (Mail ∷ []) all_extensions answers)

-- all up to the content
opened-all : (delivery : Delivery) (places : List ℕ) (greeting hello mail input : Reply) (rcpts : List Reply)
    → AreWilling greeting hello mail input → length rcpts ≡ length places
    → after_replies delivery (progress_at [] (Greeting ∷ []) places no_extensions [])
    (opening_replies greeting hello mail rcpts)
    ≡ after_rcpts delivery
    (progress_at (ehlo_line delivery.host ∷ mail_line true delivery.envelope ∷ rcpt_lines delivery true places) [] []
    all_extensions (opening_answers places greeting hello mail rcpts))
opened-all delivery places greeting hello mail input rcpts willing e =
    opening delivery places greeting hello mail input (mail ∷ rcpts) willing
    ∙ mail-and-all delivery places mail rcpts
    (ehlo_line delivery.host ∷ mail_line true delivery.envelope ∷ rcpt_lines delivery true places) all_extensions
    (answer_of Greeting greeting ∷ answer_of Ehlo hello ∷ []) willing.takes_mail e

pub nothing_before_all_rcpts : NothingBeforeAllRcpts
nothing_before_all_rcpts delivery greeting hello mail input rcpts willing lt =
    opening delivery delivery.places greeting hello mail input (mail ∷ rcpts) willing
    ∙ mail-and-some delivery delivery.places mail rcpts (opening_commands delivery) all_extensions
    (answer_of Greeting greeting ∷ answer_of Ehlo hello ∷ []) willing.takes_mail lt

-- the replies to RCPTs are these
answered_rcpts-replies : (places : List ℕ) (rcpts : List Reply) → length rcpts ≡ length places
    → rcpt_replies (answered_rcpts places rcpts) ≡ rcpts
answered_rcpts-replies [] [] e = refl
answered_rcpts-replies [] (reply ∷ rcpts) e = absurd (omega (arith, e))
answered_rcpts-replies (place ∷ places) [] e = absurd (omega (arith, e))
answered_rcpts-replies (place ∷ places) (reply ∷ rcpts) e =
    ap (λ (l : List Reply). reply ∷ l) (answered_rcpts-replies places rcpts (omega (arith, e)))

-- and those to the content are none
no-rcpts : (some ends : Bool) (input content : Reply)
    → rcpt_replies (cond some (cond ends (answer_of Data input ∷ answer_of Content content ∷ [])
    (answer_of Content content ∷ [])) [])
    ≡ []
no-rcpts true true input content = refl
no-rcpts true false input content = refl
no-rcpts false ends input content = refl

all-rcpts : (delivery : Delivery) (places : List ℕ) (greeting hello mail input content : Reply) (rcpts : List Reply)
    → length rcpts ≡ length places
    → rcpt_replies (opening_answers places greeting hello mail rcpts ++ content_answers delivery rcpts input content) ≡ rcpts
all-rcpts delivery places greeting hello mail input content rcpts e =
    let last : List Answered = content_answers delivery rcpts input content in
    flat_map-append (λ (one : Answered). if_rcpt one.waited one.reply)
    (opening_answers places greeting hello mail rcpts) last
    ∙ ap (λ (l : List Reply). rcpt_replies (answered_rcpts places rcpts) ++ l)
    (no-rcpts (some_accepted rcpts) (ends_in_line_end delivery.text) input content)
    ∙ append-nil (rcpt_replies (answered_rcpts places rcpts)) ∙ answered_rcpts-replies places rcpts e

-- the content and its replies
content-comes : (delivery : Delivery) (input content : Reply) (commands : List (List ℕ)) (answered : List Answered)
    (ends : Bool) → kind_of input.code ≡ Intermediate
    → after_replies delivery
    (cond ends (with_command data_line Data (progress_at commands [] [] all_extensions answered))
    (with_command (last_chunk delivery.text) Content (progress_at commands [] [] all_extensions answered)))
    (cond ends (input ∷ content ∷ []) (content ∷ []))
    ≡ ended_by delivery (content_verdict_by true (kind_of content.code) content)
    (progress_at (commands ++ cond ends (data_line ∷ delivery.dot_text ∷ []) (last_chunk delivery.text ∷ [])) [] []
    all_extensions
    (answered ++ cond ends (answer_of Data input ∷ answer_of Content content ∷ []) (answer_of Content content ∷ [])))
content-comes delivery input content commands answered true is =
    let last : Verdict = content_verdict_by true (kind_of content.code) content in
    let asked : List (List ℕ) = commands ++ data_line ∷ [] in
    let now : Progress = progress_at asked [] [] all_extensions (answered ++ answer_of Data input ∷ []) in
    let more : List Answered = (answered ++ answer_of Data input ∷ []) ++ answer_of Content content ∷ [] in
    ap (λ (k : ReplyKind). after_replies delivery (after_answer delivery Data k input now) (content ∷ [])) is
    ∙ ap (λ (k : List (List ℕ)). ended_by delivery last (progress_at k [] [] all_extensions more))
    (append_assoc commands (data_line ∷ []) (delivery.dot_text ∷ []))
    ∙ ap (λ (a : List Answered).
    ended_by delivery last (progress_at (commands ++ data_line ∷ delivery.dot_text ∷ []) [] [] all_extensions a))
    (append_assoc answered (answer_of Data input ∷ []) (answer_of Content content ∷ []))
content-comes delivery input content commands answered false is = refl

-- after the RCPTs' replies: the content, where one was accepted, and the end
finish : (delivery : Delivery) (input content : Reply) (commands : List (List ℕ)) (answered : List Answered) (some : Bool)
    → kind_of input.code ≡ Intermediate → some_accepted (rcpt_replies answered) ≡ some
    → after_replies delivery (after_rcpts delivery (progress_at commands [] [] all_extensions answered))
    (cond some (cond (ends_in_line_end delivery.text) (input ∷ content ∷ []) (content ∷ [])) [])
    ≡ ended_by delivery (cond some (content_verdict_by true (kind_of content.code) content) Later)
    (progress_at (commands ++ cond some (content_commands delivery) []) [] [] all_extensions
    (answered ++ cond some (cond (ends_in_line_end delivery.text)
    (answer_of Data input ∷ answer_of Content content ∷ []) (answer_of Content content ∷ [])) []))
finish delivery input content commands answered true is e =
    let now : Progress = progress_at commands [] [] all_extensions answered in
    let ends : Bool = ends_in_line_end delivery.text in
    ap (λ (b : Bool). after_replies delivery (cond b (with_content delivery now) (ended_by delivery Later now))
    (cond ends (input ∷ content ∷ []) (content ∷ []))) e
    ∙ content-comes delivery input content commands answered ends is
finish delivery input content commands answered false is e =
    let now : Progress = progress_at commands [] [] all_extensions answered in
    ap (λ (b : Bool). cond b (with_content delivery now) (ended_by delivery Later now)) e
    ∙ ap (λ (k : List (List ℕ)). ended_by delivery Later (progress_at k [] [] all_extensions answered))
    (sym (append-nil commands))
    ∙ ap (λ (a : List Answered). ended_by delivery Later (progress_at (commands ++ []) [] [] all_extensions a))
    (sym (append-nil answered))

-- the end, by its parts
end-is : (delivery : Delivery) (greeting hello mail input content : Reply) (rcpts : List Reply)
    → length rcpts ≡ length delivery.places
    → ended_by delivery (last_verdict rcpts content)
    (progress_at (opening_commands delivery ++ cond (some_accepted rcpts) (content_commands delivery) []) [] []
    all_extensions
    (opening_answers delivery.places greeting hello mail rcpts ++ content_answers delivery rcpts input content))
    ≡ relay_progress delivery greeting hello mail rcpts input content
end-is delivery greeting hello mail input content rcpts e =
    let answers : List Answered =
    opening_answers delivery.places greeting hello mail rcpts ++ content_answers delivery rcpts input content in
    let commands : List (List ℕ) = opening_commands delivery ++ cond (some_accepted rcpts) (content_commands delivery) [] in
    ap (λ (l : List Reply). record (progress_at (commands ++ quit_line ∷ []) [] [] all_extensions answers) {
      verdicts = Some (verdicts_of delivery.places l (last_verdict rcpts content));
    }) (all-rcpts delivery delivery.places greeting hello mail input content rcpts e)

pub commands_to_a_relay : CommandsToARelay
commands_to_a_relay delivery greeting hello mail input content rcpts willing e =
    let front : List Reply = opening_replies greeting hello mail rcpts in
    let answers : List Answered = opening_answers delivery.places greeting hello mail rcpts in
    let some : some_accepted (rcpt_replies answers) ≡ some_accepted rcpts =
    ap some_accepted (answered_rcpts-replies delivery.places rcpts e) in
    after_replies-append delivery (at_greeting delivery) front (content_replies delivery rcpts input content)
    ∙ ap (λ (now : Progress). after_replies delivery now (content_replies delivery rcpts input content))
    (opened-all delivery delivery.places greeting hello mail input rcpts willing e)
    ∙ finish delivery input content (opening_commands delivery) answers (some_accepted rcpts) willing.takes_input some
    ∙ end-is delivery greeting hello mail input content rcpts e

pub all_rcpts_answered : AllRcptsAnswered
all_rcpts_answered delivery greeting hello mail input rcpts willing e =
    let answers : List Answered = opening_answers delivery.places greeting hello mail rcpts in
    ap (λ (now : Progress). now.answered) (opened-all delivery delivery.places greeting hello mail input rcpts willing e)
    ∙ (rcpts-go delivery (progress_at (opening_commands delivery) [] [] all_extensions answers)).0.3
