-- What replies have answered, and what the verdicts of a course are.
use Rattle.std.proofs.Common.{◌≡◌, ◌⊎◌, inl, inr, ◌≤◌, ℕ, zero, suc, Bool, true, false, ◌==◌, List, [], ◌∷◌, ◌++◌, length, take, Option, Some, None, refl, sym, ap, ◌∙◌, subst, cond, arith}
use Rattle.std.specs.Prelude.{unwrap_or}
use Rattle.std.specs.List.{AllByRecursion, Contains}
use Rattle.std.proofs.lemmas.List.{append_assoc, append-nil, length-map, length-take, map-append}
use Rattle.relay_octets.specs.Beginning.{Begins}
use Rattle.relay_lines.specs.Reply.{Reply, IsReply, last_text}
use Rattle.relay_lines.specs.ReplyReading.{CutsReplies}
use Rattle.relay_lines.specs.Word.{shown}
use Rattle.relay_lines.proofs.Theorems.{shown_is_printable}
use Rattle.relay_book.specs.declared.change.Verdict.{Verdict}
use Rattle.relay_book.specs.declared.change.Verdict.TheVariants.{Later}
use Rattle.relay_book.specs.Record.{IsVerdict}
use Rattle.relay_course.specs.declared.awaited.Awaited.{Awaited}
use Rattle.relay_course.specs.declared.awaited.Awaited.TheVariants.{Greeting, Ehlo, Helo, Mail, Rcpt, Data, Content}
use Rattle.relay_course.specs.declared.reply_kind.ReplyKind.{ReplyKind}
use Rattle.relay_course.specs.declared.reply_kind.ReplyKind.TheVariants.{Completion, Intermediate, Transient, Permanent}
use Rattle.relay_course.specs.VerdictTable.{all_later, content_verdict_by, kind_of, rcpt_verdict_by, refusal, verdicts_of}
use Rattle.relay_course.specs.Progress.{Delivery, Answered, Progress, answer_of, rcpt_replies, at_greeting, with_answer, after_reply, after_replies, progress}
use Rattle.relay_course.specs.Course.{Concludes, delivery_of}
use Rattle.relay_course.specs.Laws.{AnsweredAreFirst, AnswersStay, CommandsKeepUp, CourseMayBeLost, RcptsAreInOrder, VerdictForEachPlace, VerdictsMayBeStored, rcpt_places, replies_in}
use Rattle.relay_course.proofs.GoingLemmas.{answer-goes, answered_by, after_replies-append, each_command_waits, end_is_end, stays}
use Rattle.relay_course.proofs.OrderLemmas.{EndedBefore, EndedByContent, StandsBy, content_replies_in, ended-over, end_waits_for_nothing, progress-stands, waiting_places}

keep-up-by : (delivery : Delivery) (replies more : List Reply) (verdicts : Option (List Verdict))
    → (progress delivery replies).verdicts ≡ verdicts
    → (length replies ≤ length (progress delivery replies).commands)
    ⊎ ((progress delivery (replies ++ more)).commands ≡ (progress delivery replies).commands)
keep-up-by delivery replies more None e =
    let waits = each_command_waits delivery replies e in inl (omega (arith, waits.0, waits.1))
keep-up-by delivery replies more (Some all) e =
    inr (ap (λ (end : Progress). end.commands)
    (end_is_end delivery replies more (end_waits_for_nothing delivery replies all e)))

pub commands_keep_up : CommandsKeepUp
commands_keep_up delivery replies more = keep-up-by delivery replies more (progress delivery replies).verdicts refl

-- of these replies a first part is answered, after what was answered before
abbrev AnswersSome : Progress → Progress → List Reply → Type 0
AnswersSome old new replies =
    (front : List Reply) × (rest : List Reply) × (replies ≡ front ++ rest)
    × (replies_in new.answered ≡ replies_in old.answered ++ front)

one-answered : (delivery : Delivery) (waited : Awaited) (waits : List Awaited) (reply : Reply) (now : Progress)
    → replies_in (with_answer delivery (waited ∷ waits) reply now).answered ≡ replies_in now.answered ++ reply ∷ []
one-answered delivery waited waits reply now =
    ap (λ l. replies_in l) (answer-goes delivery waited (kind_of reply.code) reply (answered_by waited waits reply now)).0.3
    ∙ map-append (λ (one : Answered). one.reply) now.answered (answer_of waited reply ∷ [])

-- one reply and those after it
answered-first : (delivery : Delivery) (now : Progress) (reply : Reply) (replies : List Reply) (waits : List Awaited)
    → now.waits ≡ waits
    → ((mid : Progress) → AnswersSome mid (after_replies delivery mid replies) replies)
    → AnswersSome now (after_replies delivery now (reply ∷ replies)) (reply ∷ replies)
answered-first delivery now reply replies [] e more = (
  [],
  reply ∷ replies,
  refl,
  ap (λ (end : Progress). replies_in end.answered) (stays delivery now (reply ∷ replies) e)
      ∙ sym (append-nil (replies_in now.answered)),
)
answered-first delivery now reply replies (waited ∷ waits) e more =
    let mid : Progress = after_reply delivery now reply in
    let after = more mid in
    let one : replies_in mid.answered ≡ replies_in now.answered ++ reply ∷ [] =
    ap (λ (w : List Awaited). replies_in (with_answer delivery w reply now).answered) e
    ∙ one-answered delivery waited waits reply now in (
      reply ∷ after.0,
      after.1,
      ap (λ (l : List Reply). reply ∷ l) after.2,
      after.3 ∙ ap (λ (l : List Reply). l ++ after.0) one ∙ append_assoc (replies_in now.answered) (reply ∷ []) after.0,
    )

along-answered : (delivery : Delivery) (now : Progress) (replies : List Reply)
    → AnswersSome now (after_replies delivery now replies) replies
along-answered delivery now [] = ([], [], refl, sym (append-nil (replies_in now.answered)))
along-answered delivery now (reply ∷ replies) =
    answered-first delivery now reply replies now.waits refl (λ mid. along-answered delivery mid replies)

pub answered_are_first : AnsweredAreFirst
answered_are_first delivery replies =
    let some = along-answered delivery (at_greeting delivery) replies in
    (some.1, some.2 ∙ ap (λ (l : List Reply). l ++ some.1) (sym some.3))

-- what was answered before is still there
answered-kept : (delivery : Delivery) (now : Progress) (reply : Reply) (replies : List Reply) (waits : List Awaited)
    → now.waits ≡ waits
    → ((mid : Progress) → Begins mid.answered (after_replies delivery mid replies).answered)
    → Begins now.answered (after_replies delivery now (reply ∷ replies)).answered
answered-kept delivery now reply replies [] e more =
    subst (λ (end : Progress). Begins now.answered end.answered) (sym (stays delivery now (reply ∷ replies) e))
    ([], sym (append-nil now.answered))
answered-kept delivery now reply replies (waited ∷ waits) e more =
    let mid : Progress = after_reply delivery now reply in
    let one : List Answered = answer_of waited reply ∷ [] in
    let after = more mid in
    let is : mid.answered ≡ now.answered ++ one =
    ap (λ (w : List Awaited). (with_answer delivery w reply now).answered) e
    ∙ (answer-goes delivery waited (kind_of reply.code) reply (answered_by waited waits reply now)).0.3 in (
      one ++ after.0,
      after.1 ∙ ap (λ (l : List Answered). l ++ after.0) is ∙ append_assoc now.answered one after.0,
    )

along-kept : (delivery : Delivery) (now : Progress) (replies : List Reply)
    → Begins now.answered (after_replies delivery now replies).answered
along-kept delivery now [] = ([], sym (append-nil now.answered))
along-kept delivery now (reply ∷ replies) =
    answered-kept delivery now reply replies now.waits refl (λ mid. along-kept delivery mid replies)

pub answers_stay : AnswersStay
answers_stay delivery replies more =
    let here : Progress = progress delivery replies in
    subst (λ (end : Progress). Begins here.answered end.answered)
    (sym (after_replies-append delivery (at_greeting delivery) replies more)) (along-kept delivery here more)

in-order-by : (delivery : Delivery) (now : Progress) (verdicts : Option (List Verdict)) → StandsBy delivery now verdicts
    → Begins (rcpt_places now.answered) delivery.places
in-order-by delivery now None stands = (waiting_places now.waits ++ now.unasked, sym stands.0)
in-order-by delivery now (Some all) stands = stands.1

pub rcpts_are_in_order : RcptsAreInOrder
rcpts_are_in_order delivery replies =
    in-order-by delivery (progress delivery replies) (progress delivery replies).verdicts (progress-stands delivery replies)

verdicts_of-length : (places : List ℕ) (replies : List Reply) (last : Verdict)
    → length (verdicts_of places replies last) ≡ length places
verdicts_of-length [] replies last = refl
verdicts_of-length (place ∷ places) [] last = ap suc (verdicts_of-length places [] last)
verdicts_of-length (place ∷ places) (reply ∷ replies) last = ap suc (verdicts_of-length places replies last)

-- verdicts come of the replies, or of a loss
pub concluded : (places : List ℕ) (told : Bool) (rest : List ℕ) (ended : Option (List Verdict)) (all : List Verdict)
    → Concludes places told rest ended (Some all) → (ended ≡ Some all) ⊎ (all ≡ all_later places)
concluded places told rest (Some other) all so = let same = so.2 in inl (sym same)
concluded places told rest None all (inl so) = let none = so.2 in absurd (cc)
concluded places told rest None all (inr (inl so)) = let same = so.2 in inr (cc)
concluded places told rest None all (inr (inr so)) = let same = so.2 in inr (cc)

either-length : (delivery : Delivery) (replies : List Reply) (all : List Verdict)
    → ((progress delivery replies).verdicts ≡ Some all) ⊎ (all ≡ all_later delivery.places)
    → length all ≡ length delivery.places
either-length delivery replies all (inl e) =
    let over = ended-over delivery replies all e in
    ap length over.2.1 ∙ verdicts_of-length delivery.places (rcpt_replies (progress delivery replies).answered) over.2.0
either-length delivery replies all (inr e) = ap length e ∙ length-map delivery.places (λ place. Later)

pub verdict_for_each_place : VerdictForEachPlace
verdict_for_each_place host envelope text places input told output verdicts is =
    let runs = is.runs in
    either-length (delivery_of host envelope text is.dot_text places) runs.replies verdicts
    (concluded places told runs.rest
    (progress (delivery_of host envelope text is.dot_text places) runs.replies).verdicts verdicts runs.concludes)

refusal-stored : (reply : Reply) → IsReply reply → IsVerdict (refusal reply)
refusal-stored reply is =
    let front : List ℕ = take 200 (last_text reply.lines) in
    record {
      low = is.code_is.low;
      high = is.code_is.high;
      printable = shown_is_printable front;
      text_fits = omega (arith, length-map front shown, length-take 200 (last_text reply.lines));
    }

rcpt-left-stored : (test : Bool) (reply : Reply) (last : Verdict) → IsReply reply
    → IsVerdict (unwrap_or (cond test (Some Later) (Some (refusal reply))) last)
rcpt-left-stored true reply last is = tt
rcpt-left-stored false reply last is = refusal-stored reply is

rcpt-stored : (kind : ReplyKind) (reply : Reply) (last : Verdict) → IsReply reply → IsVerdict last
    → IsVerdict (unwrap_or (rcpt_verdict_by kind reply) last)
rcpt-stored Completion reply last is left = left
rcpt-stored Intermediate reply last is left = tt
rcpt-stored Transient reply last is left = tt
rcpt-stored Permanent reply last is left = rcpt-left-stored (reply.code == 552) reply last is

content-stored : (dsn : Bool) (kind : ReplyKind) (reply : Reply) → IsReply reply
    → IsVerdict (content_verdict_by dsn kind reply)
content-stored dsn Completion reply is = tt
content-stored dsn Intermediate reply is = tt
content-stored dsn Transient reply is = tt
content-stored dsn Permanent reply is = refusal-stored reply is

-- each reply is well formed
abbrev AreReplies : List Reply → Type 0
AreReplies replies = AllByRecursion IsReply replies

all-stored : (places : List ℕ) (replies : List Reply) (last : Verdict) → AreReplies replies → IsVerdict last
    → AllByRecursion IsVerdict (verdicts_of places replies last)
all-stored [] replies last are is = tt
all-stored (place ∷ places) [] last are is = (is, all-stored places [] last tt is)
all-stored (place ∷ places) (reply ∷ replies) last are is =
    (rcpt-stored (kind_of reply.code) reply last are.0 is, all-stored places replies last are.1 is)

later-stored : (places : List ℕ) → AllByRecursion IsVerdict (all_later places)
later-stored [] = tt
later-stored (place ∷ places) = (tt, later-stored places)

front-are : (front rest : List Reply) → AreReplies (front ++ rest) → AreReplies front
front-are [] rest are = tt
front-are (reply ∷ front) rest are = (are.0, front-are front rest are.1)

cut-are : (octets : List ℕ) (replies : List Reply) (rest : List ℕ) → CutsReplies octets replies rest
    → AreReplies replies
cut-are octets [] rest cut = tt
cut-are octets (reply ∷ replies) rest cut = (cut.2.is_reply, cut-are cut.1 replies rest cut.4)

rcpts-are-more : (waited : Awaited) (reply : Reply) (answered : List Answered) → IsReply reply
    → AreReplies (rcpt_replies answered) → AreReplies (rcpt_replies (answer_of waited reply ∷ answered))
rcpts-are-more Greeting reply answered is are = are
rcpts-are-more Ehlo reply answered is are = are
rcpts-are-more Helo reply answered is are = are
rcpts-are-more Mail reply answered is are = are
rcpts-are-more (Rcpt place) reply answered is are = (is, are)
rcpts-are-more Data reply answered is are = are
rcpts-are-more Content reply answered is are = are

rcpts-are : (answered : List Answered) → AreReplies (replies_in answered) → AreReplies (rcpt_replies answered)
rcpts-are [] are = tt
rcpts-are (one ∷ answered) are =
    rcpts-are-more one.waited one.reply answered are.0 (rcpts-are answered are.1)

contents-are-more : (waited : Awaited) (reply : Reply) (answered : List Answered) → IsReply reply
    → AreReplies (content_replies_in answered) → AreReplies (content_replies_in (answer_of waited reply ∷ answered))
contents-are-more Greeting reply answered is are = are
contents-are-more Ehlo reply answered is are = are
contents-are-more Helo reply answered is are = are
contents-are-more Mail reply answered is are = are
contents-are-more (Rcpt place) reply answered is are = are
contents-are-more Data reply answered is are = are
contents-are-more Content reply answered is are = (is, are)

contents-are : (answered : List Answered) → AreReplies (replies_in answered)
    → AreReplies (content_replies_in answered)
contents-are [] are = tt
contents-are (one ∷ answered) are =
    contents-are-more one.waited one.reply answered are.0 (contents-are answered are.1)

contained-is : (replies : List Reply) (reply : Reply) → AreReplies replies → Contains replies reply → IsReply reply
contained-is [] reply are has = absurd (omega (arith, has.1))
contained-is (first ∷ replies) reply are (zero, lt, e) = subst (λ (r : Reply). IsReply r) e are.0
contained-is (first ∷ replies) reply are (suc k, lt, e) = contained-is replies reply are.1 (k, omega (arith, lt), e)

last-stored : (delivery : Delivery) (end : Progress) (last : Verdict) → AreReplies (replies_in end.answered)
    → EndedByContent delivery end last ⊎ EndedBefore end last → IsVerdict last
last-stored delivery end last are (inl (content, contents, tells, places)) =
    let is = subst (λ (l : List Reply). AreReplies l) contents (contents-are end.answered are) in
    subst (λ (v : Verdict). IsVerdict v) (sym tells)
    (content-stored end.extensions.dsn (kind_of content.code) content is.0)
last-stored delivery end last are (inr (none, inl later)) = subst (λ (v : Verdict). IsVerdict v) (sym later) tt
last-stored delivery end last are (inr (none, inr (inl cant))) = subst (λ (v : Verdict). IsVerdict v) (sym cant) tt
last-stored delivery end last are (inr (none, inr (inr (reply, has, refused)))) =
    subst (λ (v : Verdict). IsVerdict v) (sym refused)
    (refusal-stored reply (contained-is (replies_in end.answered) reply are has))

either-stored : (delivery : Delivery) (replies : List Reply) (all : List Verdict) → AreReplies replies
    → ((progress delivery replies).verdicts ≡ Some all) ⊎ (all ≡ all_later delivery.places)
    → AllByRecursion IsVerdict all
either-stored delivery replies all are (inl e) =
    let end : Progress = progress delivery replies in
    let over = ended-over delivery replies all e in
    let first = answered_are_first delivery replies in
    let answered = front-are (replies_in end.answered) first.0
    (subst (λ (l : List Reply). AreReplies l) first.1 are) in
    subst (λ (l : List Verdict). AllByRecursion IsVerdict l) (sym over.2.1)
    (all-stored delivery.places (rcpt_replies end.answered) over.2.0 (rcpts-are end.answered answered)
    (last-stored delivery end over.2.0 answered over.2.2))
either-stored delivery replies all are (inr e) =
    subst (λ (l : List Verdict). AllByRecursion IsVerdict l) (sym e) (later-stored delivery.places)

pub verdicts_may_be_stored : VerdictsMayBeStored
verdicts_may_be_stored host envelope text places input told output verdicts is =
    let runs = is.runs in
    let delivery : Delivery = delivery_of host envelope text is.dot_text places in
    either-stored delivery runs.replies verdicts (cut-are input runs.replies runs.rest runs.cut)
    (concluded places told runs.rest (progress delivery runs.replies).verdicts verdicts runs.concludes)

lost-by : (places : List ℕ) (rest : List ℕ) (ended : Option (List Verdict)) → Concludes places false rest ended None
    → Concludes places true rest ended (Some (all_later places))
lost-by places rest (Some all) so = let none = so.2 in absurd (cc)
lost-by places rest None (inl so) = inr (inl (refl, so.1, refl))
lost-by places rest None (inr (inl so)) = let none = so.2 in absurd (cc)
lost-by places rest None (inr (inr so)) = let none = so.2 in absurd (cc)

pub course_may_be_lost : CourseMayBeLost
course_may_be_lost host envelope text places input output is =
    let runs = is.runs in
    let delivery : Delivery = delivery_of host envelope text is.dot_text places in
    record {
      dot_text = is.dot_text;
      sent = is.sent;
      runs = record {
        replies = runs.replies;
        rest = runs.rest;
        cut = runs.cut;
        each = runs.each;
        written = runs.written;
        concludes = lost-by places runs.rest (progress delivery runs.replies).verdicts runs.concludes;
      };
    }
