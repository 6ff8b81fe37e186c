-- What an attempt ends with whose last reply is of the kind 4yz, as that of a server that closes unasked.
use Rattle.std.proofs.Common.{◌≡◌, ◌≢◌, ℕ, ◌==◌, Bool, true, false, cond, List, [], ◌∷◌, ◌++◌, length, Option, None, Some, refl, sym, ap, ◌∙◌, subst, arith}
use Rattle.std.specs.Prelude.{unwrap_or}
use Rattle.std.specs.List.{AllByRecursion}
use Rattle.std.proofs.lemmas.List.{length-append, length-map}
use Rattle.std.proofs.lemmas.Option.{none-some, same_Some}
use Rattle.relay_lines.specs.Reply.{Reply}
use Rattle.relay_body.specs.DotText.{ends_in_line_end}
use Rattle.relay_book.specs.declared.change.Verdict.{Verdict}
use Rattle.relay_book.specs.declared.change.Verdict.TheVariants.{Later, Taken}
use Rattle.relay_course.specs.declared.awaited.Awaited.{Awaited}
use Rattle.relay_course.specs.declared.awaited.Awaited.TheVariants.{Greeting, Ehlo, Helo, Mail, Rcpt, Data, Content}
use Rattle.relay_course.specs.declared.reply_kind.ReplyKind.{ReplyKind}
use Rattle.relay_course.specs.declared.reply_kind.ReplyKind.TheVariants.{Completion, Intermediate, Transient, Permanent}
use Rattle.relay_course.specs.WrittenLine.{data_line, last_chunk}
use Rattle.relay_course.specs.VerdictTable.{kind_of, rcpt_verdict_by, refusal, some_accepted, verdicts_of}
use Rattle.relay_course.specs.Laws.{replies_in}
use Rattle.relay_course.specs.Progress.{Answered, Delivery, Progress, answer_of, after_answer, after_reply, ended_by, progress, rcpt_replies, with_answer, with_command, with_content, with_next}
use Rattle.relay_course.proofs.Theorems.{answered_are_first, end_waits_for_nothing, reply_leads_on}

-- no place is Taken
abbrev pub AreUntaken : List Verdict → Type 0
AreUntaken verdicts = AllByRecursion (λ verdict. (dsn : Bool) → verdict ≢ Taken dsn) verdicts

later_untaken : (dsn : Bool) → Later ≢ Taken dsn
later_untaken dsn = λ e. (cc)

permanent_untaken : (b : Bool) (reply : Reply) (dsn : Bool)
    → unwrap_or (cond b (Some Later) (Some (refusal reply))) Later ≢ Taken dsn
permanent_untaken true reply dsn = later_untaken dsn
permanent_untaken false reply dsn = λ e. (cc)

rcpt_untaken : (kind : ReplyKind) (reply : Reply) (dsn : Bool) → unwrap_or (rcpt_verdict_by kind reply) Later ≢ Taken dsn
rcpt_untaken Completion reply dsn = later_untaken dsn
rcpt_untaken Intermediate reply dsn = later_untaken dsn
rcpt_untaken Transient reply dsn = later_untaken dsn
rcpt_untaken Permanent reply dsn = permanent_untaken (reply.code == 552) reply dsn

untaken_of : (places : List ℕ) (replies : List Reply) → AreUntaken (verdicts_of places replies Later)
untaken_of [] replies = tt
untaken_of (place ∷ places) [] = (λ dsn. later_untaken dsn, untaken_of places [])
untaken_of (place ∷ places) (reply ∷ replies) =
    (λ dsn. rcpt_untaken (kind_of reply.code) reply dsn, untaken_of places replies)

-- where the places that are left are Later, none is Taken
later_ends : (delivery : Delivery) (old : Progress) (verdicts : List Verdict)
    → (ended_by delivery Later old).verdicts ≡ Some verdicts → AreUntaken verdicts
later_ends delivery old verdicts e =
    subst AreUntaken (same_Some (verdicts_of delivery.places (rcpt_replies old.answered) Later) verdicts e)
    (untaken_of delivery.places (rcpt_replies old.answered))

content_begun : (ends : Bool) (one two : List ℕ) (old : Progress)
    → (cond ends (with_command one Data old) (with_command two Content old)).verdicts ≡ old.verdicts
content_begun true one two old = refl
content_begun false one two old = refl

rcpts_end : (delivery : Delivery) (old : Progress) (some : Bool) (verdicts : List Verdict) → old.verdicts ≡ None
    → (cond some (with_content delivery old) (ended_by delivery Later old)).verdicts ≡ Some verdicts → AreUntaken verdicts
rcpts_end delivery old true verdicts none e =
    absurd (none-some verdicts (sym none
    ∙ sym (content_begun (ends_in_line_end delivery.text) data_line (last_chunk delivery.text) old) ∙ e))
rcpts_end delivery old false verdicts none e = later_ends delivery old verdicts e

next_takes : (delivery : Delivery) (waits : List Awaited) (unasked : List ℕ) (old : Progress) (verdicts : List Verdict)
    → old.verdicts ≡ None → (with_next delivery waits unasked old).verdicts ≡ Some verdicts → AreUntaken verdicts
next_takes delivery (waited ∷ waits) unasked old verdicts none e = absurd (none-some verdicts (sym none ∙ e))
next_takes delivery [] (place ∷ more) old verdicts none e = absurd (none-some verdicts (sym none ∙ e))
next_takes delivery [] [] old verdicts none e =
    rcpts_end delivery old (some_accepted (rcpt_replies old.answered)) verdicts none e

-- a reply of the kind 4yz, whatever waited for it
transient_takes : (delivery : Delivery) (waited : Awaited) (reply : Reply) (old : Progress) (verdicts : List Verdict)
    → old.verdicts ≡ None → (after_answer delivery waited Transient reply old).verdicts ≡ Some verdicts
    → AreUntaken verdicts
transient_takes delivery Greeting reply old verdicts none e = later_ends delivery old verdicts e
transient_takes delivery Ehlo reply old verdicts none e = later_ends delivery old verdicts e
transient_takes delivery Helo reply old verdicts none e = later_ends delivery old verdicts e
transient_takes delivery Mail reply old verdicts none e = later_ends delivery old verdicts e
transient_takes delivery (Rcpt place) reply old verdicts none e =
    next_takes delivery old.waits old.unasked old verdicts none e
transient_takes delivery Data reply old verdicts none e = later_ends delivery old verdicts e
transient_takes delivery Content reply old verdicts none e = later_ends delivery old verdicts e

-- where it was the last reply that an attempt read, and answered something, no place is Taken
pub last_takes_none : (delivery : Delivery) (heard : List Reply) (reply : Reply) (verdicts : List Verdict)
    → kind_of reply.code ≡ Transient
    → length (progress delivery (heard ++ reply ∷ [])).answered ≡ length (heard ++ reply ∷ [])
    → (progress delivery (heard ++ reply ∷ [])).verdicts ≡ Some verdicts → AreUntaken verdicts
last_takes_none delivery heard reply verdicts kind each ended =
    by (progress delivery heard).waits refl (progress delivery heard).verdicts refl
  where
    same : progress delivery (heard ++ reply ∷ []) ≡ after_reply delivery (progress delivery heard) reply
    same = reply_leads_on delivery heard reply

    by : (waits : List Awaited) → (progress delivery heard).waits ≡ waits → (were : Option (List Verdict))
        → (progress delivery heard).verdicts ≡ were → AreUntaken verdicts
    by [] e were v =
        let old : Progress = progress delivery heard in
        let first = answered_are_first delivery heard in
        let count : length (progress delivery (heard ++ reply ∷ [])).answered ≡ length old.answered =
        ap (λ (now : Progress). length now.answered) same
        ∙ ap (λ w. length (with_answer delivery w reply old).answered) e in
        let few = ap length first.1 ∙ length-append (replies_in old.answered) first.0 in
        let many = length-map old.answered (λ (one : Answered). one.reply) in
        let all = length-append heard (reply ∷ []) in
        absurd (omega (arith, count, few, many, all, each))
    by (waited ∷ waits) e (Some all) v =
        let none = ap length (sym e ∙ end_waits_for_nothing delivery heard all v) in
        absurd (omega (arith, none))
    by (waited ∷ waits) e None v =
        let old : Progress = progress delivery heard in
        let now : Progress = record old { waits = waits; answered = old.answered ++ answer_of waited reply ∷ [] } in
        transient_takes delivery waited reply now verdicts v
        (ap (λ k. (after_answer delivery waited k reply now).verdicts) (sym kind)
        ∙ ap (λ w. (with_answer delivery w reply old).verdicts) (sym e)
        ∙ ap (λ (p : Progress). p.verdicts) (sym same) ∙ ended)
