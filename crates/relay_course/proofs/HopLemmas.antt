-- The verdicts of a course are a hop's: none says that there was no hop, or is the postmaster's.
use Rattle.std.proofs.Common.{◌≡◌, ◌⊎◌, inl, inr, ℕ, Bool, true, false, ◌==◌, List, [], ◌∷◌, Some, refl, sym, subst, if◌then◌else◌}
use Rattle.std.specs.Prelude.{unwrap_or}
use Rattle.std.specs.List.{AllByRecursion}
use Rattle.relay_lines.specs.Reply.{Reply}
use Rattle.relay_book.specs.declared.change.Verdict.{Verdict}
use Rattle.relay_book.specs.declared.change.Verdict.TheVariants.{Later}
use Rattle.relay_book.specs.Queue.{is_without_hop}
use Rattle.relay_course.specs.declared.reply_kind.ReplyKind.{ReplyKind}
use Rattle.relay_course.specs.declared.reply_kind.ReplyKind.TheVariants.{Completion, Intermediate, Transient, Permanent}
use Rattle.relay_course.specs.VerdictTable.{all_later, content_verdict_by, kind_of, rcpt_verdict_by, refusal, verdicts_of}
use Rattle.relay_course.specs.Progress.{Delivery, Progress, rcpt_replies, progress}
use Rattle.relay_course.specs.Course.{delivery_of}
use Rattle.relay_course.specs.Laws.{VerdictsAreOfAHop}
use Rattle.relay_course.proofs.EndLemmas.{concluded}
use Rattle.relay_course.proofs.OrderLemmas.{EndedBefore, EndedByContent, ended-over}

abbrev pub IsOfAHop : Verdict → Type 0
IsOfAHop verdict = is_without_hop verdict ≡ false

abbrev pub AreOfAHop : List Verdict → Type 0
AreOfAHop verdicts = AllByRecursion (λ verdict. is_without_hop verdict ≡ false) verdicts

rcpt-of-a-hop : (kind : ReplyKind) (reply : Reply) (last : Verdict) → IsOfAHop last
    → IsOfAHop (unwrap_or (rcpt_verdict_by kind reply) last)
rcpt-of-a-hop Completion reply last is = is
rcpt-of-a-hop Intermediate reply last is = refl
rcpt-of-a-hop Transient reply last is = refl
rcpt-of-a-hop Permanent reply last is = by (reply.code == 552)
  where
    by : (test : Bool) → IsOfAHop (unwrap_or (if test then Some Later else Some (refusal reply)) last)
    by true = refl
    by false = refl

all-of-a-hop : (places : List ℕ) (replies : List Reply) (last : Verdict) → IsOfAHop last
    → AreOfAHop (verdicts_of places replies last)
all-of-a-hop [] replies last is = tt
all-of-a-hop (place ∷ places) [] last is = (is, all-of-a-hop places [] last is)
all-of-a-hop (place ∷ places) (reply ∷ replies) last is =
    (rcpt-of-a-hop (kind_of reply.code) reply last is, all-of-a-hop places replies last is)

later-of-a-hop : (places : List ℕ) → AreOfAHop (all_later places)
later-of-a-hop [] = tt
later-of-a-hop (place ∷ places) = (refl, later-of-a-hop places)

content-of-a-hop : (dsn : Bool) (kind : ReplyKind) (reply : Reply) → IsOfAHop (content_verdict_by dsn kind reply)
content-of-a-hop dsn Completion reply = refl
content-of-a-hop dsn Intermediate reply = refl
content-of-a-hop dsn Transient reply = refl
content-of-a-hop dsn Permanent reply = refl

last-of-a-hop : (delivery : Delivery) (end : Progress) (last : Verdict)
    → EndedByContent delivery end last ⊎ EndedBefore end last → IsOfAHop last
last-of-a-hop delivery end last (inl (content, contents, tells, places)) =
    subst IsOfAHop (sym tells) (content-of-a-hop end.extensions.dsn (kind_of content.code) content)
last-of-a-hop delivery end last (inr (none, inl later)) = subst IsOfAHop (sym later) refl
last-of-a-hop delivery end last (inr (none, inr (inl cant))) = subst IsOfAHop (sym cant) refl
last-of-a-hop delivery end last (inr (none, inr (inr (reply, has, refused)))) = subst IsOfAHop (sym refused) refl

either-of-a-hop : (delivery : Delivery) (replies : List Reply) (all : List Verdict)
    → ((progress delivery replies).verdicts ≡ Some all) ⊎ (all ≡ all_later delivery.places) → AreOfAHop all
either-of-a-hop delivery replies all (inl e) =
    let end : Progress = progress delivery replies in
    let over = ended-over delivery replies all e in
    subst (λ (l : List Verdict). AreOfAHop l) (sym over.2.1)
    (all-of-a-hop delivery.places (rcpt_replies end.answered) over.2.0 (last-of-a-hop delivery end over.2.0 over.2.2))
either-of-a-hop delivery replies all (inr e) =
    subst (λ (l : List Verdict). AreOfAHop l) (sym e) (later-of-a-hop delivery.places)

pub verdicts_are_of_a_hop : VerdictsAreOfAHop
verdicts_are_of_a_hop host envelope text places input told output verdicts is =
    let runs = is.runs in
    let delivery : Delivery = delivery_of host envelope text is.dot_text places in
    either-of-a-hop delivery runs.replies verdicts
    (concluded places told runs.rest (progress delivery runs.replies).verdicts verdicts runs.concludes)
