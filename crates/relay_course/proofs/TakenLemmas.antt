-- Whose verdict is Taken.
use Rattle.std.proofs.Common.{◌≡◌, ◌⊎◌, inl, inr, ℕ, zero, suc, Bool, true, false, ◌==◌, List, [], ◌∷◌, Option, Some, refl, sym, ap, ◌∙◌, subst, cond, arith}
use Rattle.std.specs.Prelude.{option_map, slice_get, unwrap_or}
use Rattle.std.specs.List.{Contains}
use Rattle.std.proofs.lemmas.List.Elements.{Contains-append_cases, Contains-append_left, Contains-append_right}
use Rattle.relay_lines.specs.Reply.{Reply}
use Rattle.relay_book.specs.declared.change.Verdict.{Verdict}
use Rattle.relay_book.specs.declared.change.Verdict.TheVariants.{Taken, Later}
use Rattle.relay_course.specs.declared.awaited.Awaited.{Awaited}
use Rattle.relay_course.specs.declared.awaited.Awaited.TheVariants.{Greeting, Ehlo, Helo, Mail, Rcpt, Data, Content}
use Rattle.relay_course.specs.declared.reply_kind.ReplyKind.{ReplyKind}
use Rattle.relay_course.specs.declared.reply_kind.ReplyKind.TheVariants.{Completion, Intermediate, Transient, Permanent}
use Rattle.relay_course.specs.VerdictTable.{content_verdict_by, kind_of, rcpt_verdict, rcpt_verdict_by, refusal, verdicts_of}
use Rattle.relay_course.specs.Progress.{Delivery, Answered, Progress, answer_of, rcpt_replies, progress}
use Rattle.relay_course.specs.Laws.{TakenWhereAnswered, WasTaken, rcpt_places, rcpts_in}
use Rattle.relay_course.proofs.OrderLemmas.{EndedBefore, IsOver, content_replies_in, ended-over}

refused-taken : (test : Bool) (reply : Reply) (last : Verdict) (dsn : Bool)
    → unwrap_or (cond test (Some Later) (Some (refusal reply))) last ≡ Taken dsn → ⊥
refused-taken true reply last dsn e = cc
refused-taken false reply last dsn e = cc

-- a RCPT's reply takes a place only where it accepts it and the last verdict takes it
taken-rcpt : (kind : ReplyKind) (reply : Reply) (last : Verdict) (dsn : Bool)
    → unwrap_or (rcpt_verdict_by kind reply) last ≡ Taken dsn → (last ≡ Taken dsn) × (kind ≡ Completion)
taken-rcpt Completion reply last dsn e = (e, refl)
taken-rcpt Intermediate reply last dsn e = absurd (cc)
taken-rcpt Transient reply last dsn e = absurd (cc)
taken-rcpt Permanent reply last dsn e = absurd (refused-taken (reply.code == 552) reply last dsn e)

-- and gives an accepted place the last verdict
pub accepted-rcpt : (kind : ReplyKind) (reply : Reply) (last : Verdict) → kind ≡ Completion
    → unwrap_or (rcpt_verdict_by kind reply) last ≡ last
accepted-rcpt Completion reply last e = refl
accepted-rcpt Intermediate reply last e = absurd (cc)
accepted-rcpt Transient reply last e = absurd (cc)
accepted-rcpt Permanent reply last e = absurd (cc)

-- the content's reply takes only where it is 2yz, and tells what was offered
taken-content : (offered : Bool) (kind : ReplyKind) (reply : Reply) (dsn : Bool)
    → content_verdict_by offered kind reply ≡ Taken dsn → (kind ≡ Completion) × (dsn ≡ offered)
taken-content offered Completion reply dsn e = (refl, cc)
taken-content offered Intermediate reply dsn e = absurd (cc)
taken-content offered Transient reply dsn e = absurd (cc)
taken-content offered Permanent reply dsn e = absurd (cc)

accepted-content : (offered : Bool) (kind : ReplyKind) (reply : Reply) → kind ≡ Completion
    → content_verdict_by offered kind reply ≡ Taken offered
accepted-content offered Completion reply e = refl
accepted-content offered Intermediate reply e = absurd (cc)
accepted-content offered Transient reply e = absurd (cc)
accepted-content offered Permanent reply e = absurd (cc)

-- where the last verdict takes nothing, nothing is Taken
none-taken : (places : List ℕ) (replies : List Reply) (last : Verdict) (index : ℕ) (dsn : Bool)
    → (last ≡ Taken dsn → ⊥) → slice_get (verdicts_of places replies last) index ≡ Some (Taken dsn) → ⊥
none-taken [] replies last index dsn other e = cc
none-taken (place ∷ places) [] last zero dsn other e = other (cc)
none-taken (place ∷ places) [] last (suc index) dsn other e = none-taken places [] last index dsn other e
none-taken (place ∷ places) (reply ∷ replies) last zero dsn other e =
    let same : unwrap_or (rcpt_verdict reply) last ≡ Taken dsn = cc in
    other (taken-rcpt (kind_of reply.code) reply last dsn same).0
none-taken (place ∷ places) (reply ∷ replies) last (suc index) dsn other e =
    none-taken places replies last index dsn other e

-- the verdict that a RCPT leaves
abbrev pub verdict_left : Verdict → Answered → Verdict
verdict_left last one = unwrap_or (rcpt_verdict one.reply) last

-- the verdicts of places whose RCPTs are answered, one after another
abbrev pub VerdictAt : Verdict → List Answered → ℕ → Type 0
VerdictAt last answered index =
    slice_get (verdicts_of (rcpt_places answered) (rcpt_replies answered) last) index
    ≡ option_map (verdict_left last) (slice_get (rcpts_in answered) index)

verdict-at-more : (last : Verdict) (waited : Awaited) (reply : Reply) (answered : List Answered)
    → ((index : ℕ) → VerdictAt last answered index) → (index : ℕ) → VerdictAt last (answer_of waited reply ∷ answered) index
verdict-at-more last Greeting reply answered more index = more index
verdict-at-more last Ehlo reply answered more index = more index
verdict-at-more last Helo reply answered more index = more index
verdict-at-more last Mail reply answered more index = more index
verdict-at-more last (Rcpt place) reply answered more zero = refl
verdict-at-more last (Rcpt place) reply answered more (suc index) = more index
verdict-at-more last Data reply answered more index = more index
verdict-at-more last Content reply answered more index = more index

pub verdict-at : (last : Verdict) (answered : List Answered) (index : ℕ) → VerdictAt last answered index
verdict-at last [] index = refl
verdict-at last (one ∷ answered) index =
    verdict-at-more last one.waited one.reply answered (λ i. verdict-at last answered i) index

-- the RCPT of a place that was answered
abbrev pub HasRcptAt : List Answered → ℕ → ℕ → Type 0
HasRcptAt answered index place =
    slice_get (rcpt_places answered) index ≡ Some place
    → (reply : Reply) × (slice_get (rcpts_in answered) index ≡ Some (answer_of (Rcpt place) reply))

rcpt-at-more : (place : ℕ) (waited : Awaited) (reply : Reply) (answered : List Answered)
    → ((index : ℕ) → HasRcptAt answered index place) → (index : ℕ) → HasRcptAt (answer_of waited reply ∷ answered) index place
rcpt-at-more place Greeting reply answered more index e = more index e
rcpt-at-more place Ehlo reply answered more index e = more index e
rcpt-at-more place Helo reply answered more index e = more index e
rcpt-at-more place Mail reply answered more index e = more index e
rcpt-at-more place (Rcpt other) reply answered more zero e =
    let same : other ≡ place = cc in (reply, ap (λ p. Some (answer_of (Rcpt p) reply)) same)
rcpt-at-more place (Rcpt other) reply answered more (suc index) e = more index e
rcpt-at-more place Data reply answered more index e = more index e
rcpt-at-more place Content reply answered more index e = more index e

pub rcpt-at : (place : ℕ) (answered : List Answered) (index : ℕ) → HasRcptAt answered index place
rcpt-at place [] index e = absurd (cc)
rcpt-at place (one ∷ answered) index e =
    rcpt-at-more place one.waited one.reply answered (λ i. rcpt-at place answered i) index e

-- an answer to the content is one of those
content-in-more : (waited : Awaited) (reply content : Reply) (rest : List Reply) (answered : List Answered)
    → ((r : List Reply) → content_replies_in answered ≡ content ∷ r → Contains answered (answer_of Content content))
    → content_replies_in (answer_of waited reply ∷ answered) ≡ content ∷ rest
    → Contains (answer_of waited reply ∷ answered) (answer_of Content content)
content-in-more Content reply content rest answered more e =
    let same : content ≡ reply = cc in
    subst (λ (r : Reply). Contains (answer_of Content reply ∷ answered) (answer_of Content r)) (sym same)
    (0, omega arith, refl)
content-in-more Greeting reply content rest answered more e =
    Contains-append_right (answer_of Greeting reply ∷ []) answered (answer_of Content content) (more rest e)
content-in-more Ehlo reply content rest answered more e =
    Contains-append_right (answer_of Ehlo reply ∷ []) answered (answer_of Content content) (more rest e)
content-in-more Helo reply content rest answered more e =
    Contains-append_right (answer_of Helo reply ∷ []) answered (answer_of Content content) (more rest e)
content-in-more Mail reply content rest answered more e =
    Contains-append_right (answer_of Mail reply ∷ []) answered (answer_of Content content) (more rest e)
content-in-more (Rcpt place) reply content rest answered more e =
    Contains-append_right (answer_of (Rcpt place) reply ∷ []) answered (answer_of Content content) (more rest e)
content-in-more Data reply content rest answered more e =
    Contains-append_right (answer_of Data reply ∷ []) answered (answer_of Content content) (more rest e)

content-in : (answered : List Answered) (content : Reply) (rest : List Reply)
    → content_replies_in answered ≡ content ∷ rest → Contains answered (answer_of Content content)
content-in [] content rest e = absurd (cc)
content-in (one ∷ answered) content rest e =
    content-in-more one.waited one.reply content rest answered (λ r h. content-in answered content r h) e

only-one : {A : Type 0} (x y : A) → Contains (x ∷ []) y → x ≡ y
only-one x y (zero, lt, e) = e
only-one x y (suc k, lt, e) = absurd (omega arith)

none-in : {A : Type 0} (y : A) → Contains [] y → ⊥
none-in y has = absurd (omega (arith, has.1))

waited-is : (one : Answered) (content : Reply) → Contains (one ∷ []) (answer_of Content content) → one.waited ≡ Content
waited-is one content has = ap (λ (a : Answered). a.waited) (only-one one (answer_of Content content) has)

-- and the other way round
content-of-more : (waited : Awaited) (reply content : Reply) (answered : List Answered)
    → (Contains answered (answer_of Content content) → Contains (content_replies_in answered) content)
    → Contains (answer_of waited reply ∷ []) (answer_of Content content) ⊎ Contains answered (answer_of Content content)
    → Contains (content_replies_in (answer_of waited reply ∷ answered)) content
content-of-more Content reply content answered more (inl has) =
    let same = only-one (answer_of Content reply) (answer_of Content content) has in
    Contains-append_left (reply ∷ []) (content_replies_in answered) content
    (subst (λ (r : Reply). Contains (reply ∷ []) r) (ap (λ (a : Answered). a.reply) same) (0, omega arith, refl))
content-of-more Content reply content answered more (inr has) =
    Contains-append_right (reply ∷ []) (content_replies_in answered) content (more has)
content-of-more Greeting reply content answered more (inl has) =
    let same : Greeting ≡ Content = waited-is (answer_of Greeting reply) content has in absurd (cc)
content-of-more Greeting reply content answered more (inr has) = more has
content-of-more Ehlo reply content answered more (inl has) =
    let same : Ehlo ≡ Content = waited-is (answer_of Ehlo reply) content has in absurd (cc)
content-of-more Ehlo reply content answered more (inr has) = more has
content-of-more Helo reply content answered more (inl has) =
    let same : Helo ≡ Content = waited-is (answer_of Helo reply) content has in absurd (cc)
content-of-more Helo reply content answered more (inr has) = more has
content-of-more Mail reply content answered more (inl has) =
    let same : Mail ≡ Content = waited-is (answer_of Mail reply) content has in absurd (cc)
content-of-more Mail reply content answered more (inr has) = more has
content-of-more (Rcpt place) reply content answered more (inl has) =
    let same : Rcpt place ≡ Content = waited-is (answer_of (Rcpt place) reply) content has in absurd (cc)
content-of-more (Rcpt place) reply content answered more (inr has) = more has
content-of-more Data reply content answered more (inl has) =
    let same : Data ≡ Content = waited-is (answer_of Data reply) content has in absurd (cc)
content-of-more Data reply content answered more (inr has) = more has

content-of : (answered : List Answered) (content : Reply) → Contains answered (answer_of Content content)
    → Contains (content_replies_in answered) content
content-of [] content has = absurd (none-in (answer_of Content content) has)
content-of (one ∷ answered) content has =
    content-of-more one.waited one.reply content answered (λ h. content-of answered content h)
    (Contains-append_cases (one ∷ []) answered (answer_of Content content) has)

-- before the content's reply nothing is Taken
before-untaken : (end : Progress) (last : Verdict) (dsn : Bool) → EndedBefore end last → last ≡ Taken dsn → ⊥
before-untaken end last dsn (none, inl later) e = cc
before-untaken end last dsn (none, inr (inl cant)) e = cc
before-untaken end last dsn (none, inr (inr (reply, has, refused))) e = cc

-- the verdicts where the content's reply ended the attempt
pub by-content-verdicts : (delivery : Delivery) (end : Progress) (all : List Verdict) (last : Verdict) (index : ℕ)
    → all ≡ verdicts_of delivery.places (rcpt_replies end.answered) last → rcpt_places end.answered ≡ delivery.places
    → slice_get all index ≡ option_map (verdict_left last) (slice_get (rcpts_in end.answered) index)
by-content-verdicts delivery end all last index is places =
    ap (λ (l : List Verdict). slice_get l index)
    (is ∙ ap (λ (p : List ℕ). verdicts_of p (rcpt_replies end.answered) last) (sym places))
    ∙ verdict-at last end.answered index

was-taken : (delivery : Delivery) (end : Progress) (all : List Verdict) (index place : ℕ) (dsn : Bool)
    → IsOver delivery end all → slice_get delivery.places index ≡ Some place → slice_get all index ≡ Some (Taken dsn)
    → WasTaken end index place dsn
was-taken delivery end all index place dsn (none, begins, (last, is, inl (content, replies, tells, places))) at e =
    let asked = rcpt-at place end.answered index (ap (λ (l : List ℕ). slice_get l index) places ∙ at) in
    let line = by-content-verdicts delivery end all last index is places
    ∙ ap (λ (o : Option Answered). option_map (verdict_left last) o) asked.1 in
    let left : unwrap_or (rcpt_verdict asked.0) last ≡ Taken dsn = cc in
    let rcpt = taken-rcpt (kind_of asked.0.code) asked.0 last dsn left in
    let told = taken-content end.extensions.dsn (kind_of content.code) content dsn (sym tells ∙ rcpt.0) in
    record {
      rcpt = asked.0;
      content = content;
      asked = asked.1;
      accepted = rcpt.1;
      sent = content-in end.answered content [] replies;
      taken = told.0;
      offered = told.1;
    }
was-taken delivery end all index place dsn (none, begins, (last, is, inr how)) at e =
    absurd (none-taken delivery.places (rcpt_replies end.answered) last index dsn
    (λ same. before-untaken end last dsn how same)
    (ap (λ (l : List Verdict). slice_get l index) (sym is) ∙ e))

is-taken : (delivery : Delivery) (end : Progress) (all : List Verdict) (index place : ℕ) (dsn : Bool)
    → IsOver delivery end all → WasTaken end index place dsn → slice_get all index ≡ Some (Taken dsn)
is-taken delivery end all index place dsn (none, begins, (last, is, inl (content, replies, tells, places))) was =
    let one = only-one content was.content
    (subst (λ (l : List Reply). Contains l was.content) replies (content-of end.answered was.content was.sent)) in
    let kind = ap (λ (r : Reply). kind_of r.code) one ∙ was.taken in
    let told = tells ∙ accepted-content end.extensions.dsn (kind_of content.code) content kind in
    by-content-verdicts delivery end all last index is places
    ∙ ap (λ (o : Option Answered). option_map (verdict_left last) o) was.asked
    ∙ ap (λ (v : Verdict). Some v) (accepted-rcpt (kind_of was.rcpt.code) was.rcpt last was.accepted
    ∙ told ∙ ap (λ (b : Bool). Taken b) (sym was.offered))
is-taken delivery end all index place dsn (none, begins, (last, is, inr how)) was =
    absurd (none-in was.content
    (subst (λ (l : List Reply). Contains l was.content) how.0 (content-of end.answered was.content was.sent)))

pub taken_where_answered : TakenWhereAnswered
taken_where_answered delivery replies verdicts e index place dsn at =
    let over = ended-over delivery replies verdicts e in (
      λ taken. was-taken delivery (progress delivery replies) verdicts index place dsn over at taken,
      λ was. is-taken delivery (progress delivery replies) verdicts index place dsn over was,
    )
