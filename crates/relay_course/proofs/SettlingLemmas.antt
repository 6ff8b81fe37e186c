-- Which reply settled a place.
use Rattle.std.proofs.Common.{◌≡◌, ◌⊎◌, inl, inr, ℕ, zero, suc, Bool, true, false, ◌==◌, List, [], ◌∷◌, ◌++◌, length, Option, Some, None, refl, sym, ap, ◌∙◌, subst, cond, arith, if◌then◌else◌}
use Rattle.std.specs.Prelude.{nat_lt, option_map, slice_get, unwrap_or}
use Rattle.std.proofs.lemmas.List.{append_assoc, append-nil, length-append, length-map}
use Rattle.std.proofs.lemmas.List.Concat.{flat_map-append}
use Rattle.std.proofs.lemmas.Option.{slice_get-map}
use Rattle.relay_lines.specs.Reply.{Reply}
use Rattle.relay_lines.specs.ReplyReading.{CutsReplies}
use Rattle.relay_body.specs.DotText.{ends_in_line_end}
use Rattle.relay_book.specs.declared.change.Verdict.{Verdict}
use Rattle.relay_book.specs.declared.change.Verdict.TheVariants.{Later, CantSend}
use Rattle.relay_course.specs.declared.awaited.Awaited.{Awaited}
use Rattle.relay_course.specs.declared.awaited.Awaited.TheVariants.{Greeting, Ehlo, Helo, Mail, Rcpt, Data, Content}
use Rattle.relay_course.specs.declared.reply_kind.ReplyKind.{ReplyKind}
use Rattle.relay_course.specs.declared.reply_kind.ReplyKind.TheVariants.{Completion, Intermediate, Transient, Permanent}
use Rattle.relay_course.specs.Extensions.{extensions_of}
use Rattle.relay_course.specs.WrittenLine.{ehlo_line, helo_line, mail_line, data_line, last_chunk}
use Rattle.relay_course.specs.VerdictTable.{content_verdict_by, is_accepted, kind_of, rcpt_verdict_by, refusal, some_accepted, verdicts_of}
use Rattle.relay_course.specs.Progress.{Delivery, Answered, Progress, answer_of, rcpt_replies, with_command, ended_by, with_rcpt, with_rcpts, with_content, after_rcpts, with_next, with_mail, after_hello, after_answer, at_greeting, with_answer, after_reply, after_replies, progress}
use Rattle.relay_course.specs.Laws.{if_rcpt_one, rcpt_places, rcpts_in, replies_in}
use Rattle.relay_course.specs.Course.{Concludes, delivery_of}
use Rattle.relay_course.specs.Settling.{CourseSettles, SettledByItsReply, Settles, IsSettled, Concerns, is_completion, is_intermediate, kinds_of, settling_position, verdict_by}
use Rattle.relay_course.proofs.GoingLemmas.{answered_by}
use Rattle.relay_course.proofs.OrderLemmas.{AreRcpts, MayWait, Places, Stands, answered-places, none-is, runs-still, waiting_places, with_answer-stands}
use Rattle.relay_course.proofs.EndLemmas.{answered_are_first}
use Rattle.relay_course.proofs.TakenLemmas.{accepted-rcpt, by-content-verdicts, rcpt-at, verdict_left}
use Rattle.relay_course.proofs.PositionLemmas.{at-ehlo-3, at-ehlo-4, at-four, at-greeting, at-helo, at-mail-four, at-mail-three, at-three, content_after, get_first, get_front, get_second, settling_after}

-- the replies up to MAIL were 2yz, or 5yz to EHLO
abbrev pub IsShort : List Answered → Type 0
IsShort front =
    (greeting : Reply) × (hello : Reply) × (kind_of greeting.code ≡ Completion) × (kind_of hello.code ≡ Completion)
    × (front ≡ answer_of Greeting greeting ∷ answer_of Ehlo hello ∷ [])

abbrev pub IsLong : List Answered → Type 0
IsLong front =
    (greeting : Reply) × (refused : Reply) × (hello : Reply) × (kind_of greeting.code ≡ Completion)
    × (kind_of refused.code ≡ Permanent) × (kind_of hello.code ≡ Completion)
    × (front ≡ answer_of Greeting greeting ∷ answer_of Ehlo refused ∷ answer_of Helo hello ∷ [])

abbrev pub IsOpening : List Answered → Type 0
IsOpening front = IsShort front ⊎ IsLong front

-- MAIL was accepted, and after the RCPTs this was answered
record HasTail (answered tail : List Answered) : Type 0 where
  front : List Answered
  opens : IsOpening front
  mail : Reply
  takes : kind_of mail.code ≡ Completion
  is : answered ≡ front ++ answer_of Mail mail ∷ (rcpts_in answered ++ tail)

-- one of these answers is where the reply that settles is looked for, whatever comes after
abbrev StandsAt : Bool → ℕ → ℕ → List Answered → Option Answered → Type 0
StandsAt by_data count index answered one =
    (more : List ReplyKind)
    → slice_get answered (settling_position by_data (kinds_of answered ++ more) count index) ≡ one

-- after an opening, and an accepted MAIL
short-mail : (a b c : Answered) (rest : List Answered) (ka kb kc : ReplyKind) (ks : List ReplyKind) (by_data : Bool)
    (count index : ℕ) → ka ≡ Completion → kb ≡ Completion → kc ≡ Completion
    → slice_get (a ∷ b ∷ c ∷ rest) (settling_position by_data (ka ∷ kb ∷ kc ∷ ks) count index)
    ≡ slice_get rest (settling_after by_data ks count index)
short-mail a b c rest ka kb kc ks by_data count index ea eb ec =
    let all : List Answered = a ∷ b ∷ c ∷ rest in
    ap (λ (k : ReplyKind). slice_get all (settling_position by_data (k ∷ kb ∷ kc ∷ ks) count index)) ea
    ∙ ap (λ (k : ReplyKind). slice_get all (settling_position by_data (Completion ∷ k ∷ kc ∷ ks) count index)) eb
    ∙ ap (λ (k : ReplyKind). slice_get all (settling_position by_data (Completion ∷ Completion ∷ k ∷ ks) count index)) ec
    ∙ ap (λ (p : ℕ). slice_get all p) (at-three ks by_data count index)

long-mail : (a b c d : Answered) (rest : List Answered) (ka kb kc kd : ReplyKind) (ks : List ReplyKind)
    (by_data : Bool) (count index : ℕ) → ka ≡ Completion → kb ≡ Permanent → kc ≡ Completion → kd ≡ Completion
    → slice_get (a ∷ b ∷ c ∷ d ∷ rest) (settling_position by_data (ka ∷ kb ∷ kc ∷ kd ∷ ks) count index)
    ≡ slice_get rest (settling_after by_data ks count index)
long-mail a b c d rest ka kb kc kd ks by_data count index ea eb ec ed =
    let all : List Answered = a ∷ b ∷ c ∷ d ∷ rest in
    ap (λ (k : ReplyKind). slice_get all (settling_position by_data (k ∷ kb ∷ kc ∷ kd ∷ ks) count index)) ea
    ∙ ap (λ (k : ReplyKind). slice_get all (settling_position by_data (Completion ∷ k ∷ kc ∷ kd ∷ ks) count index)) eb
    ∙ ap (λ (k : ReplyKind). slice_get all (settling_position by_data (Completion ∷ Permanent ∷ k ∷ kd ∷ ks) count index)) ec
    ∙ ap (λ (k : ReplyKind). slice_get all (settling_position by_data (Completion ∷ Permanent ∷ Completion ∷ k ∷ ks) count index)) ed
    ∙ ap (λ (p : ℕ). slice_get all p) (at-four ks by_data count index)

mail-passed : (front : List Answered) (mail : Reply) (rest : List Answered) (more : List ReplyKind) (by_data : Bool)
    (count index : ℕ) → IsOpening front → kind_of mail.code ≡ Completion
    → slice_get (front ++ answer_of Mail mail ∷ rest)
    (settling_position by_data (kinds_of (front ++ answer_of Mail mail ∷ rest) ++ more) count index)
    ≡ slice_get rest (settling_after by_data (kinds_of rest ++ more) count index)
mail-passed front mail rest more by_data count index (inl (g, h, kg, kh, is)) takes =
    subst (λ (f : List Answered). slice_get (f ++ answer_of Mail mail ∷ rest)
    (settling_position by_data (kinds_of (f ++ answer_of Mail mail ∷ rest) ++ more) count index)
    ≡ slice_get rest (settling_after by_data (kinds_of rest ++ more) count index)) (sym is)
    (short-mail (answer_of Greeting g) (answer_of Ehlo h) (answer_of Mail mail) rest (kind_of g.code) (kind_of h.code)
    (kind_of mail.code) (kinds_of rest ++ more) by_data count index kg kh takes)
mail-passed front mail rest more by_data count index (inr (g, e, h, kg, ke, kh, is)) takes =
    subst (λ (f : List Answered). slice_get (f ++ answer_of Mail mail ∷ rest)
    (settling_position by_data (kinds_of (f ++ answer_of Mail mail ∷ rest) ++ more) count index)
    ≡ slice_get rest (settling_after by_data (kinds_of rest ++ more) count index)) (sym is)
    (long-mail (answer_of Greeting g) (answer_of Ehlo e) (answer_of Helo h) (answer_of Mail mail) rest (kind_of g.code)
    (kind_of e.code) (kind_of h.code) (kind_of mail.code) (kinds_of rest ++ more) by_data count index kg ke kh takes)

-- after a MAIL that was refused or put off
short-refused : (g h : Reply) (mail : Reply) (more : List ReplyKind) (by_data : Bool) (count index : ℕ)
    → kind_of g.code ≡ Completion → kind_of h.code ≡ Completion → is_completion (Some (kind_of mail.code)) ≡ false
    → slice_get (answer_of Greeting g ∷ answer_of Ehlo h ∷ answer_of Mail mail ∷ [])
    (settling_position by_data (kind_of g.code ∷ kind_of h.code ∷ kind_of mail.code ∷ more) count index)
    ≡ Some (answer_of Mail mail)
short-refused g h mail more by_data count index kg kh other =
    let all : List Answered = answer_of Greeting g ∷ answer_of Ehlo h ∷ answer_of Mail mail ∷ [] in
    let km : ReplyKind = kind_of mail.code in
    ap (λ (k : ReplyKind). slice_get all (settling_position by_data (k ∷ kind_of h.code ∷ km ∷ more) count index)) kg
    ∙ ap (λ (k : ReplyKind). slice_get all (settling_position by_data (Completion ∷ k ∷ km ∷ more) count index)) kh
    ∙ ap (λ (p : ℕ). slice_get all p) (at-mail-three km more by_data count index other)

long-refused : (g e h : Reply) (mail : Reply) (more : List ReplyKind) (by_data : Bool) (count index : ℕ)
    → kind_of g.code ≡ Completion → kind_of e.code ≡ Permanent → kind_of h.code ≡ Completion
    → is_completion (Some (kind_of mail.code)) ≡ false
    → slice_get (answer_of Greeting g ∷ answer_of Ehlo e ∷ answer_of Helo h ∷ answer_of Mail mail ∷ [])
    (settling_position by_data (kind_of g.code ∷ kind_of e.code ∷ kind_of h.code ∷ kind_of mail.code ∷ more) count index)
    ≡ Some (answer_of Mail mail)
long-refused g e h mail more by_data count index kg ke kh other =
    let all : List Answered = answer_of Greeting g ∷ answer_of Ehlo e ∷ answer_of Helo h ∷ answer_of Mail mail ∷ [] in
    let km : ReplyKind = kind_of mail.code in
    ap (λ (k : ReplyKind). slice_get all (settling_position by_data (k ∷ kind_of e.code ∷ kind_of h.code ∷ km ∷ more) count index)) kg
    ∙ ap (λ (k : ReplyKind). slice_get all (settling_position by_data (Completion ∷ k ∷ kind_of h.code ∷ km ∷ more) count index)) ke
    ∙ ap (λ (k : ReplyKind). slice_get all (settling_position by_data (Completion ∷ Permanent ∷ k ∷ km ∷ more) count index)) kh
    ∙ ap (λ (p : ℕ). slice_get all p) (at-mail-four km more by_data count index other)

mail-refused : (front : List Answered) (mail : Reply) (by_data : Bool) (count index : ℕ) → IsOpening front
    → is_completion (Some (kind_of mail.code)) ≡ false
    → StandsAt by_data count index (front ++ answer_of Mail mail ∷ []) (Some (answer_of Mail mail))
mail-refused front mail by_data count index (inl (g, h, kg, kh, is)) other =
    subst (λ (f : List Answered). StandsAt by_data count index (f ++ answer_of Mail mail ∷ []) (Some (answer_of Mail mail)))
    (sym is) (λ more. short-refused g h mail more by_data count index kg kh other)
mail-refused front mail by_data count index (inr (g, e, h, kg, ke, kh, is)) other =
    subst (λ (f : List Answered). StandsAt by_data count index (f ++ answer_of Mail mail ∷ []) (Some (answer_of Mail mail)))
    (sym is) (λ more. long-refused g e h mail more by_data count index kg ke kh other)

-- no RCPT is among an opening and MAIL
opening-none : (front : List Answered) (mail : Reply) → IsOpening front
    → (rcpts_in (front ++ answer_of Mail mail ∷ []) ≡ []) × (rcpt_replies (front ++ answer_of Mail mail ∷ []) ≡ [])
opening-none front mail (inl (g, h, kg, kh, is)) =
    subst (λ (f : List Answered). (rcpts_in (f ++ answer_of Mail mail ∷ []) ≡ []) × (rcpt_replies (f ++ answer_of Mail mail ∷ []) ≡ []))
    (sym is) (refl, refl)
opening-none front mail (inr (g, e, h, kg, ke, kh, is)) =
    subst (λ (f : List Answered). (rcpts_in (f ++ answer_of Mail mail ∷ []) ≡ []) × (rcpt_replies (f ++ answer_of Mail mail ∷ []) ≡ []))
    (sym is) (refl, refl)

-- MAIL is accepted
mail-tail : (front : List Answered) (mail : Reply) → IsOpening front → kind_of mail.code ≡ Completion
    → HasTail (front ++ answer_of Mail mail ∷ []) []
mail-tail front mail opens takes = record {
  front = front;
  opens = opens;
  mail = mail;
  takes = takes;
  is = ap (λ (l : List Answered). front ++ answer_of Mail mail ∷ (l ++ [])) (sym (opening-none front mail opens).0);
}

-- a RCPT more is answered
rcpt-more : (answered : List Answered) (place : ℕ) (reply : Reply) → HasTail answered []
    → HasTail (answered ++ answer_of (Rcpt place) reply ∷ []) []
rcpt-more answered place reply has =
    let one : List Answered = answer_of (Rcpt place) reply ∷ [] in
    let old : List Answered = rcpts_in answered in
    let grows : rcpts_in (answered ++ one) ≡ old ++ one =
    flat_map-append (λ (a : Answered). if_rcpt_one a.waited a) answered one in
    record {
      front = has.front;
      opens = has.opens;
      mail = has.mail;
      takes = has.takes;
      is = ap (λ (l : List Answered). l ++ one) has.is
          ∙ append_assoc has.front (answer_of Mail has.mail ∷ (old ++ [])) one
          ∙ ap (λ (l : List Answered). has.front ++ answer_of Mail has.mail ∷ l)
          (ap (λ (l : List Answered). l ++ one) (append-nil old) ∙ sym grows ∙ sym (append-nil (rcpts_in (answered ++ one))));
    }

-- something else is answered after the RCPTs
tail-more : (answered tail : List Answered) (one : Answered) → if_rcpt_one one.waited one ≡ [] → HasTail answered tail
    → HasTail (answered ++ one ∷ []) (tail ++ one ∷ [])
tail-more answered tail one none has =
    let old : List Answered = rcpts_in answered in
    let same : rcpts_in (answered ++ one ∷ []) ≡ old =
    flat_map-append (λ (a : Answered). if_rcpt_one a.waited a) answered (one ∷ [])
    ∙ ap (λ (l : List Answered). old ++ (l ++ [])) none ∙ append-nil old in
    record {
      front = has.front;
      opens = has.opens;
      mail = has.mail;
      takes = has.takes;
      is = ap (λ (l : List Answered). l ++ one ∷ []) has.is
          ∙ append_assoc has.front (answer_of Mail has.mail ∷ (old ++ tail)) (one ∷ [])
          ∙ ap (λ (l : List Answered). has.front ++ answer_of Mail has.mail ∷ l)
          (append_assoc old tail (one ∷ []) ∙ ap (λ (l : List Answered). l ++ (tail ++ one ∷ [])) (sym same));
    }

-- what is known of the answers, by what waits first
abbrev KnowsAt : Bool → List Answered → List Awaited → Type 0
KnowsAt by_data answered [] = Unit {0}
KnowsAt by_data answered (Greeting ∷ waits) = answered ≡ []
KnowsAt by_data answered (Ehlo ∷ waits) =
    (greeting : Reply) × (kind_of greeting.code ≡ Completion) × (answered ≡ answer_of Greeting greeting ∷ [])
KnowsAt by_data answered (Helo ∷ waits) =
    (greeting : Reply) × (refused : Reply) × (kind_of greeting.code ≡ Completion)
    × (kind_of refused.code ≡ Permanent)
    × (answered ≡ answer_of Greeting greeting ∷ answer_of Ehlo refused ∷ [])
KnowsAt by_data answered (Mail ∷ waits) = IsOpening answered
KnowsAt by_data answered (Rcpt place ∷ waits) = HasTail answered []
KnowsAt by_data answered (Data ∷ waits) = (by_data ≡ true) × HasTail answered []
KnowsAt by_data answered (Content ∷ waits) =
    ((by_data ≡ false) × HasTail answered [])
    ⊎ ((by_data ≡ true) × ((input : Reply) × (kind_of input.code ≡ Intermediate)
    × HasTail answered (answer_of Data input ∷ [])))

-- each place is settled
abbrev SettlesAll : Delivery → Progress → List Verdict → Type 0
SettlesAll delivery end all =
    (index place : ℕ) → slice_get delivery.places index ≡ Some place
    → IsSettled (ends_in_line_end delivery.text) end.extensions.dsn end.answered (length delivery.places) index place all

abbrev KnowsBy : Delivery → Progress → Option (List Verdict) → Type 0
KnowsBy delivery now None = KnowsAt (ends_in_line_end delivery.text) now.answered now.waits
KnowsBy delivery now (Some all) = SettlesAll delivery now all

abbrev Knows : Delivery → Progress → Type 0
Knows delivery now = KnowsBy delivery now now.verdicts

-- of two the one that a test chooses
chosen : (delivery : Delivery) (test : Bool) (one other : Progress) → (test ≡ true → Knows delivery one)
    → (test ≡ false → Knows delivery other) → Knows delivery (cond test one other)
chosen delivery true one other a b = a refl
chosen delivery false one other a b = b refl

-- where no RCPT was answered each place has the last verdict
none-replied : (places : List ℕ) (last : Verdict) (index place : ℕ) → slice_get places index ≡ Some place
    → slice_get (verdicts_of places [] last) index ≡ Some last
none-replied [] last index place at = absurd (cc)
none-replied (first ∷ places) last zero place at = refl
none-replied (first ∷ places) last (suc index) place at = none-replied places last index place at

-- an end before any RCPT was answered, by a reply that settles all places
early : (delivery : Delivery) (now : Progress) (last : Verdict) (waited : Awaited) (reply : Reply)
    → rcpt_replies now.answered ≡ [] → ((place : ℕ) → Concerns place waited)
    → ((index : ℕ) → StandsAt (ends_in_line_end delivery.text) (length delivery.places) index now.answered (Some (answer_of waited reply)))
    → last ≡ verdict_by now.extensions.dsn waited (kind_of reply.code) reply
    → Knows delivery (ended_by delivery last now)
early delivery now last waited reply none concerns stands says index place at = inr (λ more. record {
  one = answer_of waited reply;
  there = stands index more;
  concerns = concerns place;
  says = ap (λ (l : List Reply). slice_get (verdicts_of delivery.places l last) index) none
      ∙ none-replied delivery.places last index place at ∙ ap (λ (v : Verdict). Some v) says;
})

-- an end because the server takes no chunk
unsent : (delivery : Delivery) (now : Progress) → rcpt_replies now.answered ≡ [] → ends_in_line_end delivery.text ≡ false
    → Knows delivery (ended_by delivery CantSend now)
unsent delivery now none chunk index place at = inl (
  chunk,
  ap (λ (l : List Reply). slice_get (verdicts_of delivery.places l CantSend) index) none
      ∙ none-replied delivery.places CantSend index place at,
)

-- a reply to the RCPT that refuses its place, or puts it off, says so whatever the last verdict is
rcpt-says : (kind : ReplyKind) (reply : Reply) (last : Verdict) → is_completion (Some kind) ≡ false
    → unwrap_or (rcpt_verdict_by kind reply) last ≡ unwrap_or (rcpt_verdict_by kind reply) Later
rcpt-says Completion reply last other = absurd (cc)
rcpt-says Intermediate reply last other = refl
rcpt-says Transient reply last other = refl
rcpt-says Permanent reply last other = by (reply.code == 552)
  where
    by : (test : Bool)
        → unwrap_or (if test then Some Later else Some (refusal reply)) last
        ≡ unwrap_or (if test then Some Later else Some (refusal reply)) Later
    by true = refl
    by false = refl

completes : (kind : ReplyKind) → is_completion (Some kind) ≡ true → kind ≡ Completion
completes Completion e = refl
completes Intermediate e = absurd (cc)
completes Transient e = absurd (cc)
completes Permanent e = absurd (cc)

-- there are as many RCPTs answered as places of them
count-more : (waited : Awaited) (reply : Reply) (answered : List Answered)
    → length (rcpts_in answered) ≡ length (rcpt_places answered)
    → length (rcpts_in (answer_of waited reply ∷ answered)) ≡ length (rcpt_places (answer_of waited reply ∷ answered))
count-more Greeting reply answered e = e
count-more Ehlo reply answered e = e
count-more Helo reply answered e = e
count-more Mail reply answered e = e
count-more (Rcpt place) reply answered e = ap suc e
count-more Data reply answered e = e
count-more Content reply answered e = e

rcpts-count : (answered : List Answered) → length (rcpts_in answered) ≡ length (rcpt_places answered)
rcpts-count [] = refl
rcpts-count (one ∷ answered) = count-more one.waited one.reply answered (rcpts-count answered)

-- the kind of an answer, among those of all
kind-at : (answered : List Answered) (more : List ReplyKind) (n : ℕ) (one : Answered) → slice_get answered n ≡ Some one
    → slice_get (kinds_of answered ++ more) n ≡ Some (kind_of one.reply.code)
kind-at answered more n one at =
    let kind : Answered → ReplyKind = λ (a : Answered). kind_of a.reply.code in
    get_front (kinds_of answered) more n (kind_of one.reply.code)
    (slice_get-map kind answered n ∙ ap (λ (o : Option Answered). option_map kind o) at)

-- an answer after the RCPTs settles what they leave
abbrev TailDecides : Bool → Bool → List Answered → List Answered → Verdict → Type 0
TailDecides by_data dsn rcpts tail last =
    (one : Answered) × ((place : ℕ) → Concerns place one.waited)
    × (last ≡ verdict_by dsn one.waited (kind_of one.reply.code) one.reply)
    × ((more : List ReplyKind)
    → slice_get (rcpts ++ tail) (content_after by_data (kinds_of (rcpts ++ tail) ++ more) (length rcpts)) ≡ Some one)

-- where the replies stand, by what the reply to the RCPT of the place is
tail-there : (delivery : Delivery) (now : Progress) (tail : List Answered) → HasTail now.answered tail
    → (index place : ℕ) (rcpt : Reply) (more : List ReplyKind) (test : Bool)
    → slice_get (rcpts_in now.answered) index ≡ Some (answer_of (Rcpt place) rcpt)
    → is_completion (Some (kind_of rcpt.code)) ≡ test
    → slice_get now.answered (settling_position (ends_in_line_end delivery.text) (kinds_of now.answered ++ more) (length delivery.places) index)
    ≡ slice_get (rcpts_in now.answered ++ tail)
    (if test then content_after (ends_in_line_end delivery.text) (kinds_of (rcpts_in now.answered ++ tail) ++ more) (length delivery.places) else index)
tail-there delivery now tail has index place rcpt more test at e =
    let by_data : Bool = ends_in_line_end delivery.text in
    let count : ℕ = length delivery.places in
    let rest : List Answered = rcpts_in now.answered ++ tail in
    let kinds : List ReplyKind = kinds_of rest ++ more in
    let one : Answered = answer_of (Rcpt place) rcpt in
    ap (λ (l : List Answered). slice_get l (settling_position by_data (kinds_of l ++ more) count index)) has.is
    ∙ mail-passed has.front has.mail rest more by_data count index has.opens has.takes
    ∙ ap (λ (b : Bool). slice_get rest (if b then content_after by_data kinds count else index))
    (ap is_completion (kind-at rest more index one (get_front (rcpts_in now.answered) tail index one at)) ∙ e)

tail-settles : (delivery : Delivery) (now : Progress) (tail : List Answered) (last : Verdict) → HasTail now.answered tail
    → rcpt_places now.answered ≡ delivery.places
    → (index place : ℕ) (rcpt : Reply) (test : Bool)
    → slice_get (rcpts_in now.answered) index ≡ Some (answer_of (Rcpt place) rcpt)
    → is_completion (Some (kind_of rcpt.code)) ≡ test
    → (kind_of rcpt.code ≡ Completion
    → TailDecides (ends_in_line_end delivery.text) now.extensions.dsn (rcpts_in now.answered) tail last)
    → IsSettled (ends_in_line_end delivery.text) now.extensions.dsn now.answered (length delivery.places) index place
    (verdicts_of delivery.places (rcpt_replies now.answered) last)
tail-settles delivery now tail last has places index place rcpt true at e decides =
    let takes = completes (kind_of rcpt.code) e in
    let it = decides takes in
    let all : List Verdict = verdicts_of delivery.places (rcpt_replies now.answered) last in
    let rest : List Answered = rcpts_in now.answered ++ tail in
    let count : length delivery.places ≡ length (rcpts_in now.answered) =
    ap length (sym places) ∙ sym (rcpts-count now.answered) in
    inr (λ more. record {
      one = it.0;
      there = tail-there delivery now tail has index place rcpt more true at e
          ∙ ap (λ (n : ℕ). slice_get rest (content_after (ends_in_line_end delivery.text) (kinds_of rest ++ more) n)) count
          ∙ it.3 more;
      concerns = it.1 place;
      says = by-content-verdicts delivery now all last index refl places
          ∙ ap (λ (o : Option Answered). option_map (verdict_left last) o) at
          ∙ ap (λ (v : Verdict). Some v) (accepted-rcpt (kind_of rcpt.code) rcpt last takes ∙ it.2);
    })
tail-settles delivery now tail last has places index place rcpt false at e decides =
    let all : List Verdict = verdicts_of delivery.places (rcpt_replies now.answered) last in
    inr (λ more. record {
      one = answer_of (Rcpt place) rcpt;
      there = tail-there delivery now tail has index place rcpt more false at e
          ∙ get_front (rcpts_in now.answered) tail index (answer_of (Rcpt place) rcpt) at;
      concerns = refl;
      says = by-content-verdicts delivery now all last index refl places
          ∙ ap (λ (o : Option Answered). option_map (verdict_left last) o) at
          ∙ ap (λ (v : Verdict). Some v) (rcpt-says (kind_of rcpt.code) rcpt last e);
    })

-- an end after all RCPTs
ended-tail : (delivery : Delivery) (now : Progress) (tail : List Answered) (last : Verdict) → HasTail now.answered tail
    → rcpt_places now.answered ≡ delivery.places
    → ((index place : ℕ) (rcpt : Reply) → slice_get (rcpts_in now.answered) index ≡ Some (answer_of (Rcpt place) rcpt)
    → kind_of rcpt.code ≡ Completion
    → TailDecides (ends_in_line_end delivery.text) now.extensions.dsn (rcpts_in now.answered) tail last)
    → Knows delivery (ended_by delivery last now)
ended-tail delivery now tail last has places decides index place at =
    let asked = rcpt-at place now.answered index (ap (λ (l : List ℕ). slice_get l index) places ∙ at) in
    tail-settles delivery now tail last has places index place asked.0 (is_completion (Some (kind_of asked.0.code)))
    asked.1 refl (λ takes. decides index place asked.0 asked.1 takes)

-- where it stands after the RCPTs
chunk-decides : (rcpts : List Answered) (one : Answered) (more : List ReplyKind) (by_data : Bool) → by_data ≡ false
    → slice_get (rcpts ++ one ∷ []) (content_after by_data (kinds_of (rcpts ++ one ∷ []) ++ more) (length rcpts)) ≡ Some one
chunk-decides rcpts one more by_data e =
    let all : List Answered = rcpts ++ one ∷ [] in
    ap (λ (b : Bool). slice_get all (content_after b (kinds_of all ++ more) (length rcpts))) e
    ∙ get_first rcpts (one ∷ [])

refusal-decides : (rcpts : List Answered) (one : Answered) (more : List ReplyKind) (by_data : Bool) → by_data ≡ true
    → is_intermediate (Some (kind_of one.reply.code)) ≡ false
    → slice_get (rcpts ++ one ∷ []) (content_after by_data (kinds_of (rcpts ++ one ∷ []) ++ more) (length rcpts)) ≡ Some one
refusal-decides rcpts one more by_data e other =
    let all : List Answered = rcpts ++ one ∷ [] in
    ap (λ (b : Bool). slice_get all (content_after b (kinds_of all ++ more) (length rcpts))) e
    ∙ ap (λ (b : Bool). slice_get all (if b then suc (length rcpts) else length rcpts))
    (ap is_intermediate (kind-at all more (length rcpts) one (get_first rcpts (one ∷ []))) ∙ other)
    ∙ get_first rcpts (one ∷ [])

data-decides : (rcpts : List Answered) (input one : Answered) (more : List ReplyKind) (by_data : Bool) → by_data ≡ true
    → kind_of input.reply.code ≡ Intermediate
    → slice_get (rcpts ++ input ∷ one ∷ []) (content_after by_data (kinds_of (rcpts ++ input ∷ one ∷ []) ++ more) (length rcpts))
    ≡ Some one
data-decides rcpts input one more by_data e goes =
    let all : List Answered = rcpts ++ input ∷ one ∷ [] in
    ap (λ (b : Bool). slice_get all (content_after b (kinds_of all ++ more) (length rcpts))) e
    ∙ ap (λ (b : Bool). slice_get all (if b then suc (length rcpts) else length rcpts))
    (ap is_intermediate (kind-at all more (length rcpts) input (get_first rcpts (input ∷ one ∷ [])))
    ∙ ap (λ (k : ReplyKind). is_intermediate (Some k)) goes)
    ∙ get_second rcpts (input ∷ one ∷ [])

running : (delivery : Delivery) (now : Progress) → now.verdicts ≡ None
    → KnowsAt (ends_in_line_end delivery.text) now.answered now.waits → Knows delivery now
running delivery now e is = subst (λ (v : Option (List Verdict)). KnowsBy delivery now v) (sym e) is

alone : (delivery : Delivery) (command : List ℕ) (waited : Awaited) (now : Progress) → now.verdicts ≡ None
    → now.waits ≡ [] → KnowsAt (ends_in_line_end delivery.text) now.answered (waited ∷ [])
    → Knows delivery (with_command command waited now)
alone delivery command waited now runs none is =
    running delivery (with_command command waited now) runs
    (subst (λ (w : List Awaited). KnowsAt (ends_in_line_end delivery.text) now.answered (w ++ waited ∷ [])) (sym none) is)

group : (delivery : Delivery) (places : List ℕ) (now : Progress) (waits : List Awaited) → now.verdicts ≡ None
    → now.waits ≡ Mail ∷ waits → IsOpening now.answered → Knows delivery (with_rcpts delivery places now)
group delivery [] now waits runs w opens =
    running delivery now runs
    (subst (λ (l : List Awaited). KnowsAt (ends_in_line_end delivery.text) now.answered l) (sym w) opens)
group delivery (place ∷ places) now waits runs w opens =
    group delivery places (with_rcpt delivery place places now) (waits ++ Rcpt place ∷ []) runs
    (ap (λ (l : List Awaited). l ++ Rcpt place ∷ []) w) opens

mail-knows : (delivery : Delivery) (now : Progress) → now.verdicts ≡ None → now.waits ≡ [] → IsOpening now.answered
    → Knows delivery (with_mail delivery now)
mail-knows delivery now runs none opens =
    let line : List ℕ = mail_line now.extensions.dsn delivery.envelope in
    let mail : Progress = with_command line Mail now in
    chosen delivery now.extensions.pipelining (with_rcpts delivery now.unasked mail) mail
    (λ e. group delivery now.unasked mail [] runs (ap (λ (l : List Awaited). l ++ Mail ∷ []) none) opens)
    (λ e. alone delivery line Mail now runs none opens)

hello-knows : (delivery : Delivery) (now : Progress) → now.verdicts ≡ None → now.waits ≡ [] → IsOpening now.answered
    → rcpt_replies now.answered ≡ [] → Knows delivery (after_hello delivery now)
hello-knows delivery now runs none opens early_on =
    let cant : Progress = ended_by delivery CantSend now in
    chosen delivery (ends_in_line_end delivery.text) (with_mail delivery now)
    (cond now.extensions.chunking (with_mail delivery now) cant)
    (λ e. mail-knows delivery now runs none opens)
    (λ e. chosen delivery now.extensions.chunking (with_mail delivery now) cant
    (λ f. mail-knows delivery now runs none opens) (λ f. unsent delivery now early_on e))

-- a RCPT that was accepted is one of those
accepts : (code : ℕ) → kind_of code ≡ Completion → nat_lt code 300 ≡ true
accepts code = by (nat_lt code 300) (nat_lt code 400) (nat_lt code 500)
  where
    by : (one two three : Bool)
        → (if one then Completion else (if two then Intermediate else (if three then Transient else Permanent))) ≡ Completion
        → one ≡ true
    by true two three e = refl
    by false true three e = absurd (cc)
    by false false true e = absurd (cc)
    by false false false e = absurd (cc)

one-or : (test : Bool) (rest : Bool) → rest ≡ true → (if test then true else rest) ≡ true
one-or true rest e = refl
one-or false rest e = e

some-more : (waited : Awaited) (reply rcpt : Reply) (answered : List Answered) (place : ℕ)
    → kind_of rcpt.code ≡ Completion
    → ((index : ℕ) → slice_get (rcpts_in answered) index ≡ Some (answer_of (Rcpt place) rcpt)
    → some_accepted (rcpt_replies answered) ≡ true)
    → (index : ℕ) → slice_get (rcpts_in (answer_of waited reply ∷ answered)) index ≡ Some (answer_of (Rcpt place) rcpt)
    → some_accepted (rcpt_replies (answer_of waited reply ∷ answered)) ≡ true
some-more Greeting reply rcpt answered place takes more index at = more index at
some-more Ehlo reply rcpt answered place takes more index at = more index at
some-more Helo reply rcpt answered place takes more index at = more index at
some-more Mail reply rcpt answered place takes more index at = more index at
some-more (Rcpt other) reply rcpt answered place takes more zero at =
    let same : answer_of (Rcpt other) reply ≡ answer_of (Rcpt place) rcpt = cc in
    ap (λ (b : Bool). if b then true else some_accepted (rcpt_replies answered))
    (ap (λ (a : Answered). nat_lt a.reply.code 300) same ∙ accepts rcpt.code takes)
some-more (Rcpt other) reply rcpt answered place takes more (suc index) at =
    one-or (is_accepted reply) (some_accepted (rcpt_replies answered)) (more index at)
some-more Data reply rcpt answered place takes more index at = more index at
some-more Content reply rcpt answered place takes more index at = more index at

some-is : (answered : List Answered) (rcpt : Reply) (place : ℕ) → kind_of rcpt.code ≡ Completion → (index : ℕ)
    → slice_get (rcpts_in answered) index ≡ Some (answer_of (Rcpt place) rcpt)
    → some_accepted (rcpt_replies answered) ≡ true
some-is [] rcpt place takes index at = absurd (cc)
some-is (one ∷ answered) rcpt place takes index at =
    some-more one.waited one.reply rcpt answered place takes (λ i. some-is answered rcpt place takes i) index at

-- where nothing waits and all were asked
all-asked : (delivery : Delivery) (now : Progress) → now.waits ≡ [] → now.unasked ≡ [] → Places delivery now
    → rcpt_places now.answered ≡ delivery.places
all-asked delivery now none all places =
    let front : List ℕ = rcpt_places now.answered in
    sym (append-nil front)
    ∙ ap (λ l. front ++ (waiting_places l ++ [])) (sym none)
    ∙ ap (λ l. front ++ (waiting_places now.waits ++ l)) (sym all) ∙ places

content-knows : (delivery : Delivery) (now : Progress) → now.verdicts ≡ None → now.waits ≡ [] → HasTail now.answered []
    → Knows delivery (with_content delivery now)
content-knows delivery now runs none has =
    chosen delivery (ends_in_line_end delivery.text) (with_command data_line Data now)
    (with_command (last_chunk delivery.text) Content now)
    (λ e. alone delivery data_line Data now runs none (e, has))
    (λ e. alone delivery (last_chunk delivery.text) Content now runs none (inl (e, has)))

true-false : {test : Bool} → test ≡ true → test ≡ false → ⊥
true-false one two = cc

rcpts-know : (delivery : Delivery) (now : Progress) → now.verdicts ≡ None → now.waits ≡ [] → now.unasked ≡ []
    → Places delivery now → HasTail now.answered [] → Knows delivery (after_rcpts delivery now)
rcpts-know delivery now runs none all places has =
    chosen delivery (some_accepted (rcpt_replies now.answered)) (with_content delivery now)
    (ended_by delivery Later now)
    (λ e. content-knows delivery now runs none has)
    (λ e. ended-tail delivery now [] Later has (all-asked delivery now none all places)
    (λ index place rcpt at takes. absurd (true-false (some-is now.answered rcpt place takes index at) e)))

rcpts-first : (by_data : Bool) (answered : List Answered) (waited : Awaited) (waits : List Awaited)
    → AreRcpts (waited ∷ waits) → HasTail answered [] → KnowsAt by_data answered (waited ∷ waits)
rcpts-first by_data answered Greeting waits may has = absurd may
rcpts-first by_data answered Ehlo waits may has = absurd may
rcpts-first by_data answered Helo waits may has = absurd may
rcpts-first by_data answered Mail waits may has = absurd may
rcpts-first by_data answered (Rcpt place) waits may has = has
rcpts-first by_data answered Data waits may has = absurd may
rcpts-first by_data answered Content waits may has = absurd may

next-knows : (delivery : Delivery) (waits : List Awaited) (unasked : List ℕ) (now : Progress) → waits ≡ now.waits
    → unasked ≡ now.unasked → AreRcpts waits → now.verdicts ≡ None → Places delivery now → HasTail now.answered []
    → Knows delivery (with_next delivery waits unasked now)
next-knows delivery (waited ∷ waits) unasked now w u may runs places has =
    running delivery now runs
    (subst (λ (l : List Awaited). KnowsAt (ends_in_line_end delivery.text) now.answered l) w
    (rcpts-first (ends_in_line_end delivery.text) now.answered waited waits may has))
next-knows delivery [] (place ∷ more) now w u may runs places has =
    running delivery (with_rcpt delivery place more now) runs
    (subst (λ (l : List Awaited). KnowsAt (ends_in_line_end delivery.text) now.answered (l ++ Rcpt place ∷ [])) w has)
next-knows delivery [] [] now w u may runs places has =
    rcpts-know delivery now runs (sym w) (sym u) places has

-- the ends before the RCPTs
greeting-ends : (delivery : Delivery) (waits : List Awaited) (kind : ReplyKind) (reply : Reply) (old : Progress)
    → kind ≡ kind_of reply.code → is_completion (Some kind) ≡ false → old.answered ≡ []
    → Knows delivery (ended_by delivery (verdict_by old.extensions.dsn Greeting kind reply) (answered_by Greeting waits reply old))
greeting-ends delivery waits kind reply old same other none =
    let by_data : Bool = ends_in_line_end delivery.text in
    let count : ℕ = length delivery.places in
    let one : Answered = answer_of Greeting reply in
    early delivery (answered_by Greeting waits reply old) (verdict_by old.extensions.dsn Greeting kind reply) Greeting reply
    (ap (λ (l : List Answered). rcpt_replies (l ++ one ∷ [])) none) (λ place. tt)
    (λ index. subst (λ (l : List Answered). StandsAt by_data count index (l ++ one ∷ []) (Some one)) (sym none)
    (λ more. ap (λ (p : ℕ). slice_get (one ∷ []) p) (at-greeting (kind_of reply.code) more by_data count index
    (ap (λ (k : ReplyKind). is_completion (Some k)) (sym same) ∙ other))))
    (ap (λ (k : ReplyKind). verdict_by old.extensions.dsn Greeting k reply) same)

ehlo-stands : (g reply : Reply) (kind : ReplyKind) (by_data : Bool) (count index : ℕ) → kind_of g.code ≡ Completion
    → kind ≡ kind_of reply.code
    → ((more : List ReplyKind) → settling_position by_data (Completion ∷ kind ∷ more) count index ≡ 1)
    → StandsAt by_data count index (answer_of Greeting g ∷ answer_of Ehlo reply ∷ []) (Some (answer_of Ehlo reply))
ehlo-stands g reply kind by_data count index kg same at more =
    let all : List Answered = answer_of Greeting g ∷ answer_of Ehlo reply ∷ [] in
    ap (λ (k : ReplyKind). slice_get all (settling_position by_data (k ∷ kind_of reply.code ∷ more) count index)) kg
    ∙ ap (λ (k : ReplyKind). slice_get all (settling_position by_data (Completion ∷ k ∷ more) count index)) (sym same)
    ∙ ap (λ (p : ℕ). slice_get all p) (at more)

ehlo-ends : (delivery : Delivery) (waits : List Awaited) (kind : ReplyKind) (reply : Reply) (old : Progress)
    → kind ≡ kind_of reply.code
    → ((more : List ReplyKind) (by_data : Bool) (count index : ℕ)
    → settling_position by_data (Completion ∷ kind ∷ more) count index ≡ 1)
    → KnowsAt (ends_in_line_end delivery.text) old.answered (Ehlo ∷ waits)
    → Knows delivery (ended_by delivery (verdict_by old.extensions.dsn Ehlo kind reply) (answered_by Ehlo waits reply old))
ehlo-ends delivery waits kind reply old same at (g, kg, is) =
    let by_data : Bool = ends_in_line_end delivery.text in
    let count : ℕ = length delivery.places in
    let one : Answered = answer_of Ehlo reply in
    early delivery (answered_by Ehlo waits reply old) (verdict_by old.extensions.dsn Ehlo kind reply) Ehlo reply
    (ap (λ (l : List Answered). rcpt_replies (l ++ one ∷ [])) is) (λ place. tt)
    (λ index. subst (λ (l : List Answered). StandsAt by_data count index (l ++ one ∷ []) (Some one)) (sym is)
    (ehlo-stands g reply kind by_data count index kg same (λ more. at more by_data count index)))
    (ap (λ (k : ReplyKind). verdict_by old.extensions.dsn Ehlo k reply) same)

helo-stands : (g e reply : Reply) (by_data : Bool) (count index : ℕ) → kind_of g.code ≡ Completion
    → kind_of e.code ≡ Permanent → is_completion (Some (kind_of reply.code)) ≡ false
    → StandsAt by_data count index (answer_of Greeting g ∷ answer_of Ehlo e ∷ answer_of Helo reply ∷ [])
    (Some (answer_of Helo reply))
helo-stands g e reply by_data count index kg ke other more =
    let all : List Answered = answer_of Greeting g ∷ answer_of Ehlo e ∷ answer_of Helo reply ∷ [] in
    let kr : ReplyKind = kind_of reply.code in
    ap (λ (k : ReplyKind). slice_get all (settling_position by_data (k ∷ kind_of e.code ∷ kr ∷ more) count index)) kg
    ∙ ap (λ (k : ReplyKind). slice_get all (settling_position by_data (Completion ∷ k ∷ kr ∷ more) count index)) ke
    ∙ ap (λ (p : ℕ). slice_get all p) (at-helo kr more by_data count index other)

helo-ends : (delivery : Delivery) (waits : List Awaited) (kind : ReplyKind) (reply : Reply) (old : Progress)
    → kind ≡ kind_of reply.code → is_completion (Some kind) ≡ false
    → KnowsAt (ends_in_line_end delivery.text) old.answered (Helo ∷ waits)
    → Knows delivery (ended_by delivery (verdict_by old.extensions.dsn Helo kind reply) (answered_by Helo waits reply old))
helo-ends delivery waits kind reply old same other (g, e, kg, ke, is) =
    let by_data : Bool = ends_in_line_end delivery.text in
    let count : ℕ = length delivery.places in
    let one : Answered = answer_of Helo reply in
    early delivery (answered_by Helo waits reply old) (verdict_by old.extensions.dsn Helo kind reply) Helo reply
    (ap (λ (l : List Answered). rcpt_replies (l ++ one ∷ [])) is) (λ place. tt)
    (λ index. subst (λ (l : List Answered). StandsAt by_data count index (l ++ one ∷ []) (Some one)) (sym is)
    (helo-stands g e reply by_data count index kg ke (ap (λ (k : ReplyKind). is_completion (Some k)) (sym same) ∙ other)))
    (ap (λ (k : ReplyKind). verdict_by old.extensions.dsn Helo k reply) same)

mail-ends : (delivery : Delivery) (waits : List Awaited) (kind : ReplyKind) (reply : Reply) (old : Progress)
    → kind ≡ kind_of reply.code → is_completion (Some kind) ≡ false → IsOpening old.answered
    → Knows delivery (ended_by delivery (verdict_by old.extensions.dsn Mail kind reply) (answered_by Mail waits reply old))
mail-ends delivery waits kind reply old same other opens =
    early delivery (answered_by Mail waits reply old) (verdict_by old.extensions.dsn Mail kind reply) Mail reply
    (opening-none old.answered reply opens).1 (λ place. tt)
    (λ index. mail-refused old.answered reply (ends_in_line_end delivery.text) (length delivery.places) index opens
    (ap (λ (k : ReplyKind). is_completion (Some k)) (sym same) ∙ other))
    (ap (λ (k : ReplyKind). verdict_by old.extensions.dsn Mail k reply) same)

-- the ends after them
data-ends : (delivery : Delivery) (waits : List Awaited) (kind : ReplyKind) (reply : Reply) (old : Progress)
    → kind ≡ kind_of reply.code → is_intermediate (Some kind) ≡ false
    → rcpt_places (old.answered ++ answer_of Data reply ∷ []) ≡ delivery.places
    → ends_in_line_end delivery.text ≡ true → HasTail old.answered []
    → Knows delivery (ended_by delivery (verdict_by old.extensions.dsn Data kind reply) (answered_by Data waits reply old))
data-ends delivery waits kind reply old same other places by_data has =
    let one : Answered = answer_of Data reply in
    let rcpts : List Answered = rcpts_in (old.answered ++ one ∷ []) in
    ended-tail delivery (answered_by Data waits reply old) (one ∷ []) (verdict_by old.extensions.dsn Data kind reply)
    (tail-more old.answered [] one refl has) places
    (λ index place rcpt at takes. (
      one,
      λ p. tt,
      ap (λ (k : ReplyKind). verdict_by old.extensions.dsn Data k reply) same,
      λ more. refusal-decides rcpts one more (ends_in_line_end delivery.text) by_data
          (ap (λ (k : ReplyKind). is_intermediate (Some k)) (sym same) ∙ other),
    ))

content-ends : (delivery : Delivery) (waits : List Awaited) (kind : ReplyKind) (reply : Reply) (old : Progress)
    → kind ≡ kind_of reply.code → rcpt_places (old.answered ++ answer_of Content reply ∷ []) ≡ delivery.places
    → KnowsAt (ends_in_line_end delivery.text) old.answered (Content ∷ waits)
    → Knows delivery (ended_by delivery (content_verdict_by old.extensions.dsn kind reply) (answered_by Content waits reply old))
content-ends delivery waits kind reply old same places (inl (chunk, has)) =
    let one : Answered = answer_of Content reply in
    let rcpts : List Answered = rcpts_in (old.answered ++ one ∷ []) in
    ended-tail delivery (answered_by Content waits reply old) (one ∷ []) (content_verdict_by old.extensions.dsn kind reply)
    (tail-more old.answered [] one refl has) places
    (λ index place rcpt at takes. (
      one,
      λ p. tt,
      ap (λ (k : ReplyKind). content_verdict_by old.extensions.dsn k reply) same,
      λ more. chunk-decides rcpts one more (ends_in_line_end delivery.text) chunk,
    ))
content-ends delivery waits kind reply old same places (inr (by_data, (input, goes, has))) =
    let one : Answered = answer_of Content reply in
    let rcpts : List Answered = rcpts_in (old.answered ++ one ∷ []) in
    ended-tail delivery (answered_by Content waits reply old) (answer_of Data input ∷ one ∷ [])
    (content_verdict_by old.extensions.dsn kind reply)
    (tail-more old.answered (answer_of Data input ∷ []) one refl has) places
    (λ index place rcpt at takes. (
      one,
      λ p. tt,
      ap (λ (k : ReplyKind). content_verdict_by old.extensions.dsn k reply) same,
      λ more. data-decides rcpts (answer_of Data input) one more (ends_in_line_end delivery.text) by_data goes,
    ))

-- each row of the table
answer-knows : (delivery : Delivery) (waited : Awaited) (waits : List Awaited) (kind : ReplyKind) (reply : Reply)
    (old : Progress)
    → kind ≡ kind_of reply.code → old.verdicts ≡ None → MayWait (waited ∷ waits) old.unasked
    → Places delivery (answered_by waited waits reply old)
    → KnowsAt (ends_in_line_end delivery.text) old.answered (waited ∷ waits)
    → Knows delivery (after_answer delivery waited kind reply (answered_by waited waits reply old))
answer-knows delivery Greeting waits Completion reply old same runs may places knows =
    alone delivery (ehlo_line delivery.host) Ehlo (answered_by Greeting waits reply old) runs (none-is waits may)
    (reply, sym same, ap (λ (l : List Answered). l ++ answer_of Greeting reply ∷ []) knows)
answer-knows delivery Greeting waits Intermediate reply old same runs may places knows =
    greeting-ends delivery waits Intermediate reply old same refl knows
answer-knows delivery Greeting waits Transient reply old same runs may places knows =
    greeting-ends delivery waits Transient reply old same refl knows
answer-knows delivery Greeting waits Permanent reply old same runs may places knows =
    greeting-ends delivery waits Permanent reply old same refl knows
answer-knows delivery Ehlo waits Completion reply old same runs may places (g, kg, is) =
    hello-knows delivery (record (answered_by Ehlo waits reply old) { extensions = extensions_of reply }) runs
    (none-is waits may)
    (inl (g, reply, kg, sym same, ap (λ (l : List Answered). l ++ answer_of Ehlo reply ∷ []) is))
    (ap (λ (l : List Answered). rcpt_replies (l ++ answer_of Ehlo reply ∷ [])) is)
answer-knows delivery Ehlo waits Intermediate reply old same runs may places knows =
    ehlo-ends delivery waits Intermediate reply old same (λ more b c i. at-ehlo-3 more b c i) knows
answer-knows delivery Ehlo waits Transient reply old same runs may places knows =
    ehlo-ends delivery waits Transient reply old same (λ more b c i. at-ehlo-4 more b c i) knows
answer-knows delivery Ehlo waits Permanent reply old same runs may places (g, kg, is) =
    alone delivery (helo_line delivery.host) Helo (answered_by Ehlo waits reply old) runs (none-is waits may)
    (g, reply, kg, sym same, ap (λ (l : List Answered). l ++ answer_of Ehlo reply ∷ []) is)
answer-knows delivery Helo waits Completion reply old same runs may places (g, e, kg, ke, is) =
    hello-knows delivery (answered_by Helo waits reply old) runs (none-is waits may)
    (inr (g, e, reply, kg, ke, sym same, ap (λ (l : List Answered). l ++ answer_of Helo reply ∷ []) is))
    (ap (λ (l : List Answered). rcpt_replies (l ++ answer_of Helo reply ∷ [])) is)
answer-knows delivery Helo waits Intermediate reply old same runs may places knows =
    helo-ends delivery waits Intermediate reply old same refl knows
answer-knows delivery Helo waits Transient reply old same runs may places knows =
    helo-ends delivery waits Transient reply old same refl knows
answer-knows delivery Helo waits Permanent reply old same runs may places knows =
    helo-ends delivery waits Permanent reply old same refl knows
answer-knows delivery Mail waits Completion reply old same runs may places knows =
    next-knows delivery waits old.unasked (answered_by Mail waits reply old) refl refl may runs places
    (mail-tail old.answered reply knows (sym same))
answer-knows delivery Mail waits Intermediate reply old same runs may places knows =
    mail-ends delivery waits Intermediate reply old same refl knows
answer-knows delivery Mail waits Transient reply old same runs may places knows =
    mail-ends delivery waits Transient reply old same refl knows
answer-knows delivery Mail waits Permanent reply old same runs may places knows =
    mail-ends delivery waits Permanent reply old same refl knows
answer-knows delivery (Rcpt place) waits kind reply old same runs may places knows =
    next-knows delivery waits old.unasked (answered_by (Rcpt place) waits reply old) refl refl may runs places
    (rcpt-more old.answered place reply knows)
answer-knows delivery Data waits Completion reply old same runs may places (by_data, has) =
    data-ends delivery waits Completion reply old same refl
    (all-asked delivery (answered_by Data waits reply old) (none-is waits may.0) (none-is old.unasked may.1) places)
    by_data has
answer-knows delivery Data waits Intermediate reply old same runs may places (by_data, has) =
    alone delivery delivery.dot_text Content (answered_by Data waits reply old) runs (none-is waits may.0)
    (inr (by_data, (reply, sym same, tail-more old.answered [] (answer_of Data reply) refl has)))
answer-knows delivery Data waits Transient reply old same runs may places (by_data, has) =
    data-ends delivery waits Transient reply old same refl
    (all-asked delivery (answered_by Data waits reply old) (none-is waits may.0) (none-is old.unasked may.1) places)
    by_data has
answer-knows delivery Data waits Permanent reply old same runs may places (by_data, has) =
    data-ends delivery waits Permanent reply old same refl
    (all-asked delivery (answered_by Data waits reply old) (none-is waits may.0) (none-is old.unasked may.1) places)
    by_data has
answer-knows delivery Content waits kind reply old same runs may places knows =
    content-ends delivery waits kind reply old same
    (all-asked delivery (answered_by Content waits reply old) (none-is waits may.0) (none-is old.unasked may.1) places)
    knows

with_answer-knows : (delivery : Delivery) (waits : List Awaited) (reply : Reply) (now : Progress) → waits ≡ now.waits
    → Stands delivery now → Knows delivery now → Knows delivery (with_answer delivery waits reply now)
with_answer-knows delivery [] reply now w stands knows = knows
with_answer-knows delivery (waited ∷ waits) reply now w stands knows =
    let ran = runs-still delivery now now.verdicts waited waits w stands in
    let front : List ℕ = rcpt_places now.answered in
    answer-knows delivery waited waits (kind_of reply.code) reply now refl ran.0
    (subst (λ (l : List Awaited). MayWait l now.unasked) (sym w) ran.1.1)
    (answered-places delivery waited waits reply now
    (ap (λ l. front ++ (waiting_places l ++ now.unasked)) w ∙ ran.1.0))
    (subst (λ (l : List Awaited). KnowsAt (ends_in_line_end delivery.text) now.answered l) (sym w)
    (subst (λ (v : Option (List Verdict)). KnowsBy delivery now v) ran.0 knows))

along-knows : (delivery : Delivery) (now : Progress) (replies : List Reply) → Stands delivery now → Knows delivery now
    → Knows delivery (after_replies delivery now replies)
along-knows delivery now [] stands knows = knows
along-knows delivery now (reply ∷ replies) stands knows =
    along-knows delivery (after_reply delivery now reply) replies
    (with_answer-stands delivery now.waits reply now refl stands)
    (with_answer-knows delivery now.waits reply now refl stands knows)

pub settled_by_its_reply : SettledByItsReply
settled_by_its_reply delivery replies verdicts e =
    subst (λ (v : Option (List Verdict)). KnowsBy delivery (progress delivery replies) v) e
    (along-knows delivery (at_greeting delivery) replies (refl, tt, refl) refl)

-- where each reply answered something, those that did are all
whole : {A : Type 0} (xs ys zs : List A) → xs ≡ ys ++ zs → length ys ≡ length xs → xs ≡ ys
whole xs ys [] e same = e ∙ append-nil ys
whole xs ys (z ∷ zs) e same = absurd (omega (arith, ap length e, length-append ys (z ∷ zs)))

all-answered : (delivery : Delivery) (replies : List Reply)
    → length (progress delivery replies).answered ≡ length replies
    → replies ≡ replies_in (progress delivery replies).answered
all-answered delivery replies each =
    let first = answered_are_first delivery replies in
    let answered : List Answered = (progress delivery replies).answered in
    whole replies (replies_in answered) first.0 first.1 (length-map answered (λ (one : Answered). one.reply) ∙ each)

settles-by : (delivery : Delivery) (input : List ℕ) (told : Bool) (verdicts : List Verdict) (replies : List Reply)
    (rest : List ℕ) (ended : Option (List Verdict)) → CutsReplies input replies rest
    → length (progress delivery replies).answered ≡ length replies → (progress delivery replies).verdicts ≡ ended
    → Concludes delivery.places told rest ended (Some verdicts)
    → Settles delivery.text delivery.places input told verdicts
settles-by delivery input told verdicts replies rest (Some all) cut each e so =
    let end : Progress = progress delivery replies in
    let same : verdicts ≡ all = (let both = so.2 in cc) in
    inl (
      so.0,
      record {
        answered = end.answered;
        dsn = end.extensions.dsn;
        cut = subst (λ (r : List Reply). CutsReplies input r []) (all-answered delivery replies each)
            (subst (λ (r : List ℕ). CutsReplies input replies r) so.1 cut);
        each = settled_by_its_reply delivery replies verdicts (e ∙ ap (λ (v : List Verdict). Some v) (sym same));
      },
    )
settles-by delivery input told verdicts replies rest None cut each e (inl so) = let none = so.2 in absurd (cc)
settles-by delivery input told verdicts replies rest None cut each e (inr (inl so)) =
    let same = so.2 in
    inr (record { replies = replies; rest = rest; cut = cut; why = inl (so.0, so.1) }, cc)
settles-by delivery input told verdicts replies rest None cut each e (inr (inr so)) =
    let same = so.2 in
    inr (record { replies = replies; rest = rest; cut = cut; why = inr (so.0, so.1) }, cc)

pub course_settles : CourseSettles
course_settles host envelope text places input told output verdicts is =
    let runs = is.runs in
    let delivery : Delivery = delivery_of host envelope text is.dot_text places in
    settles-by delivery input told verdicts runs.replies runs.rest (progress delivery runs.replies).verdicts runs.cut
    runs.each refl runs.concludes
