-- What waits, and how an attempt has ended: RCPTs in the order of the places, DATA and the content alone.
use Rattle.std.proofs.Common.{◌≡◌, ◌⊎◌, inl, inr, ℕ, Bool, true, false, List, [], ◌∷◌, ◌++◌, Option, Some, None, refl, sym, ap, ◌∙◌, subst, cond, lit<}
use Rattle.std.proofs.lemmas.List.{append_assoc, append-nil, map-append}
use Rattle.std.proofs.lemmas.List.Concat.{flat_map-append}
use Rattle.std.proofs.lemmas.List.Elements.{Contains-append_right}
use Rattle.std.specs.List.{Contains, flat_map}
use Rattle.relay_octets.specs.Beginning.{Begins}
use Rattle.relay_lines.specs.Reply.{Reply}
use Rattle.relay_body.specs.DotText.{ends_in_line_end}
use Rattle.relay_book.specs.declared.change.Verdict.{Verdict}
use Rattle.relay_book.specs.declared.change.Verdict.TheVariants.{Later, CantSend}
use Rattle.relay_course.specs.declared.awaited.Awaited.{Awaited}
use Rattle.relay_course.specs.declared.awaited.Awaited.TheVariants.{Greeting, Ehlo, Helo, Mail, Rcpt, Data, Content}
use Rattle.relay_course.specs.declared.reply_kind.ReplyKind.{ReplyKind}
use Rattle.relay_course.specs.declared.reply_kind.ReplyKind.TheVariants.{Completion, Intermediate, Permanent}
use Rattle.relay_course.specs.Extensions.{extensions_of}
use Rattle.relay_course.specs.WrittenLine.{ehlo_line, helo_line, mail_line, data_line, last_chunk}
use Rattle.relay_course.specs.VerdictTable.{content_verdict_by, kind_of, refusal, some_accepted, verdicts_of}
use Rattle.relay_course.specs.Progress.{Delivery, Answered, Progress, answer_of, rcpt_replies, with_command, ended_by, with_rcpt, with_rcpts, with_content, after_rcpts, with_next, with_mail, after_hello, after_answer, at_greeting, with_answer, after_reply, after_replies, progress}
use Rattle.relay_course.specs.Laws.{EndWaitsForNothing, if_rcpt_place, rcpt_places, replies_in}
use Rattle.relay_course.proofs.GoingLemmas.{answered_by}

-- the places whose RCPT waits
abbrev pub waiting_places : List Awaited → List ℕ
waiting_places waits = flat_map if_rcpt_place waits

-- the replies to the content
abbrev pub if_content : Awaited → Reply → List Reply
if_content Content reply = reply ∷ []
if_content _ reply = []

abbrev pub content_replies_in : List Answered → List Reply
content_replies_in answered = flat_map (λ one. if_content one.waited one.reply) answered

abbrev pub IsNone : {A : Type 0} → List A → Type 0
IsNone [] = Unit {0}
IsNone (x ∷ xs) = ⊥

pub none-is : {A : Type 0} (xs : List A) → IsNone xs → xs ≡ []
none-is [] h = refl
none-is (x ∷ xs) h = absurd h

-- RCPTs and nothing else
abbrev pub AreRcpts : List Awaited → Type 0
AreRcpts [] = Unit {0}
AreRcpts (Rcpt place ∷ waits) = AreRcpts waits
AreRcpts (_ ∷ waits) = ⊥

-- a MAIL and RCPTs after it, of which the first may be answered
abbrev IsGroup : List Awaited → Type 0
IsGroup (Mail ∷ waits) = AreRcpts waits
IsGroup waits = AreRcpts waits

-- what waits together, and whether places are unasked then
abbrev pub MayWait : List Awaited → List ℕ → Type 0
MayWait [] unasked = Unit {0}
MayWait (Greeting ∷ waits) unasked = IsNone waits
MayWait (Ehlo ∷ waits) unasked = IsNone waits
MayWait (Helo ∷ waits) unasked = IsNone waits
MayWait (Mail ∷ waits) unasked = AreRcpts waits
MayWait (Rcpt place ∷ waits) unasked = AreRcpts waits
MayWait (Data ∷ waits) unasked = IsNone waits × IsNone unasked
MayWait (Content ∷ waits) unasked = IsNone waits × IsNone unasked

-- the RCPTs answered, waiting and unasked are the places in order
abbrev pub Places : Delivery → Progress → Type 0
Places delivery now = rcpt_places now.answered ++ (waiting_places now.waits ++ now.unasked) ≡ delivery.places

-- an attempt that goes on
abbrev pub IsOrderly : Delivery → Progress → Type 0
IsOrderly delivery now =
    Places delivery now × MayWait now.waits now.unasked × (content_replies_in now.answered ≡ [])

-- an attempt that the content's reply ended, after all RCPTs
abbrev pub EndedByContent : Delivery → Progress → Verdict → Type 0
EndedByContent delivery end last =
    (content : Reply) × (content_replies_in end.answered ≡ content ∷ [])
    × (last ≡ content_verdict_by end.extensions.dsn (kind_of content.code) content)
    × (rcpt_places end.answered ≡ delivery.places)

-- an attempt that ended before: nothing is Taken
abbrev pub EndedBefore : Progress → Verdict → Type 0
EndedBefore end last =
    (content_replies_in end.answered ≡ [])
    × ((last ≡ Later) ⊎ ((last ≡ CantSend)
    ⊎ ((reply : Reply) × Contains (replies_in end.answered) reply × (last ≡ refusal reply))))

-- an attempt that has ended with these verdicts
abbrev pub IsOver : Delivery → Progress → List Verdict → Type 0
IsOver delivery end all =
    (end.waits ≡ []) × Begins (rcpt_places end.answered) delivery.places
    × ((last : Verdict) × (all ≡ verdicts_of delivery.places (rcpt_replies end.answered) last)
    × (EndedByContent delivery end last ⊎ EndedBefore end last))

abbrev pub StandsBy : Delivery → Progress → Option (List Verdict) → Type 0
StandsBy delivery now None = IsOrderly delivery now
StandsBy delivery now (Some all) = IsOver delivery now all

abbrev pub Stands : Delivery → Progress → Type 0
Stands delivery now = StandsBy delivery now now.verdicts

-- what is known between an answer and what is done then
abbrev IsOpen : Delivery → Progress → Type 0
IsOpen delivery now = (now.verdicts ≡ None) × Places delivery now × (content_replies_in now.answered ≡ [])

orderly-stands : (delivery : Delivery) (now : Progress) → now.verdicts ≡ None → IsOrderly delivery now → Stands delivery now
orderly-stands delivery now e is =
    subst (λ (verdicts : Option (List Verdict)). StandsBy delivery now verdicts) (sym e) is

-- of two the one that a test chooses
chosen : (delivery : Delivery) (test : Bool) (one other : Progress) → Stands delivery one → Stands delivery other
    → Stands delivery (cond test one other)
chosen delivery true one other a b = a
chosen delivery false one other a b = b

-- the ends before the content
before : (delivery : Delivery) (last : Verdict) (now : Progress) → IsOpen delivery now
    → (last ≡ Later) ⊎ ((last ≡ CantSend)
    ⊎ ((reply : Reply) × Contains (replies_in now.answered) reply × (last ≡ refusal reply)))
    → Stands delivery (ended_by delivery last now)
before delivery last now is why =
    (refl, (waiting_places now.waits ++ now.unasked, sym is.1), (last, refl, inr (is.2, why)))

later : (delivery : Delivery) (now : Progress) → IsOpen delivery now → Stands delivery (ended_by delivery Later now)
later delivery now is = before delivery Later now is (inl refl)

refused : (delivery : Delivery) (waited : Awaited) (reply : Reply) (answered : List Answered) (now : Progress)
    → now.answered ≡ answered ++ answer_of waited reply ∷ []
    → IsOpen delivery now → Stands delivery (ended_by delivery (refusal reply) now)
refused delivery waited reply answered now e is =
    let one : List Answered = answer_of waited reply ∷ [] in
    let line : replies_in now.answered ≡ replies_in answered ++ reply ∷ [] =
    ap (λ l. replies_in l) e ∙ map-append (λ (a : Answered). a.reply) answered one in
    before delivery (refusal reply) now is (inr (inr (
      reply,
      subst (λ (l : List Reply). Contains l reply) (sym line)
          (Contains-append_right (replies_in answered) (reply ∷ []) reply (0, lit< tt, refl)),
      refl,
    )))

-- where nothing waited, a command that is no RCPT waits alone
alone-places : (delivery : Delivery) (command : List ℕ) (waited : Awaited) (now : Progress) → now.waits ≡ []
    → if_rcpt_place waited ≡ [] → Places delivery now → Places delivery (with_command command waited now)
alone-places delivery command waited now none free places =
    let front : List ℕ = rcpt_places now.answered in
    let here : waiting_places (now.waits ++ waited ∷ []) ≡ waiting_places now.waits =
    ap (λ (w : List Awaited). waiting_places (w ++ waited ∷ [])) none ∙ ap (λ l. l ++ []) free
    ∙ sym (ap (λ (w : List Awaited). waiting_places w) none) in
    ap (λ l. front ++ (l ++ now.unasked)) here ∙ places

alone : (delivery : Delivery) (command : List ℕ) (waited : Awaited) (now : Progress) → now.waits ≡ []
    → if_rcpt_place waited ≡ [] → MayWait (waited ∷ []) now.unasked → IsOpen delivery now
    → Stands delivery (with_command command waited now)
alone delivery command waited now none free may is =
    orderly-stands delivery (with_command command waited now) is.0 (
      alone-places delivery command waited now none free is.1,
      subst (λ (w : List Awaited). MayWait (w ++ waited ∷ []) now.unasked) (sym none) may,
      is.2,
    )

rcpts-more : (waits : List Awaited) (place : ℕ) → AreRcpts waits → AreRcpts (waits ++ Rcpt place ∷ [])
rcpts-more [] place h = tt
rcpts-more (Greeting ∷ waits) place h = absurd h
rcpts-more (Ehlo ∷ waits) place h = absurd h
rcpts-more (Helo ∷ waits) place h = absurd h
rcpts-more (Mail ∷ waits) place h = absurd h
rcpts-more (Rcpt other ∷ waits) place h = rcpts-more waits place h
rcpts-more (Data ∷ waits) place h = absurd h
rcpts-more (Content ∷ waits) place h = absurd h

group-more : (waits : List Awaited) (place : ℕ) → IsGroup waits → IsGroup (waits ++ Rcpt place ∷ [])
group-more [] place h = tt
group-more (Greeting ∷ waits) place h = absurd h
group-more (Ehlo ∷ waits) place h = absurd h
group-more (Helo ∷ waits) place h = absurd h
group-more (Mail ∷ waits) place h = rcpts-more waits place h
group-more (Rcpt other ∷ waits) place h = rcpts-more waits place h
group-more (Data ∷ waits) place h = absurd h
group-more (Content ∷ waits) place h = absurd h

group-may : (waits : List Awaited) (unasked : List ℕ) → IsGroup waits → MayWait waits unasked
group-may [] unasked h = tt
group-may (Greeting ∷ waits) unasked h = absurd h
group-may (Ehlo ∷ waits) unasked h = absurd h
group-may (Helo ∷ waits) unasked h = absurd h
group-may (Mail ∷ waits) unasked h = h
group-may (Rcpt other ∷ waits) unasked h = h
group-may (Data ∷ waits) unasked h = absurd h
group-may (Content ∷ waits) unasked h = absurd h

rcpts-group : (waits : List Awaited) → AreRcpts waits → IsGroup waits
rcpts-group [] h = h
rcpts-group (Greeting ∷ waits) h = absurd h
rcpts-group (Ehlo ∷ waits) h = absurd h
rcpts-group (Helo ∷ waits) h = absurd h
rcpts-group (Mail ∷ waits) h = absurd h
rcpts-group (Rcpt other ∷ waits) h = h
rcpts-group (Data ∷ waits) h = absurd h
rcpts-group (Content ∷ waits) h = absurd h

-- the RCPT of the next place waits after the others
rcpt-places : (delivery : Delivery) (place : ℕ) (more : List ℕ) (now : Progress) → now.unasked ≡ place ∷ more
    → Places delivery now → Places delivery (with_rcpt delivery place more now)
rcpt-places delivery place more now next places =
    let front : List ℕ = rcpt_places now.answered in
    let waiting : List ℕ = waiting_places now.waits in
    ap (λ l. front ++ (l ++ more)) (flat_map-append if_rcpt_place now.waits (Rcpt place ∷ []))
    ∙ ap (λ l. front ++ l) (append_assoc waiting (place ∷ []) more)
    ∙ ap (λ l. front ++ (waiting ++ l)) (sym next) ∙ places

-- a group of RCPTs
group : (delivery : Delivery) (places : List ℕ) (now : Progress) → now.unasked ≡ places → IsGroup now.waits
    → IsOpen delivery now → Stands delivery (with_rcpts delivery places now)
group delivery [] now next may is =
    orderly-stands delivery now is.0 (is.1, group-may now.waits now.unasked may, is.2)
group delivery (place ∷ places) now next may is =
    group delivery places (with_rcpt delivery place places now) refl (group-more now.waits place may)
    (is.0, rcpt-places delivery place places now next is.1, is.2)

mail-stands : (delivery : Delivery) (now : Progress) → now.waits ≡ [] → IsOpen delivery now
    → Stands delivery (with_mail delivery now)
mail-stands delivery now none is =
    let line : List ℕ = mail_line now.extensions.dsn delivery.envelope in
    let mail : Progress = with_command line Mail now in
    chosen delivery now.extensions.pipelining (with_rcpts delivery now.unasked mail) mail
    (group delivery now.unasked mail refl
    (subst (λ (w : List Awaited). IsGroup (w ++ Mail ∷ [])) (sym none) tt)
    (is.0, alone-places delivery line Mail now none refl is.1, is.2))
    (alone delivery line Mail now none refl tt is)

hello-stands : (delivery : Delivery) (now : Progress) → now.waits ≡ [] → IsOpen delivery now
    → Stands delivery (after_hello delivery now)
hello-stands delivery now none is =
    let cant : Progress = ended_by delivery CantSend now in
    chosen delivery (ends_in_line_end delivery.text) (with_mail delivery now)
    (cond now.extensions.chunking (with_mail delivery now) cant)
    (mail-stands delivery now none is)
    (chosen delivery now.extensions.chunking (with_mail delivery now) cant (mail-stands delivery now none is)
    (before delivery CantSend now is (inr (inl refl))))

content-stands : (delivery : Delivery) (now : Progress) → now.waits ≡ [] → now.unasked ≡ [] → IsOpen delivery now
    → Stands delivery (with_content delivery now)
content-stands delivery now none all is =
    let may : IsNone now.unasked = subst (λ (l : List ℕ). IsNone l) (sym all) tt in
    chosen delivery (ends_in_line_end delivery.text) (with_command data_line Data now)
    (with_command (last_chunk delivery.text) Content now)
    (alone delivery data_line Data now none refl (tt, may) is)
    (alone delivery (last_chunk delivery.text) Content now none refl (tt, may) is)

rcpts-stand : (delivery : Delivery) (now : Progress) → now.waits ≡ [] → now.unasked ≡ [] → IsOpen delivery now
    → Stands delivery (after_rcpts delivery now)
rcpts-stand delivery now none all is =
    chosen delivery (some_accepted (rcpt_replies now.answered)) (with_content delivery now) (ended_by delivery Later now)
    (content-stands delivery now none all is) (later delivery now is)

next-stands : (delivery : Delivery) (waits : List Awaited) (unasked : List ℕ) (now : Progress) → waits ≡ now.waits
    → unasked ≡ now.unasked → AreRcpts waits → IsOpen delivery now → Stands delivery (with_next delivery waits unasked now)
next-stands delivery (waited ∷ waits) unasked now w u may is =
    orderly-stands delivery now is.0 (
      is.1,
      group-may now.waits now.unasked
          (subst (λ (l : List Awaited). IsGroup l) w (rcpts-group (waited ∷ waits) may)),
      is.2,
    )
next-stands delivery [] (place ∷ more) now w u may is =
    orderly-stands delivery (with_rcpt delivery place more now) is.0 (
      rcpt-places delivery place more now (sym u) is.1,
      group-may (now.waits ++ Rcpt place ∷ []) more
          (group-more now.waits place (subst (λ (l : List Awaited). IsGroup l) w tt)),
      is.2,
    )
next-stands delivery [] [] now w u may is = rcpts-stand delivery now (sym w) (sym u) is

-- the RCPT that was answered moves from those that wait to those that were answered
pub answered-places : (delivery : Delivery) (waited : Awaited) (waits : List Awaited) (reply : Reply) (old : Progress)
    → rcpt_places old.answered ++ (waiting_places (waited ∷ waits) ++ old.unasked) ≡ delivery.places
    → Places delivery (answered_by waited waits reply old)
answered-places delivery waited waits reply old places =
    let front : List ℕ = rcpt_places old.answered in
    let place : List ℕ = if_rcpt_place waited in
    let rest : List ℕ = waiting_places waits ++ old.unasked in
    let place_of : Answered → List ℕ = λ one. if_rcpt_place one.waited in
    ap (λ l. l ++ rest) (flat_map-append place_of old.answered (answer_of waited reply ∷ []))
    ∙ ap (λ l. (front ++ l) ++ rest) (append-nil place)
    ∙ append_assoc front place rest
    ∙ ap (λ l. front ++ l) (sym (append_assoc place (waiting_places waits) old.unasked)) ∙ places

answered-content : (waited : Awaited) (reply : Reply) (answered : List Answered) → content_replies_in answered ≡ []
    → content_replies_in (answered ++ answer_of waited reply ∷ []) ≡ if_content waited reply
answered-content waited reply answered none =
    let content_of : Answered → List Reply = λ one. if_content one.waited one.reply in
    flat_map-append content_of answered (answer_of waited reply ∷ [])
    ∙ ap (λ l. l ++ (if_content waited reply ++ [])) none ∙ append-nil (if_content waited reply)

-- the content's reply ends the attempt
content-ends : (delivery : Delivery) (waits : List Awaited) (kind : ReplyKind) (reply : Reply) (old : Progress)
    → kind ≡ kind_of reply.code → MayWait (Content ∷ waits) old.unasked
    → Places delivery (answered_by Content waits reply old) → content_replies_in old.answered ≡ []
    → Stands delivery (after_answer delivery Content kind reply (answered_by Content waits reply old))
content-ends delivery waits kind reply old same may places none =
    let now : Progress = answered_by Content waits reply old in
    let last : Verdict = content_verdict_by old.extensions.dsn kind reply in
    let front : List ℕ = rcpt_places now.answered in
    let all : front ≡ delivery.places =
    sym (append-nil front)
    ∙ ap (λ l. front ++ (l ++ [])) (sym (ap waiting_places (none-is waits may.0)))
    ∙ ap (λ l. front ++ (waiting_places waits ++ l)) (sym (none-is old.unasked may.1)) ∙ places in (
      refl,
      (waiting_places waits ++ old.unasked, sym places),
      (
        last,
        refl,
        inl (
          reply,
          answered-content Content reply old.answered none,
          ap (λ (k : ReplyKind). content_verdict_by old.extensions.dsn k reply) same,
          all,
        ),
      ),
    )

-- what is known after an answer that isn't the content's
open-after : (delivery : Delivery) (waited : Awaited) (waits : List Awaited) (reply : Reply) (old : Progress)
    → if_content waited reply ≡ [] → old.verdicts ≡ None → Places delivery (answered_by waited waits reply old)
    → content_replies_in old.answered ≡ [] → IsOpen delivery (answered_by waited waits reply old)
open-after delivery waited waits reply old other runs places none =
    (runs, places, answered-content waited reply old.answered none ∙ other)

-- each row of the table keeps the order
answer-stands : (delivery : Delivery) (waited : Awaited) (waits : List Awaited) (kind : ReplyKind) (reply : Reply)
    (old : Progress)
    → kind ≡ kind_of reply.code → old.verdicts ≡ None → MayWait (waited ∷ waits) old.unasked
    → Places delivery (answered_by waited waits reply old) → content_replies_in old.answered ≡ []
    → Stands delivery (after_answer delivery waited kind reply (answered_by waited waits reply old))
answer-stands delivery Greeting waits Completion reply old same runs may places none =
    alone delivery (ehlo_line delivery.host) Ehlo (answered_by Greeting waits reply old) (none-is waits may) refl tt
    (open-after delivery Greeting waits reply old refl runs places none)
answer-stands delivery Greeting waits Permanent reply old same runs may places none =
    refused delivery Greeting reply old.answered (answered_by Greeting waits reply old) refl
    (open-after delivery Greeting waits reply old refl runs places none)
answer-stands delivery Greeting waits _ reply old same runs may places none =
    later delivery (answered_by Greeting waits reply old) (open-after delivery Greeting waits reply old refl runs places none)
answer-stands delivery Ehlo waits Completion reply old same runs may places none =
    hello-stands delivery (record (answered_by Ehlo waits reply old) { extensions = extensions_of reply })
    (none-is waits may) (open-after delivery Ehlo waits reply old refl runs places none)
answer-stands delivery Ehlo waits Permanent reply old same runs may places none =
    alone delivery (helo_line delivery.host) Helo (answered_by Ehlo waits reply old) (none-is waits may) refl tt
    (open-after delivery Ehlo waits reply old refl runs places none)
answer-stands delivery Ehlo waits _ reply old same runs may places none =
    later delivery (answered_by Ehlo waits reply old) (open-after delivery Ehlo waits reply old refl runs places none)
answer-stands delivery Helo waits Completion reply old same runs may places none =
    hello-stands delivery (answered_by Helo waits reply old) (none-is waits may)
    (open-after delivery Helo waits reply old refl runs places none)
answer-stands delivery Helo waits Permanent reply old same runs may places none =
    refused delivery Helo reply old.answered (answered_by Helo waits reply old) refl
    (open-after delivery Helo waits reply old refl runs places none)
answer-stands delivery Helo waits _ reply old same runs may places none =
    later delivery (answered_by Helo waits reply old) (open-after delivery Helo waits reply old refl runs places none)
answer-stands delivery Mail waits Completion reply old same runs may places none =
    next-stands delivery waits old.unasked (answered_by Mail waits reply old) refl refl may
    (open-after delivery Mail waits reply old refl runs places none)
answer-stands delivery Mail waits Permanent reply old same runs may places none =
    refused delivery Mail reply old.answered (answered_by Mail waits reply old) refl
    (open-after delivery Mail waits reply old refl runs places none)
answer-stands delivery Mail waits _ reply old same runs may places none =
    later delivery (answered_by Mail waits reply old) (open-after delivery Mail waits reply old refl runs places none)
answer-stands delivery (Rcpt place) waits _ reply old same runs may places none =
    next-stands delivery waits old.unasked (answered_by (Rcpt place) waits reply old) refl refl may
    (open-after delivery (Rcpt place) waits reply old refl runs places none)
answer-stands delivery Data waits Intermediate reply old same runs may places none =
    alone delivery delivery.dot_text Content (answered_by Data waits reply old) (none-is waits may.0) refl
    (tt, may.1) (open-after delivery Data waits reply old refl runs places none)
answer-stands delivery Data waits Permanent reply old same runs may places none =
    refused delivery Data reply old.answered (answered_by Data waits reply old) refl
    (open-after delivery Data waits reply old refl runs places none)
answer-stands delivery Data waits _ reply old same runs may places none =
    later delivery (answered_by Data waits reply old) (open-after delivery Data waits reply old refl runs places none)
answer-stands delivery Content waits kind reply old same runs may places none =
    content-ends delivery waits kind reply old same may places none

-- where something waits, it hasn't ended
pub runs-still : (delivery : Delivery) (now : Progress) (verdicts : Option (List Verdict)) (waited : Awaited)
    (waits : List Awaited)
    → waited ∷ waits ≡ now.waits → StandsBy delivery now verdicts → (verdicts ≡ None) × IsOrderly delivery now
runs-still delivery now None waited waits w stands = (refl, stands)
runs-still delivery now (Some all) waited waits w stands = let none = stands.0 in absurd (cc)

pub with_answer-stands : (delivery : Delivery) (waits : List Awaited) (reply : Reply) (now : Progress) → waits ≡ now.waits
    → Stands delivery now → Stands delivery (with_answer delivery waits reply now)
with_answer-stands delivery [] reply now w stands = stands
with_answer-stands delivery (waited ∷ waits) reply now w stands =
    let ran = runs-still delivery now now.verdicts waited waits w stands in
    let front : List ℕ = rcpt_places now.answered in
    answer-stands delivery waited waits (kind_of reply.code) reply now refl ran.0
    (subst (λ (l : List Awaited). MayWait l now.unasked) (sym w) ran.1.1)
    (answered-places delivery waited waits reply now
    (ap (λ l. front ++ (waiting_places l ++ now.unasked)) w ∙ ran.1.0))
    ran.1.2

along-stands : (delivery : Delivery) (now : Progress) (replies : List Reply) → Stands delivery now
    → Stands delivery (after_replies delivery now replies)
along-stands delivery now [] stands = stands
along-stands delivery now (reply ∷ replies) stands =
    along-stands delivery (after_reply delivery now reply) replies
    (with_answer-stands delivery now.waits reply now refl stands)

-- every attempt stands so
pub progress-stands : (delivery : Delivery) (replies : List Reply) → Stands delivery (progress delivery replies)
progress-stands delivery replies = along-stands delivery (at_greeting delivery) replies (refl, tt, refl)

-- and has ended so
pub ended-over : (delivery : Delivery) (replies : List Reply) (verdicts : List Verdict)
    → (progress delivery replies).verdicts ≡ Some verdicts → IsOver delivery (progress delivery replies) verdicts
ended-over delivery replies verdicts e =
    subst (λ (v : Option (List Verdict)). StandsBy delivery (progress delivery replies) v) e
    (progress-stands delivery replies)

pub end_waits_for_nothing : EndWaitsForNothing
end_waits_for_nothing delivery replies verdicts e = (ended-over delivery replies verdicts e).0
