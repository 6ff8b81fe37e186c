-- The places whose RCPT was accepted, by the row of all replies to an attempt: each of them answers what was written in turn.
use Rattle.std.proofs.Common.{◌≡◌, ℕ, ◌+◌, Bool, true, false, List, [], ◌∷◌, ◌++◌, length, drop, refl, sym, ap, ◌∙◌, arith, if◌then◌else◌}
use Rattle.std.proofs.lemmas.Grind.{flat_map-append}
use Rattle.std.proofs.lemmas.List.{append_assoc, append-nil, length-append}
use Rattle.relay_lines.specs.Reply.{Reply}
use Rattle.relay_body.specs.DotText.{ends_in_line_end}
use Rattle.relay_book.specs.declared.change.Verdict.{Verdict}
use Rattle.relay_book.specs.declared.change.Verdict.TheVariants.{Later, CantSend}
use Rattle.relay_course.specs.declared.awaited.Awaited.{Awaited}
use Rattle.relay_course.specs.declared.awaited.Awaited.TheVariants.{Greeting, Ehlo, Helo, Mail, Rcpt, Data, Content}
use Rattle.relay_course.specs.declared.reply_kind.ReplyKind.{ReplyKind}
use Rattle.relay_course.specs.declared.reply_kind.ReplyKind.TheVariants.{Completion, Intermediate, Transient, Permanent}
use Rattle.relay_course.specs.Extensions.{extensions_of}
use Rattle.relay_course.specs.Laws.{accepted_places, if_accepted_place}
use Rattle.relay_course.specs.VerdictTable.{content_verdict_by, is_accepted, kind_of, refusal, some_accepted}
use Rattle.relay_course.specs.WrittenLine.{data_line, ehlo_line, helo_line, last_chunk, mail_line}
use Rattle.relay_course.specs.Progress.{Answered, Delivery, Progress, answer_of, at_greeting, after_answer, after_hello, after_replies, ended_by, gone_on, progress, rcpt_replies, with_answer, with_command, with_content, with_mail, with_next, with_rcpt, with_rcpts}
use Rattle.relay_pair.specs.Copied.{after_mail, is_greeted_again}

-- the places whose RCPT was accepted, by replies that come in the order of the places
abbrev pub accepted_in : List ℕ → List Reply → List ℕ
accepted_in [] replies = []
accepted_in (place ∷ places) [] = []
accepted_in (place ∷ places) (reply ∷ replies) = (if is_accepted reply then place ∷ [] else []) ++ accepted_in places replies

-- RCPTs of places that wait for their replies
abbrev rcpts : List ℕ → List Awaited
rcpts [] = []
rcpts (place ∷ places) = Rcpt place ∷ rcpts places

-- no RCPT waits, and none will be written
data Quiet : List Awaited → Type 0 where
  Over : Quiet []
  AwaitsData : Quiet (Data ∷ [])
  AwaitsContent : Quiet (Content ∷ [])

-- one answer more
one_more : (answered : List Answered) (one : Answered)
    → accepted_places (answered ++ one ∷ []) ≡ accepted_places answered ++ if_accepted_place one.waited one.reply
one_more answered one = flat_map-append (λ (a : Answered). if_accepted_place a.waited a.reply) answered (one ∷ [])
    ∙ ap (λ l. accepted_places answered ++ l) (append-nil (if_accepted_place one.waited one.reply))

module _ (delivery : Delivery) where
  abbrev After : Progress → List Reply → Progress
  After old replies = after_replies delivery old replies

  abbrev Accepts : Progress → List Reply → List ℕ
  Accepts old replies = accepted_places (After old replies).answered

  -- where nothing waits replies change nothing
  over_stays : (replies : List Reply) (old : Progress) → old.waits ≡ [] → After old replies ≡ old
  over_stays [] old over = refl
  over_stays (reply ∷ replies) old over =
      ap (λ (p : Progress). After p replies) (ap (λ (w : List Awaited). with_answer delivery w reply old) over)
      ∙ over_stays replies old over

  -- a row of replies all of which answer something, after one that ended it, is empty
  none_after : (replies : List Reply) (old : Progress) (before : ℕ) → old.waits ≡ []
      → length (After old replies).answered ≡ before + length replies → length old.answered ≡ before → replies ≡ []
  none_after [] old before over each had = refl
  none_after (reply ∷ replies) old before over each had =
      absurd (omega (arith, sym (ap (λ (p : Progress). length p.answered) (over_stays (reply ∷ replies) old over)) ∙ each, had))

  -- a reply after the last RCPT accepts no place
  content_ends : (kind : ReplyKind) (reply : Reply) (old : Progress)
      → after_answer delivery Content kind reply old ≡ ended_by delivery (content_verdict_by old.extensions.dsn kind reply) old
  content_ends kind reply old = refl

  quiet_content : (replies : List Reply) (old : Progress) → old.waits ≡ Content ∷ [] → Accepts old replies ≡ accepted_places old.answered
  quiet_content [] old waits = refl
  quiet_content (reply ∷ replies) old waits =
      let next : Progress = record old { waits = []; answered = old.answered ++ answer_of Content reply ∷ [] } in
      let ended : Progress = ended_by delivery (content_verdict_by next.extensions.dsn (kind_of reply.code) reply) next in
      ap (λ (w : List Awaited). Accepts (with_answer delivery w reply old) replies) waits
      ∙ ap (λ (p : Progress). accepted_places p.answered) (over_stays replies ended refl)
      ∙ one_more old.answered (answer_of Content reply) ∙ append-nil (accepted_places old.answered)

  after_data : (kind : ReplyKind) (reply : Reply) (replies : List Reply) (old : Progress) → old.waits ≡ []
      → Accepts (after_answer delivery Data kind reply old) replies ≡ accepted_places old.answered
  after_data Completion reply replies old waits =
      ap (λ (p : Progress). accepted_places p.answered) (over_stays replies (ended_by delivery Later old) refl)
  after_data Intermediate reply replies old waits =
      quiet_content replies (with_command delivery.dot_text Content old) (ap (λ (w : List Awaited). w ++ Content ∷ []) waits)
  after_data Transient reply replies old waits =
      ap (λ (p : Progress). accepted_places p.answered) (over_stays replies (ended_by delivery Later old) refl)
  after_data Permanent reply replies old waits =
      ap (λ (p : Progress). accepted_places p.answered) (over_stays replies (ended_by delivery (refusal reply) old) refl)

  quiet_data : (replies : List Reply) (old : Progress) → old.waits ≡ Data ∷ [] → Accepts old replies ≡ accepted_places old.answered
  quiet_data [] old waits = refl
  quiet_data (reply ∷ replies) old waits =
      let next : Progress = record old { waits = []; answered = old.answered ++ answer_of Data reply ∷ [] } in
      ap (λ (w : List Awaited). Accepts (with_answer delivery w reply old) replies) waits
      ∙ after_data (kind_of reply.code) reply replies next refl
      ∙ one_more old.answered (answer_of Data reply) ∙ append-nil (accepted_places old.answered)

  -- after the last RCPT's reply no place is accepted any more
  content_by : (whole : Bool) (line chunk : List ℕ) (replies : List Reply) (old : Progress) → old.waits ≡ []
      → Accepts (if whole then with_command line Data old else with_command chunk Content old) replies ≡ accepted_places old.answered
  content_by true line chunk replies old waits =
      quiet_data replies (with_command line Data old) (ap (λ (w : List Awaited). w ++ Data ∷ []) waits)
  content_by false line chunk replies old waits =
      quiet_content replies (with_command chunk Content old) (ap (λ (w : List Awaited). w ++ Content ∷ []) waits)

  rcpts_done : (some : Bool) (replies : List Reply) (old : Progress) → old.waits ≡ []
      → Accepts (if some then with_content delivery old else ended_by delivery Later old) replies ≡ accepted_places old.answered
  rcpts_done true replies old waits =
      content_by (ends_in_line_end delivery.text) data_line (last_chunk delivery.text) replies old waits
  rcpts_done false replies old waits =
      ap (λ (p : Progress). accepted_places p.answered) (over_stays replies (ended_by delivery Later old) refl)

  -- RCPTs wait, and others will be written: the replies are theirs, in turn
  abbrev AnswersRcpts : List Reply → Type 0
  AnswersRcpts replies =
      (old : Progress) (place : ℕ) (waiting unasked : List ℕ) → old.waits ≡ Rcpt place ∷ rcpts waiting → old.unasked ≡ unasked
      → Accepts old replies ≡ accepted_places old.answered ++ accepted_in (place ∷ (waiting ++ unasked)) replies

  goes_on : (replies : List Reply) → AnswersRcpts replies → (old : Progress) (waiting unasked : List ℕ)
      → old.waits ≡ rcpts waiting → old.unasked ≡ unasked
      → Accepts (gone_on delivery old) replies ≡ accepted_places old.answered ++ accepted_in (waiting ++ unasked) replies
  goes_on replies others old (place ∷ waiting) unasked waits left =
      ap (λ (w : List Awaited). Accepts (with_next delivery w old.unasked old) replies) waits
      ∙ others old place waiting unasked waits left
  goes_on replies others old [] (place ∷ unasked) waits left =
      ap (λ (w : List Awaited). Accepts (with_next delivery w old.unasked old) replies) waits
      ∙ ap (λ (u : List ℕ). Accepts (with_next delivery [] u old) replies) left
      ∙ others (with_rcpt delivery place unasked old) place [] unasked (ap (λ (w : List Awaited). w ++ Rcpt place ∷ []) waits) refl
  goes_on replies others old [] [] waits left =
      ap (λ (w : List Awaited). Accepts (with_next delivery w old.unasked old) replies) waits
      ∙ ap (λ (u : List ℕ). Accepts (with_next delivery [] u old) replies) left
      ∙ rcpts_done (some_accepted (rcpt_replies old.answered)) replies old waits
      ∙ sym (append-nil (accepted_places old.answered))

  answers_rcpts : (replies : List Reply) → AnswersRcpts replies
  answers_rcpts [] old place waiting unasked waits left = sym (append-nil (accepted_places old.answered))
  answers_rcpts (reply ∷ replies) old place waiting unasked waits left =
      let next : Progress = record old { waits = rcpts waiting; answered = old.answered ++ answer_of (Rcpt place) reply ∷ [] } in
      let others : List ℕ = accepted_in (waiting ++ unasked) replies in
      ap (λ (w : List Awaited). Accepts (with_answer delivery w reply old) replies) waits
      ∙ goes_on replies (answers_rcpts replies) next waiting unasked refl left
      ∙ ap (λ (l : List ℕ). l ++ others) (one_more old.answered (answer_of (Rcpt place) reply))
      ∙ append_assoc (accepted_places old.answered) (if is_accepted reply then place ∷ [] else []) others

  accepted_none : (places : List ℕ) → accepted_in places [] ≡ []
  accepted_none [] = refl
  accepted_none (place ∷ places) = refl

  -- a reply ends the attempt: it is the last one, since each answers something
  ends_here : (verdict : Verdict) (replies : List Reply) (old : Progress) (before : ℕ) (places : List ℕ) (rest : List Reply → List Reply)
      → rest [] ≡ [] → length (After (ended_by delivery verdict old) replies).answered ≡ before + length replies
      → length old.answered ≡ before
      → Accepts (ended_by delivery verdict old) replies ≡ accepted_places old.answered ++ accepted_in places (rest replies)
  ends_here verdict replies old before places rest none each had =
      let last : replies ≡ [] = none_after replies (ended_by delivery verdict old) before refl each had in
      ap (λ (p : Progress). accepted_places p.answered) (over_stays replies (ended_by delivery verdict old) refl)
      ∙ sym (append-nil (accepted_places old.answered))
      ∙ ap (λ (l : List ℕ). accepted_places old.answered ++ l)
      (sym (ap (λ (l : List Reply). accepted_in places (rest l)) last ∙ ap (λ (l : List Reply). accepted_in places l) none
      ∙ accepted_none places))

  one_longer : (answered : List Answered) (one : Answered) → length (answered ++ one ∷ []) ≡ length answered + 1
  one_longer answered one = length-append answered (one ∷ [])

  -- each of the replies after these answers has answered something
  abbrev Each : Progress → List Answered → List Reply → Type 0
  Each start answered replies = length (After start replies).answered ≡ length answered + length replies

  -- so these places are accepted by them
  abbrev Claims : Progress → List Answered → List Reply → List ℕ → List Reply → Type 0
  Claims start answered replies places left =
      Each start answered replies → Accepts start replies ≡ accepted_places answered ++ accepted_in places left

  ends_so : (verdict : Verdict) (replies : List Reply) (old : Progress) (places : List ℕ) (rest : List Reply → List Reply)
      → rest [] ≡ [] → Claims (ended_by delivery verdict old) old.answered replies places (rest replies)
  ends_so verdict replies old places rest none each =
      ends_here verdict replies old (length old.answered) places rest none each refl

  -- one reply, which answers what waited alone
  by_one : (waited : Awaited) (reply : Reply) (replies left : List Reply) (old next start : Progress) (places : List ℕ)
      → next.answered ≡ old.answered ++ answer_of waited reply ∷ []
      → if_accepted_place waited reply ≡ [] → After old (reply ∷ replies) ≡ After start replies
      → Claims start next.answered replies places left
      → Claims old old.answered (reply ∷ replies) places left
  by_one waited reply replies left old next start places is none same claims each =
      ap (λ (p : Progress). accepted_places p.answered) same
      ∙ claims (omega (
        arith,
        each,
        ap (λ (p : Progress). length p.answered) same,
        ap length is,
        one_longer old.answered (answer_of waited reply),
      ))
      ∙ ap (λ (l : List ℕ). l ++ accepted_in places left)
      (ap accepted_places is ∙ one_more old.answered (answer_of waited reply)
      ∙ ap (λ (l : List ℕ). accepted_places old.answered ++ l) none ∙ append-nil (accepted_places old.answered))

  -- no reply has come
  by_none : (old : Progress) (places : List ℕ) → Claims old old.answered [] places []
  by_none old places each =
      sym (append-nil (accepted_places old.answered))
      ∙ ap (λ (l : List ℕ). accepted_places old.answered ++ l) (sym (accepted_none places))

  after_mail_by : (kind : ReplyKind) (reply : Reply) (replies : List Reply) (old : Progress) (waiting unasked : List ℕ)
      → old.waits ≡ rcpts waiting → old.unasked ≡ unasked
      → Claims (after_answer delivery Mail kind reply old) old.answered replies (waiting ++ unasked) replies
  after_mail_by Completion reply replies old waiting unasked waits left each =
      goes_on replies (answers_rcpts replies) old waiting unasked waits left
  after_mail_by Intermediate reply replies old waiting unasked waits left each =
      ends_so Later replies old (waiting ++ unasked) (λ l. l) refl each
  after_mail_by Transient reply replies old waiting unasked waits left each =
      ends_so Later replies old (waiting ++ unasked) (λ l. l) refl each
  after_mail_by Permanent reply replies old waiting unasked waits left each =
      ends_so (refusal reply) replies old (waiting ++ unasked) (λ l. l) refl each

  answers_mail : (replies : List Reply) (old : Progress) (waiting unasked : List ℕ) → old.waits ≡ Mail ∷ rcpts waiting
      → old.unasked ≡ unasked → Claims old old.answered replies (waiting ++ unasked) (drop 1 replies)
  answers_mail [] old waiting unasked waits left = by_none old (waiting ++ unasked)
  answers_mail (reply ∷ replies) old waiting unasked waits left =
      let next : Progress = record old { waits = rcpts waiting; answered = old.answered ++ answer_of Mail reply ∷ [] } in
      by_one Mail reply replies replies old next (after_answer delivery Mail (kind_of reply.code) reply next) (waiting ++ unasked)
      refl refl (ap (λ (w : List Awaited). After (with_answer delivery w reply old) replies) waits)
      (after_mail_by (kind_of reply.code) reply replies next waiting unasked refl left)

  -- a group of RCPTs, which is written with MAIL
  group_waits : (places : List ℕ) (old : Progress) → (with_rcpts delivery places old).waits ≡ old.waits ++ rcpts places
  group_waits [] old = sym (append-nil old.waits)
  group_waits (place ∷ places) old =
      group_waits places (with_rcpt delivery place places old) ∙ append_assoc old.waits (Rcpt place ∷ []) (rcpts places)

  group_answered : (places : List ℕ) (old : Progress) → (with_rcpts delivery places old).answered ≡ old.answered
  group_answered [] old = refl
  group_answered (place ∷ places) old = group_answered places (with_rcpt delivery place places old)

  group_unasked : (places : List ℕ) (old : Progress) → old.unasked ≡ places → (with_rcpts delivery places old).unasked ≡ []
  group_unasked [] old left = left
  group_unasked (place ∷ places) old left = group_unasked places (with_rcpt delivery place places old) refl

  mail_by : (grouped : Bool) (line : List ℕ) (replies : List Reply) (old : Progress) → old.waits ≡ [] → old.unasked ≡ delivery.places
      → Claims (if grouped then with_rcpts delivery old.unasked (with_command line Mail old) else with_command line Mail old)
      old.answered replies delivery.places (drop 1 replies)
  mail_by false line replies old waits left each =
      answers_mail replies (with_command line Mail old) [] delivery.places (ap (λ (w : List Awaited). w ++ Mail ∷ []) waits) left each
  mail_by true line replies old waits left each =
      let mail : Progress = with_command line Mail old in
      let group : Progress = with_rcpts delivery old.unasked mail in
      answers_mail replies group old.unasked []
      (group_waits old.unasked mail ∙ ap (λ (w : List Awaited). (w ++ Mail ∷ []) ++ rcpts old.unasked) waits)
      (group_unasked old.unasked mail refl)
      (each ∙ ap (λ (l : List Answered). length l + length replies) (sym (group_answered old.unasked mail)))
      ∙ ap (λ (l : List Answered). accepted_places l ++ accepted_in (old.unasked ++ []) (drop 1 replies)) (group_answered old.unasked mail)
      ∙ ap (λ (l : List ℕ). accepted_places old.answered ++ accepted_in l (drop 1 replies)) (append-nil old.unasked ∙ left)

  sends_mail : (replies : List Reply) (old : Progress) → old.waits ≡ [] → old.unasked ≡ delivery.places
      → Claims (with_mail delivery old) old.answered replies delivery.places (drop 1 replies)
  sends_mail replies old waits left = mail_by old.extensions.pipelining (mail_line old.extensions.dsn delivery.envelope) replies old waits left

  hello_by : (whole chunking : Bool) (replies : List Reply) (old : Progress) → old.waits ≡ [] → old.unasked ≡ delivery.places
      → Claims (if whole then with_mail delivery old else (if chunking then with_mail delivery old else ended_by delivery CantSend old))
      old.answered replies delivery.places (drop 1 replies)
  hello_by true chunking replies old waits left = sends_mail replies old waits left
  hello_by false true replies old waits left = sends_mail replies old waits left
  hello_by false false replies old waits left = ends_so CantSend replies old delivery.places (λ l. drop 1 l) refl

  greeted : (replies : List Reply) (old : Progress) → old.waits ≡ [] → old.unasked ≡ delivery.places
      → Claims (after_hello delivery old) old.answered replies delivery.places (drop 1 replies)
  greeted replies old waits left = hello_by (ends_in_line_end delivery.text) old.extensions.chunking replies old waits left

  -- after HELO
  after_helo_by : (kind : ReplyKind) (reply : Reply) (replies : List Reply) (old : Progress) → old.waits ≡ []
      → old.unasked ≡ delivery.places
      → Claims (after_answer delivery Helo kind reply old) old.answered replies delivery.places (drop 1 replies)
  after_helo_by Completion reply replies old waits left = greeted replies old waits left
  after_helo_by Intermediate reply replies old waits left = ends_so Later replies old delivery.places (λ l. drop 1 l) refl
  after_helo_by Transient reply replies old waits left = ends_so Later replies old delivery.places (λ l. drop 1 l) refl
  after_helo_by Permanent reply replies old waits left = ends_so (refusal reply) replies old delivery.places (λ l. drop 1 l) refl

  answers_helo : (replies : List Reply) (old : Progress) → old.waits ≡ Helo ∷ [] → old.unasked ≡ delivery.places
      → Claims old old.answered replies delivery.places (drop 2 replies)
  answers_helo [] old waits left = by_none old delivery.places
  answers_helo (reply ∷ replies) old waits left =
      let next : Progress = record old { waits = []; answered = old.answered ++ answer_of Helo reply ∷ [] } in
      by_one Helo reply replies (drop 1 replies) old next (after_answer delivery Helo (kind_of reply.code) reply next) delivery.places
      refl refl (ap (λ (w : List Awaited). After (with_answer delivery w reply old) replies) waits)
      (after_helo_by (kind_of reply.code) reply replies next refl left)

  -- after EHLO
  after_ehlo_by : (kind : ReplyKind) (reply : Reply) (replies : List Reply) (old : Progress) → old.waits ≡ []
      → old.unasked ≡ delivery.places
      → Claims (after_answer delivery Ehlo kind reply old) old.answered replies delivery.places
      (drop (if is_greeted_again kind then 2 else 1) replies)
  after_ehlo_by Completion reply replies old waits left = greeted replies (record old { extensions = extensions_of reply }) waits left
  after_ehlo_by Intermediate reply replies old waits left = ends_so Later replies old delivery.places (λ l. drop 1 l) refl
  after_ehlo_by Transient reply replies old waits left = ends_so Later replies old delivery.places (λ l. drop 1 l) refl
  after_ehlo_by Permanent reply replies old waits left =
      answers_helo replies (with_command (helo_line delivery.host) Helo old) (ap (λ (w : List Awaited). w ++ Helo ∷ []) waits) left

  abbrev after_greeting : List Reply → List Reply
  after_greeting [] = []
  after_greeting (ehlo ∷ replies) = drop (if is_greeted_again (kind_of ehlo.code) then 2 else 1) replies

  answers_ehlo : (replies : List Reply) (old : Progress) → old.waits ≡ Ehlo ∷ [] → old.unasked ≡ delivery.places
      → Claims old old.answered replies delivery.places (after_greeting replies)
  answers_ehlo [] old waits left = by_none old delivery.places
  answers_ehlo (reply ∷ replies) old waits left =
      let next : Progress = record old { waits = []; answered = old.answered ++ answer_of Ehlo reply ∷ [] } in
      by_one Ehlo reply replies (after_greeting (reply ∷ replies)) old next
      (after_answer delivery Ehlo (kind_of reply.code) reply next) delivery.places
      refl refl (ap (λ (w : List Awaited). After (with_answer delivery w reply old) replies) waits)
      (after_ehlo_by (kind_of reply.code) reply replies next refl left)

  -- after the greeting
  after_greeting_by : (kind : ReplyKind) (reply : Reply) (replies : List Reply) (old : Progress) → old.waits ≡ []
      → old.unasked ≡ delivery.places
      → Claims (after_answer delivery Greeting kind reply old) old.answered replies delivery.places (after_greeting replies)
  after_greeting_by Completion reply replies old waits left =
      answers_ehlo replies (with_command (ehlo_line delivery.host) Ehlo old) (ap (λ (w : List Awaited). w ++ Ehlo ∷ []) waits) left
  after_greeting_by Intermediate reply replies old waits left = ends_so Later replies old delivery.places after_greeting refl
  after_greeting_by Transient reply replies old waits left = ends_so Later replies old delivery.places after_greeting refl
  after_greeting_by Permanent reply replies old waits left = ends_so (refusal reply) replies old delivery.places after_greeting refl

  after_both : (greeting : Reply) (replies : List Reply) → after_greeting replies ≡ after_mail (greeting ∷ replies)
  after_both greeting [] = refl
  after_both greeting (ehlo ∷ replies) = refl

  -- the places that were accepted, where each reply has answered something
  pub accepted_by_replies : (replies : List Reply) → length (progress delivery replies).answered ≡ length replies
      → accepted_places (progress delivery replies).answered ≡ accepted_in delivery.places (after_mail replies)
  accepted_by_replies [] each = by_none (at_greeting delivery) delivery.places each
  accepted_by_replies (reply ∷ replies) each =
      let next : Progress = record (at_greeting delivery) { waits = []; answered = answer_of Greeting reply ∷ [] } in
      by_one Greeting reply replies (after_greeting replies) (at_greeting delivery) next
      (after_answer delivery Greeting (kind_of reply.code) reply next) delivery.places refl refl refl
      (after_greeting_by (kind_of reply.code) reply replies next refl refl) (omega (arith, each))
      ∙ ap (λ (l : List Reply). accepted_in delivery.places l) (after_both reply replies)
