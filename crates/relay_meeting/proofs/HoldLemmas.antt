-- Where content was offered, the client has read the replies to all RCPTs.
use Rattle.std.proofs.Common.{◌≡◌, ◌≤◌, ◌<◌, ◌⊎◌, inl, inr, ℕ, nat_le, Bool, true, false, List, [], ◌∷◌, ◌++◌, length, map, Option, None, Some, refl, sym, ap, ◌∙◌, subst, cond, arith}
use Rattle.std.proofs.lemmas.List.{append_assoc, append-nil, length-append, length-map}
use Rattle.relay_lines.specs.Reply.{Reply}
use Rattle.relay_body.specs.DotText.{ends_in_line_end}
use Rattle.relay_envelope.specs.declared.envelope.Envelope.{Envelope}
use Rattle.relay_envelope.specs.declared.envelope.Recipient.{Recipient}
use Rattle.relay_server.specs.declared.client.Client.{Client}
use Rattle.relay_server.specs.declared.reply_table.Row.TheVariants as row
use Rattle.relay_server.specs.Dialogue.{IsDialogue, Said, Turn, offered_by, offers_in, read_by}
use Rattle.relay_server.specs.Reply.{reply_of}
use Rattle.relay_server.specs.ReplyTable.{Replies}
use Rattle.relay_server.specs.Setup.{Setup}
use Rattle.relay_server.specs.State.{Receiving}
use Rattle.relay_course.specs.WrittenLine.{data_line, ehlo_line, last_chunk, mail_line, rcpt_line_at}
use Rattle.relay_course.specs.Progress.{Delivery, Progress, progress}
use Rattle.relay_octets.specs.Beginning.{Begins}
use Rattle.relay_course.specs.VerdictTable.{some_accepted}
use Rattle.relay_course.specs.RelayLaws.{AreWilling, content_replies, opening_commands, opening_replies}
use Rattle.relay_course.specs.Course.{joined}
use Rattle.relay_course.proofs.Theorems.{commands_stay, nothing_before_all_rcpts}
use Rattle.relay_meeting.specs.Meeting.{Plays, Step, replies_by, step_of}
use Rattle.relay_meeting.specs.Script.{Tried, course_of_last_chunk, course_of_mail_data, quit_step, last_steps, rcpt_steps, with_tried, client_in, opened_of, script_of, AreTried}
use Rattle.relay_meeting.specs.Joined.{AreJoined, HaveMet, MayClose, OfferHoldsItsPlaces}
use Rattle.relay_meeting.proofs.MeetLemmas.{either_begins, joined-append}
use Rattle.relay_meeting.proofs.TriedLemmas.{rcpt_line-at}
use Rattle.relay_meeting.proofs.WritesLemmas.{as_many_tried}
use Rattle.relay_meeting.proofs.JoinLemmas.{turns-answered, two_relays_meet}
use Rattle.relay_meeting.proofs.EndLemmas.{Conversed, conversed, script_reached}

chunk_some : (text : List ℕ) → 0 < length (last_chunk text)
chunk_some text = omega arith

first_some : (host : List ℕ) (turn : Turn) (turns : List Turn) (first text chunk : Step) (some t : Bool)
    → 0 < length first.command → 0 < length chunk.command
    → Plays host (cond some (cond t (first ∷ text ∷ quit_step ∷ []) (chunk ∷ quit_step ∷ [])) (quit_step ∷ []))
    (turn ∷ turns) → 0 < length turn.asked
first_some host turn turns first text chunk true true a b plays = subst (λ (l : List ℕ). 0 < length l) (sym plays.0) a
first_some host turn turns first text chunk true false a b plays = subst (λ (l : List ℕ). 0 < length l) (sym plays.0) b
first_some host turn turns first text chunk false t a b plays = omega (arith, ap length plays.0)

last_some : (host : List ℕ) (setup : Setup) (client : Client) (delivery : Delivery) (envelope : Envelope) (turn : Turn)
    (turns : List Turn) → Plays host (last_steps setup client delivery envelope) (turn ∷ turns) → 0 < length turn.asked
last_some host setup client delivery envelope turn turns plays =
    first_some host turn turns (step_of data_line (Replies row.StartMailInput (Receiving client envelope)))
    (step_of delivery.dot_text (course_of_mail_data setup client envelope delivery.text))
    (step_of (last_chunk delivery.text) (course_of_last_chunk setup client envelope delivery.text))
    (nat_le 1 (length envelope.recipients)) (ends_in_line_end delivery.text) (omega arith) (chunk_some delivery.text) plays

-- turns with an offer have read all RCPTs, and more
rcpts_read : (setup : Setup) (host : List ℕ) (client : Client) (delivery : Delivery) (recipients : List Recipient)
    (places : List ℕ) (envelope : Envelope) (tried : List Tried) (turns : List Turn)
    → AreTried setup recipients places tried
    → Plays host (rcpt_steps setup client delivery envelope tried) turns → 0 < length (offered_by turns)
    → length (joined (map (rcpt_line_at true recipients) places)) < length (read_by turns)
rcpts_read setup host client delivery recipients [] envelope [] [] all plays h = absurd (omega arith)
rcpts_read setup host client delivery recipients [] envelope [] (turn ∷ turns) all plays h =
    omega (arith, last_some host setup client delivery envelope turn turns plays, length-append turn.asked (read_by turns))
rcpts_read setup host client delivery recipients [] envelope (tried ∷ more) turns all plays h = absurd all
rcpts_read setup host client delivery recipients (place ∷ places) envelope [] turns all plays h = absurd all
rcpts_read setup host client delivery recipients (place ∷ places) envelope (tried ∷ more) [] all plays h =
    absurd (omega arith)
rcpts_read setup host client delivery recipients (place ∷ places) envelope (tried ∷ more) (turn ∷ turns) all plays h =
    let none = ap (λ o. length (offers_in o ++ offered_by turns)) plays.1.1 in
    let after =
    rcpts_read setup host client delivery recipients places (with_tried envelope tried) more turns all.2 plays.2
    (omega (arith, none)) in
    let line = ap length (plays.0 ∙ sym (rcpt_line-at true recipients place tried.recipient all.0)) in
    omega (
      arith,
      after,
      line,
      length-append turn.asked (read_by turns),
      length-append
          (rcpt_line_at true recipients place) (joined (map (rcpt_line_at true recipients) places)),
    )

script_read : (setup : Setup) (delivery : Delivery) (tried : List Tried) (turns : List Turn)
    → AreTried setup delivery.envelope.recipients delivery.places tried
    → Plays setup.host (script_of setup delivery tried) turns → 0 < length (offered_by turns)
    → length (joined (opening_commands delivery)) < length (read_by turns)
script_read setup delivery tried [] all plays h = absurd (omega arith)
script_read setup delivery tried (first ∷ []) all plays h =
    absurd (omega (arith, ap (λ o. length (offers_in o)) plays.1.1, length-append (offers_in first.offer) []))
script_read setup delivery tried (first ∷ second ∷ turns) all plays h =
    let none = ap (λ o. length (offers_in o)) plays.1.1 in
    let nothing = ap (λ o. length (offers_in o)) plays.2.1.1 in
    let a = length-append (offers_in first.offer) (offered_by (second ∷ turns)) in
    let b = length-append (offers_in second.offer) (offered_by turns) in
    let after =
    rcpts_read setup setup.host (client_in delivery) delivery delivery.envelope.recipients delivery.places
    (opened_of delivery.envelope) tried turns all plays.2.2 (omega (arith, none, nothing, a, b)) in
    let lines : List (List ℕ) = map (rcpt_line_at true delivery.envelope.recipients) delivery.places in
    omega (
      arith,
      after,
      ap length plays.0,
      ap length plays.2.0,
      length-append first.asked (read_by (second ∷ turns)),
      length-append second.asked (read_by turns),
      length-append (ehlo_line delivery.host)
          (joined (mail_line true delivery.envelope ∷ lines)),
      length-append (mail_line true delivery.envelope) (joined lines),
    )

-- replies before those of all RCPTs
begins_opening : (delivery : Delivery) (greeting hello mail : Reply) (rcpts replies : List Reply)
    → Begins replies (greeting ∷ hello ∷ mail ∷ rcpts)
    → ((front : List Reply) → length front < length rcpts
    → (progress delivery (greeting ∷ hello ∷ mail ∷ front)).commands ≡ opening_commands delivery)
    → length replies < length (greeting ∷ hello ∷ mail ∷ rcpts) → 0 < length rcpts
    → Begins (progress delivery replies).commands (opening_commands delivery)
begins_opening delivery greeting hello mail rcpts [] begins only h some =
    subst (λ (l : List (List ℕ)). Begins (progress delivery []).commands l) (only [] some)
    (commands_stay delivery [] (greeting ∷ hello ∷ mail ∷ []))
begins_opening delivery greeting hello mail rcpts (a ∷ []) begins only h some =
    let whole = begins.1 in
    let same : greeting ≡ a = cc in
    subst (λ (r : Reply). Begins (progress delivery (r ∷ [])).commands (opening_commands delivery)) same
    (subst (λ (l : List (List ℕ)). Begins (progress delivery (greeting ∷ [])).commands l) (only [] some)
    (commands_stay delivery (greeting ∷ []) (hello ∷ mail ∷ [])))
begins_opening delivery greeting hello mail rcpts (a ∷ b ∷ []) begins only h some =
    let whole = begins.1 in
    let same : greeting ∷ hello ∷ [] ≡ a ∷ b ∷ [] = cc in
    subst (λ (l : List Reply). Begins (progress delivery l).commands (opening_commands delivery)) same
    (subst (λ (l : List (List ℕ)). Begins (progress delivery (greeting ∷ hello ∷ [])).commands l) (only [] some)
    (commands_stay delivery (greeting ∷ hello ∷ []) (mail ∷ [])))
begins_opening delivery greeting hello mail rcpts (a ∷ b ∷ c ∷ front) begins only h some =
    let whole = begins.1 in
    let same : greeting ∷ hello ∷ mail ∷ front ≡ a ∷ b ∷ c ∷ front = cc in (
      [],
      sym (ap (λ (l : List Reply). (progress delivery l).commands) (sym same) ∙ only front (omega arith))
          ∙ sym (append-nil (progress delivery (a ∷ b ∷ c ∷ front)).commands),
    )

-- what was written isn't longer than what it begins
not_longer : (front whole : List (List ℕ)) (read : List ℕ) (unread : List ℕ) → Begins front whole
    → joined front ≡ read ++ unread → length (joined whole) < length read → ⊥
not_longer front whole read unread begins e h =
    omega (
      arith,
      ap length (ap joined begins.1 ∙ joined-append front begins.0),
      length-append (joined front)
          (joined begins.0),
      ap length e,
      length-append read unread,
    )

-- so the replies reach to those of all RCPTs
enough_replies : (delivery : Delivery) (greeting hello mail input : Reply) (rcpts replies : List Reply)
    (read unread : List ℕ)
    → AreWilling greeting hello mail input → length rcpts ≡ length delivery.places → 1 ≤ length delivery.places
    → Begins replies (opening_replies greeting hello mail rcpts) ⊎ Begins (opening_replies greeting hello mail rcpts) replies
    → joined (progress delivery replies).commands ≡ read ++ unread
    → length (joined (opening_commands delivery)) < length read
    → Begins (opening_replies greeting hello mail rcpts) replies
enough_replies delivery greeting hello mail input rcpts replies read unread willing n some (inr b) e h = b
enough_replies delivery greeting hello mail input rcpts replies read unread willing n some (inl ([], is)) e h =
    let whole : List Reply = opening_replies greeting hello mail rcpts in
    ([], sym (append-nil replies) ∙ sym is ∙ sym (append-nil whole))
enough_replies delivery greeting hello mail input rcpts replies read unread willing n some (inl (reply ∷ more, is)) e h =
    absurd (not_longer (progress delivery replies).commands (opening_commands delivery) read unread
    (begins_opening delivery greeting hello mail rcpts replies (reply ∷ more, is)
    (λ front k. ap (λ (now : Progress). now.commands)
    (nothing_before_all_rcpts delivery greeting hello mail input front willing (omega (arith, n, k))))
    (omega (arith, ap length is, length-append replies (reply ∷ more))) (omega (arith, n, some))) e h)

-- what the server has read where it has made an offer
pub record ReadPast (delivery : Delivery) (replies : List Reply) : Type 0 where
  pub read : List ℕ
  pub unread : List ℕ
  pub octets : joined (progress delivery replies).commands ≡ read ++ unread
  pub long : length (joined (opening_commands delivery)) < length read

script_offers : (setup : Setup) (delivery : Delivery) (tried : List Tried) (said : Said) (closing : Option Reply)
    (input output : List ℕ)
    (replies : List Reply) (rest : List ℕ) → AreTried setup delivery.envelope.recipients delivery.places tried
    → AreJoined setup delivery said closing input output replies rest
    → HaveMet setup delivery tried said closing replies rest → 0 < length said.offers → ReadPast delivery replies
script_offers setup delivery tried said closing input output replies rest all ends met some = record {
  read = read_by met.turns;
  unread = met.unread ++ ends.up.0;
  octets = sym ends.written ∙ ends.up.1 ∙ ap (λ l. l ++ ends.up.0) met.input
      ∙ append_assoc (read_by met.turns) met.unread ends.up.0;
  long = script_read setup delivery tried met.turns all met.meets.plays (omega (arith, some, ap length met.offered));
}

-- the replies that were read and those up to the RCPTs begin one list, with an offer
one_line_of : (setup : Setup) (delivery : Delivery) (tried : List Tried) (said : Said) (closing : Option Reply)
    (d : IsDialogue setup said) (replies front : List Reply)
    (talk : Conversed setup delivery tried closing d.turns replies)
    → front ≡ opening_replies (reply_of setup.host row.Greeting) (reply_of setup.host row.Extensions) talk.parts.mail
    talk.parts.rcpts → MayClose said closing → 0 < length said.offers → Begins replies front ⊎ Begins front replies
one_line_of setup delivery tried said None d replies front talk is closes some =
    let parts = talk.parts in
    let last : List Reply = content_replies delivery parts.rcpts parts.input parts.content in
    let greeting : Reply = reply_of setup.host row.Greeting in
    let sent : List Reply = replies_by d.turns in
    either_begins replies front (talk.heard.0 ++ talk.later) (last ++ parts.quit ∷ [])
    (sym (append_assoc replies talk.heard.0 talk.later) ∙ ap (λ l. l ++ talk.later) (sym talk.heard.1)
    ∙ ap (λ l. (greeting ∷ l) ++ talk.later) (append-nil sent) ∙ parts.replies_are
    ∙ ap (λ l. (l ++ last) ++ parts.quit ∷ []) (sym is) ∙ append_assoc front last (parts.quit ∷ []))
one_line_of setup delivery tried said (Some reply) d replies front talk is closes some =
    let parts = talk.parts in
    let last : List Reply = content_replies delivery parts.rcpts parts.input parts.content in
    let greeting : Reply = reply_of setup.host row.Greeting in
    let sent : List Reply = replies_by d.turns in
    let even = closes.2 in
    let answers = ap length d.answers in
    let turned = turns-answered d.turns in
    let reached = script_reached setup delivery tried d.turns (some_accepted parts.rcpts) parts.input parts.content talk.plays
    parts.some (omega (arith, some, even, answers, turned)) in
    let count = length-map d.turns (λ (turn : Turn). turn.reply) in
    let rcpts = parts.count in
    let size = ap length is in
    let line : front ++ (last ++ parts.quit ∷ []) ≡ (greeting ∷ sent) ++ talk.later =
    sym (append_assoc front last (parts.quit ∷ [])) ∙ ap (λ l. (l ++ last) ++ parts.quit ∷ []) is ∙ sym parts.replies_are in
    elim (either_begins front (greeting ∷ sent) (last ++ parts.quit ∷ []) talk.later line) [
      | inl begins ↦
          either_begins replies front talk.heard.0 (begins.0 ++ reply ∷ [])
          (sym talk.heard.1 ∙ ap (λ l. l ++ reply ∷ []) begins.1 ∙ append_assoc front begins.0 (reply ∷ []))
      | inr ([], same) ↦
          let turned_is : front ≡ greeting ∷ sent = same ∙ append-nil (greeting ∷ sent) in
          either_begins replies front talk.heard.0 (reply ∷ [])
          (sym talk.heard.1 ∙ ap (λ l. l ++ reply ∷ []) (sym turned_is))
      | inr (one ∷ more, same) ↦
          let a = ap length same in
          let b = length-append (greeting ∷ sent) (one ∷ more) in
          absurd (omega (arith, a, b, reached, count, rcpts, size))
    ]

pub offer_holds_its_places : OfferHoldsItsPlaces
offer_holds_its_places setup delivery tried said closing input output replies rest is all ends some =
    let greeting : Reply = reply_of setup.host row.Greeting in
    let hello : Reply = reply_of setup.host row.Extensions in
    let d = ends.dialogue in
    let talk = conversed setup delivery tried said closing input output replies rest is all ends in
    let parts = talk.parts in
    let n = parts.count ∙ as_many_tried setup delivery.envelope.recipients delivery.places tried all in
    let front : List Reply = opening_replies greeting hello parts.mail parts.rcpts in
    let read = script_offers setup delivery tried said closing input output replies rest all ends
    (two_relays_meet setup delivery tried said closing input output replies rest is all ends) some in
    let enough = enough_replies delivery greeting hello parts.mail parts.input parts.rcpts replies read.read read.unread
    parts.willing n is.some
    (one_line_of setup delivery tried said closing d replies front talk refl ends.closes some) read.octets read.long in
    record {
      rcpts = parts.rcpts;
      later = enough.0;
      replies_are = enough.1
          ∙ ap (λ (mail : Reply). opening_replies greeting hello mail parts.rcpts ++ enough.0) parts.mail_is;
      by_table = parts.are;
    }
