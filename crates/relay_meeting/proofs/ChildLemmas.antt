-- Where there is an offer, it holds the places whose RCPTs the client has read to be accepted.
use Rattle.std.proofs.Common.{◌≡◌, ◌<◌, ℕ, nat_le, Bool, true, false, List, [], ◌∷◌, ◌++◌, length, suc, Some, refl, sym, ap, ◌∙◌, cond, arith}
use Rattle.std.specs.Prelude.{option_to_list, slice_get}
use Rattle.std.proofs.lemmas.List.{append_assoc, append-nil, length-append}
use Rattle.std.proofs.lemmas.List.Concat.{flat_map-append}
use Rattle.relay_octets.specs.Beginning.{Begins}
use Rattle.relay_lines.specs.Reply.{Reply}
use Rattle.relay_envelope.specs.declared.envelope.Envelope.{Envelope}
use Rattle.relay_envelope.specs.declared.envelope.Recipient.{Recipient}
use Rattle.relay_trace.specs.HeaderSection.{received_count_of}
use Rattle.relay_server.specs.declared.reply_table.Row.TheVariants as row
use Rattle.relay_server.specs.Dialogue.{Offered, offered_of}
use Rattle.relay_server.specs.Reply.{reply_of}
use Rattle.relay_server.specs.ReplyTable.{is_refused_by}
use Rattle.relay_server.specs.Setup.{Setup}
use Rattle.relay_course.specs.declared.awaited.Awaited.{Awaited}
use Rattle.relay_course.specs.declared.awaited.Awaited.TheVariants.{Greeting, Ehlo, Helo, Mail, Rcpt, Data, Content}
use Rattle.relay_course.specs.VerdictTable.{is_accepted}
use Rattle.relay_course.specs.Progress.{Delivery, Answered, answer_of, progress}
use Rattle.relay_course.specs.Laws.{accepted_places, if_accepted_place, if_rcpt_place, rcpt_places}
use Rattle.relay_course.specs.RelayLaws.{answered_rcpts, opening_answers, opening_replies}
use Rattle.relay_course.proofs.Theorems.{all_rcpts_answered, answers_stay, rcpts_are_in_order}
use Rattle.relay_meeting.specs.Script.{AreRcpts, AreTried, Tried, client_in, envelope_after, opened_of, row_of_rcpt, with_tried}
use Rattle.relay_meeting.specs.Joined.{ChildHoldsItsPlaces, HaveReadRcpts, child_envelope, recipients_at}
use Rattle.relay_meeting.proofs.TriedLemmas.{each_place_is_tried}
use Rattle.relay_meeting.proofs.JoinLemmas.{two_relays_meet}
use Rattle.relay_meeting.proofs.HoldLemmas.{offer_holds_its_places}
use Rattle.relay_meeting.proofs.WritesLemmas.{as_many_tried, willing_relay}

-- the recipients that go
abbrev if_goes : Tried → List Recipient
if_goes tried = cond tried.goes (tried.recipient ∷ []) []

abbrev gone : List Tried → List Recipient
gone [] = []
gone (tried ∷ more) = if_goes tried ++ gone more

one-after : (envelope : Envelope) (recipient : Recipient) (routed goes : Bool)
    → with_tried envelope (record { recipient = recipient; routed = routed; goes = goes })
    ≡ record envelope { recipients = envelope.recipients ++ cond goes (recipient ∷ []) [] }
one-after envelope recipient routed true = refl
one-after envelope recipient routed false =
    ap (λ (l : List Recipient). record envelope { recipients = l }) (sym (append-nil envelope.recipients))

-- the server's envelope has those that go
all-after : (envelope : Envelope) (tried : List Tried)
    → envelope_after envelope tried ≡ record envelope { recipients = envelope.recipients ++ gone tried }
all-after envelope [] =
    ap (λ (l : List Recipient). record envelope { recipients = l }) (sym (append-nil envelope.recipients))
all-after envelope (tried ∷ more) =
    all-after (with_tried envelope tried) more
    ∙ ap (λ (e : Envelope). record e { recipients = e.recipients ++ gone more })
    (one-after envelope tried.recipient tried.routed tried.goes)
    ∙ ap (λ (l : List Recipient). record envelope { recipients = l })
    (append_assoc envelope.recipients (if_goes tried) (gone more))

goes-accepted : (host : List ℕ) (routed goes : Bool) → is_accepted (reply_of host (row_of_rcpt routed goes)) ≡ goes
unfolding reply_of
goes-accepted host routed true = refl
goes-accepted host true false = refl
goes-accepted host false false = refl

one-accepted : (recipients : List Recipient) (place : ℕ) (recipient : Recipient) (goes : Bool)
    → slice_get recipients place ≡ Some recipient
    → recipients_at recipients (cond goes (place ∷ []) []) ≡ cond goes (recipient ∷ []) []
one-accepted recipients place recipient true at = ap (λ o. option_to_list o ++ []) at
one-accepted recipients place recipient false at = refl

-- they are those of the accepted places
accepted-gone : (setup : Setup) (recipients : List Recipient) (places : List ℕ) (tried : List Tried) (rcpts : List Reply)
    → AreTried setup recipients places tried → AreRcpts setup.host tried rcpts
    → recipients_at recipients (accepted_places (answered_rcpts places rcpts)) ≡ gone tried
accepted-gone setup recipients [] [] rcpts all are = refl
accepted-gone setup recipients [] (tried ∷ more) rcpts all are = absurd all
accepted-gone setup recipients (place ∷ places) [] rcpts all are = absurd all
accepted-gone setup recipients (place ∷ places) (tried ∷ more) [] all are = absurd are
accepted-gone setup recipients (place ∷ places) (tried ∷ more) (reply ∷ rcpts) all are =
    let after : List ℕ = accepted_places (answered_rcpts places rcpts) in
    let goes : is_accepted reply ≡ tried.goes =
    ap (λ (r : Reply). is_accepted r) are.0 ∙ goes-accepted setup.host tried.routed tried.goes in
    let at : ℕ → List Recipient = λ p. option_to_list (slice_get recipients p) in
    flat_map-append at (cond (is_accepted reply) (place ∷ []) []) after
    ∙ ap (λ b. recipients_at recipients (cond b (place ∷ []) []) ++ recipients_at recipients after) goes
    ∙ ap (λ l. l ++ recipients_at recipients after) (one-accepted recipients place tried.recipient tried.goes all.0)
    ∙ ap (λ l. if_goes tried ++ l) (accepted-gone setup recipients places more rcpts all.2 are.1)

-- where no RCPT was answered, none was accepted
none-more : (waited : Awaited) (reply : Reply) (answered : List Answered)
    → (rcpt_places answered ≡ [] → accepted_places answered ≡ [])
    → rcpt_places (answer_of waited reply ∷ answered) ≡ [] → accepted_places (answer_of waited reply ∷ answered) ≡ []
none-more Greeting reply answered more e = more e
none-more Ehlo reply answered more e = more e
none-more Helo reply answered more e = more e
none-more Mail reply answered more e = more e
none-more (Rcpt place) reply answered more e = absurd (cc)
none-more Data reply answered more e = more e
none-more Content reply answered more e = more e

none-accepted : (answered : List Answered) → rcpt_places answered ≡ [] → accepted_places answered ≡ []
none-accepted [] e = refl
none-accepted (one ∷ answered) e = none-more one.waited one.reply answered (λ h. none-accepted answered h) e

answered_rcpts-places : (places : List ℕ) (rcpts : List Reply) → length rcpts ≡ length places
    → rcpt_places (answered_rcpts places rcpts) ≡ places
answered_rcpts-places [] rcpts e = refl
answered_rcpts-places (place ∷ places) [] e = absurd (omega (arith, e))
answered_rcpts-places (place ∷ places) (reply ∷ rcpts) e =
    ap (λ l. place ∷ l) (answered_rcpts-places places rcpts (omega (arith, e)))

empty-list : {A : Type 0} (xs : List A) → length xs ≡ 0 → xs ≡ []
empty-list [] e = refl
empty-list (x ∷ xs) e = absurd (omega (arith, e))

rcpts-as-tried : (host : List ℕ) (tried : List Tried) (rcpts : List Reply) → AreRcpts host tried rcpts
    → length rcpts ≡ length tried
rcpts-as-tried host [] [] are = refl
rcpts-as-tried host [] (reply ∷ rcpts) are = absurd are
rcpts-as-tried host (one ∷ tried) [] are = absurd are
rcpts-as-tried host (one ∷ tried) (reply ∷ rcpts) are = ap suc (rcpts-as-tried host tried rcpts are.1)

-- the accepted places of a client that has read the replies to all RCPTs
read-accepted : (setup : Setup) (delivery : Delivery) (tried : List Tried) (replies : List Reply)
    → AreTried setup delivery.envelope.recipients delivery.places tried → (held : HaveReadRcpts setup tried replies)
    → accepted_places (progress delivery replies).answered ≡ accepted_places (answered_rcpts delivery.places held.rcpts)
read-accepted setup delivery tried replies all held =
    let greeting : Reply = reply_of setup.host row.Greeting in
    let hello : Reply = reply_of setup.host row.Extensions in
    let mail : Reply = reply_of setup.host row.SenderOk in
    let front : List Reply = opening_replies greeting hello mail held.rcpts in
    let count : length held.rcpts ≡ length delivery.places =
    rcpts-as-tried setup.host tried held.rcpts held.by_table
    ∙ as_many_tried setup delivery.envelope.recipients delivery.places tried all in
    let rcpts : List Answered = answered_rcpts delivery.places held.rcpts in
    let first = all_rcpts_answered delivery greeting hello mail (reply_of setup.host row.StartMailInput) held.rcpts
    (willing_relay setup.host) count in
    let kept = answers_stay delivery front held.later in
    let answers : List Answered = opening_answers delivery.places greeting hello mail held.rcpts in
    let is : (progress delivery replies).answered ≡ answers ++ kept.0 =
    ap (λ (l : List Reply). (progress delivery l).answered) held.replies_are ∙ kept.1 ∙ ap (λ l. l ++ kept.0) first in
    let order = rcpts_are_in_order delivery replies in
    let place_of : Answered → List ℕ = λ one. if_rcpt_place one.waited in
    let places : delivery.places ≡ (delivery.places ++ rcpt_places kept.0) ++ order.0 =
    order.1 ∙ ap (λ l. l ++ order.0) (ap rcpt_places is ∙ flat_map-append place_of answers kept.0
    ∙ ap (λ l. l ++ rcpt_places kept.0) (answered_rcpts-places delivery.places held.rcpts count)) in
    let none : rcpt_places kept.0 ≡ [] =
    empty-list (rcpt_places kept.0) (omega (
      arith,
      ap length places,
      length-append (delivery.places ++ rcpt_places kept.0) order.0,
      length-append delivery.places (rcpt_places kept.0),
    )) in
    ap accepted_places is
    ∙ flat_map-append (λ one. if_accepted_place one.waited one.reply) answers kept.0
    ∙ ap (λ l. accepted_places rcpts ++ l) (none-accepted kept.0 none)
    ∙ append-nil (accepted_places rcpts)

-- a child that is there is the one that may be offered
there-by : (some fits many bare : Bool) (offers : List Offered) (child : Offered)
    → Begins offers (cond some (cond fits (cond many [] (cond bare [] (child ∷ []))) []) []) → 0 < length offers → offers ≡ child ∷ []
there-by true true false false [] child begins h = absurd (omega (arith, h))
there-by true true false false (offer ∷ []) child begins h =
    let whole = begins.1 in let same : child ≡ offer = cc in ap (λ o. o ∷ []) (sym same)
there-by true true false false (offer ∷ next ∷ more) child begins h = absurd (omega (arith, ap length begins.1))
there-by true true false true offers child begins h = absurd (omega (arith, h, ap length begins.1, length-append offers begins.0))
there-by true true true bare offers child begins h = absurd (omega (arith, h, ap length begins.1, length-append offers begins.0))
there-by true false many bare offers child begins h = absurd (omega (arith, h, ap length begins.1, length-append offers begins.0))
there-by false fits many bare offers child begins h = absurd (omega (arith, h, ap length begins.1, length-append offers begins.0))

pub child_holds_its_places : ChildHoldsItsPlaces
child_holds_its_places setup delivery said closing input output replies rest is ends some =
    let row_of = each_place_is_tried setup delivery.envelope delivery.places is.envelope is.within in
    let tried : List Tried = row_of.0 in
    let met = two_relays_meet setup delivery tried said closing input output replies rest is row_of.1 ends in
    let held = offer_holds_its_places setup delivery tried said closing input output replies rest is row_of.1 ends some in
    let child : Offered = offered_of (client_in delivery) (child_envelope delivery tried) delivery.text in
    let accepted = ap (λ l. recipients_at delivery.envelope.recipients l)
    (read-accepted setup delivery tried replies row_of.1 held)
    ∙ accepted-gone setup delivery.envelope.recipients delivery.places tried held.rcpts row_of.1 held.by_table in
    there-by (nat_le 1 (length (child_envelope delivery tried).recipients))
    (nat_le (length delivery.text) setup.max_content) (nat_le 100 (received_count_of delivery.text))
    (is_refused_by setup.bare_newlines delivery.text) said.offers child
    met.children some
    ∙ ap (λ (e : Envelope). offered_of (client_in delivery) e delivery.text ∷ [])
    (all-after (opened_of delivery.envelope) tried
    ∙ ap (λ (l : List Recipient). record delivery.envelope { recipients = l }) (sym accepted))
