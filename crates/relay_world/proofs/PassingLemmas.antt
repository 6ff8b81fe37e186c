-- What a node has recorded of a place is what its next hop has said and done.
use Rattle.std.proofs.Common.{◌≡◌, ◌≢◌, ◌⊎◌, inl, inr, ◌<◌, ◌≤◌, ℕ, zero, suc, nat_le, Bool, true, false, List, [], ◌∷◌, length, Option, None, Some, refl, sym, subst, ap, ◌∙◌, cond, arith}
use Rattle.std.specs.Prelude.{slice_get}
use Rattle.std.specs.List.{Contains}
use Rattle.std.proofs.lemmas.Bool.{false≢true, leb-true}
use Rattle.std.proofs.lemmas.List.{length-append}
use Rattle.std.proofs.lemmas.Option.{none-some, same_Some}
use Rattle.relay_octets.specs.Beginning.{Begins}
use Rattle.relay_disk.specs.Device.{DiskWords}
use Rattle.relay_lines.specs.Reply.{Reply}
use Rattle.relay_envelope.specs.declared.envelope.Envelope.{Envelope}
use Rattle.relay_envelope.specs.declared.envelope.Recipient.{Recipient}
use Rattle.relay_server.specs.declared.offer.Answer.{Answer}
use Rattle.relay_server.specs.declared.offer.Answer.TheVariants.{Queued}
use Rattle.relay_server.specs.Dialogue.{Offered, offered_of}
use Rattle.relay_server.specs.Reply.{reply_of}
use Rattle.relay_server.specs.ReplyTable.{is_refused_by}
use Rattle.relay_server.specs.Setup.{Setup, setup_for}
use Rattle.relay_trace.specs.HeaderSection.{received_count_of}
use Rattle.relay_book.specs.declared.change.Change.{Change}
use Rattle.relay_book.specs.declared.change.Change.TheVariants as change
use Rattle.relay_book.specs.declared.change.Outcome.{Outcome}
use Rattle.relay_book.specs.declared.change.Ruling.{Ruling}
use Rattle.relay_book.specs.declared.change.Verdict.{Verdict}
use Rattle.relay_book.specs.declared.change.Verdict.TheVariants.{Taken, Later}
use Rattle.relay_book.specs.Queue.{AreRulings, Fitting}
use Rattle.relay_attempts.specs.Outcomes.{outcome_of, rulings_of}
use Rattle.relay_course.specs.Course.{Concludes, IsFaulty}
use Rattle.relay_course.specs.Laws.{WasTaken, accepted_places}
use Rattle.relay_course.specs.Progress.{Delivery, Progress, progress}
use Rattle.relay_course.specs.VerdictTable.{all_later, refusal}
use Rattle.relay_course.proofs.Theorems.{taken_where_answered}
use Rattle.relay_meeting.specs.Joined.{HaveEnded, HaveTalked, IsCutShort, Tells, child_envelope, verdict_at}
use Rattle.relay_meeting.specs.Script.{AreTried, Tried, client_in, envelope_after, opened_of, refusal_row, with_tried}
use Rattle.relay_world.specs.declared.attempt.Attempt.{Attempt}
use Rattle.relay_world.specs.declared.attempt.Fate.TheVariants.{Replied}
use Rattle.relay_world.specs.declared.link.Link.{Link}
use Rattle.relay_world.specs.declared.link.ServerEnd.{ServerEnd}
use Rattle.relay_world.specs.Bound.{HasFate, IsItsOutcome, IsServed, PassesOn, ServesLink}
use Rattle.relay_world.specs.Children.{HasOneChild}
use Rattle.relay_world.specs.Passing.{AcceptsPlace, NoChildHolds, OthersAreNotHeld, RepliesGave, TakenIsAccepted}
use Rattle.relay_world.specs.World.{Host, World}
use Rattle.relay_world.proofs.AmongLemmas.{all_of, found_in, in_map, of_map, one_ruling, outcome_rises, ruled_at, ruled_by}
use Rattle.relay_world.proofs.AnsweredLemmas.{WasAccepted, accepted_is, is_completion, rcpt_is_there, was_accepted}
use Rattle.relay_world.proofs.ChildrenLemmas.{child_now, child_or_none, has_answers, its_answers, one_child, one_row, passes_of, place_at, serves_of, talked}
use Rattle.relay_world.proofs.ContentLemmas.{delivery_by}

-- an attempt that its replies ended has their verdicts; or what it read was no reply, and each place may be tried again
concluded : (places : List ℕ) (told : Bool) (rest : List ℕ) (ended verdicts : Option (List Verdict)) (all : List Verdict)
    → told ≡ false → verdicts ≡ Some all → Concludes places told rest ended verdicts
    → (ended ≡ Some all) ⊎ (IsFaulty rest × (all ≡ all_later places))
concluded places told rest (Some some) verdicts all not_told is so = inl (sym so.2 ∙ is)
concluded places told rest None verdicts all not_told is (inl so) = absurd (none-some all (sym so.2 ∙ is))
concluded places told rest None verdicts all not_told is (inr (inl so)) = absurd (false≢true (sym not_told ∙ so.0))
concluded places told rest None verdicts all not_told is (inr (inr so)) =
    inr (so.1, same_Some all (all_later places) (sym is ∙ so.2))

pub none_taken : (places : List ℕ) (k : ℕ) (dsn : Bool) → slice_get (all_later places) k ≡ Some (Taken dsn) → ⊥
none_taken [] k dsn is = none-some (Taken dsn) is
none_taken (place ∷ places) zero dsn is = let same : Later ≡ Taken dsn = same_Some Later (Taken dsn) is in cc
none_taken (place ∷ places) (suc k) dsn is = none_taken places k dsn is

-- a place has the last verdict where the server takes its recipient, and where that is Taken, the last verdict is
last_by : (goes : Bool) (last : Verdict) (reply : Reply) (dsn : Bool)
    → cond goes last (refusal reply) ≡ Taken dsn → last ≡ Taken dsn
last_by true last reply dsn is = is
last_by false last reply dsn is = absurd (cc)

-- who is offered has a recipient that goes
recipients_by : (routed goes : Bool) (envelope : Envelope) (recipient : Recipient) → goes ≡ false
    → with_tried envelope (record { recipient = recipient; routed = routed; goes = goes }) ≡ envelope
recipients_by routed true envelope recipient is = absurd (false≢true (sym is))
recipients_by routed false envelope recipient is = refl

-- the first that goes of those that are tried
abbrev OneGoes : List Tried → Type 0
OneGoes tried = (k : ℕ) × (one : Tried) × (slice_get tried k ≡ Some one) × (one.goes ≡ true)

goes_first : (envelope : Envelope) (first : Tried) (tried : List Tried) (goes : Bool) → first.goes ≡ goes
    → (1 ≤ length (envelope_after envelope tried).recipients → OneGoes tried)
    → 1 ≤ length (envelope_after (with_tried envelope first) tried).recipients → OneGoes (first ∷ tried)
goes_first envelope first tried true is more some = (0, first, refl, is)
goes_first envelope first tried false is more some =
    let same : with_tried envelope first ≡ envelope = recipients_by first.routed first.goes envelope first.recipient is in
    let after = more (subst (λ (e : Envelope). 1 ≤ length (envelope_after e tried).recipients) same some) in
    (suc after.0, after.1, after.2, after.3)

one_goes : (envelope : Envelope) (tried : List Tried) → length envelope.recipients ≡ 0
    → 1 ≤ length (envelope_after envelope tried).recipients → OneGoes tried
one_goes envelope [] none some = absurd (omega (arith, none, some))
one_goes envelope (first ∷ tried) none some =
    goes_first envelope first tried first.goes refl (λ after. one_goes envelope tried none after) some

some_there : (some : Bool) (offers : List Offered) (child : Offered) (most : List Offered)
    → Begins offers (cond some most []) → offers ≡ child ∷ [] → some ≡ true
some_there true offers child most begins is = refl
some_there false offers child most begins is =
    let count = ap length is in
    let none = ap length begins.1 in
    let parts = length-append offers begins.0 in
    absurd (omega (arith, count, none, parts))

-- what is tried has its place
place_of_tried : (setup : Setup) (recipients : List Recipient) (places : List ℕ) (tried : List Tried) (k : ℕ) (one : Tried)
    → AreTried setup recipients places tried → slice_get tried k ≡ Some one → (place : ℕ) × (slice_get places k ≡ Some place)
place_of_tried setup recipients [] [] k one are is = absurd (none-some one is)
place_of_tried setup recipients [] (first ∷ tried) k one are is = absurd are
place_of_tried setup recipients (place ∷ places) [] k one are is = absurd are
place_of_tried setup recipients (place ∷ places) (first ∷ tried) zero one are is = (place, refl)
place_of_tried setup recipients (place ∷ places) (first ∷ tried) (suc k) one are is =
    place_of_tried setup recipients places tried k one are.2 is

-- how a queued child tells of the last verdict
tells_taken : (last : Verdict) (answers : List Answer) (number : ℕ) → answers ≡ Queued number ∷ [] → Tells last answers
    → last ≡ Taken true
tells_taken last answers number is (inl taken) = taken.0
tells_taken last answers number is (inr (other, inl none)) =
    let count = ap length is in let empty = ap length none in absurd (omega (arith, count, empty))
tells_taken last answers number is (inr (other, inr full)) = absurd (cc)

tells_queued : (last : Verdict) (answers : List Answer) (dsn : Bool) → last ≡ Taken dsn → Tells last answers
    → (number : ℕ) × (answers ≡ Queued number ∷ [])
tells_queued last answers dsn is (inl taken) = taken.1
tells_queued last answers dsn is (inr other) = absurd (other.0 dsn is)

module _ {D : Type 0} (host : Host D) (changes : List Change) (link : Link) (attempt : Attempt)
    (passes : PassesOn host changes link attempt) where
  abbrev delivery : Delivery
  delivery = delivery_by host changes link attempt passes

  abbrev its_progress : Progress
  its_progress = progress delivery passes.course.runs.replies

  -- an attempt that its replies ended has this outcome, and the verdicts of its course
  pub record Outcomes (place : ℕ) (verdict : Verdict) (gave : RepliesGave changes attempt place verdict) : Type 0 where
    pub all : List Verdict
    pub not_told : passes.told ≡ false
    pub verdicts_are : passes.verdicts ≡ Some all
    pub rulings : gave.rules.outcome.rulings ≡ rulings_of attempt.places.items all
    pub k : ℕ
    pub place_is : slice_get attempt.places.items k ≡ Some place
    pub verdict_is : slice_get all k ≡ Some verdict

  same_outcome : (one other : Outcome) → Some (change.Outcome one) ≡ Some (change.Outcome other) → one ≡ other
  same_outcome one other is = cc

  pub outcomes : (place : ℕ) (verdict : Verdict) (gave : RepliesGave changes attempt place verdict) → Outcomes place verdict gave
  outcomes place verdict gave =
      let fate : HasFate host changes link attempt passes.accept passes.output passes.told passes.verdicts (Replied gave.number) =
      subst (λ f. HasFate host changes link attempt passes.accept passes.output passes.told passes.verdicts f) gave.replied
      passes.fate in
      let all : List Verdict = fate.1.0 in
      let is : IsItsOutcome attempt all changes gave.number = fate.1.2 in
      let same = same_outcome gave.rules.outcome
      (record (outcome_of attempt.message is.at attempt.hop (rulings_of attempt.places.items all)) { report = is.report })
      (sym gave.rules.found ∙ is.found) in
      let rulings : gave.rules.outcome.rulings ≡ rulings_of attempt.places.items all = ap (λ (o : Outcome). o.rulings) same in
      let ruling : Ruling = record { place = place; verdict = verdict } in
      let there = found_in gave.rules.outcome.rulings ruling gave.rules.ruling in
      let ruled = ruled_by attempt.places.items all there.0 ruling (ap (λ l. slice_get l there.0) (sym rulings) ∙ there.1) in
      record {
        all = all;
        not_told = fate.0;
        verdicts_are = fate.1.1;
        rulings = rulings;
        k = there.0;
        place_is = ruled.0;
        verdict_is = ruled.1;
      }

  ended_by : (all : List Verdict) → passes.told ≡ false → passes.verdicts ≡ Some all
      → (its_progress.verdicts ≡ Some all) ⊎ (IsFaulty passes.course.runs.rest × (all ≡ all_later attempt.places.items))
  ended_by all not_told is =
      concluded attempt.places.items passes.told passes.course.runs.rest its_progress.verdicts passes.verdicts all not_told
      is passes.course.runs.concludes

  -- where a place was Taken, the verdicts are those of the replies
  ended_taken : (all : List Verdict) (k : ℕ) (dsn : Bool) → slice_get all k ≡ Some (Taken dsn)
      → (its_progress.verdicts ≡ Some all) ⊎ (IsFaulty passes.course.runs.rest × (all ≡ all_later attempt.places.items))
      → its_progress.verdicts ≡ Some all
  ended_taken all k dsn is (inl ended) = ended
  ended_taken all k dsn is (inr later) =
      absurd (none_taken attempt.places.items k dsn (ap (λ l. slice_get l k) (sym later.1) ∙ is))

  accepts_place : (k place : ℕ) (dsn : Bool) → WasTaken its_progress k place dsn
      → AcceptsPlace (its_answers host changes link attempt passes) place
  accepts_place k place dsn taken = record {
    rcpt = taken.rcpt;
    asked = (rcpt_is_there its_progress.answered place taken.rcpt k taken.asked).0;
    accepted = taken.accepted;
    content = taken.content;
    sent = taken.sent;
    taken = taken.taken;
  }

  module _ (other : Host D) (others : List Change) (world : World D) (end : ServerEnd)
      (serves : ServesLink other others world.ledger attempt.link link end) where
    abbrev setup : Setup
    setup = setup_for other.config end.peer

    says : HaveTalked setup delivery serves.said serves.closing passes.course.runs.replies passes.course.runs.rest
    says = talked host changes link attempt passes other others world end serves

    -- what comes of a node of ours is whole replies
    ended_sound : (all : List Verdict)
        → (its_progress.verdicts ≡ Some all) ⊎ (IsFaulty passes.course.runs.rest × (all ≡ all_later attempt.places.items))
        → its_progress.verdicts ≡ Some all
    ended_sound all (inl ended) = ended
    ended_sound all (inr later) = absurd (says.met.sound later.0.0 later.0.1)

    -- where a place is Taken or something was offered, it wasn't the node's closing that ended the attempt
    ends : (all : List Verdict) → its_progress.verdicts ≡ Some all → (IsCutShort serves.said serves.closing all → ⊥)
        → HaveEnded setup delivery says.tried serves.said all
    ends all is whole = elim (says.ended all passes.course.runs.each is) [
      | inl have ↦ have
      | inr short ↦ absurd (whole short)
    ]

    taken_child : (place : ℕ) (dsn : Bool) (gave : RepliesGave changes attempt place (Taken dsn))
        → (one : HasOneChild world host changes link attempt others) × Contains one.places place
    taken_child place dsn gave =
        let out : Outcomes place (Taken dsn) gave = outcomes place (Taken dsn) gave in
        let ended : its_progress.verdicts ≡ Some out.all =
        ended_taken out.all out.k dsn out.verdict_is (ended_by out.all out.not_told out.verdicts_are) in
        let have : HaveEnded setup delivery says.tried serves.said out.all =
        ends out.all ended (λ short. all_of (λ verdict. (dsn : Bool) → verdict ≢ Taken dsn) out.all out.k (Taken dsn)
        short.untaken out.verdict_is dsn refl) in
        let one = of_map (verdict_at setup.host have.last) says.tried out.k (Taken dsn)
        (ap (λ l. slice_get l out.k) (sym have.verdicts_are) ∙ out.verdict_is) in
        let last : have.last ≡ Taken dsn = last_by one.0.goes have.last (reply_of setup.host (refusal_row one.0.routed)) dsn one.2 in
        let queued = tells_queued have.last serves.said.answers dsn last have.tells in
        let offered : 0 < length serves.said.offers =
        (let even = serves.answered in let count = ap length queued.1 in omega (arith, even, count)) in
        let taken : WasTaken its_progress out.k place dsn =
        (taken_where_answered delivery passes.course.runs.replies out.all ended out.k place dsn out.place_is).0 out.verdict_is in
        let child : HasOneChild world host changes link attempt others =
        one_child host changes link attempt passes other others world end serves queued.0 (says.child offered) queued.1 in (
          child,
          subst (λ l. Contains l place) (sym (one_row host changes link attempt passes child.places child.are_its))
              ((rcpt_is_there its_progress.answered place taken.rcpt out.k taken.asked).2
              (accepted_is taken.rcpt taken.accepted)),
        )

    -- where there is a child, a place that was tried has a hop, and so the content was answered 2yz
    content_taken : (all : List Verdict) → its_progress.verdicts ≡ Some all → (number : ℕ)
        → serves.said.offers ≡ child_now host changes link attempt passes other others world end serves ∷ []
        → serves.said.answers ≡ Queued number ∷ []
        → (k : ℕ) × (place : ℕ) × WasTaken its_progress k place true
    content_taken all ended number offers answers =
        let have : HaveEnded setup delivery says.tried serves.said all =
        ends all ended (λ short. let none = ap length (sym short.none ∙ offers) in absurd (omega (arith, none))) in
        let last : have.last ≡ Taken true = tells_taken have.last serves.said.answers number answers have.tells in
        let envelope : Envelope = child_envelope delivery says.tried in
        let child : List Offered =
        cond (nat_le (length delivery.text) setup.max_content)
        (cond (nat_le 100 (received_count_of delivery.text)) []
        (cond (is_refused_by setup.bare_newlines delivery.text) []
        (offered_of (client_in delivery) envelope delivery.text ∷ []))) [] in
        let some : nat_le 1 (length envelope.recipients) ≡ true =
        some_there (nat_le 1 (length envelope.recipients)) serves.said.offers
        (child_now host changes link attempt passes other others world end serves) child says.met.children offers in
        let goes = one_goes (opened_of delivery.envelope) says.tried refl (leb-true 1 (length envelope.recipients) some) in
        let place = place_of_tried setup delivery.envelope.recipients attempt.places.items says.tried goes.0 goes.1
        says.are_tried goes.2 in
        let verdict : slice_get all goes.0 ≡ Some (Taken true) =
        ap (λ l. slice_get l goes.0) have.verdicts_are
        ∙ in_map (verdict_at setup.host have.last) says.tried goes.0 goes.1 goes.2
        ∙ ap (λ b. Some (cond b have.last (refusal (reply_of setup.host (refusal_row goes.1.routed))))) goes.3
        ∙ ap (λ v. Some v) last in (
          goes.0,
          place.0,
          (taken_where_answered delivery passes.course.runs.replies all ended goes.0 place.0 true place.1).0 verdict,
        )

    -- then each place whose RCPT was accepted is Taken
    accepted_taken : (all : List Verdict) → its_progress.verdicts ≡ Some all → (number : ℕ)
        → serves.said.offers ≡ child_now host changes link attempt passes other others world end serves ∷ []
        → serves.said.answers ≡ Queued number ∷ [] → (place : ℕ)
        → Contains (accepted_places (its_answers host changes link attempt passes)) place
        → (k : ℕ) × (slice_get attempt.places.items k ≡ Some place) × (slice_get all k ≡ Some (Taken true))
    accepted_taken all ended number offers answers place has =
        let was : WasAccepted (its_answers host changes link attempt passes) place =
        was_accepted (its_answers host changes link attempt passes) place has in
        let content = content_taken all ended number offers answers in
        let tried : slice_get attempt.places.items was.0 ≡ Some place =
        place_at host changes link attempt passes was.0 place was.1 was.2 in
        let taken : WasTaken its_progress was.0 place true = record {
          rcpt = was.1;
          content = content.2.content;
          asked = was.2;
          accepted = is_completion was.1 was.3;
          sent = content.2.sent;
          taken = content.2.taken;
          offered = content.2.offered;
        } in
        (was.0, tried, (taken_where_answered delivery passes.course.runs.replies all ended was.0 place true tried).1 taken)

    not_held : Fitting changes → (place : ℕ) (verdict : Verdict) → RepliesGave changes attempt place verdict
        → ((dsn : Bool) → verdict ≢ Taken dsn) → NoChildHolds world host changes link attempt place
    not_held fitting place verdict gave off =
        elim (child_or_none host changes link attempt passes other others world end serves) [
          | inl none ↦ inl none
          | inr child ↦ inr (λ places are has.
              let out : Outcomes place verdict gave = outcomes place verdict gave in
              let ended : its_progress.verdicts ≡ Some out.all =
              ended_sound out.all (ended_by out.all out.not_told out.verdicts_are) in
              let accepted : Contains (accepted_places (its_answers host changes link attempt passes)) place =
              subst (λ l. Contains l place) (one_row host changes link attempt passes places are) has in
              let taken = accepted_taken out.all ended child.0 child.1 child.2 place accepted in
              let row : List Ruling = rulings_of attempt.places.items out.all in
              let rise = outcome_rises changes gave.number gave.rules.outcome fitting gave.rules.found in
              let same = one_ruling rise.0 0 row out.k taken.0 (record { place = place; verdict = verdict })
              (record { place = place; verdict = Taken true }) (subst (λ l. AreRulings rise.0 0 l) out.rulings rise.1)
              (ruled_at attempt.places.items out.all out.k place verdict out.place_is out.verdict_is)
              (ruled_at attempt.places.items out.all taken.0 place (Taken true) taken.1 taken.2) refl in
              off true (ap (λ (r : Ruling). r.verdict) same))
        ]

pub taken_is_accepted : {D : Type 0} (honest : Type 0) (words : DiskWords D) → TakenIsAccepted honest words
taken_is_accepted honest words world lists bound host changes link attempt is place dsn gave =
    let passes : PassesOn host changes link attempt = passes_of honest words world lists bound host changes link attempt is in
    let out : Outcomes host changes link attempt passes place (Taken dsn) gave =
    outcomes host changes link attempt passes place (Taken dsn) gave in
    let ended = ended_taken host changes link attempt passes out.all out.k dsn out.verdict_is
    (ended_by host changes link attempt passes out.all out.not_told out.verdicts_are) in
    let taken : WasTaken (its_progress host changes link attempt passes) out.k place dsn =
    (taken_where_answered (delivery host changes link attempt passes) passes.course.runs.replies out.all ended out.k place dsn
    out.place_is).0 out.verdict_is in
    record {
      answered = its_answers host changes link attempt passes;
      reads = has_answers host changes link attempt passes;
      accepts = accepts_place host changes link attempt passes out.k place dsn taken;
      child = λ end others server list.
          let served = serves_of honest words world lists bound host changes link attempt is end others server list in
          taken_child host changes link attempt passes served.0 others world end served.1 place dsn gave;
    }

pub others_are_not_held : {D : Type 0} (honest : Type 0) (words : DiskWords D) → OthersAreNotHeld honest words
others_are_not_held honest words world lists bound host changes link attempt is end server place verdict gave off =
    let passes : PassesOn host changes link attempt = passes_of honest words world lists bound host changes link attempt is in
    let served : IsServed world lists attempt.link link end = bound.servers attempt.link link end is.its_link server in
    not_held host changes link attempt passes served.host served.changes world end served.serves
    (bound.hosts attempt.node host changes is.stands).list.fitting place verdict gave off
