-- The one child that an attempt of a bound world may have.
use Rattle.std.proofs.Common.{◌≡◌, ◌⊎◌, inl, inr, ◌<◌, ℕ, Bool, true, false, MatchBool, List, [], ◌∷◌, ◌++◌, length, map, take, Option, None, Some, refl, sym, subst, ap, ◌∙◌, arith, lit<, lit≤}
use Rattle.std.specs.Prelude.{slice_get}
use Rattle.std.specs.List.{AllByRecursion, Contains}
use Rattle.std.proofs.lemmas.List.{length-append}
use Rattle.std.proofs.lemmas.Option.{same_Some}
use Rattle.relay_octets.specs.Line.{HasNoCrlf, crlf}
use Rattle.relay_disk.specs.Device.{DiskWords}
use Rattle.relay_lines.specs.Reply.{Reply}
use Rattle.relay_lines.specs.ReplyReading.{CutsAllReplies, EndsCut, IsUnfinished}
use Rattle.relay_lines.proofs.Theorems.{cut_is_one}
use Rattle.relay_envelope.specs.declared.envelope.Envelope.{Envelope}
use Rattle.relay_body.specs.DotText.{WritesDotText, ends_in_line_end}
use Rattle.relay_body.proofs.Theorems.{one_text}
use Rattle.relay_server.specs.declared.offer.Answer.{Answer}
use Rattle.relay_server.specs.declared.offer.Answer.TheVariants.{Queued, Full}
use Rattle.relay_server.specs.Dialogue.{Offered}
use Rattle.relay_server.specs.Setup.{setup_for}
use Rattle.relay_book.specs.declared.change.Accept.{Accept}
use Rattle.relay_book.specs.declared.change.Change.{Change}
use Rattle.relay_book.specs.declared.change.Verdict.{Verdict}
use Rattle.relay_course.specs.Course.{Concludes, IsSentAs, delivery_of}
use Rattle.relay_course.specs.declared.awaited.Awaited.TheVariants.{Rcpt}
use Rattle.relay_course.specs.Laws.{accepted_places, rcpts_in}
use Rattle.relay_course.specs.Progress.{Answered, Delivery, answer_of, progress}
use Rattle.relay_course.proofs.Theorems.{rcpts_are_in_order}
use Rattle.relay_meeting.specs.Joined.{HaveTalked, child_by}
use Rattle.relay_meeting.proofs.Theorems.{what_relays_say}
use Rattle.relay_node.specs.Queued.{queued_by, queued_in}
use Rattle.relay_world.specs.declared.attempt.Attempt.{Attempt}
use Rattle.relay_world.specs.declared.link.Link.{Link}
use Rattle.relay_world.specs.declared.link.ServerEnd.{ServerEnd}
use Rattle.relay_world.specs.Bound.{HasLink, IsBound, IsServed, IsStored, IsStoredAs, IsTried, PassesOn, ServesLink}
use Rattle.relay_world.specs.Children.{AreChildPlaces, HasAnswers, HasOneChild, IsAttempt, children_of}
use Rattle.relay_world.specs.Passing.{AtMostOneChild}
use Rattle.relay_world.specs.World.{Host, World}
use Rattle.relay_world.proofs.AmongLemmas.{all_by, all_of, found_in, in_found, recipients_there}
use Rattle.relay_world.proofs.AnsweredLemmas.{WasAccepted, place_tried, was_accepted}
use Rattle.relay_world.proofs.ContentLemmas.{delivery_by, delivery_is, joined_by}

no_crlf : HasNoCrlf []
no_crlf = record {
  nowhere = λ front after e. absurd (omega (arith, ap length e, length-append (front ++ crlf) after, length-append front crlf));
}

-- no octets are a rest that isn't whole
none_unfinished : IsUnfinished []
none_unfinished = record {
  code = 200;
  lines = [];
  part = [];
  followed = record { code_is = record { low = lit≤ tt; high = lit< tt }; few = lit≤ tt; each = tt };
  unended = no_crlf;
  short = lit< tt;
  octets_are = refl;
}

-- no further reply can be cut from what a course has read
all_read : (places : List ℕ) (told : Bool) (rest : List ℕ) (ended verdicts : Option (List Verdict))
    → Concludes places told rest ended verdicts → EndsCut rest
all_read places told rest (Some all) verdicts so = subst (λ r. EndsCut r) (sym so.1) (inl none_unfinished)
all_read places told rest None verdicts (inl so) = inl so.1
all_read places told rest None verdicts (inr (inl so)) = inl so.1
all_read places told rest None verdicts (inr (inr so)) = inr so.1

one_dot_text : (text one two : List ℕ) (test : Bool) → MatchBool test (WritesDotText text one) (one ≡ [])
    → MatchBool test (WritesDotText text two) (two ≡ []) → one ≡ two
one_dot_text text one two true a b = one_text text one two a b
one_dot_text text one two false a b = a ∙ sym b

-- where an offer was refused nothing is queued
full_only : (offers : List Offered) → queued_by (Full ∷ []) offers ≡ []
full_only [] = refl
full_only (offer ∷ offers) = refl

module _ {D : Type 0} (host : Host D) (changes : List Change) (link : Link) (attempt : Attempt)
    (passes : PassesOn host changes link attempt) where
  abbrev its_delivery : Delivery
  its_delivery = delivery_by host changes link attempt passes

  abbrev pub its_answers : List Answered
  its_answers = (progress its_delivery passes.course.runs.replies).answered

  pub all_cut : CutsAllReplies (take link.down_read link.down) passes.course.runs.replies passes.course.runs.rest
  all_cut = record {
    cut = passes.course.runs.cut;
    ends = all_read attempt.places.items passes.told passes.course.runs.rest
        (progress its_delivery passes.course.runs.replies).verdicts passes.verdicts passes.course.runs.concludes;
  }

  -- what the replies answered, and the child places
  pub has_answers : HasAnswers host changes link attempt its_answers
  has_answers = record {
    accept = passes.accept;
    accepted = passes.accepted;
    dot_text = passes.course.dot_text;
    sent = passes.course.sent;
    replies = passes.course.runs.replies;
    rest = passes.course.runs.rest;
    read = all_cut;
    answered_are = refl;
  }

  pub one_answered : (answered : List Answered) → HasAnswers host changes link attempt answered → answered ≡ its_answers
  one_answered answered has =
      let same : has.accept ≡ passes.accept = same_Some has.accept passes.accept (sym has.accepted ∙ passes.accepted) in
      let sent : IsSentAs passes.accept.stored_text has.dot_text =
      subst (λ (a : Accept). IsSentAs a.stored_text has.dot_text) same has.sent in
      let text : has.dot_text ≡ passes.course.dot_text =
      one_dot_text passes.accept.stored_text has.dot_text passes.course.dot_text (ends_in_line_end passes.accept.stored_text) sent
      passes.course.sent in
      let replies : has.replies ≡ passes.course.runs.replies =
      (cut_is_one (take link.down_read link.down) has.rest passes.course.runs.rest has.replies passes.course.runs.replies has.read
      all_cut).0 in
      has.answered_are
      ∙ ap (λ (a : Accept). (progress (delivery_of host.config.host a.envelope a.stored_text has.dot_text attempt.places.items)
      has.replies).answered) same
      ∙ ap (λ t. (progress (delivery_of host.config.host passes.accept.envelope passes.accept.stored_text t attempt.places.items)
      has.replies).answered) text
      ∙ ap (λ l. (progress its_delivery l).answered) replies

  pub child_places : AreChildPlaces host changes link attempt (accepted_places its_answers)
  child_places = record { answered = its_answers; reads = has_answers; places_are = refl }

  pub one_row : (places : List ℕ) → AreChildPlaces host changes link attempt places → places ≡ accepted_places its_answers
  one_row places are = are.places_are ∙ ap accepted_places (one_answered are.answered are.reads)

  -- each child place is one of the attempt's
  pub place_at : (k place : ℕ) (rcpt : Reply) → slice_get (rcpts_in its_answers) k ≡ Some (answer_of (Rcpt place) rcpt)
      → slice_get attempt.places.items k ≡ Some place
  place_at k place rcpt is =
      place_tried its_answers attempt.places.items k place rcpt (rcpts_are_in_order its_delivery passes.course.runs.replies) is

  pub child_place_tried : (place : ℕ) → Contains (accepted_places its_answers) place → Contains attempt.places.items place
  child_place_tried place has =
      let was : WasAccepted its_answers place = was_accepted its_answers place has in
      in_found attempt.places.items place was.0 (place_at was.0 place was.1 was.2)

  places_within : AllByRecursion (λ place. place < length passes.accept.envelope.recipients) (accepted_places its_answers)
  places_within = all_by (λ place. place < length passes.accept.envelope.recipients) (accepted_places its_answers) (λ place has.
      let tried = found_in attempt.places.items place (child_place_tried place has) in
      all_of (λ p. p < length passes.accept.envelope.recipients) attempt.places.items tried.0 place passes.within tried.1)

  module _ (other : Host D) (others : List Change) (world : World D) (end : ServerEnd)
      (serves : ServesLink other others world.ledger attempt.link link end) where
    abbrev pub child_now : Offered
    child_now = child_by its_delivery passes.course.runs.replies

    -- all that both ends have said
    pub talked : HaveTalked (setup_for other.config end.peer) its_delivery serves.said serves.closing
        passes.course.runs.replies passes.course.runs.rest
    talked = what_relays_say (setup_for other.config end.peer) its_delivery serves.said serves.closing
        (take link.down_read link.down) passes.output
        passes.course.runs.replies passes.course.runs.rest (delivery_is host changes link attempt passes)
        (joined_by host other changes others world.ledger attempt.link link attempt end passes serves)

    -- where the offer was queued, that is the one child
    pub one_child : (number : ℕ) → serves.said.offers ≡ child_now ∷ [] → serves.said.answers ≡ Queued number ∷ []
        → HasOneChild world host changes link attempt others
    one_child number offers answers =
        let queued : queued_in serves.said ≡ (number, child_now) ∷ [] =
        ap (λ l. queued_by l serves.said.offers) answers ∙ ap (λ l. queued_by (Queued number ∷ []) l) offers in
        let stored : IsStoredAs other.config end.peer others number child_now =
        (subst (λ l. AllByRecursion (IsStored other.config end.peer others) l) queued serves.stored).0 in
        record {
          number = number;
          places = accepted_places its_answers;
          are_its = child_places;
          one = serves.accepts
              ∙ ap (λ (l : List (ℕ × Offered)). map (λ one. (one.0, length one.1.envelope.recipients)) l) queued
              ∙ ap (λ (n : ℕ). (number, n) ∷ []) (recipients_there passes.accept.envelope.recipients (accepted_places its_answers)
              places_within);
          parent = passes.accept;
          parent_is = passes.accepted;
          holds = record {
            child = stored.accept;
            found = stored.found;
            reverse_path = ap (λ (e : Envelope). e.reverse_path) stored.is.envelope;
            ret = ap (λ (e : Envelope). e.ret) stored.is.envelope;
            envid = ap (λ (e : Envelope). e.envid) stored.is.envelope;
            recipients = ap (λ (e : Envelope). e.recipients) stored.is.envelope;
          };
        }

    -- the offer was queued, and is the one child; or there is none
    pub child_or_none : (children_of world attempt ≡ [])
        ⊎ ((number : ℕ) × (serves.said.offers ≡ child_now ∷ []) × (serves.said.answers ≡ Queued number ∷ []))
    child_or_none = by serves.said.answers serves.said.offers refl refl serves.answered talked.child
      where
        none : queued_in serves.said ≡ [] → children_of world attempt ≡ []
        none e = serves.accepts ∙ ap (λ (l : List (ℕ × Offered)). map (λ one. (one.0, length one.1.envelope.recipients)) l) e

        by : (answers : List Answer) (offers : List Offered) → serves.said.answers ≡ answers → serves.said.offers ≡ offers
            → length serves.said.answers ≡ length serves.said.offers
            → (0 < length serves.said.offers → serves.said.offers ≡ child_now ∷ [])
            → (children_of world attempt ≡ [])
            ⊎ ((number : ℕ) × (serves.said.offers ≡ child_now ∷ []) × (serves.said.answers ≡ Queued number ∷ []))
        by [] offers a o even one = inl (none (ap (λ l. queued_by l serves.said.offers) a))
        by (Full ∷ []) offers a o even one =
            inl (none (ap (λ l. queued_by l serves.said.offers) a ∙ full_only serves.said.offers))
        by (Queued number ∷ []) offers a o even one =
            let some : 0 < length serves.said.offers = let count = ap length a in omega (arith, even, count) in
            inr (number, one some, a)
        by (first ∷ second ∷ answers) offers a o even one =
            let counts = ap length a in
            let some : 0 < length serves.said.offers = omega (arith, even, counts) in
            let count = ap length (one some) in
            absurd (omega (arith, even, counts, count))

module _ {D : Type 0} (honest : Type 0) (words : DiskWords D) (world : World D) (lists : List (List Change))
    (bound : IsBound honest words world lists) (host : Host D) (changes : List Change) (link : Link) (attempt : Attempt)
    (is : IsAttempt world lists host changes link attempt) where
  has : HasLink world.links is.at attempt
  has = bound.attempts is.at attempt is.is_there

  same_link : has.link ≡ link
  same_link = same_Some has.link link (sym has.is_there ∙ is.its_link)

  tried : IsTried world lists attempt.link link is.at
  tried = bound.clients attempt.link is.at link is.its_link (ap (λ (l : Link). l.client) (sym same_link) ∙ has.client)

  same_attempt : tried.attempt ≡ attempt
  same_attempt = same_Some tried.attempt attempt (sym tried.attempt_at ∙ is.is_there)

  same_host : tried.host ≡ host
  same_host = same_Some tried.host host (sym tried.stands.host_at
      ∙ ap (λ (a : Attempt). slice_get world.hosts a.node) same_attempt ∙ is.stands.host_at)

  same_list : tried.changes ≡ changes
  same_list = same_Some tried.changes changes (sym tried.stands.list_at
      ∙ ap (λ (a : Attempt). slice_get lists a.node) same_attempt ∙ is.stands.list_at)

  -- what the world knows of the attempt
  pub passes_of : PassesOn host changes link attempt
  passes_of = subst (λ a. PassesOn host changes link a) same_attempt
      (subst (λ l. PassesOn host l link tried.attempt) same_list
      (subst (λ h. PassesOn h tried.changes link tried.attempt) same_host tried.passes))

  -- and of the server end of its link
  pub serves_of : (end : ServerEnd) (others : List Change) → link.server ≡ Some end → slice_get lists end.node ≡ Some others
      → (other : Host D) × ServesLink other others world.ledger attempt.link link end
  serves_of end others server list =
      let served : IsServed world lists attempt.link link end = bound.servers attempt.link link end is.its_link server in (
        served.host,
        subst (λ l. ServesLink served.host l world.ledger attempt.link link end)
            (same_Some served.changes others (sym served.stands.list_at ∙ list)) served.serves,
      )

pub at_most_one_child : {D : Type 0} (honest : Type 0) (words : DiskWords D) → AtMostOneChild honest words
at_most_one_child honest words world lists bound host changes link attempt is end others server list =
    let passes : PassesOn host changes link attempt = passes_of honest words world lists bound host changes link attempt is in
    let served = serves_of honest words world lists bound host changes link attempt is end others server list in
    elim (child_or_none host changes link attempt passes served.0 others world end served.1) [
      | inl none ↦ inl none
      | inr one ↦ inr (one_child host changes link attempt passes served.0 others world end served.1 one.0 one.1 one.2)
    ]
