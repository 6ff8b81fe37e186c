-- What an attempt of a bound world passes on.
use Rattle.std.proofs.Common.{◌≡◌, ◌<◌, ◌^◌, ℕ, zero, suc, List, [], ◌∷◌, length, map, take, Some, refl, sym, subst, ap, ◌∙◌, Bool, true, false, cond, arith}
use Rattle.std.specs.Prelude.{slice_get}
use Rattle.std.specs.List.{AllByRecursion, Contains}
use Rattle.std.proofs.lemmas.Option.{same_Some}
use Rattle.relay_octets.specs.Beginning.{Begins}
use Rattle.relay_disk.specs.Device.{DiskWords}
use Rattle.relay_lines.specs.Reply.{Reply}
use Rattle.relay_routes.specs.declared.config.Config.{Config}
use Rattle.relay_routes.specs.Settings.{IsNamed}
use Rattle.relay_routes.proofs.Theorems.{config_is_named}
use Rattle.relay_server.specs.declared.offer.Answer.{Answer}
use Rattle.relay_server.specs.declared.offer.Answer.TheVariants.{Queued, Full}
use Rattle.relay_server.specs.Dialogue.{Offered}
use Rattle.relay_server.specs.Setup.{setup_for}
use Rattle.relay_book.specs.declared.change.Accept.{Accept}
use Rattle.relay_book.specs.declared.change.Change.{Change}
use Rattle.relay_book.specs.Marks.{message_at}
use Rattle.relay_book.specs.Record.{IsAccept, is_null}
use Rattle.relay_course.specs.Course.{delivery_of}
use Rattle.relay_course.specs.Laws.{IsDelivery}
use Rattle.relay_course.specs.Progress.{Delivery, progress}
use Rattle.relay_course.proofs.Theorems.{each_command_is_read}
use Rattle.relay_meeting.specs.Joined.{AreJoined, child_by, output_with}
use Rattle.relay_meeting.proofs.Theorems.{child_holds_its_places}
use Rattle.relay_node.specs.Queued.{queued_by, queued_in}
use Rattle.relay_world.specs.declared.attempt.Attempt.{Attempt}
use Rattle.relay_world.specs.declared.line.Line.{Line}
use Rattle.relay_world.specs.declared.link.Link.{Link}
use Rattle.relay_world.specs.declared.link.ServerEnd.{ServerEnd}
use Rattle.relay_world.specs.Bound.{IsBound, IsServed, IsStored, IsStoredAs, IsTried, PassesOn, ServesLink}
use Rattle.relay_world.specs.Content.{ContentIsKept, IsPassedOn, PassesOnly, SendsOnly}
use Rattle.relay_world.specs.Ledger.{accepts_on}
use Rattle.relay_world.specs.World.{Host, World, link_at}
use Rattle.relay_world.proofs.AcknowledgedLemmas.{begins_on, begins_taken}

limit_is_small : (null : Bool) → cond null (2 ^ 26) (2 ^ 25) < 2 ^ 32
limit_is_small true = omega arith
limit_is_small false = omega arith

text_is_short : (accept : Accept) → IsAccept accept → length accept.stored_text < 2 ^ 32
text_is_short accept is =
    let few = is.text in let small = limit_is_small (is_null accept.envelope.reverse_path) in omega (arith, few, small)

named : (config : Config) → IsNamed config.host config.routes
named config = config_is_named config.host config.max_content config.spool_limit config.routes config.valid

contains_one : {A : Type 0} (one other : A) → Contains (one ∷ []) other → one ≡ other
contains_one one other (zero, within, is) = is
contains_one one other (suc k, within, is) = absurd (omega (arith, within))

contains_none : {A : Type 0} (other : A) → Contains {X = A} [] other → ⊥
contains_none other has = omega (arith, has.1)

-- an accept, as the ledger tells of it
abbrev accept_told : ℕ × Offered → ℕ × ℕ
accept_told one = (one.0, length one.1.envelope.recipients)

-- nothing is queued where nothing was offered
none_queued : (answers : List Answer) → queued_by answers [] ≡ []
none_queued [] = refl
none_queued (answer ∷ answers) = refl

-- of offers that are one at most the queued one is stored where all are
one_stored : (P : ℕ × Offered → Type 0) (answers : List Answer) (offer : Offered) (number places : ℕ)
    → AllByRecursion P (queued_by answers (offer ∷ []))
    → Contains {X = ℕ × ℕ} (map accept_told (queued_by answers (offer ∷ []))) (number, places) → P (number, offer)
one_stored P [] offer number places all has = absurd (contains_none {A = ℕ × ℕ} (number, places) has)
one_stored P (Queued n ∷ answers) offer number places all has =
    let only : Contains {X = ℕ × ℕ} ((n, length offer.envelope.recipients) ∷ []) (number, places) =
    subst (λ (l : List (ℕ × Offered)). Contains {X = ℕ × ℕ} (map accept_told ((n, offer) ∷ l)) (number, places))
    (none_queued answers) has in
    subst (λ k. P (k, offer))
    (ap (λ (p : ℕ × ℕ). p.0) (contains_one {A = ℕ × ℕ} (n, length offer.envelope.recipients) (number, places) only)) all.0
one_stored P (Full ∷ answers) offer number places all has =
    absurd (contains_none {A = ℕ × ℕ} (number, places)
    (subst (λ (l : List (ℕ × Offered)). Contains {X = ℕ × ℕ} (map accept_told l) (number, places)) (none_queued answers) has))

-- the same of offers that are one wherever there are any
child_stored : (P : ℕ × Offered → Type 0) (answers : List Answer) (offers : List Offered) (offer : Offered) (number places : ℕ)
    → (0 < length offers → offers ≡ offer ∷ []) → AllByRecursion P (queued_by answers offers)
    → Contains {X = ℕ × ℕ} (map accept_told (queued_by answers offers)) (number, places) → P (number, offer)
child_stored P answers [] offer number places one all has =
    absurd (contains_none {A = ℕ × ℕ} (number, places)
    (subst (λ (l : List (ℕ × Offered)). Contains {X = ℕ × ℕ} (map accept_told l) (number, places)) (none_queued answers) has))
child_stored P answers (first ∷ offers) offer number places one all has =
    let is : first ∷ offers ≡ offer ∷ [] = one (omega arith) in
    one_stored P answers offer number places (subst (λ l. AllByRecursion P (queued_by answers l)) is all)
    (subst (λ l. Contains {X = ℕ × ℕ} (map accept_told (queued_by answers l)) (number, places)) is has)

module _ {D : Type 0} where
  -- the delivery of an attempt
  abbrev pub delivery_by : (host : Host D) (changes : List Change) (link : Link) (attempt : Attempt)
      → PassesOn host changes link attempt → Delivery
  delivery_by host changes link attempt passes =
      delivery_of host.config.host passes.accept.envelope passes.accept.stored_text passes.course.dot_text attempt.places.items

  pub delivery_is : (host : Host D) (changes : List Change) (link : Link) (attempt : Attempt)
      (passes : PassesOn host changes link attempt) → IsDelivery (delivery_by host changes link attempt passes)
  delivery_is host changes link attempt passes = record {
    host = (named host.config).is_word;
    envelope = passes.valid.envelope;
    short = text_is_short passes.accept passes.valid;
    dot_text = passes.course.sent;
    some = passes.some;
    few = passes.few;
    within = passes.within;
  }

  -- both ends of a link are joined
  pub joined_by : (host other : Host D) (changes others : List Change) (ledger : List Line) (number : ℕ) (link : Link)
      (attempt : Attempt) (end : ServerEnd) (passes : PassesOn host changes link attempt)
      (serves : ServesLink other others ledger number link end)
      → AreJoined (setup_for other.config end.peer) (delivery_by host changes link attempt passes) serves.said serves.closing
      (take link.down_read link.down) passes.output passes.course.runs.replies passes.course.runs.rest
  joined_by host other changes others ledger number link attempt end passes serves = record {
    dialogue = serves.dialogue;
    numbered = serves.numbered;
    closes = serves.closes;
    host = (named other.config).is_name;
    cut = passes.course.runs.cut;
    written = passes.course.runs.written;
    up = subst (λ l. Begins l passes.output) (sym serves.input)
        (begins_on (take link.up_read link.up) link.up passes.output (begins_taken link.up_read link.up) passes.wrote);
    down = begins_on (take link.down_read link.down) link.down (output_with serves.said.output serves.closing)
        (begins_taken link.down_read link.down) serves.wrote;
  }

  sends_only : (host : Host D) (changes : List Change) (link : Link) (attempt : Attempt)
      (passes : PassesOn host changes link attempt) → SendsOnly host.config.host passes.accept attempt link.up
  sends_only host changes link attempt passes =
      let delivery : Delivery = delivery_by host changes link attempt passes in
      let replies : List Reply = passes.course.runs.replies in
      record {
        dot_text = passes.course.dot_text;
        sent = passes.course.sent;
        commands = (progress delivery replies).commands;
        begins = subst (λ l. Begins link.up l) passes.course.runs.written passes.wrote;
        each = each_command_is_read delivery replies (delivery_is host changes link attempt passes);
      }

  passed_on : (host other : Host D) (changes others : List Change) (ledger : List Line) (number : ℕ) (link : Link)
      (attempt : Attempt) (end : ServerEnd) (passes : PassesOn host changes link attempt)
      → ServesLink other others ledger number link end
      → (child places : ℕ) → Contains {X = ℕ × ℕ} (accepts_on number ledger) (child, places)
      → IsPassedOn passes.accept others child
  passed_on host other changes others ledger number link attempt end passes serves child places has =
      let delivery : Delivery = delivery_by host changes link attempt passes in
      let replies : List Reply = passes.course.runs.replies in
      let one : 0 < length serves.said.offers → serves.said.offers ≡ child_by delivery replies ∷ [] =
      child_holds_its_places (setup_for other.config end.peer) delivery serves.said serves.closing (take link.down_read link.down)
      passes.output replies passes.course.runs.rest (delivery_is host changes link attempt passes)
      (joined_by host other changes others ledger number link attempt end passes serves) in
      let told : Contains {X = ℕ × ℕ} (map accept_told (queued_in serves.said)) (child, places) =
      subst (λ (l : List (ℕ × ℕ)). Contains {X = ℕ × ℕ} l (child, places)) serves.accepts has in
      let stored : IsStoredAs other.config end.peer others child (child_by delivery replies) =
      child_stored (IsStored other.config end.peer others) serves.said.answers serves.said.offers (child_by delivery replies)
      child places one serves.stored told in
      record {
        child = stored.accept;
        found = stored.found;
        after = record { stamp = _; passed = stored.is.passed };
      }

module _ {D : Type 0} (honest : Type 0) (words : DiskWords D) where
  -- of what the world knows of the attempt on a link
  tried_only : (world : World D) (lists : List (List Change)) → IsBound honest words world lists → (number place : ℕ) (link : Link)
      → link_at world.links number ≡ Some link
      → (tried : IsTried world lists number link place)
      → PassesOnly world lists number link tried.host tried.attempt tried.passes.accept
  tried_only world lists bound number place link is tried = record {
    sends = sends_only tried.host tried.changes link tried.attempt tried.passes;
    passed = λ end others child places serves list has.
        let served : IsServed world lists number link end = bound.servers number link end is serves in
        subst (λ l. IsPassedOn tried.passes.accept l child)
        (same_Some served.changes others (sym served.stands.list_at ∙ list))
        (passed_on tried.host served.host tried.changes served.changes world.ledger number link tried.attempt end tried.passes
        served.serves child places has);
  }

  pub content_is_kept : ContentIsKept honest words
  content_is_kept world lists bound number place link attempt host changes accept is client at stands accepted =
      let tried : IsTried world lists number link place = bound.clients number place link is client in
      let same_attempt : tried.attempt ≡ attempt = same_Some tried.attempt attempt (sym tried.attempt_at ∙ at) in
      let its_node : tried.attempt.node ≡ attempt.node = ap (λ (a : Attempt). a.node) same_attempt in
      let same_host : tried.host ≡ host =
      same_Some tried.host host (sym tried.stands.host_at ∙ ap (λ n. slice_get world.hosts n) its_node ∙ stands.host_at) in
      let same_list : tried.changes ≡ changes =
      same_Some tried.changes changes (sym tried.stands.list_at ∙ ap (λ n. slice_get lists n) its_node ∙ stands.list_at) in
      let its_message : tried.attempt.message ≡ attempt.message = ap (λ (a : Attempt). a.message) same_attempt in
      let same_accept : tried.passes.accept ≡ accept =
      same_Some tried.passes.accept accept (sym tried.passes.accepted
      ∙ ap (λ l. message_at l tried.attempt.message) same_list ∙ ap (λ m. message_at changes m) its_message ∙ accepted) in
      subst (λ a. PassesOnly world lists number link host a accept) same_attempt
      (subst (λ h. PassesOnly world lists number link h tried.attempt accept) same_host
      (subst (λ c. PassesOnly world lists number link tried.host tried.attempt c) same_accept
      (tried_only world lists bound number place link is tried)))
