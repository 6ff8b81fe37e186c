-- What a node has acknowledged was added to its list of changes.
use Rattle.std.proofs.Common.{◌≡◌, ◌<◌, ℕ, List, [], ◌∷◌, ◌++◌, length, take, drop, sym, subst, ap, ◌∙◌, arith}
use Rattle.std.specs.Prelude.{slice_get}
use Rattle.std.specs.List.{AllByRecursion, Contains}
use Rattle.std.proofs.lemmas.List.{append_assoc, take-append-drop}
use Rattle.std.proofs.lemmas.Option.{same_Some}
use Rattle.relay_octets.specs.Beginning.{Begins}
use Rattle.relay_disk.specs.Device.{DiskWords}
use Rattle.relay_server.specs.declared.offer.Answer.{Answer}
use Rattle.relay_server.specs.declared.offer.Answer.TheVariants.{Queued, Full}
use Rattle.relay_server.specs.Dialogue.{IsDialogue, Offered, Said}
use Rattle.relay_server.specs.DialogueLaws.{AreNumbered}
use Rattle.relay_server.specs.Setup.{Setup, setup_for}
use Rattle.relay_server.proofs.Theorems.{beginnings_have_beginnings}
use Rattle.relay_routes.specs.declared.config.Config.{Config}
use Rattle.relay_book.specs.declared.change.Change.{Change}
use Rattle.relay_meeting.specs.Joined.{output_with}
use Rattle.relay_book.specs.Marks.{Added, made_by}
use Rattle.relay_node.specs.Queued.{queued_by, queued_in}
use Rattle.relay_world.specs.Bound.{IsBound, IsServed, IsStored, IsStoredAs, ServesLink, StandsAt}
use Rattle.relay_world.specs.Custody.{Acknowledged, AcknowledgedIsAccepted}
use Rattle.relay_world.specs.Ledger.{accepts_on}
use Rattle.relay_world.specs.World.{Host, World}
use Rattle.relay_world.proofs.AmongLemmas.{all_by, found_in, in_found, in_map}
use Rattle.relay_world.proofs.ClosingLemmas.{begins_dialogue}

pub begins_on : {A : Type 0} (front mid whole : List A) → Begins front mid → Begins mid whole → Begins front whole
begins_on front mid whole first second =
    (first.0 ++ second.0, second.1 ∙ ap (λ l. l ++ second.0) first.1 ∙ append_assoc front first.0 second.0)

pub begins_taken : {A : Type 0} (count : ℕ) (whole : List A) → Begins (take count whole) whole
begins_taken count whole = (drop count whole, sym (take-append-drop count whole))

-- an offer among others that was answered by a number is stored where all of them are
queued_stored : (P : ℕ × Offered → Type 0) (answers more : List Answer) (offers others : List Offered) (number : ℕ) (offer : Offered)
    → length answers ≡ length offers
    → AllByRecursion P (queued_by (answers ++ Queued number ∷ more) (offers ++ offer ∷ others)) → P (number, offer)
queued_stored P [] more [] others number offer even all = all.0
queued_stored P [] more (one ∷ offers) others number offer even all = absurd (omega (arith, even))
queued_stored P (answer ∷ answers) more [] others number offer even all = absurd (omega (arith, even))
queued_stored P (Queued n ∷ answers) more (one ∷ offers) others number offer even all =
    let rest : length answers ≡ length offers = omega (arith, even) in
    queued_stored P answers more offers others number offer rest all.1
queued_stored P (Full ∷ answers) more (one ∷ offers) others number offer even all =
    let rest : length answers ≡ length offers = omega (arith, even) in
    queued_stored P answers more offers others number offer rest all

-- what a dialogue that begins another has queued last is stored where the other's are
last_stored : (P : ℕ × Offered → Type 0) (setup : Setup) (said whole : Said) (answers : List Answer) (offers : List Offered)
    (number : ℕ) (offer : Offered)
    → IsDialogue setup said → IsDialogue setup whole → AreNumbered whole.answers
    → Begins said.input whole.input → Begins said.output whole.output
    → said.answers ≡ answers ++ Queued number ∷ [] → said.offers ≡ offers ++ offer ∷ [] → length answers ≡ length offers
    → AllByRecursion P (queued_in whole) → P (number, offer)
last_stored P setup said whole answers offers number offer is other numbered input output last its even all =
    let begin = beginnings_have_beginnings setup said whole is other numbered input output in
    let more : List Answer = begin.0.0 in
    let others : List Offered = begin.1.0 in
    let answers_are : whole.answers ≡ answers ++ Queued number ∷ more =
    begin.0.1 ∙ ap (λ l. l ++ more) last ∙ append_assoc answers (Queued number ∷ []) more in
    let offers_are : whole.offers ≡ offers ++ offer ∷ others =
    begin.1.1 ∙ ap (λ l. l ++ others) its ∙ append_assoc offers (offer ∷ []) others in
    queued_stored P answers more offers others number offer even
    (subst (λ (l : List Offered). AllByRecursion P (queued_by (answers ++ Queued number ∷ more) l)) offers_are
    (subst (λ (l : List Answer). AllByRecursion P (queued_by l whole.offers)) answers_are all))

-- the places of a message that is stored were added
stored_added : (config : Config) (peer : List ℕ) (changes : List Change) (number place : ℕ) (offer : Offered)
    → IsStoredAs config peer changes number offer → place < length offer.envelope.recipients → Added changes number place
stored_added config peer changes number place offer stored within = (
  stored.accept,
  ap (made_by changes) stored.found,
  subst (λ envelope. place < length envelope.recipients) (sym stored.is.envelope) within,
)

module _ {D : Type 0} (honest : Type 0) (words : DiskWords D) (world : World D) (lists : List (List Change)) where
  -- what was acknowledged is among the queued offers of its link
  acknowledged_queued : (bound : IsBound honest words world lists) → (node number places : ℕ)
      → (told : Acknowledged world node number places) → (P : ℕ × Offered → Type 0)
      → AllByRecursion P (queued_in (bound.servers told.on told.link told.end told.is_there told.serves).serves.said)
      → P (number, told.offer)
  acknowledged_queued bound node number places told P all =
      let served : IsServed world lists told.on told.link told.end = bound.servers told.on told.link told.end told.is_there told.serves in
      let serves : ServesLink served.host served.changes world.ledger told.on told.link told.end = served.serves in
      let its_host : told.host ≡ served.host =
      same_Some told.host served.host (sym told.found ∙ ap (λ n. slice_get world.hosts n) (sym told.its_node) ∙ served.stands.host_at) in
      let dialogue : IsDialogue (setup_for served.host.config told.end.peer) told.said =
      subst (λ (h : Host D). IsDialogue (setup_for h.config told.end.peer) told.said) its_host told.dialogue in
      let input : Begins told.said.input serves.said.input =
      subst (λ l. Begins told.said.input l) (sym serves.input) told.was_read in
      let output : Begins told.said.output serves.said.output =
      begins_dialogue (setup_for served.host.config told.end.peer) told.said serves.said serves.closing dialogue serves.dialogue
      serves.closes input
      (begins_on told.said.output told.link.down (output_with serves.said.output serves.closing) told.written serves.wrote) in
      last_stored P (setup_for served.host.config told.end.peer) told.said serves.said told.answers told.offers number told.offer
      dialogue serves.dialogue serves.numbered input output told.last_answer told.last_offer told.each all

  pub acknowledged_added : IsBound honest words world lists → (node : ℕ) (host : Host D) (changes : List Change)
      → StandsAt world lists node host changes → (number places place : ℕ) → Acknowledged world node number places
      → place < places → Added changes number place
  acknowledged_added bound node host changes stands number places place told within =
      let served : IsServed world lists told.on told.link told.end = bound.servers told.on told.link told.end told.is_there told.serves in
      let its_list : served.changes ≡ changes =
      same_Some served.changes changes (sym served.stands.list_at ∙ ap (λ n. slice_get lists n) told.its_node ∙ stands.list_at) in
      let stored : IsStoredAs served.host.config told.end.peer served.changes number told.offer =
      acknowledged_queued bound node number places told (IsStored served.host.config told.end.peer served.changes)
      served.serves.stored in
      let few : place < length told.offer.envelope.recipients = subst (λ n. place < n) told.places_are within in
      subst (λ l. Added l number place) its_list
      (stored_added served.host.config told.end.peer served.changes number place told.offer stored few)

  -- and so among the accepts of its link
  pub acknowledged_accepted : IsBound honest words world lists → (node number places : ℕ)
      → (told : Acknowledged world node number places)
      → Contains {X = ℕ × ℕ} (accepts_on told.on world.ledger) (number, places)
  acknowledged_accepted bound node number places told =
      let served : IsServed world lists told.on told.link told.end = bound.servers told.on told.link told.end told.is_there told.serves in
      subst (λ n. Contains {X = ℕ × ℕ} (accepts_on told.on world.ledger) (number, n)) (sym told.places_are)
      (acknowledged_queued bound node number places told
      (λ one. Contains {X = ℕ × ℕ} (accepts_on told.on world.ledger) (one.0, length one.1.envelope.recipients))
      (all_by _ (queued_in served.serves.said) (λ one has.
      let found = found_in (queued_in served.serves.said) one has in
      in_found (accepts_on told.on world.ledger) (one.0, length one.1.envelope.recipients) found.0
      (ap (λ l. slice_get l found.0) served.serves.accepts
      ∙ in_map (λ (o : ℕ × Offered). (o.0, length o.1.envelope.recipients)) (queued_in served.serves.said) found.0 one found.1))))

pub acknowledged_is_accepted : {D : Type 0} (honest : Type 0) (words : DiskWords D) → AcknowledgedIsAccepted honest words
acknowledged_is_accepted honest words world lists bound node number places told =
    acknowledged_accepted honest words world lists bound node number places told
