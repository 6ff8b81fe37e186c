-- Chains of mail: how many `Received:` fields each message has.
use Rattle.std.proofs.Common.{◌≡◌, ℕ, zero, suc, ◌+◌, ◌<◌, ◌≤◌, List, [], ◌∷◌, length, map, take, Some, refl, sym, subst, ap, ◌∙◌, arith}
use Rattle.std.specs.List.{AllByRecursion, Contains}
use Rattle.std.proofs.lemmas.Option.{same_Some}
use Rattle.relay_disk.specs.Device.{DiskWords}
use Rattle.relay_envelope.proofs.Theorems.{host_word_has_no_crlf}
use Rattle.relay_trace.specs.HeaderSection.{received_count_of}
use Rattle.relay_routes.specs.declared.config.Config.{Config}
use Rattle.relay_routes.proofs.Theorems.{config_is_named}
use Rattle.relay_server.specs.declared.offer.Answer.{Answer}
use Rattle.relay_server.specs.declared.offer.Answer.TheVariants.{Queued, Full}
use Rattle.relay_server.specs.Dialogue.{Offered}
use Rattle.relay_server.specs.DialogueLaws.{MayBeStored}
use Rattle.relay_server.specs.Setup.{setup_for}
use Rattle.relay_server.proofs.Theorems.{offers_may_be_stored}
use Rattle.relay_lines.specs.Reply.{Reply}
use Rattle.relay_book.specs.declared.change.Accept.{Accept}
use Rattle.relay_book.specs.declared.change.Change.{Change}
use Rattle.relay_book.specs.Marks.{made_by, message_at}
use Rattle.relay_course.specs.Progress.{Delivery}
use Rattle.relay_meeting.specs.Joined.{child_by}
use Rattle.relay_meeting.proofs.Theorems.{child_holds_its_places}
use Rattle.relay_node.specs.Acceptance.{acceptance_by, stamp_at}
use Rattle.relay_node.specs.Queued.{queued_by}
use Rattle.relay_world.specs.declared.attempt.Attempt.{Attempt}
use Rattle.relay_world.specs.declared.line.Line.{Line}
use Rattle.relay_world.specs.declared.link.Link.{Link}
use Rattle.relay_world.specs.declared.link.ServerEnd.{ServerEnd}
use Rattle.relay_world.specs.Bound.{HasLink, IsBound, IsServed, IsStored, IsStoredAs, IsTried, ServesLink}
use Rattle.relay_world.specs.Chain.{ChainsAreShort, HasFields, IsAccepted, IsChain, IsChild, KeepsChainsShort}
use Rattle.relay_world.specs.Ledger.{accepts_on}
use Rattle.relay_world.specs.World.{Host, World, link_at}
use Rattle.relay_world.proofs.ContentLemmas.{delivery_by, delivery_is, joined_by}
use Rattle.relay_world.proofs.ReceivedLemmas.{passed_has_one_more}

-- an accept, as the ledger tells of it
abbrev accept_told : ℕ × Offered → ℕ × ℕ
accept_told one = (one.0, length one.1.envelope.recipients)

-- of what was queued the offer of a number has what all offers have, and all that were queued
queued_one : (P : Offered → Type 0) (Q : ℕ × Offered → Type 0) (answers : List Answer) (offers : List Offered)
    (number places : ℕ) → AllByRecursion P offers → AllByRecursion Q (queued_by answers offers)
    → Contains {X = ℕ × ℕ} (map accept_told (queued_by answers offers)) (number, places)
    → (offer : Offered) × P offer × Q (number, offer)
queued_one P Q [] offers number places all queued has = absurd (omega (arith, has.1))
queued_one P Q (answer ∷ answers) [] number places all queued has = absurd (omega (arith, has.1))
queued_one P Q (Queued n ∷ answers) (offer ∷ offers) number places all queued (zero, within, is) =
    (offer, all.0, subst (λ k. Q (k, offer)) (ap (λ (p : ℕ × ℕ). p.0) is) queued.0)
queued_one P Q (Queued n ∷ answers) (offer ∷ offers) number places all queued (suc k, within, is) =
    queued_one P Q answers offers number places all.1 queued.1 (k, omega (arith, within), is)
queued_one P Q (Full ∷ answers) (offer ∷ offers) number places all queued has =
    queued_one P Q answers offers number places all.1 queued has

-- offers that are one at most are that one
each_is : (P : Offered → Type 0) (offers : List Offered) (one : Offered) → (0 < length offers → offers ≡ one ∷ [])
    → AllByRecursion P offers → AllByRecursion (λ offer. P offer × (offer ≡ one)) offers
each_is P [] one only all = tt
each_is P (offer ∷ offers) one only all =
    let is : offer ∷ offers ≡ one ∷ [] = only (omega arith) in
    let head : offer ≡ one = cc in
    let tail : offers ≡ [] = cc in
    ((all.0, head), subst (λ (l : List Offered). AllByRecursion (λ offer. P offer × (offer ≡ one)) l) (sym tail) tt)

module _ {D : Type 0} where
  -- the fields of what is stored of an offer
  stored_fields : (host : Host D) (peer : List ℕ) (changes : List Change) (number : ℕ) (offer : Offered)
      → MayBeStored (setup_for host.config peer) offer → (stored : IsStoredAs host.config peer changes number offer)
      → received_count_of stored.accept.stored_text ≡ received_count_of offer.content + 1
  stored_fields host peer changes number offer may stored =
      let config : Config = host.config in
      let named = config_is_named config.host config.max_content config.spool_limit config.routes config.valid in
      passed_has_one_more (stamp_at (acceptance_by config peer number stored.at) offer.client) offer.content
      stored.accept.stored_text (host_word_has_no_crlf offer.client.word may.client) named.has_no_crlf stored.is.passed

  -- and the change of its number is that message
  stored_message : (host : Host D) (peer : List ℕ) (changes : List Change) (number : ℕ) (offer : Offered)
      → (stored : IsStoredAs host.config peer changes number offer) → message_at changes number ≡ Some stored.accept
  stored_message host peer changes number offer stored = ap (made_by changes) stored.found

  -- an offer that was accepted on a link that a node serves
  pub accepted_offer : (host : Host D) (changes : List Change) (ledger : List Line) (on : ℕ) (link : Link) (end : ServerEnd)
      (P : Offered → Type 0) (serves : ServesLink host changes ledger on link end) (number places : ℕ)
      → AllByRecursion P serves.said.offers → Contains {X = ℕ × ℕ} (accepts_on on ledger) (number, places)
      → (offer : Offered) × P offer × IsStoredAs host.config end.peer changes number offer
  accepted_offer host changes ledger on link end P serves number places all has =
      queued_one P (IsStored host.config end.peer changes) serves.said.answers serves.said.offers number places all
      serves.stored (subst (λ (l : List (ℕ × ℕ)). Contains {X = ℕ × ℕ} l (number, places)) serves.accepts has)

module _ {D : Type 0} (honest : Type 0) (words : DiskWords D) (world : World D) (lists : List (List Change))
    (bound : IsBound honest words world lists) where
  accepted_on : (on : ℕ) (link : Link) (end : ServerEnd) (number places : ℕ) → link_at world.links on ≡ Some link
      → link.server ≡ Some end → Contains {X = ℕ × ℕ} (accepts_on on world.ledger) (number, places)
      → (content : ℕ) × HasFields lists (end.node, number) (content + 1) × (content ≤ 99)
  accepted_on on link end number places there server has =
      let served : IsServed world lists on link end = bound.servers on link end there server in
      let serves = served.serves in
      let one = accepted_offer served.host served.changes world.ledger on link end
      (MayBeStored (setup_for served.host.config end.peer)) serves number places
      (offers_may_be_stored (setup_for served.host.config end.peer) serves.said serves.dialogue) has in
      let few = one.1.received in (
        received_count_of one.0.content,
        record {
          changes = served.changes;
          list_at = served.stands.list_at;
          accept = one.2.accept;
          found = stored_message served.host end.peer served.changes number one.0 one.2;
          count_is = stored_fields served.host end.peer served.changes number one.0 one.1 one.2;
        },
        omega (arith, few),
      )

  accepted : (message : ℕ × ℕ) → IsAccepted world message
      → (content : ℕ) × HasFields lists message (content + 1) × (content ≤ 99)
  accepted message is =
      subst (λ (m : ℕ × ℕ). (content : ℕ) × HasFields lists m (content + 1) × (content ≤ 99)) (sym is.message_is)
      (accepted_on is.on is.link is.end is.number is.places is.is_there is.serves is.told)

  -- what was accepted on the link of an attempt
  child_on : (on : ℕ) (link : Link) (place : ℕ) (tried : IsTried world lists on link place) (end : ServerEnd)
      (number places : ℕ) → link_at world.links on ≡ Some link → link.server ≡ Some end
      → Contains {X = ℕ × ℕ} (accepts_on on world.ledger) (number, places)
      → (content : ℕ) × HasFields lists (tried.attempt.node, tried.attempt.message) content
      × HasFields lists (end.node, number) (content + 1) × (content ≤ 99)
  child_on on link place tried end number places there server has =
      let served : IsServed world lists on link end = bound.servers on link end there server in
      let serves = served.serves in
      let passes = tried.passes in
      let delivery : Delivery = delivery_by tried.host tried.changes link tried.attempt passes in
      let replies : List Reply = passes.course.runs.replies in
      let only : 0 < length serves.said.offers → serves.said.offers ≡ child_by delivery replies ∷ [] =
      child_holds_its_places (setup_for served.host.config end.peer) delivery serves.said serves.closing (take link.down_read link.down)
      passes.output replies passes.course.runs.rest (delivery_is tried.host tried.changes link tried.attempt passes)
      (joined_by tried.host served.host tried.changes served.changes world.ledger on link tried.attempt end passes serves) in
      let Its : Offered → Type 0 = λ offer. MayBeStored (setup_for served.host.config end.peer) offer
      × (offer ≡ child_by delivery replies) in
      let one = accepted_offer served.host served.changes world.ledger on link end Its serves number places
      (each_is (MayBeStored (setup_for served.host.config end.peer)) serves.said.offers (child_by delivery replies) only
      (offers_may_be_stored (setup_for served.host.config end.peer) serves.said serves.dialogue)) has in
      let content : one.0.content ≡ passes.accept.stored_text = ap (λ (o : Offered). o.content) one.1.1 in
      let few = one.1.0.received in
      let same = ap received_count_of content in (
        received_count_of passes.accept.stored_text,
        record {
          changes = tried.changes;
          list_at = tried.stands.list_at;
          accept = passes.accept;
          found = passes.accepted;
          count_is = refl;
        },
        record {
          changes = served.changes;
          list_at = served.stands.list_at;
          accept = one.2.accept;
          found = stored_message served.host end.peer served.changes number one.0 one.2;
          count_is = stored_fields served.host end.peer served.changes number one.0 one.1.0 one.2
              ∙ ap (λ n. n + 1) same;
        },
        omega (arith, few, same),
      )

  pub child_has_one_more : (parent child : ℕ × ℕ) → IsChild world parent child
      → (content : ℕ) × HasFields lists parent content × HasFields lists child (content + 1) × (content ≤ 99)
  child_has_one_more parent child is =
      let has : HasLink world.links is.at is.attempt = bound.attempts is.at is.attempt is.is_there in
      let same : has.link ≡ is.link = same_Some has.link is.link (sym has.is_there ∙ is.its_link) in
      let client : is.link.client ≡ Some is.at = sym (ap (λ (l : Link). l.client) same) ∙ has.client in
      let tried : IsTried world lists is.attempt.link is.link is.at =
      bound.clients is.attempt.link is.at is.link is.its_link client in
      let same_attempt : tried.attempt ≡ is.attempt =
      same_Some tried.attempt is.attempt (sym tried.attempt_at ∙ is.is_there) in
      let parent_is : parent ≡ (tried.attempt.node, tried.attempt.message) =
      is.parent_is ∙ sym (ap (λ (a : Attempt). (a.node, a.message)) same_attempt) in
      subst (λ (m : ℕ × ℕ). (content : ℕ) × HasFields lists m content × HasFields lists child (content + 1) × (content ≤ 99))
      (sym parent_is)
      (subst (λ (m : ℕ × ℕ). (content : ℕ) × HasFields lists (tried.attempt.node, tried.attempt.message) content
      × HasFields lists m (content + 1) × (content ≤ 99)) (sym is.child_is)
      (child_on is.attempt.link is.link is.at tried is.end is.number is.places is.its_link is.serves is.accepted))

  -- a message has so many fields, and no other number of them
  one_count : (message : ℕ × ℕ) (count other : ℕ) → HasFields lists message count → HasFields lists message other
      → count ≡ other
  one_count message count other one two =
      let lists_are = same_Some one.changes two.changes (sym one.list_at ∙ two.list_at) in
      let accepts_are = same_Some one.accept two.accept
      (sym one.found ∙ ap (λ l. message_at l message.1) lists_are ∙ two.found) in
      sym one.count_is ∙ ap (λ (a : Accept). received_count_of a.stored_text) accepts_are ∙ two.count_is

  -- the fields of the first message and the children of a chain are 100 at most
  few_children : (first : ℕ × ℕ) (children : List (ℕ × ℕ)) (count : ℕ) → HasFields lists first count → count ≤ 100
      → IsChain world first children → count + length children ≤ 100
  few_children first [] count has few chain = omega (arith, few)
  few_children first (child ∷ children) count has few chain =
      let next = child_has_one_more first child chain.0 in
      let same = one_count first count next.0 has next.1 in
      let low = next.3 in
      let rest = few_children child children (next.0 + 1) next.2 (omega (arith, low)) chain.1 in
      omega (arith, same, rest)

  chains : (first : ℕ × ℕ) (children : List (ℕ × ℕ)) → IsChain world first children → length children ≤ 100
  chains first [] chain = omega arith
  chains first (child ∷ children) chain =
      let next = child_has_one_more first child chain.0 in
      let low = next.3 in
      let all = few_children first (child ∷ children) next.0 next.1 (omega (arith, low)) chain in
      omega (arith, all)

  accepts : (first : ℕ × ℕ) (children : List (ℕ × ℕ)) → IsAccepted world first → IsChain world first children
      → length (first ∷ children) ≤ 100
  accepts first children is chain =
      let has = accepted first is in
      let low = has.2 in
      let all = few_children first children (has.0 + 1) has.1 (omega (arith, low)) chain in
      omega (arith, all)

  pub short_chains : KeepsChainsShort world lists
  short_chains = record {
    accepted = accepted;
    child = child_has_one_more;
    chains = chains;
    accepts = accepts;
  }

pub chains_are_short : {D : Type 0} (honest : Type 0) (words : DiskWords D) → ChainsAreShort honest words
chains_are_short honest words world lists bound = short_chains honest words world lists bound
