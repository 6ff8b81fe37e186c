-- What a call of the node does to the connection of a client.
use Rattle.std.proofs.Common.{◌≡◌, ℕ, ◌+◌, Bool, true, false, List, [], ◌∷◌, ◌++◌, length, take, drop, Option, None, Some, Result, Err, refl, sym, ap, ◌∙◌, subst, append_assoc, append-nil, take-append-drop, arith}
use Rattle.std.specs.Option.{option_map}
use Rattle.relay_disk.specs.Device.{DiskWords}
use Rattle.relay_slots.specs.Slots.{slot_at}
use Rattle.relay_routes.specs.declared.config.Config.{Config}
use Rattle.relay_server.specs.declared.offer.Answer.TheVariants.{Queued}
use Rattle.relay_server.specs.Dialogue.{Offered, Said}
use Rattle.relay_server.specs.Setup.{setup_for}
use Rattle.relay_server.proofs.Theorems.{offers_are_answered}
use Rattle.relay_book.specs.declared.change.Accept.{Accept}
use Rattle.relay_book.specs.declared.change.Change.{Change}
use Rattle.relay_book.specs.declared.change.Change.TheVariants as change
use Rattle.relay_records.specs.declared.fault.NodeFault.{NodeFault}
use Rattle.relay_records.specs.Records.{Keeps, Kept}
use Rattle.relay_node.specs.declared.receive.Received.{Received}
use Rattle.relay_node.specs.Acceptance.{IsAcceptOf, acceptance_by}
use Rattle.relay_node.specs.Node.{HasClosed, NodeState, Makes, Receives, SeatHasSaid, SessionGoesOn}
use Rattle.relay_node.specs.Queued.{queued_in}
use Rattle.relay_node.proofs.Theorems.{queued_grows}
use Rattle.relay_loop.specs.declared.clients.Heard.{Heard}
use Rattle.relay_loop.specs.Accepted.{AreAccepted, GrowsBy}
use Rattle.relay_loop.specs.Clients.{GoesOn, IsHeardFrom, IsSetTo, Reads, TalksTo}
use Rattle.relay_loop.specs.Outboxes.{octets_of, unwritten_at}
use Rattle.relay_loop.specs.Relay.{RelayState}
use Rattle.relay_loop.proofs.AcceptedLemmas.{accepted_alike, accepted_more, change_last}

-- a fault of one answer, as that of another
pub err_of : {A B : Type 0} (fault other : NodeFault) → ◌≡◌ {A = Result A NodeFault} (Err fault) (Err other) → ◌≡◌ {A = Result B NodeFault} (Err fault) (Err other)
err_of fault other e = let is : fault ≡ other = cc in ap (λ (x : NodeFault). Err x) is

-- what waits where a connection stands
pub waits_there : (connections : List (Option (List ℕ))) (number : ℕ) (waiting : List ℕ) → slot_at connections number ≡ Some waiting → unwritten_at connections number ≡ waiting
waits_there connections number waiting there = ap octets_of there

-- what was written, and then what waits, less what was written of that
pub written_more : (output written waiting : List ℕ) (count : ℕ) → output ≡ written ++ waiting → output ≡ (written ++ take count waiting) ++ drop count waiting
written_more output written waiting count is = is ∙ ap (λ l. written ++ l) (sym (take-append-drop count waiting)) ∙ sym (append_assoc written (take count waiting) (drop count waiting))

-- octets were written to the connection of a session
pub talks_wrote : {D : Type 0} (changes : List Change) (old new : RelayState D) (session : ℕ) (peer : List ℕ) (said : Said) (written : List ℕ) (count : ℕ) → new.node ≡ old.node → slot_at new.clients session ≡ option_map (drop count) (slot_at old.clients session)
    → TalksTo changes old session peer said written → TalksTo changes new session peer said (written ++ take count (unwritten_at old.clients session))
talks_wrote {D = D} changes old new session peer said written count same left t = record {
  seat = subst (λ (node : NodeState D). SeatHasSaid node.config node.seats session peer said) (sym same) t.seat;
  waiting = drop count t.waiting;
  connection = left ∙ ap (option_map (drop count)) t.connection;
  output =
      subst (λ l. said.output ≡ (written ++ take count l) ++ drop count t.waiting) (sym (waits_there old.clients session t.waiting t.connection))
      (written_more said.output written t.waiting count t.output);
  accepted = subst (λ (node : NodeState D). AreAccepted node.config peer changes said) (sym same) t.accepted;
}

-- a session that is talked to, and to which nothing waits to be written
module _ {D : Type 0} (list : List Change) (session : ℕ) (peer : List ℕ) (said : Said) (written : List ℕ) (old new : RelayState D) (t : TalksTo list old session peer said written) where
  -- each offer has its answer
  pub even : length said.offers ≡ length said.answers
  even =
      let by = offers_are_answered (setup_for old.node.config peer) t.seat.seat.session.value said t.seat.says.stands in
      let none = ap length t.seat.says.settled in
      omega (arith, by, none)

  module _ (drained : unwritten_at old.clients session ≡ []) (same : new.node.config ≡ old.node.config) (grown : List Change) (later : Said) (out : List ℕ) (said_more : later.output ≡ said.output ++ out)
      (accepted : AreAccepted old.node.config peer grown later) where
    -- all that was said is written
    all_written : said.output ≡ written
    all_written = t.output ∙ ap (λ l. written ++ l) (sym (waits_there old.clients session t.waiting t.connection) ∙ drained) ∙ append-nil written

    output : later.output ≡ written ++ out
    output = said_more ∙ ap (λ l. l ++ out) all_written

    -- it goes on, or has closed
    pub goes_on : (is_closed : Bool) (last : Option (List ℕ)) → SessionGoesOn old.node.config new.node.seats session peer later is_closed → IsSetTo is_closed session out last new.clients → GoesOn grown new session peer later written last
    goes_on true last gone at_end =
        subst (λ (octets : Option (List ℕ)). GoesOn grown new session peer later written octets) (sym at_end.1)
        (record {
          closed = subst (λ (config : Config). HasClosed (setup_for config peer) later) (sym same) gone.1;
          seat = gone.0;
          connection = at_end.0;
          output = output;
          accepted = subst (λ (config : Config). AreAccepted config peer grown later) (sym same) accepted;
        })
    goes_on false last says going =
        subst (λ (octets : Option (List ℕ)). GoesOn grown new session peer later written octets) (sym going.1)
        (record {
          seat = subst (λ (config : Config). SeatHasSaid config new.node.seats session peer later) (sym same) says;
          waiting = out;
          connection = going.0;
          output = output;
          accepted = subst (λ (config : Config). AreAccepted config peer grown later) (sym same) accepted;
        })

-- an offer that was queued after a list is accepted by the change that is added to it
pub accepted_last : (config : Config) (peer : List ℕ) (at : ℕ) (list : List Change) (said later : Said) (number : ℕ) (offer : Offered) (accept : Accept) → number ≡ length list + 1 → IsAcceptOf (acceptance_by config peer (length list + 1) at) offer accept
    → queued_in later ≡ queued_in said ++ (number, offer) ∷ [] → AreAccepted config peer list said → AreAccepted config peer (list ++ change.Accept accept ∷ []) later
accepted_last config peer at list said later number offer accept number_is is_accept grows each =
    accepted_more config peer list (change.Accept accept) said later number offer grows
    (record {
      at = at;
      accept = accept;
      is_accept = subst (λ n. IsAcceptOf (acceptance_by config peer n at) offer accept) (sym number_is) is_accept;
      change_is = change_last list (change.Accept accept) number number_is;
    })
    each

module _ {D : Type 0} (honest : Type 0) (words : DiskWords D) (changes : List Change) (session : ℕ) (peer : List ℕ) (at : ℕ) (said : Said) (written piece : List ℕ) (old new : RelayState D) (received : Received) (heard : Heard)
    (keeps : Keeps honest words old.node.records changes) (t : TalksTo changes old session peer said written) (drained : unwritten_at old.clients session ≡ [])
    (r : Receives honest words old.node.config changes peer at session said piece old.node new.node received) (same : new.node.config ≡ old.node.config)
    (h : IsHeardFrom received heard) (set : IsSetTo received.close session received.out.items heard.last new.clients) where
  -- the list after the call, which the node keeps, and by which the offers are accepted
  record Grown (made : Option ℕ) : Type 0 where
    pub list : List Change
    pub grows : GrowsBy changes made list
    pub keeps_list : Keeps honest words new.node.records list
    pub accepted : AreAccepted old.node.config peer list r.later

  grown_by : (made : Option ℕ) → Makes honest words old.node.config changes peer at said r.later r.talks.refused received.used old.node.records new.node.records made → Grown made
  grown_by None (more, unchanged) = record {
    list = changes;
    grows = refl;
    keeps_list = subst (λ (records : Kept D). Keeps honest words records changes) (sym unchanged) keeps;
    accepted = accepted_alike old.node.config peer changes said r.later (queued_grows said r.later r.talks.refused [] [] (even changes session peer said written old new t) more) t.accepted;
  }
  grown_by (Some number) queues = record {
    list = changes ++ change.Accept queues.accept ∷ [];
    grows = (queues.accept, queues.number_is, refl);
    keeps_list = queues.adds.keeps;
    accepted =
        accepted_last old.node.config peer at changes said r.later number queues.offer queues.accept queues.number_is queues.fits.is_accept
        (queued_grows said r.later r.talks.refused (queues.offer ∷ []) (Queued number ∷ []) (even changes session peer said written old new t) queues.answers) t.accepted;
  }

  grown : Grown received.change
  grown = grown_by received.change r.talks.makes

  pub reads : Reads honest words changes session peer at said written piece old new heard
  reads = record {
    later = r.later;
    input = r.talks.input ∙ ap (λ n. said.input ++ take n piece) (sym h.used);
    refused = r.talks.refused;
    no_room = r.talks.no_room;
    makes =
        subst (λ n. Makes honest words old.node.config changes peer at said r.later r.talks.refused n old.node.records new.node.records heard.change) (sym h.used)
        (subst (λ (made : Option ℕ). Makes honest words old.node.config changes peer at said r.later r.talks.refused received.used old.node.records new.node.records made) (sym h.change) r.talks.makes);
    list = grown.list;
    grows = subst (λ (made : Option ℕ). GrowsBy changes made grown.list) (sym h.change) grown.grows;
    keeps = grown.keeps_list;
    goes_on = goes_on changes session peer said written old new t drained same grown.list r.later received.out.items r.talks.output grown.accepted received.close heard.last r.goes_on set;
  }
