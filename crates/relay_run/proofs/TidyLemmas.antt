-- Clients that are served, while the spool is made smaller.
use Rattle.std.proofs.Common.{◌≡◌, ◌≢◌, ◌⊎◌, ◌++◌, inl, inr, ℕ, Bool, true, false, List, [], Option, None, Some, Box, Result, Ok, Err, refl, sym, ap, ◌∙◌, subst, append-nil}
use Rattle.std.specs.Prelude.{MatchResult, OnOk}
use Rattle.std.specs.Global.{Global}
use Rattle.relay_disk.specs.Device.{DiskWords}
use Rattle.relay_slots.specs.Slots.{slot_at}
use Rattle.relay_routes.specs.declared.config.Config.{Config}
use Rattle.relay_book.specs.declared.change.Change.{Change}
use Rattle.relay_records.specs.Records.{Keeps}
use Rattle.relay_loop.specs.Clients.{TalksTo}
use Rattle.relay_loop.specs.Outboxes.{unwritten_at}
use Rattle.relay_loop.specs.Relay.{RelayState}
use Rattle.relay_loop.proofs.Theorems.{hands_stay, talks_stay}
use Rattle.relay_connections.specs.Carried.{Carries, Setting}
use Rattle.relay_connections.specs.Served.{AreServed, HasSaid, HaveRelayed, HaveSetups, Serves, address_of}
use Rattle.relay_connections.specs.declared.client.Client.{Client}
use Rattle.relay_run.specs.Tidying.{IsCompacted, KeepsRest, MayBeTrimmed}

module _ {D : Type 0} (changes : List Change) (old new : RelayState D) (rest : KeepsRest old new) where
  -- the histories of attempts go on
  relayed_still : HaveRelayed changes old → HaveRelayed changes new
  relayed_still have = λ attempt stands.
      let had = have attempt (λ none. stands (ap (λ l. slot_at l attempt) rest.hops ∙ none)) in
      record {
        told = had.told;
        written = had.written;
        hands = hands_stay changes changes old new attempt had.told had.written (inl refl) (ap (λ l. slot_at l attempt) rest.attempts) (ap (λ l. slot_at l attempt) rest.hops) rest.config had.hands;
      }

  -- so do the exchanges with clients
  said_still : (number : ℕ) (address : List ℕ) (said : _) → HasSaid changes old number address said → HasSaid changes new number address said
  said_still number address said has = record {
    written = has.written;
    talks = subst (λ (list : List Change). TalksTo list new number address said has.written) (append-nil changes)
        (talks_stay changes [] old new number address said has.written (ap (λ l. slot_at l number) rest.seats) (ap (λ l. slot_at l number) rest.clients) rest.config has.talks);
  }

module _ {D S : Type 0} (honest : Type 0) (words : DiskWords D) (remaining contents : S → Option (List ℕ)) (changes : List Change) (setting : Setting) (clients : List (Option (Box (Client S) Global)))
    (old new : RelayState D) where
  serves_still : KeepsRest old new → (number : ℕ) (slot : Option (Box (Client S) Global)) → Serves remaining contents changes setting old number slot → Serves remaining contents changes setting new number slot
  serves_still rest number None unused = record {
    connection = ap (λ l. slot_at l number) rest.clients ∙ unused.connection;
    seat = ap (λ l. slot_at l number) rest.seats ∙ unused.seat;
  }
  serves_still rest number (Some client) session = record {
    address_is = session.address_is;
    said = session.said;
    has_said = said_still changes old new rest number (address_of client.value) session.said session.has_said;
    carries = subst (λ (waiting : List ℕ). Carries remaining contents (setting.beginnings number) 0 client.value.channel session.said waiting) (sym (ap (λ l. unwritten_at l number) rest.clients)) session.carries;
  }

  -- only the spool's files have changed, and the node keeps the same changes
  pub kept_serves : KeepsRest old new → Keeps honest words new.node.records changes → AreServed honest words remaining contents changes setting clients old
      → AreServed honest words remaining contents changes setting clients new
  kept_serves rest keeps served = record {
    keeps = keeps;
    setups_are = subst (λ (config : Config). HaveSetups setting.setups (record old { node = record old.node { config = config } })) (sym rest.config) served.setups_are;
    relayed = relayed_still changes old new rest served.relayed;
    each = λ number. serves_still rest number (slot_at clients number) (served.each number);
  }

  -- it is so if nothing has changed
  pub same_serves : new ≡ old → AreServed honest words remaining contents changes setting clients old → AreServed honest words remaining contents changes setting clients new
  same_serves same served = subst (λ (it : RelayState D). AreServed honest words remaining contents changes setting clients it) (sym same) served

  -- the spool was compacted, or wasn't
  pub tidied_serves : {E : Type 0} (was_full did : Bool) → (◌≡◌ {A = Result Bool E} (Ok did) (Ok false) → new ≡ old) → (◌≡◌ {A = Result Bool E} (Ok did) (Ok true) → IsCompacted honest words was_full old new)
      → Keeps honest words new.node.records changes → AreServed honest words remaining contents changes setting clients old → AreServed honest words remaining contents changes setting clients new
  tidied_serves was_full false unchanged compacted keeps served = same_serves (unchanged refl) served
  tidied_serves was_full true unchanged compacted keeps served = kept_serves (compacted refl).rest keeps served

  -- its other file was made shorter, or wasn't
  pub trimmed_serves : {A E : Type 0} (result : Result A E) (Q : E → Type 0) → OnOk result ((new ≡ old) ⊎ MayBeTrimmed honest words old new)
      → MatchResult result (λ _. Keeps honest words new.node.records changes) Q → AreServed honest words remaining contents changes setting clients old
      → OnOk result (AreServed honest words remaining contents changes setting clients new)
  trimmed_serves (Ok value) Q (inl same) keeps served = same_serves same served
  trimmed_serves (Ok value) Q (inr trimmed) keeps served = kept_serves trimmed.rest keeps served
  trimmed_serves (Err fault) Q trimmed keeps served = tt
