-- What each call for next hops leaves of clients, and of the histories of attempts.
use Rattle.std.proofs.Common.{◌≡◌, ◌≢◌, ◌⊎◌, inl, inr, ℕ, List, [], ◌∷◌, ◌++◌, Option, None, Some, Result, Ok, Err, take, drop, option_map, refl, sym, ap, ◌∙◌, subst, append-nil}
use Rattle.std.specs.Prelude.{IfOk, OnOk}
use Rattle.std.proofs.lemmas.Bool.{cases_eq}
use Rattle.relay_disk.specs.Device.{DiskWords}
use Rattle.relay_slots.specs.Slots.{OthersStay, slot_at}
use Rattle.relay_routes.specs.Routes.{RouteTable}
use Rattle.relay_report.specs.Report.{Reporter, reporter_of}
use Rattle.relay_book.specs.declared.change.Change.{Change}
use Rattle.relay_book.specs.declared.change.Outcome.{Outcome}
use Rattle.relay_records.specs.Records.{Keeps, Kept}
use Rattle.relay_records.specs.declared.fault.NodeFault.{NodeFault}
use Rattle.relay_records.specs.declared.fault.NodeFault.TheVariants.{NoMemory, Stopped, Unknown, NotDue, Full}
use Rattle.relay_attempts.specs.AddedOutcome.{AddsOutcome, reported_as}
use Rattle.relay_attempts.specs.Outcomes.{AddsUnroutable, RefusesToGiveUp}
use Rattle.relay_attempts.specs.Reply.{IsLost, Told, told_more}
use Rattle.relay_attempts.specs.declared.start.Started.{Started}
use Rattle.relay_node.specs.Attempts.{RefusesToReply, begun_with}
use Rattle.relay_node.specs.Node.{NodeState}
use Rattle.relay_loop.specs.Hops.{HandsTo, RefusesHop, Replies, RepliesBy, StartsToAtMost}
use Rattle.relay_loop.specs.Laws.{StaysOrGrows}
use Rattle.relay_loop.specs.Outboxes.{unwritten_at}
use Rattle.relay_loop.specs.Relay.{OnlyHop, RelayState}
use Rattle.relay_loop.specs.declared.hops.Answered.{Answered}
use Rattle.relay_loop.proofs.Theorems.{hands_stay, others_hand}
use Rattle.relay_connections.specs.Served.{HasRelayed, HaveRelayed, KeepsAfter, LeavesClients}
use Rattle.relay_connections.proofs.Theorems.{leaves_then}
use Rattle.relay_next_hops.specs.Losses.{TakesNote}

-- attempts, their connections and the configuration are the same
relayed_on : {D : Type 0} (changes later : List Change) (old new : RelayState D) → StaysOrGrows changes later → new.node.attempts ≡ old.node.attempts → new.hops ≡ old.hops → new.node.config ≡ old.node.config
    → HaveRelayed changes old → HaveRelayed later new
relayed_on changes later old new grown attempts hops config have = λ attempt stands.
    let had = have attempt (λ none. stands (ap (λ l. slot_at l attempt) hops ∙ none)) in
    record {
      told = had.told;
      written = had.written;
      hands = hands_stay changes later old new attempt had.told had.written grown (ap (λ l. slot_at l attempt) attempts) (ap (λ l. slot_at l attempt) hops) config had.hands;
    }

-- a call on one attempt
relayed_but : {D : Type 0} (changes later : List Change) (old new : RelayState D) (attempt : ℕ) → StaysOrGrows changes later → OnlyHop old new attempt → (slot_at new.hops attempt ≢ None → HasRelayed later new attempt)
    → HaveRelayed changes old → HaveRelayed later new
relayed_but changes later old new attempt grown only own have = λ number stands. by number stands (cases_eq number attempt) where
  by : (number : ℕ) → slot_at new.hops number ≢ None → (number ≡ attempt) ⊎ (number ≡ attempt → ⊥) → HasRelayed later new number
  by number stands (inl same) = subst (λ (n : ℕ). HasRelayed later new n) (sym same) (own (subst (λ (n : ℕ). slot_at new.hops n ≢ None) same stands))
  by number stands (inr apart) =
      let had = have number (λ none. stands (only.hops number apart ∙ none)) in
      record {
        told = had.told;
        written = had.written;
        hands = others_hand changes later old new attempt number had.told had.written grown
            (inl (only, apart)) had.hands;
      }

-- where a node refuses a reply, or the loss of a connection, without having stopped, its records are the same
refused_records : {D : Type 0} (words : DiskWords D) (attempt : ℕ) (old new : NodeState D) (fault : NodeFault) → (fault ≡ Stopped → ⊥) → RefusesToReply words attempt old new fault → new.records ≡ old.records
refused_records words attempt old new NoMemory other dropped = dropped.records
refused_records words attempt old new Stopped other stopped = absurd (other refl)
refused_records words attempt old new Unknown other same = ap (λ (node : NodeState _). node.records) same
refused_records words attempt old new Full other dropped = dropped.records
refused_records words attempt old new fault other refused = absurd refused

-- where nothing is given up, and the node hasn't stopped, its records are the same
given_none : {D : Type 0} (words : DiskWords D) (reporter : Reporter) (table : RouteTable) (message now : ℕ) (old new : Kept D) (fault : NodeFault) → (fault ≡ Stopped → ⊥)
    → RefusesToGiveUp words reporter table message now old new fault → new ≡ old
given_none words reporter table message now old new NoMemory other refused = refused.2
given_none words reporter table message now old new Stopped other refused = absurd (other refl)
given_none words reporter table message now old new Unknown other refused = refused.2
given_none words reporter table message now old new NotDue other refused = refused.2
given_none words reporter table message now old new Full other refused = refused.1
given_none words reporter table message now old new fault other refused = absurd refused

-- a fault that says that nothing is to be given up any more isn't that the node has stopped
pub not_stopped : (fault : NodeFault) → (fault ≡ Unknown) ⊎ (fault ≡ NotDue) → fault ≡ Stopped → ⊥
not_stopped fault (inl unknown) stopped = cc (sym unknown ∙ stopped)
not_stopped fault (inr ended) stopped = cc (sym ended ∙ stopped)

module _ {D : Type 0} (honest : Type 0) (words : DiskWords D) where
  kept_still : (changes : List Change) (relay : RelayState D) → Keeps honest words relay.node.records changes → HaveRelayed changes relay → KeepsAfter honest words changes relay
  kept_still changes relay keeps relayed = record {
    added = [];
    keeps = subst (λ (list : List Change). Keeps honest words relay.node.records list) (sym (append-nil changes)) keeps;
    relayed = subst (λ (list : List Change). HaveRelayed list relay) (sym (append-nil changes)) relayed;
  }

  -- an attempt has ended by this outcome, and its connection is gone
  kept_more : (reporter : Reporter) (changes : List Change) (outcome : Outcome) (used number : ℕ) (old new : RelayState D) (attempt : ℕ) → AddsOutcome honest words reporter changes outcome used new.node.records number
      → OnlyHop old new attempt → slot_at new.hops attempt ≡ None → HaveRelayed changes old → KeepsAfter honest words changes new
  kept_more reporter changes outcome used number old new attempt adds only gone relayed =
      let change = reported_as outcome adds.report in
      record {
        added = change ∷ [];
        keeps = adds.adds.keeps;
        relayed = relayed_but changes (changes ++ change ∷ []) old new attempt (inr (change, refl, adds.adds.keeps.fitting)) only (λ stands. absurd (stands gone)) relayed;
      }

  pub leaves_same : (relay : RelayState D) → LeavesClients honest words relay relay
  leaves_same relay = record {
    clients = refl;
    seats = refl;
    config = refl;
    keeps = λ changes keeps relayed. kept_still changes relay keeps relayed;
  }

  pub leaves_equal : (old new : RelayState D) → new ≡ old → LeavesClients honest words old new
  leaves_equal old new same = subst (λ (later : RelayState D). LeavesClients honest words old later) (sym same) (leaves_same old)

  -- a call that returned without a fault follows
  pub leaves_on : {A E : Type 0} (result : Result A E) (one two three : RelayState D) → LeavesClients honest words one two → OnOk result (LeavesClients honest words two three) → OnOk result (LeavesClients honest words one three)
  leaves_on (Ok value) one two three first second = leaves_then honest words one two three first second
  leaves_on (Err fault) one two three first second = second

  -- an attempt has begun
  pub start_leaves : (old new : RelayState D) (message : ℕ) (hop : List ℕ) (most : Option ℕ) (now : ℕ)
      (started : Started)
      → ((changes : List Change) → Keeps honest words old.node.records changes → StartsToAtMost changes message hop most now old new started) → new.node.records ≡ old.node.records → OnlyHop old new started.attempt
      → LeavesClients honest words old new
  start_leaves old new message hop most now started starts records only = record {
    clients = only.clients;
    seats = only.seats;
    config = only.config;
    keeps = λ changes keeps relayed.
        kept_still changes new (subst (λ (kept : Kept D). Keeps honest words kept changes) (sym records) keeps)
        (relayed_but changes changes old new started.attempt (inl refl) only
        (λ _. record {
          told = begun_with message hop started.places.items (starts changes keeps).begins.message;
          written = [];
          hands = (starts changes keeps).hands;
        })
        relayed);
  }

  -- some octets for a next hop were written
  pub wrote_leaves : (attempt count : ℕ) (old new : RelayState D)
      → ((changes : List Change) (told : Told) (written : List ℕ) → HandsTo changes old attempt told written → HandsTo changes new attempt told (written ++ take count (unwritten_at old.hops attempt)))
      → slot_at new.hops attempt ≡ option_map (drop count) (slot_at old.hops attempt) → OthersStay old.hops new.hops attempt → (new.node ≡ old.node) × (new.clients ≡ old.clients)
      → LeavesClients honest words old new
  wrote_leaves attempt count old new hands left others (node, clients) = record {
    clients = clients;
    seats = ap (λ (n : NodeState D). n.seats) node;
    config = ap (λ (n : NodeState D). n.config) node;
    keeps = λ changes keeps relayed.
        kept_still changes new (subst (λ (n : NodeState D). Keeps honest words n.records changes) (sym node) keeps)
        (relayed_but changes changes old new attempt (inl refl)
        (record {
          attempts = λ other apart. ap (λ (n : NodeState D). slot_at n.attempts other) node;
          hops = others;
          config = ap (λ (n : NodeState D). n.config) node;
          seats = ap (λ (n : NodeState D). n.seats) node;
          clients = clients;
        })
        (λ stands.
        let had = relayed attempt (λ none. stands (left ∙ ap (option_map (drop count)) none)) in
        record {
          told = had.told;
          written = had.written ++ take count (unwritten_at old.hops attempt);
          hands = hands changes had.told had.written had.hands;
        })
        relayed);
  }

  -- the note of the last change was taken
  pub note_leaves : (old new : RelayState D) → TakesNote old new → LeavesClients honest words old new
  note_leaves old new (node, clients, hops) = record {
    clients = clients;
    seats = ap (λ (n : NodeState D). n.seats) node;
    config = ap (λ (n : NodeState D). n.config) node;
    keeps = λ changes keeps relayed.
        kept_still changes new (subst (λ (n : NodeState D). Keeps honest words n.records changes) (sym node) (unnoted changes keeps))
        (relayed_on changes changes old new (inl refl) (ap (λ (n : NodeState D). n.attempts) node) hops (ap (λ (n : NodeState D). n.config) node) relayed);
  }
    where
      unnoted : (changes : List Change) → Keeps honest words old.node.records changes → Keeps honest words (record old.node.records { noted = None }) changes
      unnoted changes keeps = record { live = keeps.live; fitting = keeps.fitting; queue = keeps.queue; bodies = keeps.bodies; images = keeps.images }

  -- a call on an attempt was refused, and the node hasn't stopped
  pub refused_leaves : {T : Type 0} (attempt : ℕ) (old new : RelayState D) (fault : NodeFault) → (fault ≡ Stopped → ⊥) → RefusesHop {T = T} words attempt old new (Err fault) → OnlyHop old new attempt
      → LeavesClients honest words old new
  refused_leaves attempt old new fault other refuses only = record {
    clients = only.clients;
    seats = only.seats;
    config = only.config;
    keeps = λ changes keeps relayed.
        kept_still changes new
        (subst (λ (kept : Kept D). Keeps honest words kept changes) (sym (refused_records words attempt old.node new.node fault other (refuses.refused keeps.live))) keeps)
        (relayed_but changes changes old new attempt (inl refl) only (λ stands. absurd (stands refuses.gone)) relayed);
  }

  -- a connection was lost, and its attempt has ended
  pub lost_leaves : (reporter : Reporter) (attempt now change : ℕ) (old new : RelayState D)
      → ((changes : List Change) (told : Told) (written : List ℕ) → Keeps honest words old.node.records changes → HandsTo changes old attempt told written
      → IsLost honest words reporter now changes attempt told old.node.records new.node.records new.node.attempts change)
      → OnlyHop old new attempt → slot_at new.hops attempt ≡ None → (slot_at old.hops attempt ≡ None → ⊥) → LeavesClients honest words old new
  lost_leaves reporter attempt now change old new lost only gone stood = record {
    clients = only.clients;
    seats = only.seats;
    config = only.config;
    keeps = λ changes keeps relayed.
        let had = relayed attempt stood in
        let ended = lost changes had.told had.written keeps had.hands in
        kept_more reporter changes _ 0 change old new attempt ended.adds only gone relayed;
  }

  -- places without a hop were given up
  pub given_leaves : (reporter : Reporter) (table : RouteTable) (message now number : ℕ) (old new : RelayState D)
      → ((changes : List Change) → Keeps honest words old.node.records changes → AddsUnroutable honest words reporter table message now changes old.node.records new.node.records number)
      → (new.node.config ≡ old.node.config) × (new.node.seats ≡ old.node.seats) × (new.node.attempts ≡ old.node.attempts) → (new.clients ≡ old.clients) × (new.hops ≡ old.hops)
      → LeavesClients honest words old new
  given_leaves reporter table message now number old new gives (config, seats, attempts) (clients, hops) = record {
    clients = clients;
    seats = seats;
    config = config;
    keeps = λ changes keeps relayed.
        let gave = gives changes keeps in
        added_on changes _ old new gave.adds attempts hops config relayed;
  }
    where
      added_on : (changes : List Change) (outcome : Outcome) (old new : RelayState D) → AddsOutcome honest words reporter changes outcome 0 new.node.records number → new.node.attempts ≡ old.node.attempts
          → new.hops ≡ old.hops → new.node.config ≡ old.node.config → HaveRelayed changes old → KeepsAfter honest words changes new
      added_on changes outcome old new adds attempts hops config relayed =
          let change = reported_as outcome adds.report in
          record {
            added = change ∷ [];
            keeps = adds.adds.keeps;
            relayed = relayed_on changes (changes ++ change ∷ []) old new (inr (change, refl, adds.adds.keeps.fitting)) attempts hops config relayed;
          }

  -- none were given up, and the node hasn't stopped
  pub ungiven_leaves : (reporter : Reporter) (table : RouteTable) (message now : ℕ) (old new : RelayState D) (fault : NodeFault) → (fault ≡ Stopped → ⊥)
      → RefusesToGiveUp words reporter table message now old.node.records new.node.records fault
      → (new.node.config ≡ old.node.config) × (new.node.seats ≡ old.node.seats) × (new.node.attempts ≡ old.node.attempts) → (new.clients ≡ old.clients) × (new.hops ≡ old.hops)
      → LeavesClients honest words old new
  ungiven_leaves reporter table message now old new fault other refused (config, seats, attempts)
      (clients, hops) = record {
        clients = clients;
        seats = seats;
        config = config;
        keeps = λ changes keeps relayed.
            kept_still changes new (subst (λ (kept : Kept D). Keeps honest words kept changes) (sym (given_none words reporter table message now old.node.records new.node.records fault other refused)) keeps)
            (relayed_on changes changes old new (inl refl) attempts hops config relayed);
      }

  -- a reply was heard
  replied : (changes : List Change) (attempt now : ℕ) (told : Told) (written piece : List ℕ) (old new : RelayState D) (answered : Answered) (change : Option ℕ) → Keeps honest words old.node.records changes
      → HaveRelayed changes old → OnlyHop old new attempt → RepliesBy honest words changes attempt now told written piece old new answered change → KeepsAfter honest words changes new
  replied changes attempt now told written piece old new answered None keeps relayed only on =
      kept_still changes new (subst (λ (kept : Kept D). Keeps honest words kept changes) (sym on.same) keeps)
      (relayed_but changes changes old new attempt (inl refl) only (λ _. record { told = told_more told (take answered.used piece) on.out; written = written; hands = on.hands }) relayed)
  replied changes attempt now told written piece old new answered (Some number) keeps relayed only ended =
      kept_more (reporter_of old.node.config) changes _ answered.used number old new attempt ended.adds only ended.connection relayed

  pub reply_leaves : (attempt now : ℕ) (piece : List ℕ) (old new : RelayState D) (result : Result Answered NodeFault)
      → ((changes : List Change) (told : Told) (written : List ℕ) → Keeps honest words old.node.records changes → HandsTo changes old attempt told written → unwritten_at old.hops attempt ≡ []
      → IfOk result (Replies honest words changes attempt now told written piece old new))
      → (unwritten_at old.hops attempt ≢ [] → (result ≡ Ok (record { used = 0; change = None; last = None })) × (new ≡ old))
      → OnlyHop old new attempt → RefusesHop words attempt old new result → (slot_at old.hops attempt ≡ None → result ≡ Err Unknown) → (result ≡ Err Stopped → ⊥)
      → LeavesClients honest words old new
  reply_leaves attempt now piece old new (Err fault) replies waits only refused unknown other = refused_leaves attempt old new fault (λ is. other (ap Err is)) refused only
  reply_leaves attempt now piece old new (Ok answered) replies waits only refused unknown other = by (unwritten_at old.hops attempt) refl where
    by : (unwritten : List ℕ) → unwritten_at old.hops attempt ≡ unwritten → LeavesClients honest words old new
    by [] none = record {
      clients = only.clients;
      seats = only.seats;
      config = only.config;
      keeps = λ changes keeps relayed.
          let had = relayed attempt (λ closed. absurd (cc (unknown closed))) in
          replied changes attempt now had.told had.written piece old new answered answered.change keeps relayed only (replies changes had.told had.written keeps had.hands none);
    }
    by (octet ∷ rest) some = leaves_equal old new (waits (λ none. absurd (cc (sym some ∙ none)))).1
