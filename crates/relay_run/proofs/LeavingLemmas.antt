-- Requests change mail only by withdrawals, which leave clients alone.
use Rattle.std.proofs.Common.{◌≡◌, ◌≢◌, ◌⊎◌, ◌++◌, inl, inr, ℕ, List, [], ◌∷◌, Option, None, Some, Result, Ok, Err, refl, sym, ap, ◌∙◌, subst, append-nil, append_assoc}
use Rattle.std.specs.Prelude.{IsSomeAnd}
use Rattle.std.specs.Global.{Vec}
use Rattle.relay_disk.specs.Device.{DiskWords}
use Rattle.relay_slots.specs.Slots.{slot_at}
use Rattle.relay_book.specs.declared.change.Change.{Change}
use Rattle.relay_book.specs.declared.change.Withdrawal.{Withdrawal}
use Rattle.relay_book.specs.declared.change.Withdrawal.TheVariants as withdrawal
use Rattle.relay_book.specs.Queue.{Fitting, FitsFrom, Queue, empty_queue, step}
use Rattle.relay_control.specs.declared.named.Named.{Named}
use Rattle.relay_control.specs.declared.request.Request.{Request}
use Rattle.relay_control.specs.declared.request.Request.TheVariants.{Flush, Hold, Release, Return, Discard, Reload, Drain as Drains}
use Rattle.relay_records.specs.Records.{Keeps}
use Rattle.relay_loop.specs.Relay.{RelayState}
use Rattle.relay_loop.specs.Withdrawing.{MessagePlaces, WithdrawsAll}
use Rattle.relay_loop.specs.declared.withdrawing.Withdrawn.{Withdrawn as Group}
use Rattle.relay_loop.proofs.Theorems.{hands_stay}
use Rattle.relay_connections.specs.Readiness.{clients_of}
use Rattle.relay_connections.specs.Served.{HaveRelayed, KeepsAfter, LeavesClients}
use Rattle.relay_connections.specs.declared.clients.Clients.{Clients}
use Rattle.relay_connections.proofs.Theorems.{leaves_then}
use Rattle.relay_files.specs.declared.fault.Fault.{Fault}
use Rattle.relay_routes.specs.declared.config.Config.{Config}
use Rattle.relay_run.specs.Reloading.{ReloadsBy, ServesReload}
use Rattle.relay_run.specs.Steering.{DrainsBy, Obeys}
use Rattle.relay_run.specs.Withdrawing.{HaveMore, HaveNone, HaveOutcomes}
use Rattle.relay_run.specs.declared.draining.Drain.{Drain}
use Rattle.relay_run.specs.declared.start.Settings.{Settings}
use Rattle.relay_run.specs.declared.steering.Steering.{Steering}

-- the first of changes that fit do so too
fits_front : (queue : Queue) (front back : List Change) → FitsFrom queue (front ++ back) → FitsFrom queue front
fits_front queue [] back fits = tt
fits_front queue (change ∷ front) back fits = (fits.0, fits_front (step queue change) front back fits.1)

module _ {D : Type 0} where
  -- attempts, their connections and the configuration are the same
  relayed_on : (changes : List Change) (old new : RelayState D) → new.node.attempts ≡ old.node.attempts → new.hops ≡ old.hops → new.node.config ≡ old.node.config → HaveRelayed changes old → HaveRelayed changes new
  relayed_on changes old new attempts hops config have = λ attempt stands.
      let had = have attempt (λ none. stands (ap (λ l. slot_at l attempt) hops ∙ none)) in
      record {
        told = had.told;
        written = had.written;
        hands = hands_stay changes changes old new attempt had.told had.written (inl refl) (ap (λ l. slot_at l attempt) attempts) (ap (λ l. slot_at l attempt) hops) config had.hands;
      }

  -- one change more was made
  relayed_more : (changes : List Change) (change : Change) (relay : RelayState D) → Fitting (changes ++ change ∷ []) → HaveRelayed changes relay → HaveRelayed (changes ++ change ∷ []) relay
  relayed_more changes change relay fits have = λ attempt stands.
      let had = have attempt stands in
      record {
        told = had.told;
        written = had.written;
        hands = hands_stay changes (changes ++ change ∷ []) relay relay attempt had.told had.written (inr (change, refl, fits)) refl refl refl had.hands;
      }

  -- some changes more were made
  relayed_after : (changes more : List Change) (relay : RelayState D) → Fitting (changes ++ more) → HaveRelayed changes relay → HaveRelayed (changes ++ more) relay
  relayed_after changes [] relay fits have = subst (λ (list : List Change). HaveRelayed list relay) (sym (append-nil changes)) have
  relayed_after changes (change ∷ more) relay fits have =
      let all : (changes ++ change ∷ []) ++ more ≡ changes ++ change ∷ more = append_assoc changes (change ∷ []) more in
      let fit : Fitting ((changes ++ change ∷ []) ++ more) = subst (λ (list : List Change). Fitting list) (sym all) fits in
      subst (λ (list : List Change). HaveRelayed list relay) all
      (relayed_after (changes ++ change ∷ []) more relay fit (relayed_more changes change relay (fits_front empty_queue (changes ++ change ∷ []) more fit) have))

module _ {D : Type 0} (honest : Type 0) (words : DiskWords D) where
  -- nothing has changed
  leaves_same : (old new : RelayState D) → new ≡ old → LeavesClients honest words old new
  leaves_same old new same = subst (λ (later : RelayState D). LeavesClients honest words old later) (sym same) (record {
    clients = refl;
    seats = refl;
    config = refl;
    keeps = λ changes keeps relayed. record {
      added = [];
      keeps = subst (λ (list : List Change). Keeps honest words old.node.records list) (sym (append-nil changes)) keeps;
      relayed = subst (λ (list : List Change). HaveRelayed list old) (sym (append-nil changes)) relayed;
    };
  })

  module _ (at : ℕ) where
    -- the postmaster has withdrawn mail of some messages
    group_leaves : (how : Withdrawal) (choices : List MessagePlaces) (old new : RelayState D) (group : Group) → WithdrawsAll honest words at how choices old new group → LeavesClients honest words old new
    group_leaves how choices old new group all = record {
      clients = all.rest.clients;
      seats = all.rest.seats;
      config = all.rest.config;
      keeps = λ changes keeps relayed.
          let settles = all.settles changes keeps in
          record {
            added = all.all;
            keeps = settles.keeps;
            relayed = relayed_after changes all.all new settles.keeps.fitting (relayed_on changes old new all.rest.attempts all.rest.hops all.rest.config relayed);
          };
    }

    -- of several groups, one after the other
    outcomes_leave : (how : Withdrawal) (names : List Named) (outcomes : List _) (old new : RelayState D) → HaveOutcomes honest words at how names outcomes old new → LeavesClients honest words old new
    outcomes_leave how names outcomes old new (HaveNone _ _) = leaves_same old old refl
    outcomes_leave how names outcomes old new (HaveMore _ before more _ between _ have group) =
        leaves_then honest words old between new (outcomes_leave how names before old between have) (group_leaves how _ between new group.group group.withdraws)

    -- a request was served
    pub obeyed_leaves : {E : Type 0} (request : Request) (old new : RelayState D) (answer : Option (Result (Vec ℕ) E)) → Obeys honest words at request old new answer → LeavesClients honest words old new
    obeyed_leaves (Return names) old new (Some answer) (outcomes, have, text) = outcomes_leave withdrawal.Return names.items outcomes old new have
    obeyed_leaves (Return names) old new None none = absurd none
    obeyed_leaves (Discard names) old new (Some answer) (outcomes, have, text) = outcomes_leave withdrawal.Discard names.items outcomes old new have
    obeyed_leaves (Discard names) old new None none = absurd none
    obeyed_leaves (Flush scope) old new answer same = leaves_same old new same
    obeyed_leaves (Hold scope) old new answer same = leaves_same old new same
    obeyed_leaves (Release scope) old new answer same = leaves_same old new same
    obeyed_leaves Reload old new answer same = leaves_same old new same
    obeyed_leaves (Drains seconds) old new answer same = leaves_same old new same

-- it has brought no client, and taken none
pub obeyed_table : {O S E : Type 0} (has_read : O → List ℕ → Result Settings Fault → Type 0) (files : O) (config : Config) (tick caller : ℕ) (request : Request) (old new : Steering) (before after : Clients S) (answer : Option (Result (Vec ℕ) E))
    → DrainsBy tick caller request old.drain new.drain before after → ReloadsBy has_read files config tick caller request old new before after answer → clients_of after ≡ clients_of before
obeyed_table has_read files config tick caller (Drains seconds) old new before after answer drains reloads = ap (λ (it : Clients _). clients_of it) drains.1
obeyed_table has_read files config tick caller Reload old new before after None drains reloads = ap (λ (it : Clients _). clients_of it) reloads.0.clients
obeyed_table has_read files config tick caller Reload old new before after (Some answer) drains reloads = ap (λ (it : Clients _). clients_of it) reloads.1
obeyed_table has_read files config tick caller (Return names) old new before after answer drains reloads = ap (λ (it : Clients _). clients_of it) drains.1
obeyed_table has_read files config tick caller (Discard names) old new before after answer drains reloads = ap (λ (it : Clients _). clients_of it) drains.1
obeyed_table has_read files config tick caller (Flush scope) old new before after answer drains reloads = ap (λ (it : Clients _). clients_of it) drains.1
obeyed_table has_read files config tick caller (Hold scope) old new before after answer drains reloads = ap (λ (it : Clients _). clients_of it) drains.1
obeyed_table has_read files config tick caller (Release scope) old new before after answer drains reloads = ap (λ (it : Clients _). clients_of it) drains.1
