-- Clients that are served, through any number of turns.
use Rattle.std.proofs.Common.{◌≡◌, ◌≢◌, ◌⊎◌, ◌++◌, inl, inr, ℕ, List, [], Option, None, Some, Box, Result, Ok, Err, refl, sym, ap, ◌∙◌, subst}
use Rattle.std.specs.Prelude.{IfOk, IsErr, OnOk}
use Rattle.std.specs.Global.{Global}
use Rattle.relay_disk.specs.Device.{DiskWords}
use Rattle.relay_slots.specs.Slots.{AreFree}
use Rattle.relay_book.specs.declared.change.Change.{Change}
use Rattle.relay_records.specs.Records.{Keeps}
use Rattle.relay_loop.specs.Relay.{RelayState}
use Rattle.relay_connections.specs.Carried.{Setting}
use Rattle.relay_connections.specs.Readiness.{clients_of}
use Rattle.relay_connections.specs.Served.{AreServed, AreServedAfter, HaveSetups}
use Rattle.relay_connections.specs.declared.client.Client.{Client}
use Rattle.relay_connections.specs.declared.clients.Clients.{Clients}
use Rattle.relay_connections.proofs.Theorems.{free_are_served, served_goes_on}
use Rattle.relay_run.specs.Reopening.{HasOpened}
use Rattle.relay_run.specs.Serving.{AreServedAgain, AreServedLater, AreServedLaterOrAgain, AreServedOn, GoesOnOrServesNone, ServesNoneOrOn, ServesNoneYet}
use Rattle.relay_run.proofs.ServedLemmas.{after_none, served_same}

module _ {D S : Type 0} (honest : Type 0) (words : DiskWords D) (remaining contents : S → Option (List ℕ)) where
  abbrev Table : Type 0
  Table = List (Option (Box (Client S) Global))

  -- nothing happened yet
  pub later_none : (changes : List Change) (setting : Setting) (clients : Table) (relay : RelayState D) → AreServed honest words remaining contents changes setting clients relay
      → AreServedLaterOrAgain honest words remaining contents changes setting clients relay
  later_none changes setting clients relay served = inl (record {
    later = setting;
    setups = refl;
    served = after_none honest words remaining contents changes setting clients relay served;
  })

  -- a call follows that serves clients
  pub later_on : (changes : List Change) (setting : Setting) (old new : Table) (before after : RelayState D)
      → ((changes : List Change) (setting : Setting) → AreServed honest words remaining contents changes setting old before → AreServedLater honest words remaining contents changes setting new after)
      → AreServedLater honest words remaining contents changes setting old before → AreServedLater honest words remaining contents changes setting new after
  later_on changes setting old new before after serves served =
      let next = serves (changes ++ served.served.added) served.later served.served.served in
      record {
        later = next.later;
        setups = next.setups ∙ served.setups;
        served = served_goes_on honest words remaining contents changes served.served.added next.later new after next.served;
      }

  -- one after which those from before have had the start that they had
  pub later_of : (changes : List Change) (setting : Setting) (old new : Table) (relay : RelayState D) → AreServedOn honest words remaining contents changes setting old new relay
      → AreServedLater honest words remaining contents changes setting new relay
  later_of changes setting old new relay on = record { later = on.later; setups = on.keeps.setups; served = on.served }

  -- one that keeps the changes
  pub later_kept : (changes : List Change) (setting : Setting) (clients : Table) (relay : RelayState D) → AreServed honest words remaining contents changes setting clients relay
      → AreServedLater honest words remaining contents changes setting clients relay
  later_kept changes setting clients relay served = record {
    later = setting;
    setups = refl;
    served = after_none honest words remaining contents changes setting clients relay served;
  }

  -- a turn, what a postmaster asked for, and a last call
  pub whole_turn : {A E : Type 0} (result : Result A E) (changes : List Change) (setting : Setting) (one two three four five : Table) (first second third fourth last : RelayState D)
      → AreServed honest words remaining contents changes setting one first
      → ((changes : List Change) (setting : Setting) → AreServed honest words remaining contents changes setting one first → AreServedOn honest words remaining contents changes setting one two second)
      → ((changes : List Change) (setting : Setting) → AreServed honest words remaining contents changes setting two second → AreServedOn honest words remaining contents changes setting two three third)
      → four ≡ three → fourth ≡ third
      → ((changes : List Change) (setting : Setting) → AreServed honest words remaining contents changes setting four fourth → OnOk result (AreServed honest words remaining contents changes setting five last))
      → OnOk result (AreServedLater honest words remaining contents changes setting five last)
  whole_turn (Err fault) changes setting one two three four five first second third fourth last served turns obeys same alike trims = tt
  whole_turn (Ok value) changes setting one two three four five first second third fourth last served turns obeys same alike trims =
      later_on changes setting three five third last
      (λ changes setting served.
      later_kept changes setting five last
      (trims changes setting (served_same honest words remaining contents changes setting three four third fourth same alike served)))
      (later_on changes setting two three second third (λ changes setting served. later_of changes setting two three third (obeys changes setting served))
      (later_of changes setting one two second (turns changes setting served)))

  -- a relay that was opened again serves nobody, whatever its node keeps
  again_none : (clients : Table) (relay : RelayState D) → ServesNoneYet honest words clients relay → AreServedAgain honest words remaining contents clients relay
  again_none clients relay none = record {
    opened = relay;
    has_opened = none.opened;
    served = λ changes setting keeps setups. record {
      later = setting;
      setups = refl;
      served = after_none honest words remaining contents changes setting clients relay
          (free_are_served honest words remaining contents changes setting clients relay keeps setups none.none none.opened.connections none.opened.hops none.opened.seats);
    };
  }

  again_on : (old new : Table) (before after : RelayState D)
      → ((changes : List Change) (setting : Setting) → AreServed honest words remaining contents changes setting old before → AreServedLater honest words remaining contents changes setting new after)
      → AreServedAgain honest words remaining contents old before → AreServedAgain honest words remaining contents new after
  again_on old new before after serves again = record {
    opened = again.opened;
    has_opened = again.has_opened;
    served = λ changes setting keeps setups. later_on changes setting old new before after serves (again.served changes setting keeps setups);
  }

  -- one turn more, after which the relay goes on, or is opened again
  pub turned_once : (changes : List Change) (setting : Setting) (old new : Table) (before after : RelayState D) → ServesNoneOrOn honest words remaining contents old new before after
      → AreServedLaterOrAgain honest words remaining contents changes setting old before → AreServedLaterOrAgain honest words remaining contents changes setting new after
  turned_once changes setting old new before after (inl none) served = inr (again_none new after none)
  turned_once changes setting old new before after (inr serves) (inl served) = inl (later_on changes setting old new before after serves served)
  turned_once changes setting old new before after (inr serves) (inr again) = inr (again_on old new before after serves again)

  -- a turn with this result, and what the relay is after it
  resumed_on : {A E : Type 0} (end : Result A E) (first old new : Table) (start before after : RelayState D)
      → ((changes : List Change) (setting : Setting) → AreServed honest words remaining contents changes setting first start → OnOk end (AreServedLater honest words remaining contents changes setting old before))
      → GoesOnOrServesNone honest words old new before after → (IsErr end → ServesNoneYet honest words new after)
      → ServesNoneOrOn honest words remaining contents first new start after
  resumed_on (Err fault) first old new start before after serves goes none = inl (none refl)
  resumed_on (Ok value) first old new start before after serves (inr opened) none = inl opened
  resumed_on (Ok value) first old new start before after serves (inl (same, alike)) none = inr (λ changes setting served.
      subst (λ (table : Table). AreServedLater honest words remaining contents changes setting table after) (sym same)
      (subst (λ (it : RelayState D). AreServedLater honest words remaining contents changes setting old it) (sym alike) (serves changes setting served)))

  pub resumed_if : {A E T W : Type 0} (end : Result A E) (result : Result T W) (table : T → Table) (state : T → RelayState D) (first old : Table) (start before : RelayState D)
      → ((changes : List Change) (setting : Setting) → AreServed honest words remaining contents changes setting first start → OnOk end (AreServedLater honest words remaining contents changes setting old before))
      → IfOk result (λ after. GoesOnOrServesNone honest words old (table after) before (state after)) → (IsErr end → IfOk result (λ after. ServesNoneYet honest words (table after) (state after)))
      → IfOk result (λ after. ServesNoneOrOn honest words remaining contents first (table after) start (state after))
  resumed_if end (Ok after) table state first old start before serves goes none = resumed_on end first old (table after) start before (state after) serves goes none
  resumed_if end (Err why) table state first old start before serves goes none = tt

  -- the table and the relay are the same
  pub again_same : (changes : List Change) (setting : Setting) (clients later : Table) (relay after : RelayState D) → later ≡ clients → after ≡ relay
      → AreServedLaterOrAgain honest words remaining contents changes setting clients relay → AreServedLaterOrAgain honest words remaining contents changes setting later after
  again_same changes setting clients later relay after same alike served =
      subst (λ (table : Table). AreServedLaterOrAgain honest words remaining contents changes setting table after) (sym same)
      (subst (λ (it : RelayState D). AreServedLaterOrAgain honest words remaining contents changes setting clients it) (sym alike) served)
