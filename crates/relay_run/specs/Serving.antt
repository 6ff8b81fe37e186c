-- What a turn of a running relay leaves of its clients: those that stay are still served, and so are those that came.
use Rattle.std.specs.Prelude.{◌≡◌, ◌≢◌, ◌⊎◌, ℕ, List, Option, None, Box}
use Rattle.std.specs.Global.{Global}
use Rattle.relay_disk.specs.Device.{DiskWords}
use Rattle.relay_slots.specs.Slots.{AreFree, slot_at}
use Rattle.relay_book.specs.declared.change.Change.{Change}
use Rattle.relay_records.specs.Records.{Keeps}
use Rattle.relay_connections.specs.Carried.{Setting}
use Rattle.relay_connections.specs.Served.{AreServed, AreServedAfter, HaveSetups}
use Rattle.relay_connections.specs.declared.client.Client.{Client}
use Rattle.relay_loop.specs.Relay.{RelayState}
use Rattle.relay_run.specs.Reopening.{HasOpened}

-- sessions have the same parameters, and the connections of these clients the same start
pub record KeepsStarts {S : Type 0} (clients : List (Option (Box (Client S) Global))) (old new : Setting) : Type 0 where
  pub setups : new.setups ≡ old.setups
  pub starts : (number : ℕ) → slot_at clients number ≢ None → new.beginnings number ≡ old.beginnings number

-- Below: the clients of a relay, by number, before a call and after it.
module _ {D S : Type 0} (honest : Type 0) (words : DiskWords D) (remaining contents : S → Option (List ℕ))
    (changes : List Change) (setting : Setting) (old new : List (Option (Box (Client S) Global)))
    (relay : RelayState D) where
  -- each client from before is connected as it was, and each client is served, also those that came
  pub record AreServedWithMore : Type 0 where
    pub later : Setting
    pub keeps : KeepsStarts old setting later
    pub stand : (number : ℕ) → slot_at old number ≢ None → slot_at new number ≡ slot_at old number
    pub served : AreServed honest words remaining contents changes later new relay

  -- each client is served after more changes; those from before have had the start that they had
  pub record AreServedOn : Type 0 where
    pub later : Setting
    pub keeps : KeepsStarts old setting later
    pub served : AreServedAfter honest words remaining contents changes later new relay

-- Below: the clients of a relay, by number, and what happens to them between two turns.
module _ {D S : Type 0} (honest : Type 0) (words : DiskWords D) where
  -- the relay was opened again, and has no client yet
  pub record ServesNoneYet (clients : List (Option (Box (Client S) Global))) (relay : RelayState D) : Type 0 where
    pub none : AreFree clients
    pub opened : HasOpened honest words relay

  -- clients are served as before, or the relay was opened again and serves none yet
  abbrev pub GoesOnOrServesNone
      : List (Option (Box (Client S) Global)) → List (Option (Box (Client S) Global)) → RelayState D → RelayState D
      → Type 0
  GoesOnOrServesNone old new before after = ((new ≡ old) × (after ≡ before)) ⊎ ServesNoneYet new after

-- Below: given what is known of the streams of clients, what any number of turns leaves of them.
module _ {D S : Type 0} (honest : Type 0) (words : DiskWords D) (remaining contents : S → Option (List ℕ)) where
  -- clients are served after these changes and more, in sessions with the parameters of this setting
  pub record AreServedLater (changes : List Change) (setting : Setting)
      (clients : List (Option (Box (Client S) Global))) (relay : RelayState D) : Type 0 where
    pub later : Setting
    pub setups : later.setups ≡ setting.setups
    pub served : AreServedAfter honest words remaining contents changes later clients relay

  -- the relay was opened again and serves none yet, or clients that were served are served after more changes
  abbrev pub ServesNoneOrOn
      : List (Option (Box (Client S) Global)) → List (Option (Box (Client S) Global)) → RelayState D → RelayState D
      → Type 0
  ServesNoneOrOn old new before after =
      ServesNoneYet honest words new after
      ⊎ ((changes : List Change) (setting : Setting)
      → AreServed honest words remaining contents changes setting old before
      → AreServedLater changes setting new after)

  -- The relay was opened again at some time. Whatever changes its node kept then, clients are served after these and
  -- more.
  pub record AreServedAgain (clients : List (Option (Box (Client S) Global))) (relay : RelayState D) : Type 0 where
    pub opened : RelayState D
    pub has_opened : HasOpened honest words opened
    pub served : (changes : List Change) (setting : Setting) → Keeps honest words opened.node.records changes
        → HaveSetups setting.setups opened → AreServedLater changes setting clients relay

  -- clients are served after these changes and more; or the relay was opened again, and they are served since then
  abbrev pub AreServedLaterOrAgain
      : List Change → Setting → List (Option (Box (Client S) Global)) → RelayState D → Type 0
  AreServedLaterOrAgain changes setting clients relay =
      AreServedLater changes setting clients relay ⊎ AreServedAgain clients relay
