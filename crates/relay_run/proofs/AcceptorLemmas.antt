-- Clients that may connect still may, and are served by the same rules.
use Rattle.std.proofs.Common.{◌≡◌, sym, ◌∙◌, subst}
use Rattle.relay_connections.specs.Welcome.{AreAllowed, KeepsRules}
use Rattle.relay_connections.specs.declared.clients.Clients.{Clients}
use Rattle.relay_loop.specs.Relay.{RelayState}

module _ {S D : Type 0} (first : Clients S) (start : RelayState D) where
  abbrev pub IsKept : Clients S → RelayState D → Type 0
  IsKept clients relay = (AreAllowed first start → AreAllowed clients relay) × KeepsRules first clients

  -- nothing has changed
  pub kept_still : (clients later : Clients S) (relay after : RelayState D) → later ≡ clients → after ≡ relay → IsKept clients relay → IsKept later after
  kept_still clients later relay after same alike had =
      subst (λ (it : Clients S). IsKept it after) (sym same) (subst (λ (it : RelayState D). IsKept clients it) (sym alike) had)

  -- another client was received
  pub kept_on : (clients later : Clients S) (relay after : RelayState D) → IsKept clients relay → (AreAllowed clients relay → AreAllowed later after)
      → KeepsRules clients later → IsKept later after
  kept_on clients later relay after had allowed rules =
      (λ were. allowed (had.0 were), rules ∙ had.1)
