-- The mail that a postmaster holds: all mail of a next hop, or a message.
use Rattle.std.specs.Prelude.{◌≡◌, ℕ, ◌==◌, ◌||◌, Bool, false, if◌then◌else◌, List, [], bytes_eq}
use Rattle.std.specs.BTreeSet.{contains}
use Rattle.std.specs.List.{list_any}
use Rattle.std.specs.Ordering.{nat_cmp}
use Rattle.relay_control.specs.declared.held.Held.{Held}
use Rattle.relay_control.specs.declared.scope.Scope.{Scope}
use Rattle.relay_control.specs.declared.scope.Scope.TheVariants.{Hop, Message}

-- all mail of the next hop of this name is held; the message of this number is held
abbrev pub holds_hop : List ℕ → Held → Bool
holds_hop name held = list_any (λ hop. bytes_eq hop name) held.hops.items

abbrev pub holds_message : ℕ → Held → Bool
holds_message number held = contains nat_cmp held.messages number

-- no attempt for this message begins at this next hop
abbrev pub holds : List ℕ → ℕ → Held → Bool
holds hop message held = holds_hop hop held || holds_message message held

-- the mail of a scope is held
abbrev pub holds_scope : Scope → Held → Bool
holds_scope (Hop name) held = holds_hop name held
holds_scope (Message number) held = holds_message number held

-- a scope is all mail of the next hop of this name; it is the message of this number
abbrev pub is_of_hop : Scope → List ℕ → Bool
is_of_hop (Hop name) other = bytes_eq name other
is_of_hop (Message number) other = false

abbrev pub is_of_message : Scope → ℕ → Bool
is_of_message (Hop name) other = false
is_of_message (Message number) other = number == other

-- the mail of a scope is held now, or isn't any more, and nothing else changes
pub record Sets (scope : Scope) (is_held : Bool) (old new : Held) : Type 0 where
  pub hops : (name : List ℕ) → holds_hop name new ≡ (if is_of_hop scope name then is_held else holds_hop name old)
  pub messages :
      (number : ℕ)
      → holds_message number new ≡ (if is_of_message scope number then is_held else holds_message number old)

-- the same next hops and messages are held
pub record HoldsSame (old new : Held) : Type 0 where
  pub hops : new.hops.items ≡ old.hops.items
  pub messages : new.messages.keys ≡ old.messages.keys

-- nothing is held
pub record HoldsNothing (held : Held) : Type 0 where
  pub no_hops : held.hops.items ≡ []
  pub no_messages : held.messages.keys ≡ []
