-- Requests to return or discard mail: together they name exactly the selected places.
use Rattle.std.specs.Prelude.{◌≡◌, ℕ, ◌≤◌, List, [], length, map, Option}
use Rattle.std.specs.List.{AllByRecursion, flat_map}
use Rattle.relay_arguments.specs.declared.withdrawing.Removal.{Removal}
use Rattle.relay_arguments.specs.declared.withdrawing.Removal.TheVariants.{Return, Discard}
use Rattle.relay_control.specs.Named.{content_of}
use Rattle.relay_control.specs.declared.request.Request.{Request}
use Rattle.relay_control.specs.declared.request.Request.TheVariants as asks
use Rattle.relay_queue.specs.Selection.{group_of}
use Rattle.relay_queue.specs.declared.groups.Selected.{Selected}
use Rattle.relay_steering.specs.Steering.{HasDone}

-- what a request names, each message with its places, if it asks for this
abbrev pub named_in : Removal → Request → List (ℕ × List ℕ)
named_in Return (asks.Return names) = map content_of names.items
named_in Discard (asks.Discard names) = map content_of names.items
named_in removal request = []

-- it asks for this, and names 64 messages at most
abbrev pub IsShort : Removal → Request → Type 0
IsShort Return (asks.Return names) = length names.items ≤ 64
IsShort Discard (asks.Discard names) = length names.items ≤ 64
IsShort removal request = ⊥

-- the requests name these places, in their order, and nothing else
pub record NameAll (removal : Removal) (messages : List Selected) (requests : List Request) : Type 0 where
  pub all : flat_map (named_in removal) requests ≡ map group_of messages
  pub short : AllByRecursion (IsShort removal) requests

-- a relay has done requests that name these places
pub record AreObeyed {S : Type 0} (is_new : S → Type 0) (contents remaining : S → Option (List ℕ)) (removal : Removal)
    (messages : List Selected) : Type 0 where
  pub requests : List Request
  pub named : NameAll removal messages requests
  pub done : AllByRecursion (HasDone is_new contents remaining) requests
