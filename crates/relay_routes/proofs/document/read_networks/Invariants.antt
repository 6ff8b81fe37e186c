-- The networks so far are those of the values so far.
use Rattle.std.proofs.Common.{take}
use Rattle.toml.specs.View.{items_view}
use Rattle.relay_routes.specs.Network.{AreNetworks}
use Rattle.relay_routes.proofs.document.read_networks.Given as goal

abbrev pub invariant-loop-value : goal.invariant-loop-value
invariant-loop-value l = AreNetworks (items_view (take l.value-index l.values)) l.networks.items
