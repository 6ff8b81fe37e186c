-- The samples so far; those of the next hops that are left follow them.
use Rattle.std.proofs.Common.{◌≡◌, ◌++◌}
use Rattle.std.specs.List.{flat_map}
use Rattle.relay_listing.specs.Load.{loads_in}
use Rattle.relay_listing.specs.Metrics.{metric_by_hop, sample_by_hop}
use Rattle.relay_listing.proofs.metrics.push_by_hop.Given as goal

abbrev pub invariant-loop-hop : goal.invariant-loop-hop
invariant-loop-hop l =
    l.text.items ++ flat_map (sample_by_hop l.metric l.now) (loads_in l.hop-iterator)
    ≡ l.fn.text.items ++ metric_by_hop l.metric l.now (loads_in l.loads.entries)
