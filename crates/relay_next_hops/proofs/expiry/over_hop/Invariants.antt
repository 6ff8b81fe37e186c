-- none of the places so far is over
use Rattle.relay_next_hops.specs.Expiry.{NoneIsOver}
use Rattle.relay_next_hops.proofs.expiry.over_hop.Given as goal

abbrev pub invariant-loop-index : goal.invariant-loop-index
invariant-loop-index l =
    NoneIsOver l.now.moment l.lanes.held l.routes l.number l.message.accept l.message.places l.index
