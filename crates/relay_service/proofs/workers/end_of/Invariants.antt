-- the links so far don't end the service
use Rattle.std.proofs.Common.{◌≡◌, drop}
use Rattle.relay_service.specs.Workers.{end_in}
use Rattle.relay_service.proofs.workers.end_of.Given as goal

abbrev pub invariant-loop-link : goal.invariant-loop-link
invariant-loop-link g l = end_in l.ended.links.items ≡ end_in (drop l.link-index l.link-items)
