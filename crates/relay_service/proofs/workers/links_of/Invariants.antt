-- a link for each client so far
use Rattle.std.specs.Prelude.{◌≡◌, vec_len}
use Rattle.relay_service.proofs.workers.links_of.Given as goal

abbrev pub invariant-loop-stream : goal.invariant-loop-stream
invariant-loop-stream l = vec_len l.links ≡ l.stream-index
