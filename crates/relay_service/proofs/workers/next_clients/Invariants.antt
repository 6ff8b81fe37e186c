-- so many clients
use Rattle.std.specs.Prelude.{◌≡◌, vec_len}
use Rattle.relay_service.proofs.workers.next_clients.Given as goal

abbrev pub invariant-loop-i : goal.invariant-loop-i
invariant-loop-i g l = vec_len l.clients ≡ l._i
