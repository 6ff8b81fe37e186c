use Rattle.std.proofs.Common.{◌≡◌, vec_len}
use Rattle.relay_page.proofs.history.History.new.Given as goal

abbrev pub invariant-loop : goal.invariant-loop
invariant-loop l = vec_len l.minutes ≡ l.counter
