-- so many words
use Rattle.std.specs.Prelude.{◌≡◌, vec_len}
use Rattle.relay_rounds.proofs.rounds.words.Given as goal

abbrev pub invariant-loop-i : goal.invariant-loop-i
invariant-loop-i l = vec_len l.words ≡ l._i
