-- After its spaces a text splits at its first plain `>`, and what stands before is the only path that it may begin with.
use Rattle.std.proofs.Common.{sym, ap, ◌∙◌}
use Rattle.std.proofs.lemmas.Bool.{false≢true}
use Rattle.relay_envelope.specs.Path.{value_of, stands_apart}
use Rattle.relay_envelope.proofs.PathLemmas.{no_bracket, split_is_path, begins_with_path}
use Rattle.relay_envelope.proofs.path.begin_path.Goals as goal

pub returns-in_err-front : goal.returns-in_err-front
returns-in_err-front c =
    let none = rw c.skip_spaces.ensures at c.in_err-front.ensures in
    rw c.from_residual.ensures (λ path rest begins. no_bracket c.args.text.now path rest none begins)

pub returns-in_err-path : goal.returns-in_err-path
returns-in_err-path c =
    let split = rw c.skip_spaces.ensures at c.in_ok-front.ensures in
    rw c.from_residual-in_err-path.ensures (λ path rest begins. c.in_err-path.ensures path begins.valid (split_is_path c.args.text.now c.in_ok-front.front.now c.in_ok-front.rest.now path rest split begins).0)

pub returns-then-is_apart : goal.returns-then-is_apart
returns-then-is_apart c =
    let split = rw c.skip_spaces.ensures at c.in_ok-front.ensures in
    begins_with_path c.args.text.now c.in_ok-front.front.now c.in_ok-front.rest.now (value_of c.in_ok-path.path) split c.in_ok-path.ensures.0 c.in_ok-path.ensures.1 (sym c.if-is_apart.ensures)

pub returns-else-is_apart : goal.returns-else-is_apart
returns-else-is_apart c = λ path rest begins.
    let split = rw c.skip_spaces.ensures at c.in_ok-front.ensures in
    let same = split_is_path c.args.text.now c.in_ok-front.front.now c.in_ok-front.rest.now path rest split begins in
    false≢true (sym c.if-is_apart.false ∙ c.is_apart.ensures ∙ ap stands_apart same.1 ∙ begins.apart)
