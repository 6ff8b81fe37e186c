use Rattle.std.proofs.Common.{List, ℕ, subst, sym}
use Rattle.std.specs.Str.{IsUtf8}
use Rattle.relay_control.proofs.HeldFileLemmas.{name_is_text}
use Rattle.relay_control.proofs.held_file.name_value.Goals as goal

pub unreachable-requires : goal.unreachable-requires
unreachable-requires c =
    c.in-Err.ensures.cases.0
    (subst (λ (t : List ℕ). IsUtf8 t) (sym c.as_slice.ensures.value) (name_is_text c.args.name.now c.as_slice.ensures.valid))
