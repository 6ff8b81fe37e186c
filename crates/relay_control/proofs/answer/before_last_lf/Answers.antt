use Rattle.std.proofs.Common.{[], ◌∷◌}
use Rattle.std.specs.Cmp.{unsigned_Decides}
use Rattle.std.proofs.lemmas.Slice.Eq.{strip_suffix_is}
use Rattle.relay_control.proofs.answer.before_last_lf.Goals as goal

pub returns : goal.returns
returns c =
    strip_suffix_is unsigned_Decides c.args.octets.now (10 ∷ []) c.strip_suffix.result c.strip_suffix.ensures.cases
