use Rattle.std.proofs.Common.{[], ◌∷◌, sym, ◌∙◌}
use Rattle.std.specs.Cmp.{unsigned_Decides}
use Rattle.std.proofs.lemmas.Bool.{false≢true}
use Rattle.std.proofs.lemmas.Slice.Eq.{slice_eq-Decides}
use Rattle.relay_control.proofs.NumberLemmas.{no_number, number_zero}
use Rattle.relay_control.proofs.number.read_number.Goals as goal

pub returns-then-eq : goal.returns-then-eq
returns-then-eq c =
    number_zero c.args.text.now ((slice_eq-Decides unsigned_Decides c.args.text.now (48 ∷ []) c.eq.result c.eq.ensures).0 c.if-eq.true)

pub returns-else-begins_above_zero : goal.returns-else-begins_above_zero
returns-else-begins_above_zero c =
    no_number c.args.text.now
    (λ zero. false≢true (sym c.if-eq.false ∙ (slice_eq-Decides unsigned_Decides c.args.text.now (48 ∷ []) c.eq.result c.eq.ensures).1 zero))
    (λ above. false≢true (sym c.if-begins_above_zero.false ∙ c.begins_above_zero.ensures.1 above))
