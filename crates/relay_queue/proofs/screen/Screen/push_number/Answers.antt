use Rattle.std.proofs.Common.{is_ok, subst, sym, ◌∙◌, arith}
use Rattle.relay_queue.specs.Screen.{AreSafe}
use Rattle.relay_queue.proofs.ScreenLemmas.{safe_if, decimal_is_safe}
use Rattle.relay_queue.proofs.screen.Screen.push_number.Goals as goal

pub invariant_of-self : goal.invariant_of-self
invariant_of-self c =
    let text = c.as_bytes.ensures.value ∙ c.format.ensures.text in
    safe_if (is_ok c.extend_from_slice.result) c.self.inside.text.items c.as_bytes.result.now c.extend_from_slice.new.self.items
    c.extend_from_slice.ensures.items c.self.invariant
    (subst AreSafe (sym text) (decimal_is_safe c.args.number (omega arith)))
