-- Each slot that is added is free.
use Rattle.std.proofs.Common.{◌≡◌, ◌<◌, ◌++◌, ◌∷◌, [], None, length, length-append, ap, ◌∙◌, arith, rules}
use Rattle.relay_slots.proofs.SlotLemmas.{free_more}
use Rattle.relay_slots.proofs.slots.Slots.new.Goals as goal

pub loop-slots-preserved : goal.loop-slots-preserved
loop-slots-preserved g c =
    let grown : c.push.new.self.items ≡ c.loop-slots.slots.items ++ None ∷ [] = search rules in
    let low : length c.loop-slots.slots.items < 64 = search rules in
    let long = ap length grown ∙ length-append c.loop-slots.slots.items (None ∷ []) in
    (free_more c.loop-slots.slots.items c.push.new.self.items grown c.loop-slots.invariant.0, omega (arith, low, long))
