-- One message more, which was saved or not.
use Rattle.std.proofs.Common.{subst, sym, List, [], ◌∷◌, ◌++◌}
use Rattle.relay_queue.specs.declared.groups.Selected.{Selected}
use Rattle.relay_steering.specs.Withdrawing.{AreSome}
use Rattle.relay_steering.proofs.SavingLemmas.{some_with, some_without}
use Rattle.relay_steering.proofs.saving.write_each.Goals as goal

pub loop-selected-preserved-in-Continue-branch-2 : goal.loop-selected-preserved-in-Continue-branch-2
loop-selected-preserved-in-Continue-branch-2 g c =
    subst (λ (saved : List Selected). AreSome saved (c.loop-selected.yielded ++ c.in-Some.selected ∷ [])) (sym c.in_ok-push.ensures.items) (some_with c.loop-selected.saved.items c.loop-selected.yielded c.in-Some.selected c.loop-selected.invariant)

pub loop-selected-preserved : goal.loop-selected-preserved
loop-selected-preserved g c =
    some_without c.loop-selected.saved.items c.loop-selected.yielded c.in-Some.selected c.loop-selected.invariant
