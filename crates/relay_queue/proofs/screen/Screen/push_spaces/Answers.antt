use Rattle.std.proofs.Common.{◌++◌, ◌∷◌, [], List, ℕ, ap, sym, subst, ◌∙◌, refl}
use Rattle.relay_queue.specs.Screen.{AreSafe}
use Rattle.relay_queue.proofs.ScreenLemmas.{padding_more, safe_joined}
use Rattle.relay_queue.proofs.screen.Screen.push_spaces.Goals as goal

pub loop-preserved : goal.loop-preserved
loop-preserved c =
    let is = c.in_ok-push.ensures.items in (
      is ∙ ap (λ (l : List ℕ). l ++ 32 ∷ []) c.loop.invariant.0 ∙ padding_more c.args.self.now c.loop.counter,
      subst AreSafe (sym is) (safe_joined c.loop.self-inside.text.items (32 ∷ []) c.loop.invariant.1 refl),
    )
