-- An attempt that has ended doesn't run.
use Rattle.std.proofs.Common.{◌≡◌, ℕ, Bool, true, false, ap}
use Rattle.std.proofs.lemmas.Bool.{false≢true}
use Rattle.relay_world.specs.declared.attempt.Fate.{Fate}
use Rattle.relay_world.specs.declared.attempt.Fate.TheVariants.{Running, Replied, Lost, Dropped}

is_running : Fate → Bool
is_running (Running slot) = true
is_running _ = false

-- an attempt that replies have ended, or the loss of its link, or its node, doesn't run
pub replied_ends : (number slot : ℕ) → Replied number ≡ Running slot → ⊥
unfolding is_running
replied_ends number slot same = false≢true (ap is_running same)

pub lost_ends : (number slot : ℕ) → Lost number ≡ Running slot → ⊥
unfolding is_running
lost_ends number slot same = false≢true (ap is_running same)

pub dropped_ends : (slot : ℕ) → Dropped ≡ Running slot → ⊥
unfolding is_running
dropped_ends slot same = false≢true (ap is_running same)
