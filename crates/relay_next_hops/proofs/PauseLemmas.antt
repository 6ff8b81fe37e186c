-- How long no connection begins.
use Rattle.std.proofs.Common.{◌≡◌, inl, inr, ℕ}
use Rattle.relay_next_hops.specs.Starting.{PausesAtMost, paused_after}
use Rattle.relay_next_hops.specs.declared.starting.Begun.{Begun}
use Rattle.relay_next_hops.specs.declared.starting.Begun.TheVariants.{AllDone, Crowded, HasMore, Full, Wanting}

-- for one second at most
pub paused_one : (begun : Begun) (tick old new : ℕ) → new ≡ paused_after begun tick old → PausesAtMost tick old new
paused_one AllDone tick old new is = inl is
paused_one Crowded tick old new is = inl is
paused_one HasMore tick old new is = inl is
paused_one Full tick old new is = inl is
paused_one Wanting tick old new is = inr is
