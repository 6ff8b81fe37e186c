-- When lanes have work next: when mail is due that isn't listed, and when a hold ends.
use Rattle.std.specs.Prelude.{◌≡◌, ◌⊎◌, ◌<◌, ◌≤◌, ◌-◌, ◌^◌, ℕ, true, List, Option, None, Some, slice_get}
use Rattle.relay_limits.specs.Pace.{hold_end}
use Rattle.relay_limits.specs.declared.pace.Pace.{Pace}
use Rattle.relay_attempts.specs.Next.{IsNextDue}
use Rattle.relay_node.specs.Node.{NodeState}
use Rattle.relay_connections.specs.Renewal.{tick_after}
use Rattle.relay_connections.specs.declared.clocks.Now.{Now}
use Rattle.relay_next_hops.specs.declared.lanes.Lanes.{Lanes}

-- The next time at which mail is due is noted, if there is one: as the tick at which the wall clock reaches it, unless
-- it is set. If that time has come, all due mail is to be listed.
abbrev pub NotesDue : Now → Option ℕ → Lanes → Type 0
NotesDue now None lanes = lanes.next_due ≡ 2 ^ 64 - 1
NotesDue now (Some moment) lanes = ((moment ≤ now.moment) × (lanes.is_stale ≡ true))
    ⊎ ((now.moment < moment) × (lanes.next_due ≡ tick_after now.tick (moment - now.moment)))

-- the next time from now on at which the node has work is noted
abbrev pub NotesNextDue : {D : Type 0} → Now → NodeState D → Lanes → Type 0
NotesNextDue now node lanes = (next : Option ℕ)
    × IsNextDue node.config.routes node.attempts node.records.queue now.moment next × NotesDue now next lanes

-- no hold that goes on at a tick ends before this end
abbrev pub IsByHolds : ℕ → List Pace → ℕ → Type 0
IsByHolds tick paces end = (lane : ℕ) (pace : Pace) (until : ℕ) → slice_get paces lane ≡ Some pace
    → hold_end tick pace.hold ≡ Some until → end ≤ until

-- lanes are looked at when the first hold ends, or before
abbrev pub WakesForHolds : ℕ → Lanes → Type 0
WakesForHolds tick lanes = IsByHolds tick lanes.paces lanes.next_hold_end
