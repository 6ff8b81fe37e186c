-- When one more connection to a next hop may be begun, and how long a next hop is on hold.
use Rattle.std.specs.Prelude.{◌≡◌, ℕ, ◌<◌, ◌+◌, ◌-◌, ◌*◌, ◌^◌, min, nat_lt, true, false, Option, None, Some}
use Rattle.std.specs.Prelude.{if◌then◌else◌}
use Rattle.relay_limits.specs.declared.pace.Hold.{Hold}
use Rattle.relay_limits.specs.declared.pace.Outage.{Outage}
use Rattle.relay_limits.specs.declared.pace.Pace.{Pace}

-- profile: in seconds, a minute the first time, and then twice as long each time, up to half an hour
abbrev pub next_hold : Option Hold → ℕ
next_hold None = 60
next_hold (Some hold) = min (hold.seconds * 2) 1800

-- at this tick the next hop is on hold
abbrev pub IsHeld : Option Hold → ℕ → Type 0
IsHeld None tick = ⊥
IsHeld (Some hold) tick = tick < hold.until

-- where that ends, while it goes on
abbrev pub hold_end : ℕ → Option Hold → Option ℕ
hold_end tick None = None
hold_end tick (Some hold) = if nat_lt tick hold.until then Some hold.until else None

-- what is known of the connections that failed since the next hop has said something last
abbrev pub outage_of : Option Hold → Option Outage
outage_of None = None
outage_of (Some hold) = Some hold.outage

-- a connection more has failed at this tick: the first, or one more since the first
abbrev pub next_outage : ℕ → Option Hold → Outage
next_outage tick None = record { since = tick; failures = 1 }
next_outage tick (Some hold) =
    record { since = hold.outage.since; failures = min (hold.outage.failures + 1) (2 ^ 64 - 1) }

-- how many connections to the next hop stand: those of attempts that run, and those whose attempt has ended
abbrev pub standing : Pace → ℕ
standing pace = min (pace.running + pace.leaving) (2 ^ 64 - 1)

-- Fewer attempts run than the most, and fewer connections stand than the next hop takes; or none runs where it has said
-- nothing yet. And it isn't on hold.
pub record MayBegin (most tick : ℕ) (pace : Pace) : Type 0 where
  pub fewer : pace.has_answered ≡ true → (pace.running < most) × (standing pace < pace.limit)
  pub one : pace.has_answered ≡ false → pace.running ≡ 0
  pub alone : IsHeld pace.hold tick → ⊥

-- nothing is known of the next hop: no limit either
abbrev pub unknown_pace : Pace
unknown_pace = record { running = 0; leaving = 0; limit = 2 ^ 64 - 1; has_answered = false; hold = None }

-- this number of attempts run
abbrev pub with_running : ℕ → Pace → Pace
with_running running pace = record pace { running = running }

-- this number of connections stand whose attempt has ended
abbrev pub with_leaving : ℕ → Pace → Pace
with_leaving leaving pace = record pace { leaving = leaving }

-- the next hop takes this number of connections at a time
abbrev pub with_limit : ℕ → Pace → Pace
with_limit limit pace = record pace { limit = limit }

-- the next hop has said something
abbrev pub answered_pace : Pace → Pace
answered_pace pace = record pace { has_answered = true; hold = None }

-- a hold ends at this tick, if it goes on that long
abbrev pub ended_by : ℕ → Option Hold → Option Hold
ended_by tick None = None
ended_by tick (Some hold) = Some (record hold { until = min hold.until tick })

-- it is on hold no longer from this tick on: as one whose hold has ended, it takes one attempt
abbrev pub probed : ℕ → Pace → Pace
probed tick pace = record pace { hold = ended_by tick pace.hold }

-- it is on hold from this tick on, or up to the last that there is
abbrev pub held_from : ℕ → Pace → Pace
held_from tick pace = record pace {
  has_answered = false;
  hold = Some (record {
    until = min (tick + next_hold pace.hold * 1000) (2 ^ 64 - 1);
    seconds = next_hold pace.hold;
    outage = next_outage tick pace.hold;
  });
}
