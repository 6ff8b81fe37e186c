-- What a postmaster's requests do to a running relay. Mail is touched only by `return` and `discard`.
use Rattle.std.specs.Prelude.{◌≡◌, ◌≢◌, ◌⊎◌, ℕ, ◌+◌, ◌-◌, ◌*◌, ◌^◌, ◌≤◌, min, false, true, List, Option, None, Some}
use Rattle.std.specs.Prelude.{IsSomeAnd, Result}
use Rattle.std.specs.Global.{Vec}
use Rattle.relay_book.specs.declared.change.Withdrawal.{Withdrawal}
use Rattle.relay_book.specs.declared.change.Withdrawal.TheVariants as withdrawal
use Rattle.relay_connections.specs.Table.{count_of}
use Rattle.relay_connections.specs.Welcome.{stopped}
use Rattle.relay_connections.specs.declared.clients.Clients.{Clients}
use Rattle.relay_control.specs.declared.named.Named.{Named}
use Rattle.relay_control.specs.declared.request.Request.{Request}
use Rattle.relay_control.specs.declared.request.Request.TheVariants.{Flush, Hold, Release, Return, Discard, Reload}
use Rattle.relay_control.specs.declared.request.Request.TheVariants.{Drain as Drains}
use Rattle.relay_disk.specs.Device.{DiskWords}
use Rattle.relay_loop.specs.Relay.{RelayState}
use Rattle.relay_next_hops.specs.Readiness.{hops_of}
use Rattle.relay_next_hops.specs.declared.next_hops.NextHops.{NextHops}
use Rattle.relay_run.specs.Answers.{IsText, withdrawn_text}
use Rattle.relay_run.specs.Room.{MayStart}
use Rattle.relay_run.specs.Withdrawing.{FailsAmong, HaveOutcomes}
use Rattle.relay_run.specs.declared.draining.Drain.{Drain}
use Rattle.relay_run.specs.declared.room.Room.{Room}
use Rattle.relay_run.specs.declared.steering.Steering.{Steering}
use Rattle.relay_run.specs.declared.withdrawing.Outcome.{Outcome}

-- a drain was asked for
abbrev pub IsDraining : Steering → Type 0
IsDraining steering = steering.drain ≢ None

-- while it drains, the relay serves no client that comes
abbrev pub TurnsAway : {S : Type 0} → Steering → Clients S → Type 0
TurnsAway steering clients = IsDraining steering → clients.stops ≡ true

-- attempts may begin: no drain was asked for, no reload waits, and there is room for their outcomes
pub record MayBegin {F : Type 0} (steering : Steering) (room : Room F) (size : ℕ) : Type 0 where
  pub goes_on : steering.drain ≡ None
  pub keeps : steering.reload ≡ None
  pub room_holds : MayStart room size

-- the drain was asked for, and no attempt runs any more or its time is over
pub record HasDrained {S : Type 0} (steering : Steering) (next_hops : NextHops S) (tick : ℕ) : Type 0 where
  pub drain : Drain
  pub asked : steering.drain ≡ Some drain
  pub over : (count_of (hops_of next_hops) ≡ 0) ⊎ (drain.until ≤ tick)

-- The drain after one that ends at this tick at the latest was asked for: the earlier of both ends counts, and the
-- first caller is answered.
abbrev pub joined_drain : ℕ → ℕ → Option Drain → Drain
joined_drain until caller None = record { until = until; caller = caller }
joined_drain until caller (Some drain) = record { until = min drain.until until; caller = drain.caller }

-- A request to drain was served, and clients that come are served no more. No other request changes anything of that.
abbrev pub DrainsBy
    : {S : Type 0} → ℕ → ℕ → Request → Option Drain → Option Drain → Clients S → Clients S → Type 0
DrainsBy tick caller (Drains seconds) old new clients_old clients_new =
    (new ≡ Some (joined_drain (min (tick + seconds * 1000) (2 ^ 64 - 1)) caller old))
    × (clients_new ≡ stopped clients_old)
DrainsBy tick caller (Flush scope) old new clients_old clients_new = (new ≡ old) × (clients_new ≡ clients_old)
DrainsBy tick caller (Hold scope) old new clients_old clients_new = (new ≡ old) × (clients_new ≡ clients_old)
DrainsBy tick caller (Release scope) old new clients_old clients_new = (new ≡ old) × (clients_new ≡ clients_old)
DrainsBy tick caller (Return names) old new clients_old clients_new = (new ≡ old) × (clients_new ≡ clients_old)
DrainsBy tick caller (Discard names) old new clients_old clients_new = (new ≡ old) × (clients_new ≡ clients_old)
DrainsBy tick caller Reload old new clients_old clients_new = (new ≡ old) × (clients_new.stops ≡ clients_old.stops)

module _ {D : Type 0} (honest : Type 0) (words : DiskWords D) (at : ℕ) where
  -- the named places have these outcomes, and the answer says them
  abbrev pub IsWithdrawn
      : {E : Type 0} → Withdrawal → List Named → RelayState D → RelayState D → Result (Vec ℕ) E → Type 0
  IsWithdrawn how names old new answer =
      (outcomes : List Outcome) × HaveOutcomes honest words at how names outcomes old new
      × IsText answer (withdrawn_text how names outcomes)

  -- what a request at this time did to the relay: only `return` and `discard` change it, and only by the places that
  -- they name
  abbrev pub Obeys : {E : Type 0} → Request → RelayState D → RelayState D → Option (Result (Vec ℕ) E) → Type 0
  Obeys (Return names) old new answer =
      IsSomeAnd answer (IsWithdrawn withdrawal.Return names.items old new)
  Obeys (Discard names) old new answer =
      IsSomeAnd answer (IsWithdrawn withdrawal.Discard names.items old new)
  Obeys (Flush scope) old new answer = new ≡ old
  Obeys (Hold scope) old new answer = new ≡ old
  Obeys (Release scope) old new answer = new ≡ old
  Obeys Reload old new answer = new ≡ old
  Obeys (Drains seconds) old new answer = new ≡ old

  -- what it did where the device failed meanwhile; a flush fails only if it has failed before
  abbrev pub FailsToObey : Request → RelayState D → RelayState D → Type 0
  FailsToObey (Return names) old new = FailsAmong honest words at withdrawal.Return names.items old new
  FailsToObey (Discard names) old new = FailsAmong honest words at withdrawal.Discard names.items old new
  FailsToObey (Flush scope) old new = (new ≡ old) × (old.node.records.spool.live ≡ false)
  FailsToObey (Hold scope) old new = ⊥
  FailsToObey (Release scope) old new = ⊥
  FailsToObey Reload old new = ⊥
  FailsToObey (Drains seconds) old new = ⊥
