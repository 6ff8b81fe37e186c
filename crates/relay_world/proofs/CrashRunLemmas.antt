-- a stop in a call, as one event, keeps it so that each place is tried once.
use Rattle.std.proofs.Common.{ℕ, zero, suc, List, refl, sym, subst}
use Rattle.relay_disk.specs.Device.{DiskWords}
use Rattle.relay_book.specs.declared.change.Change.{Change}
use Rattle.relay_world.specs.GivingUp.{Withdrawing}
use Rattle.relay_world.specs.Bound.{IsBound}
use Rattle.relay_world.specs.Crashes.{CrashesHearing, CrashesLosing, CrashesReading}
use Rattle.relay_world.specs.CrashRuns.{CrashingHappens, CrashingKeepsOnce}
use Rattle.relay_world.specs.Once.{Happen, IsTriedOnce, LetsGo, StopsInHearing, StopsInLosing, StopsInReading}
use Rattle.relay_world.specs.Stops.{StopsLosing, StopsReading}
use Rattle.relay_world.specs.World.{World}
use Rattle.relay_world.proofs.CrashEndLemmas as ends
use Rattle.relay_world.proofs.CrashLemmas as hears
use Rattle.relay_world.proofs.HangUpLemmas.{hanging_up_keeps}
use Rattle.relay_world.proofs.OnceMoreLemmas.{hung_up_once}
use Rattle.relay_world.proofs.RunLemmas.{once_is_kept}
use Rattle.relay_world.proofs.StopHearLemmas.{stopping_hearing_keeps}
use Rattle.relay_world.proofs.StopReadLemmas.{stopping_losing_keeps, stopping_reading_keeps}

module _ {D : Type 0} (honest : Type 0) (words : DiskWords D) (old new : World D) (lists : List (List Change)) (number count : ℕ)
    (bound : IsBound honest words old lists) {asked : List Withdrawing} (once : IsTriedOnce old lists asked) where
  by_hearing : CrashesHearing honest words old new number count → IsTriedOnce new lists asked
  by_hearing crash =
      let middle : World D = hears.middle honest words old new lists number count bound crash in
      let crashed : World D = hears.crashed honest words old new lists number count bound crash in
      let hangs = hears.hangs honest words old new lists number count bound crash in
      let stops = hears.stops honest words old new lists number count bound crash in
      let held : IsBound honest words middle lists =
      hanging_up_keeps honest words old middle lists crash.of.end.node bound hangs in
      subst (λ w. IsTriedOnce w lists asked) (sym crash.down.new_is)
      (once_is_kept honest words middle crashed lists lists asked held
      (hung_up_once old lists crash.of.end.node once middle hangs) (StopsInHearing number count stops)
      (stopping_hearing_keeps honest words middle crashed lists number count held stops))

  by_reading : CrashesReading honest words old new number count → IsTriedOnce new lists asked
  by_reading is =
      let middle : World D = ends.middle honest words old new lists number bound is.of is.stopped _ is.crash in
      let crashed : World D = ends.crashed honest words old new lists number bound is.of is.stopped _ is.crash in
      let held : IsBound honest words middle lists = ends.middle_bound honest words old new lists number bound is.of is.stopped _ is.crash in
      let stops : StopsReading honest words middle crashed number count = record {
        of = ends.of_middle honest words old new lists number bound is.of is.stopped _ is.crash;
        stopped = is.stopped;
        failed = is.failed;
        cuts = is.cuts;
        drops = ends.drops honest words old new lists number bound is.of is.stopped _ is.crash;
      } in
      subst (λ w. IsTriedOnce w lists asked) (sym is.crash.down.new_is)
      (once_is_kept honest words middle crashed lists lists asked held
      (hung_up_once old lists is.of.attempt.node once middle (ends.hangs honest words old new lists number bound is.of is.stopped _ is.crash))
      (StopsInReading number count stops)
      (stopping_reading_keeps honest words middle crashed lists number count held stops))

  by_losing : CrashesLosing honest words old new number → IsTriedOnce new lists asked
  by_losing is =
      let middle : World D = ends.middle honest words old new lists number bound is.of is.stopped _ is.crash in
      let crashed : World D = ends.crashed honest words old new lists number bound is.of is.stopped _ is.crash in
      let held : IsBound honest words middle lists = ends.middle_bound honest words old new lists number bound is.of is.stopped _ is.crash in
      let stops : StopsLosing honest words middle crashed number = record {
        of = ends.of_middle honest words old new lists number bound is.of is.stopped _ is.crash;
        stopped = is.stopped;
        failed = is.failed;
        cuts = is.cuts;
        drops = ends.drops honest words old new lists number bound is.of is.stopped _ is.crash;
      } in
      subst (λ w. IsTriedOnce w lists asked) (sym is.crash.down.new_is)
      (once_is_kept honest words middle crashed lists lists asked held
      (hung_up_once old lists is.of.attempt.node once middle (ends.hangs honest words old new lists number bound is.of is.stopped _ is.crash))
      (StopsInLosing number stops)
      (stopping_losing_keeps honest words middle crashed lists number held stops))

module _ {D : Type 0} (honest : Type 0) (words : DiskWords D) (old new : World D) (lists : List (List Change)) (number count : ℕ)
    (bound : IsBound honest words old lists) where
  hearing_run : CrashesHearing honest words old new number count → Happen honest words (suc (suc zero)) old new
  hearing_run crash = (
    hears.middle honest words old new lists number count bound crash,
    LetsGo crash.of.end.node (hears.hangs honest words old new lists number count bound crash),
    (
      hears.crashed honest words old new lists number count bound crash,
      StopsInHearing number count (hears.stops honest words old new lists number count bound crash),
      crash.down.new_is,
    ),
  )

  reading_run : CrashesReading honest words old new number count → Happen honest words (suc (suc zero)) old new
  reading_run is = (
    ends.middle honest words old new lists number bound is.of is.stopped _ is.crash,
    LetsGo is.of.attempt.node (ends.hangs honest words old new lists number bound is.of is.stopped _ is.crash),
    (
      ends.crashed honest words old new lists number bound is.of is.stopped _ is.crash,
      StopsInReading number count (record {
        of = ends.of_middle honest words old new lists number bound is.of is.stopped _ is.crash;
        stopped = is.stopped;
        failed = is.failed;
        cuts = is.cuts;
        drops = ends.drops honest words old new lists number bound is.of is.stopped _ is.crash;
      }),
      is.crash.down.new_is,
    ),
  )

  losing_run : CrashesLosing honest words old new number → Happen honest words (suc (suc zero)) old new
  losing_run is = (
    ends.middle honest words old new lists number bound is.of is.stopped _ is.crash,
    LetsGo is.of.attempt.node (ends.hangs honest words old new lists number bound is.of is.stopped _ is.crash),
    (
      ends.crashed honest words old new lists number bound is.of is.stopped _ is.crash,
      StopsInLosing number (record {
        of = ends.of_middle honest words old new lists number bound is.of is.stopped _ is.crash;
        stopped = is.stopped;
        failed = is.failed;
        cuts = is.cuts;
        drops = ends.drops honest words old new lists number bound is.of is.stopped _ is.crash;
      }),
      is.crash.down.new_is,
    ),
  )

pub crashing_happens : {D : Type 0} (honest : Type 0) (words : DiskWords D) → CrashingHappens honest words
unfolding hearing_run reading_run losing_run
crashing_happens honest words old new lists number count bound = (
  λ crash. record { run = hearing_run honest words old new lists number count bound crash; asks = λ before. refl },
  λ crash. record { run = reading_run honest words old new lists number count bound crash; asks = λ before. refl },
  λ crash. record { run = losing_run honest words old new lists number count bound crash; asks = λ before. refl },
)

pub crashing_keeps_once : {D : Type 0} (honest : Type 0) (words : DiskWords D) → CrashingKeepsOnce honest words
crashing_keeps_once honest words old new lists asked number count bound once = (
  by_hearing honest words old new lists number count bound once,
  by_reading honest words old new lists number count bound once,
  by_losing honest words old new lists number count bound once,
)
