-- The first events of relays.
use Rattle.std.proofs.Common.{inr, ◌≡◌, ◌<◌, ℕ, List, [], ◌∷◌, length, Ok, Err, Result, refl, arith}
use Rattle.relay_disk.specs.Device.{DiskWords}
use Rattle.relay_world.specs.Once.{RunsKeepAll, Ticks}
use Rattle.relay_world.specs.World.{World}
use Rattle.relay_events.specs.declared.event.Event.{Event}
use Rattle.relay_events.specs.declared.event.Event.TheVariants.{Tick}
use Rattle.relay_events.specs.declared.fault.PairFault.{PairFault}
use Rattle.relay_events.specs.declared.relays.Relays.{Relays}
use Rattle.relay_events.specs.declared.seen.Seen.{Seen}
use Rattle.relay_events.specs.declared.seen.Seen.TheVariants.{Set, Stopped}
use Rattle.relay_events.specs.Happened.{HasHappened}
use Rattle.relay_events.specs.Relays.{AreInOrder, world_of}
use Rattle.relay_events.specs.Step.{Does, IsSeen, Shows, Steps}
use Rattle.relay_events.specs.Told.{AreTold, LearnsOfBreaks}
use Rattle.relay_events.proofs.RunLemmas.{one_happened, still_bound}

pub seen_alone : (own : Seen) (nodes : List ℕ) → length nodes ≡ 0 → IsSeen (Shows own) nodes (Ok own)
seen_alone own [] none = refl
seen_alone own (node ∷ nodes) none = absurd (omega (arith, none))

pub seen_stopped : (own : Seen) (stopped : List ℕ) → 0 < length stopped → IsSeen (Shows own) stopped (Ok (Stopped stopped))
seen_stopped own [] some = absurd (omega (arith, some))
seen_stopped own (node ∷ nodes) some = refl

module _ {D : Type 0} (honest : Type 0) (words : DiskWords D) where
  -- an event that was done is a step, whatever is answered
  pub done_steps : (old : World D) (event : Event) (new : World D) (answer : Result Seen PairFault)
      → Does honest words old event new answer → Steps honest words old event new answer
  done_steps old event new (Ok shown) does = does
  done_steps old event new (Err why) does = inr (inr does)

  pub has_ticked : (old : World D) (now : ℕ) → HasHappened honest words old (record old { clock = now })
  has_ticked old now = one_happened honest words old (record old { clock = now }) (Ticks now (record { new_is = refl }))

  -- where there is nothing to tell, all were told
  abbrev pub told_already : (world : World D) → LearnsOfBreaks world → AreTold honest words world world
  told_already world told = record { turns = 0; stopped = []; tell = (refl, refl); told = told }

  pub tick_steps : (old : World D) (now : ℕ) → LearnsOfBreaks old
      → Steps honest words old (Tick now) (record old { clock = now }) (Ok (Set now))
  tick_steps old now told = (
    refl,
    (
      record old { clock = now },
      (Shows (Set now), (record { new_is = refl }, refl), (told_already (record old { clock = now }) told, refl)),
    ),
  )

  pub tick_order : honest → RunsKeepAll honest words → (old : Relays D) (now : ℕ) → AreInOrder honest words old
      → AreInOrder honest words (record old { clock = now })
  tick_order is_honest keeps old now order = record {
    bound = still_bound honest words is_honest keeps (world_of old) (world_of (record old { clock = now })) order.bound
        (has_ticked (world_of old) now);
    told = order.told;
    room = order.room;
  }
