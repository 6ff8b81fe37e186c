-- A node that stops between two calls, and one for which a stop is set.
use Rattle.std.proofs.Common.{inl, inr, ◌≡◌, ◌⊎◌, ◌<◌, ◌≤◌, ◌-◌, ℕ, zero, suc, Bool, true, false, List, [], ◌∷◌, length, Option, None, Some, Ok, Err, refl, sym, subst, ap, ◌∙◌, arith}
use Rattle.std.specs.Prelude.{if◌then◌else◌, slice_get, slice_set}
use Rattle.std.specs.Option.{is_some}
use Rattle.std.proofs.lemmas.Bool.{false≢true}
use Rattle.std.proofs.lemmas.List.{length-set}
use Rattle.std.proofs.lemmas.Option.{none-some}
use Rattle.relay_disk.specs.Device.{DiskWords}
use Rattle.relay_world.specs.GivingUp.{NoHop}
use Rattle.relay_world.specs.Crashes.{CrashesAtRest, let_go}
use Rattle.relay_world.specs.CrashRuns.{RestingCrashHappens}
use Rattle.relay_world.specs.Once.{GoesOn, IsNotOpened, RunsKeepAll}
use Rattle.relay_world.specs.Steps.{IsPut}
use Rattle.relay_world.specs.Stops.{HasArmed, StaysUp, StopsAgain}
use Rattle.relay_world.specs.World as world
use Rattle.relay_world.specs.World.{Host, World}
use Rattle.relay_events.specs.declared.event.Event.TheVariants.{Stop}
use Rattle.relay_events.specs.declared.fault.PairFault.{PairFault}
use Rattle.relay_events.specs.declared.fault.PairFault.TheVariants as fault
use Rattle.relay_events.specs.declared.seen.Seen.TheVariants.{Armed}
use Rattle.relay_events.specs.FirstFault.{first_fault, unless_up}
use Rattle.relay_hosts.specs.Host.{holds_up, is_up}
use Rattle.relay_events.specs.Happened.{HasHappened}
use Rattle.relay_events.specs.Relays.{AreBound}
use Rattle.relay_events.specs.Restart.{IsDownAt}
use Rattle.relay_hosts.specs.Room.{HasRoom, lines_held, lines_left, lines_to_come}
use Rattle.relay_events.specs.Step.{Shows, Steps}
use Rattle.relay_hosts.specs.StopNow.{IsArmed}
use Rattle.relay_events.specs.StopNow.{IsTakenDown}
use Rattle.relay_events.specs.Told.{LearnsOfBreaks}
use Rattle.relay_events.proofs.HungLemmas.{hung_lines}
use Rattle.relay_events.proofs.PlaceLemmas.{value_put}
use Rattle.relay_events.proofs.ReopenLemmas.{held_put}
use Rattle.relay_events.proofs.RunLemmas.{one_happened, run_happened, still_bound}
use Rattle.relay_events.proofs.StepLemmas.{told_already}

module _ {D : Type 0} (honest : Type 0) (words : DiskWords D) where
  module _ (old new : World D) (node : ℕ) (taken : IsTakenDown honest words old new node) where
    hosts_by : (new ≡ let_go node (record old { hosts = slice_set old.hosts node taken.now }))
        ⊎ (new ≡ record old { hosts = slice_set old.hosts node taken.now }) → new.hosts ≡ slice_set old.hosts node taken.now
    hosts_by (inl is) = ap (λ (w : World D). w.hosts) is
    hosts_by (inr is) = ap (λ (w : World D). w.hosts) is

    put_by : (host : Host D) → taken.now ≡ host → IsPut old.hosts (slice_set old.hosts node taken.now) node host
    put_by host is =
        subst (λ h. IsPut old.hosts (slice_set old.hosts node taken.now) node h) is
        (value_put old.hosts node taken.was taken.now taken.was_at)

    pub taken_stops : CrashesAtRest honest words old new node ⊎ StopsAgain honest words old new node
    taken_stops = elim taken.stops [
      | inl rest ↦ inl (record {
        host = taken.was;
        host_at = taken.was_at;
        before = rest.0.before;
        up = rest.0.up;
        disk = rest.0.disk;
        left = rest.0.left;
        down = record {
          hosts = slice_set old.hosts node taken.now;
          put = put_by (record taken.was { state = world.Down rest.0.disk None }) rest.0.new_is;
          as_many = length-set old.hosts node taken.now;
          new_is = rest.1;
        };
      })
      | inr again ↦
          let stays = again.0.stays in
          inr (record {
            stays = record {
              host = taken.was;
              host_at = taken.was_at;
              disk = stays.disk;
              undecided = stays.undecided;
              down = stays.down;
              again = stays.again;
              left = stays.left;
              hosts = subst (λ hs. IsPut old.hosts hs node (record taken.was { state = world.Down stays.again stays.undecided }))
                  (sym (ap (λ (w : World D). w.hosts) again.1))
                  (put_by (record taken.was { state = world.Down stays.again stays.undecided }) stays.new_is);
              rest = (
                ap (λ (w : World D). w.links) again.1,
                ap (λ (w : World D). w.attempts) again.1,
                ap (λ (w : World D). w.ledger) again.1,
                ap (λ (w : World D). w.clock) again.1,
                ap (λ (w : World D). length w.hosts) again.1 ∙ length-set old.hosts node taken.now,
              );
            };
            fuse = again.0.fuse;
          })
    ]

    pub taken_happened : RestingCrashHappens honest words → HasHappened honest words old new
    taken_happened happens = elim taken_stops [
      | inl rest ↦ run_happened honest words [] 2 old new ((happens old new NoHop node 0).0 rest)
      | inr again ↦ one_happened honest words old new (IsNotOpened node again.stays)
    ]

    pub taken_bound : honest → RunsKeepAll honest words → RestingCrashHappens honest words → AreBound honest words old
        → AreBound honest words new
    taken_bound is_honest keeps happens bound =
        still_bound honest words is_honest keeps old new bound (taken_happened happens)

    now_there : slice_get (slice_set old.hosts node taken.now) node ≡ Some taken.now
    now_there = (put_by taken.now refl).at

    pub taken_down : IsDownAt new node
    taken_down = elim taken.stops [
      | inl rest ↦ record {
        host = taken.now;
        host_at = ap (λ (w : World D). slice_get w.hosts node) rest.1 ∙ now_there;
        down = ap (λ (h : Host D). holds_up h.state) rest.0.new_is;
      }
      | inr again ↦ record {
        host = taken.now;
        host_at = ap (λ (w : World D). slice_get w.hosts node) again.1 ∙ now_there;
        down = ap (λ (h : Host D). holds_up h.state) again.0.stays.new_is;
      }
    ]

    pub taken_room : (free : ℕ) → HasRoom old free → HasRoom new free
    taken_room free room = elim taken.stops [
      | inl rest ↦
          let put = held_put old.hosts node 0 node taken.was taken.now (omega arith) taken.was_at in
          let none : lines_held node taken.was.state ≡ 0 = ap (λ h. lines_held node h) rest.0.up in
          let none_now : lines_held node taken.now.state ≡ 0 = ap (λ (h : Host D). lines_held node h.state) rest.0.new_is in
          let attempts = ap (λ (w : World D). lines_to_come w.attempts) rest.1 in
          let hosts = ap (λ (w : World D). lines_left 0 w.hosts) rest.1 in
          let less = hung_lines node old.attempts in
          omega (arith, room, put, none, none_now, attempts, hosts, less)
      | inr again ↦
          let put = held_put old.hosts node 0 node taken.was taken.now (omega arith) taken.was_at in
          let same : lines_held node taken.now.state ≡ lines_held node taken.was.state =
          ap (λ (h : Host D). lines_held node h.state) again.0.stays.new_is ∙ ap (λ h. lines_held node h) (sym again.0.stays.down) in
          let attempts = ap (λ (w : World D). lines_to_come w.attempts) again.1 in
          let hosts = ap (λ (w : World D). lines_left 0 w.hosts) again.1 in
          omega (arith, room, put, same, attempts, hosts)
    ]

-- a place that is there, and one that isn't
pub there_is : {A : Type 0} (xs : List A) (place : ℕ) → place < length xs → is_some (slice_get xs place) ≡ true
there_is [] place within = absurd (omega (arith, within))
there_is (x ∷ xs) zero within = refl
there_is (x ∷ xs) (suc place) within = there_is xs place (omega (arith, within))

pub there_is_none : {A : Type 0} (xs : List A) (place : ℕ) → length xs ≤ place → is_some (slice_get xs place) ≡ false
there_is_none [] place beyond = refl
there_is_none (x ∷ xs) zero beyond = absurd (omega (arith, beyond))
there_is_none (x ∷ xs) (suc place) beyond = there_is_none xs place (omega (arith, beyond))

module _ {D : Type 0} (honest : Type 0) (words : DiskWords D) (old : World D) (node pick : ℕ) where
  pub stop_may : node < length old.hosts → first_fault old (Stop node 0 pick) ≡ None
  stop_may within = ap (λ b. if b then None else Some fault.Down) (there_is old.hosts node within)

  pub stop_refused : length old.hosts ≤ node → Steps honest words old (Stop node 0 pick) old (Err fault.Down)
  stop_refused beyond = inl (ap (λ b. if b then None else Some fault.Down) (there_is_none old.hosts node beyond), refl)

  -- a stop that is set
  pub later_fault : (calls : ℕ) → 0 < calls → first_fault old (Stop node calls pick) ≡ unless_up old node None
  later_fault zero later = absurd (omega (arith, later))
  later_fault (suc calls) later = refl

  pub arm_refused : (calls : ℕ) (why : PairFault) → 0 < calls → unless_up old node None ≡ Some why
      → Steps honest words old (Stop node calls pick) old (Err why)
  arm_refused calls why later is = inl (later_fault calls later ∙ is, refl)

  -- the node is there, and up
  pub up_there : unless_up old node None ≡ None → (host : Host D) × (slice_get old.hosts node ≡ Some host) × (holds_up host.state ≡ true)
  up_there none = by (slice_get old.hosts node) refl (up (is_up (slice_get old.hosts node)) none)
    where
      up : (b : Bool) → (if b then None else Some fault.Down) ≡ None → b ≡ true
      up true is = refl
      up false is = absurd (none-some fault.Down (sym is))

      by : (found : Option (Host D)) → slice_get old.hosts node ≡ found → is_up found ≡ true
          → (host : Host D) × (slice_get old.hosts node ≡ Some host) × (holds_up host.state ≡ true)
      by None is none = absurd (false≢true none)
      by (Some host) is its = (host, is, its)

  module _ (was now : Host D) (was_at : slice_get old.hosts node ≡ Some was) (passing : ℕ)
      (armed : IsArmed honest words was now passing) where
    abbrev pub armed_world : World D
    armed_world = record old { hosts = slice_set old.hosts node now }

    abbrev stays_up : StaysUp honest words old armed_world node
    stays_up = record {
      host = was;
      host_at = was_at;
      before = armed.before;
      up = armed.up;
      after = armed.after;
      noted = armed.fused.noted;
      keeps = armed.keeps;
      config = armed.config;
      seats = armed.seats;
      attempts = armed.attempts;
      hosts = subst (λ h. IsPut old.hosts (slice_set old.hosts node now) node h) armed.new_is
          (value_put old.hosts node was now was_at);
      rest = (refl, refl, refl, refl, length-set old.hosts node now);
    }

    abbrev has_armed : HasArmed honest words old armed_world node
    has_armed = record { stays = stays_up; fused = armed.fused }

    pub armed_steps : (calls : ℕ) → 0 < calls → passing ≡ calls - 1 → unless_up old node None ≡ None → LearnsOfBreaks old
        → Steps honest words old (Stop node calls pick) armed_world (Ok (Armed node))
    armed_steps zero later is none told = absurd (omega (arith, later))
    armed_steps (suc calls) later is none told = (
      none,
      (
        armed_world,
        (
          Shows (Armed node),
          (record { armed = has_armed; calls_left = armed.calls_left ∙ ap (λ n. Some n) (is ∙ one_less calls) }, refl),
          (told_already honest words armed_world told, refl),
        ),
      ),
    )
      where
        one_less : (n : ℕ) → suc n - 1 ≡ n
        one_less n = omega arith

    pub armed_happened : HasHappened honest words old armed_world
    armed_happened = one_happened honest words old armed_world (GoesOn node stays_up)

    pub armed_bound : honest → RunsKeepAll honest words → AreBound honest words old → AreBound honest words armed_world
    armed_bound is_honest keeps bound = still_bound honest words is_honest keeps old armed_world bound armed_happened

    pub armed_room : (free : ℕ) → HasRoom old free → HasRoom armed_world free
    armed_room free room =
        let put = held_put old.hosts node 0 node was now (omega arith) was_at in
        let none : lines_held node was.state ≡ 0 = ap (λ h. lines_held node h) armed.up in
        let none_now : lines_held node now.state ≡ 0 = ap (λ (h : Host D). lines_held node h.state) armed.new_is in
        omega (arith, room, put, none, none_now)
