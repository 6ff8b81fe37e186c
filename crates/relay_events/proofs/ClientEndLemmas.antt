-- The attempt at the client end of a link, after a call of its node.
use Rattle.std.proofs.Common.{◌≡◌, ◌<◌, ◌≤◌, ◌++◌, ℕ, List, length, Some, refl, sym, subst, ap, ◌∙◌, arith}
use Rattle.std.specs.Prelude.{slice_get, slice_set}
use Rattle.std.proofs.lemmas.Option.{same_Some}
use Rattle.relay_disk.specs.Device.{DiskWords}
use Rattle.relay_node.specs.Node.{NodeState}
use Rattle.relay_world.specs.declared.attempt.Attempt.{Attempt}
use Rattle.relay_world.specs.declared.attempt.Fate.{Fate}
use Rattle.relay_world.specs.declared.attempt.Fate.TheVariants.{Dropped}
use Rattle.relay_world.specs.declared.line.Line.{Line}
use Rattle.relay_world.specs.Crashes.{GoesDown}
use Rattle.relay_world.specs.Ledger.{lines_of}
use Rattle.relay_world.specs.Once.{Drops as DropsEvent}
use Rattle.relay_world.specs.Steps.{AttemptOf, DropsAttempt}
use Rattle.relay_world.specs.World.{Host, Undecided, World}
use Rattle.relay_events.specs.declared.client_end.ClientEnd.{ClientEnd}
use Rattle.relay_hosts.specs.declared.host.Origin.{Origin}
use Rattle.relay_hosts.specs.Call.{LosesAttempt, Runs}
use Rattle.relay_events.specs.ClientEnd.{EndsBy, HasAttemptAt, RunsThere, SetsFate, its_attempt}
use Rattle.relay_hosts.specs.Host.{origin_in}
use Rattle.relay_events.specs.Happened.{HasHappened}
use Rattle.relay_events.specs.Restart.{CrashesAt}
use Rattle.relay_hosts.specs.Room.{HasRoom, lines_to_come}
use Rattle.relay_events.specs.Told.{ends_of, running_of, sessions_of}
use Rattle.relay_events.proofs.CutShortLemmas.{goes_down, held_more}
use Rattle.relay_events.proofs.HungLemmas.{hung_lines_less, hung_running_less, let_go_sessions}
use Rattle.relay_events.proofs.LossLemmas.{attempt_of, has_dropped, over_fewer, over_room, over_world, running_is}
use Rattle.relay_events.proofs.RunLemmas.{one_happened}
use Rattle.relay_events.proofs.TellLemmas.{get_within}

-- its node has it
pub has_at : {D : Type 0} (honest : Type 0) (words : DiskWords D) (old : World D) (number : ℕ) (end : ClientEnd)
    → RunsThere honest words old number end → HasAttemptAt honest words old end.node end.slot
has_at honest words old number end runs = record { host = runs.on.host; host_at = runs.on.host_at; has = runs.on.has }

module _ {D : Type 0} (honest : Type 0) (words : DiskWords D) (old called : World D) (number : ℕ) (end : ClientEnd)
    (runs : RunsThere honest words old number end) (was now : Host D) (was_at : slice_get old.hosts end.node ≡ Some was)
    (called_is : called ≡ record old { hosts = slice_set old.hosts end.node now }) where
  abbrev pub its : Attempt
  its = its_attempt end runs.attempt

  pub was_is : was ≡ runs.on.host
  was_is = same_Some was runs.on.host (sym was_at ∙ runs.on.host_at)

  pub still_there : slice_get called.attempts end.place ≡ Some its
  still_there = ap (λ (w : World D). slice_get w.attempts end.place) called_is ∙ runs.on.attempt_at

  pub place_within : end.place < length called.attempts
  place_within = get_within called.attempts end.place its still_there

  -- the world in which the node was called, and the attempt has this fate
  abbrev pub over : Fate → List Line → World D
  over fate ledger =
      over_world honest words old number end.place end.slot its runs.on was now was_is (record its { fate = fate }) ledger

  pub ended_is : (new : World D) (fate : Fate) (lines : List Line) → EndsBy called new end.place fate lines
      → new ≡ over fate (old.ledger ++ lines)
  ended_is new fate lines ends =
      ends its still_there
      ∙ ap (λ (w : World D). let next : World D = record w {
        attempts = slice_set w.attempts end.place (record its { fate = fate });
        ledger = w.ledger ++ lines;
      } in next) called_is

  pub set_is : (new : World D) (fate : Fate) → SetsFate called new end.place fate → new ≡ over fate old.ledger
  set_is new fate sets =
      sets its still_there
      ∙ ap (λ (w : World D). let next : World D = record w {
        attempts = slice_set w.attempts end.place (record its { fate = fate });
      } in next) called_is

  -- it is gone without an outcome
  module _ (new : World D) (loses : LosesAttempt was now end.slot) (sets : SetsFate called new end.place Dropped) where
    pub has_gone : DropsAttempt old new number
    has_gone =
        subst (λ (w : World D). DropsAttempt old w number) (sym (set_is new Dropped sets))
        (has_dropped honest words old number end.place end.slot its runs.on was now was_is (record its { fate = Dropped }) refl
        loses)

    -- and what is said of the attempt that ran there is said of it
    pub has_gone_so : (P : AttemptOf old number → Type 0)
        → P (attempt_of honest words old number end.place end.slot its runs.on was now was_is loses.before loses.runs.up)
        → (drops : DropsAttempt old new number) × P drops.of
    has_gone_so P so =
        subst (λ (w : World D). (drops : DropsAttempt old w number) × P drops.of) (sym (set_is new Dropped sets)) (
          has_dropped honest words old number end.place end.slot its runs.on was now was_is (record its { fate = Dropped }) refl
              loses,
          so,
        )

    pub gone_happened : HasHappened honest words old new
    gone_happened = one_happened honest words old new (DropsEvent number has_gone)

    pub gone_room : (free : ℕ) → HasRoom old free → HasRoom new free
    gone_room free room =
        subst (λ (w : World D). HasRoom w free) (sym (set_is new Dropped sets))
        (over_room honest words old number end.place end.slot its runs.on was now was_is (record its { fate = Dropped }) Dropped
        old.ledger loses.after 0 free free refl refl (ap (λ (h : Host D). h.state) loses.runs.new_is) (omega arith) (omega arith)
        room)

    pub gone_fewer : ends_of new < ends_of old
    gone_fewer =
        subst (λ (w : World D). ends_of w < ends_of old) (sym (set_is new Dropped sets))
        (over_fewer honest words old number end.place end.slot its runs.on was now was_is (record its { fate = Dropped }) Dropped
        old.ledger refl refl)

  -- its node stopped in the call
  module _ (before after : NodeState D) (runs_to : Runs was now before after) (origin : Origin) (down : World D)
      (crashes : CrashesAt honest words called down end.node origin) where
    -- what its opening decides
    abbrev undecided_now : Undecided
    undecided_now = record { note = crashes.noted; origin = origin_in origin }

    fell : GoesDown old down end.node was crashes.disk (Some undecided_now)
    fell = goes_down honest words old called end.node was now was_at called_is before after runs_to origin down crashes

    pub crash_room : (free : ℕ) → length (lines_of end.node undecided_now) ≤ length its.places.items → HasRoom old free
        → HasRoom down free
    crash_room free few room =
        let less = hung_lines_less end.node its refl (running_is its.fate end.slot runs.on.runs) old.attempts end.place
        runs.on.attempt_at in
        let attempts = ap (λ (w : World D). lines_to_come w.attempts) fell.new_is in
        let held = held_more honest words old called end.node was now was_at called_is before after runs_to origin down crashes in
        omega (arith, room, less, attempts, held, few)

    pub crash_running : running_of down.attempts < running_of old.attempts
    crash_running =
        let less = hung_running_less end.node its refl (running_is its.fate end.slot runs.on.runs) old.attempts end.place
        runs.on.attempt_at in
        let attempts = ap (λ (w : World D). running_of w.attempts) fell.new_is in
        omega (arith, less, attempts)

    pub crash_fewer : ends_of down < ends_of old
    crash_fewer =
        let less = crash_running in
        let links = ap (λ (w : World D). sessions_of w.links) fell.new_is in
        let sessions = let_go_sessions end.node old.attempts old.links in
        omega (arith, less, links, sessions)
