-- A node that crashes between two calls, while its spool is written anew, or while it gives up places without a hop,
-- lets go of its ends, and then stops.
use Rattle.std.proofs.Common.{inl, inr, ◌≡◌, ℕ, zero, suc, ◌-◌, List, map, Option, None, Some, refl, sym, subst, ap, ◌∙◌, arith}
use Rattle.std.specs.Option.{option_map}
use Rattle.std.specs.Prelude.{slice_get}
use Rattle.std.proofs.lemmas.Option.{none-some}
use Rattle.relay_disk.specs.Device.{DiskWords}
use Rattle.relay_disk.specs.declared.disks.Disks.{Disks}
use Rattle.relay_disk.specs.Disks.{LosesFuseOrNot, calls_left_of}
use Rattle.relay_spool.specs.Head.{renewal_calls}
use Rattle.relay_spool.specs.Spool.{CallsUpTo}
use Rattle.relay_book.specs.declared.change.Change.{Change}
use Rattle.relay_records.specs.Records.{Halted, Keeps, Kept}
use Rattle.relay_node.specs.Node.{NodeState}
use Rattle.relay_world.specs.declared.attempt.Attempt.{Attempt}
use Rattle.relay_world.specs.declared.link.Link.{Link}
use Rattle.relay_world.specs.Bound.{HasSession, HasSlot}
use Rattle.relay_world.specs.Crashes.{CrashesAtRest, CrashesCompacting, CrashesGivingUp, GoesDown, let_go, let_go_link}
use Rattle.relay_world.specs.GivingUp.{Reason}
use Rattle.relay_world.specs.CrashRuns.{CompactingHappens, RestingCrashHappens}
use Rattle.relay_world.specs.HangUp.{HangsUp, IsLetGo, hung_up_attempt}
use Rattle.relay_world.specs.Once.{GoesOn, Happen, LetsGo, Reopens, Stops, StopsInGivingUp}
use Rattle.relay_world.specs.Stops.{HasReopened, IsLeftBy, IsNearerOrGone, LeavesList, NoAttempt, NoSession, StopsGivingUp}
use Rattle.relay_world.specs.World.{Host, Up, World, link_at}
use Rattle.relay_world.proofs.CrashLemmas.{let_go_one, no_session_left}
use Rattle.relay_world.proofs.HangUpLemmas.{as_long, attempt_was, get_map, link_map, link_was, no_attempt}

module _ {D : Type 0} (node : ℕ) (old : World D) where
  abbrev links_now : List Link
  links_now = map (let_go_link node old.attempts) old.links

  abbrev attempts_now : List Attempt
  attempts_now = map (hung_up_attempt node) old.attempts

  pub hangs : HangsUp old (let_go node old) node
  hangs = record {
    links = links_now;
    each_link = λ other. subst (λ o. IsLetGo node (link_at old.links other) o)
        (sym (link_map (let_go_link node old.attempts) old.links other))
        (let_go_one node old.attempts (link_at old.links other));
    grows = as_long (let_go_link node old.attempts) old.links;
    attempts = attempts_now;
    each_attempt = λ place. inr (get_map (hung_up_attempt node) old.attempts place);
    new_is = refl;
  }

  pub none_heard : NoSession (let_go node old) node
  none_heard other link session is has =
      let was = link_was (let_go_link node old.attempts) (link_at old.links other) link
      (sym (link_map (let_go_link node old.attempts) old.links other) ∙ is) in
      no_session_left node old.attempts was.0 session (subst (λ l. HasSession l node session) was.1 has)

  pub none_runs : NoAttempt (let_go node old) node
  none_runs place attempt slot is has =
      let was = attempt_was (hung_up_attempt node) (slice_get old.attempts place) attempt
      (sym (get_map (hung_up_attempt node) old.attempts place) ∙ is) in
      no_attempt node was.0 slot (subst (λ a. HasSlot a node slot) was.1 has)

-- where no call has been made, the fuse lets as many pass as before
calls_none : (left : Option ℕ) → left ≡ option_map (λ calls. calls - 0) left
calls_none None = refl
calls_none (Some left) = let e : left ≡ left - 0 = omega arith in ap (λ (n : ℕ). Some n) e

module _ {D : Type 0} (words : DiskWords D) (most : ℕ) where
  -- a stop between two calls
  pub gone_at_rest : (old new : Disks D) → LosesFuseOrNot words old new → IsNearerOrGone words most old new
  gone_at_rest old new (inl gone) = inl gone
  gone_at_rest old new (inr same) = inr (0, omega arith, same ∙ calls_none (calls_left_of words old))

  -- a stop in a call
  pub gone_or_nearer : (old mid new : Disks D) → CallsUpTo words most old mid → LosesFuseOrNot words mid new
      → IsNearerOrGone words most old new
  gone_or_nearer old mid new calls (inl gone) = inl gone
  gone_or_nearer old mid new calls (inr same) = inr (calls.0, calls.1, same ∙ calls.2)

module _ {D : Type 0} (honest : Type 0) (words : DiskWords D) (old new : World D) where
  -- a node that lets go of its ends, and then stops with nothing undecided
  stopped_run : (node : ℕ) (host : Host D) (before : NodeState D) (disk : Disks D)
      → slice_get old.hosts node ≡ Some host → host.state ≡ Up before → LeavesList honest words before.records disk
      → IsNearerOrGone words (renewal_calls before.records.spool.taken.other) before.records.spool.disk disk
      → GoesDown old new node host disk None → Happen honest words (suc (suc zero)) old new
  stopped_run node host before disk host_at up left fuse down = (
    let_go node old,
    LetsGo node (hangs node old),
    (
      record (let_go node old) { hosts = down.hosts },
      Stops node (record {
        host = host;
        host_at = host_at;
        before = before;
        up = up;
        no_session = none_heard node old;
        no_attempt = none_runs node old;
        disk = disk;
        left = left;
        fuse = fuse;
        hosts = down.put;
        rest = (refl, refl, refl, refl, down.as_many);
      }),
      down.new_is,
    ),
  )

  pub rest_run : (node : ℕ) → CrashesAtRest honest words old new node → Happen honest words (suc (suc zero)) old new
  rest_run node crash =
      stopped_run node crash.host crash.before crash.disk crash.host_at crash.up
      (λ changes keeps is image may. keeps.images is image (crash.left.images is image may))
      (gone_at_rest words _ crash.before.records.spool.disk crash.disk crash.left.fuse) crash.down

  -- what is left of a call that adds no change stands for the changes before
  left_by_none : (before stopped : Kept D) (disk : Disks D)
      → ((changes : List Change) → Keeps honest words before changes → Halted honest words stopped changes None)
      → IsLeftBy honest words stopped disk → LeavesList honest words before disk
  left_by_none before stopped disk halts left changes keeps is image may =
      let found = (halts changes keeps).images is image (left.images is image may) in (
        found.0,
        found.1,
        elim found.2 [
          | inl stands ↦ stands
          | inr more ↦ absurd (none-some more.0 more.1)
        ],
      )

  pub compacting_run : (node : ℕ) → CrashesCompacting honest words old new node
      → Happen honest words (suc (suc zero)) old new
  compacting_run node crash =
      stopped_run node crash.host crash.before crash.disk crash.host_at crash.up
      (left_by_none crash.before.records crash.stopped crash.disk crash.halts crash.left)
      (gone_or_nearer words _ crash.before.records.spool.disk crash.stopped.spool.disk crash.disk crash.failed.calls
      crash.left.fuse) crash.down

  giving_stops : (reason : Reason) (node message : ℕ) (crash : CrashesGivingUp honest words old new reason node message)
      → StopsGivingUp honest words (let_go node old) (record (let_go node old) { hosts = crash.down.hosts }) reason node message
  giving_stops reason node message crash = record {
    host = crash.host;
    host_at = crash.host_at;
    before = crash.before;
    up = crash.up;
    no_session = none_heard node old;
    no_attempt = none_runs node old;
    stopped = crash.stopped;
    failed = crash.failed;
    cuts = crash.cuts;
    noted = crash.noted;
    note_is = crash.note_is;
    disk = crash.disk;
    left = crash.left;
    hosts = crash.down.put;
    rest = (refl, refl, refl, refl, crash.down.as_many);
  }

  pub giving_run : (reason : Reason) (node message : ℕ) → CrashesGivingUp honest words old new reason node message
      → Happen honest words (suc (suc zero)) old new
  giving_run reason node message crash = (
    let_go node old,
    LetsGo node (hangs node old),
    (
      record (let_go node old) { hosts = crash.down.hosts },
      StopsInGivingUp reason node message (giving_stops reason node message crash),
      crash.down.new_is,
    ),
  )

pub resting_crash_happens : {D : Type 0} (honest : Type 0) (words : DiskWords D) → RestingCrashHappens honest words
unfolding stopped_run rest_run giving_run compacting_run
resting_crash_happens honest words old new reason node message = (
  λ crash. record { run = rest_run honest words old new node crash; asks = λ before. refl },
  λ crash. record { run = giving_run honest words old new reason node message crash; asks = λ before. refl },
  λ crash. record { run = compacting_run honest words old new node crash; asks = λ before. refl },
)

-- a run of three, of which the last event opens a node
pub compacting_happens : {D : Type 0} (honest : Type 0) (words : DiskWords D) → CompactingHappens honest words
unfolding stopped_run compacting_run
compacting_happens honest words old between new node = (
  λ compacted. record { run = (new, GoesOn node compacted.stays, refl); asks = λ before. refl },
  λ crash opens.
      let run = compacting_run honest words old between node crash in
      let opened = Reopens node (subst (λ w. HasReopened honest words w new node) run.2.2 opens) in
      record { run = (run.0, run.1, (run.2.0, run.2.1, (new, opened, refl))); asks = λ before. refl },
)
