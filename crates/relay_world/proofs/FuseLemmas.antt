-- How a stop that is set for a later call of a node's device comes nearer.
use Rattle.std.proofs.Common.{◌≡◌, ℕ, ◌+◌, ◌-◌, List, take, Option, None, Some, refl, sym, subst, ap, ◌∙◌, arith}
use Rattle.std.proofs.lemmas.Option.{none-some, same_Some}
use Rattle.std.specs.Prelude.{slice_get}
use Rattle.std.specs.Option.{option_map}
use Rattle.relay_disk.specs.Device.{DiskWords}
use Rattle.relay_disk.specs.Disks.{calls_left_of}
use Rattle.relay_spool.specs.Spool.{Passes}
use Rattle.relay_server.specs.Dialogue.{Said}
use Rattle.relay_book.specs.declared.change.Change.{Change}
use Rattle.relay_records.specs.Records.{Kept}
use Rattle.relay_routes.specs.declared.config.Config.{Config}
use Rattle.relay_attempts.specs.Reply.{IsLost, Told}
use Rattle.relay_node.specs.Attempts.{RepliesBy, Tells}
use Rattle.relay_node.specs.Node.{Makes, Receives}
use Rattle.relay_world.specs.GivingUp.{AddsGivenUp, Reason}
use Rattle.relay_world.specs.Bound.{HostKeeps, IsBound, NodeKeeps, told_by}
use Rattle.relay_world.specs.Fuses.{CountsDown, OpeningSetsNone, SetsFaultAnew, StoppingSetsNone, StopsCountDown, calls_of}
use Rattle.relay_world.specs.Steps.{HasGivenUp, HasHeard, HasLost, HasRead, waiting_down, waiting_up}
use Rattle.relay_world.specs.World.{World}
use Rattle.relay_world.proofs.AttemptLemmas.{KnowsAttempt, known}
use Rattle.relay_world.proofs.CrashRestLemmas.{gone_at_rest, gone_or_nearer}
use Rattle.relay_world.proofs.OpenLemmas.{list_there, node_kept}
use Rattle.relay_world.proofs.TalkLemmas.{its_node, listed, says_before, was}
use Rattle.relay_report.specs.Report.{reporter_of}

none_less : (left : Option ℕ) → left ≡ option_map (λ calls. calls - 0) left
none_less None = refl
none_less (Some left) = let e : left ≡ left - 0 = omega arith in ap (λ (n : ℕ). Some n) e

-- records that are the same have called no device
same_count : {D : Type 0} (words : DiskWords D) (old new : Kept D) → new ≡ old
    → Passes words 0 old.spool.disk new.spool.disk
same_count {D} words old new same =
    subst (λ (k : Kept D). Passes words 0 old.spool.disk k.spool.disk) (sym same)
    (record { calls = none_less (words.calls_left old.spool.disk.first); had = λ left is. omega arith })

module _ {D : Type 0} (honest : Type 0) (words : DiskWords D) (old new : World D) (lists : List (List Change))
    (bound : IsBound honest words old lists) where
  heard_counts : (number count : ℕ) (heard : HasHeard honest words old new number count)
      → CountsDown words (calls_of heard.received.change) heard.of.before heard.after
  heard_counts number count heard = by heard.received.change hears.talks.makes
    where
      list : List Change
      list = (listed honest words old lists number bound heard.of).0

      said : Said
      said = (was honest words old lists number bound heard.of).said

      hears : Receives honest words heard.of.before.config list heard.of.end.peer old.clock heard.of.session said
          (waiting_up count heard.of.link) heard.of.before heard.after heard.received
      hears = heard.receives list said (its_node honest words old lists number bound heard.of).keeps
          (says_before honest words old lists number bound heard.of)

      by : (made : Option ℕ)
          → Makes honest words heard.of.before.config list heard.of.end.peer old.clock said hears.later
          hears.talks.refused heard.received.used heard.of.before.records heard.after.records made
          → CountsDown words (calls_of made) heard.of.before heard.after
      by None makes = same_count words heard.of.before.records heard.after.records makes.1
      by (Some change) queues = queues.calls

  read_counts : (number count : ℕ) (read : HasRead honest words old new number count)
      → CountsDown words (calls_of read.replied.change) read.of.before read.after
  read_counts number count read =
      by read.replied.change (read.replies knows.changes told knows.its_node.keeps
      (subst (λ (c : Config). Tells c.host knows.changes read.of.before.attempts read.of.slot told)
      (sym knows.its_node.config_is) knows.tells))
    where
      knows : KnowsAttempt honest words old lists number read.of
      knows = known honest words old lists number bound read.of

      told : Told
      told = told_by read.of.attempt knows.was.accept (take read.of.link.down_read read.of.link.down) knows.was.output

      by : (made : Option ℕ)
          → RepliesBy honest words (reporter_of read.of.before.config) old.clock knows.changes read.of.slot told
          (waiting_down count read.of.link) read.of.before read.after read.replied made
          → CountsDown words (calls_of made) read.of.before read.after
      by None on = same_count words read.of.before.records read.after.records on.same
      by (Some change) ended = ended.calls

  lost_counts : (number change : ℕ) (lost : HasLost honest words old new number change)
      → CountsDown words 4 lost.of.before lost.after
  lost_counts number change lost = ended.calls
    where
      knows : KnowsAttempt honest words old lists number lost.of
      knows = known honest words old lists number bound lost.of

      told : Told
      told = told_by lost.of.attempt knows.was.accept (take lost.of.link.down_read lost.of.link.down) knows.was.output

      ended : IsLost honest words (reporter_of lost.of.before.config) old.clock knows.changes lost.of.slot told
          lost.of.before.records lost.after.records lost.after.attempts change
      ended = lost.loses knows.changes told knows.its_node.keeps
          (subst (λ (c : Config). Tells c.host knows.changes lost.of.before.attempts lost.of.slot told)
          (sym knows.its_node.config_is) knows.tells)

  given_counts : (reason : Reason) (node message change : ℕ) (given : HasGivenUp honest words old new reason node message change)
      → CountsDown words 4 given.before given.after
  given_counts reason node message change given = given_up.calls
    where
      there : (list : List Change) × (slice_get lists node ≡ Some list)
      there = list_there old.hosts lists node given.host bound.even given.host_at

      kept : HostKeeps honest words given.host there.0
      kept = bound.hosts node given.host there.0 (record { host_at = given.host_at; list_at = there.1 })

      keeps : NodeKeeps honest words given.host.config given.before there.0
      keeps = node_kept honest words given.host there.0 given.before kept given.up

      given_up : AddsGivenUp honest words (reporter_of given.before.config) given.before.config.routes reason message old.clock
          there.0 given.before.records given.after.records change
      given_up = given.gives_up there.0 keeps.keeps

pub stops_count_down : {D : Type 0} (honest : Type 0) (words : DiskWords D) → StopsCountDown honest words
stops_count_down honest words old new lists reason number count node message change bound = (
  heard_counts honest words old new lists bound number count,
  read_counts honest words old new lists bound number count,
  lost_counts honest words old new lists bound number change,
  given_counts honest words old new lists bound reason node message change,
  λ compacted. compacted.compacts.calls,
)

pub stopping_sets_none : {D : Type 0} (honest : Type 0) (words : DiskWords D) → StoppingSetsNone honest words
stopping_sets_none honest words old new reason number count node message = (
  λ crash. gone_at_rest words 0 crash.before.records.spool.disk crash.disk crash.left.fuse,
  λ crash. gone_or_nearer words 4 crash.of.before.records.spool.disk crash.stopped.spool.disk crash.disk
      crash.failed.calls crash.left.fuse,
  λ crash. gone_or_nearer words 4 crash.of.before.records.spool.disk crash.stopped.spool.disk crash.crash.disk
      crash.failed.calls crash.crash.left.fuse,
  λ crash. gone_or_nearer words 4 crash.of.before.records.spool.disk crash.stopped.spool.disk crash.crash.disk
      crash.failed.calls crash.crash.left.fuse,
  λ crash. gone_or_nearer words 4 crash.before.records.spool.disk crash.stopped.spool.disk crash.disk
      crash.failed.calls crash.left.fuse,
  λ crash. gone_or_nearer words _ crash.before.records.spool.disk crash.stopped.spool.disk crash.disk
      crash.failed.calls crash.left.fuse,
)

-- the calls of an opening bring a pending fault nearer
none_set_anew : {D : Type 0} (honest : Type 0) (words : DiskWords D) (old new : World D) (node : ℕ)
    → SetsFaultAnew honest words old new node → ⊥
none_set_anew honest words old new node sets = by (calls_left_of words sets.opened.disk) refl
  where
    by : (pending : Option ℕ) → calls_left_of words sets.opened.disk ≡ pending → ⊥
    by None is =
        let none : None ≡ Some sets.left =
        sym (ap (λ (o : Option ℕ). option_map (λ calls. calls - (sets.opened.opens.calls.0 + 1)) o) is)
        ∙ sym sets.opened.opens.calls.1.calls ∙ sets.pending in
        absurd (none-some sets.left none)
    by (Some before) is =
        let count = sets.opened.opens.calls.0 in
        let now : Some (before - (count + 1)) ≡ Some sets.left =
        sym (ap (λ (o : Option ℕ). option_map (λ calls. calls - (count + 1)) o) is)
        ∙ sym sets.opened.opens.calls.1.calls ∙ sets.pending in
        let less : before - (count + 1) ≡ sets.left = same_Some (before - (count + 1)) sets.left now in
        let had = sets.opened.opens.calls.1.had before is in
        let was = sets.was before is in
        absurd (omega (arith, less, had, was))

pub opening_sets_none : {D : Type 0} (honest : Type 0) (words : DiskWords D) → OpeningSetsNone honest words
opening_sets_none honest words old new node =
    (λ opened. opened.opens.calls, none_set_anew honest words old new node, λ refused. refused.calls)
