-- Places that a relay gives up without an attempt.
use Rattle.std.proofs.Common.{◌≡◌, ℕ, List, Some, refl}
use Rattle.std.proofs.lemmas.List.{length-set}
use Rattle.relay_disk.specs.Device.{DiskWords}
use Rattle.relay_book.specs.declared.change.Change.{Change}
use Rattle.relay_records.specs.declared.noted.Noted.{Noted}
use Rattle.relay_records.specs.Records.{Keeps}
use Rattle.relay_report.specs.Report.{reporter_of}
use Rattle.relay_loop.specs.Called.{untold}
use Rattle.relay_loop.specs.Calls.{SameConnections, SameRest}
use Rattle.relay_loop.specs.Relay.{RelayState}
use Rattle.relay_world.specs.GivingUp.{AddsGivenUp, AreFree, NoHop, Postmaster, Reason}
use Rattle.relay_world.specs.Steps.{HasGivenUp}
use Rattle.relay_world.specs.World.{Host, World}
use Rattle.relay_daemon.specs.Events.{GivesUpThere, GivingUpIsAnEvent, WithdrawingIsAnEvent, lines_given_up, recorded}
use Rattle.relay_daemon.specs.Runs.{RunsAt, host_with_note}
use Rattle.relay_daemon.proofs.KeepLemmas.{its_changes, its_keeps}
use Rattle.relay_daemon.proofs.PutLemmas.{value_put}
use Rattle.relay_daemon.proofs.StayLemmas.{runs_on}

module _ {D : Type 0} (honest : Type 0) (words : DiskWords D) where
  module _ (world : World D) (node : ℕ) (old new : RelayState D) (runs : RunsAt world node old) (reason : Reason)
      (message change : ℕ)
      (gives : (changes : List Change) → Keeps honest words old.node.records changes
      → AddsGivenUp honest words (reporter_of old.node.config) old.node.config.routes reason message world.clock
      changes old.node.records new.node.records change)
      (free : AreFree reason message old.node.attempts) (rest : SameRest old new) (same : SameConnections old new)
      (noted : Noted) (note_is : new.node.records.noted ≡ Some noted) where
    abbrev its_host : Host D
    its_host = host_with_note runs.host new.node noted

    abbrev its_world : World D
    its_world = recorded world node old new runs noted (lines_given_up world node old new runs message change noted)

    given_event : HasGivenUp honest words world its_world reason node message change
    given_event = record {
      host = runs.host;
      host_at = runs.host_at;
      before = old.node;
      up = runs.up;
      after = new.node;
      gives_up = gives;
      free = free;
      config = rest.0;
      seats = rest.1;
      attempts = rest.2;
      noted = noted;
      note_is = note_is;
      hosts = value_put world.hosts node runs.host its_host runs.host_at;
      ledger = refl;
      rest = (refl, refl, refl, length-set world.hosts node its_host);
    }

    given_runs : RunsAt its_world node (untold new)
    given_runs =
        runs_on world its_world node old (untold new) its_host runs
        (value_put world.hosts node runs.host its_host runs.host_at).at refl refl refl same.0 same.1 rest.1 rest.2

    pub given_there : GivesUpThere world node old new runs honest words reason message change
    given_there = record { noted = noted; note_is = note_is; event = given_event; runs_on = given_runs }

  pub giving_up : GivingUpIsAnEvent honest words
  giving_up world lists node message change old new runs bound says =
      let noted = (says.gives_up (its_changes honest words world lists node old runs bound)
      (its_keeps honest words world lists node old runs bound)).adds.adds.noted in
      given_there world node old new runs NoHop message change (λ changes keeps.
      let adds = says.gives_up changes keeps in
      record { message = adds.message; found = adds.found; named = tt; adds = adds.adds; calls = adds.calls })
      tt says.rest says.connections noted.note noted.is

  pub withdrawing : WithdrawingIsAnEvent honest words
  withdrawing world lists node message change withdrawal places old new runs bound says =
      let noted = (says.withdraws (its_changes honest words world lists node old runs bound)
      (its_keeps honest words world lists node old runs bound)).adds.adds.noted in
      given_there world node old new runs (Postmaster withdrawal places) message change (λ changes keeps.
      let adds = says.withdraws changes keeps in
      record {
        message = adds.message;
        found = adds.found;
        named = adds.named;
        adds = adds.adds;
        calls = adds.calls;
      })
      says.ends.free says.rest says.connections noted.note noted.is
