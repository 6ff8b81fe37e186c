-- Calls that change no link and no attempt.
use Rattle.std.proofs.Common.{◌≡◌, ℕ, List, Option, None, Some, refl, sym, ap, ◌∙◌}
use Rattle.std.specs.Prelude.{slice_get}
use Rattle.std.proofs.lemmas.List.{length-set}
use Rattle.relay_disk.specs.Device.{DiskWords}
use Rattle.relay_slots.specs.Slots.{slot_at}
use Rattle.relay_loop.specs.Calls.{CompactSays, TrimSays}
use Rattle.relay_loop.specs.Relay.{RelayState}
use Rattle.relay_world.specs.declared.attempt.Attempt.{Attempt}
use Rattle.relay_world.specs.declared.link.Link.{Link}
use Rattle.relay_world.specs.Stops.{StaysUp}
use Rattle.relay_world.specs.World.{Host, Up, World, link_at}
use Rattle.relay_daemon.specs.Events.{CompactingIsAnEvent, TrimmingGoesOn, moved}
use Rattle.relay_daemon.specs.Runs.{ReachesHop, RunsAt, ServesClient, host_with}
use Rattle.relay_daemon.proofs.PutLemmas.{value_put}

-- the value of a slot in a table that is the same
slot_same : {A : Type 0} (old new : List (Option A)) (number : ℕ) (value : Option A) → new ≡ old
    → slot_at new number ≡ value → slot_at old number ≡ value
slot_same old new number value same is = ap (λ (t : List (Option _)). slot_at t number) (sym same) ∙ is

module _ {D : Type 0} where
  -- connections stay, as links and attempts do
  pub client_stays : (old new : World D) (node session : ℕ) (waiting : List ℕ) → new.links ≡ old.links
      → ServesClient old node session waiting → ServesClient new node session waiting
  client_stays old new node session waiting same serves = record {
    number = serves.number;
    link = serves.link;
    link_is = ap (λ (ls : List Link). link_at ls serves.number) same ∙ serves.link_is;
    has = serves.has;
    unwritten = serves.unwritten;
  }

  pub hop_stays : (old new : World D) (node slot : ℕ) (waiting : List ℕ) → new.links ≡ old.links
      → new.attempts ≡ old.attempts → ReachesHop old node slot waiting → ReachesHop new node slot waiting
  hop_stays old new node slot waiting links attempts reaches = record {
    place = reaches.place;
    attempt = reaches.attempt;
    attempt_at = ap (λ (tries : List Attempt). slice_get tries reaches.place) attempts ∙ reaches.attempt_at;
    has = reaches.has;
    link = reaches.link;
    link_is = ap (λ (ls : List Link). link_at ls reaches.attempt.link) links ∙ reaches.link_is;
    client = reaches.client;
    unwritten = reaches.unwritten;
  }

  -- a relay that has changed nothing but its records runs on, at a host that has changed nothing else
  pub runs_on : (old new : World D) (node : ℕ) (before after : RelayState D) (host : Host D)
      → RunsAt old node before → slice_get new.hosts node ≡ Some host → host.state ≡ Up after.node
      → new.links ≡ old.links → new.attempts ≡ old.attempts
      → after.clients ≡ before.clients → after.hops ≡ before.hops
      → after.node.seats ≡ before.node.seats → after.node.attempts ≡ before.node.attempts → RunsAt new node after
  runs_on old new node before after host runs at up links attempts clients hops seats tries = record {
    host = host;
    host_at = at;
    up = up;
    clients = λ session waiting is. client_stays old new node session waiting links
        (runs.clients session waiting (slot_same before.clients after.clients session (Some waiting) clients is));
    hops = λ slot waiting is. hop_stays old new node slot waiting links attempts
        (runs.hops slot waiting (slot_same before.hops after.hops slot (Some waiting) hops is));
    seats = λ session none.
        slot_same after.node.seats before.node.seats session None (sym seats)
        (runs.seats session (slot_same before.clients after.clients session None clients none));
    runs = λ slot none.
        slot_same after.node.attempts before.node.attempts slot None (sym tries)
        (runs.runs slot (slot_same before.hops after.hops slot None hops none));
  }

module _ {D : Type 0} (honest : Type 0) (words : DiskWords D) where
  module _ (world : World D) (node : ℕ) (old new : RelayState D) (runs : RunsAt world node old)
      (says : TrimSays honest words old new) where
    abbrev pub stays_up : StaysUp honest words world (moved world node old new runs) node
    stays_up = record {
      host = runs.host;
      host_at = runs.host_at;
      before = old.node;
      up = runs.up;
      after = new.node;
      noted = says.rest.4;
      keeps = says.kept;
      config = says.rest.0;
      seats = says.rest.1;
      attempts = says.rest.2;
      hosts = value_put world.hosts node runs.host (host_with runs.host new.node) runs.host_at;
      rest = (refl, refl, refl, refl, length-set world.hosts node (host_with runs.host new.node));
    }

    pub runs_still : RunsAt (moved world node old new runs) node new
    runs_still =
        runs_on world (moved world node old new runs) node old new (host_with runs.host new.node) runs
        (value_put world.hosts node runs.host (host_with runs.host new.node) runs.host_at).at refl refl refl
        says.connections.0 says.connections.1 says.rest.1 says.rest.2

  pub trimming : TrimmingGoesOn honest words
  trimming world node old new runs says =
      (stays_up world node old new runs says, runs_still world node old new runs says)

  trim_of : (old new : RelayState D) → CompactSays honest words old new → TrimSays honest words old new
  trim_of old new says = record { kept = says.kept; rest = says.rest; connections = says.connections }

  pub compacting : CompactingIsAnEvent honest words
  compacting world node old new runs says = (
    record {
      stays = stays_up world node old new runs (trim_of old new says);
      compacts = says.compacts;
      queue = says.rest.3;
    },
    runs_still world node old new runs (trim_of old new says),
  )
