-- A relay whose node was left alone.
use Rattle.std.proofs.Common.{ℕ, List, ◌∙◌}
use Rattle.relay_world.specs.declared.link.Link.{Link}
use Rattle.relay_world.specs.Bound.{HasSession}
use Rattle.relay_world.specs.World.{World}
use Rattle.relay_daemon.specs.Elsewhere.{ClientStays, LeavesAlone, LeavingAloneGoesOn, LeftAloneRunsOn, ServerStays}
use Rattle.relay_daemon.specs.Runs.{ReachesHop, ServesClient}

module _ {D : Type 0} where
  client_alone : (old new : World D) (node session : ℕ) (waiting : List ℕ) → LeavesAlone old new node
      → ServesClient old node session waiting → ServesClient new node session waiting
  client_alone old new node session waiting alone serves =
      let there = alone.sessions serves.number session serves.link serves.link_is serves.has in
      record {
        number = serves.number;
        link = there.0;
        link_is = there.1;
        has = record {
          end = serves.has.end;
          serves = there.2.server ∙ serves.has.serves;
          its_node = serves.has.its_node;
          its_session = serves.has.its_session;
        };
        unwritten = λ whole.
            let was = there.2.whole whole in
            let ends = serves.unwritten was.0 in
            (ends.0, was.1 ∙ ends.1);
      }

  hop_alone : (old new : World D) (node slot : ℕ) (waiting : List ℕ) → LeavesAlone old new node
      → ReachesHop old node slot waiting → ReachesHop new node slot waiting
  hop_alone old new node slot waiting alone reaches =
      let there = alone.hops reaches.place slot reaches.attempt reaches.link reaches.attempt_at reaches.has
      reaches.link_is reaches.client in
      record {
        place = reaches.place;
        attempt = reaches.attempt;
        attempt_at = alone.attempts reaches.place slot reaches.attempt reaches.attempt_at reaches.has;
        has = reaches.has;
        link = there.0;
        link_is = there.1;
        client = there.2.client ∙ reaches.client;
        unwritten = λ whole.
            let was = there.2.whole whole in
            let ends = reaches.unwritten was.0 in
            (ends.0, was.1 ∙ ends.1);
      }

  pub alone_runs_on : LeftAloneRunsOn D
  alone_runs_on old new node relay runs alone = record {
    host = runs.host;
    host_at = alone.host ∙ runs.host_at;
    up = runs.up;
    clients = λ session waiting is. client_alone old new node session waiting alone (runs.clients session waiting is);
    hops = λ slot waiting is. hop_alone old new node slot waiting alone (runs.hops slot waiting is);
    seats = runs.seats;
    runs = runs.runs;
  }

  -- a node that is left alone, and then again, is left alone
  pub alone_both : LeavingAloneGoesOn D
  alone_both old mid new node first second = record {
    host = second.host ∙ first.host;
    sessions = λ number session link is has.
        let one = first.sessions number session link is has in
        let other = second.sessions number session one.0 one.1 (session_stays link one.0 session one.2 has) in (
          other.0,
          other.1,
          server_both link one.0 other.0 one.2 other.2,
        );
    attempts = λ place slot attempt is has.
        second.attempts place slot attempt (first.attempts place slot attempt is has) has;
    hops = λ place slot attempt link is has there client.
        let one = first.hops place slot attempt link is has there client in
        let other = second.hops place slot attempt one.0 (first.attempts place slot attempt is has) has one.1
        (one.2.client ∙ client) in (
          other.0,
          other.1,
          client_both link one.0 other.0 one.2 other.2,
        );
  }
    where
      session_stays : (was its : Link) (session : ℕ) → ServerStays was its → HasSession was node session
          → HasSession its node session
      session_stays was its session stays has = record {
        end = has.end;
        serves = stays.server ∙ has.serves;
        its_node = has.its_node;
        its_session = has.its_session;
      }

      server_both : (was its then : Link) → ServerStays was its → ServerStays its then → ServerStays was then
      server_both was its then one other = record {
        server = other.server ∙ one.server;
        whole = λ whole.
            let late = other.whole whole in
            let early = one.whole late.0 in
            (early.0, late.1 ∙ early.1);
      }

      client_both : (was its then : Link) → ClientStays was its → ClientStays its then → ClientStays was then
      client_both was its then one other = record {
        client = other.client ∙ one.client;
        whole = λ whole.
            let late = other.whole whole in
            let early = one.whole late.0 in
            (early.0, late.1 ∙ early.1);
      }
