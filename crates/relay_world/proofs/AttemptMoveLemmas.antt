-- An attempt that moves on, or ends, keeps a world bound, where what becomes of it is bound.
use Rattle.std.proofs.Common.{inl, inr, ◌≡◌, ◌≢◌, ◌≤◌, ℕ, true, List, [], ◌++◌, length, take, Option, None, Some, refl, sym, subst, ap, ◌∙◌}
use Rattle.std.specs.Prelude.{slice_get}
use Rattle.std.specs.List.{AllByRecursion}
use Rattle.std.proofs.lemmas.Option.{same_Some}
use Rattle.relay_octets.specs.Beginning.{Begins}
use Rattle.relay_disk.specs.Device.{DiskWords}
use Rattle.relay_server.specs.Dialogue.{Said}
use Rattle.relay_book.specs.declared.change.Change.{Change}
use Rattle.relay_meeting.specs.Joined.{output_with}
use Rattle.relay_attempts.specs.Reply.{Told}
use Rattle.relay_node.specs.Attempts.{Tells}
use Rattle.relay_node.specs.Node.{SeatHasSaid, NodeState}
use Rattle.relay_world.specs.declared.attempt.Attempt.{Attempt}
use Rattle.relay_world.specs.declared.attempt.Fate.{Fate}
use Rattle.relay_world.specs.declared.attempt.Fate.TheVariants.{Running}
use Rattle.relay_world.specs.declared.link.Link.{Link}
use Rattle.relay_world.specs.declared.link.ServerEnd.{ServerEnd}
use Rattle.relay_world.specs.Bound.{HasLink, HasSlot, HostKeeps, IsBound, IsServed, IsTried, PassesOn, ReadsWithin, SaysThere, link_of}
use Rattle.relay_world.specs.Ledger.{accepts_on, steps_in, steps_of}
use Rattle.relay_world.specs.Steps.{AttemptOf, IsPut, IsPutAt}
use Rattle.relay_world.specs.World.{Host, Up, World, link_at}
use Rattle.relay_world.proofs.FrameLemmas.{ChangesStay, MessagesStay, TellsOn}
use Rattle.relay_world.proofs.PieceLemmas.{read_stays}
use Rattle.relay_world.proofs.AttemptLemmas.{KnowsAttempt, other_place, other_slot}
use Rattle.std.proofs.lemmas.List.{append-nil}
use Rattle.relay_world.proofs.MoveLemmas.{link_cases, client_was, link_kept, Joins, Moves, Settled, moved_keeps, put_cases, still_served}
use Rattle.relay_world.proofs.UndecidedLemmas.{up_not_down}
use Rattle.relay_world.proofs.OpenLemmas.{same_Up}

module _ {D : Type 0} (honest : Type 0) (words : DiskWords D) (old new : World D) (lists later : List (List Change)) (number : ℕ)
    (bound : IsBound honest words old lists) (of : AttemptOf old number) (knows : KnowsAttempt honest words old lists number of)
    (link : Link) (more : List ℕ) (after : NodeState D) (records : List (List ℕ)) (grown : List Change) (fate : Fate) where
  abbrev moved : Host D
  moved = record of.host { state = Up after; records = records }

  abbrev attempt_now : Attempt
  attempt_now = record of.attempt { fate = fate }

  -- what an event did to the attempt, its node and its link
  pub record AttemptMoves : Type 0 where
    pub client : link.client ≡ of.link.client
    pub server : link.server ≡ of.link.server
    pub up : link.up ≡ of.link.up ++ more
    pub silent : of.link.broken ≡ true → more ≡ []
    pub up_read : link.up_read ≡ of.link.up_read
    pub down : link.down ≡ of.link.down
    pub broken : link.broken ≡ of.link.broken
    pub reads : ReadsWithin link
    pub links : IsPutAt old.links new.links number link
    pub attempts : IsPut old.attempts new.attempts of.place attempt_now
    pub runs : (slot : ℕ) → fate ≡ Running slot → of.attempt.fate ≡ Running slot
    pub hosts : IsPut old.hosts new.hosts of.attempt.node moved
    pub list : IsPut lists later of.attempt.node grown
    pub even : length later ≡ length new.hosts
    pub stay : ChangesStay knows.changes grown
    pub messages : MessagesStay knows.changes grown
    pub keeps : HostKeeps honest words moved grown
    pub seats : after.seats ≡ of.before.seats
    pub tells : (slot : ℕ) (told : Told) → slot ≢ of.slot
        → Tells of.host.config.host knows.changes of.before.attempts slot told
        → Tells of.host.config.host grown after.attempts slot told
    pub accepts : (other : ℕ) → accepts_on other new.ledger ≡ accepts_on other old.ledger
    pub steps : steps_in of.attempt.node new.ledger ≡ steps_of grown
    pub other_steps : (other : ℕ) → other ≢ of.attempt.node → steps_in other new.ledger ≡ steps_in other old.ledger
    pub lines : AllByRecursion (λ line. link_of line ≤ length new.links) new.ledger
    pub passes : PassesOn moved grown link attempt_now

  module _ (moves : AttemptMoves) where
    -- a session of the node says what it said
    still_says : (session : Option ℕ) (peer : List ℕ) (said : Said) → SaysThere of.host session peer said
        → SaysThere moved session peer said
    still_says None peer said says = says
    still_says (Some session) peer said says = (
      after,
      refl,
      subst (λ l. SeatHasSaid of.host.config l session peer said) (sym moves.seats)
          (subst (λ (n : NodeState D). SeatHasSaid of.host.config n.seats session peer said)
          (same_Up says.0 of.before (sym says.1 ∙ of.up)) says.2),
    )

    others_tell : (place : ℕ) (attempt : Attempt) (slot : ℕ) → slice_get old.attempts place ≡ Some attempt
        → attempt.link ≢ number → HasSlot attempt of.attempt.node slot → TellsOn of.host moved knows.changes grown slot
    others_tell place attempt slot at off has told is =
        let elsewhere = other_place honest words old lists number bound of place attempt at off in (
          after,
          refl,
          moves.tells slot told (other_slot honest words old lists number bound of place attempt slot elsewhere at has)
              (subst (λ (n : NodeState D). Tells of.host.config.host knows.changes n.attempts slot told)
              (same_Up is.0 of.before (sym is.1 ∙ of.up)) is.2),
        )

    world_moves : Moves honest words old new lists later of.attempt.node number of.host moved knows.changes grown link
    world_moves = record {
      stands = record { host_at = of.host_at; list_at = knows.list_at };
      hosts = moves.hosts;
      even = moves.even;
      list = moves.list;
      links = link_cases old.links new.links number link moves.links;
      stays = moves.links.others;
      attempts = λ place attempt at off.
          moves.attempts.others place (other_place honest words old lists number bound of place attempt at off) ∙ at;
      config = refl;
      stay = moves.stay;
      messages = moves.messages;
      accepts = λ other off. moves.accepts other;
      steps = moves.steps;
      other_steps = moves.other_steps;
      lines = moves.lines;
      says = λ other its session off is has peer said says. still_says (Some session) peer said says;
      tells = others_tell;
      keeps = moves.keeps;
    }

    -- the server end of the link, where a node serves it
    serves_now : (end : ServerEnd) → IsServed new later number of.link end → IsServed new later number link end
    serves_now end served = record {
      host = served.host;
      changes = served.changes;
      stands = served.stands;
      serves = record {
        said = served.serves.said;
        dialogue = served.serves.dialogue;
        numbered = served.serves.numbered;
        answered = served.serves.answered;
        input = served.serves.input ∙ read_stays of.link.up_read of.link.up more (bound.reads number of.link of.link_is).up
            ∙ ap (λ l. take of.link.up_read l) (sym moves.up) ∙ ap (λ n. take n link.up) (sym moves.up_read);
        closing = served.serves.closing;
        closes = served.serves.closes;
        closed = served.serves.closed;
        wrote = subst (λ l. Begins l (output_with served.serves.said.output served.serves.closing)) (sym moves.down)
            served.serves.wrote;
        whole = λ is. moves.down ∙ served.serves.whole (sym moves.broken ∙ is);
        accepts = served.serves.accepts;
        stored = served.serves.stored;
        live = served.serves.live;
      };
    }

    slots_by : (one other : ℕ) (attempt others : Attempt) (at slot : ℕ) → slice_get new.attempts one ≡ Some attempt
        → slice_get new.attempts other ≡ Some others → HasSlot attempt at slot → HasSlot others at slot → one ≡ other
    slots_by one other attempt others at slot first second mine yours =
        let a = slot_before one attempt at slot first mine in
        let b = slot_before other others at slot second yours in
        bound.slots one other a.0 b.0 at slot a.1 b.1 a.2 b.2
      where
        slot_before : (place : ℕ) (attempt : Attempt) (at slot : ℕ) → slice_get new.attempts place ≡ Some attempt
            → HasSlot attempt at slot → (was : Attempt) × (slice_get old.attempts place ≡ Some was) × HasSlot was at slot
        slot_before place attempt at slot is has =
            elim (put_cases old.attempts new.attempts of.place attempt_now moves.attempts place attempt is) [
              | inl here ↦ (
                of.attempt,
                ap (λ n. slice_get old.attempts n) here.0 ∙ of.attempt_at,
                record {
                  its_node = ap (λ (a : Attempt). a.node) here.1 ∙ has.its_node;
                  runs = moves.runs slot (ap (λ (a : Attempt). a.fate) here.1 ∙ has.runs);
                },
              )
              | inr there ↦ (attempt, there.1, has)
            ]

    kept_link : (place : ℕ) (attempt : Attempt) → slice_get old.attempts place ≡ Some attempt → HasLink new.links place attempt
    kept_link place attempt at =
        link_kept old.links new.links number link moves.links
        (client_was old.links number of.link of.link_is link.client moves.client) place attempt (bound.attempts place attempt at)

    -- on a link that was broken nothing more is written, and the server end stays; the client end is the attempt's
    settled : of.link.broken ≡ true
        → Settled honest words old new lists later of.attempt.node number of.host moved knows.changes grown link of.link
    settled broken = record {
      serves = λ end serves off ended. record {
        now = link;
        now_is = moves.links.at;
        stays = record {
          server = moves.server ∙ serves;
          up = moves.up ∙ ap (λ l. of.link.up ++ l) (moves.silent broken) ∙ append-nil of.link.up;
          up_read = moves.up_read;
          down = moves.down;
          broken = moves.broken ∙ broken;
        };
        accepts = moves.accepts number;
      };
      tries = λ place attempt client at off dropped.
          absurd (off (ap (λ (a : Attempt). a.node) (same_Some attempt of.attempt (sym at
          ∙ ap (λ p. slice_get old.attempts p) (same_Some place of.place (sym client ∙ of.client)) ∙ of.attempt_at))));
    }

    joins : Joins honest words old new lists later of.attempt.node number of.host moved knows.changes grown link
    joins = record {
      served = λ end serves. serves_now end
          (still_served honest words old new lists later of.attempt.node number of.host moved knows.changes grown link bound
          world_moves number of.link end of.link_is (sym moves.server ∙ serves) (moves.accepts number)
          (λ same said says. still_says end.session end.peer said says));
      tried = λ place client.
          let same : of.place ≡ place = same_Some of.place place (sym of.client ∙ sym moves.client ∙ client) in
          subst (λ p. IsTried new later number link p) same (record {
            attempt = attempt_now;
            attempt_at = moves.attempts.at;
            its_link = knows.its_link;
            host = moved;
            changes = grown;
            stands = record { host_at = moves.hosts.at; list_at = moves.list.at };
            passes = moves.passes;
          });
      reads = moves.reads;
      slots = slots_by;
      attempts = λ place attempt at.
          elim (put_cases old.attempts new.attempts of.place attempt_now moves.attempts place attempt at) [
            | inl here ↦
                let has : HasLink new.links of.place of.attempt = kept_link of.place of.attempt of.attempt_at in
                record {
                  link = has.link;
                  is_there = ap (λ (a : Attempt). link_at new.links a.link) (sym here.1) ∙ has.is_there;
                  client = has.client ∙ ap (λ p. Some p) (sym here.0);
                }
            | inr there ↦ kept_link place attempt there.1
          ];
      apart = λ other its at session off is mine yours.
          off (bound.sessions other number its of.link at session is of.link_is mine
          (record {
            end = yours.end;
            serves = sym moves.server ∙ yours.serves;
            its_node = yours.its_node;
            its_session = yours.its_session;
          }));
      settled = λ was there broken.
          let same : of.link ≡ was = same_Some of.link was (sym of.link_is ∙ there) in
          subst (λ l. Settled honest words old new lists later of.attempt.node number of.host moved knows.changes grown link l) same
          (settled (ap (λ (l : Link). l.broken) same ∙ broken));
      may_be_in = λ disk undecided down. absurd (up_not_down after disk (Some undecided) down);
    }

    pub attempt_moved : IsBound honest words new later
    attempt_moved =
        moved_keeps honest words old new lists later of.attempt.node number of.host moved knows.changes grown link bound
        world_moves joins
