-- Replies of a hop that a relay has read: their octets were used, and the outcome of the attempt is recorded if they
-- ended it.
use Rattle.std.proofs.Common.{inl, inr, ◌≡◌, ◌≢◌, ◌≤◌, ◌<◌, ◌^◌, ◌-◌, ◌++◌, ℕ, false, List, [], Option, None, Some, length, take, refl, sym, subst, ap, ◌∙◌, append-nil, arith}
use Rattle.std.specs.Prelude.{slice_get, slice_set}
use Rattle.std.proofs.lemmas.Bool.Decides.{eqb_tells}
use Rattle.std.proofs.lemmas.List.{append_cancel_left, length-set}
use Rattle.std.proofs.lemmas.Option.{same_Some}
use Rattle.relay_disk.specs.Device.{DiskWords}
use Rattle.relay_routes.specs.declared.config.Config.{Config}
use Rattle.relay_slots.specs.Slots.{slot_at}
use Rattle.relay_book.specs.declared.change.Change.{Change}
use Rattle.relay_records.specs.Records.{Keeps}
use Rattle.relay_report.specs.Report.{reporter_of}
use Rattle.relay_attempts.specs.declared.reply.Replied.{Replied}
use Rattle.relay_attempts.specs.Reply.{IsItsCourse, Makes, Told, told_more}
use Rattle.relay_node.specs.Attempts.{Tells}
use Rattle.relay_node.specs.Attempts as node_words
use Rattle.relay_loop.specs.declared.hops.Answered.{Answered}
use Rattle.relay_loop.specs.Called.{told_of}
use Rattle.relay_loop.specs.Calls.{ReplySays}
use Rattle.relay_loop.specs.Hops.{HandsTo, RepliesBy}
use Rattle.relay_loop.specs.Outboxes.{octets_of, unwritten_at}
use Rattle.relay_loop.specs.Relay.{RelayState}
use Rattle.relay_world.specs.declared.attempt.Attempt.{Attempt}
use Rattle.relay_world.specs.declared.attempt.Fate.TheVariants.{Replied as Ended, Running}
use Rattle.relay_world.specs.declared.line.Line.{Line}
use Rattle.relay_world.specs.declared.link.Link.{Link}
use Rattle.relay_world.specs.Ledger.{left_lines, report_told}
use Rattle.relay_world.specs.Steps.{AttemptOf, HasRead, IsPut, IsPutAt, RecordsRead, read_link, waiting_down}
use Rattle.relay_world.specs.World.{Host, Up, World, link_at}
use Rattle.relay_daemon.specs.Events.{ReplyingReads}
use Rattle.relay_daemon.specs.Runs.{ReachesHop, RunsAt, host_with, host_with_note}
use Rattle.relay_daemon.proofs.HearLemmas.{whole_written}
use Rattle.relay_daemon.proofs.LoseLemmas.{TellsThere, one_running, tells_there}
use Rattle.relay_daemon.proofs.MoveLemmas.{client_moved, hop_beside, not_both}
use Rattle.relay_daemon.proofs.PutLemmas.{link_put, value_put}

-- what was written: the last octets, or what is unwritten now
abbrev pub outs : List ℕ → Option (List ℕ) → List ℕ
outs unwritten None = unwritten
outs unwritten (Some last) = last

outs_short : (unwritten : List ℕ) (last : Option (List ℕ)) → length unwritten < 2 ^ 63
    → ((octets : List ℕ) → last ≡ Some octets → length octets < 2 ^ 63) → length (outs unwritten last) < 2 ^ 63
outs_short unwritten None short shorts = short
outs_short unwritten (Some last) short shorts = shorts last refl

module _ {D : Type 0} (honest : Type 0) (words : DiskWords D) where
  module _ (world : World D) (node slot : ℕ) (octets : List ℕ) (answered : Answered) (old new : RelayState D)
      (runs : RunsAt world node old) (reaches : ReachesHop world node slot [])
      (connected : slot_at old.hops slot ≡ Some [])
      (carried : waiting_down (length octets) reaches.link ≡ octets)
      (knows : TellsThere honest words old.node slot)
      (says : ReplySays honest words old new world.clock slot octets answered) where
    none_unwritten : unwritten_at old.hops slot ≡ []
    none_unwritten = ap octets_of connected

    abbrev out : List ℕ
    out = outs (unwritten_at new.hops slot) answered.last

    abbrev replied : Replied
    replied = record {
      used = answered.used;
      out = record {
        ptr = reaches.attempt.places.ptr;
        len = length out;
        cap = length out;
        alloc = reaches.attempt.places.alloc;
        items = out;
        ok = (refl, omega arith);
        small = outs_short (unwritten_at new.hops slot) answered.last says.short says.short_last;
      };
      change = answered.change;
    }

    abbrev its_link : Link
    its_link = read_link reaches.link replied

    abbrev its : AttemptOf world reaches.attempt.link
    its = record {
      link = reaches.link;
      link_is = reaches.link_is;
      place = reaches.place;
      client = reaches.client;
      attempt = reaches.attempt;
      attempt_at = reaches.attempt_at;
      slot = slot;
      runs = reaches.has.runs;
      host = runs.host;
      host_at = subst (λ n. slice_get world.hosts n ≡ Some runs.host) (sym reaches.has.its_node) runs.host_at;
      before = old.node;
      up = runs.up;
    }

    -- what the relay's contract says, of what the node has returned
    turn : (changes : List Change) (told : Told) (change : Option ℕ)
        → Makes words (reporter_of old.node.config) world.clock slot old.node.attempts new.node.attempts
        old.node.records new.node.records change
        → RepliesBy honest words changes slot world.clock told told.output octets old new answered change
        → node_words.RepliesBy honest words (reporter_of old.node.config) world.clock changes slot told octets old.node
        new.node replied change
    turn changes told None makes hands =
        let waits : hands.out ≡ hands.hands.waiting =
        append_cancel_left told.output hands.out hands.hands.waiting hands.hands.output in
        let same : hands.out ≡ out = waits ∙ sym (ap octets_of hands.hands.connection)
        ∙ sym (ap (λ l. outs (unwritten_at new.hops slot) l) hands.last) in
        record {
          used = hands.used;
          same = hands.same;
          tells = subst
              (λ o. Tells old.node.config.host changes new.node.attempts slot
              (told_more told (take answered.used octets) o)) same
              (subst (λ (c : Config). Tells c.host changes new.node.attempts slot
              (told_more told (take answered.used octets) hands.out)) says.only.config hands.hands.tells);
        }
    turn changes told (Some change) makes hands = record {
      verdicts = hands.verdicts;
      course = subst
          (λ o. IsItsCourse old.node.config.host (told_more told (take answered.used octets) o) false hands.verdicts)
          (sym (ap (λ l. outs (unwritten_at new.hops slot) l) hands.last_is)) hands.course;
      adds = hands.adds;
      calls = makes.grows.grows.calls;
      gone = hands.gone;
    }

    hands_to : (changes : List Change) (told : Told)
        → Tells old.node.config.host changes old.node.attempts slot told → HandsTo changes old slot told told.output
    hands_to changes told tells =
        record { tells = tells; waiting = []; connection = connected; output = sym (append-nil told.output) }

    turned : (changes : List Change) (told : Told) → Keeps honest words old.node.records changes
        → Tells old.node.config.host changes old.node.attempts slot told
        → node_words.RepliesBy honest words (reporter_of old.node.config) world.clock changes slot told octets old.node
        new.node replied answered.change
    turned changes told keeps tells =
        turn changes told answered.change (says.used.makes none_unwritten)
        (says.replies changes told told.output keeps (hands_to changes told tells) none_unwritten)

    abbrev next_world : Host D → List Line → List Attempt → World D
    next_world host ledger attempts = record world {
      hosts = slice_set world.hosts node host;
      links = slice_set world.links (reaches.attempt.link - 1) its_link;
      ledger = ledger;
      attempts = attempts;
    }

    -- what becomes of the host, the ledger and the attempts by what was recorded
    record Made (change : Option ℕ) : Type 0 where
      host : Host D
      up : host.state ≡ Up (told_of change new).node
      ledger : List Line
      attempts : List Attempt
      records : RecordsRead world (next_world host ledger attempts) reaches.attempt.link its new.node change
      goes_on : (waiting : List ℕ) → slot_at new.hops slot ≡ Some waiting
          → (slice_get attempts reaches.place ≡ Some reaches.attempt) × (out ≡ waiting)
      is_over : slot_at new.hops slot ≡ None → slot_at new.node.attempts slot ≡ None
      others : (place : ℕ) → place ≢ reaches.place → slice_get attempts place ≡ slice_get world.attempts place

    host_put : (host : Host D) → IsPut world.hosts (slice_set world.hosts node host) its.attempt.node host
    host_put host =
        subst (λ n. IsPut world.hosts (slice_set world.hosts node host) n host) (sym reaches.has.its_node)
        (value_put world.hosts node runs.host host runs.host_at)

    made : (change : Option ℕ)
        → RepliesBy honest words knows.changes slot world.clock knows.told knows.told.output octets old new answered
        change
        → Made change
    made None hands = record {
      host = host_with runs.host new.node;
      up = refl;
      ledger = world.ledger;
      attempts = world.attempts;
      records = (host_put (host_with runs.host new.node), refl, refl);
      goes_on = λ waiting is. (
        reaches.attempt_at,
        ap (λ l. outs (unwritten_at new.hops slot) l) hands.last ∙ ap octets_of is,
      );
      is_over = λ none. absurd (not_both (slot_at new.hops slot) hands.hands.waiting none hands.hands.connection);
      others = λ place off. refl;
    }
    made (Some change) hands = record {
      host = host_with_note runs.host new.node hands.adds.adds.noted.note;
      up = refl;
      ledger = world.ledger
          ++ left_lines reaches.attempt.node reaches.attempt.message reaches.attempt.link
          (report_told change hands.adds.adds.noted.note.report) hands.adds.adds.noted.note.left.items;
      attempts = slice_set world.attempts reaches.place (record reaches.attempt { fate = Ended change });
      records = record {
        noted = hands.adds.adds.noted.note;
        note_is = hands.adds.adds.noted.is;
        hosts = host_put (host_with_note runs.host new.node hands.adds.adds.noted.note);
        ledger = refl;
        attempts = value_put world.attempts reaches.place reaches.attempt
            (record reaches.attempt { fate = Ended change }) reaches.attempt_at;
      };
      goes_on = λ waiting is. absurd (not_both (slot_at new.hops slot) waiting hands.connection is);
      is_over = λ none. hands.gone;
      others = (value_put world.attempts reaches.place reaches.attempt
          (record reaches.attempt { fate = Ended change }) reaches.attempt_at).others;
    }

    it : Made answered.change
    it =
        made answered.change
        (says.replies knows.changes knows.told knows.told.output knows.keeps
        (hands_to knows.changes knows.told knows.tells) none_unwritten)

    abbrev its_world : World D
    its_world = next_world it.host it.ledger it.attempts

    put : IsPutAt world.links its_world.links reaches.attempt.link its_link
    put = link_put world.links reaches.attempt.link reaches.link its_link reaches.link_is

    read_event : HasRead honest words world its_world reaches.attempt.link (length octets)
    read_event = record {
      of = its;
      after = new.node;
      replied = replied;
      replies = λ changes told keeps tells.
          subst (λ o. node_words.RepliesBy honest words (reporter_of old.node.config) world.clock changes slot told o
          old.node new.node replied answered.change) (sym carried) (turned changes told keeps tells);
      used = subst (λ o. answered.used ≤ length o) (sym carried) says.used.within;
      others = says.only.attempts;
      config = says.only.config;
      seats = says.only.seats;
      links = put;
      records = it.records;
      rest = (refl, length-set world.hosts node it.host);
    }

    hop_new : (other : ℕ) (waiting : List ℕ) → other ≡ slot → slot_at new.hops other ≡ Some waiting
        → ReachesHop its_world node other waiting
    hop_new other waiting same is =
        let goes_on = it.goes_on waiting (ap (λ n. slot_at new.hops n) (sym same) ∙ is) in
        record {
          place = reaches.place;
          attempt = reaches.attempt;
          attempt_at = goes_on.0;
          has = record {
            its_node = reaches.has.its_node;
            runs = subst (λ n. reaches.attempt.fate ≡ Running n) (sym same) reaches.has.runs;
          };
          link = its_link;
          link_is = put.at;
          client = reaches.client;
          unwritten = λ whole. (
            reaches.link.up,
            ap (λ (o : List ℕ). reaches.link.up ++ o) (whole_written reaches.link out whole ∙ goes_on.1),
          );
        }

    off_place : (other : ℕ) (waiting : List ℕ) → other ≢ slot → (first : ReachesHop world node other waiting)
        → first.place ≢ reaches.place
    off_place other waiting off first same = off (one_running world node other slot waiting [] first reaches same)

    off_link : (other : ℕ) (waiting : List ℕ) → other ≢ slot → (first : ReachesHop world node other waiting)
        → first.attempt.link ≢ reaches.attempt.link
    off_link other waiting off first same =
        let link : first.link ≡ reaches.link = same_Some first.link reaches.link
        (sym first.link_is ∙ ap (λ n. link_at world.links n) same ∙ reaches.link_is) in
        off_place other waiting off first
        (same_Some first.place reaches.place
        (sym first.client ∙ ap (λ (l : Link). l.client) link ∙ reaches.client))

    hop_there : (other : ℕ) (waiting : List ℕ) → slot_at new.hops other ≡ Some waiting
        → ReachesHop its_world node other waiting
    hop_there other waiting is =
        elim (eqb_tells other slot) [
          | inl same ↦ hop_new other waiting same.1 is
          | inr off ↦
              let first = runs.hops other waiting (sym (says.only.hops other off.1) ∙ is) in
              hop_beside world its_world node other waiting reaches.attempt.link its_link put first
              (it.others first.place (off_place other waiting off.1 first)) (off_link other waiting off.1 first)
        ]

    run_there : (other : ℕ) → slot_at new.hops other ≡ None → slot_at new.node.attempts other ≡ None
    run_there other none =
        elim (eqb_tells other slot) [
          | inl same ↦
              ap (λ n. slot_at new.node.attempts n) same.1
              ∙ it.is_over (ap (λ n. slot_at new.hops n) (sym same.1) ∙ none)
          | inr off ↦
              says.only.attempts other off.1 ∙ runs.runs other (sym (says.only.hops other off.1) ∙ none)
        ]

    runs_new : RunsAt (record its_world { hosts = slice_set world.hosts node (host_with runs.host new.node) }) node new
    runs_new = record {
      host = host_with runs.host new.node;
      host_at = (value_put world.hosts node runs.host (host_with runs.host new.node) runs.host_at).at;
      up = refl;
      clients = λ session waiting is.
          client_moved world (record its_world { hosts = slice_set world.hosts node (host_with runs.host new.node) }) node
          session waiting reaches.attempt.link reaches.link its_link reaches.link_is put refl refl refl
          (runs.clients session waiting
          (ap (λ (t : List (Option (List ℕ))). slot_at t session) (sym says.only.clients) ∙ is));
      hops = λ other waiting is.
          let there = hop_there other waiting is in
          record {
            place = there.place;
            attempt = there.attempt;
            attempt_at = there.attempt_at;
            has = there.has;
            link = there.link;
            link_is = there.link_is;
            client = there.client;
            unwritten = there.unwritten;
          };
      seats = λ session none.
          ap (λ (t : List (Option _)). slot_at t session) says.only.seats
          ∙ runs.seats session
          (ap (λ (t : List (Option (List ℕ))). slot_at t session) (sym says.only.clients) ∙ none);
      runs = run_there;
    }

    -- taking the note changes nothing of this
    runs_told : (change : Option ℕ) (host : Host D) → host.state ≡ Up (told_of change new).node
        → RunsAt (record its_world { hosts = slice_set world.hosts node host }) node (told_of change new)
    runs_told None host up = record {
      host = host;
      host_at = (value_put world.hosts node runs.host host runs.host_at).at;
      up = up;
      clients = λ session waiting is.
          let there = runs_new.clients session waiting is in
          record {
            number = there.number;
            link = there.link;
            link_is = there.link_is;
            has = there.has;
            unwritten = there.unwritten;
          };
      hops = λ other waiting is.
          let there = runs_new.hops other waiting is in
          record {
            place = there.place;
            attempt = there.attempt;
            attempt_at = there.attempt_at;
            has = there.has;
            link = there.link;
            link_is = there.link_is;
            client = there.client;
            unwritten = there.unwritten;
          };
      seats = runs_new.seats;
      runs = runs_new.runs;
    }
    runs_told (Some change) host up = record {
      host = host;
      host_at = (value_put world.hosts node runs.host host runs.host_at).at;
      up = up;
      clients = λ session waiting is.
          let there = runs_new.clients session waiting is in
          record {
            number = there.number;
            link = there.link;
            link_is = there.link_is;
            has = there.has;
            unwritten = there.unwritten;
          };
      hops = λ other waiting is.
          let there = runs_new.hops other waiting is in
          record {
            place = there.place;
            attempt = there.attempt;
            attempt_at = there.attempt_at;
            has = there.has;
            link = there.link;
            link_is = there.link_is;
            client = there.client;
            unwritten = there.unwritten;
          };
      seats = runs_new.seats;
      runs = runs_new.runs;
    }

    pub read_there : (next : World D) × HasRead honest words world next reaches.attempt.link (length octets)
        × RunsAt next node (told_of answered.change new)
    read_there = (its_world, read_event, runs_told answered.change it.host it.up)

  pub replying : ReplyingReads honest words
  replying world lists node slot octets answered old new runs bound reaches connected carried says =
      read_there world node slot octets answered old new runs reaches connected carried
      (tells_there honest words world lists node slot [] old runs bound reaches) says
