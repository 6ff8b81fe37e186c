-- Replies of a hop that a relay has read in a group: their octets were used, and the outcome of the attempt is staged if
-- they ended it.
use Rattle.std.proofs.Common.{inl, inr, ◌≡◌, ◌≢◌, ◌≤◌, ◌-◌, ◌++◌, ◌∷◌, ℕ, List, [], Option, None, Some, length, refl, sym, subst, ap, ◌∙◌}
use Rattle.std.specs.Prelude.{slice_get, slice_set}
use Rattle.std.proofs.lemmas.Bool.Decides.{eqb_tells}
use Rattle.std.proofs.lemmas.List.{length-set}
use Rattle.std.proofs.lemmas.Option.{same_Some}
use Rattle.relay_disk.specs.Device.{DiskWords}
use Rattle.relay_slots.specs.Slots.{slot_at}
use Rattle.relay_records.specs.Staged.{Row}
use Rattle.relay_report.specs.Report.{reporter_of}
use Rattle.relay_node.specs.StagedReplies.{RepliesInto}
use Rattle.relay_loop.specs.declared.hops.Answered.{Answered}
use Rattle.relay_loop.specs.declared.replying.ReplyPiece.{ReplyPiece}
use Rattle.relay_loop.specs.GroupCalls.{TakesReply}
use Rattle.relay_loop.specs.Hops.{IsSetTo}
use Rattle.relay_loop.specs.Relay.{OnlyHop, RelayState}
use Rattle.relay_world.specs.declared.attempt.Attempt.{Attempt}
use Rattle.relay_world.specs.declared.attempt.Fate.TheVariants.{Replied as RepliedBy, Running}
use Rattle.relay_world.specs.declared.line.Line.{Line}
use Rattle.relay_world.specs.declared.link.Link.{Link}
use Rattle.relay_world.specs.Groups.{HasReadInto, OutcomeInto}
use Rattle.relay_world.specs.Ledger.{left_lines, report_told}
use Rattle.relay_world.specs.Steps.{AttemptOf, IsPut, IsPutAt, read_link}
use Rattle.relay_world.specs.World.{Host, Up, World, link_at}
use Rattle.relay_daemon.specs.Events.{ReadingIntoReads}
use Rattle.relay_daemon.specs.Given.{HopWrote, KnowsAttempt}
use Rattle.relay_daemon.specs.Runs.{ReachesHop, RunsAt, host_with}
use Rattle.relay_daemon.proofs.HearLemmas.{whole_written}
use Rattle.relay_daemon.proofs.LoseLemmas.{one_running}
use Rattle.relay_daemon.proofs.MoveLemmas.{client_moved, hop_beside, not_both}
use Rattle.relay_daemon.proofs.PutLemmas.{link_put, value_put}

module _ {D : Type 0} (honest : Type 0) (words : DiskWords D) where
  module _ (world : World D) (node at : ℕ) (reply : ReplyPiece) (row left : Row) (answered : Answered)
      (old new : RelayState D) (runs : RunsAt world node old)
      (wrote : HopWrote world node reply.attempt reply.octets.now)
      (knows : KnowsAttempt honest words old row reply.attempt)
      (says : TakesReply honest words at old row new left reply answered) (only : OnlyHop old new reply.attempt) where
    abbrev slot : ℕ
    slot = reply.attempt

    abbrev octets : List ℕ
    octets = reply.octets.now

    abbrev reaches : ReachesHop world node slot []
    reaches = wrote.reaches

    abbrev out : List ℕ
    out = says.replied.out.items

    abbrev its_link : Link
    its_link = read_link reaches.link says.replied

    abbrev its : AttemptOf world reaches.attempt.link
    its = record {
      link = reaches.link;
      link_is = reaches.link_is;
      place = reaches.place;
      client = reaches.client;
      attempt = reaches.attempt;
      attempt_at = reaches.attempt_at;
      slot = slot;
      runs = reaches.has.runs;
      host = runs.host;
      host_at = subst (λ n. slice_get world.hosts n ≡ Some runs.host) (sym reaches.has.its_node) runs.host_at;
      before = old.node;
      up = runs.up;
    }

    abbrev next_world : Host D → List Line → List Attempt → World D
    next_world host ledger attempts = record world {
      hosts = slice_set world.hosts node host;
      links = slice_set world.links (reaches.attempt.link - 1) its_link;
      ledger = ledger;
      attempts = attempts;
    }

    -- what becomes of the host, the ledger and the attempts by what was staged
    record Made (change : Option ℕ) : Type 0 where
      host : Host D
      up : host.state ≡ Up new.node
      ledger : List Line
      attempts : List Attempt
      outcome : OutcomeInto honest words world (next_world host ledger attempts) reaches.attempt.link its new.node row
          left change
      goes_on : (waiting : List ℕ) → slot_at new.hops slot ≡ Some waiting
          → (slice_get attempts reaches.place ≡ Some reaches.attempt) × (out ≡ waiting)
      is_over : slot_at new.hops slot ≡ None → slot_at new.node.attempts slot ≡ None
      others : (place : ℕ) → place ≢ reaches.place → slice_get attempts place ≡ slice_get world.attempts place

    host_put : (host : Host D) → IsPut world.hosts (slice_set world.hosts node host) its.attempt.node host
    host_put host =
        subst (λ n. IsPut world.hosts (slice_set world.hosts node host) n host) (sym reaches.has.its_node)
        (value_put world.hosts node runs.host host runs.host_at)

    made : (change : Option ℕ) → IsSetTo change slot out answered.last new.hops
        → RepliesInto honest words (reporter_of old.node.config) at knows.changes knows.pending slot knows.told row
        octets old.node new.node left says.replied change
        → Made change
    made None set replies = record {
      host = host_with runs.host new.node;
      up = refl;
      ledger = world.ledger;
      attempts = world.attempts;
      outcome = (host_put (host_with runs.host new.node), refl, refl);
      goes_on = λ waiting is. (reaches.attempt_at, same_Some out waiting (sym set.0 ∙ is));
      is_over = λ none. absurd (not_both (slot_at new.hops slot) out none set.0);
      others = λ place off. refl;
    }
    made (Some change) set replies = record {
      host = record (host_with runs.host new.node) { records = runs.host.records ++ replies.stages.note.octets ∷ [] };
      up = refl;
      ledger = world.ledger
          ++ left_lines reaches.attempt.node reaches.attempt.message reaches.attempt.link
          (report_told change replies.stages.note.report) replies.stages.note.left.items;
      attempts = slice_set world.attempts reaches.place (record reaches.attempt { fate = RepliedBy change });
      outcome = record {
        noted = replies.stages.note;
        is_noted = λ changes pending awaits. replies.stages.noted;
        hosts = host_put (record (host_with runs.host new.node) {
          records = runs.host.records ++ replies.stages.note.octets ∷ [];
        });
        ledger = refl;
        attempts = value_put world.attempts reaches.place reaches.attempt
            (record reaches.attempt { fate = RepliedBy change }) reaches.attempt_at;
      };
      goes_on = λ waiting is. absurd (not_both (slot_at new.hops slot) waiting set.0 is);
      is_over = λ none. replies.gone;
      others = (value_put world.attempts reaches.place reaches.attempt
          (record reaches.attempt { fate = RepliedBy change }) reaches.attempt_at).others;
    }

    it : Made says.replied.change
    it =
        made says.replied.change says.set
        (says.replies knows.changes knows.pending knows.told knows.awaits knows.tells)

    abbrev its_world : World D
    its_world = next_world it.host it.ledger it.attempts

    put : IsPutAt world.links its_world.links reaches.attempt.link its_link
    put = link_put world.links reaches.attempt.link reaches.link its_link reaches.link_is

    read_event : HasReadInto honest words at world its_world node
        (record { number = reaches.attempt.link; count = length octets }) row left
    read_event = record {
      of = its;
      its_node = reaches.has.its_node;
      after = new.node;
      replied = says.replied;
      replies = λ changes pending told awaits tells.
          subst (λ o. RepliesInto honest words (reporter_of old.node.config) at changes pending slot told row o old.node
          new.node left says.replied says.replied.change) (sym wrote.unread)
          (says.replies changes pending told awaits tells);
      used = subst (λ o. says.replied.used ≤ length o) (sym wrote.unread) says.uses.within;
      others = only.attempts;
      config = only.config;
      seats = only.seats;
      links = put;
      outcome = it.outcome;
      rest = (refl, length-set world.hosts node it.host);
    }

    hop_new : (other : ℕ) (waiting : List ℕ) → other ≡ slot → slot_at new.hops other ≡ Some waiting
        → ReachesHop its_world node other waiting
    hop_new other waiting same is =
        let goes_on = it.goes_on waiting (ap (λ n. slot_at new.hops n) (sym same) ∙ is) in
        record {
          place = reaches.place;
          attempt = reaches.attempt;
          attempt_at = goes_on.0;
          has = record {
            its_node = reaches.has.its_node;
            runs = subst (λ n. reaches.attempt.fate ≡ Running n) (sym same) reaches.has.runs;
          };
          link = its_link;
          link_is = put.at;
          client = reaches.client;
          unwritten = λ whole. (
            reaches.link.up,
            ap (λ (o : List ℕ). reaches.link.up ++ o) (whole_written reaches.link out whole ∙ goes_on.1),
          );
        }

    -- another attempt's connection is another attempt of the world, on another link
    off_place : (other : ℕ) (waiting : List ℕ) → other ≢ slot → (first : ReachesHop world node other waiting)
        → first.place ≢ reaches.place
    off_place other waiting off first same = off (one_running world node other slot waiting [] first reaches same)

    off_link : (other : ℕ) (waiting : List ℕ) → other ≢ slot → (first : ReachesHop world node other waiting)
        → first.attempt.link ≢ reaches.attempt.link
    off_link other waiting off first same =
        let link : first.link ≡ reaches.link = same_Some first.link reaches.link
        (sym first.link_is ∙ ap (λ n. link_at world.links n) same ∙ reaches.link_is) in
        off_place other waiting off first
        (same_Some first.place reaches.place
        (sym first.client ∙ ap (λ (l : Link). l.client) link ∙ reaches.client))

    hop_there : (other : ℕ) (waiting : List ℕ) → slot_at new.hops other ≡ Some waiting
        → ReachesHop its_world node other waiting
    hop_there other waiting is =
        elim (eqb_tells other slot) [
          | inl same ↦ hop_new other waiting same.1 is
          | inr off ↦
              let first = runs.hops other waiting (sym (only.hops other off.1) ∙ is) in
              hop_beside world its_world node other waiting reaches.attempt.link its_link put first
              (it.others first.place (off_place other waiting off.1 first)) (off_link other waiting off.1 first)
        ]

    run_there : (other : ℕ) → slot_at new.hops other ≡ None → slot_at new.node.attempts other ≡ None
    run_there other none =
        elim (eqb_tells other slot) [
          | inl same ↦
              ap (λ n. slot_at new.node.attempts n) same.1
              ∙ it.is_over (ap (λ n. slot_at new.hops n) (sym same.1) ∙ none)
          | inr off ↦
              only.attempts other off.1 ∙ runs.runs other (sym (only.hops other off.1) ∙ none)
        ]

    read_runs : RunsAt its_world node new
    read_runs = record {
      host = it.host;
      host_at = (value_put world.hosts node runs.host it.host runs.host_at).at;
      up = it.up;
      clients = λ session waiting is.
          client_moved world its_world node session waiting reaches.attempt.link reaches.link its_link reaches.link_is put
          refl refl refl
          (runs.clients session waiting
          (ap (λ (t : List (Option (List ℕ))). slot_at t session) (sym only.clients) ∙ is));
      hops = hop_there;
      seats = λ session none.
          ap (λ (t : List (Option _)). slot_at t session) only.seats
          ∙ runs.seats session
          (ap (λ (t : List (Option (List ℕ))). slot_at t session) (sym only.clients) ∙ none);
      runs = run_there;
    }

    pub read_there : (next : World D)
        × HasReadInto honest words at world next node
        (record { number = reaches.attempt.link; count = length octets }) row left
        × RunsAt next node new
    read_there = (its_world, read_event, read_runs)

  pub reading : ReadingIntoReads honest words
  reading world node at reply row left answered old new runs wrote knows says only =
      read_there world node at reply row left answered old new runs wrote knows says only
