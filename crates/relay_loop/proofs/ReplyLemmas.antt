-- What a relay does with the octets of one next hop after a row, and of several one after another.
use Rattle.std.proofs.Common.{◌≡◌, ◌≢◌, ◌⊎◌, ◌≤◌, inl, inr, ℕ, ◌+◌, false, List, [], ◌∷◌, ◌++◌, length, take, Option, None, Some, Result, Ok, Err, refl, sym, ap, ◌∙◌, subst, append-nil, arith}
use Rattle.relay_disk.specs.Device.{DiskWords}
use Rattle.relay_slots.specs.Slots.{slot_at}
use Rattle.relay_book.specs.declared.change.Change.{Change}
use Rattle.relay_book.specs.declared.change.Outcome.{Outcome}
use Rattle.relay_records.specs.Records.{Kept}
use Rattle.relay_records.specs.Staged.{Awaits, Row}
use Rattle.relay_records.specs.declared.fault.NodeFault.{NodeFault}
use Rattle.relay_records.specs.declared.fault.NodeFault.TheVariants.{NoMemory, Stopped, Unknown, TooMany, NotDue, Busy, Open, Full, NoSecond}
use Rattle.relay_records.proofs.Theorems.{awaited_are_numbered}
use Rattle.relay_attempts.specs.declared.reply.Replied.{Replied}
use Rattle.relay_attempts.specs.declared.runs.Run.{Run}
use Rattle.relay_attempts.specs.AddedOutcome.{reported_as}
use Rattle.relay_attempts.specs.Outcomes.{outcome_of, rulings_of}
use Rattle.relay_attempts.specs.Reply.{IsItsCourse, Told, outcome_at, told_more}
use Rattle.relay_attempts.specs.Staging.{EndsAfter, HasNoRoomAtEndAfter, MakesAfter}
use Rattle.relay_node.specs.Attempts.{Tells}
use Rattle.relay_node.specs.Node.{NodeState}
use Rattle.relay_node.specs.StagedReplies.{RefusesToReplyInto, RepliesInto, UsesReplyInto}
use Rattle.relay_loop.specs.declared.hops.Answered.{Answered}
use Rattle.relay_loop.specs.declared.replying.ReplyPiece.{ReplyPiece}
use Rattle.relay_loop.specs.GroupPieces.{IsLaden}
use Rattle.relay_loop.specs.GroupReplies.{HandsBy, IsEnding, RepliesEach, RepliesOne, unheard}
use Rattle.relay_loop.specs.Hops.{HandsTo, IsAnsweredBy, IsSetTo, IsUnknown}
use Rattle.relay_loop.specs.Outboxes.{unwritten_at}
use Rattle.relay_loop.specs.Relay.{OnlyHop, RelayState}
use Rattle.relay_loop.proofs.AwaitedLemmas.{one_is_staged, one_more_awaited}
use Rattle.relay_loop.proofs.ClientLemmas.{waits_there}
use Rattle.relay_report.specs.Report.{Reporter, reporter_of}

-- what a reply made of records and row, whatever is told of its attempt
module _ {D : Type 0} (reporter : Reporter) (at number : ℕ) (before after : List (Option Run)) (used : ℕ) (old new : Kept D)
    (row left : Row) where
  -- the outcome that ended it
  abbrev pub outcome_made : (change : ℕ) → EndsAfter reporter at number before after used old new row left change → Outcome
  outcome_made change made =
      outcome_of made.run.message at made.run.hop (rulings_of made.run.places.items made.verdicts)

  -- the changes that it staged
  abbrev pub staged_by : (change : Option ℕ) → MakesAfter reporter at number before after used old new row left change → List Change
  staged_by None made = []
  staged_by (Some change) made = reported_as (outcome_made change made) made.grows.report ∷ []

  module _ (honest : Type 0) (words : DiskWords D) (changes pending : List Change)
      (awaits : Awaits honest words old changes pending row) where
    is_ending : (change : Option ℕ) → (made : MakesAfter reporter at number before after used old new row left change)
        → IsEnding (length changes + length pending + 1) change (staged_by change made)
    is_ending None made = refl
    is_ending (Some change) made = (
      record (outcome_made change made) { report = made.grows.report },
      made.grows.stages.number_is ∙ awaited_are_numbered honest words old changes pending row awaits,
      refl,
    )

    awaits_made : (change : Option ℕ) → (made : MakesAfter reporter at number before after used old new row left change)
        → Awaits honest words new changes (pending ++ staged_by change made) left
    awaits_made None (known, same, unmoved) =
        subst (λ (l : List Change). Awaits honest words new changes l left) (sym (append-nil pending))
        (subst (λ (r : Row). Awaits honest words new changes pending r) (sym unmoved)
        (subst (λ (k : Kept D). Awaits honest words k changes pending row) (sym same) awaits))
    awaits_made (Some change) made =
        one_more_awaited honest words changes pending old new row left
        (reported_as (outcome_made change made) made.grows.report) used change awaits made.grows.fits made.grows.stages

-- a refusal of the node leaves its records and the row
module _ {D : Type 0} (number : ℕ) (old new : NodeState D) (row left : Row) where
  leaves_records : (fault : NodeFault) → RefusesToReplyInto number old new row left fault
      → (new.records ≡ old.records) × (left ≡ row)
  leaves_records NoMemory refused = (refused.records, refused.row_is)
  leaves_records Stopped refused = absurd refused
  leaves_records Unknown refused = (ap (λ (n : NodeState D). n.records) refused.0, refused.1)
  leaves_records TooMany refused = absurd refused
  leaves_records NotDue refused = absurd refused
  leaves_records Busy refused = absurd refused
  leaves_records NoSecond refused = absurd refused
  leaves_records (Open cause) refused = absurd refused
  leaves_records Full refused = (refused.records, refused.row_is)

module _ {D : Type 0} (honest : Type 0) (words : DiskWords D) (changes : List Change) (at : ℕ) where
  -- a next hop whose octets wait, or a laden row
  stays_unread : (old : RelayState D) (attempt : ℕ) (row : Row) → (unwritten_at old.hops attempt ≢ []) ⊎ IsLaden row
      → unwritten_at old.hops attempt ≡ [] → (IsLaden row → ⊥) → ⊥
  stays_unread old attempt row (inl waits) drained light = waits drained
  stays_unread old attempt row (inr laden) drained light = light laden

  -- a reply was left unread
  pub left_unheard : (pending : List Change) (reply : ReplyPiece) (old : RelayState D) (row : Row)
      → slot_at old.hops reply.attempt ≢ None → (unwritten_at old.hops reply.attempt ≢ []) ⊎ IsLaden row
      → Awaits honest words old.node.records changes pending row
      → RepliesOne honest words changes at pending reply old row old row [] (Ok unheard)
  left_unheard pending reply old row known why awaits = record {
    by = record {
      known = known;
      within = omega arith;
      whole = λ drained light _. absurd (stays_unread old reply.attempt row why drained light);
      gone = λ made. absurd (made refl);
      staged = refl;
      unread = λ _. (refl, refl, refl);
      makes = λ drained light. absurd (stays_unread old reply.attempt row why drained light);
      hands = λ drained light told written t. absurd (stays_unread old reply.attempt row why drained light);
    };
    only = record {
      attempts = λ other is. refl;
      hops = λ other is. refl;
      config = refl;
      seats = refl;
      clients = refl;
    };
    awaits =
        subst (λ (l : List Change). Awaits honest words old.node.records changes l row) (sym (append-nil pending))
        awaits;
  }

  -- The words below are of a reply that was heard.
  module _ (pending : List Change) (reply : ReplyPiece) (old new : RelayState D) (row left : Row) (replied : Replied)
      (answered : Answered) (drained : unwritten_at old.hops reply.attempt ≡ [])
      (awaits : Awaits honest words old.node.records changes pending row)
      (uses : UsesReplyInto at reply.attempt (length reply.octets.now) old.node new.node row left replied)
      (only : OnlyHop old new reply.attempt) (a : IsAnsweredBy replied answered) where
    abbrev pub Made : Option ℕ → Type 0
    Made change =
        MakesAfter (reporter_of old.node.config) at reply.attempt old.node.attempts new.node.attempts replied.used
        old.node.records new.node.records row left change

    abbrev pub more_by : (change : Option ℕ) → Made change → List Change
    more_by change made =
        staged_by (reporter_of old.node.config) at reply.attempt old.node.attempts new.node.attempts replied.used
        old.node.records new.node.records row left change made

    -- what is told of it then
    module _ (told : Told) (written : List ℕ) (t : HandsTo (changes ++ pending) old reply.attempt told written) where
      output : told.output ++ replied.out.items ≡ written ++ replied.out.items
      output =
          ap (λ l. l ++ replied.out.items)
          (t.output ∙ ap (λ l. written ++ l) (sym (waits_there old.hops reply.attempt t.waiting t.connection) ∙ drained)
          ∙ append-nil written)

      hands_by : (change : Option ℕ) → (made : Made change)
          → RepliesInto honest words (reporter_of old.node.config) at changes pending reply.attempt told row reply.octets.now
          old.node new.node left replied change
          → IsSetTo change reply.attempt replied.out.items answered.last new.hops
          → HandsBy honest words changes at pending reply.attempt told written reply.octets.now old row new left
          (more_by change made) answered change
      hands_by None made r set = record {
        used = a.used ∙ r.used;
        same = r.same;
        row_is = r.row_is;
        last = set.1;
        out = replied.out.items;
        hands = record {
          tells =
              subst (λ host. Tells host (changes ++ pending) new.node.attempts reply.attempt
              (told_more told (take answered.used reply.octets.now) replied.out.items))
              (sym (ap (λ config. config.host) only.config))
              (subst (λ n. Tells old.node.config.host (changes ++ pending) new.node.attempts reply.attempt
              (told_more told (take n reply.octets.now) replied.out.items)) (sym a.used) r.tells);
          waiting = replied.out.items;
          connection = set.0;
          output = output;
        };
      }
      hands_by (Some change) made r set =
          let outcome = outcome_made (reporter_of old.node.config) at reply.attempt old.node.attempts new.node.attempts
          replied.used old.node.records new.node.records row left change made in
          record {
            last = replied.out.items;
            last_is = set.1;
            verdicts = r.verdicts;
            course =
                subst (λ n. IsItsCourse old.node.config.host
                (told_more told (take n reply.octets.now) replied.out.items) false r.verdicts) (sym a.used) r.course;
            output = output;
            stages = record {
              number_is = r.stages.number_is;
              report = r.stages.report;
              reported = r.stages.reported;
              awaits = r.stages.awaits;
              note = r.stages.note;
              noted = r.stages.noted;
              used_is = r.stages.used_is ∙ sym a.used;
            };
            more_is =
                ap (λ (c : Change). c ∷ [])
                (one_is_staged honest words changes pending old.node.records new.node.records row left
                (reported_as outcome made.grows.report) (reported_as (outcome_at at told r.verdicts) r.stages.report)
                replied.used change awaits made.grows.fits made.grows.stages r.stages.awaits);
            gone = r.gone;
            connection = set.0;
          }

    -- it has its answer
    pub was_heard : slot_at old.hops reply.attempt ≢ None → (IsLaden row → ⊥)
        → ((told : Told) → Tells old.node.config.host (changes ++ pending) old.node.attempts reply.attempt told
        → RepliesInto honest words (reporter_of old.node.config) at changes pending reply.attempt told row reply.octets.now
        old.node new.node left replied replied.change)
        → IsSetTo replied.change reply.attempt replied.out.items answered.last new.hops
        → RepliesOne honest words changes at pending reply old row new left (more_by replied.change uses.makes)
        (Ok answered)
    was_heard known light replies set = record {
      by = record {
        known = known;
        within = subst (λ n. n ≤ length reply.octets.now) (sym a.used) uses.within;
        whole = λ _ _ unchanged. a.used ∙ uses.whole (sym a.change ∙ unchanged);
        gone = λ made. uses.gone (λ none. made (a.change ∙ none));
        staged =
            subst (λ (change : Option ℕ). IsEnding (length changes + length pending + 1) change
            (more_by replied.change uses.makes)) (sym a.change)
            (is_ending (reporter_of old.node.config) at reply.attempt old.node.attempts new.node.attempts replied.used
            old.node.records new.node.records row left honest words changes pending awaits replied.change uses.makes);
        unread = λ why. absurd (stays_unread old reply.attempt row why drained light);
        makes = λ _ _.
            subst (λ n. MakesAfter (reporter_of old.node.config) at reply.attempt old.node.attempts new.node.attempts n
            old.node.records new.node.records row left answered.change) (sym a.used)
            (subst (λ (change : Option ℕ). Made change) (sym a.change) uses.makes);
        hands = λ _ _ told written t.
            subst (λ (change : Option ℕ). HandsBy honest words changes at pending reply.attempt told written
            reply.octets.now old row new left (more_by replied.change uses.makes) answered change) (sym a.change)
            (hands_by told written t replied.change uses.makes (replies told t.tells) set);
      };
      only = only;
      awaits =
          awaits_made (reporter_of old.node.config) at reply.attempt old.node.attempts new.node.attempts replied.used
          old.node.records new.node.records row left honest words changes pending awaits replied.change uses.makes;
    }

  -- a reply was refused
  pub was_refused : (pending : List Change) (reply : ReplyPiece) (old new : RelayState D) (row left : Row)
      (fault : NodeFault) → slot_at new.hops reply.attempt ≡ None
      → RefusesToReplyInto reply.attempt old.node new.node row left fault
      → (fault ≡ Unknown → IsUnknown old reply.attempt) → (fault ≢ Unknown → slot_at old.hops reply.attempt ≢ None)
      → ((told : Told) → Tells old.node.config.host (changes ++ pending) old.node.attempts reply.attempt told
      → fault ≡ Full → HasNoRoomAtEndAfter (reporter_of old.node.config) at told reply.octets.now old.node.records row)
      → OnlyHop old new reply.attempt → Awaits honest words old.node.records changes pending row
      → RepliesOne honest words changes at pending reply old row new left [] (Err fault)
  was_refused pending reply old new row left fault gone leaves unknown known full only awaits =
      let same = leaves_records reply.attempt old.node new.node row left fault leaves in
      record {
        by = record {
          none = refl;
          gone = gone;
          leaves = leaves;
          unknown = unknown;
          known = known;
          full = λ told written t is. full told t.tells is;
        };
        only = only;
        awaits =
            subst (λ (l : List Change). Awaits honest words new.node.records changes l left)
            (sym (append-nil pending))
            (subst (λ (r : Row). Awaits honest words new.node.records changes pending r) (sym same.1)
            (subst (λ (k : Kept D). Awaits honest words k changes pending row) (sym same.0) awaits));
      }

  -- a reply more was answered after others
  pub replies_more : (replies : List ReplyPiece) (answers : List (Result Answered NodeFault))
      (pending all more : List Change) (old mid new : RelayState D) (row between left : Row) (reply : ReplyPiece)
      (answer : Result Answered NodeFault)
      → RepliesEach honest words changes at replies answers pending old row mid between all
      → RepliesOne honest words changes at all reply mid between new left more answer
      → RepliesEach honest words changes at (replies ++ reply ∷ []) (answers ++ answer ∷ []) pending old row new left
      (all ++ more)
  replies_more [] answers pending all more old mid new row between left reply answer (none, same, unmoved, nothing)
      one = (
        answer,
        [],
        ap (λ (l : List (Result Answered NodeFault)). l ++ answer ∷ []) none,
        new,
        left,
        more,
        subst (λ (l : List Change). RepliesOne honest words changes at l reply old row new left more answer) nothing
            (subst (λ (r : Row). RepliesOne honest words changes at all reply old r new left more answer) unmoved
            (subst (λ (s : RelayState D). RepliesOne honest words changes at all reply s between new left more answer) same
            one)),
        (refl, refl, refl, ap (λ (l : List Change). l ++ more) nothing),
      )
  replies_more (first ∷ replies) answers pending all more old mid new row between left reply answer
      (its, rest, is, next, beside, added, by, each) one = (
        its,
        rest ++ answer ∷ [],
        ap (λ (l : List (Result Answered NodeFault)). l ++ answer ∷ []) is,
        next,
        beside,
        added,
        by,
        replies_more replies rest (pending ++ added) all more next mid new beside between left reply answer each one,
      )
