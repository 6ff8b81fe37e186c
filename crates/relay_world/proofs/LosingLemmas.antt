-- What a group of accepts and outcomes doesn't let through: a record that isn't in the row, and a row that doesn't come
-- into the spool.
use Rattle.std.proofs.Common.{◌≡◌, ◌+◌, ℕ, List, [], ◌∷◌, ◌++◌, length, map, Option, None, Some, refl, sym, ap, ◌∙◌, arith}
use Rattle.std.specs.Prelude.{slice_get}
use Rattle.std.proofs.lemmas.List.{append-nil, length-append, length-map}
use Rattle.std.proofs.lemmas.Option.{same_Some}
use Rattle.relay_disk.specs.Device.{DiskWords}
use Rattle.relay_book.specs.declared.change.Change.{Change}
use Rattle.relay_book.specs.Queue.{Queue, queue_of}
use Rattle.relay_book.specs.Record.{encode}
use Rattle.relay_book.specs.StandsFor.{StandsFor}
use Rattle.relay_book.proofs.Theorems.{bodies_leave_one}
use Rattle.relay_attempts.specs.AddedOutcome.{reported_as}
use Rattle.relay_attempts.specs.Reply.{outcome_at}
use Rattle.relay_node.specs.Staging.{IsStaged, ReceivesAfter}
use Rattle.relay_records.proofs.Theorems.{next_is_one_more}
use Rattle.relay_world.specs.Bound.{IsBound, StandsAt}
use Rattle.relay_world.specs.Forbidden.{LosingOutcomeBreaks, LosingRecordBreaks, LosingRowBreaks}
use Rattle.relay_world.specs.Groups.{HasHeardAll, Piece}
use Rattle.relay_world.specs.Ledger.{steps_in, steps_of}
use Rattle.relay_node.specs.StagedReplies.{RepliesInto}
use Rattle.relay_world.specs.Steps.{waiting_down, waiting_up}
use Rattle.relay_world.specs.World.{World}
use Rattle.relay_world.proofs.GroupLemmas.{first, hearing_all, settled, unsettled, awaits as last_awaits}
use Rattle.relay_world.proofs.ReopenGroupLemmas.{none_of}
use Rattle.relay_report.specs.Report.{reporter_of}

-- as many bodies as there were are of as many changes
none_more : (pending more : List Change) → map encode (pending ++ more) ≡ map encode pending → length more ≡ 0
none_more pending more same =
    let many = length-map (pending ++ more) encode in
    let few = length-map pending encode in
    let all = length-append pending more in
    let even = ap length same in
    omega (arith, many, few, all, even)

none_staged : (next : ℕ) (made : Option ℕ) (pending more : List Change) → IsStaged next made more
    → map encode (pending ++ more) ≡ map encode pending → made ≡ None
none_staged next None pending more staged same = refl
none_staged next (Some number) pending more staged same =
    let none = none_more pending more same in
    let one = ap length staged.2 in
    absurd (omega (arith, none, one))

pub losing_record_breaks : {D : Type 0} (honest : Type 0) (words : DiskWords D) → LosingRecordBreaks honest words
losing_record_breaks honest words at old new node piece row left changes pending hears awaits same =
    let afterwards : ReceivesAfter honest words hears.of.before.config changes pending at hears.of.session
    (waiting_up piece.count hears.of.link) hears.of.before row hears.after left hears.received =
    hears.receives changes pending awaits in
    none_staged (length changes + length pending + 1) hears.received.change pending afterwards.more afterwards.staged
    (sym afterwards.awaits.row_is ∙ same ∙ awaits.row_is)

pub losing_outcome_breaks : {D : Type 0} (honest : Type 0) (words : DiskWords D) → LosingOutcomeBreaks honest words
losing_outcome_breaks {D} honest words at old new node piece row left changes pending told reads awaits tells same =
    by reads.replied.change (reads.replies changes pending told awaits tells)
  where
    by : (made : Option ℕ)
        → RepliesInto honest words (reporter_of reads.of.before.config) at changes pending reads.of.slot told row
        (waiting_down piece.count reads.of.link) reads.of.before reads.after left reads.replied made
        → made ≡ None
    by None on = refl
    by (Some change) ended =
        let one : Change = reported_as (outcome_at at told ended.verdicts) ended.stages.report in
        let none : 1 ≡ 0 =
        none_more pending (one ∷ []) (sym ended.stages.awaits.row_is ∙ same ∙ awaits.row_is) in
        absurd (omega (arith, none))

module _ {D : Type 0} (honest : Type 0) (words : DiskWords D) (h : honest) (old new : World D)
    (lists : List (List Change))
    (node : ℕ) (pieces : List Piece) (changes : List Change) (bound : IsBound honest words old lists)
    (hears : HasHeardAll honest words old new node pieces) (stands : StandsAt old lists node hears.before.host changes)
    (spool : StandsFor hears.after.records.spool.bodies changes) where
  abbrev its : List Change
  its = (first honest words old lists node bound hears.before old.clock pieces hears.heard hears.row hears.each
      hears.staged).0

  its_at : slice_get lists node ≡ Some its
  its_at = (first honest words old lists node bound hears.before old.clock pieces hears.heard hears.row hears.each
      hears.staged).1

  abbrev pending : List Change
  pending = (unsettled honest words old new lists node pieces bound hears).pending

  same_list : changes ≡ its
  same_list = same_Some changes its (sym stands.list_at ∙ its_at)

  has_all : StandsFor hears.after.records.spool.bodies (its ++ pending)
  has_all = (settled honest words old new lists node pieces bound hears).keeps.bodies h

  none_pending : pending ≡ []
  none_pending =
      let one_queue : queue_of changes ≡ queue_of (its ++ pending) =
      bodies_leave_one hears.after.records.spool.bodies (queue_of changes) (queue_of (its ++ pending)) spool.reads
      has_all.reads in
      let next = ap (λ (q : Queue). q.next) one_queue in
      let few = next_is_one_more changes in
      let many = next_is_one_more (its ++ pending) in
      let all = length-append its pending in
      let same = ap length same_list in
      none_of pending (omega (arith, next, few, many, all, same))

  row_is : hears.row.bodies ≡ []
  row_is = (last_awaits honest words old new lists node pieces bound hears).row_is ∙ ap (λ l. map encode l) none_pending

  told : steps_in node new.ledger ≡ steps_in node old.ledger
  told =
      let now = hearing_all honest words old new lists node pieces bound hears in
      now.1.ledger node (its ++ pending) list_at
      ∙ ap (λ l. steps_of (its ++ l)) none_pending ∙ ap steps_of (append-nil its) ∙ sym (bound.ledger node its its_at)
    where
      list_at : slice_get (hearing_all honest words old new lists node pieces bound hears).0 node ≡ Some
          (its ++ pending)
      list_at = (unsettled honest words old new lists node pieces bound hears).list_at

pub losing_row_breaks : {D : Type 0} (honest : Type 0) (words : DiskWords D) → LosingRowBreaks honest words
losing_row_breaks honest words h old new lists node pieces changes bound hears stands spool = (
  row_is honest words h old new lists node pieces changes bound hears stands spool,
  told honest words h old new lists node pieces changes bound hears stands spool,
)
