-- Replies that an attempt reads, whose outcome comes into the spool with more, keep what is said of a world without
-- disks.
use Rattle.std.proofs.Common.{◌≡◌, ◌+◌, ℕ, List, [], ◌∷◌, ◌++◌, fold, Option, None, Some, refl, sym, subst, ap, ◌∙◌}
use Rattle.std.proofs.lemmas.List.{append_assoc, length-append}
use Rattle.std.proofs.lemmas.List.Sums.{fold-append}
use Rattle.relay_disk.specs.Device.{DiskWords}
use Rattle.relay_book.specs.declared.change.Change.{Change}
use Rattle.relay_book.specs.declared.change.Outcome.{Outcome}
use Rattle.relay_book.specs.Marks.{place_steps}
use Rattle.relay_book.specs.Queue.{Queue, empty_queue, queue_of, step}
use Rattle.relay_book.specs.Record.{encode}
use Rattle.relay_records.specs.declared.noted.Noted.{Noted}
use Rattle.relay_records.specs.Note.{NotesNext}
use Rattle.relay_records.specs.Records.{Keeps, Kept}
use Rattle.relay_records.specs.Staged.{AreNotes, Awaits, Row}
use Rattle.relay_attempts.specs.AddedOutcome.{reported_as}
use Rattle.relay_attempts.specs.Reply.{Told, outcome_at}
use Rattle.relay_world.specs.declared.attempt.Fate.TheVariants.{Replied as RepliedBy}
use Rattle.relay_world.specs.Groups.{EndsInto, HasReadInto, OutcomeInto, Piece}
use Rattle.relay_attempts.specs.Staging.{HasEndedAfter, StagesOutcome}
use Rattle.relay_node.specs.StagedReplies.{RepliesInto}
use Rattle.relay_world.specs.Steps.{AttemptOf, DropsAttempt, waiting_down}
use Rattle.relay_world.specs.World.{Up, World}
use Rattle.relay_world.proofs.AttemptLemmas.{KnowsAttempt, known_by}
use Rattle.relay_world.proofs.LoseLemmas.{dropping_keeps}
use Rattle.relay_world.proofs.RecordLemmas.{HasTakenOutcome, TakesOutcome}
use Rattle.relay_world.proofs.ReplyLemmas.{Reading, read_nothing, read_outcome, tells_was, told_was}
use Rattle.relay_world.proofs.UnsettledLemmas.{Unsettled, awaited_kept, awaits_there, last_note, list_there_is, unsettled_grows, unsettled_stays}
use Rattle.relay_report.specs.Report.{Reporter, reporter_of}

-- an outcome that was staged after changes, with this note after those of the row
staged_takes : {D : Type 0} (honest : Type 0) (words : DiskWords D) (reporter : Reporter) (changes pending : List Change)
    (row left : Row) (outcome : Outcome) (used number : ℕ) (records : Kept D) (noted : Noted)
    → AreNotes (queue_of changes) pending row.notes → left.notes ≡ row.notes ++ noted ∷ []
    → StagesOutcome honest words reporter changes pending row outcome used records left number
    → TakesOutcome ⊥ words reporter (changes ++ pending) outcome records number noted
staged_takes honest words reporter changes pending row left outcome used number records noted were notes stages =
    let one : Change = reported_as outcome stages.report in
    let next : NotesNext (fold step (queue_of changes) pending) one (encode one) noted.used noted =
    last_note (queue_of changes) pending one row.notes noted were
    (subst (λ l. AreNotes (queue_of changes) (pending ++ one ∷ []) l) notes stages.awaits.notes) in
    record {
      number_is = stages.number_is ∙ ap (λ n. n + 1) (sym (length-append changes pending));
      report = stages.report;
      reported = stages.reported;
      keeps = subst (λ l. Keeps ⊥ words records l) (sym (append_assoc changes pending (one ∷ [])))
          (awaited_kept honest words records changes (pending ++ one ∷ []) left stages.awaits);
      octets = next.octets_are;
      left = next.left
          ∙ ap (λ (q : Queue). place_steps q one) (sym (fold-append step empty_queue changes pending));
      queues = next.report;
    }

module _ {D : Type 0} (honest : Type 0) (words : DiskWords D) (old : World D) (lists : List (List Change)) (node : ℕ)
    (changes : List Change) (world next : World D) (row left : Row)
    (unsettled : Unsettled honest words old lists node changes world row) where
  -- an attempt there is dropped
  pub unsettled_dropped : (number : ℕ) (drops : DropsAttempt world next number) → drops.of.attempt.node ≡ node
      → left ≡ row → Unsettled honest words old lists node changes next left
  unsettled_dropped number drops here same =
      unsettled_stays honest words old lists node changes world next row left unsettled drops.of.attempt.node
      drops.of.host drops.of.host_at drops.of.before drops.of.up here (record drops.of.host { state = Up drops.after })
      drops.after refl drops.hosts drops.records same
      (dropping_keeps ⊥ words world next unsettled.later number unsettled.bound drops)

  -- replies were read there
  module _ (at : ℕ) (piece : Piece) (reads : HasReadInto honest words at world next node piece row left) where
    abbrev pub of : AttemptOf world piece.number
    of = reads.of

    abbrev pub list : List Change
    list = changes ++ unsettled.pending

    abbrev pub knows : KnowsAttempt ⊥ words world unsettled.later piece.number of
    knows = known_by ⊥ words world unsettled.later piece.number unsettled.bound of list
        (list_there_is honest words old lists node changes world next row left unsettled of.attempt.node of.host
        of.host_at of.before of.up reads.its_node)

    abbrev pub told : Told
    told = told_was ⊥ words world unsettled.later piece.number unsettled.bound of knows

    awaits_before : Awaits honest words of.before.records changes unsettled.pending row
    awaits_before = awaits_there honest words old lists node changes world next row left unsettled of.attempt.node
        of.host of.host_at of.before of.up reads.its_node

    abbrev pub Replies : Option ℕ → Type 0
    Replies made =
        RepliesInto honest words (reporter_of of.before.config) at changes unsettled.pending of.slot told row
        (waiting_down piece.count of.link) of.before reads.after left reads.replied made

    pub replies : Replies reads.replied.change
    replies = reads.replies changes unsettled.pending told awaits_before
        (tells_was ⊥ words world unsettled.later piece.number unsettled.bound of knows)

    abbrev reading : Reading ⊥ words world unsettled.later piece.number unsettled.bound of knows next piece.count
        reads.after reads.replied
    reading = record {
      used = reads.used;
      others = reads.others;
      config = reads.config;
      seats = reads.seats;
      links = reads.links;
      rest = reads.rest;
    }

    -- they have ended the attempt
    module _ (change_now : ℕ)
        (ended : HasEndedAfter honest words (reporter_of of.before.config) changes unsettled.pending row at of.slot told
        (waiting_down piece.count of.link) reads.after.records left reads.after.attempts reads.replied change_now)
        (ends : EndsInto honest words world next piece.number of reads.after row left change_now) where
      abbrev pub outcome : Outcome
      outcome = outcome_at at told ended.verdicts

      pub takes : TakesOutcome ⊥ words (reporter_of of.before.config) list outcome reads.after.records change_now ends.noted
      takes = staged_takes honest words (reporter_of of.before.config) changes unsettled.pending row left outcome
          reads.replied.used change_now reads.after.records ends.noted awaits_before.notes
          (ends.is_noted changes unsettled.pending awaits_before) ended.stages

      abbrev pub taken : HasTakenOutcome world next piece.number of reads.after (RepliedBy change_now) change_now
          ends.noted
      taken = record { hosts = ends.hosts; ledger = ends.ledger; attempts = ends.attempts }

      unsettled_more : Unsettled honest words old lists node changes next left
      unfolding takes staged_takes
      unsettled_more =
          unsettled_grows honest words old lists node changes world next row left unsettled of.attempt.node of.host
          of.host_at of.before of.up reads.its_node
          (record of.host { state = Up reads.after; records = of.host.records ++ ends.noted.octets ∷ [] }) reads.after
          refl ends.hosts (reported_as outcome ended.stages.report) ended.stages.awaits
          (read_outcome ⊥ words world unsettled.later piece.number unsettled.bound of knows next piece.count reads.after
          reads.replied reading at change_now ends.noted ended.verdicts ended.course takes taken)

    -- by what has ended
    unsettled_by : (made : Option ℕ) → Replies made
        → OutcomeInto honest words world next piece.number of reads.after row left made
        → Unsettled honest words old lists node changes next left
    unsettled_by None on puts =
        unsettled_stays honest words old lists node changes world next row left unsettled of.attempt.node of.host
        of.host_at of.before of.up reads.its_node (record of.host { state = Up reads.after }) reads.after refl puts.0
        on.same on.row_is
        (read_nothing ⊥ words world unsettled.later piece.number unsettled.bound of knows next piece.count reads.after
        reads.replied reading on.same on.tells puts)
    unsettled_by (Some change_now) ended ends = unsettled_more change_now ended ends

    pub unsettled_read : Unsettled honest words old lists node changes next left
    unsettled_read = unsettled_by reads.replied.change replies reads.outcome
