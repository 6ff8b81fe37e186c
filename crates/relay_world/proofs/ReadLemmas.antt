-- Replies that an attempt reads keep a world bound.
use Rattle.std.proofs.Common.{ℕ, List, Option, None, Some}
use Rattle.relay_disk.specs.Device.{DiskWords}
use Rattle.relay_book.specs.declared.change.Change.{Change}
use Rattle.relay_records.specs.declared.noted.Noted.{Noted}
use Rattle.relay_attempts.specs.Reply.{AttemptHasEnded, outcome_at}
use Rattle.relay_node.specs.Attempts.{Replies, RepliesBy}
use Rattle.relay_world.specs.declared.attempt.Fate.TheVariants.{Replied as RepliedBy}
use Rattle.relay_world.specs.Bound.{IsBound}
use Rattle.relay_world.specs.Steps.{HasRead, ReadingKeeps, RecordsOutcome, RecordsRead, waiting_down, without_note}
use Rattle.relay_world.specs.World.{World}
use Rattle.relay_world.proofs.AttemptLemmas.{KnowsAttempt, known}
use Rattle.relay_world.proofs.RecordLemmas.{outcome_added, outcome_taken}
use Rattle.relay_world.proofs.ReplyLemmas.{Reading, read_nothing, read_outcome, tells_was, told_was}
use Rattle.relay_report.specs.Report.{reporter_of}

module _ {D : Type 0} (honest : Type 0) (words : DiskWords D) (old new : World D) (lists : List (List Change))
    (number count : ℕ) (bound : IsBound honest words old lists) (read : HasRead honest words old new number count)
    (knows : KnowsAttempt honest words old lists number read.of) where
  replies : Replies honest words (reporter_of read.of.before.config) old.clock knows.changes read.of.slot
      (told_was honest words old lists number bound read.of knows) (waiting_down count read.of.link) read.of.before
      read.after read.replied
  replies = read.replies knows.changes (told_was honest words old lists number bound read.of knows)
      knows.its_node.keeps (tells_was honest words old lists number bound read.of knows)

  -- what was read, where the node is left with this note
  abbrev reading_by : (noted : Option Noted)
      → Reading honest words old lists number bound read.of knows new count
      (record read.after { records = record read.after.records { noted = noted } }) read.replied
  reading_by noted = record {
    used = read.used;
    others = read.others;
    config = read.config;
    seats = read.seats;
    links = read.links;
    rest = read.rest;
  }

  -- the attempt has ended
  read_to_end : (change_now : ℕ)
      → AttemptHasEnded honest words (reporter_of read.of.before.config) old.clock knows.changes read.of.slot
      (told_was honest words old lists number bound read.of knows) (waiting_down count read.of.link) read.of.before.records
      read.after.records read.after.attempts read.replied change_now
      → RecordsOutcome old new number read.of read.after (RepliedBy change_now) change_now
      → (later : List (List Change)) × IsBound honest words new later
  read_to_end change_now ended records = (
    _,
    read_outcome honest words old lists number bound read.of knows new count (without_note read.after) read.replied
        (reading_by None) old.clock change_now records.noted ended.verdicts ended.course
        (outcome_added honest words (reporter_of read.of.before.config) knows.changes
        (outcome_at old.clock (told_was honest words old lists number bound read.of knows) ended.verdicts)
        read.replied.used change_now read.after records.noted records.note_is ended.adds)
        (outcome_taken old new number read.of read.after (RepliedBy change_now) change_now records),
  )

  read_by : (made : Option ℕ)
      → RepliesBy honest words (reporter_of read.of.before.config) old.clock knows.changes read.of.slot
      (told_was honest words old lists number bound read.of knows) (waiting_down count read.of.link) read.of.before
      read.after read.replied made
      → RecordsRead old new number read.of read.after made
      → (later : List (List Change)) × IsBound honest words new later
  read_by None on puts = (
    lists,
    read_nothing honest words old lists number bound read.of knows new count read.after read.replied
        (reading_by read.after.records.noted) on.same on.tells puts,
  )
  read_by (Some change_now) ended records = read_to_end change_now ended records

  pub reading : (later : List (List Change)) × IsBound honest words new later
  reading = read_by read.replied.change replies read.records

pub reading_keeps : {D : Type 0} (honest : Type 0) (words : DiskWords D) → ReadingKeeps honest words
reading_keeps honest words old new lists number count bound read =
    reading honest words old new lists number count bound read (known honest words old lists number bound read.of)
