-- The spool's compaction decides what the records keep.
use Rattle.std.proofs.Common.{◌≡◌, refl, subst}
use Rattle.relay_spool.specs.Spool.{RefusesToCompact}
use Rattle.relay_book.specs.Snapshot.{snapshot}
use Rattle.relay_records.proofs.CompactLemmas.{compact_halts, compact_keeps, compact_stop, not_stopped, short_body}
use Rattle.relay_records.proofs.records.Records.compact.Goals as goal
use Rattle.relay_records.proofs.records.Records.compact.Goals.{in-Ok-compact, in-Err-Device, in-Err-compact}

pub returns-clause-kept : goal.returns-clause-kept
returns-clause-kept g c =
    let octets = c.in_ok-octets.octets.items in
    let is : octets ≡ snapshot c.self.inside.book.queue = c.in_ok-octets.ensures in
    let short = short_body octets (snapshot c.self.inside.book.queue) c.snapshot_length.result is c.snapshot_length.ensures c.in-Ok.ensures.short in
    λ changes keeps. elim c.match-compact.branch [
      | in-Ok-compact w ↦ rw w.result-is (compact_keeps g.D.Disk.honest g.D.Disk.words _ c.args.self.now c.self.view_is changes octets keeps is short _ refl
          w.in-Ok-compact.ensures.compacted)
      | in-Err-Device w ↦ rw w.result-is tt
      | in-Err-compact w ↦ rw w.result-is tt
    ]

pub returns-clause-cut : goal.returns-clause-cut
returns-clause-cut g c =
    let octets = c.in_ok-octets.octets.items in
    let is : octets ≡ snapshot c.self.inside.book.queue = c.in_ok-octets.ensures in
    let short = short_body octets (snapshot c.self.inside.book.queue) c.snapshot_length.result is c.snapshot_length.ensures c.in-Ok.ensures.short in
    λ changes keeps stopped. elim c.match-compact.branch [
      | in-Ok-compact w ↦ absurd (not_stopped _ _ w.result-is stopped)
      | in-Err-Device w ↦ compact_halts g.D.Disk.honest g.D.Disk.words _ c.args.self.now c.self.view_is changes octets keeps is short _ refl
          (subst (λ fault. RefusesToCompact g.D.Disk.words c.self.inside.spool c.compact.new.self fault) w.in-Err-Device.field-0-is w.in-Err-Device.ensures.refused).0
          c.compact.ensures.stop
      | in-Err-compact w ↦ absurd (not_stopped _ _ w.result-is stopped)
    ]

pub returns-clause-stop : goal.returns-clause-stop
returns-clause-stop g c =
    let octets = c.in_ok-octets.octets.items in
    let is : octets ≡ snapshot c.self.inside.book.queue = c.in_ok-octets.ensures in
    let short = short_body octets (snapshot c.self.inside.book.queue) c.snapshot_length.result is c.snapshot_length.ensures c.in-Ok.ensures.short in
    λ changes keeps h. compact_stop g.D.Disk.honest g.D.Disk.words _ c.args.self.now c.self.view_is changes octets keeps is short
    c.compact.new.self.disk h (c.compact.ensures.stop h)
