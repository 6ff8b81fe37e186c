-- The append of the row decides what the records keep.
use Rattle.std.proofs.Common.{◌≡◌, false, refl, rules}
use Rattle.relay_records.proofs.StagedLemmas.{cut_all, settled, stop_stands_all}
use Rattle.relay_records.proofs.records.Records.settle.Goals as goal
use Rattle.relay_records.proofs.records.Records.settle.Goals.{in-Ok, in-Err-Device, in-Err}

pub returns-clause-settles : goal.returns-clause-settles
returns-clause-settles g c = λ changes pending awaits.
    elim c.match-append_all.branch [
      | in-Ok w ↦ rw w.result-is (settled g.D.Disk.honest g.D.Disk.words _ c.args.self.now c.self.view_is changes pending _ c.args.row c.row.view_is awaits _
          c.row.inside.notes.items refl w.in-Ok.ensures.appended refl)
      | in-Err-Device w ↦ rw w.result-is tt
      | in-Err w ↦ rw w.result-is tt
    ]

pub returns-clause-cut : goal.returns-clause-cut
returns-clause-cut g c = λ changes pending awaits.
    elim c.match-append_all.branch [
      | in-Ok w ↦ rw w.result-is tt
      | in-Err-Device w ↦
          let stopped : c.append_all.new.self.live ≡ false = search rules in
          rw w.result-is (λ _. cut_all g.D.Disk.honest g.D.Disk.words _ c.args.self.now c.self.view_is changes pending _ c.args.row c.row.view_is awaits _
          c.row.inside.notes.items refl stopped c.append_all.ensures.stop refl)
      | in-Err w ↦ rw w.result-is (λ is. absurd (cc))
    ]

pub returns-clause-stop : goal.returns-clause-stop
returns-clause-stop g c = λ changes pending awaits h.
    stop_stands_all g.D.Disk.honest g.D.Disk.words _ c.args.self.now c.self.view_is changes pending _ c.args.row c.row.view_is awaits
    c.append_all.new.self.disk h (c.append_all.ensures.stop h)
