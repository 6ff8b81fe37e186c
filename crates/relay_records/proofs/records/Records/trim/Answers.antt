-- A turn that makes the other disk shorter leaves what the records keep.
use Rattle.std.proofs.Common.{refl}
use Rattle.relay_records.proofs.TrimLemmas.{not_stopped, trim_halts, trim_keeps, trim_stop}
use Rattle.relay_records.proofs.records.Records.trim.Goals as goal
use Rattle.relay_records.proofs.records.Records.trim.Goals.{in-Ok, in-Err-Device}

pub returns-clause-kept : goal.returns-clause-kept
returns-clause-kept g c = λ changes keeps. elim c.match-trim.branch [
  | in-Ok w ↦ rw w.result-is (trim_keeps g.D.Disk.honest g.D.Disk.words _ c.args.self.now c.self.view_is changes keeps c.args.most _ _ refl
      w.in-Ok.ensures.trimmed)
  | in-Err-Device w ↦ rw w.result-is tt
]

pub returns-clause-cut : goal.returns-clause-cut
returns-clause-cut g c = λ changes keeps stopped. elim c.match-trim.branch [
  | in-Ok w ↦ absurd (not_stopped _ _ w.result-is stopped)
  | in-Err-Device w ↦ trim_halts g.D.Disk.honest g.D.Disk.words _ c.args.self.now c.self.view_is changes keeps _ refl
      w.in-Err-Device.ensures.failed.live c.trim.ensures.stop
]

pub returns-clause-stop : goal.returns-clause-stop
returns-clause-stop g c = λ changes keeps h.
    trim_stop g.D.Disk.honest g.D.Disk.words _ c.args.self.now c.self.view_is changes keeps c.trim.new.self.disk h (c.trim.ensures.stop h)
