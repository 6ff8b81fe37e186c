use Rattle.relay_disk.specs.Disks.{seen_of}
use Rattle.relay_spool.proofs.CursorLemmas.{started}
use Rattle.relay_spool.proofs.cursor.Cursor.start.Goals as goal

pub returns-in-Ok-new-clause-start : goal.returns-in-Ok-new-clause-start
returns-in-Ok-new-clause-start g c = λ honest.
    started (seen_of g.D.Disk.words c.args.disk) c.in-Ok.choice c.in-Ok-new.reader.place (c.in-Ok.ensures.chosen honest) c.in-Ok-new.ensures.start.0
