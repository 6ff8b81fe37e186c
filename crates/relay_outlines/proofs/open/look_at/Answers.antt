-- The disks were only read before, so that they hold the same.
use Rattle.std.proofs.lemmas.Result.{IfErr-weaker, IfOk-weaker}
use Rattle.relay_outlines.proofs.CursorLemmas.{image_refused_before}
use Rattle.relay_outlines.proofs.OpenLemmas.{shows_before}
use Rattle.relay_outlines.proofs.open.look_at.Goals as goal

pub returns-in-Ok-clause-shows : goal.returns-in-Ok-clause-shows
returns-in-Ok-clause-shows g c =
    IfOk-weaker c.look_by.result _ _
    (λ looked shown. (
      shown.0,
      shows_before g.D.Disk.honest g.D.Disk.words c.args.disk c.in-Ok.cursor.disk looked.look
          shown.0 c.in-Ok.ensures.keeps shown.1,
    ))
    c.look_by.ensures.shows

pub returns-in-Ok-clause-refused : goal.returns-in-Ok-clause-refused
returns-in-Ok-clause-refused g c =
    IfErr-weaker c.look_by.result _ _
    (λ refused was. image_refused_before g.D.Disk.honest g.D.Disk.words c.args.disk c.in-Ok.cursor.disk refused.cause
    c.in-Ok.ensures.keeps was)
    c.look_by.ensures.refused
