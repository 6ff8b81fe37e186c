-- The outline that was read shows the queue.
use Rattle.std.proofs.Common.{rules, ap, ◌∙◌}
use Rattle.relay_disk.specs.Disks.{seen_of}
use Rattle.relay_outlines.specs.Look.{seen}
use Rattle.relay_outlines.specs.Reading.{HasOutline}
use Rattle.relay_outlines.proofs.OpenLemmas.{shows}
use Rattle.relay_outlines.proofs.open.look_by.Goals as goal

pub returns-in-Ok-Outline-clause-shows : goal.returns-in-Ok-Outline-clause-shows
returns-in-Ok-Outline-clause-shows g c =
    let honest = g.D.Disk.honest in
    let words = g.D.Disk.words in
    let outline = c.in-Ok-Outline.outline.queue in
    let size = c.read_outline.new.cursor.place in
    let has : HasOutline honest (seen_of words c.args.cursor.disk) size outline = search rules in
    shows honest words c.args.cursor.disk outline size c.new.result (c.new.ensures ∙ ap (seen outline) c.place.ensures)
    has
