use Rattle.relay_disk.specs.Disks.{seen_of}
use Rattle.relay_spool.proofs.CursorLemmas.{shown}
use Rattle.relay_spool.proofs.PartLemmas.{part_on}
use Rattle.relay_spool.proofs.cursor.part.read_on.Goals as goal

pub returns-clause-part : goal.returns-clause-part
returns-clause-part g c = λ honest left bodies part has.
    let words = g.D.Disk.words in
    let old = c.args.disks.now in
    let turned = c.turn.new.self.first in
    let same = shown g.D.Disk.honest words c.args.side old turned (λ h. c.turn.ensures.mine_there.seen h) honest in
    part_on c.read_on_one-octets.result (words.seen turned) (seen_of words old) c.args.side c.args.reader.now.place c.read_on_one-octets.new.reader.place c.args.count left bodies part same
    has (c.read_on_one-octets.ensures.part honest left bodies part)
