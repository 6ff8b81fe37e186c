use Rattle.std.proofs.Common.{ℕ, List, sym, subst}
use Rattle.relay_disk.specs.Disks.{seen_of}
use Rattle.relay_spool.specs.Cursor.{HasReadOne}
use Rattle.relay_spool.proofs.CursorLemmas.{refuses, shown}
use Rattle.relay_spool.proofs.cursor.part.begin_next.Goals as goal

pub returns-clause-refused : goal.returns-clause-refused
returns-clause-refused g c = λ bodies has.
    let words = g.D.Disk.words in
    let old = c.args.disks.now in
    let turned = c.turn.new.self.first in
    let place = c.args.reader.now.place in
    let same = shown g.D.Disk.honest words c.args.side old turned (λ h. c.turn.ensures.mine_there.seen h) in
    refuses g.D.Disk.honest c.begin_one-left.result (seen_of words old) (words.seen turned) c.args.side place bodies same has
    (c.begin_one-left.ensures.refused bodies (λ h. subst (λ (octets : List ℕ). HasReadOne octets place bodies) (sym (same h)) (has h).has))
