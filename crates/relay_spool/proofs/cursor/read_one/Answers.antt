use Rattle.relay_spool.proofs.CursorLemmas.{read_more}
use Rattle.relay_spool.proofs.cursor.read_one.Goals as goal

pub returns-in-Some-clause-next : goal.returns-in-Some-clause-next
returns-in-Some-clause-next g c = λ honest bodies has.
    let link = rw c.in-Some.is at c.in_ok-found.ensures.link honest in
    let way = rw c.in-Some.is at c.in_ok-found.ensures.place in
    read_more (g.D.Disk.words.seen c.args.disk.now) c.args.reader.now.size c.args.reader.now.place c.next_body.new.reader.place bodies c.in-Some.body has link way
