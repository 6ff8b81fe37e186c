use Rattle.relay_spool.proofs.PartLemmas.{begins}
use Rattle.relay_spool.proofs.cursor.part.begin_one.Goals as goal

pub returns-in-Some-clause-begun : goal.returns-in-Some-clause-begun
returns-in-Some-clause-begun g c = λ honest bodies has.
    let gate = rw c.in-Some.is at c.in_ok-found.ensures.begun honest in
    let way = rw c.in-Some.is at c.in_ok-found.ensures.place in
    begins (g.D.Disk.words.seen c.args.disk.now) c.args.reader.now.size c.args.reader.now.place c.next_length.new.reader.place c.in-Some.left bodies has gate way
