-- One read, and what the attempt makes of it.
use Rattle.std.proofs.Common.{◌<◌, rules, [], length, take}
use Rattle.relay_links.proofs.LinkLemmas.{read_none}
use Rattle.relay_links.proofs.PushLemmas.{read_on}
use Rattle.relay_links.proofs.push.exchange_block.Goals as goal

pub returns-in-Ok-eq0-clause-goes : goal.returns-in-Ok-eq0-clause-goes
returns-in-Ok-eq0-clause-goes g c = λ start h.
    let room : 0 < length c.read.new.buf = search rules in (
      c.in-Ok-eq0.ensures.bytes.1 c.in-Ok-eq0.field-0-test room,
      read_on g.D.Disk.honest g.D.Disk.words start c.args.now c.args.attempt _ _ _ [] c.args.node.now h (read_none _ _ c.read.new.buf c.in-Ok-eq0.field-0 c.in-Ok-eq0.ensures.bytes.0 c.in-Ok-eq0.field-0-test),
    )

pub returns-clause-goes : goal.returns-clause-goes
returns-clause-goes g c = λ start h.
    c.answer.ensures.goes start _ (read_on g.D.Disk.honest g.D.Disk.words start c.args.now c.args.attempt _ _ _ (take c.in-Ok.count c.read.new.buf) c.args.node.now h c.in-Ok.ensures.bytes.0)
