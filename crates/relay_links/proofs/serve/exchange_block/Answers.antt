-- One read, and the answers to it.
use Rattle.std.proofs.Common.{◌<◌, rules, [], length, take, refl}
use Rattle.relay_links.proofs.LinkLemmas.{breaks, ends, read_none, read_nothing, reads}
use Rattle.relay_links.specs.declared.fault.LinkFault.TheVariants.{Input}
use Rattle.relay_links.proofs.serve.exchange_block.Goals as goal

pub returns-in-Ok-eq0-clause-goes_on : goal.returns-in-Ok-eq0-clause-goes_on
returns-in-Ok-eq0-clause-goes_on g c = λ start h.
    let room : 0 < length c.read.new.buf = search rules in
    ends g.D.Disk.honest g.D.Disk.words start c.args.now c.args.session _ _ _ c.args.node.now h (read_none _ _ c.read.new.buf c.in-Ok-eq0.field-0 c.in-Ok-eq0.ensures.bytes.0 c.in-Ok-eq0.field-0-test) (c.in-Ok-eq0.ensures.bytes.1 c.in-Ok-eq0.field-0-test room)

pub returns-in-Err-clause-goes_on : goal.returns-in-Err-clause-goes_on
returns-in-Err-clause-goes_on g c = λ start h.
    let none = read_nothing _ _ c.in-Err.ensures.bytes in
    let same = reads g.D.Disk.honest g.D.Disk.words start c.args.now c.args.session _ _ _ [] c.args.node.now h none in
    breaks g.D.Disk.honest g.D.Disk.words start c.args.now c.args.session _ _ [] c.args.node.now c.args.node.now.records Input same refl (λ e. absurd cc) (λ e. absurd cc)

pub returns-clause-goes_on : goal.returns-clause-goes_on
returns-clause-goes_on g c = λ start h.
    c.answer_block.ensures.goes_on start _ (reads g.D.Disk.honest g.D.Disk.words start c.args.now c.args.session _ _ _ (take c.in-Ok.count c.read.new.buf) c.args.node.now h c.in-Ok.ensures.bytes.0)
