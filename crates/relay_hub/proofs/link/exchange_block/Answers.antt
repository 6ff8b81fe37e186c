-- One read, and the answers to it.
use Rattle.std.proofs.Common.{◌<◌, rules, [], length, take, refl, inr}
use Rattle.relay_hub.proofs.LinkLemmas.{breaks_off, ends, read_none, read_nothing, reads}
use Rattle.relay_hub.proofs.link.exchange_block.Goals as goal

pub returns-in-Ok-eq0-clause-goes_on : goal.returns-in-Ok-eq0-clause-goes_on
returns-in-Ok-eq0-clause-goes_on g c = λ start h.
    let room : 0 < length c.read.new.buf = search rules in
    ends g.J.Opening.has_answered c.args.terms.now.config.now c.args.terms.now.peer c.args.terms.now.at start c.args.session.now _ _ _ c.args.pass.now h c.requires.history.1.settled (read_none _ _ c.read.new.buf c.in-Ok-eq0.field-0 c.in-Ok-eq0.ensures.bytes.0 c.in-Ok-eq0.field-0-test)
    (c.in-Ok-eq0.ensures.bytes.1 c.in-Ok-eq0.field-0-test room)

pub returns-in-Err-clause-goes_on : goal.returns-in-Err-clause-goes_on
returns-in-Err-clause-goes_on g c = λ start h.
    let none = read_nothing _ _ c.in-Err.ensures.bytes in
    let same = reads g.J.Opening.has_answered c.args.terms.now.config.now c.args.terms.now.peer c.args.terms.now.at start c.args.session.now _ _ _ [] c.args.pass.now h none in
    breaks_off g.J.Opening.has_answered c.args.terms.now.config.now c.args.terms.now.peer c.args.terms.now.at start c.args.session.now _ _ [] [] c.args.pass.now _ same (inr (refl, refl))

pub returns-clause-goes_on : goal.returns-clause-goes_on
returns-clause-goes_on g c = λ start h.
    c.answer_block.ensures.goes_on start _ (reads g.J.Opening.has_answered c.args.terms.now.config.now c.args.terms.now.peer c.args.terms.now.at start c.args.session.now _ _ _ (take c.in-Ok.count c.read.new.buf) c.args.pass.now h c.in-Ok.ensures.bytes.0)
