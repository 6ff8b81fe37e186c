use Rattle.relay_book.specs.Record.{ruling_octets}
use Rattle.relay_book.proofs.RowLemmas.{flat_end, flat_step}
use Rattle.relay_book.proofs.encode.push_rulings.Goals as goal

pub loop-ruling-preserved : goal.loop-ruling-preserved
loop-ruling-preserved c =
    flat_step ruling_octets c.args.rulings.now c.loop-ruling.ruling-index c.ruling-item.result c.loop-ruling.out.items c.push_ruling.new.out.items _ c.loop-ruling-test.true
    c.ruling-item.is c.loop-ruling.invariant c.in_ok-push_ruling.ensures

pub returns : goal.returns
returns c =
    flat_end ruling_octets c.args.rulings.now c.loop-ruling.ruling-index c.args.out.now.items c.push_1.new.out.items c.loop-ruling.out.items c.loop-ruling-test.false
    c.in_ok-push_1.ensures c.loop-ruling.invariant
