-- The line is made of its two parts.
use Rattle.relay_run.specs.Holding.{expiry_of}
use Rattle.relay_run.proofs.HoldingLemmas.{held_line_of}
use Rattle.relay_run.proofs.holding.held_line.Goals as goal

pub returns : goal.returns
returns g c =
    held_line_of c.args.is_new (expiry_of c.args.relay.now.node c.args.scope.now) c.expiry_of.result c.new-line.result.items c.extend_from_slice.new.self.items
    c.push_expiry.new.line.items c.beginning.result.now c.new-line.ensures.items c.in_ok-extend_from_slice.ensures.items c.beginning.ensures c.expiry_of.ensures
    c.in_ok-push_expiry.ensures
