use Rattle.std.proofs.Common.{arith}
use Rattle.relay_pair.proofs.NetworkLemmas.{no_one_host, none_more, none_so_far}
use Rattle.relay_pair.proofs.network.have_one_host.Goals as goal

pub loop-other-init : goal.loop-other-init
loop-other-init c = none_so_far c.args.configs.now 1 (omega arith)

pub loop-other-preserved : goal.loop-other-preserved
loop-other-preserved c =
    none_more c.args.configs.now c.loop-other.other c.loop-other.invariant c.if-is_host_before.ensures

pub returns : goal.returns
returns c = no_one_host c.args.configs.now c.loop-other.other c.loop-other-test.false c.loop-other.invariant
