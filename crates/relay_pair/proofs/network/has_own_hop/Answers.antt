use Rattle.relay_pair.proofs.NetworkLemmas.{no_own_hop, none_sends_home, none_sends_more, own_hop_found}
use Rattle.relay_pair.proofs.network.has_own_hop.Goals as goal

pub loop-at-init : goal.loop-at-init
loop-at-init c = none_sends_home c.args.configs.now

pub loop-at-preserved : goal.loop-at-preserved
loop-at-preserved c =
    none_sends_more c.args.configs.now c.loop-at.at c.index-configs-at.result c.loop-at.invariant c.loop-at-test.true
    c.index-configs-at.is c.if-sends_home.ensures

pub returns-then-sends_home : goal.returns-then-sends_home
returns-then-sends_home c =
    own_hop_found c.args.configs.now c.loop-at.at c.index-configs-at.result c.loop-at-test.true c.index-configs-at.is
    c.if-sends_home.ensures

pub returns : goal.returns
returns c = no_own_hop c.args.configs.now c.loop-at.at c.loop-at-test.false c.loop-at.invariant
