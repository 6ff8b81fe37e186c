use Rattle.std.proofs.Common.{◌≡◌, true, false, length, bytes_eq, rules}
use Rattle.relay_hosts.proofs.NamedLemmas.{first_named, none_at_first, none_of_all, none_one_more}
use Rattle.relay_hosts.proofs.named.node_named.Goals as goal

pub loop-node-init : goal.loop-node-init
loop-node-init g c = none_at_first c.args.hosts.now c.args.name.now

pub loop-node-preserved : goal.loop-node-preserved
loop-node-preserved g c =
    let host = c.index-hosts-node.result in
    let within = c.loop-node-test.true in
    let there = c.index-hosts-node.is in
    let its : bytes_eq host.config.host c.args.name.now ≡ false = search rules in
    none_one_more c.args.hosts.now c.args.name.now c.loop-node.node host c.loop-node.invariant within there its

pub returns-then-has_name : goal.returns-then-has_name
returns-then-has_name g c =
    let host = c.index-hosts-node.result in
    let within = c.loop-node-test.true in
    let there = c.index-hosts-node.is in
    let its : bytes_eq host.config.host c.args.name.now ≡ true = search rules in
    first_named c.args.hosts.now c.args.name.now c.loop-node.node host c.loop-node.invariant within there its

pub returns : goal.returns
returns g c =
    let all : c.loop-node.node ≡ length c.args.hosts.now = search rules in
    none_of_all c.args.hosts.now c.args.name.now c.loop-node.node all c.loop-node.invariant
