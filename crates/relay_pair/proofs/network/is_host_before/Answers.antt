use Rattle.std.proofs.Common.{◌≡◌, true, false, bytes_eq, arith, rules}
use Rattle.relay_pair.proofs.NetworkLemmas.{host_found, no_host_before, none_before_first, none_before_more}
use Rattle.relay_pair.proofs.network.is_host_before.Goals as goal

pub loop-one-init : goal.loop-one-init
loop-one-init c = none_before_first c.args.configs.now c.args.other

pub loop-one-preserved : goal.loop-one-preserved
loop-one-preserved c =
    let one = c.index-configs-one.result in
    let second = c.index-configs-other.result in
    let differ : bytes_eq one.host second.host ≡ false = search rules in
    none_before_more c.args.configs.now c.args.other c.loop-one.one one second c.loop-one.invariant (omega arith)
    c.index-configs-one.is c.requires c.index-configs-other.is differ

pub returns-then-eq : goal.returns-then-eq
returns-then-eq c =
    let one = c.index-configs-one.result in
    let second = c.index-configs-other.result in
    let same : bytes_eq one.host second.host ≡ true = search rules in
    host_found c.args.configs.now c.args.other c.loop-one.one one second c.loop-one-test.true c.requires
    c.index-configs-one.is c.index-configs-other.is same

pub returns : goal.returns
returns c = no_host_before c.args.configs.now c.args.other c.loop-one.one c.loop-one-test.false c.loop-one.invariant
