use Rattle.relay_routes.proofs.ItemLemmas.{each_gives, networks_more}
use Rattle.relay_routes.proofs.document.read_networks.Goals as goal

pub returns-in-None : goal.returns-in-None
returns-in-None c = each_gives c.args.values.now c.loop-value.value-index c.value-item.result c.loop-value-test.true c.value-item.is c.in-None.ensures

pub loop-value-preserved : goal.loop-value-preserved
loop-value-preserved c =
    rw c.in_ok-push-in-Some.ensures.items
    (networks_more c.args.values.now c.loop-value.networks.items c.loop-value.value-index c.value-item.result c.in-Some.network c.loop-value-test.true c.value-item.is c.loop-value.invariant
    c.in-Some.ensures)
