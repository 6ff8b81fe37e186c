use Rattle.relay_routes.proofs.NetworkLemmas.{network_at}
use Rattle.relay_routes.proofs.network.Network.at.Goals as goal

pub returns-in-Ok : goal.returns-in-Ok
returns-in-Ok c = network_at c.args.address.now c.args.prefix_length c.in-Ok.first c.new.result c.in-Ok.ensures c.new.ensures

pub returns-in-Err : goal.returns-in-Err
returns-in-Err c = λ network at. c.in-Err.ensures network.first at.first
