use Rattle.std.proofs.Common.{◌≡◌, [], ◌∷◌, ◌++◌, codes}
use Rattle.relay_pair.specs.Profiles.{address_of, host_of, node_after, route_to}
use Rattle.relay_events.specs.Step.{outside_address}
use Rattle.relay_pair.proofs.ProfileLemmas.{three_more}
use Rattle.relay_pair.proofs.profile.add_rest.Goals as goal

pub returns-clause-routes : goal.returns-clause-routes
returns-clause-routes c =
    let next = node_after c.args.count c.args.node in
    let loop = route_to (codes "loop.example") (host_of next) (address_of next) in
    let own = route_to (host_of c.args.node) (codes "out.example") outside_address in
    let out = route_to (codes "out.example") (codes "out.example") outside_address in
    let first : c.add_lowered.new.routes.routes ≡ c.args.routes.now.routes ++ loop ∷ [] =
    cc (c.in_ok-add_lowered.ensures.route) in
    let second : c.add_lowered-2.new.routes.routes ≡ c.add_lowered.new.routes.routes ++ own ∷ [] =
    cc (c.in_ok-add_lowered-2.ensures.route) in
    three_more c.args.routes.now.routes c.add_lowered.new.routes.routes c.add_lowered-2.new.routes.routes
    c.add_lowered-3.new.routes.routes loop own out first second c.in_ok-add_lowered-3.ensures.route
