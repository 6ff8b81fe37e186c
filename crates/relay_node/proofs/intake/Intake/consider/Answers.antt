-- The open offer may be stored.
use Rattle.std.proofs.Common.{◌≡◌, ◌∷◌, [], rules}
use Rattle.relay_server.specs.Session.{offered, open_offers}
use Rattle.relay_node.proofs.intake.Intake.consider.Goals as goal

pub weigh-requires : goal.weigh-requires
weigh-requires c =
    let is_open : open_offers c.args.session.now ≡ offered c.in-Some.offer ∷ [] = search rules in
    (c.args.self.now.config.now, c.args.self.now.peer, c.requires.stored (offered c.in-Some.offer) is_open)
