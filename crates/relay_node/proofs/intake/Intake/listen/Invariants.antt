-- what has been used so far was listened to, and each offer was refused
use Rattle.std.proofs.Common.{◌≡◌, ◌≤◌, ◌-◌, [], length, take}
use Rattle.relay_server.specs.Dialogue.{Said}
use Rattle.relay_server.specs.Session.{Stands, open_offers}
use Rattle.relay_server.specs.Setup.{setup_for}
use Rattle.relay_node.specs.Listening.{HasListened}
use Rattle.relay_node.proofs.intake.Intake.listen.Given as goal

abbrev pub invariant-rounds : goal.invariant-rounds
invariant-rounds l = record {
  within : l.used ≤ length l.piece;
  settled : open_offers l.session ≡ [];
  so_far : (said : Said) → Stands (setup_for l.self.config.now l.self.peer) l.initial.session said
      → HasListened l.self said l.session (take l.used l.piece) l.out.items;
}

-- each round uses an octet
abbrev pub decreases-rounds : goal.decreases-rounds
decreases-rounds l = length l.piece - l.used
