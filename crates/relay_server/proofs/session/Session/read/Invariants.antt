-- what has been used so far is what the session has heard
use Rattle.std.proofs.Common.{◌≡◌, ◌≤◌, ◌-◌, true, false, length, take}
use Rattle.relay_server.specs.Dialogue.{Said}
use Rattle.relay_server.specs.Setup.{Setup}
use Rattle.relay_server.specs.Machine.{is_reading}
use Rattle.relay_server.specs.Session.{Hears, Stands}
use Rattle.relay_server.proofs.session.Session.read.Given as goal

abbrev pub invariant-loop-used : goal.invariant-loop-used
invariant-loop-used l = record {
  within : l.used ≤ length l.piece;
  began : is_reading l.self.stage ≡ true → is_reading l.initial.self.stage ≡ true;
  still : is_reading l.initial.self.stage ≡ false → (l.self ≡ l.initial.self) × (l.out.items ≡ l.initial.out.items) × (l.used ≡ 0);
  idle : l.used ≡ 0 → l.self ≡ l.initial.self;
  hears : (setup : Setup) (said : Said) → setup.routes ≡ l.table → Stands setup l.initial.self said
      → Hears setup said l.initial.self l.self (take l.used l.piece) l.initial.out.items l.out.items;
}

abbrev pub decreases-loop-used : goal.decreases-loop-used
decreases-loop-used l = length l.piece - l.used
