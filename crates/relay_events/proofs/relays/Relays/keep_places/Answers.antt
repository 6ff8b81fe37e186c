use Rattle.std.proofs.Common.{refl}
use Rattle.relay_events.specs.Relays.{world_of}
use Rattle.relay_events.proofs.GiveLemmas.{same_parts}
use Rattle.relay_events.proofs.relays.Relays.keep_places.Goals as goal

pub returns-in_default-clause-world : goal.returns-in_default-clause-world
returns-in_default-clause-world g c =
    let old = world_of c.args.self.now in
    same_parts old c.reserve.new.self.items old.attempts old.ledger c.reserve.ensures.items refl refl

pub returns-clause-world : goal.returns-clause-world
returns-clause-world g c =
    let old = world_of c.args.self.now in
    same_parts old c.reserve.new.self.items c.reserve-2.new.self.items old.ledger c.reserve.ensures.items
    c.reserve-2.ensures.items refl
