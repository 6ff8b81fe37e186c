use Rattle.std.proofs.Common.{◌≡◌, ◌<◌, ◌∙◌, sym, true, false, rules}
use Rattle.std.specs.Prelude.{slice_get}
use Rattle.relay_events.specs.FirstFault.{carry_idles}
use Rattle.relay_hosts.specs.Host.{is_up}
use Rattle.relay_events.specs.Relays.{world_of}
use Rattle.relay_events.proofs.FaultLemmas.{down_then, goes_then, idles_then, up_then}
use Rattle.relay_events.proofs.relays.Relays.carry_to.Goals as goal

pub returns-then-not-is_up : goal.returns-then-not-is_up
returns-then-not-is_up g c =
    let world = world_of c.args.self.now in
    let down : is_up (slice_get world.hosts c.args.node) ≡ false = search rules in
    sym (down_then world c.args.node (carry_idles world c.args.count c.args.idles) down)

pub returns-then-idles : goal.returns-then-idles
returns-then-idles g c =
    let world = world_of c.args.self.now in
    let up : is_up (slice_get world.hosts c.args.node) ≡ true = search rules in
    let idles : c.args.idles ≡ true = search rules in
    sym (up_then world c.args.node (carry_idles world c.args.count c.args.idles) up
    ∙ idles_then world c.args.node c.args.count c.args.idles idles)

pub returns : goal.returns
returns g c =
    let world = world_of c.args.self.now in
    let up : is_up (slice_get world.hosts c.args.node) ≡ true = search rules in
    let goes : c.args.idles ≡ false = search rules in
    let some : 0 < c.args.count = search rules in
    sym (up_then world c.args.node (carry_idles world c.args.count c.args.idles) up
    ∙ goes_then world c.args.node c.args.count c.args.idles some goes)
