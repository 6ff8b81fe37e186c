use Rattle.std.proofs.Common.{◌≡◌, ◌<◌, true, false, length, rules}
use Rattle.std.specs.Prelude.{slice_index_or}
use Rattle.relay_events.specs.Relays.{world_of}
use Rattle.relay_hosts.specs.Links.{is_untold}
use Rattle.relay_events.proofs.TellLemmas.{first_of_all, told_at_first, told_of_all, told_one_more}
use Rattle.relay_events.proofs.relays.Relays.first_untold.Goals as goal

pub loop-place-init : goal.loop-place-init
loop-place-init g c = told_at_first (world_of c.args.self.now)

pub loop-place-preserved : goal.loop-place-preserved
loop-place-preserved g c =
    let link = c.index.result.now in
    let within : c.loop-place.place < length c.args.self.now.links.items = search rules in
    let there : link ≡ slice_index_or c.args.self.now.links.items c.loop-place.place link = search rules in
    let its : is_untold c.args.self.now.attempts.items link ≡ false = search rules in
    told_one_more (world_of c.args.self.now) c.loop-place.place link c.loop-place.invariant within there its

pub returns-then-is_untold : goal.returns-then-is_untold
returns-then-is_untold g c =
    let link = c.index.result.now in
    let within : c.loop-place.place < length c.args.self.now.links.items = search rules in
    let there : link ≡ slice_index_or c.args.self.now.links.items c.loop-place.place link = search rules in
    let its : is_untold c.args.self.now.attempts.items link ≡ true = search rules in
    first_of_all (world_of c.args.self.now) c.loop-place.place link c.loop-place.invariant within there its

pub returns : goal.returns
returns g c =
    let all : c.loop-place.place ≡ length c.args.self.now.links.items = search rules in
    told_of_all (world_of c.args.self.now) c.loop-place.place all c.loop-place.invariant
