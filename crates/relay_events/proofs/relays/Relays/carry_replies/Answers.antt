use Rattle.std.proofs.Common.{◌≡◌, ◌-◌, drop, true, false, length, arith, rules}
use Rattle.std.specs.Prelude.{vec_len}
use Rattle.relay_hosts.specs.Links.{is_nil}
use Rattle.relay_events.specs.Relays.{world_of}
use Rattle.relay_events.proofs.CarriedLemmas.{tries_at, waits_on}
use Rattle.relay_events.proofs.PlaceLemmas.{link_there, number_positive}
use Rattle.relay_events.proofs.TellLemmas.{get_within}
use Rattle.relay_events.proofs.relays.Relays.carry_replies.Goals as goal

pub overflow_sub-number : goal.overflow_sub-number
overflow_sub-number g c =
    number_positive c.args.self.now.links.items c.args.number c.requires.tries.link c.requires.tries.link_is

pub index-link-requires : goal.index-link-requires
index-link-requires g c =
    let tries = c.requires.tries in
    let links = c.args.self.now.links.items in
    let within = get_within links (c.args.number - 1) tries.link (link_there links c.args.number tries.link tries.link_is) in
    let len : length links ≡ vec_len c.args.self.now.links = search rules in
    omega (arith, within, len)

pub tell_end-requires-clause-tries : goal.tell_end-requires-clause-tries
tell_end-requires-clause-tries g c = tries_at (world_of c.args.self.now) c.args.number c.requires.tries

pub returns-clause-carries : goal.returns-clause-carries
returns-clause-carries g c node at =
    let link = c.index-link.result.now in
    let some : is_nil (drop link.down_read link.down) ≡ false = search rules in
    c.read_replies.ensures.carries node
    (waits_on (world_of c.args.self.now) c.args.number node at link false c.index-link.ensures some)

pub returns-then-is_read-clause-carries : goal.returns-then-is_read-clause-carries
returns-then-is_read-clause-carries g c node at =
    let link = c.index-link.result.now in
    let none : is_nil (drop link.down_read link.down) ≡ true = search rules in
    c.tell_end.ensures.carries node c.args.count
    (waits_on (world_of c.args.self.now) c.args.number node at link true c.index-link.ensures none)
