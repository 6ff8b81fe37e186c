use Rattle.std.proofs.Common.{◌≡◌, ◌-◌, [], true, false, length, sym, ap, ◌∙◌, arith, rules}
use Rattle.std.specs.Prelude.{List, vec_len}
use Rattle.std.proofs.lemmas.List.{append-nil, length-append}
use Rattle.relay_world.specs.declared.link.Link.{Link}
use Rattle.relay_world.specs.Once.{Ends}
use Rattle.relay_events.specs.Relays.{world_of}
use Rattle.relay_world.specs.declared.attempt.Attempt.{Attempt}
use Rattle.relay_events.specs.Told.{Ends as EndTold, trying_of}
use Rattle.relay_hosts.specs.Links.{hears_on}
use Rattle.relay_events.proofs.CarriedLemmas.{some_told}
use Rattle.relay_events.proofs.EndLemmas.{tries_there}
use Rattle.relay_events.proofs.PlaceLemmas.{link_same, link_there, number_positive}
use Rattle.relay_events.proofs.RunLemmas.{one_happened, still_bound}
use Rattle.relay_events.proofs.TellLemmas.{get_within}
use Rattle.relay_events.proofs.TryingLemmas.{tells_fewer}
use Rattle.relay_events.specs.Carried.{stops_by}
use Rattle.relay_events.proofs.relays.Relays.tell_one.Goals as goal

pub overflow_sub-number : goal.overflow_sub-number
overflow_sub-number g c = number_positive c.args.self.now.links.items c.args.number c.requires.first.link c.requires.first.link_is

pub index-requires : goal.index-requires
index-requires g c =
    let first = c.requires.first in
    let links = c.args.self.now.links.items in
    let within = get_within links (c.args.number - 1) first.link (link_there links c.args.number first.link first.link_is) in
    let len : length links ≡ vec_len c.args.self.now.links = search rules in
    omega (arith, within, len)

pub end_session-requires-clause-hears : goal.end_session-requires-clause-hears
end_session-requires-clause-hears g c =
    let first = c.requires.first in
    let links = c.args.self.now.links.items in
    let read = c.index.result.now in
    let same = link_same links c.args.number first.link read first.link_is c.index.ensures in
    let hears : hears_on read.server ≡ true = search rules in
    record { link = first.link; link_is = first.link_is; hears = ap (λ (l : Link). hears_on l.server) (sym same) ∙ hears }

pub lose_attempt-loss-requires-clause-tries : goal.lose_attempt-loss-requires-clause-tries
lose_attempt-loss-requires-clause-tries g c =
    let first = c.requires.first in
    let links = c.args.self.now.links.items in
    let read = c.index.result.now in
    let same = link_same links c.args.number first.link read first.link_is c.index.ensures in
    let silent : hears_on read.server ≡ false = search rules in
    tries_there (world_of c.args.self.now) c.args.number first (ap (λ (l : Link). hears_on l.server) (sym same) ∙ silent)

pub returns-then-hears_on-clause-told : goal.returns-then-hears_on-clause-told
returns-then-hears_on-clause-told g c = ([], EndTold c.end_session.ensures.told, sym (append-nil c.args.stopped.now))

pub list_loss-requires : goal.list_loss-requires
list_loss-requires g c =
    let room = c.requires.list in
    let less = tells_fewer g.D.Disk.honest g.D.Disk.words (world_of c.args.self.now) (world_of c.lose_attempt-loss.new.self)
    c.args.number c.lose_attempt-loss.result c.requires.bound.few c.lose_attempt-loss.ensures.told in
    omega (arith, room, less)

pub returns-clause-told : goal.returns-clause-told
returns-clause-told g c =
    some_told g.D.Disk.honest g.D.Disk.words (world_of c.args.self.now) (world_of c.lose_attempt-loss.new.self) c.args.number
    c.args.stopped.now c.list_loss.new.stopped c.lose_attempt-loss.result c.lose_attempt-loss.ensures.told
    c.list_loss.ensures

pub returns-then-hears_on-clause-happened : goal.returns-then-hears_on-clause-happened
returns-then-hears_on-clause-happened g c =
    one_happened g.D.Disk.honest g.D.Disk.words (world_of c.args.self.now) (world_of c.end_session.new.self)
    (Ends c.args.number c.end_session.ensures.told)

pub returns-then-hears_on-clause-bound : goal.returns-then-hears_on-clause-bound
returns-then-hears_on-clause-bound g c =
    still_bound g.D.Disk.honest g.D.Disk.words c.requires.honest c.runs_keep_all.ensures (world_of c.args.self.now)
    (world_of c.end_session.new.self) c.requires.bound
    (one_happened g.D.Disk.honest g.D.Disk.words (world_of c.args.self.now) (world_of c.end_session.new.self)
    (Ends c.args.number c.end_session.ensures.told))

pub returns-clause-bound : goal.returns-clause-bound
returns-clause-bound g c =
    still_bound g.D.Disk.honest g.D.Disk.words c.requires.honest c.runs_keep_all.ensures (world_of c.args.self.now)
    (world_of c.lose_attempt-loss.new.self) c.requires.bound c.lose_attempt-loss.ensures.happened

pub returns-clause-list : goal.returns-clause-list
returns-clause-list g c =
    let room = c.requires.list in
    let less = tells_fewer g.D.Disk.honest g.D.Disk.words (world_of c.args.self.now) (world_of c.lose_attempt-loss.new.self)
    c.args.number c.lose_attempt-loss.result c.requires.bound.few c.lose_attempt-loss.ensures.told in
    let listed = ap length c.list_loss.ensures
    ∙ length-append c.args.stopped.now (stops_by c.lose_attempt-loss.result) in
    omega (arith, room, less, listed)

pub returns-then-hears_on-clause-list : goal.returns-then-hears_on-clause-list
returns-then-hears_on-clause-list g c =
    let same = ap (λ (l : List Attempt). trying_of 16 l) c.end_session.ensures.told.rest.0 in
    let room = c.requires.list in
    omega (arith, same, room)
