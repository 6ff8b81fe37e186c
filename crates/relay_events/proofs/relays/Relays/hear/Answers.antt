use Rattle.std.proofs.Common.{◌≡◌, ◌-◌, length, subst, sym, ap, arith, rules}
use Rattle.std.specs.Prelude.{slice_index_or, slice_set, vec_capacity, vec_len}
use Rattle.relay_world.specs.World.{World}
use Rattle.relay_events.specs.Act.{did_of}
use Rattle.relay_events.specs.Happened.{HasHappened}
use Rattle.relay_events.specs.Relays.{free_lines, world_of}
use Rattle.relay_hosts.specs.Room.{HasRoom}
use Rattle.relay_events.specs.Step.{Carries, Refuses}
use Rattle.relay_events.proofs.CrashHeardLemmas.{cut_short, ready_to_crash, restart_carries, restart_happened}
use Rattle.relay_events.proofs.HearLemmas.{cut_there, gone_carries, gone_happened, gone_room, heard_carries, heard_happened, heard_room, may_read, uncalled}
use Rattle.relay_events.proofs.PlaceLemmas.{link_same, link_there, number_positive}
use Rattle.relay_events.proofs.RunLemmas.{none_happened}
use Rattle.relay_events.proofs.TellLemmas.{get_within}
use Rattle.relay_events.proofs.relays.Relays.hear.Goals as goal

pub call_to_hear-requires-clause-hears : goal.call_to_hear-requires-clause-hears
call_to_hear-requires-clause-hears g c =
    record { link = c.requires.waits.link; link_is = c.requires.waits.link_is; hears = c.requires.waits.hears }

pub take_heard-requires-clause-there : goal.take_heard-requires-clause-there
take_heard-requires-clause-there g c =
    may_read g.D.Disk.honest g.D.Disk.words (world_of c.args.self.now) (world_of c.call_to_hear.new.self) c.args.number c.args.node
    c.args.count c.requires.waits c.in-Done.received c.in-Done.recorded c.in-Done.ensures.called c.requires.bound

pub take_heard-requires-clause-room : goal.take_heard-requires-clause-room
take_heard-requires-clause-room g c =
    let room = c.requires.room in
    let len = ap (λ l. vec_len l) c.call_to_hear.ensures.ledger in
    let capacity = ap (λ l. vec_capacity l) c.call_to_hear.ensures.ledger in
    omega (arith, room, len, capacity)

pub returns-in-Done-clause-carries : goal.returns-in-Done-clause-carries
returns-in-Done-clause-carries g c =
    heard_carries g.D.Disk.honest g.D.Disk.words (world_of c.args.self.now) (world_of c.call_to_hear.new.self) c.args.number
    c.args.node c.args.count c.requires.waits c.in-Done.received c.in-Done.recorded c.in-Done.ensures.called
    (world_of c.take_heard.new.self) (did_of c.take_heard.result) c.take_heard.ensures.takes

pub returns-in-Done-clause-happened : goal.returns-in-Done-clause-happened
returns-in-Done-clause-happened g c =
    heard_happened g.D.Disk.honest g.D.Disk.words (world_of c.args.self.now) (world_of c.call_to_hear.new.self) c.args.number
    c.args.node c.args.count c.requires.waits c.in-Done.received c.in-Done.recorded c.in-Done.ensures.called
    (world_of c.take_heard.new.self) (did_of c.take_heard.result) c.take_heard.ensures.takes

pub returns-in-Done-clause-room : goal.returns-in-Done-clause-room
returns-in-Done-clause-room g c =
    let len = ap (λ l. vec_len l) c.call_to_hear.ensures.ledger in
    let capacity = ap (λ l. vec_capacity l) c.call_to_hear.ensures.ledger in
    let more = c.take_heard.ensures.len in
    let still = c.take_heard.ensures.capacity in
    heard_room g.D.Disk.honest g.D.Disk.words (world_of c.args.self.now) (world_of c.call_to_hear.new.self) c.args.number
    c.args.node c.args.count c.requires.waits c.in-Done.received c.in-Done.recorded c.in-Done.ensures.called
    (world_of c.take_heard.new.self) (did_of c.take_heard.result) c.take_heard.ensures.takes (free_lines c.args.self.now)
    (free_lines c.take_heard.new.self) c.requires.room (omega (arith, len, capacity, more, still))

pub overflow_sub-number : goal.overflow_sub-number
overflow_sub-number g c =
    number_positive c.args.self.now.links.items c.args.number c.requires.waits.link c.requires.waits.link_is

pub index_mut-requires : goal.index_mut-requires
index_mut-requires g c =
    let links = c.call_to_hear.new.self.links.items in
    let link_is = cut_there g.D.Disk.honest g.D.Disk.words (world_of c.args.self.now) (world_of c.call_to_hear.new.self)
    c.args.number c.args.node c.args.count c.requires.waits c.in-Gone.fault c.in-Gone.ensures.called in
    let within = get_within links (c.args.number - 1) c.in-Gone.ensures.called.of.link
    (link_there links c.args.number c.in-Gone.ensures.called.of.link link_is) in
    let len : length links ≡ vec_len c.call_to_hear.new.self.links = search rules in
    omega (arith, within, len)

pub returns-in-Gone-clause-carries : goal.returns-in-Gone-clause-carries
returns-in-Gone-clause-carries g c =
    let called = world_of c.call_to_hear.new.self in
    let old = world_of c.args.self.now in
    let link = c.in-Gone.ensures.called.of.link in
    let link_is = cut_there g.D.Disk.honest g.D.Disk.words old called c.args.number c.args.node c.args.count c.requires.waits
    c.in-Gone.fault c.in-Gone.ensures.called in
    let read = c.index_mut.result.now in
    let at : read ≡ slice_index_or called.links (c.args.number - 1) read = search rules in
    let same = link_same called.links c.args.number link read link_is at in
    let done = gone_carries g.D.Disk.honest g.D.Disk.words old called c.args.number c.args.node c.args.count c.requires.waits
    c.in-Gone.fault c.in-Gone.ensures.called read same c.cut_off.new.link c.cut_off.ensures in
    subst (λ f. Carries g.D.Disk.honest g.D.Disk.words old c.args.number c.args.node c.args.count
    (record called { links = slice_set called.links (c.args.number - 1) c.cut_off.new.link }) (Refuses f))
    (sym c.fault_of.ensures) done

pub returns-in-Gone-clause-happened : goal.returns-in-Gone-clause-happened
returns-in-Gone-clause-happened g c =
    let called = world_of c.call_to_hear.new.self in
    let old = world_of c.args.self.now in
    let link = c.in-Gone.ensures.called.of.link in
    let link_is = cut_there g.D.Disk.honest g.D.Disk.words old called c.args.number c.args.node c.args.count c.requires.waits
    c.in-Gone.fault c.in-Gone.ensures.called in
    let read = c.index_mut.result.now in
    let at : read ≡ slice_index_or called.links (c.args.number - 1) read = search rules in
    let same = link_same called.links c.args.number link read link_is at in
    gone_happened g.D.Disk.honest g.D.Disk.words old called c.args.number c.args.node c.args.count c.requires.waits
    c.in-Gone.fault c.in-Gone.ensures.called read same c.cut_off.new.link c.cut_off.ensures

pub returns-in-Gone-clause-room : goal.returns-in-Gone-clause-room
returns-in-Gone-clause-room g c =
    let len = ap (λ l. vec_len l) c.call_to_hear.ensures.ledger in
    let capacity = ap (λ l. vec_capacity l) c.call_to_hear.ensures.ledger in
    let room = gone_room g.D.Disk.honest g.D.Disk.words (world_of c.args.self.now) (world_of c.call_to_hear.new.self) c.args.number
    c.args.node c.args.count c.requires.waits c.in-Gone.fault c.in-Gone.ensures.called (free_lines c.args.self.now)
    c.requires.room in
    omega (arith, room, len, capacity)

pub restart-requires-clause-cut : goal.restart-requires-clause-cut
restart-requires-clause-cut g c =
    cut_short g.D.Disk.honest g.D.Disk.words (world_of c.args.self.now) (world_of c.call_to_hear.new.self) c.args.number
    c.args.node c.args.count c.requires.waits c.in-Stopped.ensures.called

pub restart-requires-clause-ready : goal.restart-requires-clause-ready
restart-requires-clause-ready g c =
    let len = ap (λ l. vec_len l) c.call_to_hear.ensures.ledger in
    let capacity = ap (λ l. vec_capacity l) c.call_to_hear.ensures.ledger in
    let room = c.requires.room in
    ready_to_crash g.D.Disk.honest g.D.Disk.words (world_of c.args.self.now) (world_of c.call_to_hear.new.self) c.args.number
    c.args.node c.args.count c.requires.waits c.in-Stopped.ensures.called c.requires.honest c.runs_keep_all.ensures
    c.crashing_happens.ensures c.requires.bound (free_lines c.call_to_hear.new.self) (omega (arith, len, capacity, room))

pub returns-in-Stopped-clause-carries : goal.returns-in-Stopped-clause-carries
returns-in-Stopped-clause-carries g c =
    restart_carries g.D.Disk.honest g.D.Disk.words (world_of c.args.self.now) (world_of c.call_to_hear.new.self) c.args.number
    c.args.node c.args.count c.requires.waits c.in-Stopped.ensures.called (world_of c.restart.new.self) c.restart.ensures.restarts

pub returns-in-Stopped-clause-happened : goal.returns-in-Stopped-clause-happened
returns-in-Stopped-clause-happened g c =
    restart_happened g.D.Disk.honest g.D.Disk.words (world_of c.args.self.now) (world_of c.call_to_hear.new.self) c.args.number
    c.args.node c.args.count c.requires.waits c.in-Stopped.ensures.called (world_of c.restart.new.self) c.restart.ensures.restarts
    c.crashing_happens.ensures c.requires.bound.lists c.requires.bound.bound

pub returns-in-NoRoom-clause-carries : goal.returns-in-NoRoom-clause-carries
returns-in-NoRoom-clause-carries g c =
    uncalled g.D.Disk.honest g.D.Disk.words (world_of c.args.self.now) (world_of c.call_to_hear.new.self) c.args.number
    c.args.node c.args.count c.requires.waits c.in-NoRoom.ensures.called

pub returns-in-NoRoom-clause-happened : goal.returns-in-NoRoom-clause-happened
returns-in-NoRoom-clause-happened g c =
    subst (λ w. HasHappened g.D.Disk.honest g.D.Disk.words (world_of c.args.self.now) w)
    (sym (uncalled g.D.Disk.honest g.D.Disk.words (world_of c.args.self.now) (world_of c.call_to_hear.new.self) c.args.number
    c.args.node c.args.count c.requires.waits c.in-NoRoom.ensures.called))
    (none_happened g.D.Disk.honest g.D.Disk.words (world_of c.args.self.now))

pub returns-in-NoRoom-clause-room : goal.returns-in-NoRoom-clause-room
returns-in-NoRoom-clause-room g c =
    let len = ap (λ l. vec_len l) c.call_to_hear.ensures.ledger in
    let capacity = ap (λ l. vec_capacity l) c.call_to_hear.ensures.ledger in
    let room = c.requires.room in
    subst (λ (w : World _). HasRoom w (free_lines c.call_to_hear.new.self))
    (sym (uncalled g.D.Disk.honest g.D.Disk.words (world_of c.args.self.now) (world_of c.call_to_hear.new.self) c.args.number
    c.args.node c.args.count c.requires.waits c.in-NoRoom.ensures.called)) (omega (arith, len, capacity, room))
