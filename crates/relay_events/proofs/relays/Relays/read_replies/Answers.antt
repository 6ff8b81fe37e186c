use Rattle.std.proofs.Common.{◌≤◌, ◌-◌, true, subst, sym, ap, ◌∙◌, arith, rules}
use Rattle.std.specs.Prelude.{vec_capacity, vec_len}
use Rattle.relay_world.specs.declared.link.Link.{Link}
use Rattle.relay_world.specs.Steps.{waiting_down}
use Rattle.relay_world.specs.World.{link_at}
use Rattle.relay_hosts.specs.declared.calls.Read.TheVariants.{Gone}
use Rattle.relay_hosts.specs.Call.{IsWhyUnread}
use Rattle.relay_events.specs.Relays.{free_lines, world_of}
use Rattle.relay_hosts.specs.Room.{HasRoom}
use Rattle.relay_events.specs.Step.{Carries, IsWhyDropped, Refuses}
use Rattle.relay_events.proofs.BreakLemmas.{room_broken, then_broken}
use Rattle.relay_events.proofs.CarriedLemmas.{dropped_carries, tries_at}
use Rattle.relay_events.proofs.ClientEndLemmas.{gone_happened, gone_room, has_gone, has_gone_so, place_within}
use Rattle.relay_events.proofs.ReadDoneLemmas.{crash_carries, cut_short, done_carries, done_happened, done_room, has_more, link_same, ready_to_crash, restart_happened, room_for}
use Rattle.relay_events.proofs.relays.Relays.read_replies.Goals as goal

pub client_end-end-requires-clause-tries : goal.client_end-end-requires-clause-tries
client_end-end-requires-clause-tries g c = tries_at (world_of c.args.self.now) c.args.number c.requires.tries

pub take_replies-requires-clause-there : goal.take_replies-requires-clause-there
take_replies-requires-clause-there g c =
    has_more g.D.Disk.honest g.D.Disk.words (world_of c.args.self.now) (world_of c.call_to_read.new.self) c.args.number
    c.args.count c.client_end-end.result c.client_end-end.ensures c.in-Done.replied c.in-Done.recorded c.in-Done.ensures.called
    c.requires.bound

pub take_replies-requires-clause-place : goal.take_replies-requires-clause-place
take_replies-requires-clause-place g c =
    let called = c.in-Done.ensures.called in
    place_within g.D.Disk.honest g.D.Disk.words (world_of c.args.self.now) (world_of c.call_to_read.new.self) c.args.number
    c.client_end-end.result c.client_end-end.ensures called.was called.now called.was_at called.new_is

pub take_replies-requires-clause-room : goal.take_replies-requires-clause-room
take_replies-requires-clause-room g c attempt there =
    let ledger = c.args.self.now.ledger in
    let fits : vec_len ledger ≤ vec_capacity ledger = search rules in
    let room = room_for g.D.Disk.honest g.D.Disk.words (world_of c.args.self.now) (world_of c.call_to_read.new.self) c.args.number
    c.args.count c.client_end-end.result c.client_end-end.ensures c.in-Done.replied c.in-Done.recorded c.in-Done.ensures.called
    (vec_len ledger) (vec_capacity ledger) fits c.requires.room attempt there in
    let len = ap (λ l. vec_len l) c.call_to_read.ensures.ledger in
    let capacity = ap (λ l. vec_capacity l) c.call_to_read.ensures.ledger in
    omega (arith, room, len, capacity)

pub returns-in-Done-clause-carries : goal.returns-in-Done-clause-carries
returns-in-Done-clause-carries g c node waits =
    done_carries g.D.Disk.honest g.D.Disk.words (world_of c.args.self.now) (world_of c.call_to_read.new.self) c.args.number
    c.args.count c.client_end-end.result c.client_end-end.ensures c.in-Done.replied c.in-Done.recorded c.in-Done.ensures.called
    (world_of c.take_replies.new.self) c.take_replies.result c.take_replies.ensures.takes node waits c.requires.tries

pub returns-in-Done-clause-happened : goal.returns-in-Done-clause-happened
returns-in-Done-clause-happened g c =
    done_happened g.D.Disk.honest g.D.Disk.words (world_of c.args.self.now) (world_of c.call_to_read.new.self) c.args.number
    c.args.count c.client_end-end.result c.client_end-end.ensures c.in-Done.replied c.in-Done.recorded c.in-Done.ensures.called
    (world_of c.take_replies.new.self) c.take_replies.result c.take_replies.ensures.takes c.requires.tries

pub returns-in-Done-clause-room : goal.returns-in-Done-clause-room
returns-in-Done-clause-room g c =
    let called = c.call_to_read.new.self.ledger in
    let ledger = c.take_replies.new.self.ledger in
    done_room g.D.Disk.honest g.D.Disk.words (world_of c.args.self.now) (world_of c.call_to_read.new.self) c.args.number
    c.args.count c.client_end-end.result c.client_end-end.ensures c.in-Done.replied c.in-Done.recorded c.in-Done.ensures.called
    (world_of c.take_replies.new.self) c.take_replies.result c.take_replies.ensures.takes (vec_len called) (vec_capacity called)
    (vec_len ledger) (vec_capacity ledger)
    (subst (λ l. HasRoom (world_of c.args.self.now) (vec_capacity l - vec_len l)) (sym c.call_to_read.ensures.ledger)
    c.requires.room) c.take_replies.ensures.capacity c.take_replies.ensures.len

pub set_fate-requires : goal.set_fate-requires
set_fate-requires g c =
    let called = c.in-Gone.ensures.called in
    place_within g.D.Disk.honest g.D.Disk.words (world_of c.args.self.now) (world_of c.call_to_read.new.self) c.args.number
    c.client_end-end.result c.client_end-end.ensures called.was called.now called.was_at called.new_is

pub break_off-requires : goal.break_off-requires
break_off-requires g c =
    let called = c.in-Gone.ensures.called in
    let gone = has_gone g.D.Disk.honest g.D.Disk.words (world_of c.args.self.now) (world_of c.call_to_read.new.self) c.args.number
    c.client_end-end.result c.client_end-end.ensures called.was called.now called.was_at called.new_is
    (world_of c.set_fate.new.self) called.reads.0 c.set_fate.ensures.world in
    record {
      link = c.requires.tries.link;
      link_is = ap (λ ls. link_at ls c.args.number) gone.links ∙ c.requires.tries.link_is;
    }

pub returns-in-Gone-clause-carries : goal.returns-in-Gone-clause-carries
returns-in-Gone-clause-carries g c node waits =
    let called = c.in-Gone.ensures.called in
    let same = link_same g.D.Disk.honest g.D.Disk.words (world_of c.args.self.now) (world_of c.call_to_read.new.self) c.args.number
    c.args.count c.client_end-end.result c.client_end-end.ensures (Gone c.in-Gone.why) called in
    let gone = has_gone_so g.D.Disk.honest g.D.Disk.words (world_of c.args.self.now) (world_of c.call_to_read.new.self)
    c.args.number c.client_end-end.result c.client_end-end.ensures called.was called.now called.was_at called.new_is
    (world_of c.set_fate.new.self) called.reads.0 c.set_fate.ensures.world
    (λ of. IsWhyDropped g.D.Disk.honest g.D.Disk.words (world_of c.args.self.now) c.args.number c.args.count of true c.in-Gone.why)
    (subst
    (λ (l : Link). IsWhyUnread g.D.Disk.honest g.D.Disk.words c.args.self.now.clock called.was.state c.client_end-end.result.slot
    (waiting_down c.args.count l) c.in-Gone.why) same called.reads.1) in
    subst
    (λ f. Carries g.D.Disk.honest g.D.Disk.words (world_of c.args.self.now) c.args.number node c.args.count
    (world_of c.break_off.new.self) (Refuses f)) (sym c.fault_of.ensures)
    (dropped_carries g.D.Disk.honest g.D.Disk.words (world_of c.args.self.now) (world_of c.set_fate.new.self)
    (world_of c.break_off.new.self) c.args.number node c.args.count true c.in-Gone.why waits gone.0 gone.1
    c.break_off.ensures.world)

pub returns-in-Gone-clause-happened : goal.returns-in-Gone-clause-happened
returns-in-Gone-clause-happened g c =
    let called = c.in-Gone.ensures.called in
    then_broken g.D.Disk.honest g.D.Disk.words (world_of c.args.self.now) (world_of c.set_fate.new.self)
    (world_of c.break_off.new.self) c.args.number
    (gone_happened g.D.Disk.honest g.D.Disk.words (world_of c.args.self.now) (world_of c.call_to_read.new.self) c.args.number
    c.client_end-end.result c.client_end-end.ensures called.was called.now called.was_at called.new_is
    (world_of c.set_fate.new.self) called.reads.0 c.set_fate.ensures.world) c.break_off.ensures.world

pub returns-in-Gone-clause-room : goal.returns-in-Gone-clause-room
returns-in-Gone-clause-room g c =
    let called = c.in-Gone.ensures.called in
    subst (λ l. HasRoom (world_of c.break_off.new.self) (vec_capacity l - vec_len l))
    (sym (c.break_off.ensures.ledger ∙ c.set_fate.ensures.ledger ∙ c.call_to_read.ensures.ledger))
    (room_broken g.D.Disk.honest g.D.Disk.words (world_of c.set_fate.new.self) (world_of c.break_off.new.self) c.args.number
    (free_lines c.args.self.now)
    (gone_room g.D.Disk.honest g.D.Disk.words (world_of c.args.self.now) (world_of c.call_to_read.new.self) c.args.number
    c.client_end-end.result c.client_end-end.ensures called.was called.now called.was_at called.new_is
    (world_of c.set_fate.new.self) called.reads.0 c.set_fate.ensures.world (free_lines c.args.self.now) c.requires.room)
    c.break_off.ensures.world)

pub restart-requires-clause-cut : goal.restart-requires-clause-cut
restart-requires-clause-cut g c =
    cut_short g.D.Disk.honest g.D.Disk.words (world_of c.args.self.now) (world_of c.call_to_read.new.self) c.args.number
    c.args.count c.client_end-end.result c.client_end-end.ensures c.in-Stopped.ensures.called

pub restart-requires-clause-ready : goal.restart-requires-clause-ready
restart-requires-clause-ready g c =
    ready_to_crash g.D.Disk.honest g.D.Disk.words (world_of c.args.self.now) (world_of c.call_to_read.new.self) c.args.number
    c.args.count c.client_end-end.result c.client_end-end.ensures c.in-Stopped.ensures.called c.requires.honest
    c.runs_keep_all.ensures c.crashing_happens.ensures c.requires.bound (free_lines c.call_to_read.new.self)
    (subst (λ l. HasRoom (world_of c.args.self.now) (vec_capacity l - vec_len l)) (sym c.call_to_read.ensures.ledger)
    c.requires.room)

pub returns-in-Stopped-clause-carries : goal.returns-in-Stopped-clause-carries
returns-in-Stopped-clause-carries g c node waits =
    crash_carries g.D.Disk.honest g.D.Disk.words (world_of c.args.self.now) (world_of c.call_to_read.new.self) c.args.number
    c.args.count c.client_end-end.result c.client_end-end.ensures c.in-Stopped.ensures.called (world_of c.restart.new.self)
    c.restart.ensures.restarts node waits

pub returns-in-Stopped-clause-happened : goal.returns-in-Stopped-clause-happened
returns-in-Stopped-clause-happened g c =
    restart_happened g.D.Disk.honest g.D.Disk.words (world_of c.args.self.now) (world_of c.call_to_read.new.self) c.args.number
    c.args.count c.client_end-end.result c.client_end-end.ensures c.in-Stopped.ensures.called (world_of c.restart.new.self)
    c.restart.ensures.restarts c.crashing_happens.ensures c.requires.bound.lists c.requires.bound.bound
