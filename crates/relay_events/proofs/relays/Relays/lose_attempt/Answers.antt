use Rattle.std.proofs.Common.{◌≤◌, ◌+◌, ◌-◌, length, subst, sym, ap, ◌∙◌, arith, rules}
use Rattle.std.specs.Prelude.{vec_capacity, vec_len}
use Rattle.relay_events.specs.Relays.{free_lines, world_of}
use Rattle.relay_hosts.specs.Call.{IsWhyUntold}
use Rattle.relay_hosts.specs.Room.{HasRoom}
use Rattle.relay_events.proofs.ClientEndLemmas.{gone_fewer, gone_happened, gone_room, has_at, has_gone_so, place_within}
use Rattle.relay_events.proofs.LoseLemmas.{crashes_told, cut_short, ended_fewer, ended_happened, ended_room, has_ended, ready_to_crash, restart_fewer, restart_happened, room_for}
use Rattle.relay_events.proofs.relays.Relays.lose_attempt.Goals as goal

pub call_to_lose-requires : goal.call_to_lose-requires
call_to_lose-requires g c =
    has_at g.D.Disk.honest g.D.Disk.words (world_of c.args.self.now) c.args.number c.client_end-end.result c.client_end-end.ensures

pub end_by_loss-requires-clause-there : goal.end_by_loss-requires-clause-there
end_by_loss-requires-clause-there g c =
    let called = c.in-Ended.ensures.called in
    place_within g.D.Disk.honest g.D.Disk.words (world_of c.args.self.now) (world_of c.call_to_lose.new.self) c.args.number
    c.client_end-end.result c.client_end-end.ensures called.was called.now called.was_at called.new_is

pub end_by_loss-requires-clause-room : goal.end_by_loss-requires-clause-room
end_by_loss-requires-clause-room g c =
    let ledger = c.args.self.now.ledger in
    let fits : vec_len ledger ≤ vec_capacity ledger = search rules in
    subst (λ l. vec_len l + length c.in-Ended.recorded.left.items ≤ vec_capacity l) (sym c.call_to_lose.ensures.ledger)
    (room_for g.D.Disk.honest g.D.Disk.words (world_of c.args.self.now) (world_of c.call_to_lose.new.self) c.args.number
    c.client_end-end.result c.client_end-end.ensures c.in-Ended.change c.in-Ended.recorded c.in-Ended.ensures.called
    (vec_len ledger) (vec_capacity ledger) fits c.requires.room)

pub returns-in-Ended-clause-told : goal.returns-in-Ended-clause-told
returns-in-Ended-clause-told g c =
    has_ended g.D.Disk.honest g.D.Disk.words (world_of c.args.self.now) (world_of c.call_to_lose.new.self) c.args.number
    c.client_end-end.result c.client_end-end.ensures c.in-Ended.change c.in-Ended.recorded c.in-Ended.ensures.called
    (world_of c.end_by_loss.new.self) c.end_by_loss.ensures.world

pub returns-in-Ended-clause-happened : goal.returns-in-Ended-clause-happened
returns-in-Ended-clause-happened g c =
    ended_happened g.D.Disk.honest g.D.Disk.words (world_of c.args.self.now) (world_of c.call_to_lose.new.self) c.args.number
    c.client_end-end.result c.client_end-end.ensures c.in-Ended.change c.in-Ended.recorded c.in-Ended.ensures.called
    (world_of c.end_by_loss.new.self) c.end_by_loss.ensures.world

pub returns-in-Ended-clause-room : goal.returns-in-Ended-clause-room
returns-in-Ended-clause-room g c =
    let same_len = ap vec_len c.call_to_lose.ensures.ledger in
    let same_capacity = ap vec_capacity c.call_to_lose.ensures.ledger in
    let len = c.end_by_loss.ensures.len in
    let capacity = c.end_by_loss.ensures.capacity in
    ended_room g.D.Disk.honest g.D.Disk.words (world_of c.args.self.now) (world_of c.call_to_lose.new.self) c.args.number
    c.client_end-end.result c.client_end-end.ensures c.in-Ended.change c.in-Ended.recorded c.in-Ended.ensures.called
    (world_of c.end_by_loss.new.self) c.end_by_loss.ensures.world (free_lines c.args.self.now)
    (free_lines c.end_by_loss.new.self) (omega (arith, same_len, same_capacity, len, capacity)) c.requires.room

pub returns-in-Ended-clause-fewer : goal.returns-in-Ended-clause-fewer
returns-in-Ended-clause-fewer g c =
    ended_fewer g.D.Disk.honest g.D.Disk.words (world_of c.args.self.now) (world_of c.call_to_lose.new.self) c.args.number
    c.client_end-end.result c.client_end-end.ensures c.in-Ended.change c.in-Ended.recorded c.in-Ended.ensures.called
    (world_of c.end_by_loss.new.self) c.end_by_loss.ensures.world

pub set_fate-requires : goal.set_fate-requires
set_fate-requires g c =
    let called = c.in-Gone.ensures.called in
    place_within g.D.Disk.honest g.D.Disk.words (world_of c.args.self.now) (world_of c.call_to_lose.new.self) c.args.number
    c.client_end-end.result c.client_end-end.ensures called.was called.now called.was_at called.new_is

pub returns-in-Gone-clause-told : goal.returns-in-Gone-clause-told
returns-in-Gone-clause-told g c =
    let called = c.in-Gone.ensures.called in
    has_gone_so g.D.Disk.honest g.D.Disk.words (world_of c.args.self.now) (world_of c.call_to_lose.new.self) c.args.number
    c.client_end-end.result c.client_end-end.ensures called.was called.now called.was_at called.new_is
    (world_of c.set_fate.new.self) called.tells.0 c.set_fate.ensures.world
    (λ of. IsWhyUntold g.D.Disk.honest g.D.Disk.words c.args.self.now.clock of.host.state of.slot c.in-Gone.why) called.tells.1

pub returns-in-Gone-clause-happened : goal.returns-in-Gone-clause-happened
returns-in-Gone-clause-happened g c =
    let called = c.in-Gone.ensures.called in
    gone_happened g.D.Disk.honest g.D.Disk.words (world_of c.args.self.now) (world_of c.call_to_lose.new.self) c.args.number
    c.client_end-end.result c.client_end-end.ensures called.was called.now called.was_at called.new_is
    (world_of c.set_fate.new.self) called.tells.0 c.set_fate.ensures.world

pub returns-in-Gone-clause-room : goal.returns-in-Gone-clause-room
returns-in-Gone-clause-room g c =
    let called = c.in-Gone.ensures.called in
    subst (λ l. HasRoom (world_of c.set_fate.new.self) (vec_capacity l - vec_len l))
    (sym (c.set_fate.ensures.ledger ∙ c.call_to_lose.ensures.ledger))
    (gone_room g.D.Disk.honest g.D.Disk.words (world_of c.args.self.now) (world_of c.call_to_lose.new.self) c.args.number
    c.client_end-end.result c.client_end-end.ensures called.was called.now called.was_at called.new_is
    (world_of c.set_fate.new.self) called.tells.0 c.set_fate.ensures.world (free_lines c.args.self.now) c.requires.room)

pub returns-in-Gone-clause-fewer : goal.returns-in-Gone-clause-fewer
returns-in-Gone-clause-fewer g c =
    let called = c.in-Gone.ensures.called in
    gone_fewer g.D.Disk.honest g.D.Disk.words (world_of c.args.self.now) (world_of c.call_to_lose.new.self) c.args.number
    c.client_end-end.result c.client_end-end.ensures called.was called.now called.was_at called.new_is
    (world_of c.set_fate.new.self) called.tells.0 c.set_fate.ensures.world

pub restart-requires-clause-cut : goal.restart-requires-clause-cut
restart-requires-clause-cut g c =
    cut_short g.D.Disk.honest g.D.Disk.words (world_of c.args.self.now) (world_of c.call_to_lose.new.self) c.args.number
    c.client_end-end.result c.client_end-end.ensures c.in-Stopped.ensures.called

pub restart-requires-clause-ready : goal.restart-requires-clause-ready
restart-requires-clause-ready g c =
    ready_to_crash g.D.Disk.honest g.D.Disk.words (world_of c.args.self.now) (world_of c.call_to_lose.new.self) c.args.number
    c.client_end-end.result c.client_end-end.ensures c.in-Stopped.ensures.called c.requires.honest c.runs_keep_all.ensures
    c.crashing_happens.ensures c.requires.bound (free_lines c.call_to_lose.new.self)
    (subst (λ l. HasRoom (world_of c.args.self.now) (vec_capacity l - vec_len l)) (sym c.call_to_lose.ensures.ledger)
    c.requires.room)

pub returns-in-Stopped-clause-told : goal.returns-in-Stopped-clause-told
returns-in-Stopped-clause-told g c =
    crashes_told g.D.Disk.honest g.D.Disk.words (world_of c.args.self.now) (world_of c.call_to_lose.new.self) c.args.number
    c.client_end-end.result c.client_end-end.ensures c.in-Stopped.ensures.called (world_of c.restart.new.self)
    c.restart.ensures.restarts

pub returns-in-Stopped-clause-happened : goal.returns-in-Stopped-clause-happened
returns-in-Stopped-clause-happened g c =
    restart_happened g.D.Disk.honest g.D.Disk.words (world_of c.args.self.now) (world_of c.call_to_lose.new.self) c.args.number
    c.client_end-end.result c.client_end-end.ensures c.in-Stopped.ensures.called (world_of c.restart.new.self)
    c.restart.ensures.restarts c.crashing_happens.ensures c.requires.bound.lists c.requires.bound.bound

pub returns-in-Stopped-clause-fewer : goal.returns-in-Stopped-clause-fewer
returns-in-Stopped-clause-fewer g c =
    restart_fewer g.D.Disk.honest g.D.Disk.words (world_of c.args.self.now) (world_of c.call_to_lose.new.self) c.args.number
    c.client_end-end.result c.client_end-end.ensures c.in-Stopped.ensures.called (world_of c.restart.new.self)
    c.restart.ensures.restarts
