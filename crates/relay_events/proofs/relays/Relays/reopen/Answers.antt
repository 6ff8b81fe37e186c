use Rattle.std.proofs.Common.{◌≡◌, ◌+◌, ◌-◌, ◌≤◌, None, subst, sym, ap, arith, rules}
use Rattle.std.specs.Prelude.{vec_capacity, vec_len}
use Rattle.relay_events.specs.Relays.{free_lines, world_of}
use Rattle.relay_hosts.specs.Room.{HasRoom}
use Rattle.relay_events.proofs.ReopenLemmas.{ends_with, found_lines, found_may, found_room, reopened_with, reopened_without, room_with, same_ends, still_room}
use Rattle.relay_events.proofs.relays.Relays.reopen.Goals as goal

pub find-requires-clause-may : goal.find-requires-clause-may
find-requires-clause-may g c =
    found_may g.D.Disk.honest g.D.Disk.words (world_of c.args.self.now) (world_of c.open_host.new.self) c.args.node
    c.in-Some.found c.in-Some.ensures.world c.requires.bound.lists c.requires.bound.bound

pub find-requires-clause-room : goal.find-requires-clause-room
find-requires-clause-room g c =
    let ledger = c.args.self.now.ledger in
    let fits : vec_len ledger ≤ vec_capacity ledger = search rules in
    subst (λ l. vec_len l + found_lines c.args.node c.in-Some.found ≤ vec_capacity l) (sym c.in-Some.ensures.ledger)
    (found_room g.D.Disk.honest g.D.Disk.words (world_of c.args.self.now) (world_of c.open_host.new.self) c.args.node
    c.in-Some.found c.in-Some.ensures.world (vec_len ledger) (vec_capacity ledger) fits c.requires.room)

pub returns-clause-opened : goal.returns-clause-opened
returns-clause-opened g c =
    reopened_with g.D.Disk.honest g.D.Disk.words (world_of c.args.self.now) (world_of c.open_host.new.self) c.args.node
    c.in-Some.found c.in-Some.ensures.world (world_of c.find.new.self) c.find.ensures.finds

pub returns-clause-room : goal.returns-clause-room
returns-clause-room g c =
    let ledger = c.args.self.now.ledger in
    let middle = c.open_host.new.self.ledger in
    let new = c.find.new.self.ledger in
    let len : vec_len new ≡ vec_len middle + found_lines c.args.node c.in-Some.found = c.find.ensures.len in
    let capacity : vec_capacity middle ≤ vec_capacity new = c.find.ensures.capacity in
    let same_len : vec_len middle ≡ vec_len ledger = ap (λ l. vec_len l) c.in-Some.ensures.ledger in
    let same_capacity : vec_capacity middle ≡ vec_capacity ledger = ap (λ l. vec_capacity l) c.in-Some.ensures.ledger in
    room_with g.D.Disk.honest g.D.Disk.words (world_of c.args.self.now) (world_of c.open_host.new.self) c.args.node
    c.in-Some.found c.in-Some.ensures.world (world_of c.find.new.self) c.find.ensures.finds (free_lines c.args.self.now)
    (free_lines c.find.new.self) c.requires.room (omega (arith, len, capacity, same_len, same_capacity))

pub returns-clause-fewer : goal.returns-clause-fewer
returns-clause-fewer g c =
    ends_with g.D.Disk.honest g.D.Disk.words (world_of c.args.self.now) (world_of c.open_host.new.self) c.args.node
    c.in-Some.found c.in-Some.ensures.world (world_of c.find.new.self) c.find.ensures.finds

pub returns-in_default-clause-opened : goal.returns-in_default-clause-opened
returns-in_default-clause-opened g c =
    reopened_without g.D.Disk.honest g.D.Disk.words (world_of c.args.self.now) (world_of c.open_host.new.self) c.args.node
    c.down_is_not_refused.ensures c.requires.bound c.in_default.ensures.world

pub returns-in_default-clause-room : goal.returns-in_default-clause-room
returns-in_default-clause-room g c =
    subst (λ l. HasRoom (world_of c.open_host.new.self) (vec_capacity l - vec_len l)) (sym c.in_default.ensures.ledger)
    (still_room g.D.Disk.honest g.D.Disk.words (world_of c.args.self.now) (world_of c.open_host.new.self) c.args.node
    (free_lines c.args.self.now) c.in_default.ensures.world c.requires.room)

pub returns-in_default-clause-fewer : goal.returns-in_default-clause-fewer
returns-in_default-clause-fewer g c =
    let same = same_ends g.D.Disk.honest g.D.Disk.words (world_of c.args.self.now) (world_of c.open_host.new.self) c.args.node
    None c.in_default.ensures.world in
    omega (arith, same)
