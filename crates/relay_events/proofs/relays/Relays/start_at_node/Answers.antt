use Rattle.std.proofs.Common.{◌≡◌, ◌<◌, ◌-◌, length, Err, sym, subst, ◌∙◌, rules}
use Rattle.std.specs.Prelude.{vec_capacity, vec_len}
use Rattle.relay_world.specs.Steps.{opened_link}
use Rattle.relay_world.specs.World.{World}
use Rattle.relay_events.specs.declared.event.Event.TheVariants.{Give}
use Rattle.relay_events.specs.BreakOff.{IsLink}
use Rattle.relay_events.specs.Happened.{HasHappened}
use Rattle.relay_events.specs.Relays.{AreBound, free_lines, world_of}
use Rattle.relay_hosts.specs.Room.{HasRoom}
use Rattle.relay_events.specs.Step.{Steps}
use Rattle.relay_events.specs.Told.{LearnsOfBreaks}
use Rattle.relay_hosts.specs.Work.{attempts_in}
use Rattle.relay_events.proofs.AtNodeLemmas.{begun_bound, begun_happened, begun_room, begun_steps, begun_told, first_still, has_free, link_opened, next_number, one_too_many, unopened_steps, unstarted_steps}
use Rattle.relay_events.proofs.ConnectLemmas.{linked_bound, linked_happened, linked_room}
use Rattle.relay_events.proofs.RunLemmas.{both_happened, none_happened}
use Rattle.relay_events.proofs.TellLemmas.{get_within}
use Rattle.relay_events.proofs.relays.Relays.start_at_node.Goals as goal

pub address_of-peer-requires : goal.address_of-peer-requires
address_of-peer-requires g c =
    get_within c.args.self.now.hosts.items c.args.node c.requires.first.host c.requires.first.host_at

pub begin_on-requires-clause-bound : goal.begin_on-requires-clause-bound
begin_on-requires-clause-bound g c =
    linked_bound g.D.Disk.honest g.D.Disk.words (world_of c.args.self.now) (world_of c.open_link.new.self) c.args.to
    c.address_of-peer.result c.in-Ok.greeting c.in-Ok.ensures.opens c.requires.honest c.runs_keep_all.ensures
    c.requires.order.bound

pub begin_on-requires-clause-first : goal.begin_on-requires-clause-first
begin_on-requires-clause-first g c =
    first_still g.D.Disk.honest g.D.Disk.words (world_of c.args.self.now) (world_of c.open_link.new.self) c.args.node
    c.args.message c.args.hop.now c.args.to c.address_of-peer.result c.in-Ok.greeting c.in-Ok.ensures.opens c.requires.first

pub begin_on-requires-clause-room : goal.begin_on-requires-clause-room
begin_on-requires-clause-room g c =
    subst (λ l. vec_len l < vec_capacity l) (sym c.in-Ok.ensures.rest.0) c.requires.room.attempt

pub begin_on-requires-clause-there : goal.begin_on-requires-clause-there
begin_on-requires-clause-there g c =
    let old = world_of c.args.self.now in
    let opened = world_of c.open_link.new.self in
    let len : c.len-link.result ≡ length opened.links = search rules in
    let number = len
    ∙ next_number g.D.Disk.honest g.D.Disk.words old opened c.args.node c.args.message c.args.hop.now c.args.to
    c.address_of-peer.result c.in-Ok.greeting c.in-Ok.ensures.opens c.requires.first in
    record {
      link = opened_link c.args.to c.address_of-peer.result c.in-Ok.ensures.opens.connected;
      link_is = link_opened g.D.Disk.honest g.D.Disk.words old opened c.args.node c.args.message c.args.hop.now c.args.to
          c.address_of-peer.result c.in-Ok.greeting c.in-Ok.ensures.opens c.requires.first c.len-link.result number;
    }

pub returns-in-Ok-begin_on-clause-steps : goal.returns-in-Ok-begin_on-clause-steps
returns-in-Ok-begin_on-clause-steps g c =
    let old = world_of c.args.self.now in
    let opened = world_of c.open_link.new.self in
    let peer = c.address_of-peer.result in
    let links = c.in-Ok.ensures.opens in
    let first = c.requires.first in
    let bound = linked_bound g.D.Disk.honest g.D.Disk.words old opened c.args.to peer c.in-Ok.greeting links c.requires.honest
    c.runs_keep_all.ensures c.requires.order.bound in
    let len : c.len-link.result ≡ length opened.links = search rules in
    let number = len
    ∙ next_number g.D.Disk.honest g.D.Disk.words old opened c.args.node c.args.message c.args.hop.now c.args.to peer
    c.in-Ok.greeting links first in
    begun_steps g.D.Disk.honest g.D.Disk.words old opened c.args.node c.args.message c.args.hop.now c.args.to peer
    c.in-Ok.greeting links first c.requires.named (c.address_of-peer.ensures first.host first.host_at) c.requires.up
    (world_of c.begin_on.new.self) c.in-Ok-begin_on.place c.len-link.result number
    c.in-Ok-begin_on.ensures.begun bound c.requires.order.told

pub returns-in-Ok-begin_on-clause-happened : goal.returns-in-Ok-begin_on-clause-happened
returns-in-Ok-begin_on-clause-happened g c =
    let old = world_of c.args.self.now in
    let opened = world_of c.open_link.new.self in
    let peer = c.address_of-peer.result in
    let links = c.in-Ok.ensures.opens in
    let first = c.requires.first in
    let bound = linked_bound g.D.Disk.honest g.D.Disk.words old opened c.args.to peer c.in-Ok.greeting links c.requires.honest
    c.runs_keep_all.ensures c.requires.order.bound in
    let len : c.len-link.result ≡ length opened.links = search rules in
    let number = len
    ∙ next_number g.D.Disk.honest g.D.Disk.words old opened c.args.node c.args.message c.args.hop.now c.args.to peer
    c.in-Ok.greeting links first in
    begun_happened g.D.Disk.honest g.D.Disk.words old opened c.args.node c.args.message c.args.hop.now c.args.to peer
    c.in-Ok.greeting links first c.requires.named (c.address_of-peer.ensures first.host first.host_at) c.requires.up
    (world_of c.begin_on.new.self) c.in-Ok-begin_on.place c.len-link.result number
    c.in-Ok-begin_on.ensures.begun bound

pub returns-in-Ok-begin_on-clause-order : goal.returns-in-Ok-begin_on-clause-order
returns-in-Ok-begin_on-clause-order g c =
    let old = world_of c.args.self.now in
    let opened = world_of c.open_link.new.self in
    let peer = c.address_of-peer.result in
    let links = c.in-Ok.ensures.opens in
    let first = c.requires.first in
    let bound = linked_bound g.D.Disk.honest g.D.Disk.words old opened c.args.to peer c.in-Ok.greeting links c.requires.honest
    c.runs_keep_all.ensures c.requires.order.bound in
    let len : c.len-link.result ≡ length opened.links = search rules in
    let number = len
    ∙ next_number g.D.Disk.honest g.D.Disk.words old opened c.args.node c.args.message c.args.hop.now c.args.to peer
    c.in-Ok.greeting links first in
    let new = world_of c.begin_on.new.self in
    let begun = c.in-Ok-begin_on.ensures.begun in
    let from = c.address_of-peer.ensures first.host first.host_at in
    let still = begun_bound g.D.Disk.honest g.D.Disk.words old opened c.args.node c.args.message c.args.hop.now c.args.to peer
    c.in-Ok.greeting links first c.requires.named from c.requires.up new c.in-Ok-begin_on.place c.len-link.result number begun
    bound c.requires.honest c.runs_keep_all.ensures in
    record {
      bound = still;
      told = begun_told g.D.Disk.honest g.D.Disk.words old opened c.args.node c.args.message c.args.hop.now c.args.to peer
          c.in-Ok.greeting links first c.requires.named from c.requires.up new c.in-Ok-begin_on.place c.len-link.result number
          begun bound c.requires.order.told;
      room = subst (λ l. HasRoom new (vec_capacity l - vec_len l)) (sym (c.begin_on.ensures.ledger ∙ c.in-Ok.ensures.rest.1))
          (begun_room g.D.Disk.honest g.D.Disk.words old opened c.args.node c.args.message c.args.hop.now c.args.to peer
          c.in-Ok.greeting links first c.requires.named from c.requires.up new c.in-Ok-begin_on.place c.len-link.result number
          begun bound (free_lines c.args.self.now) still c.requires.room.lines);
    }

pub is_full_of_attempts-requires : goal.is_full_of_attempts-requires
is_full_of_attempts-requires g c =
    get_within c.args.self.now.hosts.items c.args.node c.requires.first.host c.requires.first.host_at

pub returns-then-is_full_of_attempts-clause-steps : goal.returns-then-is_full_of_attempts-clause-steps
returns-then-is_full_of_attempts-clause-steps g c =
    let first = c.requires.first in
    one_too_many g.D.Disk.honest g.D.Disk.words (world_of c.args.self.now) c.args.node c.args.message c.args.hop.now c.args.to first
    c.requires.named c.requires.up
    ((c.is_full_of_attempts.ensures first.host first.host_at).0 c.if-is_full_of_attempts.true) c.requires.order.told

pub break_unstarted-requires-clause-bound : goal.break_unstarted-requires-clause-bound
break_unstarted-requires-clause-bound g c =
    subst (λ w. AreBound g.D.Disk.honest g.D.Disk.words w) (sym c.in-Err-begin_on.ensures.begun.0)
    (linked_bound g.D.Disk.honest g.D.Disk.words (world_of c.args.self.now) (world_of c.open_link.new.self) c.args.to
    c.address_of-peer.result c.in-Ok.greeting c.in-Ok.ensures.opens c.requires.honest c.runs_keep_all.ensures
    c.requires.order.bound)

pub break_unstarted-requires-clause-room : goal.break_unstarted-requires-clause-room
break_unstarted-requires-clause-room g c =
    let new = world_of c.begin_on.new.self in
    subst (λ l. HasRoom new (vec_capacity l - vec_len l)) (sym (c.begin_on.ensures.ledger ∙ c.in-Ok.ensures.rest.1))
    (subst (λ w. HasRoom w (free_lines c.args.self.now)) (sym c.in-Err-begin_on.ensures.begun.0)
    (linked_room g.D.Disk.honest g.D.Disk.words (world_of c.args.self.now) (world_of c.open_link.new.self) c.args.to
    c.address_of-peer.result c.in-Ok.greeting c.in-Ok.ensures.opens (free_lines c.args.self.now) c.requires.order.room))

pub break_unstarted-requires-clause-there : goal.break_unstarted-requires-clause-there
break_unstarted-requires-clause-there g c =
    let old = world_of c.args.self.now in
    let opened = world_of c.open_link.new.self in
    let len : c.len-link.result ≡ length opened.links = search rules in
    let number = len
    ∙ next_number g.D.Disk.honest g.D.Disk.words old opened c.args.node c.args.message c.args.hop.now c.args.to
    c.address_of-peer.result c.in-Ok.greeting c.in-Ok.ensures.opens c.requires.first in
    subst (λ (w : World _). IsLink w c.len-link.result) (sym c.in-Err-begin_on.ensures.begun.0) (record {
      link = opened_link c.args.to c.address_of-peer.result c.in-Ok.ensures.opens.connected;
      link_is = link_opened g.D.Disk.honest g.D.Disk.words old opened c.args.node c.args.message c.args.hop.now c.args.to
          c.address_of-peer.result c.in-Ok.greeting c.in-Ok.ensures.opens c.requires.first c.len-link.result number;
    })

pub returns-in-Err-begin_on-clause-steps : goal.returns-in-Err-begin_on-clause-steps
returns-in-Err-begin_on-clause-steps g c =
    let old = world_of c.args.self.now in
    let opened = world_of c.open_link.new.self in
    let peer = c.address_of-peer.result in
    let links = c.in-Ok.ensures.opens in
    let first = c.requires.first in
    let len : c.len-link.result ≡ length opened.links = search rules in
    let number = len
    ∙ next_number g.D.Disk.honest g.D.Disk.words old opened c.args.node c.args.message c.args.hop.now c.args.to peer
    c.in-Ok.greeting links first in
    let free = has_free c.is_full_of_attempts.result (attempts_in first.host.state)
    (c.is_full_of_attempts.ensures first.host first.host_at) c.if-is_full_of_attempts.false in
    unstarted_steps g.D.Disk.honest g.D.Disk.words old opened c.args.node c.args.message c.args.hop.now c.args.to peer
    c.in-Ok.greeting links first c.requires.named (c.address_of-peer.ensures first.host first.host_at) c.requires.up free
    (world_of c.begin_on.new.self) (world_of c.break_unstarted.new.self) c.len-link.result c.in-Err-begin_on.fault
    c.break_unstarted.result c.in-Err-begin_on.ensures.begun number c.break_unstarted.ensures.breaks

pub returns-in-Err-begin_on-clause-happened : goal.returns-in-Err-begin_on-clause-happened
returns-in-Err-begin_on-clause-happened g c =
    both_happened g.D.Disk.honest g.D.Disk.words (world_of c.args.self.now) (world_of c.open_link.new.self)
    (world_of c.break_unstarted.new.self)
    (linked_happened g.D.Disk.honest g.D.Disk.words (world_of c.args.self.now) (world_of c.open_link.new.self) c.args.to
    c.address_of-peer.result c.in-Ok.greeting c.in-Ok.ensures.opens)
    (subst (λ w. HasHappened g.D.Disk.honest g.D.Disk.words w (world_of c.break_unstarted.new.self))
    c.in-Err-begin_on.ensures.begun.0 c.break_unstarted.ensures.happened)

pub returns-in-Err-clause-steps : goal.returns-in-Err-clause-steps
returns-in-Err-clause-steps g c =
    let old = world_of c.args.self.now in
    let new = world_of c.open_link.new.self in
    let first = c.requires.first in
    let free = has_free c.is_full_of_attempts.result (attempts_in first.host.state)
    (c.is_full_of_attempts.ensures first.host first.host_at) c.if-is_full_of_attempts.false in
    subst (λ f. Steps g.D.Disk.honest g.D.Disk.words old (Give c.args.node) new (Err f)) (sym c.fault_of.ensures)
    (unopened_steps g.D.Disk.honest g.D.Disk.words old new c.args.node c.args.message c.args.hop.now c.args.to c.in-Err.fault
    first c.requires.named c.requires.up c.in-Err.ensures.opens free c.requires.order.told)

pub returns-in-Err-clause-happened : goal.returns-in-Err-clause-happened
returns-in-Err-clause-happened g c =
    let old = world_of c.args.self.now in
    subst (λ w. HasHappened g.D.Disk.honest g.D.Disk.words old w) (sym c.in-Err.ensures.opens.new_is)
    (none_happened g.D.Disk.honest g.D.Disk.words old)

pub returns-in-Err-clause-order : goal.returns-in-Err-clause-order
returns-in-Err-clause-order g c =
    let new = world_of c.open_link.new.self in
    let is = c.in-Err.ensures.opens.new_is in
    record {
      bound = subst (λ w. AreBound g.D.Disk.honest g.D.Disk.words w) (sym is) c.requires.order.bound;
      told = subst (λ w. LearnsOfBreaks w) (sym is) c.requires.order.told;
      room = subst (λ l. HasRoom new (vec_capacity l - vec_len l)) (sym c.in-Err.ensures.rest.1)
          (subst (λ w. HasRoom w (free_lines c.args.self.now)) (sym is) c.requires.order.room);
    }
