-- The connection that is taken out keeps its delivery, and is counted until it is settled.
use Rattle.std.proofs.Common.{Ok, ap, sym, ◌∙◌}
use Rattle.relay_slots.specs.Slots.{slot_at}
use Rattle.relay_next_hops.proofs.BegunLemmas.{begun_there}
use Rattle.relay_next_hops.proofs.HearingLemmas.{on_ok}
use Rattle.relay_next_hops.proofs.LeaveLemmas.{leaves_on, leaves_same}
use Rattle.relay_next_hops.proofs.SlotLemmas.{out_aim, out_aimed, out_counts, out_free, out_low}
use Rattle.relay_next_hops.proofs.WaitingLemmas.{idle_there, none_in_time, stays_in_time}
use Rattle.relay_next_hops.proofs.hops.Hops.attend_one.Goals as goal

pub returns-clause-counts : goal.returns-clause-counts
returns-clause-counts g c = λ match_is.
    let hops = c.args.self.now.hops in
    c.settle.ensures.counts
    (out_counts hops c.take.new.self c.args.number c.in-Some.taken c.attend.new.self c.in-Some.ensures.taken c.take.ensures.rest c.attend.ensures.delivery c.args.lanes.now.paces c.note_spoken.new.lanes.paces c.note_spoken.ensures.counts.runs match_is)
    (out_free hops c.take.new.self c.args.number c.in-Some.taken c.attend.new.self c.in-Some.ensures.taken c.take.ensures.rest c.attend.ensures.delivery)
    (out_low hops c.take.new.self c.args.number c.in-Some.taken c.attend.new.self c.in-Some.ensures.taken c.take.ensures.rest c.attend.ensures.delivery)

pub returns-clause-aimed : goal.returns-clause-aimed
returns-clause-aimed g c = λ routes aimed.
    let hops = c.args.self.now.hops in
    c.settle.ensures.aimed routes
    (out_aim hops c.take.new.self c.args.number c.in-Some.taken c.attend.new.self c.in-Some.ensures.taken c.take.ensures.rest c.attend.ensures.delivery routes aimed)
    (out_aimed hops c.take.new.self c.args.number c.in-Some.taken c.attend.new.self c.in-Some.ensures.taken c.take.ensures.rest c.attend.ensures.delivery routes aimed)

pub returns-clause-starts : goal.returns-clause-starts
returns-clause-starts g c =
    let hops = c.args.self.now.hops in
    let number = c.args.number in
    let taken = c.in-Some.taken in
    let hop = c.attend.new.self in
    let own = c.settle.ensures.own
    (out_free hops c.take.new.self number taken hop c.in-Some.ensures.taken c.take.ensures.rest c.attend.ensures.delivery)
    (out_low hops c.take.new.self number taken hop c.in-Some.ensures.taken c.take.ensures.rest c.attend.ensures.delivery) in
    on_ok _ c.settle.result
    (λ old new was is none some.
    begun_there c.args.turn.now.now.moment c.most_of-most.result c.args.self.now.portions taken old hop new c.in_ok-course.course c.args.relay.now c.attend.new.relay c.settle.new.relay
    (slot_at hops number) (slot_at c.settle.new.self.hops number) c.in-Some.ensures.taken was own is
    c.most_of-most.ensures c.attend.ensures.starts (λ is. c.settle.ensures.same (λ loss lost. absurd (cc (sym is ∙ lost)))) none some)

pub returns-clause-idle : goal.returns-clause-idle
returns-clause-idle g c =
    let hops = c.args.self.now.hops in
    let number = c.args.number in
    let taken = c.in-Some.taken in
    let hop = c.attend.new.self in
    let own = c.settle.ensures.own
    (out_free hops c.take.new.self number taken hop c.in-Some.ensures.taken c.take.ensures.rest c.attend.ensures.delivery)
    (out_low hops c.take.new.self number taken hop c.in-Some.ensures.taken c.take.ensures.rest c.attend.ensures.delivery) in
    on_ok _ c.settle.result
    (λ old new was is none gone.
    idle_there taken old hop new c.in_ok-course.course c.args.relay.now c.attend.new.relay c.settle.new.relay
    (slot_at hops number) (slot_at c.settle.new.self.hops number) c.in-Some.ensures.taken was own is
    c.attend.ensures.idle (λ is. c.settle.ensures.same (λ loss lost. absurd (cc (sym is ∙ lost)))) none gone)

pub returns-clause-in_time : goal.returns-clause-in_time
returns-clause-in_time g c =
    let hops = c.args.self.now.hops in
    let number = c.args.number in
    let taken = c.in-Some.taken in
    let hop = c.attend.new.self in
    let own = c.settle.ensures.own
    (out_free hops c.take.new.self number taken hop c.in-Some.ensures.taken c.take.ensures.rest c.attend.ensures.delivery)
    (out_low hops c.take.new.self number taken hop c.in-Some.ensures.taken c.take.ensures.rest c.attend.ensures.delivery) in
    on_ok _ c.settle.result
    (stays_in_time c.args.turn.now.now.tick number c.settle.new.self.hops hop c.in_ok-course.course own
    (λ stays quiet. c.attend.ensures.in_time (c.in_ok-course.was ∙ ap Ok stays) quiet))

pub returns-in_default-clause-in_time : goal.returns-in_default-clause-in_time
returns-in_default-clause-in_time g c =
    none_in_time c.args.turn.now.now.tick c.args.number c.take.new.self c.take.ensures.free

pub returns-clause-leaves : goal.returns-clause-leaves
returns-clause-leaves g c = leaves_on g.D.Disk.honest g.D.Disk.words c.settle.result c.args.relay.now c.attend.new.relay c.settle.new.relay c.in_ok-course.ensures.leaves c.settle.ensures.leaves

pub returns-in_default-clause-leaves : goal.returns-in_default-clause-leaves
returns-in_default-clause-leaves g c = leaves_same g.D.Disk.honest g.D.Disk.words c.args.relay.now
