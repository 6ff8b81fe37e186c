-- The connection that is answered keeps its delivery, and is counted until it is settled.
use Rattle.std.proofs.Common.{refl}
use Rattle.relay_next_hops.proofs.HearingLemmas.{answered_by, on_ok}
use Rattle.relay_next_hops.proofs.LeaveLemmas.{leaves_on, leaves_same}
use Rattle.relay_next_hops.proofs.SlotLemmas.{out_aim, out_aimed, out_counts, out_free, out_low}
use Rattle.relay_next_hops.proofs.hops.Hops.answer_one.Goals as goal

pub returns-clause-counts : goal.returns-clause-counts
returns-clause-counts g c = λ match_is.
    let hops = c.args.self.now.hops in
    c.settle.ensures.counts
    (out_counts hops c.take.new.self c.args.number c.in-Some.taken c.take_answer.new.self c.in-Some.ensures.taken c.take.ensures.rest c.take_answer.ensures.delivery c.args.lanes.now.paces c.args.lanes.now.paces (λ lane. refl) match_is)
    (out_free hops c.take.new.self c.args.number c.in-Some.taken c.take_answer.new.self c.in-Some.ensures.taken c.take.ensures.rest c.take_answer.ensures.delivery)
    (out_low hops c.take.new.self c.args.number c.in-Some.taken c.take_answer.new.self c.in-Some.ensures.taken c.take.ensures.rest c.take_answer.ensures.delivery)

pub returns-clause-aimed : goal.returns-clause-aimed
returns-clause-aimed g c = λ routes aimed.
    let hops = c.args.self.now.hops in
    c.settle.ensures.aimed routes
    (out_aim hops c.take.new.self c.args.number c.in-Some.taken c.take_answer.new.self c.in-Some.ensures.taken c.take.ensures.rest c.take_answer.ensures.delivery routes aimed)
    (out_aimed hops c.take.new.self c.args.number c.in-Some.taken c.take_answer.new.self c.in-Some.ensures.taken c.take.ensures.rest c.take_answer.ensures.delivery routes aimed)

pub returns-clause-heard : goal.returns-clause-heard
returns-clause-heard g c =
    let hops = c.args.self.now.hops in
    on_ok _ c.settle.result
    (answered_by c.args.turn.now.now.tick hops c.take.new.self c.settle.new.self.hops c.args.number c.in-Some.taken c.take_answer.new.self c.in_ok-course.course c.args.reply.answer c.in-Some.ensures.taken c.take.ensures.rest
    (c.settle.ensures.own
    (out_free hops c.take.new.self c.args.number c.in-Some.taken c.take_answer.new.self c.in-Some.ensures.taken c.take.ensures.rest c.take_answer.ensures.delivery)
    (out_low hops c.take.new.self c.args.number c.in-Some.taken c.take_answer.new.self c.in-Some.ensures.taken c.take.ensures.rest c.take_answer.ensures.delivery))
    c.settle.ensures.others c.in_ok-course.ensures.uses)

pub returns-clause-leaves : goal.returns-clause-leaves
returns-clause-leaves g c = leaves_on g.D.Disk.honest g.D.Disk.words c.settle.result c.args.relay.now c.take_answer.new.relay c.settle.new.relay c.in_ok-course.ensures.leaves c.settle.ensures.leaves

pub returns-then-self-eq0-clause-leaves : goal.returns-then-self-eq0-clause-leaves
returns-then-self-eq0-clause-leaves g c = leaves_same g.D.Disk.honest g.D.Disk.words c.args.relay.now

pub returns-in_default-clause-leaves : goal.returns-in_default-clause-leaves
returns-in_default-clause-leaves g c = leaves_same g.D.Disk.honest g.D.Disk.words c.args.relay.now
