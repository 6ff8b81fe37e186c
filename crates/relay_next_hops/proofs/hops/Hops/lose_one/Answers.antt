-- The connection that is taken out is counted until it is settled.
use Rattle.std.proofs.Common.{refl}
use Rattle.relay_next_hops.specs.Deliveries.{KeepsDelivery}
use Rattle.relay_next_hops.specs.declared.hop.Hop.{Hop}
use Rattle.relay_log.specs.declared.hop_link.Loss.TheVariants.{Cut}
use Rattle.relay_next_hops.proofs.HearingLemmas.{hears_as}
use Rattle.relay_next_hops.proofs.LeaveLemmas.{leaves_same}
use Rattle.relay_next_hops.proofs.SlotLemmas.{out_aim, out_aimed, out_counts, out_free, out_low}
use Rattle.relay_next_hops.proofs.hops.Hops.lose_one.Goals as goal

same : {S : Type 0} (hop : Hop S) → KeepsDelivery hop hop
same hop = record { aim = refl; message = refl; name = refl }

pub returns-clause-counts : goal.returns-clause-counts
returns-clause-counts g c = λ match_is.
    let hops = c.args.self.now.hops in
    let hop = c.in-Some-take.hop in
    c.in_ok-settle.ensures.counts
    (out_counts hops c.take.new.self c.in-Some.number hop hop c.in-Some-take.ensures.taken c.take.ensures.rest (same hop) c.args.lanes.now.paces c.args.lanes.now.paces (λ lane. refl) match_is)
    (out_free hops c.take.new.self c.in-Some.number hop hop c.in-Some-take.ensures.taken c.take.ensures.rest (same hop))
    (out_low hops c.take.new.self c.in-Some.number hop hop c.in-Some-take.ensures.taken c.take.ensures.rest (same hop))

pub returns-clause-aimed : goal.returns-clause-aimed
returns-clause-aimed g c = λ routes aimed.
    let hops = c.args.self.now.hops in
    let hop = c.in-Some-take.hop in
    c.settle.ensures.aimed routes
    (out_aim hops c.take.new.self c.in-Some.number hop hop c.in-Some-take.ensures.taken c.take.ensures.rest (same hop) routes aimed)
    (out_aimed hops c.take.new.self c.in-Some.number hop hop c.in-Some-take.ensures.taken c.take.ensures.rest (same hop) routes aimed)

pub returns-in_default-clause-leaves : goal.returns-in_default-clause-leaves
returns-in_default-clause-leaves g c = leaves_same g.D.Disk.honest g.D.Disk.words c.args.relay.now

pub returns-in_default-take-clause-leaves : goal.returns-in_default-take-clause-leaves
returns-in_default-take-clause-leaves g c = leaves_same g.D.Disk.honest g.D.Disk.words c.args.relay.now

pub returns-in_err-settle-clause-aimed : goal.returns-in_err-settle-clause-aimed
returns-in_err-settle-clause-aimed g c = λ routes aimed.
    let hops = c.args.self.now.hops in
    let hop = c.in-Some-take.hop in
    c.settle.ensures.aimed routes
    (out_aim hops c.take.new.self c.in-Some.number hop hop c.in-Some-take.ensures.taken c.take.ensures.rest (same hop) routes aimed)
    (out_aimed hops c.take.new.self c.in-Some.number hop hop c.in-Some-take.ensures.taken c.take.ensures.rest (same hop) routes aimed)

pub returns-clause-lost : goal.returns-clause-lost
returns-clause-lost g c =
    let its = hears_as c.args.self.now.hops c.in-Some.number c.in-Some-take.hop c.in-Some-take.ensures.taken c.in-Some.ensures in
    (c.in-Some.number, its.0, its.2, c.in_ok-settle.ensures.lost Cut its.0 refl its.1)
