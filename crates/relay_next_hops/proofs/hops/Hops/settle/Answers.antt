-- A connection that stays is counted in the table again; of one that doesn't, its lane has one less.
use Rattle.std.proofs.Common.{refl, sym, ◌∙◌, ap, subst}
use Rattle.relay_next_hops.specs.Deliveries.{closes, portions_after}
use Rattle.relay_lanes.specs.Paces.{RunsOneLess}
use Rattle.relay_next_hops.specs.declared.delivery.Aim.{Aim}
use Rattle.relay_next_hops.proofs.LeaveLemmas.{leaves_same}
use Rattle.relay_next_hops.proofs.SlotLemmas.{counts_ended, left_none, put_aimed, put_counts}
use Rattle.relay_next_hops.proofs.hops.Hops.settle.Goals as goal

pub returns-in-Stays-clause-counts : goal.returns-in-Stays-clause-counts
returns-in-Stays-clause-counts g c = λ match_is free low.
    put_counts c.args.self.now.hops c.put.new.self c.args.number c.args.attended.hop c.put.ensures.stands c.put.ensures.after c.args.lanes.now.paces free low match_is

pub returns-in-Stays-clause-aimed : goal.returns-in-Stays-clause-aimed
returns-in-Stays-clause-aimed g c = λ routes is aimed.
    put_aimed c.args.self.now.hops c.put.new.self c.args.number c.args.attended.hop c.put.ensures.stands c.put.ensures.after routes is aimed

pub returns-in_ok-conclude-in_default : goal.returns-in_ok-conclude-in_default
returns-in_ok-conclude-in_default g c = record {
  own = λ free low. free ∙ sym (left_none c.args.attended.course c.args.attended.hop c.in_default.not-Stays);
  others = λ other apart. refl;
  first = refl;
  lost = λ loss attempt is some. c.in_ok-conclude-in_default.ensures.lost loss attempt is (c.into_parts-ended.ensures.attempt ∙ some);
  same = c.conclude.ensures.same;
  portions = c.conclude.ensures.portions
      ∙ ap (λ attempt. portions_after c.args.attended.course attempt c.into_parts-ended.result.1.is_closed c.into_parts-ended.result.1.message c.args.self.now.portions) c.into_parts-ended.ensures.attempt
      ∙ ap (λ closed. portions_after c.args.attended.course c.args.attended.hop.attempt closed c.into_parts-ended.result.1.message c.args.self.now.portions) c.into_parts-ended.ensures.closed
      ∙ ap (λ message. portions_after c.args.attended.course c.args.attended.hop.attempt (closes c.args.attended.hop) message c.args.self.now.portions) c.into_parts-ended.ensures.delivery.0;
  counts = λ match_is free low. counts_ended c.args.attended.hop c.args.self.now.hops c.args.lanes.now.paces c.conclude.new.lanes.paces
      (subst (λ (aim : Aim). RunsOneLess aim.lane c.args.lanes.now.paces c.conclude.new.lanes.paces) c.into_parts-ended.ensures.aim c.conclude.ensures.runs) match_is;
  aimed = λ routes is aimed. aimed;
  leaves = c.in_ok-conclude-in_default.ensures.leaves;
}

pub returns-in-Stays-clause-leaves : goal.returns-in-Stays-clause-leaves
returns-in-Stays-clause-leaves g c = leaves_same g.D.Disk.honest g.D.Disk.words c.args.relay.now
