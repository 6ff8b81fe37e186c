-- One task more was tried.
use Rattle.std.proofs.Common.{inl, inr, refl, sym, subst, ◌∙◌, arith}
use Rattle.relay_connections.proofs.Theorems.{leaves_then}
use Rattle.relay_next_hops.specs.Deliveries.{AreAimed, IsOpenedTo}
use Rattle.relay_next_hops.proofs.LeaveLemmas.{leaves_same}
use Rattle.relay_next_hops.proofs.StartLemmas.{same_unheld, step_ends, step_goes_on, unheld_then}
use Rattle.relay_next_hops.proofs.TaskLemmas.{drops_then, stand_then}
use Rattle.relay_next_hops.proofs.TurnLemmas.{only_then}
use Rattle.relay_next_hops.proofs.starting.start_lane.Goals as goal

pub loop-init : goal.loop-init
loop-init g c = record {
  leaves = leaves_same g.D.Disk.honest g.D.Disk.words c.args.relay.now;
  config = refl;
  counts = λ match_is. match_is;
  aimed = λ aimed. aimed;
  only = record { held = refl; most = refl; tasks = λ other apart. refl; paces = λ other apart. refl; silent = λ silent. silent; opened = refl; unroutable = refl; walk = refl; stale = λ is. is };
  unheld = same_unheld c.args.lanes.now.held c.args.hops.now.hops c.args.hops.now.hops refl;
  drops = λ lane task there. inr (inl there);
  stand = λ number hop there. there;
  more = omega arith;
  kept = omega arith;
  tries = omega arith;
  tasks = omega arith;
}

pub loop-preserved : goal.loop-preserved
loop-preserved g c =
    let next = c.in_ok-step.ensures in
    let before = c.loop.invariant in
    let kept = step_goes_on g.D.Disk.words (IsOpenedTo g.N.Dial.leads_to g.S.Stream.remaining g.S.Stream.contents) c.args.turn.now.now c.args.lane c.loop.hops.hops c.start_next.new.hops.hops c.loop.lanes c.start_next.new.lanes c.loop.relay c.start_next.new.relay
    c.in_ok-step.step c.end_of.result _ _ next.came c.end_of.ensures (λ last is. c.in_default.not-Some last is) in
    record {
      leaves = leaves_then g.D.Disk.honest g.D.Disk.words c.args.relay.now c.loop.relay c.start_next.new.relay before.leaves next.leaves;
      config = next.config ∙ before.config;
      counts = λ match_is. next.counts (before.counts match_is);
      aimed = λ aimed. subst (λ config. AreAimed config.routes.routes c.start_next.new.hops.hops) before.config
          (next.aimed (subst (λ config. AreAimed config.routes.routes c.loop.hops.hops) (sym before.config) (before.aimed aimed)));
      only = only_then c.args.lane c.args.lanes.now c.loop.lanes c.start_next.new.lanes before.only next.only;
      unheld = unheld_then c.args.lanes.now.held c.loop.lanes.held c.args.hops.now.hops c.loop.hops.hops c.start_next.new.hops.hops before.only.held before.unheld next.unheld;
      drops = drops_then g.D.Disk.honest g.D.Disk.words c.args.turn.now.now.moment c.loop.hops.hops c.start_next.new.hops.hops
          c.args.lanes.now c.loop.lanes c.start_next.new.lanes c.args.relay.now c.loop.relay c.start_next.new.relay
          next.only.held next.only.walk next.only.stale next.stand before.leaves next.leaves before.drops next.tasks;
      stand = stand_then c.args.hops.now.hops c.loop.hops.hops c.start_next.new.hops.hops before.stand next.stand;
      more = omega (arith, before.more, next.more);
      kept = omega (arith, before.kept, kept.2, next.kept);
      tries = omega (arith, before.tries, kept.1, next.kept);
      tasks = omega (arith, before.tasks, kept.0, next.kept);
    }

pub returns-in-Some-clause-unheld : goal.returns-in-Some-clause-unheld
returns-in-Some-clause-unheld g c =
    unheld_then c.args.lanes.now.held c.loop.lanes.held c.args.hops.now.hops c.loop.hops.hops c.start_next.new.hops.hops
    c.loop.invariant.only.held c.loop.invariant.unheld c.in_ok-step.ensures.unheld

pub returns-in-Some-clause-tasks : goal.returns-in-Some-clause-tasks
returns-in-Some-clause-tasks g c =
    drops_then g.D.Disk.honest g.D.Disk.words c.args.turn.now.now.moment c.loop.hops.hops c.start_next.new.hops.hops
    c.args.lanes.now c.loop.lanes c.start_next.new.lanes c.args.relay.now c.loop.relay c.start_next.new.relay
    c.in_ok-step.ensures.only.held c.in_ok-step.ensures.only.walk c.in_ok-step.ensures.only.stale c.in_ok-step.ensures.stand
    c.loop.invariant.leaves c.in_ok-step.ensures.leaves c.loop.invariant.drops c.in_ok-step.ensures.tasks

pub returns-in-Some-clause-stand : goal.returns-in-Some-clause-stand
returns-in-Some-clause-stand g c =
    stand_then c.args.hops.now.hops c.loop.hops.hops c.start_next.new.hops.hops c.loop.invariant.stand c.in_ok-step.ensures.stand

pub returns-clause-tasks : goal.returns-clause-tasks
returns-clause-tasks g c = c.loop.invariant.drops

pub returns-in-Some-clause-begun : goal.returns-in-Some-clause-begun
returns-in-Some-clause-begun g c =
    step_ends g.D.Disk.words (IsOpenedTo g.N.Dial.leads_to g.S.Stream.remaining g.S.Stream.contents) c.args.turn.now.now c.args.lane c.loop.hops.hops c.start_next.new.hops.hops c.loop.lanes c.start_next.new.lanes c.loop.relay c.start_next.new.relay
    c.in_ok-step.step c.in-Some.begun _ c.args.lanes.now _ (g.N.Dial.spares c.end_of.new.dial) c.in_ok-step.ensures.came c.in-Some.ensures

pub returns-in-Some-clause-leaves : goal.returns-in-Some-clause-leaves
returns-in-Some-clause-leaves g c = leaves_then g.D.Disk.honest g.D.Disk.words c.args.relay.now c.loop.relay c.start_next.new.relay c.loop.invariant.leaves c.in_ok-step.ensures.leaves

pub returns-clause-leaves : goal.returns-clause-leaves
returns-clause-leaves g c = c.loop.invariant.leaves
