-- One lane more has had its turn.
use Rattle.std.proofs.Common.{◌+◌, ◌<◌, ◌≤◌, ◌^◌, inl, inr, length, min, refl, sym, ap, subst, ◌∙◌, arith}
use Rattle.relay_connections.proofs.Theorems.{leaves_then}
use Rattle.relay_next_hops.specs.Counts.{unanswered_of}
use Rattle.relay_next_hops.specs.Deliveries.{AreAimed}
use Rattle.relay_next_hops.specs.Lanes.{tasks_at}
use Rattle.relay_next_hops.specs.Starting.{IsDone, IsStoppedBy, paused_after}
use Rattle.relay_next_hops.specs.Tasks.{DropsNone}
use Rattle.relay_next_hops.specs.Turns.{IsGoneOver}
use Rattle.relay_next_hops.specs.declared.lanes.Lanes.{Lanes}
use Rattle.relay_next_hops.proofs.LeaveLemmas.{leaves_same}
use Rattle.relay_next_hops.proofs.PauseLemmas.{paused_one}
use Rattle.relay_next_hops.proofs.RoundLemmas.{done_kept, done_own, fewer_then, gone_kept, gone_own, round_all, round_next, stopped}
use Rattle.relay_next_hops.proofs.SlotLemmas.{counts_stay}
use Rattle.relay_next_hops.proofs.StartLemmas.{same_unheld, unheld_then}
use Rattle.relay_next_hops.proofs.TaskLemmas.{drops_then, stand_then}
use Rattle.relay_next_hops.proofs.TurnLemmas.{only_then, unanswered_stay}
use Rattle.relay_next_hops.proofs.turning.start_tasks.Goals as goal

pub loop-step-init : goal.loop-step-init
loop-step-init g c = record {
  leaves = leaves_same g.D.Disk.honest g.D.Disk.words c.args.relay.now;
  config = refl;
  counts = λ match_is. match_is;
  aimed = λ aimed. aimed;
  unheld = same_unheld c.args.lanes.now.held c.args.hops.now.hops c.args.hops.now.hops refl;
  held = refl;
  pause = refl;
  opened = refl;
  stale = λ is. is;
  unroutable = refl;
  drops = λ lane task there. inr (inl there);
  stand = λ number hop there. there;
  kept = omega arith;
  fewer = λ lane. omega arith;
  gone = λ lane past early. absurd (omega (arith, early));
  done = λ none lane past early. absurd (omega (arith, early));
}

pub loop-step-preserved : goal.loop-step-preserved
loop-step-preserved g c =
    let before = c.loop-step.invariant in
    let lost = c.in_ok-has_lost.ensures in
    let began = c.in_ok-begun.ensures in
    let same = lost.config ∙ before.config in
    let tick = c.args.turn.now.now.tick in
    let spares = g.N.Dial.spares c.args.dial.now in
    let kept = g.N.Dial.spares c.loop-step.dial in
    let start = c.args.lanes.now in
    let old = c.loop-step.lanes in
    let between = c.lose_once.new.lanes in
    let new = c.start_lane.new.lanes in
    let hops_old = c.loop-step.hops.hops in
    let hops_new = c.start_lane.new.hops.hops in
    let lane = c.visited-lane.result in
    let only = only_then lane old between new lost.only began.only in
    let more : unanswered_of hops_old old.paces ≤ unanswered_of hops_new new.paces = omega (arith, unanswered_stay hops_old lane old between lost.only, began.more) in
    let goes = subst (IsStoppedBy c.in_ok-begun.begun) c.if-stops.false c.stops.ensures in
    let few : length (tasks_at between lane) ≤ length (tasks_at start lane) =
    omega (arith, lost.fewer, before.fewer lane) in
    let short : c.loop-step.step < c.len-count.result + 1 = omega (arith, c.loop-step-test.true, c.saturating_add-step-end.ensures) in
    let honest = g.D.Disk.honest in
    let words = g.D.Disk.words in
    record {
      leaves = leaves_then honest words c.args.relay.now c.lose_once.new.relay c.start_lane.new.relay
          (leaves_then honest words c.args.relay.now c.loop-step.relay c.lose_once.new.relay before.leaves lost.leaves) began.leaves;
      config = began.config ∙ same;
      counts = λ match_is. began.counts (counts_stay hops_old old.paces between.paces lost.counts.runs (before.counts match_is));
      aimed = λ aimed. subst (λ config. AreAimed config.routes.routes hops_new) same
          (began.aimed (subst (λ config. AreAimed config.routes.routes hops_old) (sym same) (before.aimed aimed)));
      unheld = unheld_then start.held between.held c.args.hops.now.hops hops_old hops_new (lost.only.held ∙ before.held) before.unheld began.unheld;
      held = only.held ∙ before.held;
      pause = before.pause;
      opened = only.opened ∙ before.opened;
      stale = λ is. only.stale (before.stale is);
      unroutable = only.unroutable ∙ before.unroutable;
      drops = drops_then honest words c.args.turn.now.now.moment hops_old hops_new start between new c.args.relay.now c.lose_once.new.relay c.start_lane.new.relay
          began.only.held began.only.walk began.only.stale began.stand
          (leaves_then honest words c.args.relay.now c.loop-step.relay c.lose_once.new.relay before.leaves lost.leaves) began.leaves
          (drops_then honest words c.args.turn.now.now.moment hops_old hops_old start old between c.args.relay.now c.loop-step.relay c.lose_once.new.relay
          lost.only.held lost.only.walk lost.only.stale (λ number hop there. there) before.leaves lost.leaves before.drops (λ lane task there. inr (lost.tasks lane task there)))
          began.tasks;
      stand = stand_then c.args.hops.now.hops hops_old hops_new before.stand began.stand;
      kept = omega (arith, began.kept, before.kept);
      fewer = fewer_then start old new lane only (omega (arith, began.fewer, lost.fewer)) before.fewer;
      gone = round_next (IsGoneOver tick spares start hops_old old) (IsGoneOver tick spares start hops_new new) (min c.first-first.result c.len-count.result) c.len-count.result lane
          (λ other apart gone. gone_kept tick lane hops_old hops_new old new only more other apart spares start gone)
          (gone_own tick kept spares lane hops_new start between new (g.N.Dial.spares c.start_lane.new.dial) c.in_ok-begun.begun goes began.begun before.kept few)
          c.loop-step.step c.visited-lane.ensures short before.gone;
      done = λ none.
          let rest = c.is_more-has_more.ensures none in
          round_next (IsDone tick hops_old old) (IsDone tick hops_new new) (min c.first-first.result c.len-count.result) c.len-count.result lane
          (λ other apart done. done_kept tick lane hops_old hops_new old new only more other apart done)
          (done_own tick kept spares lane hops_new start between new (g.N.Dial.spares c.start_lane.new.dial) c.in_ok-begun.begun goes rest.1 began.begun)
          c.loop-step.step c.visited-lane.ensures short (before.done rest.0);
    }

pub returns-then-stops : goal.returns-then-stops
returns-then-stops g c =
    let before = c.loop-step.invariant in
    let lost = c.in_ok-has_lost.ensures in
    let began = c.in_ok-begun.ensures in
    let same = lost.config ∙ before.config in
    let tick = c.args.turn.now.now.tick in
    let start = c.args.lanes.now in
    let old = c.loop-step.lanes in
    let between = c.lose_once.new.lanes in
    let new = c.start_lane.new.lanes in
    let hops_old = c.loop-step.hops.hops in
    let hops_new = c.start_lane.new.hops.hops in
    let lane = c.visited-lane.result in
    let only = only_then lane old between new lost.only began.only in
    let stop = stopped tick (g.N.Dial.spares c.loop-step.dial) 0 lane hops_new start between new (g.N.Dial.spares c.start_lane.new.dial) c.in_ok-begun.begun (subst (IsStoppedBy c.in_ok-begun.begun) c.if-stops.true c.stops.ensures) began.begun in
    record {
      counts = λ match_is. counts_stay hops_new new.paces c.turn.new.self.paces c.turn.ensures.counts.runs
          (began.counts (counts_stay hops_old old.paces between.paces lost.counts.runs (before.counts match_is)));
      aimed = λ aimed. subst (λ config. AreAimed config.routes.routes hops_new) same
          (began.aimed (subst (λ config. AreAimed config.routes.routes hops_old) (sym same) (before.aimed aimed)));
      whole = λ opened. inr (inl stop);
      closes = λ opened. inl (ap (λ (lanes : Lanes). lanes.is_open) c.turn.ensures.rest ∙ only.opened ∙ before.opened ∙ opened);
      tasks = subst (λ (lanes : Lanes). DropsNone g.D.Disk.honest g.D.Disk.words c.args.turn.now.now.moment hops_new start lanes c.args.relay.now c.start_lane.new.relay) (sym c.turn.ensures.rest)
          (drops_then g.D.Disk.honest g.D.Disk.words c.args.turn.now.now.moment hops_old hops_new start between new c.args.relay.now c.lose_once.new.relay c.start_lane.new.relay
          began.only.held began.only.walk began.only.stale began.stand
          (leaves_then g.D.Disk.honest g.D.Disk.words c.args.relay.now c.loop-step.relay c.lose_once.new.relay before.leaves lost.leaves) began.leaves
          (drops_then g.D.Disk.honest g.D.Disk.words c.args.turn.now.now.moment hops_old hops_old start old between c.args.relay.now c.loop-step.relay c.lose_once.new.relay
          lost.only.held lost.only.walk lost.only.stale (λ number hop there. there) before.leaves lost.leaves before.drops (λ lane task there. inr (lost.tasks lane task there)))
          began.tasks);
      stand = stand_then c.args.hops.now.hops hops_old hops_new before.stand began.stand;
      unroutable = ap (λ (lanes : Lanes). lanes.unroutable) c.turn.ensures.rest ∙ only.unroutable ∙ before.unroutable;
      stale = λ is. ap (λ (lanes : Lanes). lanes.is_stale) c.turn.ensures.rest ∙ only.stale (before.stale is);
      unheld = unheld_then start.held between.held c.args.hops.now.hops hops_old hops_new (lost.only.held ∙ before.held) before.unheld began.unheld;
      held = c.turn.ensures.counts.held ∙ only.held ∙ before.held;
      paused = paused_one c.in_ok-begun.begun tick c.args.starts.now.paused_until c.pause.new.self.paused_until
          (c.pause.ensures ∙ ap (paused_after c.in_ok-begun.begun tick) before.pause);
      config = began.config ∙ same;
      leaves = leaves_then g.D.Disk.honest g.D.Disk.words c.args.relay.now c.lose_once.new.relay c.start_lane.new.relay
          (leaves_then g.D.Disk.honest g.D.Disk.words c.args.relay.now c.loop-step.relay c.lose_once.new.relay before.leaves lost.leaves) began.leaves;
    }

-- each lane has had its turn
pub returns-then-has_lost-clause-whole : goal.returns-then-has_lost-clause-whole
returns-then-has_lost-clause-whole g c = λ opened. inr (inr (λ lane low.
    let tick = c.args.turn.now.now.tick in
    let spares = g.N.Dial.spares c.args.dial.now in
    let start = c.args.lanes.now in
    let hops = c.loop-step.hops.hops in
    let few : length start.lanes.items < 2 ^ 63 =
    omega (arith, start.lanes.ok.0, start.lanes.ok.1, start.lanes.small) in
    let over : c.len-count.result < c.loop-step.step = omega (arith, c.len-count.ensures, c.saturating_add-step-end.ensures, c.loop-step-test.false, few) in
    let within : min c.first-first.result c.len-count.result ≤ c.len-count.result = omega arith in
    subst (λ (lanes : Lanes). IsGoneOver tick spares start hops lanes lane) (sym c.turn-2.ensures.rest)
    (round_all (IsGoneOver tick spares start hops c.loop-step.lanes) (min c.first-first.result c.len-count.result) c.len-count.result c.loop-step.step within over c.loop-step.invariant.gone lane (omega (arith, c.len-count.ensures, low)))))

pub returns-clause-whole : goal.returns-clause-whole
returns-clause-whole g c = λ opened. inr (inr (λ lane low.
    let tick = c.args.turn.now.now.tick in
    let spares = g.N.Dial.spares c.args.dial.now in
    let start = c.args.lanes.now in
    let hops = c.loop-step.hops.hops in
    let few : length start.lanes.items < 2 ^ 63 =
    omega (arith, start.lanes.ok.0, start.lanes.ok.1, start.lanes.small) in
    let over : c.len-count.result < c.loop-step.step = omega (arith, c.len-count.ensures, c.saturating_add-step-end.ensures, c.loop-step-test.false, few) in
    let within : min c.first-first.result c.len-count.result ≤ c.len-count.result = omega arith in
    subst (λ (lanes : Lanes). IsGoneOver tick spares start hops lanes lane) (sym c.close.ensures.rest)
    (subst (λ (lanes : Lanes). IsGoneOver tick spares start hops lanes lane) (sym c.turn-2.ensures.rest)
    (round_all (IsGoneOver tick spares start hops c.loop-step.lanes) (min c.first-first.result c.len-count.result) c.len-count.result c.loop-step.step within over c.loop-step.invariant.gone lane (omega (arith, c.len-count.ensures, low))))))

pub returns-clause-closes : goal.returns-clause-closes
returns-clause-closes g c = λ opened. inr (λ lane low.
    let tick = c.args.turn.now.now.tick in
    let start = c.args.lanes.now in
    let hops = c.loop-step.hops.hops in
    let few : length start.lanes.items < 2 ^ 63 =
    omega (arith, start.lanes.ok.0, start.lanes.ok.1, start.lanes.small) in
    let over : c.len-count.result < c.loop-step.step = omega (arith, c.len-count.ensures, c.saturating_add-step-end.ensures, c.loop-step-test.false, few) in
    let within : min c.first-first.result c.len-count.result ≤ c.len-count.result = omega arith in
    subst (λ (lanes : Lanes). IsDone tick hops lanes lane) (sym c.close.ensures.rest)
    (subst (λ (lanes : Lanes). IsDone tick hops lanes lane) (sym c.turn-2.ensures.rest)
    (round_all (IsDone tick hops c.loop-step.lanes) (min c.first-first.result c.len-count.result) c.len-count.result c.loop-step.step within over (c.loop-step.invariant.done c.if-has_more.false) lane (omega (arith, c.len-count.ensures, low)))))

-- No task was dropped.
pub returns-then-has_lost-clause-tasks : goal.returns-then-has_lost-clause-tasks
returns-then-has_lost-clause-tasks g c =
    subst (λ (lanes : Lanes). DropsNone g.D.Disk.honest g.D.Disk.words c.args.turn.now.now.moment c.loop-step.hops.hops c.args.lanes.now lanes c.args.relay.now c.loop-step.relay)
    (sym c.turn-2.ensures.rest) c.loop-step.invariant.drops

pub returns-clause-tasks : goal.returns-clause-tasks
returns-clause-tasks g c =
    subst (λ (lanes : Lanes). DropsNone g.D.Disk.honest g.D.Disk.words c.args.turn.now.now.moment c.loop-step.hops.hops c.args.lanes.now lanes c.args.relay.now c.loop-step.relay)
    (sym c.close.ensures.rest)
    (subst (λ (lanes : Lanes). DropsNone g.D.Disk.honest g.D.Disk.words c.args.turn.now.now.moment c.loop-step.hops.hops c.args.lanes.now lanes c.args.relay.now c.loop-step.relay)
    (sym c.turn-2.ensures.rest) c.loop-step.invariant.drops)

-- No lane is visited.
pub returns-then-not-is_open-clause-tasks : goal.returns-then-not-is_open-clause-tasks
returns-then-not-is_open-clause-tasks g c = λ lane task there. inr (inl there)

pub returns-then-not-is_open-clause-leaves : goal.returns-then-not-is_open-clause-leaves
returns-then-not-is_open-clause-leaves g c = leaves_same g.D.Disk.honest g.D.Disk.words c.args.relay.now

pub returns-then-has_lost-clause-leaves : goal.returns-then-has_lost-clause-leaves
returns-then-has_lost-clause-leaves g c = c.loop-step.invariant.leaves

pub returns-clause-leaves : goal.returns-clause-leaves
returns-clause-leaves g c = c.loop-step.invariant.leaves

-- Nothing was paused.
pub returns-in_err-has_lost-clause-paused : goal.returns-in_err-has_lost-clause-paused
returns-in_err-has_lost-clause-paused g c = inl c.loop-step.invariant.pause

pub returns-in_err-begun-clause-paused : goal.returns-in_err-begun-clause-paused
returns-in_err-begun-clause-paused g c = inl c.loop-step.invariant.pause

pub returns-then-has_lost-clause-paused : goal.returns-then-has_lost-clause-paused
returns-then-has_lost-clause-paused g c = inl c.loop-step.invariant.pause

pub returns-clause-paused : goal.returns-clause-paused
returns-clause-paused g c = inl c.loop-step.invariant.pause
