-- The next task of the lane was tried.
use Rattle.std.proofs.Common.{◌≡◌, ◌+◌, ◌≤◌, inl, inr, true, false, List, length, refl, sym, ap, subst, ◌∙◌, add-one, arith}
use Rattle.relay_control.specs.Held.{holds}
use Rattle.relay_limits.specs.declared.pace.Pace.{Pace}
use Rattle.relay_next_hops.specs.Counts.{CountsMatch, unanswered_of}
use Rattle.relay_next_hops.specs.Deliveries.{IsOpenedTo}
use Rattle.relay_next_hops.specs.Lanes.{tasks_at}
use Rattle.relay_lanes.specs.Paces.{HasLane, MayBeginAt}
use Rattle.relay_next_hops.specs.Starting.{IsStep}
use Rattle.relay_next_hops.specs.Tasks.{IsAccountedFor}
use Rattle.relay_next_hops.proofs.LeaveLemmas.{leaves_same}
use Rattle.relay_next_hops.proofs.StartLemmas.{back_few, same_unheld, step_is, tried_aimed, tried_counts, tried_unanswered, tried_unheld}
use Rattle.relay_next_hops.proofs.TaskLemmas.{each_but, first_or_rest, has_lane_first, next_drops_none, none_left_lane, tried_accounts, tried_stand}
use Rattle.relay_next_hops.proofs.TurnLemmas.{has_lane, only_then}
use Rattle.relay_next_hops.proofs.starting.start_next.Goals as goal
use Rattle.relay_next_hops.proofs.starting.start_next.Goals.{else-not-has_answered-via-then-not-has_answered+else-count_unanswered-ge-MOST_UNANSWERED, else-not-has_answered-via-else-not-has_answered}

pub returns : goal.returns
returns g c =
    let words = g.D.Disk.words in
    let opened = IsOpenedTo g.N.Dial.leads_to g.S.Stream.remaining g.S.Stream.contents in
    let now = c.args.turn.now.now in
    let lane = c.args.lane in
    let old = c.args.lanes.now in
    let between = c.next.new.self in
    let new = c.start_task.new.lanes in
    let hops_old = c.args.hops.now.hops in
    let hops_new = c.start_task.new.hops.hops in
    let relay_old = c.args.relay.now in
    let relay_new = c.start_task.new.relay in
    let number = c.in-Some.number in
    let task = c.in-Some-next.task in
    let tried = c.in_ok-tried.tried in
    let may = c.in-Some-next.ensures.begins in
    let paces : between.paces ≡ old.paces = c.in-Some-next.ensures.paces in
    let has : HasLane between.paces lane = subst (λ (paces : List Pace). HasLane paces lane) (sym paces) (has_lane old.most now.tick old.paces lane may) in
    let low = c.in-Some.ensures.within in
    let comes = c.in_ok-tried.ensures.tried low has in
    let free = c.in-Some.ensures.least.free in
    let unheld : holds task.hop task.message old.held ≡ false = ap (holds task.hop task.message) (sym c.in-Some-next.ensures.counts.held) ∙ sym c.is_kept.ensures ∙ c.if-is_kept.false in
    let longer : length (tasks_at old lane) ≡ length (tasks_at between lane) + 1 = ap length c.in-Some-next.ensures.tasks ∙ sym (add-one (length (tasks_at between lane))) in
    record {
      counts = λ match_is. tried_counts words opened now lane number task hops_old hops_new between new relay_old relay_new tried comes free low c.in-Some.ensures.few (subst (λ (paces : List Pace). CountsMatch hops_old paces) (sym paces) match_is);
      aimed = λ aimed. tried_aimed words opened now lane number task hops_old hops_new between new relay_old relay_new tried comes aimed;
      only = only_then lane old between new c.in-Some-next.ensures.only c.in_ok-tried.ensures.only;
      more = subst (λ (paces : List Pace). unanswered_of hops_old paces ≤ unanswered_of hops_new new.paces) paces (tried_unanswered words opened now lane number task hops_old hops_new between new relay_old relay_new tried comes free low c.in_ok-tried.ensures.only);
      kept = c.in_ok-tried.ensures.kept;
      fewer = omega (arith, c.in_ok-tried.ensures.fewer, longer, back_few tried);
      unheld = tried_unheld words opened now lane number task hops_old hops_new between new relay_old relay_new old.held tried unheld comes;
      tasks = next_drops_none g.D.Disk.honest words now.moment hops_new lane task old between new relay_old relay_new
          c.in-Some-next.ensures.tasks c.in-Some-next.ensures.only c.in_ok-tried.ensures.only c.in_ok-tried.ensures.tasks
          (tried_accounts words opened now lane number task hops_old hops_new between new relay_old relay_new g.D.Disk.honest tried comes low
          c.in_ok-tried.ensures.only (λ none. has_lane_first old lane task (tasks_at between lane) c.in-Some-next.ensures.tasks (c.in-Some-next.ensures.stays none))
          old.most (subst (λ (paces : List Pace). MayBeginAt old.most now.tick paces lane) (sym paces) may) c.in_ok-tried.ensures.leaves);
      stand = tried_stand words opened now lane number task hops_old hops_new between new relay_old relay_new tried comes free;
      came = subst (IsStep words opened now lane hops_old hops_new old new relay_old relay_new)
          (sym c.step_after.ensures)
          (step_is words opened now lane hops_old hops_new old new relay_old relay_new tried
          (record {
            number = number;
            task = task;
            between = between;
            may = may;
            room = λ silent. elim c.else-not-has_answered.branch [
              | else-not-has_answered-via-then-not-has_answered+else-count_unanswered-ge-MOST_UNANSWERED w ↦ omega (arith, w.if-count_unanswered-ge-MOST_UNANSWERED.false, w.count_unanswered.ensures)
              | else-not-has_answered-via-else-not-has_answered w ↦ absurd (cc (c.has_answered.ensures, silent, w.if-not-has_answered.false))
            ];
            free = c.in-Some.ensures.least;
            first = c.in-Some-next.ensures.tasks;
            runs = paces;
            free_to_go = unheld;
            comes = comes;
          })
          (λ before is. omega (arith, c.in_ok-tried.ensures.fewer, longer, is)));
      config = c.in_ok-tried.ensures.config;
      leaves = c.in_ok-tried.ensures.leaves;
    }

-- A task that a postmaster holds has left the lane, and nothing else changes.
pub returns-then-is_kept : goal.returns-then-is_kept
returns-then-is_kept g c =
    let lane = c.args.lane in
    let old = c.args.lanes.now in
    let between = c.next.new.self in
    let hops = c.args.hops.now.hops in
    let task = c.in-Some-next.task in
    let paces : between.paces ≡ old.paces = c.in-Some-next.ensures.paces in
    let kept : holds task.hop task.message old.held ≡ true = ap (holds task.hop task.message) (sym c.in-Some-next.ensures.counts.held) ∙ sym c.is_kept.ensures ∙ c.if-is_kept.true in
    let longer : length (tasks_at old lane) ≡ length (tasks_at between lane) + 1 = ap length c.in-Some-next.ensures.tasks ∙ sym (add-one (length (tasks_at between lane))) in
    record {
      counts = λ match_is. subst (λ (paces : List Pace). CountsMatch hops paces) (sym paces) match_is;
      aimed = λ aimed. aimed;
      only = c.in-Some-next.ensures.only;
      more = subst (λ (paces : List Pace). unanswered_of hops old.paces ≤ unanswered_of hops paces) (sym paces) (omega arith);
      fewer = omega (arith, longer);
      kept = refl;
      unheld = same_unheld old.held hops hops refl;
      tasks = each_but lane task old between c.in-Some-next.ensures.only.tasks
          (first_or_rest (tasks_at old lane) task (tasks_at between lane) c.in-Some-next.ensures.tasks)
          (λ lane one. IsAccountedFor g.D.Disk.honest g.D.Disk.words c.args.turn.now.now.moment hops lane one between c.args.relay.now c.args.relay.now)
          (λ lane one there. inr (inl there)) (inr (inr (inr (inr (inl (sym c.is_kept.ensures ∙ c.if-is_kept.true))))));
      stand = λ number hop there. there;
      came = (
        inr (record {
          task = task;
          kept = kept;
          first = c.in-Some-next.ensures.tasks;
          paces = paces;
          hops = refl;
          relay = refl;
        }),
        omega (arith, longer),
      );
      config = refl;
      leaves = leaves_same g.D.Disk.honest g.D.Disk.words c.args.relay.now;
    }

-- No task is tried, and none leaves its lane.
pub returns-in_default-clause-tasks : goal.returns-in_default-clause-tasks
returns-in_default-clause-tasks g c = λ lane task there. inr (inl there)

pub returns-then-not-may_begin-clause-tasks : goal.returns-then-not-may_begin-clause-tasks
returns-then-not-may_begin-clause-tasks g c = λ lane task there. inr (inl there)

pub returns-then-count_unanswered-ge-MOST_UNANSWERED-clause-tasks : goal.returns-then-count_unanswered-ge-MOST_UNANSWERED-clause-tasks
returns-then-count_unanswered-ge-MOST_UNANSWERED-clause-tasks g c = λ lane task there. inr (inl there)

pub returns-in_default-next-clause-tasks : goal.returns-in_default-next-clause-tasks
returns-in_default-next-clause-tasks g c = λ lane task there. inr (inl (none_left_lane c.args.lane c.args.lanes.now c.next.new.self
    c.in_default-next.ensures.only.tasks (sym c.in_default-next.ensures.tasks) lane task there))

pub returns-in_default-clause-leaves : goal.returns-in_default-clause-leaves
returns-in_default-clause-leaves g c = leaves_same g.D.Disk.honest g.D.Disk.words c.args.relay.now

pub returns-then-not-may_begin-clause-leaves : goal.returns-then-not-may_begin-clause-leaves
returns-then-not-may_begin-clause-leaves g c = leaves_same g.D.Disk.honest g.D.Disk.words c.args.relay.now

pub returns-then-count_unanswered-ge-MOST_UNANSWERED-clause-leaves : goal.returns-then-count_unanswered-ge-MOST_UNANSWERED-clause-leaves
returns-then-count_unanswered-ge-MOST_UNANSWERED-clause-leaves g c = leaves_same g.D.Disk.honest g.D.Disk.words c.args.relay.now

pub returns-in_default-next-clause-leaves : goal.returns-in_default-next-clause-leaves
returns-in_default-next-clause-leaves g c = leaves_same g.D.Disk.honest g.D.Disk.words c.args.relay.now
