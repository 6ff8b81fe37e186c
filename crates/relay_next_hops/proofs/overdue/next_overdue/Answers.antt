use Rattle.std.proofs.Common.{◌≡◌, ◌-◌, ℕ, Bool, true, false, drop, take, find, sym, ap, ◌∙◌, Some, inr, length, arith}
use Rattle.std.proofs.lemmas.List.{drop-drop, drop_all}
use Rattle.relay_book.specs.Queue.{message_of}
use Rattle.relay_lanes.specs.declared.lane.Task.{Task}
use Rattle.relay_lanes.specs.Lane.{first_message}
use Rattle.relay_next_hops.specs.Overdue.{is_overdue, is_overdue_task, unchecked_at}
use Rattle.relay_next_hops.proofs.OverdueLemmas.{find_none, find_passes, find_stops, first_taken, none_left, takes_fewer, takes_out}
use Rattle.relay_next_hops.proofs.TurnLemmas.{only_then}
use Rattle.relay_next_hops.proofs.overdue.next_overdue.Goals as goal

-- The first that wasn't checked is overdue, and so it is the first that is.
pub returns-then-is_overdue-clause-first : goal.returns-then-is_overdue-clause-first
returns-then-is_overdue-clause-first g c =
    let message : Task → ℕ = λ task. task.message in
    let test : ℕ → Bool = λ message. is_overdue c.args.now.now.moment (message_of c.args.relay.now.node.records.queue.messages message) in
    let left = unchecked_at c.loop-checks.lanes c.args.lane in
    let next : first_message left ≡ Some c.in-Some.message = sym c.in-Some.ensures in
    let late : test c.in-Some.message ≡ true = sym c.is_overdue.ensures ∙ c.if-is_overdue.true in
    first_taken c.take_unchecked.result left (unchecked_at c.take_unchecked.new.self c.args.lane)
    c.take_unchecked.ensures.unchecked c.take_unchecked.ensures.none
    ∙ sym (find_stops message test left c.in-Some.message c.loop-checks.checks (c.loop-checks.checks - 1) next late (omega arith))
    ∙ c.loop-checks.invariant.first

-- It leaves the lane, and nothing else does.
pub returns-then-is_overdue-clause-taken : goal.returns-then-is_overdue-clause-taken
returns-then-is_overdue-clause-taken g c =
    takes_out c.take_unchecked.result c.args.lane c.args.lanes.now c.loop-checks.lanes c.take_unchecked.new.self
    c.loop-checks.invariant.tasks c.take_unchecked.ensures.unchecked c.take_unchecked.ensures.checked

-- The first that wasn't checked isn't overdue.
pub loop-checks-preserved : goal.loop-checks-preserved
loop-checks-preserved g c =
    let message : Task → ℕ = λ task. task.message in
    let test : ℕ → Bool = λ message. is_overdue c.args.now.now.moment (message_of c.args.relay.now.node.records.queue.messages message) in
    let left = unchecked_at c.loop-checks.lanes c.args.lane in
    let next : first_message left ≡ Some c.in-Some.message = sym c.in-Some.ensures in
    let fails : test c.in-Some.message ≡ false = sym c.is_overdue.ensures ∙ c.if-is_overdue.false in
    let less = c.loop-checks.checks - 1 in
    record {
      first = ap (λ tasks. find (is_overdue_task c.args.now.now.moment c.args.relay.now.node.records.queue.messages) (take less tasks)) c.check.ensures.unchecked
          ∙ find_passes message test left c.in-Some.message c.loop-checks.checks less next fails (omega arith)
          ∙ c.loop-checks.invariant.first;
      rest = ap (λ tasks. drop less tasks) c.check.ensures.unchecked ∙ drop-drop less 1 left
          ∙ ap (λ n. drop n left) (omega arith) ∙ c.loop-checks.invariant.rest;
      tasks = c.check.ensures.tasks ∙ c.loop-checks.invariant.tasks;
      counts = record {
        places = c.check.ensures.counts.places ∙ c.loop-checks.invariant.counts.places;
        held = c.check.ensures.counts.held ∙ c.loop-checks.invariant.counts.held;
        runs = λ number. c.check.ensures.counts.runs number ∙ c.loop-checks.invariant.counts.runs number;
      };
      only = only_then c.args.lane c.args.lanes.now c.loop-checks.lanes c.check.new.self c.loop-checks.invariant.only c.check.ensures.only;
    }

-- None is left that wasn't checked.
pub returns-in_default-clause-none : goal.returns-in_default-clause-none
returns-in_default-clause-none g c =
    let message : Task → ℕ = λ task. task.message in
    let left = unchecked_at c.loop-checks.lanes c.args.lane in
    let empty = none_left message left (sym c.in_default.ensures) in
    λ _. record {
      tasks = c.loop-checks.invariant.tasks;
      unchecked = empty ∙ sym (drop_all c.loop-checks.checks left (omega (arith, ap length empty))) ∙ c.loop-checks.invariant.rest;
    }

pub returns-in_default-clause-stops : goal.returns-in_default-clause-stops
returns-in_default-clause-stops g c =
    let message : Task → ℕ = λ task. task.message in
    λ _. inr (none_left message (unchecked_at c.loop-checks.lanes c.args.lane) (sym c.in_default.ensures))

-- One task less is left.
pub returns-then-is_overdue-clause-fewer : goal.returns-then-is_overdue-clause-fewer
returns-then-is_overdue-clause-fewer g c =
    takes_fewer c.take_unchecked.result c.args.lane c.args.lanes.now c.loop-checks.lanes c.take_unchecked.new.self
    c.loop-checks.invariant.tasks c.take_unchecked.ensures.unchecked c.take_unchecked.ensures.checked

-- None is overdue where none is left.
pub returns-in_default-clause-first : goal.returns-in_default-clause-first
returns-in_default-clause-first g c =
    let message : Task → ℕ = λ task. task.message in
    let test = is_overdue_task c.args.now.now.moment c.args.relay.now.node.records.queue.messages in
    let empty = none_left message (unchecked_at c.loop-checks.lanes c.args.lane) (sym c.in_default.ensures) in
    sym (ap (λ tasks. find test (take c.loop-checks.checks tasks)) empty ∙ find_none test c.loop-checks.checks) ∙ c.loop-checks.invariant.first
