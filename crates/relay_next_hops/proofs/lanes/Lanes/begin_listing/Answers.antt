-- The walk goes over what is known.
use Rattle.std.proofs.Common.{refl, sym, ap, ◌∙◌}
use Rattle.relay_lanes.specs.Numbers.{Walk}
use Rattle.relay_next_hops.proofs.KnownLemmas.{err_of, known_begins, known_same, ok_of}
use Rattle.relay_next_hops.proofs.lanes.Lanes.begin_listing.Goals as goal

pub returns-then-is_err-clause-idle : goal.returns-then-is_err-clause-idle
returns-then-is_err-clause-idle g c = λ over begun.
    ap (λ (walk : Walk). walk.left) (err_of _ c.begin.result (sym c.is_err.ensures.value ∙ c.if-is_err.true) c.begin.ensures.failed) ∙ c.in_ok-learn_queue.ensures.left over

pub returns-then-is_err-clause-known : goal.returns-then-is_err-clause-known
returns-then-is_err-clause-known g c = λ next over before.
    known_same c.args.relay.now.node next c.learn_queue.new.self (record c.learn_queue.new.self { queued = c.begin.new.self })
    (err_of _ c.begin.result (sym c.is_err.ensures.value ∙ c.if-is_err.true) c.begin.ensures.failed) refl
    (c.in_ok-learn_queue.ensures.known next before)

pub returns-clause-known : goal.returns-clause-known
returns-clause-known g c = λ next over before.
    known_begins c.args.relay.now.node next c.learn_queue.new.self (record c.learn_queue.new.self { queued = c.begin.new.self }) (c.in_ok-learn_queue.ensures.left over)
    (ok_of _ c.begin.result (sym c.is_err.ensures.value ∙ c.if-is_err.false) (c.begin.ensures.begins (c.in_ok-learn_queue.ensures.left over))) refl
    (c.in_ok-learn_queue.ensures.known next before)

pub returns-then-not-branch-clause-known : goal.returns-then-not-branch-clause-known
returns-then-not-branch-clause-known g c = λ next over before. c.in_ok-learn_queue.ensures.known next before
