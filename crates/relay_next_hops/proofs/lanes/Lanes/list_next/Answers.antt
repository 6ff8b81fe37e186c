-- The next message of the walk is listed.
use Rattle.std.proofs.Common.{◌≡◌, ◌∷◌, ◌∙◌, ℕ, inr, refl, sym, ap, drop, add-one, arith}
use Rattle.relay_lanes.specs.Numbers.{Walk}
use Rattle.relay_next_hops.proofs.ListingLemmas.{get_dropped, kept_then, left_dropped, more_then, walk_next}
use Rattle.relay_next_hops.proofs.KnownLemmas.{known_passed, known_same}
use Rattle.relay_next_hops.proofs.lanes.Lanes.list_next.Goals as goal

pub returns-in_default-clause-part : goal.returns-in_default-clause-part
returns-in_default-clause-part g c =
    let rest : c.next.new.self ≡ c.loop.self.queued = c.in_default.ensures.none c.in_default.ensures.next in
    let left : c.next.new.self.left ≡ c.loop.self.queued.left = ap (λ (walk : Walk). walk.left) rest in
    record {
      kept = record {
        tasks = c.loop.invariant.kept.tasks;
        unroutable = c.loop.invariant.kept.unroutable;
        stale = c.loop.invariant.kept.stale;
      };
      size = c.loop.counter;
      walk = left ∙ c.loop.invariant.walk;
      whole = inr (left ∙ c.in_default.ensures.next);
      listed = c.loop.invariant.listed;
    }

pub loop-preserved : goal.loop-preserved
loop-preserved g c =
    let before = c.loop.invariant in
    let split : drop c.loop.counter c.args.self.now.queued.left ≡ c.in-Some.number ∷ c.next.new.self.left = sym before.walk ∙ c.in-Some.ensures.next in
    record {
      more = more_then c.args.self.now c.loop.self c.look_at.new.self before.more (record { held = c.look_at.ensures.more.held; places = c.look_at.ensures.more.places; runs = c.look_at.ensures.more.runs });
      kept = kept_then c.args.self.now c.loop.self c.look_at.new.self before.kept (record { tasks = c.look_at.ensures.kept.tasks; unroutable = c.look_at.ensures.kept.unroutable; stale = c.look_at.ensures.kept.stale });
      walk = c.look_at.ensures.walk ∙ left_dropped c.args.self.now.queued.left c.loop.counter c.in-Some.number c.next.new.self.left split ∙ ap (λ (n : ℕ). drop n c.args.self.now.queued.left) (sym (add-one c.loop.counter));
      listed = walk_next c.loop.self c.look_at.new.self (record { held = c.look_at.ensures.more.held; places = c.look_at.ensures.more.places; runs = c.look_at.ensures.more.runs }) (record { tasks = c.look_at.ensures.kept.tasks; unroutable = c.look_at.ensures.kept.unroutable; stale = c.look_at.ensures.kept.stale })
          c.args.hops.now.hops c.args.now.now.moment c.args.relay.now.node c.args.self.now.queued.left c.loop.counter c.in-Some.number
          (get_dropped c.args.self.now.queued.left c.loop.counter c.in-Some.number c.next.new.self.left split) before.listed c.look_at.ensures.listed;
      next = c.look_at.ensures.next ∙ before.next;
      listing = c.look_at.ensures.listing ∙ before.listing;
      known = λ next known. known_passed c.args.relay.now.node next c.in-Some.number c.loop.self (record c.loop.self { queued = c.next.new.self }) c.look_at.new.self c.in-Some.ensures.next c.in-Some.ensures.rest refl c.look_at.ensures.noted (before.known next known);
      within = omega (arith, c.loop-test.true);
    }

pub returns-in_default-clause-known : goal.returns-in_default-clause-known
returns-in_default-clause-known g c = λ next before.
    known_same c.args.relay.now.node next c.loop.self (record c.loop.self { queued = c.next.new.self }) (c.in_default.ensures.none c.in_default.ensures.next) refl (c.loop.invariant.known next before)
