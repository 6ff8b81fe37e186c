-- The task is added to the lane of its next hop's place, after what waits there.
use Rattle.std.proofs.Common.{inl, refl, ap, ◌∙◌, ◌&&◌, arith}
use Rattle.relay_lanes.specs.Lane.{is_early_for, is_for}
use Rattle.relay_next_hops.proofs.ListingLemmas.{is_own, pushed_more, pushed_own, set_own, set_waits, tasks_failed}
use Rattle.relay_next_hops.proofs.lanes.Lanes.sort_in.Goals as goal

pub returns-clause-kept : goal.returns-clause-kept
returns-clause-kept g c = record {
  tasks = λ test lane waits.
      set_waits test c.number_of.new.self.lanes.items c.in-Some.number c.in-Some-get_mut.lane.now c.push.new.self c.in-Some-get_mut.ensures.value
      (pushed_more test c.push.result c.in-Some-get_mut.lane.now c.push.new.self _ c.push.ensures.pushed (λ failed. tasks_failed c.in-Some-get_mut.lane.now c.push.new.self (c.push.ensures.failed failed).0 (c.push.ensures.failed failed).1))
      lane (c.number_of.ensures.kept.tasks test lane waits);
  unroutable = c.number_of.ensures.kept.unroutable;
  stale = c.number_of.ensures.kept.stale;
}

pub returns-clause-turn : goal.returns-clause-turn
returns-clause-turn g c = λ late pushed. (
  c.in-Some.number,
  c.in-Some.ensures.place,
  inl (set_own (is_for c.args.message c.args.name.now) c.number_of.new.self.lanes.items c.in-Some.number c.push.new.self
      (omega (arith, c.in-Some-get_mut.ensures.variant.0 refl, c.number_of.new.self.lanes.ok.0))
      (pushed_own (is_for c.args.message c.args.name.now) c.in-Some-get_mut.lane.now c.push.new.self _ (c.push.ensures.pushed pushed)
      (is_own c.args.message c.args.name.now c.in-Ok.hop c.args.early c.in-Ok.ensures))),
)

pub returns-clause-early : goal.returns-clause-early
returns-clause-early g c = λ early pushed. (
  c.in-Some.number,
  c.in-Some.ensures.place,
  inl (set_own (is_early_for c.args.message c.args.name.now) c.number_of.new.self.lanes.items c.in-Some.number c.push.new.self
      (omega (arith, c.in-Some-get_mut.ensures.variant.0 refl, c.number_of.new.self.lanes.ok.0))
      (pushed_own (is_early_for c.args.message c.args.name.now) c.in-Some-get_mut.lane.now c.push.new.self _ (c.push.ensures.pushed pushed)
      (ap (λ early. early && is_for c.args.message c.args.name.now (record { message = c.args.message; hop = c.in-Ok.hop; early = c.args.early })) early
      ∙ is_own c.args.message c.args.name.now c.in-Ok.hop c.args.early c.in-Ok.ensures))),
)
