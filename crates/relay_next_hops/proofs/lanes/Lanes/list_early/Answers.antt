-- What was listed stays so while the hold of its lane ends.
use Rattle.std.proofs.Common.{◌≡◌, ◌∙◌, true, refl, ap, subst, rules}
use Rattle.std.specs.Prelude.{slice_get}
use Rattle.relay_lanes.specs.Paces.{IsHeldAt}
use Rattle.relay_next_hops.proofs.HoldLemmas.{probed_free}
use Rattle.relay_next_hops.proofs.ListingLemmas.{early_kept, kept_then, more_of, more_then}
use Rattle.relay_next_hops.proofs.lanes.Lanes.list_early.Goals as goal

pub returns-in_default-clause-kept : goal.returns-in_default-clause-kept
returns-in_default-clause-kept g c = kept_then c.args.self.now c.sort_in.new.self c.number_of.new.self c.sort_in.ensures.kept c.number_of.ensures.kept

pub returns-clause-more : goal.returns-clause-more
returns-clause-more g c =
    more_then c.args.self.now c.number_of.new.self c.probe.new.self
    (more_then c.args.self.now c.sort_in.new.self c.number_of.new.self c.sort_in.ensures.more c.number_of.ensures.more)
    (more_of c.number_of.new.self c.probe.new.self c.probe.ensures.counts)

pub returns-clause-kept : goal.returns-clause-kept
returns-clause-kept g c =
    kept_then c.args.self.now c.number_of.new.self c.probe.new.self
    (kept_then c.args.self.now c.sort_in.new.self c.number_of.new.self c.sort_in.ensures.kept c.number_of.ensures.kept)
    c.probe.ensures.kept

pub returns-clause-listed : goal.returns-clause-listed
returns-clause-listed g c =
    let sorted : c.sort_in.result ≡ true = search rules in (
      early_kept c.number_of.new.self c.probe.new.self (more_of c.number_of.new.self c.probe.new.self c.probe.ensures.counts) c.probe.ensures.kept
          c.args.hops.now.hops c.args.number c.args.hop.now.name c.args.hop.now.at
          (early_kept c.sort_in.new.self c.number_of.new.self c.number_of.ensures.more c.number_of.ensures.kept
          c.args.hops.now.hops c.args.number c.args.hop.now.name c.args.hop.now.at (c.sort_in.ensures.early refl sorted)),
      c.probe.ensures.opened,
    )

-- The lane's hold has ended.
pub returns-clause-off_hold : goal.returns-clause-off_hold
returns-clause-off_hold g c = (
  c.in-Some.lane,
  ap (λ places. slice_get places c.in-Some.lane) c.probe.ensures.counts.places ∙ c.in-Some.ensures.place,
  λ held. probed_free c.args.now.now.tick c.in-Some.lane c.number_of.new.self.paces (subst (λ paces. IsHeldAt c.args.now.now.tick paces c.in-Some.lane) c.probe.ensures.paces held),
)

pub returns-clause-holds : goal.returns-clause-holds
returns-clause-holds g c = λ tick lane held. c.sort_in.ensures.holds tick lane (c.number_of.ensures.holds tick lane (c.probe.ensures.holds tick lane held))
