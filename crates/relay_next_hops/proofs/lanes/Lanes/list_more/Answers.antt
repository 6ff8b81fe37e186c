-- What is known of the queue stays known.
use Rattle.std.proofs.Common.{inl, inr, refl, ◌∙◌}
use Rattle.relay_next_hops.proofs.KnownLemmas.{idle_over}
use Rattle.relay_next_hops.proofs.lanes.Lanes.list_more.Goals as goal

pub returns-then-self-clause-goes_on : goal.returns-then-self-clause-goes_on
returns-then-self-clause-goes_on g c = λ under_way. inl (c.list_part.ensures.listing ∙ c.if-self.true)

pub returns-then-not-branch-clause-goes_on : goal.returns-then-not-branch-clause-goes_on
returns-then-not-branch-clause-goes_on g c = λ under_way.
    inr (c.in_ok-begin_listing.ensures.idle (idle_over c.args.self.now under_way c.if-self.false) c.if-not-branch.true)

pub returns-clause-goes_on : goal.returns-clause-goes_on
returns-clause-goes_on g c = λ under_way. inl (c.list_part-2.ensures.listing ∙ c.in_ok-begin_listing.ensures.begins c.if-not-branch.false)

pub returns-then-not-branch-clause-known : goal.returns-then-not-branch-clause-known
returns-then-not-branch-clause-known g c = λ next under_way before.
    c.in_ok-begin_listing.ensures.known next (idle_over c.args.self.now under_way c.if-self.false) before

pub returns-clause-known : goal.returns-clause-known
returns-clause-known g c = λ next under_way before.
    c.list_part-2.ensures.known next (c.in_ok-begin_listing.ensures.known next (idle_over c.args.self.now under_way c.if-self.false) before)

pub returns-then-self-clause-known : goal.returns-then-self-clause-known
returns-then-self-clause-known g c = λ next under_way before. c.list_part.ensures.known next before
