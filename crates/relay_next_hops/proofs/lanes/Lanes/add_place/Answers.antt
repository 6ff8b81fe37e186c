-- A place that has a next hop is listed for that.
use Rattle.std.proofs.Common.{◌≤◌, ap, ◌∙◌}
use Rattle.relay_next_hops.specs.Lanes.{IsListedUnroutable}
use Rattle.relay_next_hops.specs.Listing.{IsDueListed, route_of}
use Rattle.relay_next_hops.proofs.ListingLemmas.{match_some}
use Rattle.relay_next_hops.proofs.lanes.Lanes.add_place.Goals as goal

pub returns-in-Some-clause-listed : goal.returns-in-Some-clause-listed
returns-in-Some-clause-listed g c = λ queued.
    match_some (IsListedUnroutable c.args.number c.add_for.new.self)
    (λ hop. c.args.place.due ≤ c.args.now.now.moment → IsDueListed c.args.hops.now.hops c.args.now.now.moment c.args.number c.args.accept.now.at hop c.add_for.new.self)
    (route_of c.args.routes.now c.args.accept.now.envelope.recipients c.args.index) c.in-Some.hop.now
    (c.in-Some.ensures ∙ ap (λ recipients. route_of c.args.routes.now recipients c.args.index) c.as_slice.ensures)
    c.add_for.ensures.listed
