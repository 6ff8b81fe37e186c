use Rattle.std.proofs.Common.{◌≡◌}
use Rattle.relay_pair.specs.Profiles.{routes_to_others}
use Rattle.relay_pair.proofs.profile.add_others.Given as goal

-- the routes so far are those to the others so far, in the table of the same host
abbrev pub invariant-loop-other : goal.invariant-loop-other
invariant-loop-other l = record {
  host : l.routes.host ≡ l.fn.routes.host;
  routes : l.routes.routes ≡ routes_to_others l.other l.node;
}
