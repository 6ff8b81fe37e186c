use Rattle.std.proofs.Common.{◌≡◌, length}
use Rattle.relay_pair.specs.Profiles.{HaveProfiles}
use Rattle.relay_pair.proofs.profile.profiles_of.Given as goal

-- the configurations so far are those of the nodes so far
abbrev pub invariant-loop-node : goal.invariant-loop-node
invariant-loop-node l = record {
  count_is : length l.configs.items ≡ l.node;
  each : HaveProfiles l.count l.configs.items;
}
