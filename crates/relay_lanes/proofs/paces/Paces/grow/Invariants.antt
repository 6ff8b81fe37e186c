-- as many attempts of each lane run as before, and of lanes that were added nothing is known
use Rattle.relay_lanes.specs.Paces.{AddsUnknown, RunAsBefore}
use Rattle.relay_lanes.proofs.paces.Paces.grow.Given as goal

abbrev pub invariant-loop : goal.invariant-loop
invariant-loop l = record {
  runs : RunAsBefore l.initial.self-inside.paces.items l.self-inside.paces.items;
  adds : AddsUnknown l.initial.self-inside.paces.items l.self-inside.paces.items;
}
