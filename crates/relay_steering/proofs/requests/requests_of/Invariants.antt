-- the messages so far are named, by the requests that were made and by the next one
use Rattle.std.proofs.Common.{◌≡◌, ◌++◌, ◌≤◌, length, map, take}
use Rattle.std.specs.List.{AllByRecursion, flat_map}
use Rattle.relay_control.specs.Named.{content_of}
use Rattle.relay_queue.specs.Selection.{group_of}
use Rattle.relay_steering.specs.Requests.{IsShort, named_in}
use Rattle.relay_steering.proofs.requests.requests_of.Given as goal

abbrev pub invariant-loop-selected : goal.invariant-loop-selected
invariant-loop-selected l = record {
  named : flat_map (named_in l.removal) l.requests.items ++ map content_of l.names.items ≡ map group_of (take l.selected-index l.messages);
  short : AllByRecursion (IsShort l.removal) l.requests.items;
  few : length l.names.items ≤ 64;
}
