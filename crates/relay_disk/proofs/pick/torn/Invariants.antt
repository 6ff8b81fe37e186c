use Rattle.std.proofs.Common.{◌≡◌, ◌<◌, ◌≤◌, ℕ, length, reverse, slice_index}
use Rattle.relay_disk.specs.Pick.{changed_below, octet_left}
use Rattle.relay_disk.proofs.pick.torn.Given as goal

abbrev pub invariant-loop-at : goal.invariant-loop-at
invariant-loop-at l = record {
  size : length l.image.items ≡ l.at;
  below : l.below ≡ changed_below l.synced (reverse l.calls) l.at;
  few : l.below ≤ l.at;
  octets : (at : ℕ) → at < l.at → slice_index l.image.items at ≡ octet_left l.pick l.synced l.now (reverse l.calls) at;
}
