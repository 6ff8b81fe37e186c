-- so far the attempt goes on with what was read and written
use Rattle.std.proofs.Common.{◌≡◌, ◌<◌, [], length}
use Rattle.relay_slots.specs.Slots.{OthersStay}
use Rattle.relay_links.specs.Push.{IsAt, PushStart}
use Rattle.relay_links.proofs.push.converse.Given as goal

abbrev pub invariant-loop : goal.invariant-loop
invariant-loop g l = record {
  room : 0 < length l.block.items;
  rest : OthersStay l.initial.node.attempts l.node.attempts l.fn.attempt × (l.node.config ≡ l.initial.node.config) × (l.node.seats ≡ l.initial.node.seats);
  same : l.node.records ≡ l.initial.node.records;
  so_far : (start : PushStart)
      → IsAt g.D.Disk.honest g.D.Disk.words start l.fn.now l.fn.attempt (g.R.Read.remaining l.fn.reader) (g.W.Write.contents l.fn.writer) [] [] l.initial.node
      → IsAt g.D.Disk.honest g.D.Disk.words start l.fn.now l.fn.attempt (g.R.Read.remaining l.reader) (g.W.Write.contents l.writer) [] [] l.node;
}
