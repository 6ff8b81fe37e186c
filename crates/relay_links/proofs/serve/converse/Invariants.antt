-- so far the link has gone on with what was read and written
use Rattle.std.proofs.Common.{◌≡◌, ◌<◌, [], length}
use Rattle.relay_slots.specs.Slots.{OthersStay}
use Rattle.relay_links.specs.Link.{HasSaid, Start}
use Rattle.relay_links.proofs.serve.converse.Given as goal

abbrev pub invariant-loop : goal.invariant-loop
invariant-loop g l = record {
  room : 0 < length l.block.items;
  rest : OthersStay l.initial.node.seats l.node.seats l.fn.session × (l.node.config ≡ l.initial.node.config) × (l.node.attempts ≡ l.initial.node.attempts);
  so_far : (start : Start)
      → HasSaid g.D.Disk.honest g.D.Disk.words start l.fn.now l.fn.session (g.R.Read.remaining l.fn.reader) (g.W.Write.contents l.fn.writer) [] l.initial.node
      → HasSaid g.D.Disk.honest g.D.Disk.words start l.fn.now l.fn.session (g.R.Read.remaining l.reader) (g.W.Write.contents l.writer) [] l.node;
}
