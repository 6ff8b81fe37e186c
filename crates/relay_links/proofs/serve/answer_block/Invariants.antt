-- what was read so far is answered, but for the octets that wait
use Rattle.std.proofs.Common.{◌≡◌, ◌≤◌, ◌-◌, ℕ, List, Option, drop, length}
use Rattle.relay_slots.specs.Slots.{OthersStay}
use Rattle.relay_links.specs.Link.{HasSaid, Start}
use Rattle.relay_links.proofs.serve.answer_block.Given as goal

abbrev pub invariant-loop-used : goal.invariant-loop-used
invariant-loop-used g l = record {
  within : l.used ≤ length l.fn.octets;
  rest : OthersStay l.initial.node.seats l.node.seats l.fn.session × (l.node.config ≡ l.initial.node.config) × (l.node.attempts ≡ l.initial.node.attempts);
  so_far : (start : Start) (left : Option (List ℕ))
      → HasSaid g.D.Disk.honest g.D.Disk.words start l.fn.now l.fn.session left (g.W.Write.contents l.fn.writer) l.fn.octets l.initial.node
      → HasSaid g.D.Disk.honest g.D.Disk.words start l.fn.now l.fn.session left (g.W.Write.contents l.writer) (drop l.used l.fn.octets) l.node;
}

abbrev pub decreases-loop-used : goal.decreases-loop-used
decreases-loop-used g l = length l.fn.octets - l.used
