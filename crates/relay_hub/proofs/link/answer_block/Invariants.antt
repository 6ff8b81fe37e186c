-- what was read so far is answered, but for the octets that wait
use Rattle.std.proofs.Common.{◌≤◌, ◌-◌, ℕ, List, [], Option, drop, length}
use Rattle.relay_node.specs.Node.{HasHistory}
use Rattle.relay_hub.specs.Link.{HasSaid, LinkStart}
use Rattle.relay_hub.proofs.link.answer_block.Given as goal

abbrev pub invariant-loop-used : goal.invariant-loop-used
invariant-loop-used g l = record {
  within : l.used ≤ length l.fn.octets;
  history : HasHistory l.fn.terms.config.now l.fn.terms.peer l.session;
  so_far : (start : LinkStart) (left : Option (List ℕ))
      → HasSaid g.J.Opening.has_answered l.fn.terms.config.now l.fn.terms.peer l.fn.terms.at start l.initial.session left (g.W.Write.contents l.fn.writer) l.fn.octets [] l.fn.pass
      → HasSaid g.J.Opening.has_answered l.fn.terms.config.now l.fn.terms.peer l.fn.terms.at start l.session left (g.W.Write.contents l.writer) (drop l.used l.fn.octets) [] l.pass;
}

abbrev pub decreases-loop-used : goal.decreases-loop-used
decreases-loop-used g l = length l.fn.octets - l.used
