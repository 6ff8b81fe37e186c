-- so far the link has gone on with what was read and written
use Rattle.std.proofs.Common.{◌<◌, [], length}
use Rattle.relay_node.specs.Node.{HasHistory}
use Rattle.relay_hub.specs.Link.{HasSaid, LinkStart}
use Rattle.relay_hub.proofs.link.converse.Given as goal

abbrev pub invariant-loop : goal.invariant-loop
invariant-loop g l = record {
  room : 0 < length l.block.items;
  history : HasHistory l.fn.terms.config.now l.fn.terms.peer l.session;
  so_far : (start : LinkStart)
      → HasSaid g.J.Opening.has_answered l.fn.terms.config.now l.fn.terms.peer l.fn.terms.at start l.initial.session (g.R.Read.remaining l.fn.reader) (g.W.Write.contents l.fn.writer) [] [] l.fn.pass
      → HasSaid g.J.Opening.has_answered l.fn.terms.config.now l.fn.terms.peer l.fn.terms.at start l.session (g.R.Read.remaining l.reader) (g.W.Write.contents l.writer) [] [] l.pass;
}
