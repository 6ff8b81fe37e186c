-- the line of the address was written
use Rattle.std.proofs.Common.{subst}
use Rattle.std.specs.Io.KnownBytes.{Appends}
use Rattle.relay_check.proofs.route.show_route.Goals as goal

pub returns : goal.returns
returns g c = record {
  text = c.in_ok-config.ensures.0;
  config = c.in_ok-config.config;
  reads = c.in_ok-config.ensures.1;
  line = c.in_ok-line.line.items;
  line_is = c.in_ok-line.ensures;
  written =
      subst (λ line. Appends (g.W.Write.contents c.args.writer.now) (g.W.Write.contents c.write_out.new.writer) line)
      c.as_slice.ensures.value c.in_ok-write_out.ensures;
}
