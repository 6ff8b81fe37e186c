use Rattle.std.proofs.Common.{arith}
use Rattle.std.proofs.lemmas.Grind.{common_steps}
use Rattle.relay_trace.proofs.received.received_line.Goals as goal

pub returns-clause-line : goal.returns-clause-line
returns-clause-line c = record {
  date = c.date_octets.result;
  date_is = c.date_octets.ensures;
  line_is = grind (arith, common_steps);
}
