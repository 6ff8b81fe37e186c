use Rattle.std.proofs.Common.{subst}
use Rattle.relay_connections.specs.HeaderFront.{ReadsWhole}
use Rattle.relay_connections.proofs.HeaderFrontLemmas.{reads_whole}
use Rattle.relay_connections.proofs.header_octets.HeaderOctets.reading.Goals as goal

pub returns : goal.returns
returns c = subst (λ octets. ReadsWhole octets c.read_header.result) c.self.view_is (reads_whole _ _ c.self.invariant.1 c.read_header.ensures)
