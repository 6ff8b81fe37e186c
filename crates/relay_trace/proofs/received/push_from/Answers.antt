use Rattle.std.specs.Prelude.{codes}
use Rattle.relay_octets.specs.Line.{crlf}
use Rattle.relay_trace.specs.TimeStamp.{address_text}
use Rattle.relay_trace.proofs.StampLemmas.{five_written}
use Rattle.relay_trace.proofs.received.push_from.Goals as goal

pub returns : goal.returns
returns c =
    let stamp = c.args.stamp.now in
    five_written c.args.line.now.items _ _ _ _ _ (codes "Received: from ") stamp.client.now (codes " ([") (address_text stamp.peer) (codes "])") crlf
    c.in_ok-extend_from_slice.ensures.items c.in_ok-extend_from_slice-2.ensures.items c.in_ok-extend_from_slice-3.ensures.items c.in_ok-push_address.ensures c.in_ok-extend_from_slice-4.ensures.items
