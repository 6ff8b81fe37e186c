use Rattle.relay_proxy.proofs.ClientLemmas.{no_client_port, no_destination, no_last_port, no_source_address}
use Rattle.relay_proxy.proofs.line.client_of.Goals as goal

pub returns-in_err-address : goal.returns-in_err-address
returns-in_err-address c = rw c.from_residual.ensures (no_source_address c.args.text.now c.in_err-address.ensures)

pub returns-in_err-after_destination : goal.returns-in_err-after_destination
returns-in_err-after_destination c =
    rw c.from_residual-in_err-after_destination.ensures
    (no_destination c.args.text.now c.in_ok-address.after_source.now c.in_ok-address.address c.in_ok-address.ensures c.in_err-after_destination.ensures)

pub returns-in_err-port : goal.returns-in_err-port
returns-in_err-port c =
    rw c.from_residual-in_err-port.ensures
    (no_client_port c.args.text.now c.in_ok-address.after_source.now c.in_ok-after_destination.after_destination.now c.in_ok-address.address c.in_ok-after_destination.field-0-0
    c.in_ok-address.ensures c.in_ok-after_destination.ensures c.in_err-port.ensures)

pub returns-in-None : goal.returns-in-None
returns-in-None c =
    no_last_port c.args.text.now c.in_ok-address.after_source.now c.in_ok-after_destination.after_destination.now c.in_ok-port.last.now c.in_ok-address.address
    c.in_ok-after_destination.field-0-0 c.in_ok-port.port c.in_ok-address.ensures c.in_ok-after_destination.ensures c.in_ok-port.ensures c.in-None.ensures
