-- What is accepted of an offer that may be stored may be stored.
use Rattle.std.proofs.Common.{rules}
use Rattle.relay_server.specs.Session.{offered}
use Rattle.relay_node.proofs.AcceptLemmas.{accept_may_be_stored}
use Rattle.relay_node.proofs.accept.accept_of.Goals as goal

pub returns-clause-valid : goal.returns-clause-valid
returns-clause-valid c = λ may.
    accept_may_be_stored c.args.config.now c.args.peer c.args.number c.args.now (offered c.args.offer.now) _ c.is_address.ensures.four c.is_address.ensures.octets (search rules) (search rules) (search rules) may
