-- A session whose seat is there tells it, and where there is none, none is in a transaction.
use Rattle.std.proofs.Common.{sym, ap, ◌∙◌}
use Rattle.relay_server.specs.Session.{in_transaction}
use Rattle.relay_node.specs.Seats.{seat_in_transaction}
use Rattle.relay_node.proofs.node.Node.is_in_transaction.Goals as goal

pub returns-in-Some : goal.returns-in-Some
returns-in-Some g c = rw (← c.self.view_is) (
    c.is_in_transaction.ensures ∙ (ap in_transaction c.deref.ensures ∙ sym (ap seat_in_transaction c.in-Some.ensures)))

pub returns-in-None : goal.returns-in-None
returns-in-None g c = rw (← c.self.view_is) (sym (ap seat_in_transaction c.in-None.ensures))
