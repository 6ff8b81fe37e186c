-- The outcome by which a node gives up places without an attempt.
use Rattle.std.proofs.Common.{◌≡◌, ℕ, refl}
use Rattle.relay_routes.specs.Routes.{RouteTable}
use Rattle.relay_book.specs.declared.message.Message.{Message}
use Rattle.relay_world.specs.GivingUp.{NoHop, Postmaster, Reason, outcome_for}

-- it is for the message of that number, whatever the reason
pub number_for : (reason : Reason) (table : RouteTable) (number at : ℕ) (message : Message)
    → (outcome_for reason table number at message).message ≡ number
number_for NoHop table number at message = refl
number_for (Postmaster withdrawal names) table number at message = refl
