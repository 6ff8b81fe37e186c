-- The offers that a node has queued, with their numbers.
use Rattle.std.specs.Prelude.{◌≡◌, ℕ, List, [], ◌∷◌, ◌++◌, length}
use Rattle.relay_server.specs.declared.offer.Answer.{Answer}
use Rattle.relay_server.specs.declared.offer.Answer.TheVariants.{Queued, Full}
use Rattle.relay_server.specs.Dialogue.{Offered, Said}
use Rattle.relay_node.specs.Room.{AnswersMore}

-- the offers that were answered by a number, each with it, in order
abbrev pub queued_by : List Answer → List Offered → List (ℕ × Offered)
queued_by [] offers = []
queued_by (answer ∷ answers) [] = []
queued_by (Queued number ∷ answers) (offer ∷ offers) = (number, offer) ∷ queued_by answers offers
queued_by (Full ∷ answers) (offer ∷ offers) = queued_by answers offers

abbrev pub queued_in : Said → List (ℕ × Offered)
queued_in said = queued_by said.answers said.offers

-- After a dialogue with an answer for each offer, a call adds to the queued offers just those that it queues.
abbrev pub QueuedGrows : Type 0
QueuedGrows =
    (said later : Said) (refused last : List Offered) (given : List Answer) → length said.offers ≡ length said.answers
    → AnswersMore said later refused last given → queued_in later ≡ queued_in said ++ queued_by given last
