-- What a node accepts on a link: each offer that is answered by a number is the change of that number.
use Rattle.std.specs.Prelude.{◌≡◌, ℕ, suc, List, [], ◌∷◌}
use Rattle.relay_server.specs.declared.offer.Answer.{Answer}
use Rattle.relay_server.specs.declared.offer.Answer.TheVariants.{Queued, Full}
use Rattle.relay_server.specs.Dialogue.{Offered}
use Rattle.relay_book.specs.declared.change.Accept.{Accept}
use Rattle.relay_book.specs.declared.change.Change.{Change}
use Rattle.relay_book.specs.declared.change.Change.TheVariants as change
use Rattle.relay_node.specs.Acceptance.{Acceptance}
use Rattle.relay_node.specs.Room.{HasRoom, Overfills, size_with}

-- the change accepts this offer, for which there was room, and leaves a spool of this size
pub record IsAccepted (acceptance : Acceptance) (limit size : ℕ) (offer : Offered) (made : Change) (new_size : ℕ)
    : Type 0 where
  pub accept : Accept
  pub change_is : made ≡ change.Accept accept
  pub fits : HasRoom acceptance limit size offer accept
  pub size_is : new_size ≡ size_with size accept

-- how the changes of each number are accepted, and how large the spool may be
pub record Rule : Type 0 where
  pub acceptance : ℕ → Acceptance
  pub limit : ℕ

-- After this many changes, over a spool of one size, the offers with these answers brought these changes, in order, and
-- left a spool of another size: an offer for which there was room is answered by the number of its change, and any
-- other refused.
abbrev pub Accepts : Rule → ℕ → ℕ → List Answer → List Offered → List Change → ℕ → Type 0
Accepts rule count size [] [] [] new_size = new_size ≡ size
Accepts rule count size [] [] (change ∷ changes) new_size = ⊥
Accepts rule count size [] (offer ∷ offers) changes new_size = ⊥
Accepts rule count size (answer ∷ answers) [] changes new_size = ⊥
Accepts rule count size (Full ∷ answers) (offer ∷ offers) changes new_size =
    Overfills (rule.acceptance (suc count)) rule.limit size offer
    × Accepts rule count size answers offers changes new_size
Accepts rule count size (Queued number ∷ answers) (offer ∷ offers) [] new_size = ⊥
Accepts rule count size (Queued number ∷ answers) (offer ∷ offers) (change ∷ changes) new_size =
    (number ≡ suc count) × ((next : ℕ) × IsAccepted (rule.acceptance number) rule.limit size offer change next
    × Accepts rule (suc count) next answers offers changes new_size)
