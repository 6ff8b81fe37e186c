-- The source of each ledger line: for an accept, the node that serves its link; for a place that left or was delayed,
-- the change that made it so, which is the outcome of the attempt on the line's link or gives up places without an
-- attempt.
use Rattle.std.specs.Prelude.{◌≡◌, ◌⊎◌, ℕ, suc, List, ◌∷◌, ◌++◌, length, Some, slice_get}
use Rattle.std.specs.List.{AllByRecursion, Contains}
use Rattle.relay_book.specs.declared.change.Change.{Change}
use Rattle.relay_book.specs.declared.change.Change.TheVariants as change
use Rattle.relay_book.specs.declared.change.Outcome.{Outcome}
use Rattle.relay_book.specs.declared.change.Verdict.{Verdict}
use Rattle.relay_book.specs.declared.change.Verdict.TheVariants.{NoRoute, Withdrawn}
use Rattle.relay_book.specs.declared.change.Withdrawal.{Withdrawal}
use Rattle.relay_book.specs.declared.fate.PlaceStep.{PlaceStep}
use Rattle.relay_world.specs.declared.attempt.Attempt.{Attempt}
use Rattle.relay_world.specs.declared.attempt.Fate.TheVariants.{Replied, Lost}
use Rattle.relay_world.specs.declared.line.Line.{Line}
use Rattle.relay_world.specs.declared.line.Line.TheVariants.{Accepted, Became}
use Rattle.relay_world.specs.declared.link.Link.{Link}
use Rattle.relay_world.specs.declared.link.ServerEnd.{ServerEnd}
use Rattle.relay_world.specs.Ledger.{Becomes, steps_by}
use Rattle.relay_world.specs.World.{World, link_at}

-- the change of this number makes the step of a place of a message, and queues a report under this number (0: none)
pub record IsMadeBy (changes : List Change) (number : ℕ) (step : PlaceStep) (message place report : ℕ) : Type 0 where
  pub front : List Change
  pub one : Change
  pub after : List Change
  pub list : changes ≡ front ++ one ∷ after
  pub number_is : number ≡ suc (length front)
  pub makes : Contains (steps_by front one) (Becomes step message place report)

-- an attempt of the node for the message, on this link, has ended with the change of this number as its outcome
pub record HasEndedOn {D : Type 0} (world : World D) (node message link number : ℕ) : Type 0 where
  pub at : ℕ
  pub attempt : Attempt
  pub is_there : slice_get world.attempts at ≡ Some attempt
  pub its_node : attempt.node ≡ node
  pub its_message : attempt.message ≡ message
  pub its_link : attempt.link ≡ link
  pub ended : (attempt.fate ≡ Replied number) ⊎ (attempt.fate ≡ Lost number)

-- the change is an outcome whose verdicts all say that the place has no hop
pub record SaysNoHop (one : Change) : Type 0 where
  pub outcome : Outcome
  pub is : one ≡ change.Outcome outcome
  pub each : (place : ℕ) (verdict : Verdict) → Contains outcome.rulings (record { place = place; verdict = verdict })
      → verdict ≡ NoRoute

-- The change is an outcome by which the postmaster ends each of its places.
pub record SaysWithdrawn (one : Change) : Type 0 where
  pub outcome : Outcome
  pub is : one ≡ change.Outcome outcome
  pub each : (place : ℕ) (verdict : Verdict) → Contains outcome.rulings (record { place = place; verdict = verdict })
      → (withdrawal : Withdrawal) × (verdict ≡ Withdrawn withdrawal)

-- The node serves the link.
pub record IsServedBy {D : Type 0} (world : World D) (node link : ℕ) : Type 0 where
  pub its : Link
  pub is_there : link_at world.links link ≡ Some its
  pub end : ServerEnd
  pub serves : its.server ≡ Some end
  pub its_node : end.node ≡ node

-- A change of the node's list makes the step. It is the outcome of an attempt on the link; or there is no link, and the
-- change gives up places without a hop or places that the postmaster withdraws.
pub record ComesOfChange {D : Type 0} (world : World D) (lists : List (List Change)) (step : PlaceStep)
    (node message place link report : ℕ) : Type 0 where
  pub changes : List Change
  pub list_at : slice_get lists node ≡ Some changes
  pub number : ℕ
  pub made : IsMadeBy changes number step message place report
  pub cause : HasEndedOn world node message link number ⊎ ((link ≡ 0) × (SaysNoHop made.one ⊎ SaysWithdrawn made.one))

-- the source of a line
abbrev pub HasSource : {D : Type 0} → World D → List (List Change) → Line → Type 0
HasSource world lists (Accepted node number places link) = IsServedBy world node link
HasSource world lists (Became step node message place link report) =
    ComesOfChange world lists step node message place link report

-- each line of the ledger has its source
abbrev pub HasSources : {D : Type 0} → World D → List (List Change) → Type 0
HasSources world lists = AllByRecursion (HasSource world lists) world.ledger
