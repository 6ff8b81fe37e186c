-- A place is reported as delayed at most once.
use Rattle.std.specs.Prelude.{◌≡◌, ℕ, suc, true, List, ◌∷◌, ◌++◌, length}
use Rattle.relay_book.specs.declared.change.Change.{Change}
use Rattle.relay_book.specs.declared.change.Change.TheVariants as change
use Rattle.relay_book.specs.declared.change.Outcome.{Outcome}
use Rattle.relay_book.specs.DelayLaw.{tells_of}
use Rattle.relay_book.specs.Marks.{place_steps}
use Rattle.relay_book.specs.Queue.{Fitting, queue_of}

-- the change of this number reports the place of a message as delayed
pub record TellsDelay (changes : List Change) (at number place : ℕ) : Type 0 where
  pub front : List Change
  pub outcome : Outcome
  pub after : List Change
  pub list : changes ≡ front ++ change.Outcome outcome ∷ after
  pub at_is : at ≡ suc (length front)
  pub its_message : outcome.message ≡ number
  pub tells : tells_of place (place_steps (queue_of front) (change.Outcome outcome)) ≡ true

-- at most one change reports a given place as delayed
abbrev pub DelaysOnce : List Change → Type 0
DelaysOnce changes =
    (one other number place : ℕ) → TellsDelay changes one number place → TellsDelay changes other number place
    → one ≡ other

-- This holds for each list of changes that fit.
abbrev pub FittingDelaysOnce : Type 0
FittingDelaysOnce = (changes : List Change) → Fitting changes → DelaysOnce changes
