-- Numbers of messages, gathered from places that are due and from a list.
use Rattle.std.specs.Prelude.{ℕ, List, [], map, Option, None, Some}
use Rattle.std.specs.List.{Contains}
use Rattle.relay_book.specs.declared.message.Message.{Message}
use Rattle.relay_book.specs.Queue.{message_of}

-- each number of these marks and of this list is among the numbers
pub record AreGathered (marks : List (ℕ × ℕ)) (list numbers : List ℕ) : Type 0 where
  pub marked : (number : ℕ) → Contains (map (λ (mark : ℕ × ℕ). mark.0) marks) number → Contains numbers number
  pub listed : (number : ℕ) → Contains list number → Contains numbers number

-- what a message has by this, if it is there, and what the message of a number has
abbrev pub of_message : {X : Type 0} → (ℕ → Message → List X) → ℕ → Option Message → List X
of_message f number None = []
of_message f number (Some message) = f number message

abbrev pub at_number : {X : Type 0} → (ℕ → Message → List X) → List (ℕ × Message) → ℕ → List X
at_number f messages number = of_message f number (message_of messages number)
