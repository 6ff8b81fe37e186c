-- What receipts claim of a queue: they are its messages from a number on, each once.
use Rattle.std.specs.Prelude.{◌≡◌, ℕ, ◌+◌, ◌≤◌, ◌<◌, ◌==◌, List, [], ◌∷◌, length, MatchOption, if◌then◌else◌}
use Rattle.std.specs.List.{AllByRecursion}
use Rattle.relay_book.specs.Queue.{Queue, message_of}
use Rattle.relay_hub.specs.declared.receipt.Receipt.{Receipt}

-- the numbers of the receipts rise strictly, from a least one or more, and stay below a bound
abbrev pub Rise : ℕ → ℕ → List Receipt → Type 0
Rise least bound [] = Unit {0}
Rise least bound (receipt ∷ receipts) =
    (least ≤ receipt.number) × (receipt.number < bound) × Rise (receipt.number + 1) bound receipts

-- the numbers of the receipts rise strictly
abbrev pub IsRising : List Receipt → Type 0
IsRising receipts = (least : ℕ) × (bound : ℕ) × Rise least bound receipts

-- the queue has a message of the receipt's number, accepted as the receipt records
abbrev pub IsTrueOf : Queue → Receipt → Type 0
IsTrueOf queue receipt =
    MatchOption (message_of queue.messages receipt.number) ⊥ (λ message. message.accept ≡ receipt.accept)

-- each receipt agrees with the queue
abbrev pub AreTrueOf : Queue → List Receipt → Type 0
AreTrueOf queue [] = Unit {0}
AreTrueOf queue (receipt ∷ receipts) = IsTrueOf queue receipt × AreTrueOf queue receipts

-- how many of the receipts have this number
abbrev pub times_in : ℕ → List Receipt → ℕ
times_in number [] = 0
times_in number (receipt ∷ receipts) = (if receipt.number == number then 1 else 0) + times_in number receipts

-- how many receipts of all passes have this number
abbrev pub times : ℕ → List (List Receipt) → ℕ
times number [] = 0
times number (receipts ∷ passes) = times_in number receipts + times number passes

-- how many receipts the passes have in all
abbrev pub count_of : List (List Receipt) → ℕ
count_of [] = 0
count_of (receipts ∷ passes) = length receipts + count_of passes

-- The receipts of the passes are exactly the messages of the queue from this number on, each once; the numbers of each
-- pass rise.
pub record AreReceipts (first : ℕ) (queue : Queue) (passes : List (List Receipt)) : Type 0 where
  pub rise : AllByRecursion (λ receipts. Rise first queue.next receipts) passes
  pub true_of : AllByRecursion (λ receipts. AreTrueOf queue receipts) passes
  pub once : (number : ℕ) → first ≤ number → number < queue.next → times number passes ≡ 1

-- this many passes, without receipts
abbrev pub AreNew : ℕ → List (List Receipt) → Type 0
AreNew count passes = (length passes ≡ count) × AllByRecursion (λ receipts. receipts ≡ []) passes
