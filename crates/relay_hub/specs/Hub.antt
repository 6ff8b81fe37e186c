-- How the list of changes of a node grows while threads share it.
use Rattle.std.specs.Prelude.{◌≡◌, ◌↔◌, ℕ, ◌+◌, ◌≤◌, ◌<◌, true, false, List, ◌++◌, length, map, slice_get, Option, Some}
use Rattle.std.specs.List.{AllByRecursion}
use Rattle.relay_disk.specs.Device.{DiskWords}
use Rattle.relay_routes.specs.declared.config.Config.{Config}
use Rattle.relay_server.specs.declared.offer.Answer.{Answer}
use Rattle.relay_server.specs.Dialogue.{Offered}
use Rattle.relay_book.specs.declared.change.Accept.{Accept}
use Rattle.relay_book.specs.declared.change.Change.{Change}
use Rattle.relay_book.specs.declared.change.Change.TheVariants as change
use Rattle.relay_book.specs.Marks.{Held}
use Rattle.relay_book.specs.Queue.{Fitting, queue_of}
use Rattle.relay_records.specs.Records.{Halted, Keeps, Kept}
use Rattle.relay_node.specs.Admission.{Admits}
use Rattle.relay_hub.specs.declared.receipt.Receipt.{Receipt}
use Rattle.relay_hub.specs.Receipts.{Rise, count_of, times}

-- a list of changes, followed by one accept each
abbrev pub with_accepts : List Change → List Accept → List Change
with_accepts changes accepts = changes ++ map change.Accept accepts

-- The receipt names one of these accepts by its number; the accepts are numbered after the first `before` changes.
pub record IsTold (before : ℕ) (accepts : List Accept) (receipt : Receipt) : Type 0 where
  pub place : ℕ
  pub number_is : receipt.number ≡ before + 1 + place
  pub accept_is : slice_get accepts place ≡ Some receipt.accept

-- the number that follows each list of changes that the node may have kept at the start
abbrev pub IsFirst : (List Change → Type 0) → ℕ → Type 0
IsFirst starts number = (changes : List Change) → starts changes → number ≡ length changes + 1

module _ {D : Type 0} (honest : Type 0) (words : DiskWords D) where
  -- The node's list of changes, live or stopped. A stopped node has this list, or this one and the change being added.
  pub record HasList (records : Kept D) (changes : List Change) : Type 0 where
    pub fitting : Fitting changes
    pub queue : records.queue ≡ queue_of changes
    pub live : records.spool.live ≡ true → Keeps honest words records changes
    pub stopped : records.spool.live ≡ false → (pending : Option Change) × Halted honest words records changes pending

  -- the list of changes has grown by this many accepts, and by nothing else
  pub record GrowsBy (changes : List Change) (added : ℕ) (records : Kept D) : Type 0 where
    pub accepts : List Accept
    pub count : length accepts ≡ added
    pub list : HasList records (with_accepts changes accepts)

  -- it has grown so from each list that it may have kept at the start
  abbrev pub HasGrown : (List Change → Type 0) → ℕ → Kept D → Type 0
  HasGrown starts added records = (changes : List Change) → starts changes → GrowsBy changes added records

  -- A node that had this configuration and one of these lists at the start gives this answer to an offer: there is a
  -- live state, grown by accepts alone, in which it does so, whatever list it keeps there.
  pub record Gives (starts : List Change → Type 0) (config : Config) (peer : List ℕ) (at : ℕ) (offer : Offered)
      (answer : Answer) : Type 0 where
    pub old : Kept D
    pub new : Kept D
    pub live : old.spool.live ≡ true
    pub added : ℕ
    pub grown : HasGrown starts added old
    pub admits : (changes : List Change) → Keeps honest words old changes
        → Admits honest words config changes peer at offer old new answer

  -- each answer that the node gives counts as answered
  abbrev pub Answers : (List Change → Type 0) → Config → (List ℕ → ℕ → Offered → Answer → Type 0) → Type 0
  Answers starts config has_answered =
      (peer : List ℕ) (at : ℕ) (offer : Offered) (answer : Answer) → Gives starts config peer at offer answer
      → has_answered peer at offer answer

  -- The list has grown by one accept for each receipt of the passes, with the receipt's number and content, and by
  -- nothing else; the numbers of each pass rise. Of the messages that these changes accepted the same places are held
  -- as before.
  pub record HasTaken (changes : List Change) (passes : List (List Receipt)) (records : Kept D) : Type 0 where
    pub accepts : List Accept
    pub list : HasList records (with_accepts changes accepts)
    pub count : length accepts ≡ count_of passes
    pub told : AllByRecursion
        (λ receipts. AllByRecursion (λ receipt. IsTold (length changes) accepts receipt) receipts) passes
    pub once : (place : ℕ) → place < length accepts → times (length changes + 1 + place) passes ≡ 1
    pub rise : AllByRecursion
        (λ receipts. Rise (length changes + 1) (length changes + 1 + length accepts) receipts) passes
    pub marks : (number place : ℕ) → number ≤ length changes
        → Held (with_accepts changes accepts) number place ↔ Held changes number place
