-- The changes by which the offers of a session were accepted.
use Rattle.std.specs.Prelude.{◌≡◌, ℕ, ◌+◌, List, [], ◌∷◌, ◌++◌, length, Option, None, Some}
use Rattle.std.specs.List.{AllByRecursion}
use Rattle.relay_routes.specs.declared.config.Config.{Config}
use Rattle.relay_server.specs.Dialogue.{Offered, Said}
use Rattle.relay_book.specs.declared.change.Accept.{Accept}
use Rattle.relay_book.specs.declared.change.Change.{Change}
use Rattle.relay_book.specs.declared.change.Change.TheVariants as change
use Rattle.relay_book.specs.Marks.{change_at}
use Rattle.relay_node.specs.Acceptance.{IsAcceptOf, acceptance_by}
use Rattle.relay_node.specs.Queued.{queued_in}

-- the change of this number accepts, at some time, the offer of a client at this address
pub record IsAcceptedAs (config : Config) (peer : List ℕ) (changes : List Change) (number : ℕ) (offer : Offered)
    : Type 0 where
  pub at : ℕ
  pub accept : Accept
  pub is_accept : IsAcceptOf (acceptance_by config peer number at) offer accept
  pub change_is : change_at changes number ≡ Some (change.Accept accept)

-- each of these offers is accepted by the change of its number
abbrev pub AreAcceptedAs : Config → List ℕ → List Change → List (ℕ × Offered) → Type 0
AreAcceptedAs config peer changes queued =
    AllByRecursion (λ one. IsAcceptedAs config peer changes one.0 one.1) queued

-- each offer of the exchange that was answered by a number is accepted by the change of that number
abbrev pub AreAccepted : Config → List ℕ → List Change → Said → Type 0
AreAccepted config peer changes said = AreAcceptedAs config peer changes (queued_in said)

-- the list has grown by an accept, which is the change of this number, or is the same
abbrev pub GrowsBy : List Change → Option ℕ → List Change → Type 0
GrowsBy changes None later = later ≡ changes
GrowsBy changes (Some number) later =
    (accept : Accept) × (number ≡ length changes + 1) × (later ≡ changes ++ change.Accept accept ∷ [])
