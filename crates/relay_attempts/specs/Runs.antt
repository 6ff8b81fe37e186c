-- The running attempts of a node, by number, 0 to 63.
use Rattle.std.specs.Prelude.{◌≡◌, ◌≢◌, ℕ, ◌+◌, ◌≤◌, ◌==◌, Bool, true, false, ◌&&◌, List, [], ◌∷◌, Option, None, Some}
use Rattle.std.specs.Prelude.{bytes_eq}
use Rattle.std.specs.List.{AllByRecursion, list_any}
use Rattle.relay_slots.specs.Slots.{slot_at}
use Rattle.relay_routes.specs.Routes.{RouteTable}
use Rattle.relay_book.specs.declared.message.Message.{Message}
use Rattle.relay_book.specs.declared.message.Place.{Place}
use Rattle.relay_book.specs.Queue.{Queue, holds_at, message_of}
use Rattle.relay_client.specs.Attempt.{Follows}
use Rattle.relay_attempts.specs.declared.runs.Run.{Run}
use Rattle.relay_attempts.specs.Hops.{goes_to}

-- the attempt is for this message and the hop of this name
abbrev pub is_run_for : ℕ → List ℕ → Option Run → Bool
is_run_for message hop None = false
is_run_for message hop (Some run) = run.message == message && bytes_eq run.hop hop

-- an attempt for this message and hop is running
abbrev pub is_running : List (Option Run) → ℕ → List ℕ → Bool
is_running runs message hop = list_any (is_run_for message hop) runs

-- the numbers rise from this one, and the place of each is held
abbrev pub AreHeld : List Place → ℕ → List ℕ → Type 0
AreHeld places least [] = Unit {0}
AreHeld places least (number ∷ numbers) =
    (least ≤ number) × (holds_at places number ≡ true) × AreHeld places (number + 1) numbers

-- each of these places of a message goes to this hop
abbrev pub AllGoTo : RouteTable → List ℕ → Message → List ℕ → Type 0
AllGoTo table hop message numbers =
    AllByRecursion (λ number. goes_to table message.accept.envelope.recipients hop number ≡ true) numbers

-- the attempt relays a queued message for some of its held places, which go to its hop: of what was said on its
-- connection there is a history
pub record RunsFor (host : List ℕ) (table : RouteTable) (queue : Queue) (run : Run) : Type 0 where
  pub message : Message
  pub found : message_of queue.messages run.message ≡ Some message
  pub held : AreHeld message.places 0 run.places.items
  pub some : run.places.items ≢ []
  pub its_hop : AllGoTo table run.hop message run.places.items
  pub input : List ℕ
  pub output : List ℕ
  pub follows : Follows run.client host message.accept.envelope message.accept.stored_text run.places.items input output

-- each attempt relays what is queued
abbrev pub EachRuns : List ℕ → RouteTable → Queue → List (Option Run) → Type 0
EachRuns host table queue runs =
    (number : ℕ) (run : Run) → slot_at runs number ≡ Some run → RunsFor host table queue run

-- no two attempts are for one message and hop
abbrev pub NoneTwice : List (Option Run) → Type 0
NoneTwice runs =
    (number other : ℕ) (run another : Run) → slot_at runs number ≡ Some run → slot_at runs other ≡ Some another
    → run.message ≡ another.message → run.hop ≡ another.hop → number ≡ other
