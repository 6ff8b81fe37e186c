-- Laws of a relay's connections, whatever calls are made.
use Rattle.std.specs.Prelude.{◌≡◌, ◌≢◌, ◌⊎◌, ℕ, List, [], ◌∷◌, ◌++◌}
use Rattle.std.specs.List.{Contains}
use Rattle.relay_octets.specs.Beginning.{Begins}
use Rattle.relay_slots.specs.Slots.{slot_at}
use Rattle.relay_attempts.specs.Reply.{Told}
use Rattle.relay_server.specs.Dialogue.{IsDialogue, Offered, Said}
use Rattle.relay_server.specs.Setup.{setup_for}
use Rattle.relay_book.specs.declared.change.Change.{Change}
use Rattle.relay_book.specs.Queue.{Fitting}
use Rattle.relay_node.specs.Queued.{queued_in}
use Rattle.relay_loop.specs.Accepted.{IsAcceptedAs}
use Rattle.relay_loop.specs.Clients.{TalksTo}
use Rattle.relay_loop.specs.Hops.{HandsTo}
use Rattle.relay_loop.specs.Relay.{OnlyClient, OnlyHop, RelayState}

-- The exchange with a client is a dialogue, and what was written to the client is a prefix of its output.
abbrev pub TalksAreDialogues : Type 0 → Type 0
TalksAreDialogues D =
    (changes : List Change) (relay : RelayState D) (session : ℕ) (peer : List ℕ) (said : Said) (written : List ℕ)
    → TalksTo changes relay session peer said written
    → IsDialogue (setup_for relay.node.config peer) said × Begins written said.output

-- Each offer of a client that was answered by a number is accepted by the change of that number.
abbrev pub QueuedAreAccepted : Type 0 → Type 0
QueuedAreAccepted D =
    (changes : List Change) (relay : RelayState D) (session : ℕ) (peer : List ℕ) (said : Said) (written : List ℕ)
    → TalksTo changes relay session peer said written → (number : ℕ) (offer : Offered)
    → Contains {X = ℕ × Offered} (queued_in said) (number, offer)
    → IsAcceptedAs relay.node.config peer changes number offer

-- A client's exchange goes on unchanged while changes are added, as long as its session, its connection and the
-- configuration are the same.
abbrev pub TalksStay : Type 0 → Type 0
TalksStay D =
    (changes added : List Change) (old new : RelayState D) (session : ℕ) (peer : List ℕ) (said : Said)
    (written : List ℕ)
    → slot_at new.node.seats session ≡ slot_at old.node.seats session
    → slot_at new.clients session ≡ slot_at old.clients session → new.node.config ≡ old.node.config
    → TalksTo changes old session peer said written → TalksTo (changes ++ added) new session peer said written

-- It also goes on unchanged through a call on another session, or on an attempt.
abbrev pub OthersTalk : Type 0 → Type 0
OthersTalk D =
    (changes added : List Change) (old new : RelayState D) (called session : ℕ) (peer : List ℕ) (said : Said)
    (written : List ℕ)
    → (OnlyClient old new called × (session ≢ called)) ⊎ OnlyHop old new called
    → TalksTo changes old session peer said written → TalksTo (changes ++ added) new session peer said written

-- the list of changes is the same, or has grown by a change that fits
abbrev pub StaysOrGrows : List Change → List Change → Type 0
StaysOrGrows changes later =
    (later ≡ changes) ⊎ ((change : Change) × (later ≡ changes ++ change ∷ []) × Fitting later)

-- The relaying to a next hop goes on unchanged while changes are added, as long as its attempt, its connection and the
-- configuration are the same.
abbrev pub HandsStay : Type 0 → Type 0
HandsStay D =
    (changes later : List Change) (old new : RelayState D) (attempt : ℕ) (told : Told) (written : List ℕ)
    → StaysOrGrows changes later
    → slot_at new.node.attempts attempt ≡ slot_at old.node.attempts attempt
    → slot_at new.hops attempt ≡ slot_at old.hops attempt → new.node.config ≡ old.node.config
    → HandsTo changes old attempt told written → HandsTo later new attempt told written

-- It also goes on unchanged through a call on another attempt, or on a session.
abbrev pub OthersHand : Type 0 → Type 0
OthersHand D =
    (changes later : List Change) (old new : RelayState D) (called attempt : ℕ) (told : Told) (written : List ℕ)
    → StaysOrGrows changes later
    → (OnlyHop old new called × (attempt ≢ called)) ⊎ OnlyClient old new called
    → HandsTo changes old attempt told written → HandsTo later new attempt told written
