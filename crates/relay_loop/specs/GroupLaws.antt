-- The state of a client after a call on several pieces and replies.
use Rattle.std.specs.Prelude.{◌≡◌, ◌⊎◌, ℕ, ◌==◌, List, [], ◌∷◌, ◌++◌, take, Some, None, Result, Ok, Err, if◌then◌else◌}
use Rattle.std.specs.Result.{IsErr}
use Rattle.relay_disk.specs.Device.{DiskWords}
use Rattle.relay_slots.specs.Slots.{slot_at}
use Rattle.relay_server.specs.Dialogue.{Said}
use Rattle.relay_book.specs.declared.change.Change.{Change}
use Rattle.relay_records.specs.declared.fault.NodeFault.{NodeFault}
use Rattle.relay_loop.specs.declared.clients.Heard.{Heard}
use Rattle.relay_loop.specs.declared.group.Group.{Group}
use Rattle.relay_loop.specs.declared.group.Piece.{Piece}
use Rattle.relay_loop.specs.declared.replying.ReplyPiece.{ReplyPiece}
use Rattle.relay_loop.specs.Clients.{HasLeft, TalksTo}
use Rattle.relay_loop.specs.Groups.{ReadsAll}
use Rattle.relay_loop.specs.Relay.{RelayState}

-- the octets used of a piece with this result
abbrev pub used_by : Piece → Result Heard NodeFault → List ℕ
used_by piece (Ok heard) = take heard.used piece.octets.now
used_by piece (Err fault) = []

-- the octets used of the pieces of a session
abbrev pub used_of : ℕ → List Piece → List (Result Heard NodeFault) → List ℕ
used_of session [] answers = []
used_of session (piece ∷ pieces) [] = []
used_of session (piece ∷ pieces) (answer ∷ answers) =
    (if piece.session == session then used_by piece answer else []) ++ used_of session pieces answers

-- the result hands out these last octets
abbrev pub HandsOut : List ℕ → Result Heard NodeFault → Type 0
HandsOut last (Ok heard) = heard.last ≡ Some last
HandsOut last (Err fault) = ⊥

-- the result of a piece of this session does so
abbrev pub IsHandedOut : List ℕ → ℕ → List Piece → List (Result Heard NodeFault) → Type 0
IsHandedOut last session [] answers = ⊥
IsHandedOut last session (piece ∷ pieces) [] = ⊥
IsHandedOut last session (piece ∷ pieces) (answer ∷ answers) =
    ((piece.session ≡ session) × HandsOut last answer) ⊎ IsHandedOut last session pieces answers

-- the result of a piece of this session is a fault
abbrev pub IsRefused : ℕ → List Piece → List (Result Heard NodeFault) → Type 0
IsRefused session [] answers = ⊥
IsRefused session (piece ∷ pieces) [] = ⊥
IsRefused session (piece ∷ pieces) (answer ∷ answers) =
    ((piece.session ≡ session) × IsErr answer) ⊎ IsRefused session pieces answers

-- Below: a session with this exchange and these octets written, after pieces with these results, by this list of
-- changes.
module _ {D : Type 0} (list : List Change) (new : RelayState D) (session : ℕ) (peer : List ℕ) (said : Said)
    (written : List ℕ) (pieces : List Piece) (answers : List (Result Heard NodeFault)) where
  -- the exchange goes on, and the used octets of its pieces follow its input
  pub record IsTalkedTo : Type 0 where
    pub later : Said
    pub input : later.input ≡ said.input ++ used_of session pieces answers
    pub talks : TalksTo list new session peer later written

  -- the session has closed, and its last octets are handed out
  pub record HasClosedIn : Type 0 where
    pub later : Said
    pub input : later.input ≡ said.input ++ used_of session pieces answers
    pub last : List ℕ
    pub left : HasLeft list new session peer later written last
    pub told : IsHandedOut last session pieces answers

  -- a piece of the session was refused, and its connection is gone
  pub record WasRefusedIn : Type 0 where
    pub gone : slot_at new.clients session ≡ None
    pub told : IsRefused session pieces answers

  abbrev pub Becomes : Type 0
  Becomes = IsTalkedTo ⊎ HasClosedIn ⊎ WasRefusedIn

-- Each client becomes one of these, with or without a piece in the call.
abbrev pub GroupsTalk : {D : Type 0} → Type 0 → DiskWords D → Type 0
GroupsTalk {D = D} honest words =
    (changes : List Change) (at : ℕ) (pieces : List Piece) (replies : List ReplyPiece) (old new : RelayState D)
    (group : Group) (session : ℕ) (peer : List ℕ) (said : Said) (written : List ℕ)
    → (all : ReadsAll honest words changes at pieces replies old new group)
    → TalksTo changes old session peer said written
    → Becomes (changes ++ all.pending) new session peer said written pieces group.heard.items
