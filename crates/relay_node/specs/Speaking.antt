-- What the octets of a client come to, with the reply to an offer that there is room for.
use Rattle.std.specs.Prelude.{◌≡◌, ◌↔◌, ℕ, ◌≤◌, ◌<◌, Bool, true, false, List, [], ◌∷◌, ◌++◌, take, Option, Some, None}
use Rattle.std.specs.List.{AllByRecursion}
use Rattle.relay_server.specs.declared.offer.Answer.TheVariants.{Queued}
use Rattle.relay_server.specs.declared.session.Next.TheVariants as next
use Rattle.relay_server.specs.declared.session.Session.{Session}
use Rattle.relay_server.specs.Dialogue.{Offered, Said}
use Rattle.relay_server.specs.Session.{next_of}
use Rattle.relay_server.specs.Setup.{setup_for}
use Rattle.relay_node.specs.declared.intake.Intake.{Intake}
use Rattle.relay_node.specs.declared.intake.Taken.{Taken}
use Rattle.relay_node.specs.declared.speak.Spoken.{Spoken}
use Rattle.relay_node.specs.Listening.{HasNoRoom, IsTaken}
use Rattle.relay_node.specs.Node.{SessionHasSaid}
use Rattle.relay_node.specs.Room.{AnswersMore, EndsWithOffer, refusals}

-- after the refused offers one is taken, whose answer is the intake's number; no octet after it was read
pub record TakesLast (intake : Intake) (said later : Said) (refused : List Offered) (taken : Taken) : Type 0 where
  pub offer : Offered
  pub is : IsTaken intake offer taken
  pub answers : AnswersMore said later refused (offer ∷ []) (Queued intake.number ∷ [])
  pub ends : EndsWithOffer (setup_for intake.config.now intake.peer) later (said.answers ++ refusals refused)

-- the refused offers are all, or one after them is taken
abbrev pub AnswersAll : Intake → Said → Said → List Offered → Option Taken → Type 0
AnswersAll intake said later refused None = AnswersMore said later refused [] []
AnswersAll intake said later refused (Some taken) = TakesLast intake said later refused taken

-- after what was said octets of the piece were read, and each offer has its answer
pub record Speaks (intake : Intake) (said : Said) (piece : List ℕ) (session : Session) (spoken : Spoken)
    : Type 0 where
  pub later : Said
  pub says : SessionHasSaid (setup_for intake.config.now intake.peer) session later
  pub input : later.input ≡ said.input ++ take spoken.used piece
  pub output : later.output ≡ said.output ++ spoken.out.items
  pub refused : List Offered
  pub no_room : AllByRecursion (HasNoRoom intake) refused
  pub answers : AnswersAll intake said later refused spoken.taken

-- what was used of a piece of this length: all, unless a close stopped it, or an offer that is taken
abbrev pub UsesUp : Intake → ℕ → ℕ → Bool → Option Taken → Type 0
UsesUp intake used len close None = close ≡ false → used ≡ len
UsesUp intake used len close (Some taken) =
    (0 < used) × (close ≡ false) × ((offer : Offered) × IsTaken intake offer taken)

-- whatever was said before: what was used of the piece, and whether the session has closed
pub record IsSpoken (intake : Intake) (len : ℕ) (session : Session) (spoken : Spoken) : Type 0 where
  pub within : spoken.used ≤ len
  pub uses : UsesUp intake spoken.used len spoken.close spoken.taken
  pub closed : (spoken.close ≡ true) ↔ (next_of session ≡ next.Close)
