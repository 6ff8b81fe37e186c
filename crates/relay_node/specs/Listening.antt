-- What the octets of a client come to, up to an offer that there is room for.
use Rattle.std.specs.Prelude.{◌≡◌, ℕ, ◌≤◌, ◌<◌, List, [], ◌∷◌, length, Option, Some, None}
use Rattle.std.specs.List.{AllByRecursion}
use Rattle.relay_server.specs.declared.session.Session.{Session}
use Rattle.relay_server.specs.declared.session.Next.TheVariants as next
use Rattle.relay_server.specs.Dialogue.{Offered, Said}
use Rattle.relay_server.specs.Session.{SaysMore, Stands, next_of, open_offers}
use Rattle.relay_server.specs.Setup.{setup_for}
use Rattle.relay_book.specs.declared.change.Accept.{Accept}
use Rattle.relay_book.specs.declared.change.Change.TheVariants as change
use Rattle.relay_book.specs.Record.{IsAccept, encode}
use Rattle.relay_node.specs.declared.intake.Intake.{Intake}
use Rattle.relay_node.specs.declared.intake.Taken.{Taken}
use Rattle.relay_node.specs.declared.listen.End.{End}
use Rattle.relay_node.specs.declared.listen.End.TheVariants as «end»
use Rattle.relay_node.specs.declared.listen.Listened.{Listened}
use Rattle.relay_node.specs.Acceptance.{Acceptance, acceptance_by}
use Rattle.relay_node.specs.Room.{AnswersMore, HasRoom, Overfills}

abbrev pub acceptance_of : Intake → Acceptance
acceptance_of intake = acceptance_by intake.config.now intake.peer intake.number intake.at

abbrev pub HasNoRoom : Intake → Offered → Type 0
HasNoRoom intake offer = Overfills (acceptance_of intake) intake.config.now.spool_limit intake.size offer

-- the accept of this offer, for which there is room, and its record
pub record IsTaken (intake : Intake) (offer : Offered) (taken : Taken) : Type 0 where
  pub accept : Accept
  pub change_is : taken.change ≡ change.Accept accept
  pub room : HasRoom (acceptance_of intake) intake.config.now.spool_limit intake.size offer accept
  pub valid : IsAccept accept
  pub octets_are : taken.octets ≡ encode taken.change

-- the offer is taken, or there is no room for it
abbrev pub Weighs : Intake → Offered → Option Taken → Type 0
Weighs intake offer None = HasNoRoom intake offer
Weighs intake offer (Some taken) = IsTaken intake offer taken

-- so is the offer that is open
abbrev pub Considers : Intake → Session → Option Taken → Type 0
Considers intake session taken = (offer : Offered) × (open_offers session ≡ offer ∷ []) × Weighs intake offer taken

-- after what was said these octets were read, and offers refused; what was written is this
pub record HasListened (intake : Intake) (said : Said) (session : Session)
    (octets out : List ℕ) : Type 0 where
  pub later : Said
  pub stands : Stands (setup_for intake.config.now intake.peer) session later
  pub more : SaysMore said later octets [] out
  pub refused : List Offered
  pub answers : AnswersMore said later refused (open_offers session) []
  pub no_room : AllByRecursion (HasNoRoom intake) refused

-- the piece is used up, the session closes, or the offer that is open is taken
abbrev pub EndsBy : Intake → Session → ℕ → ℕ → End → Type 0
EndsBy intake session used len «end».More =
    (open_offers session ≡ []) × (used ≡ len) × (next_of session ≡ next.More)
EndsBy intake session used len «end».Close = (open_offers session ≡ []) × (next_of session ≡ next.Close)
EndsBy intake session used len («end».Taken taken) =
    (0 < used) × ((offer : Offered) × (open_offers session ≡ offer ∷ []) × IsTaken intake offer taken)

pub record Ends (intake : Intake) (session : Session) (piece : List ℕ) (listened : Listened) : Type 0 where
  pub within : listened.used ≤ length piece
  pub by : EndsBy intake session listened.used (length piece) listened.end
