-- What a caller may say of a session: what it has said so far, whether an offer is open, and what comes next.
use Rattle.std.specs.Prelude.{◌≡◌, ◌≢◌, ℕ, ◌+◌, ◌≤◌, ◌<◌, Bool, true, false, List, [], ◌∷◌, ◌++◌, length}
use Rattle.relay_lines.specs.Reply.{reply_text}
use Rattle.relay_server.specs.declared.offer.Answer.{Answer}
use Rattle.relay_server.specs.declared.offer.Offer.{Offer}
use Rattle.relay_server.specs.declared.reply_table.Row.TheVariants.{Greeting}
use Rattle.relay_server.specs.declared.session.Next.{Next}
use Rattle.relay_server.specs.declared.session.Next.TheVariants as next
use Rattle.relay_server.specs.declared.session.Session.{Session}
use Rattle.relay_server.specs.declared.stage.Stage.{Stage}
use Rattle.relay_server.specs.declared.stage.Stage.TheVariants as stage
use Rattle.relay_server.specs.declared.state.CommandState.{CommandState as Held}
use Rattle.relay_server.specs.declared.state.CommandState.TheVariants as held
use Rattle.relay_server.specs.Dialogue.{Offered, Said, Turn, Turns, read_by, written_by, offered_by, answered_by}
use Rattle.relay_server.specs.Machine.{Keeps, Shown, Reading, Offering, Over, offers_at, shown_at}
use Rattle.relay_server.specs.Reply.{reply_of}
use Rattle.relay_server.specs.Setup.{Setup, setup_of}
use Rattle.relay_server.specs.State.{State, start}

-- the session is after these turns of what was said, and keeps what was read since
pub record Stands (setup : Setup) (session : Session) (said : Said) : Type 0 where
  pub setup_is : setup ≡ setup_of session.server setup.routes
  pub turns : List Turn
  pub state : State
  pub rest : List ℕ
  pub runs : Turns setup start turns state
  pub input : said.input ≡ read_by turns ++ rest
  pub output : said.output ≡ reply_text (reply_of setup.host Greeting) ++ written_by turns
  pub answers : said.answers ≡ answered_by turns
  pub offers : said.offers ≡ offered_by turns ++ offers_at session.stage
  pub keeps : Keeps setup session.line session.stage state rest

-- what an offer shows
abbrev pub offered : Offer → Offered
offered offer =
    record { client = offer.client.now; envelope = offer.envelope.now; content = offer.content.now }

-- what the caller does next
abbrev pub next_shown : Shown → Next
next_shown Reading = next.More
next_shown (Offering offer) = next.Offer
next_shown Over = next.Close

abbrev pub next_of : Session → Next
next_of session = next_shown (shown_at session.stage)

-- the caller takes an offer next: one is open
abbrev pub HasOffer : Session → Type 0
HasOffer session = next_of session ≡ next.Offer

-- no octet is read: an offer is open, or the session is closed, or it has failed
abbrev pub Waits : Session → Type 0
Waits session = next_of session ≢ next.More

-- the session is closed
abbrev pub IsClosed : Session → Type 0
IsClosed session = session.stage ≡ stage.Closed

-- a mail transaction of the client is open while it gives a command: its MAIL was accepted (RFC 5321, section 3.3), and
-- no chunk of its content was refused, after which it only ends
abbrev pub has_transaction : Held → Bool
has_transaction held.Fresh = false
has_transaction (held.Greeted client) = false
has_transaction (held.Open transaction) = true
has_transaction (held.Gathering gathering) = true
has_transaction (held.Spent client) = false

-- one is open at this stage: its content may be coming, or wait for the answer to its offer
abbrev pub is_transaction : Stage → Bool
is_transaction (stage.Command state) = has_transaction state
is_transaction (stage.Receiving mail) = true
is_transaction (stage.Chunk chunk) = true
is_transaction (stage.Skipping skipped) = has_transaction skipped.state
is_transaction (stage.Offering transaction content) = true
is_transaction stage.Closed = false
is_transaction stage.Failed = false

-- a mail transaction of the client is open
abbrev pub in_transaction : Session → Bool
in_transaction session = is_transaction session.stage

-- memory ran out in a call on the session
abbrev pub HasFailed : Session → Type 0
HasFailed session = session.stage ≡ stage.Failed

-- the offer that is open, if there is one
abbrev pub open_offers : Session → List Offered
open_offers session = offers_at session.stage

-- of the offers that are open after a call those that are new: where one was open before it, it is the same
abbrev pub new_offers : List Offered → List Offered → List Offered
new_offers [] now = now
new_offers (offer ∷ offers) now = []

abbrev pub offers_since : Session → Session → List Offered
offers_since old new = new_offers (open_offers old) (open_offers new)

-- How far a piece of this length is used, and what the caller is told then: to its end where more
-- is to come, and by an octet at least where an offer has opened.
pub record UsesPiece (old : Session) (told : Next) (len from to : ℕ) : Type 0 where
  pub no_less : from ≤ to
  pub within : to ≤ len
  pub whole : told ≡ next.More → to ≡ len
  pub some : told ≡ next.Offer → from < to + length (open_offers old)

-- After what was said these octets were read, and what was written is after what was written before.
pub record SaysMore (said later : Said) (octets before after : List ℕ) : Type 0 where
  pub input : later.input ≡ said.input ++ octets
  pub written : List ℕ
  pub output : later.output ≡ said.output ++ written
  pub out : after ≡ before ++ written

-- after what was said the session has used these octets, and has written its replies after those before
pub record Hears (setup : Setup) (said : Said) (old new : Session)
    (octets before after : List ℕ) : Type 0 where
  pub later : Said
  pub stands : Stands setup new later
  pub more : SaysMore said later octets before after
  pub answers : later.answers ≡ said.answers
  pub offers : later.offers ≡ said.offers ++ offers_since old new

-- after what was said the open offer has this answer, and its reply is written after those before
pub record Answered (setup : Setup) (said : Said) (new : Session) (given : Answer)
    (before after : List ℕ) : Type 0 where
  pub later : Said
  pub stands : Stands setup new later
  pub more : SaysMore said later [] before after
  pub answers : later.answers ≡ said.answers ++ given ∷ []
  pub offers : later.offers ≡ said.offers
