-- What a thread's link has done: a dialogue with its client, and a receipt for each queued offer.
use Rattle.std.specs.Prelude.{◌≡◌, ◌≢◌, ◌⊎◌, ℕ, suc, Option, List, [], ◌∷◌, ◌++◌, length, Bool, true, false, Result}
use Rattle.std.specs.Prelude.{MatchResult}
use Rattle.std.specs.Io.KnownBytes.{Appends, Consumes, IsAtEnd}
use Rattle.relay_routes.specs.declared.config.Config.{Config}
use Rattle.relay_server.specs.declared.offer.Answer.{Answer}
use Rattle.relay_server.specs.declared.offer.Answer.TheVariants.{Queued, Full}
use Rattle.relay_server.specs.declared.session.Session.{Session}
use Rattle.relay_server.specs.Dialogue.{Offered, Said, IsDialogue}
use Rattle.relay_server.specs.Session.{Stands}
use Rattle.relay_server.specs.Setup.{setup_for}
use Rattle.relay_server.specs.State.{Closed}
use Rattle.relay_links.specs.declared.fault.LinkFault.{LinkFault}
use Rattle.relay_links.specs.declared.fault.LinkFault.TheVariants.{Input, Output, NoMemory, Full as NoNumber, Device}
use Rattle.relay_hub.specs.declared.receipt.Receipt.{Receipt}
use Rattle.relay_hub.specs.Admission.{IsReceiptOf}

-- the state before a link: what its reader has left, what its writer holds, and the receipts of its thread
pub record LinkStart : Type 0 where
  pub left : Option (List ℕ)
  pub held : Option (List ℕ)
  pub receipts : List Receipt

abbrev pub link_start : Option (List ℕ) → Option (List ℕ) → List Receipt → LinkStart
link_start left held receipts = record { left = left; held = held; receipts = receipts }

-- Each answer is for the offer at its position, from the client at this address, and these are the receipts of those
-- that were queued, in order. Offers may outnumber answers.
abbrev pub AreNoted : List ℕ → ℕ → List Answer → List Offered → List Receipt → Type 0
AreNoted peer at [] offers [] = Unit {0}
AreNoted peer at [] offers (receipt ∷ receipts) = ⊥
AreNoted peer at (answer ∷ answers) [] receipts = ⊥
AreNoted peer at (Full ∷ answers) (offer ∷ offers) receipts = AreNoted peer at answers offers receipts
AreNoted peer at (Queued number ∷ answers) (offer ∷ offers) [] = ⊥
AreNoted peer at (Queued number ∷ answers) (offer ∷ offers) (receipt ∷ receipts) =
    IsReceiptOf offer peer at number receipt × AreNoted peer at answers offers receipts

-- each answer was given to the offer at its position
abbrev pub AreOfHub : (Offered → Answer → Type 0) → List Answer → List Offered → Type 0
AreOfHub given [] offers = Unit {0}
AreOfHub given (answer ∷ answers) [] = ⊥
AreOfHub given (answer ∷ answers) (offer ∷ offers) = given offer answer × AreOfHub given answers offers

-- the session has had some exchange with the client at this address; an offer of it may be open
abbrev pub IsStanding : Config → List ℕ → Session → Type 0
IsStanding config peer session = (said : Said) × Stands (setup_for config peer) session said

-- the hub refused to take an offer
abbrev pub IsOfHub : LinkFault → Type 0
IsOfHub fault = (fault ≡ Device) ⊎ (fault ≡ NoNumber)

-- a fault by which a link ends when the hub doesn't take an offer: it refused, or memory ran out
abbrev pub IsRefusal : LinkFault → Type 0
IsRefusal Input = ⊥
IsRefusal Output = ⊥
IsRefusal NoMemory = Unit {0}
IsRefusal NoNumber = Unit {0}
IsRefusal Device = Unit {0}

-- Below: a link to a hub with these answers, under this configuration, with the client at this address, from its start
-- on, with this acceptance time.
module _ (has_answered : List ℕ → ℕ → Offered → Answer → Type 0) (config : Config) (peer : List ℕ) (at : ℕ)
    (start : LinkStart) where
  -- The hub gave these answers, and the receipts have grown by those of the offers that it queued, in order.
  pub record HasNoted (offers : List Offered) (answers : List Answer) (receipts : List Receipt) : Type 0 where
    pub of_hub : AreOfHub (has_answered peer at) answers offers
    pub added : List Receipt
    pub noted : AreNoted peer at answers offers added
    pub receipts_are : receipts ≡ start.receipts ++ added

  -- The exchange so far: its output is what was written followed by `out`, which is to be written; its input is what
  -- was read, without the octets of `waiting`.
  pub record HasSaid (session : Session) (left held : Option (List ℕ)) (waiting out : List ℕ) (receipts : List Receipt)
      : Type 0 where
    pub said : Said
    pub stands : Stands (setup_for config peer) session said
    pub read : Consumes start.left left (said.input ++ waiting)
    pub before : List ℕ
    pub output : said.output ≡ before ++ out
    pub written : Appends start.held held before
    pub noted : HasNoted said.offers said.answers receipts

  -- What was read and written is a dialogue, up to a close or the end of the input, and each of its offers is answered.
  pub record HasServed (left held : Option (List ℕ)) (receipts : List Receipt) : Type 0 where
    pub said : Said
    pub dialogue : IsDialogue (setup_for config peer) said
    pub read : Consumes start.left left said.input
    pub written : Appends start.held held said.output
    pub ended : (dialogue.state ≡ Closed) ⊎ IsAtEnd left
    pub answered : length said.offers ≡ length said.answers
    pub noted : HasNoted said.offers said.answers receipts

  -- What was written is a prefix of a dialogue's output; after a failed read it is all of it. The dialogue's input is a
  -- prefix of what was read. If the hub refused an offer, it is the last one and has no answer. If memory ran out after
  -- the hub answered an offer, the reply is missing but the receipt counts.
  pub record HasBegun (left held : Option (List ℕ)) (receipts : List Receipt) (fault : LinkFault) : Type 0 where
    pub said : Said
    pub dialogue : IsDialogue (setup_for config peer) said
    pub unread : List ℕ
    pub read : Consumes start.left left (said.input ++ unread)
    pub front : List ℕ
    pub unwritten : List ℕ
    pub output : said.output ≡ front ++ unwritten
    pub whole : fault ≡ Input → unwritten ≡ []
    pub written : Appends start.held held front
    pub unanswered : IsOfHub fault → length said.offers ≡ suc (length said.answers)
    pub untold : List Answer
    pub told : fault ≢ NoMemory → untold ≡ []
    pub noted : HasNoted said.offers (said.answers ++ untold) receipts

  -- a link has ended, without or with a fault
  abbrev pub HasEnded : Option (List ℕ) → Option (List ℕ) → List Receipt → Result (Unit {0}) LinkFault → Type 0
  HasEnded left held receipts result =
      MatchResult result (λ _. HasServed left held receipts) (HasBegun left held receipts)

  -- after a block the link has ended, or goes on with nothing left to write
  abbrev pub GoesOn : Session → Option (List ℕ) → Option (List ℕ) → List ℕ → List Receipt → Bool → Type 0
  GoesOn session left held waiting receipts true = HasServed left held receipts
  GoesOn session left held waiting receipts false = HasSaid session left held waiting [] receipts

  -- after a block the link goes on, has ended, or has failed
  abbrev pub HasGone : Session → Option (List ℕ) → Option (List ℕ) → List ℕ → List Receipt → Result Bool LinkFault
      → Type 0
  HasGone session left held waiting receipts result =
      MatchResult result (GoesOn session left held waiting receipts) (HasBegun left held receipts)
