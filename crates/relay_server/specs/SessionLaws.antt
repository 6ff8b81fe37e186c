-- What a session tells its caller, and what may be said of it after each call, whatever it has held.
use Rattle.std.specs.Prelude.{◌≡◌, ◌≢◌, ◌↔◌, ℕ, ◌+◌, ◌≤◌, List, [], ◌∷◌, ◌++◌, length, take, slice_range}
use Rattle.relay_server.specs.declared.session.Next.TheVariants as next
use Rattle.relay_server.specs.declared.session.Session.{Session}
use Rattle.relay_server.specs.Bounds.{content_held_at}
use Rattle.relay_server.specs.Dialogue.{Offered, Said, IsDialogue, unread_after}
use Rattle.relay_server.specs.DialogueLaws.{MayBeStored}
use Rattle.relay_server.specs.Session.{IsClosed, SaysMore, Stands, next_of, offers_since, open_offers}
use Rattle.relay_server.specs.Setup.{Setup}
use Rattle.relay_server.specs.State.{Closed}

-- the caller is told to take an offer exactly if one is open
abbrev pub OfferIsTold : Type 0
OfferIsTold =
    (session : Session)
    → (next_of session ≡ next.Offer) ↔ ((offer : Offered) × (open_offers session ≡ offer ∷ []))

-- where the caller isn't told to take one, none is open: of offers one is open at most
abbrev pub NoneElseIsOpen : Type 0
NoneElseIsOpen = (session : Session) → next_of session ≢ next.Offer → open_offers session ≡ []

-- after no open offer the new ones are those that are open
abbrev pub OpenIsNew : Type 0
OpenIsNew = (old new : Session) → open_offers old ≡ [] → offers_since old new ≡ open_offers new

-- each offer but the open one is answered
abbrev pub OffersAreAnswered : Type 0
OffersAreAnswered =
    (setup : Setup) (session : Session) (said : Said) → Stands setup session said
    → length said.offers ≡ length said.answers + length (open_offers session)

-- where as many answers were said as offers, none is open
abbrev pub AnsweredIsSettled : Type 0
AnsweredIsSettled =
    (setup : Setup) (session : Session) (said : Said) → Stands setup session said
    → length said.offers ≡ length said.answers → open_offers session ≡ []

-- a session whose caller is told to close is closed
abbrev pub CloseIsClosed : Type 0
CloseIsClosed =
    (setup : Setup) (session : Session) (said : Said) → Stands setup session said
    → next_of session ≡ next.Close → IsClosed session

-- after a close what was said is a dialogue that is closed, and octets that nobody reads belong to its rest
abbrev pub ClosedIsADialogue : Type 0
ClosedIsADialogue =
    (setup : Setup) (session : Session) (said : Said) (octets : List ℕ)
    → Stands setup session said → IsClosed session
    → (dialogue : IsDialogue setup (unread_after said octets)) × (dialogue.state ≡ Closed)

-- the open offer of a session may be stored
abbrev pub OpenMayBeStored : Type 0
OpenMayBeStored =
    (setup : Setup) (session : Session) (said : Said) (offer : Offered) → Stands setup session said
    → open_offers session ≡ offer ∷ [] → MayBeStored setup offer

-- a session holds no more octets of content than its configuration allows, whatever it has answered
abbrev pub ContentIsWithin : Type 0
ContentIsWithin = (session : Session) → content_held_at session.stage ≤ session.server.max_content

-- an open offer's content is no longer than the session's configuration allows, whatever it has answered
abbrev pub OfferIsWithin : Type 0
OfferIsWithin =
    (session : Session) (offer : Offered) → open_offers session ≡ offer ∷ []
    → length offer.content ≤ session.server.max_content

-- what was said after more is more, in one
abbrev pub MoreIsMore : Type 0
MoreIsMore =
    (said mid later : Said) (octets further all before between after : List ℕ)
    → SaysMore said mid octets before between → SaysMore mid later further between after
    → all ≡ octets ++ further → SaysMore said later all before after

-- a piece of which further octets were used
abbrev pub PieceGoesOn : Type 0
PieceGoesOn =
    (said mid later : Said) (piece : List ℕ) (used further : ℕ) (before between after : List ℕ)
    → used ≤ further
    → SaysMore said mid (take used piece) before between
    → SaysMore mid later (slice_range piece used further) between after
    → SaysMore said later (take further piece) before after
