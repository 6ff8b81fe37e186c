-- The sessions of a node with what was said on them, and a call on one of them.
use Rattle.std.proofs.Common.{◌≡◌, ◌↔◌, ℕ, ◌<◌, zero, suc, Bool, true, false, List, [], ◌∷◌, length, Option, None, Some, refl, sym, ap, ◌∙◌, subst}
use Rattle.std.specs.Prelude.{if◌then◌else◌, slice_set}
use Rattle.std.proofs.lemmas.List.{get_or-set_same}
use Rattle.relay_disk.specs.Device.{DiskWords}
use Rattle.relay_routes.specs.declared.config.Config.{Config}
use Rattle.relay_server.specs.declared.session.Next.{Next}
use Rattle.relay_server.specs.declared.session.Next.TheVariants as next
use Rattle.relay_server.specs.declared.session.Session.{Session}
use Rattle.relay_server.specs.Dialogue.{Offered, Said}
use Rattle.relay_server.specs.Session.{Stands, next_of, open_offers}
use Rattle.relay_server.specs.Setup.{Setup, setup_for}
use Rattle.relay_server.proofs.Theorems.{close_is_closed, closed_is_a_dialogue, offer_is_told, what_stands_is_a_dialogue}
use Rattle.relay_book.specs.declared.change.Change.{Change}
use Rattle.relay_records.specs.Records.{Kept}
use Rattle.relay_attempts.specs.declared.runs.Run.{Run}
use Rattle.relay_node.specs.declared.receive.Received.{Received}
use Rattle.relay_node.specs.declared.seat.Seat.{Seat}
use Rattle.relay_node.specs.Room.{ComesToOffer}
use Rattle.relay_node.specs.Node.{CutsTalk, SessionGoesOn, HasClosed, HasHistory, HaveHistories, Hears, IsOpen, Receives, SessionHasSaid, SeatHasSaid, NodeState}
use Rattle.relay_slots.specs.Slots.{AreFree, slot_at}
use Rattle.relay_slots.proofs.Theorems.{taken_is_none}

module _ (config : Config) where
  pub history_at : (seats : List (Option Seat)) (number : ℕ) (seat : Seat) → HaveHistories config seats → slot_at seats number ≡ Some seat → HasHistory config seat.peer seat.session.value
  history_at [] number seat all e = absurd (cc)
  history_at (None ∷ seats) zero seat all e = absurd (cc)
  history_at (None ∷ seats) (suc number) seat all e = history_at seats number seat all e
  history_at (Some first ∷ seats) zero seat all e =
      let same : first ≡ seat = cc in
      subst (λ (s : Seat). HasHistory config s.peer s.session.value) same all.0
  history_at (Some first ∷ seats) (suc number) seat all e = history_at seats number seat all.1 e

  pub taken_histories : (seats : List (Option Seat)) (number : ℕ) → HaveHistories config seats → HaveHistories config (slice_set seats number None)
  taken_histories [] number all = all
  taken_histories (None ∷ seats) zero all = all
  taken_histories (None ∷ seats) (suc number) all = taken_histories seats number all
  taken_histories (Some first ∷ seats) zero all = all.1
  taken_histories (Some first ∷ seats) (suc number) all = (all.0, taken_histories seats number all.1)

  pub put_histories : (seats : List (Option Seat)) (number : ℕ) (seat : Seat) → HaveHistories config seats → HasHistory config seat.peer seat.session.value → HaveHistories config (slice_set seats number (Some seat))
  put_histories [] number seat all history = all
  put_histories (None ∷ seats) zero seat all history = (history, all)
  put_histories (None ∷ seats) (suc number) seat all history = put_histories seats number seat all history
  put_histories (Some first ∷ seats) zero seat all history = (history, all.1)
  put_histories (Some first ∷ seats) (suc number) seat all history = (all.0, put_histories seats number seat all.1 history)

  -- where a seat was taken out
  pub rest_has_histories : (seats rest : List (Option Seat)) (number : ℕ) → rest ≡ slice_set seats number None → HaveHistories config seats → HaveHistories config rest
  rest_has_histories seats rest number is all = subst (HaveHistories config) (sym is) (taken_histories seats number all)

  -- where one was put
  pub all_have_histories : (seats all : List (Option Seat)) (number : ℕ) (seat : Seat) → all ≡ slice_set seats number (Some seat) → HaveHistories config seats → HasHistory config seat.peer seat.session.value → HaveHistories config all
  all_have_histories seats all number seat is before history = subst (HaveHistories config) (sym is) (put_histories seats number seat before history)

  -- nothing was said on free seats
  pub free_histories : (seats : List (Option Seat)) → AreFree seats → HaveHistories config seats
  free_histories [] free = tt
  free_histories (None ∷ seats) free = free_histories seats free
  free_histories (Some seat ∷ seats) free = absurd free

  -- a session was put under its number
  pub says_at : (seats all : List (Option Seat)) (number : ℕ) (seat : Seat) (peer : List ℕ) (said : Said) → number < length seats → all ≡ slice_set seats number (Some seat) → seat.peer ≡ peer → SessionHasSaid (setup_for config peer) seat.session.value said → SeatHasSaid config all number peer said
  says_at seats all number seat peer said within is peer_is says = record {
    seat = seat;
    at = ap (λ (l : List (Option Seat)). slot_at l number) is ∙ get_or-set_same seats number (Some seat) None within;
    peer_is = peer_is;
    says = says;
  }

-- a node of these parts
abbrev pub standing_of : {D : Type 0} → Config → List (Option Seat) → List (Option Run) → Kept D → NodeState D
standing_of config seats attempts records = record { config = config; seats = seats; attempts = attempts; records = records }

-- a session that tells its caller to close has closed
has_closed : (setup : Setup) (session : Session) (said : Said) → Stands setup session said → next_of session ≡ next.Close → HasClosed setup said
has_closed setup session said stands told = record {
  dialogue = what_stands_is_a_dialogue setup session said stands;
  unread = λ octets. closed_is_a_dialogue setup session said octets stands (close_is_closed setup session said stands told);
}

-- a session without an open offer that doesn't close waits for more
waits_for_more : (session : Session) (told : Next) → next_of session ≡ told → (next_of session ≡ next.Close → ⊥) → open_offers session ≡ [] → next_of session ≡ next.More
waits_for_more session next.More is going settled = is
waits_for_more session next.Offer is going settled =
    let found = (offer_is_told session).0 is in
    absurd (none_open found.0 (sym settled ∙ found.1))
  where
    none_open : (offer : Offered) → [] ≡ offer ∷ [] → ⊥
    none_open offer e = cc
waits_for_more session next.Close is going settled = absurd (going is)

-- what goes on isn't closed
pub not_closed : true ≡ false → ⊥
not_closed e = cc

-- what stands in a place is one thing
one_some : (seat other : Seat) → Some seat ≡ Some other → seat ≡ other
one_some seat other e = cc

-- a session that was heard goes on, or has closed
module _ (config : Config) (number : ℕ) (new : Seat) (peer : List ℕ) (later : Said) (close : Bool) (peer_is : new.peer ≡ peer) (says : SessionHasSaid (setup_for config peer) new.session.value later)
    (closed : (close ≡ true) ↔ (next_of new.session.value ≡ next.Close)) where
  -- it was put back
  pub goes_on : (mid all : List (Option Seat)) → close ≡ false → number < length mid → all ≡ slice_set mid number (Some new) → SessionGoesOn config all number peer later close
  goes_on mid all going within set = subst (SessionGoesOn config all number peer later) (sym going) (says_at config mid all number new peer later within set peer_is says)

  -- and waits for more
  pub is_open : (mid all : List (Option Seat)) → close ≡ false → number < length mid → all ≡ slice_set mid number (Some new) → IsOpen all number
  is_open mid all going within set seat at =
      let here = ap (λ (l : List (Option Seat)). slot_at l number) set ∙ get_or-set_same mid number (Some new) None within in
      subst (λ (s : Seat). next_of s.session.value ≡ next.More) (one_some new seat (sym here ∙ at))
      (waits_for_more new.session.value (next_of new.session.value) refl (λ told. not_closed (sym (closed.1 told) ∙ going)) says.settled)

  -- it is gone
  pub has_gone : (old rest : List (Option Seat)) → close ≡ true → rest ≡ slice_set old number None → SessionGoesOn config rest number peer later close
  has_gone old rest is_last set =
      subst (SessionGoesOn config rest number peer later) (sym is_last)
      (ap (λ (l : List (Option Seat)). slot_at l number) set ∙ taken_is_none old number, has_closed (setup_for config peer) new.session.value later says.stands (closed.0 is_last))

-- the seat that was taken out is the session's
module _ (config : Config) (peer : List ℕ) (number : ℕ) (said : Said) (old : List (Option Seat)) (taken : Seat) (is : SeatHasSaid config old number peer said) (was : Some taken ≡ slot_at old number) where
  pub peer_of_taken : taken.peer ≡ peer
  peer_of_taken = ap (λ (s : Seat). s.peer) (one_some taken is.seat (was ∙ is.at)) ∙ is.peer_is

  pub taken_says : SessionHasSaid (setup_for config taken.peer) taken.session.value said
  taken_says =
      subst (λ (p : List ℕ). SessionHasSaid (setup_for config p) taken.session.value said) (sym peer_of_taken)
      (subst (λ (s : Seat). SessionHasSaid (setup_for config peer) s.session.value said) (sym (one_some taken is.seat (was ∙ is.at))) is.says)

  -- what comes to an offer of the seat's client comes to one of this client
  pub comes_there : (piece : List ℕ) → ComesToOffer (setup_for config taken.peer) said piece → ComesToOffer (setup_for config peer) said piece
  comes_there piece comes = subst (λ (p : List ℕ). ComesToOffer (setup_for config p) said piece) peer_of_taken comes

module _ {D : Type 0} (honest : Type 0) (words : DiskWords D) (config : Config) (changes : List Change) (peer : List ℕ) (at number : ℕ) (said : Said) (piece : List ℕ)
    (old : List (Option Seat)) (taken : Seat) (runs more : List (Option Run)) (is : SeatHasSaid config old number peer said) (was : Some taken ≡ slot_at old number)
    (new : Seat) (peer_kept : new.peer ≡ taken.peer) (before after : Kept D) (received : Received)
    (hears : SessionHasSaid (setup_for config taken.peer) taken.session.value said → Hears honest words config changes taken.peer at said piece new.session.value before after received) where
  heard : Hears honest words config changes peer at said piece new.session.value before after received
  heard =
      let peer_is = peer_of_taken config peer number said old taken is was in
      subst (λ p. Hears honest words config changes p at said piece new.session.value before after received) peer_is (hears (taken_says config peer number said old taken is was))

  new_peer : new.peer ≡ peer
  new_peer = peer_kept ∙ peer_of_taken config peer number said old taken is was

  -- the session was put back
  pub receives_on : (mid all : List (Option Seat)) → received.close ≡ false → number < length mid → all ≡ slice_set mid number (Some new)
      → Receives honest words config changes peer at number said piece (standing_of config old runs before) (standing_of config all more after) received
  receives_on mid all going within set = record {
    later = heard.later;
    goes_on = goes_on config number new peer heard.later received.close new_peer heard.says heard.closed mid all going within set;
    is_open = λ _. is_open config number new peer heard.later received.close new_peer heard.says heard.closed mid all going within set;
    talks = heard.talks;
  }

  -- the session has closed
  pub receives_last : (rest : List (Option Seat)) → received.close ≡ true → rest ≡ slice_set old number None
      → Receives honest words config changes peer at number said piece (standing_of config old runs before) (standing_of config rest more after) received
  receives_last rest is_last set = record {
    later = heard.later;
    goes_on = has_gone config number new peer heard.later received.close new_peer heard.says heard.closed old rest is_last set;
    is_open = λ going. absurd (not_closed (sym is_last ∙ going));
    talks = heard.talks;
  }

  -- the session was put back, unless it has closed
  pub receives_by : (close : Bool) → received.close ≡ close → (mid all : List (Option Seat)) → mid ≡ slice_set old number None → number < length mid → all ≡ (if close then mid else slice_set mid number (Some new))
      → Receives honest words config changes peer at number said piece (standing_of config old runs before) (standing_of config all more after) received
  receives_by true close_is mid all rest within put = receives_last all close_is (put ∙ rest)
  receives_by false close_is mid all rest within put = receives_on mid all close_is within put

-- what a stop cut short was the session's
pub cuts_there : {D : Type 0} (honest : Type 0) (words : DiskWords D) (config : Config) (changes : List Change) (peer : List ℕ) (at number : ℕ) (said : Said) (piece : List ℕ) (old : List (Option Seat)) (taken : Seat) (before after : Kept D)
    → SeatHasSaid config old number peer said → Some taken ≡ slot_at old number
    → (SessionHasSaid (setup_for config taken.peer) taken.session.value said → CutsTalk honest words config changes taken.peer at said piece before after) → CutsTalk honest words config changes peer at said piece before after
cuts_there honest words config changes peer at number said piece old taken before after is was cuts =
    subst (λ p. CutsTalk honest words config changes p at said piece before after) (peer_of_taken config peer number said old taken is was) (cuts (taken_says config peer number said old taken is was))
