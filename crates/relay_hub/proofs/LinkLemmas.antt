-- What a link of a thread has done, call by call.
use Rattle.std.proofs.Common.{◌≡◌, ◌≢◌, ◌≤◌, ◌-◌, ◌+◌, ◌⊎◌, inl, inr, ℕ, suc, List, [], ◌∷◌, ◌++◌, length, Bool, true, false, Option, Result, Ok, Err, IsErrAnd, refl, sym, ap, ◌∙◌, subst, append_assoc, append-nil, take, drop, take-append-drop, arith}
use Rattle.std.proofs.lemmas.List.{drop-drop, length-append}
use Rattle.std.specs.List.{slice_range}
use Rattle.std.specs.Io.KnownBytes.{Appends, Consumes, IsAtEnd, Keeps as Known}
use Rattle.std.proofs.KnownBytes.{Appends-nil, Appends-trans, Consumes-nil, Consumes-trans, Consumes-kept}
use Rattle.relay_routes.specs.declared.config.Config.{Config}
use Rattle.relay_server.specs.declared.offer.Answer.{Answer}
use Rattle.relay_server.specs.declared.offer.Answer.TheVariants.{Queued, Full}
use Rattle.relay_server.specs.declared.session.Next.TheVariants as next
use Rattle.relay_server.specs.declared.session.Session.{Session}
use Rattle.relay_server.specs.Dialogue.{Offered, Said, greeted_only, offered_by, unread_after}
use Rattle.relay_server.specs.Session.{Answered, Hears, IsClosed, Stands, offers_since, open_offers}
use Rattle.relay_server.specs.Setup.{setup_for}
use Rattle.relay_server.specs.State.{start as first_state}
use Rattle.relay_server.specs.Unit.{IsUnit}
use Rattle.relay_server.proofs.Theorems.{closed_is_a_dialogue, no_unit_is_empty, offers_are_answered, what_stands_is_a_dialogue}
use Rattle.relay_records.specs.declared.fault.NodeFault.{NodeFault}
use Rattle.relay_records.specs.declared.fault.NodeFault.TheVariants as node_fault
use Rattle.relay_links.specs.declared.fault.LinkFault.{LinkFault}
use Rattle.relay_links.specs.declared.fault.LinkFault.TheVariants.{Input, Output, NoMemory, Full as NoNumber, Device}
use Rattle.relay_links.specs.Link.{link_fault_of}
use Rattle.relay_hub.specs.declared.receipt.Receipt.{Receipt}
use Rattle.relay_hub.specs.Admission.{IsOfAdmission, IsReceiptOf, Notes}
use Rattle.relay_hub.specs.Link.{AreNoted, AreOfHub, GoesOn, HasBegun, HasEnded, HasGone, HasNoted, HasSaid, HasServed, IsOfHub, IsRefusal, LinkStart, link_start}

pub more_is_no_offer : next.More ≡ next.Offer → ⊥
more_is_no_offer e = cc

pub close_is_no_offer : next.Close ≡ next.Offer → ⊥
close_is_no_offer e = cc

-- a read that gave nothing
pub read_nothing : (left new_left : Option (List ℕ)) → Known left new_left → Consumes left new_left []
read_nothing left new_left kept = Consumes-kept left left new_left [] (Consumes-nil left) kept

pub read_none : (left new_left : Option (List ℕ)) (buffer : List ℕ) (count : ℕ) → Consumes left new_left (take count buffer) → count ≡ 0 → Consumes left new_left []
read_none left new_left buffer count read none = subst (λ n. Consumes left new_left (take n buffer)) none read

-- octets after those that are used: the next of them, and what is after those
pub next_of_rest : (octets : List ℕ) (from to : ℕ) → from ≤ to → drop from octets ≡ slice_range octets from to ++ drop to octets
next_of_rest octets from to within =
    let sum : from + (to - from) ≡ to = omega (arith, within) in
    sym (take-append-drop (to - from) (drop from octets)) ∙ ap (λ l. slice_range octets from to ++ l) (drop-drop (to - from) from octets ∙ ap (λ n. drop n octets) sum)

-- the hub didn't take an offer, and the link ends by that
pub refusal_of : (fault : NodeFault) (given : LinkFault) → IsOfAdmission fault → given ≡ link_fault_of fault → IsRefusal given
refusal_of fault given of_hub is = subst IsRefusal (sym is) (by_fault fault of_hub)
  where
    by_fault : (fault : NodeFault) → IsOfAdmission fault → IsRefusal (link_fault_of fault)
    by_fault node_fault.NoMemory of_hub = tt
    by_fault node_fault.Stopped of_hub = tt
    by_fault node_fault.Full of_hub = tt
    by_fault node_fault.Unknown of_hub = absurd of_hub
    by_fault node_fault.TooMany of_hub = absurd of_hub
    by_fault node_fault.NotDue of_hub = absurd of_hub
    by_fault node_fault.Busy of_hub = absurd of_hub
    by_fault node_fault.NoSecond of_hub = absurd of_hub
    by_fault (node_fault.Open cause) of_hub = absurd of_hub

one_less : {A B : Type 0} (x : A) (xs : List A) (y : B) (ys : List B) → length (x ∷ xs) ≡ length (y ∷ ys) → length xs ≡ length ys
one_less x xs y ys same = omega (arith, same)

module _ (given : Offered → Answer → Type 0) where
  -- offers without an answer leave the others
  of_hub_before : (answers : List Answer) (offers more : List Offered) → AreOfHub given answers offers → AreOfHub given answers (offers ++ more)
  of_hub_before [] offers more all = tt
  of_hub_before (answer ∷ answers) [] more all = absurd all
  of_hub_before (answer ∷ answers) (offer ∷ offers) more all = (all.0, of_hub_before answers offers more all.1)

  -- the offer after those that have an answer has one too
  of_hub_more : (answers : List Answer) (front : List Offered) (answer : Answer) (offer : Offered) → length front ≡ length answers → AreOfHub given answers (front ++ offer ∷ []) → given offer answer → AreOfHub given (answers ++ answer ∷ []) (front ++ offer ∷ [])
  of_hub_more [] [] answer offer same all one = (one, tt)
  of_hub_more [] (first ∷ front) answer offer same all one = absurd (omega (arith, same))
  of_hub_more (other ∷ answers) [] answer offer same all one = absurd (omega (arith, same))
  of_hub_more (other ∷ answers) (first ∷ front) answer offer same all one = (all.0, of_hub_more answers front answer offer (one_less first front other answers same) all.1 one)

module _ (peer : List ℕ) (at : ℕ) where
  -- offers without an answer leave the receipts
  noted_before : (answers : List Answer) (offers more : List Offered) (receipts : List Receipt) → AreNoted peer at answers offers receipts → AreNoted peer at answers (offers ++ more) receipts
  noted_before [] offers more [] noted = tt
  noted_before [] offers more (receipt ∷ receipts) noted = absurd noted
  noted_before (Full ∷ answers) [] more receipts noted = absurd noted
  noted_before (Queued number ∷ answers) [] more receipts noted = absurd noted
  noted_before (Full ∷ answers) (offer ∷ offers) more receipts noted = noted_before answers offers more receipts noted
  noted_before (Queued number ∷ answers) (offer ∷ offers) more [] noted = absurd noted
  noted_before (Queued number ∷ answers) (offer ∷ offers) more (receipt ∷ receipts) noted = (noted.0, noted_before answers offers more receipts noted.1)

  -- the offer after those that have an answer was refused
  noted_full : (answers : List Answer) (front : List Offered) (offer : Offered) (receipts : List Receipt) → length front ≡ length answers → AreNoted peer at answers (front ++ offer ∷ []) receipts → AreNoted peer at (answers ++ Full ∷ []) (front ++ offer ∷ []) receipts
  noted_full [] [] offer [] same noted = tt
  noted_full [] [] offer (receipt ∷ receipts) same noted = absurd noted
  noted_full [] (first ∷ front) offer receipts same noted = absurd (omega (arith, same))
  noted_full (answer ∷ answers) [] offer receipts same noted = absurd (omega (arith, same))
  noted_full (Full ∷ answers) (first ∷ front) offer receipts same noted = noted_full answers front offer receipts (one_less first front Full answers same) noted
  noted_full (Queued number ∷ answers) (first ∷ front) offer [] same noted = absurd noted
  noted_full (Queued number ∷ answers) (first ∷ front) offer (receipt ∷ receipts) same noted =
      (noted.0, noted_full answers front offer receipts (one_less first front (Queued number) answers same) noted.1)

  -- it was queued
  noted_queued : (answers : List Answer) (front : List Offered) (offer : Offered) (number : ℕ) (receipts : List Receipt) (last : Receipt) → length front ≡ length answers → AreNoted peer at answers (front ++ offer ∷ []) receipts → IsReceiptOf offer peer at number last
      → AreNoted peer at (answers ++ Queued number ∷ []) (front ++ offer ∷ []) (receipts ++ last ∷ [])
  noted_queued [] [] offer number [] last same noted is = (is, tt)
  noted_queued [] [] offer number (receipt ∷ receipts) last same noted is = absurd noted
  noted_queued [] (first ∷ front) offer number receipts last same noted is = absurd (omega (arith, same))
  noted_queued (answer ∷ answers) [] offer number receipts last same noted is = absurd (omega (arith, same))
  noted_queued (Full ∷ answers) (first ∷ front) offer number receipts last same noted is = noted_queued answers front offer number receipts last (one_less first front Full answers same) noted is
  noted_queued (Queued other ∷ answers) (first ∷ front) offer number [] last same noted is = absurd noted
  noted_queued (Queued other ∷ answers) (first ∷ front) offer number (receipt ∷ receipts) last same noted is =
      (noted.0, noted_queued answers front offer number receipts last (one_less first front (Queued other) answers same) noted.1 is)

module _ (has_answered : List ℕ → ℕ → Offered → Answer → Type 0) (config : Config) (peer : List ℕ) (at : ℕ) (start : LinkStart) where
  -- one answer more, of the offer after those that have theirs
  noted_more : (answers : List Answer) (front : List Offered) (offer : Offered) (given : Answer) (receipts new : List Receipt) → length front ≡ length answers → HasNoted has_answered config peer at start (front ++ offer ∷ []) answers receipts → Notes offer peer at receipts given new → has_answered peer at offer given
      → HasNoted has_answered config peer at start (front ++ offer ∷ []) (answers ++ given ∷ []) new
  noted_more answers front offer Full receipts new same h notes by_hub = record {
    of_hub = of_hub_more (has_answered peer at) answers front Full offer same h.of_hub by_hub;
    added = h.added;
    noted = noted_full peer at answers front offer h.added same h.noted;
    receipts_are = notes ∙ h.receipts_are;
  }
  noted_more answers front offer (Queued number) receipts new same h notes by_hub = record {
    of_hub = of_hub_more (has_answered peer at) answers front (Queued number) offer same h.of_hub by_hub;
    added = h.added ++ notes.0 ∷ [];
    noted = noted_queued peer at answers front offer number h.added notes.0 same h.noted notes.1;
    receipts_are = notes.2 ∙ ap (λ l. l ++ notes.0 ∷ []) h.receipts_are ∙ append_assoc start.receipts h.added (notes.0 ∷ []);
  }

  as_told : (offers : List Offered) (answers : List Answer) (receipts : List Receipt) → HasNoted has_answered config peer at start offers answers receipts → HasNoted has_answered config peer at start offers (answers ++ []) receipts
  as_told offers answers receipts h = subst (λ (l : List Answer). HasNoted has_answered config peer at start offers l receipts) (sym (append-nil answers)) h

  -- of a session with an open offer that is the one without an answer
  one_unanswered : (session : Session) (said : Said) (offer : Offered) → Stands (setup_for config peer) session said → open_offers session ≡ offer ∷ [] → length said.offers ≡ suc (length said.answers)
  one_unanswered session said offer s is_open =
      let all = offers_are_answered (setup_for config peer) session said s in
      let one = ap length is_open in
      omega (arith, all, one)

  all_answered : (session : Session) (said : Said) → Stands (setup_for config peer) session said → open_offers session ≡ [] → length said.offers ≡ length said.answers
  all_answered session said s none =
      let all = offers_are_answered (setup_for config peer) session said s in
      let zero_open = ap length none in
      omega (arith, all, zero_open)

  -- the open offer has an answer of the hub
  noted_by_hub : (session : Session) (said : Said) (offer : Offered) (given : Answer) (receipts new : List Receipt) → Stands (setup_for config peer) session said → open_offers session ≡ offer ∷ [] → HasNoted has_answered config peer at start said.offers said.answers receipts → Notes offer peer at receipts given new
      → has_answered peer at offer given → HasNoted has_answered config peer at start said.offers (said.answers ++ given ∷ []) new
  noted_by_hub session said offer given receipts new s is_open h notes by_hub =
      let front = offered_by s.turns in
      let parts : said.offers ≡ front ++ offer ∷ [] = s.offers ∙ ap (λ l. front ++ l) is_open in
      let count = one_unanswered session said offer s is_open in
      let long = ap length parts ∙ length-append front (offer ∷ []) in
      subst (λ (l : List Offered). HasNoted has_answered config peer at start l (said.answers ++ given ∷ []) new) (sym parts)
      (noted_more said.answers front offer given receipts new (omega (arith, count, long)) (subst (λ (l : List Offered). HasNoted has_answered config peer at start l said.answers receipts) parts h) notes by_hub)

  -- what was said, written after what was written before
  said_more : (said written all before out after : List ℕ) → all ≡ said ++ written → said ≡ before ++ out → after ≡ out ++ written → all ≡ before ++ after
  said_more said written all before out after more was is = more ∙ ap (λ l. l ++ written) was ∙ append_assoc before out written ∙ ap (λ l. before ++ l) (sym is)

  -- an offer came that has no answer yet, or none
  noted_still : (said later : Said) (more : List Offered) (receipts : List Receipt) → later.answers ≡ said.answers → later.offers ≡ said.offers ++ more → HasNoted has_answered config peer at start said.offers said.answers receipts → HasNoted has_answered config peer at start later.offers later.answers receipts
  noted_still said later more receipts same_answers more_offers h =
      subst (λ (l : List Answer). HasNoted has_answered config peer at start later.offers l receipts) (sym same_answers)
      (subst (λ (l : List Offered). HasNoted has_answered config peer at start l said.answers receipts) (sym more_offers) (record {
        of_hub = of_hub_before (has_answered peer at) said.answers said.offers more h.of_hub;
        added = h.added;
        noted = noted_before peer at said.answers said.offers more h.added h.noted;
        receipts_are = h.receipts_are;
      }))

  -- octets that waited were heard
  pub heard : (old new : Session) (left held : Option (List ℕ)) (octets : List ℕ) (from to : ℕ) (out new_out : List ℕ) (receipts : List Receipt) → from ≤ to → HasSaid has_answered config peer at start old left held (drop from octets) out receipts
      → ((said : Said) → Stands (setup_for config peer) old said → Hears (setup_for config peer) said old new (slice_range octets from to) out new_out) → HasSaid has_answered config peer at start new left held (drop to octets) new_out receipts
  heard old new left held octets from to out new_out receipts within h hears =
      let x = hears h.said h.stands in
      record {
        said = x.later;
        stands = x.stands;
        read =
            subst (Consumes start.left left)
            (ap (λ l. h.said.input ++ l) (next_of_rest octets from to within) ∙ sym (append_assoc h.said.input (slice_range octets from to) (drop to octets)) ∙ ap (λ l. l ++ drop to octets) (sym x.more.input)) h.read;
        before = h.before;
        output = said_more h.said.output x.more.written x.later.output h.before out new_out x.more.output h.output x.more.out;
        written = h.written;
        noted = noted_still h.said x.later (offers_since old new) receipts x.answers x.offers h.noted;
      }

  -- the open offer has its answer
  pub answered : (old new : Session) (left held : Option (List ℕ)) (waiting out new_out : List ℕ) (receipts new_receipts : List Receipt) (offer : Offered) (given : Answer) → open_offers old ≡ offer ∷ [] → HasSaid has_answered config peer at start old left held waiting out receipts
      → ((said : Said) → Stands (setup_for config peer) old said → Answered (setup_for config peer) said new given out new_out) → Notes offer peer at receipts given new_receipts → has_answered peer at offer given → HasSaid has_answered config peer at start new left held waiting new_out new_receipts
  answered old new left held waiting out new_out receipts new_receipts offer given is_open h answers notes by_hub =
      let x = answers h.said h.stands in
      let hub = noted_by_hub old h.said offer given receipts new_receipts h.stands is_open h.noted notes by_hub in
      record {
        said = x.later;
        stands = x.stands;
        read = subst (λ l. Consumes start.left left (l ++ waiting)) (sym (x.more.input ∙ append-nil h.said.input)) h.read;
        before = h.before;
        output = said_more h.said.output x.more.written x.later.output h.before out new_out x.more.output h.output x.more.out;
        written = h.written;
        noted =
            subst (λ (l : List Offered). HasNoted has_answered config peer at start l x.later.answers new_receipts) (sym x.offers)
            (subst (λ (l : List Answer). HasNoted has_answered config peer at start h.said.offers l new_receipts) (sym x.answers) hub);
      }

  -- what was said is a dialogue, of which these octets weren't written
  pub breaks : (session : Session) (left held : Option (List ℕ)) (waiting out : List ℕ) (receipts : List Receipt) (fault : LinkFault) → HasSaid has_answered config peer at start session left held waiting out receipts → (fault ≡ Input → out ≡ []) → (IsOfHub fault → (offer : Offered) × (open_offers session ≡ offer ∷ []))
      → HasBegun has_answered config peer at start left held receipts fault
  breaks session left held waiting out receipts fault h whole is_open = record {
    said = h.said;
    dialogue = what_stands_is_a_dialogue (setup_for config peer) session h.said h.stands;
    unread = waiting;
    read = h.read;
    front = h.before;
    unwritten = out;
    output = h.output;
    whole = whole;
    written = h.written;
    unanswered = λ of_hub. let one = is_open of_hub in one_unanswered session h.said one.0 h.stands one.1;
    untold = [];
    told = λ _. refl;
    noted = as_told h.said.offers h.said.answers receipts h.noted;
  }

  -- a fault of the link's own
  pub breaks_off : (session : Session) (left held : Option (List ℕ)) (waiting out : List ℕ) (receipts : List Receipt) (fault : LinkFault) → HasSaid has_answered config peer at start session left held waiting out receipts → (fault ≡ NoMemory) ⊎ ((fault ≡ Input) × (out ≡ []))
      → HasBegun has_answered config peer at start left held receipts fault
  breaks_off session left held waiting out receipts fault h why = by_cause why
    where
      not_input : (fault : LinkFault) → fault ≡ NoMemory → fault ≡ Input → ⊥
      not_input fault memory input = cc

      not_memory : (fault : LinkFault) → fault ≡ NoMemory → IsOfHub fault → ⊥
      not_memory fault memory (inl device) = cc
      not_memory fault memory (inr number) = cc

      not_of_input : (fault : LinkFault) → fault ≡ Input → IsOfHub fault → ⊥
      not_of_input fault input (inl device) = cc
      not_of_input fault input (inr number) = cc

      by_cause : (fault ≡ NoMemory) ⊎ ((fault ≡ Input) × (out ≡ [])) → HasBegun has_answered config peer at start left held receipts fault
      by_cause (inl memory) = breaks session left held waiting out receipts fault h (λ input. absurd (not_input fault memory input)) (λ hub. absurd (not_memory fault memory hub))
      by_cause (inr input) = breaks session left held waiting out receipts fault h (λ _. input.1) (λ hub. absurd (not_of_input fault input.0 hub))

  -- the hub didn't take the open offer
  refused : (session : Session) (left held : Option (List ℕ)) (waiting out : List ℕ) (receipts : List Receipt) (offer : Offered) (fault : LinkFault) → open_offers session ≡ offer ∷ [] → HasSaid has_answered config peer at start session left held waiting out receipts → IsRefusal fault
      → HasBegun has_answered config peer at start left held receipts fault
  refused session left held waiting out receipts offer NoMemory is_open h is = breaks session left held waiting out receipts NoMemory h (λ e. absurd cc) (λ _. (offer, is_open))
  refused session left held waiting out receipts offer Device is_open h is = breaks session left held waiting out receipts Device h (λ e. absurd cc) (λ _. (offer, is_open))
  refused session left held waiting out receipts offer NoNumber is_open h is = breaks session left held waiting out receipts NoNumber h (λ e. absurd cc) (λ _. (offer, is_open))
  refused session left held waiting out receipts offer Input is_open h is = absurd is
  refused session left held waiting out receipts offer Output is_open h is = absurd is

  pub refused_same : (session : Session) (left held : Option (List ℕ)) (waiting out : List ℕ) (receipts new_receipts : List Receipt) (offer : Offered) (fault : LinkFault) → open_offers session ≡ offer ∷ [] → HasSaid has_answered config peer at start session left held waiting out receipts → new_receipts ≡ receipts
      → IsRefusal fault → HasBegun has_answered config peer at start left held new_receipts fault
  refused_same session left held waiting out receipts new_receipts offer fault is_open h same is =
      subst (λ (l : List Receipt). HasBegun has_answered config peer at start left held l fault) (sym same) (refused session left held waiting out receipts offer fault is_open h is)

  -- memory ran out after the hub's answer
  pub untold : (session : Session) (left held : Option (List ℕ)) (waiting out : List ℕ) (receipts new_receipts : List Receipt) (offer : Offered) (given : Answer) → open_offers session ≡ offer ∷ [] → HasSaid has_answered config peer at start session left held waiting out receipts → Notes offer peer at receipts given new_receipts
      → has_answered peer at offer given → HasBegun has_answered config peer at start left held new_receipts NoMemory
  untold session left held waiting out receipts new_receipts offer given is_open h notes by_hub = record {
    said = h.said;
    dialogue = what_stands_is_a_dialogue (setup_for config peer) session h.said h.stands;
    unread = waiting;
    read = h.read;
    front = h.before;
    unwritten = out;
    output = h.output;
    whole = λ e. absurd cc;
    written = h.written;
    unanswered = λ _. one_unanswered session h.said offer h.stands is_open;
    untold = given ∷ [];
    told = λ other. absurd (other refl);
    noted = noted_by_hub session h.said offer given receipts new_receipts h.stands is_open h.noted notes by_hub;
  }

  -- the replies are written
  pub sent : (session : Session) (left held new_held : Option (List ℕ)) (waiting out : List ℕ) (receipts : List Receipt) → HasSaid has_answered config peer at start session left held waiting out receipts → Appends held new_held out → HasSaid has_answered config peer at start session left new_held waiting [] receipts
  sent session left held new_held waiting out receipts h wrote = record {
    said = h.said;
    stands = h.stands;
    read = h.read;
    before = h.before ++ out;
    output = h.output ∙ sym (append-nil (h.before ++ out));
    written = Appends-trans start.held held new_held h.before out h.written wrote;
    noted = h.noted;
  }

  -- the replies were written in part
  pub cut_off : (session : Session) (left held new_held : Option (List ℕ)) (waiting out : List ℕ) (receipts : List Receipt) → HasSaid has_answered config peer at start session left held waiting out receipts → (front rest : List ℕ) → out ≡ front ++ rest → Appends held new_held front
      → HasBegun has_answered config peer at start left new_held receipts Output
  cut_off session left held new_held waiting out receipts h front rest parts wrote = record {
    said = h.said;
    dialogue = what_stands_is_a_dialogue (setup_for config peer) session h.said h.stands;
    unread = waiting;
    read = h.read;
    front = h.before ++ front;
    unwritten = rest;
    output = h.output ∙ ap (λ l. h.before ++ l) parts ∙ sym (append_assoc h.before front rest);
    whole = λ e. absurd cc;
    written = Appends-trans start.held held new_held h.before front h.written wrote;
    unanswered = λ of_hub. absurd (not_output of_hub);
    untold = [];
    told = λ _. refl;
    noted = as_told h.said.offers h.said.answers receipts h.noted;
  }
    where
      not_output : IsOfHub Output → ⊥
      not_output (inl device) = cc
      not_output (inr number) = cc

  -- the session has closed; octets after the close belong to the rest of the dialogue
  pub closes : (session : Session) (left held : Option (List ℕ)) (waiting : List ℕ) (receipts : List Receipt) → HasSaid has_answered config peer at start session left held waiting [] receipts → IsClosed session → open_offers session ≡ [] → HasServed has_answered config peer at start left held receipts
  closes session left held waiting receipts h closed none =
      let end = closed_is_a_dialogue (setup_for config peer) session h.said waiting h.stands closed in
      record {
        said = unread_after h.said waiting;
        dialogue = end.0;
        read = h.read;
        written = subst (Appends start.held held) (sym (h.output ∙ append-nil h.before)) h.written;
        ended = inl end.1;
        answered = all_answered session h.said h.stands none;
        noted = record { of_hub = h.noted.of_hub; added = h.noted.added; noted = h.noted.noted; receipts_are = h.noted.receipts_are };
      }

  -- a fault that is handed on
  pub ended_by : (left held : Option (List ℕ)) (receipts : List Receipt) (fault : LinkFault) (result : Result (Unit {0}) LinkFault) → IsErrAnd result (λ given. given ≡ fault) → HasBegun has_answered config peer at start left held receipts fault → HasEnded has_answered config peer at start left held receipts result
  ended_by left held receipts fault (Ok done) never begun = absurd never
  ended_by left held receipts fault (Err given) is begun = subst (λ (f : LinkFault). HasBegun has_answered config peer at start left held receipts f) (sym is) begun

  pub gone_by : (session : Session) (left held : Option (List ℕ)) (waiting : List ℕ) (receipts : List Receipt) (fault : LinkFault) (result : Result Bool LinkFault) → IsErrAnd result (λ given. given ≡ fault) → HasBegun has_answered config peer at start left held receipts fault → HasGone has_answered config peer at start session left held waiting receipts result
  gone_by session left held waiting receipts fault (Ok is_last) never begun = absurd never
  gone_by session left held waiting receipts fault (Err given) is begun = subst (λ (f : LinkFault). HasBegun has_answered config peer at start left held receipts f) (sym is) begun

  -- the link goes on, or has closed
  pub goes_on : (session : Session) (left held : Option (List ℕ)) (waiting : List ℕ) (receipts : List Receipt) (is_last : Bool) → HasSaid has_answered config peer at start session left held waiting [] receipts → (is_last ≡ true → IsClosed session) → open_offers session ≡ []
      → GoesOn has_answered config peer at start session left held waiting receipts is_last
  goes_on session left held waiting receipts true h closed none = closes session left held waiting receipts h (closed refl) none
  goes_on session left held waiting receipts false h closed none = h

  -- octets were read, which wait
  pub reads : (session : Session) (left new_left held : Option (List ℕ)) (octets : List ℕ) (receipts : List Receipt) → HasSaid has_answered config peer at start session left held [] [] receipts → Consumes left new_left octets → HasSaid has_answered config peer at start session new_left held octets [] receipts
  reads session left new_left held octets receipts h read = record {
    said = h.said;
    stands = h.stands;
    read =
        subst (Consumes start.left new_left) (ap (λ l. l ++ octets) (append-nil h.said.input))
        (Consumes-trans start.left left new_left (h.said.input ++ []) octets h.read read);
    before = h.before;
    output = h.output;
    written = h.written;
    noted = h.noted;
  }

  -- the input has come to its end
  pub ends : (session : Session) (left new_left held : Option (List ℕ)) (receipts : List Receipt) → HasSaid has_answered config peer at start session left held [] [] receipts → open_offers session ≡ [] → Consumes left new_left [] → IsAtEnd new_left → HasServed has_answered config peer at start new_left held receipts
  ends session left new_left held receipts h none read end = record {
    said = h.said;
    dialogue = what_stands_is_a_dialogue (setup_for config peer) session h.said h.stands;
    read =
        subst (Consumes start.left new_left) (append-nil (h.said.input ++ []) ∙ append-nil h.said.input)
        (Consumes-trans start.left left new_left (h.said.input ++ []) [] h.read read);
    written = subst (Appends start.held held) (sym (h.output ∙ append-nil h.before)) h.written;
    ended = inr end;
    answered = all_answered session h.said h.stands none;
    noted = h.noted;
  }

module _ (has_answered : List ℕ → ℕ → Offered → Answer → Type 0) (config : Config) (peer : List ℕ) (at : ℕ) (left held : Option (List ℕ)) (receipts : List Receipt) where
  nothing_noted : (offers : List Offered) → HasNoted has_answered config peer at (link_start left held receipts) offers [] receipts
  nothing_noted offers = record { of_hub = tt; added = []; noted = tt; receipts_are = sym (append-nil receipts) }

  -- there was no memory for a session
  pub not_begun : HasBegun has_answered config peer at (link_start left held receipts) left held receipts NoMemory
  not_begun = record {
    said = greeted_only config.host;
    dialogue = record {
      turns = [];
      state = first_state;
      rest = [];
      unanswered = [];
      runs = refl;
      input = refl;
      output = sym (append-nil (greeted_only config.host).output);
      answers = refl;
      offers = refl;
      left = inl (no_unit, refl);
    };
    unread = [];
    read = Consumes-nil left;
    front = [];
    unwritten = (greeted_only config.host).output;
    output = refl;
    whole = λ e. absurd cc;
    written = Appends-nil held;
    unanswered = λ of_hub. absurd (not_memory of_hub);
    untold = [];
    told = λ _. refl;
    noted = nothing_noted [];
  }
    where
      empty_front : (unit rest : List ℕ) → [] ≡ unit ++ rest → unit ≡ []
      empty_front [] rest same = refl
      empty_front (octet ∷ unit) rest same = absurd cc

      no_unit : (unit rest : List ℕ) → IsUnit first_state unit → [] ≢ unit ++ rest
      no_unit unit rest is same = no_unit_is_empty first_state unit is (empty_front unit rest same)

      not_memory : IsOfHub NoMemory → ⊥
      not_memory (inl device) = cc
      not_memory (inr number) = cc

  -- the session is there, and its greeting is to be written
  pub greeted : (session : Session) (greeting : List ℕ) → Stands (setup_for config peer) session (record { input = []; answers = []; output = greeting; offers = [] })
      → HasSaid has_answered config peer at (link_start left held receipts) session left held [] greeting receipts
  greeted session greeting stands = record {
    said = record { input = []; answers = []; output = greeting; offers = [] };
    stands = stands;
    read = Consumes-nil left;
    before = [];
    output = refl;
    written = Appends-nil held;
    noted = nothing_noted [];
  }
