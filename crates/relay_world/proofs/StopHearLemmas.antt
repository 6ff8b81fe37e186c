-- A node that stops while it adds the accept of what it heard keeps a world bound.
use Rattle.std.proofs.Common.{◌≡◌, ◌≤◌, ◌+◌, ℕ, true, List, [], ◌∷◌, ◌++◌, length, map, take, None, Some, refl, sym, subst, ap, ◌∙◌, cond, arith}
use Rattle.std.specs.Prelude.{slice_get}
use Rattle.std.specs.List.{AllByRecursion}
use Rattle.std.proofs.Math.Numerals.{add-one}
use Rattle.std.proofs.lemmas.Bool.{false≢true}
use Rattle.std.proofs.lemmas.List.{append_assoc, map-append}
use Rattle.std.proofs.lemmas.Option.{none-some, same_Some}
use Rattle.relay_octets.specs.Beginning.{Begins}
use Rattle.relay_disk.specs.Device.{DiskWords}
use Rattle.relay_server.specs.declared.offer.Answer.TheVariants.{Queued}
use Rattle.relay_server.specs.Dialogue.{IsDialogue, Offered}
use Rattle.relay_server.specs.DialogueLaws.{AreNumbered}
use Rattle.relay_server.specs.Setup.{setup_for}
use Rattle.relay_routes.specs.declared.config.Config.{Config}
use Rattle.relay_book.specs.declared.change.Change.{Change}
use Rattle.relay_book.specs.declared.change.Change.TheVariants as change
use Rattle.relay_book.specs.Marks.{change_at}
use Rattle.relay_node.specs.Acceptance.{IsAcceptOf, acceptance_by}
use Rattle.relay_node.specs.Node.{CutsTalk, SeatHasSaid, NodeState}
use Rattle.relay_node.specs.Queued.{queued_in}
use Rattle.relay_node.proofs.Theorems.{queued_grows}
use Rattle.relay_world.specs.declared.line.Line.{Line}
use Rattle.relay_world.specs.declared.link.Link.{Link}
use Rattle.relay_world.specs.declared.link.ServerEnd.{ServerEnd}
use Rattle.relay_world.specs.Bound.{HasSession, HostKeeps, IsBound, IsServed, IsStored, IsStoredAs, IsTried, MayBeHeard, MayBeIn, NodeKeeps, SaysThere, ServesLink, StandsAt, link_of}
use Rattle.relay_world.specs.Ledger.{accepts_on, lines_by, steps_in}
use Rattle.relay_world.specs.Steps.{waiting_up}
use Rattle.relay_world.specs.Stops.{StoppingHearingKeeps, StopsHearing, cut_off_link}
use Rattle.relay_world.specs.World.{Down, FromClient, Host, Undecided, World}
use Rattle.relay_world.proofs.CutLemmas.{LinkMoves, link_moved, link_moved_so, passes_cut, still_there}
use Rattle.relay_world.proofs.ClosingLemmas.{may_be_over, wrote_open}
use Rattle.relay_world.proofs.DownLemmas.{Notes, accept_steps, down_halted, fits_more, notes, same_undecided}
use Rattle.relay_world.proofs.FrameLemmas.{accepts_on_more, changes_stay, get_last, stored_on}
use Rattle.relay_world.proofs.MoveLemmas.{Settled, same_attempts, still_tried}
use Rattle.relay_world.proofs.OpenLemmas.{lines_within, list_there, node_kept, same_Up}
use Rattle.relay_world.proofs.PieceLemmas.{all_append, read_more, read_within, same_number, still_answered, still_numbered}
use Rattle.relay_world.proofs.UndecidedLemmas.{serves_as}

-- an accept, as the ledger tells of it
abbrev accept_told : ℕ × Offered → ℕ × ℕ
accept_told one = (one.0, length one.1.envelope.recipients)

module _ {D : Type 0} (honest : Type 0) (words : DiskWords D) (old new : World D) (lists : List (List Change)) (number count : ℕ)
    (bound : IsBound honest words old lists) (stops : StopsHearing honest words old new number count) where
  listed : (list : List Change) × (slice_get lists stops.of.end.node ≡ Some list)
  listed = list_there old.hosts lists stops.of.end.node stops.of.host bound.even stops.of.host_at

  stands : StandsAt old lists stops.of.end.node stops.of.host listed.0
  stands = record { host_at = stops.of.host_at; list_at = listed.1 }

  kept : HostKeeps honest words stops.of.host listed.0
  kept = bound.hosts stops.of.end.node stops.of.host listed.0 stands

  its_node : NodeKeeps honest words stops.of.host.config stops.of.before listed.0
  its_node = node_kept honest words stops.of.host listed.0 stops.of.before kept stops.of.up

  was_served : IsServed old lists number stops.of.link stops.of.end
  was_served = bound.servers number stops.of.link stops.of.end stops.of.link_is stops.of.serves

  was : ServesLink stops.of.host listed.0 old.ledger number stops.of.link stops.of.end
  was = subst (λ l. ServesLink stops.of.host l old.ledger number stops.of.link stops.of.end)
      (same_Some was_served.changes listed.0 (sym was_served.stands.list_at ∙ listed.1))
      (subst (λ h. ServesLink h was_served.changes old.ledger number stops.of.link stops.of.end)
      (same_Some was_served.host stops.of.host (sym was_served.stands.host_at ∙ stops.of.host_at)) was_served.serves)

  live_before : SaysThere stops.of.host (Some stops.of.session) stops.of.end.peer was.said
  live_before = subst (λ s. SaysThere stops.of.host s stops.of.end.peer was.said) stops.of.goes_on was.live

  says_before : SeatHasSaid stops.of.before.config stops.of.before.seats stops.of.session stops.of.end.peer was.said
  says_before =
      subst (λ (n : NodeState D). SeatHasSaid stops.of.before.config n.seats stops.of.session stops.of.end.peer was.said)
      (same_Up live_before.0 stops.of.before (sym live_before.1 ∙ stops.of.up))
      (subst (λ c. SeatHasSaid c live_before.0.seats stops.of.session stops.of.end.peer was.said) (sym its_node.config_is)
      live_before.2)

  talk : CutsTalk honest words stops.of.before.config listed.0 stops.of.end.peer old.clock was.said
      (waiting_up count stops.of.link) stops.of.before.records stops.stopped
  talk = stops.cuts listed.0 was.said its_node.keeps says_before

  abbrev added : Change
  added = change.Accept talk.accept

  abbrev grown : List Change
  grown = listed.0 ++ added ∷ []

  told : Notes stops.noted listed.0 added talk.used
  told = notes stops.stopped.noted stops.noted listed.0 added talk.used stops.note_is talk.cuts.noted

  abbrev end_now : ServerEnd
  end_now = record stops.of.end { session = None }

  abbrev link_now : Link
  link_now = cut_off_link stops.of.link stops.of.end

  abbrev read_to : ℕ
  read_to = stops.of.link.up_read + stops.noted.used

  abbrev its_undecided : Undecided
  its_undecided = record { note = stops.noted; origin = FromClient number }

  abbrev moved : Host D
  moved = record stops.of.host { state = Down stops.disk (Some its_undecided) }

  -- the end as it was, without its session
  quiet : ServesLink stops.of.host listed.0 old.ledger number stops.of.link end_now
  quiet = record {
    said = was.said;
    dialogue = was.dialogue;
    numbered = was.numbered;
    answered = was.answered;
    input = was.input;
    closing = was.closing;
    closes = was.closes;
    closed = may_be_over was.closing;
    wrote = was.wrote;
    whole = was.whole;
    accepts = was.accepts;
    stored = was.stored;
    live = tt;
  }

  serves_now : ServesLink moved listed.0 new.ledger number link_now end_now
  serves_now = serves_as stops.of.host moved listed.0 old.ledger new.ledger number stops.of.link link_now end_now refl refl
      (ap (λ l. accepts_on number l) stops.rest.1) refl refl refl quiet

  -- with the change
  its_lines : List Line
  its_lines = lines_by stops.of.end.node stops.noted (FromClient number)

  queued_more : queued_in talk.later ≡ queued_in was.said ++ (length listed.0 + 1, talk.offer) ∷ []
  queued_more = queued_grows was.said talk.later talk.refused (talk.offer ∷ []) (Queued (length listed.0 + 1) ∷ [])
      (sym was.answered)
      talk.answers

  places_are : stops.noted.accepted ≡ length talk.offer.envelope.recipients
  places_are = told.accepted ∙ ap (λ e. length e.recipients) talk.fits.is_accept.envelope

  accepts_with : accepts_on number (new.ledger ++ its_lines) ≡ map (λ one. (one.0, length one.1.envelope.recipients))
      (queued_in talk.later)
  unfolding its_lines
  accepts_with =
      accepts_on_more number new.ledger (lines_by stops.of.end.node stops.noted (FromClient number))
      ∙ ap (λ l. accepts_on number l ++ accepts_on number (lines_by stops.of.end.node stops.noted (FromClient number)))
      stops.rest.1
      ∙ ap (λ l. l ++ accepts_on number (lines_by stops.of.end.node stops.noted (FromClient number))) was.accepts
      ∙ ap (λ b. map accept_told (queued_in was.said) ++ (cond b ((stops.noted.number, stops.noted.accepted) ∷ []) [] ++ []))
      (same_number number)
      ∙ ap (λ n. map accept_told (queued_in was.said) ++ (n, stops.noted.accepted) ∷ []) told.number
      ∙ ap (λ n. map accept_told (queued_in was.said) ++ (length listed.0 + 1, n) ∷ []) places_are
      ∙ sym (map-append accept_told (queued_in was.said) ((length listed.0 + 1, talk.offer) ∷ []))
      ∙ ap (λ l. map accept_told l) (sym queued_more)

  stored_now : IsStoredAs stops.of.host.config stops.of.end.peer grown (length listed.0 + 1) talk.offer
  stored_now = record {
    accept = talk.accept;
    found = ap (λ n. change_at grown n) (add-one (length listed.0)) ∙ get_last listed.0 added;
    at = old.clock;
    is = subst (λ (c : Config). IsAcceptOf (acceptance_by c stops.of.end.peer (length listed.0 + 1) old.clock) talk.offer
        talk.accept)
        its_node.config_is talk.fits.is_accept;
  }

  stored_more : AllByRecursion (IsStored stops.of.host.config stops.of.end.peer grown) (queued_in talk.later)
  stored_more =
      subst (λ l. AllByRecursion (IsStored stops.of.host.config stops.of.end.peer grown) l) (sym queued_more)
      (all_append (IsStored stops.of.host.config stops.of.end.peer grown) (queued_in was.said)
      ((length listed.0 + 1, talk.offer) ∷ [])
      (stored_on stops.of.host.config stops.of.end.peer listed.0 grown (queued_in was.said) (changes_stay listed.0 added)
      was.stored)
      (stored_now, tt))

  numbers_fit : AreNumbered (Queued (length listed.0 + 1) ∷ [])
  numbers_fit = let few = talk.fits.number in (omega (arith, few), tt)

  used_within : stops.noted.used ≤ length (waiting_up count stops.of.link)
  used_within = subst (λ n. n ≤ length (waiting_up count stops.of.link)) (sym told.used_is) talk.within

  input_with : talk.later.input ≡ take read_to stops.of.link.up
  input_with =
      talk.input
      ∙ ap (λ l. l ++ take talk.used (waiting_up count stops.of.link)) was.input
      ∙ ap (λ n. take stops.of.link.up_read stops.of.link.up ++ take n (waiting_up count stops.of.link)) (sym told.used_is)
      ∙ sym (read_more stops.of.link.up_read stops.noted.used count stops.of.link.up used_within)

  -- what was written stays a beginning, since nothing was
  wrote_before : Begins stops.of.link.down was.said.output
  wrote_before =
      wrote_open stops.of.host listed.0 old.ledger number stops.of.link stops.of.end was stops.of.session stops.of.goes_on

  wrote_with : Begins stops.of.link.down talk.later.output
  wrote_with = (
    wrote_before.0 ++ talk.unwritten,
    talk.output ∙ ap (λ l. l ++ talk.unwritten) wrote_before.1
        ∙ append_assoc stops.of.link.down wrote_before.0 talk.unwritten,
  )

  serves_with : ServesLink moved grown (new.ledger ++ its_lines) number (record link_now { up_read = read_to }) end_now
  serves_with = record {
    said = talk.later;
    dialogue = subst (λ c. IsDialogue (setup_for c stops.of.end.peer) talk.later) its_node.config_is talk.dialogue;
    numbered = still_numbered was.said talk.later talk.refused (talk.offer ∷ []) (Queued (length listed.0 + 1) ∷ []) talk.answers
        was.numbered numbers_fit;
    answered = still_answered was.said talk.later talk.refused (talk.offer ∷ []) (Queued (length listed.0 + 1) ∷ []) talk.answers
        was.answered refl;
    input = input_with;
    closing = None;
    closes = tt;
    closed = tt;
    wrote = wrote_with;
    whole = λ is. absurd (false≢true (sym is));
    accepts = accepts_with;
    stored = stored_more;
    live = tt;
  }

  may_be_heard : MayBeHeard new stops.of.end.node moved listed.0 added stops.noted number
  unfolding its_lines
  may_be_heard = record {
    link = link_now;
    link_is = stops.links.at;
    broken = refl;
    end = end_now;
    serves = refl;
    its_node = refl;
    ended = refl;
    within = read_within stops.of.link.up_read stops.noted.used count stops.of.link.up
        (bound.reads number stops.of.link stops.of.link_is).up used_within;
    with_it = serves_with;
  }

  may_be_in : MayBeIn new stops.of.end.node moved listed.0 its_undecided
  may_be_in = record {
    change = added;
    octets = told.octets;
    number = told.number;
    fitting = fits_more listed.0 added its_node.keeps.fitting talk.cuts.fits;
    reported = tt;
    steps = accept_steps stops.of.end.node number stops.noted listed.0 talk.accept talk.used told;
    came = may_be_heard;
  }

  had_session : (at session : ℕ) → HasSession link_now at session → HasSession stops.of.link at session
  had_session at session has =
      let same : end_now ≡ has.end = same_Some end_now has.end has.serves in
      absurd (none-some session (ap (λ (e : ServerEnd). e.session) same ∙ has.its_session))

  moves : LinkMoves honest words old new lists lists stops.of.end.node number stops.of.host moved listed.0 listed.0
      stops.of.link link_now
  moves = record {
    stands = stands;
    hosts = stops.hosts;
    even = bound.even ∙ sym stops.rest.3;
    list = record { at = listed.1; others = λ other off. refl };
    link_is = stops.of.link_is;
    links = stops.links;
    client = refl;
    session = had_session;
    attempts = λ place attempt at off. same_attempts old.attempts new.attempts stops.rest.0 place attempt at;
    were = λ place attempt at. still_there old.attempts new.attempts place attempt stops.rest.0 at;
    config = refl;
    stay = λ k c is. is;
    messages = λ k a is. is;
    accepts = λ other off. ap (λ l. accepts_on other l) stops.rest.1;
    steps = ap (λ l. steps_in stops.of.end.node l) stops.rest.1 ∙ bound.ledger stops.of.end.node listed.0 listed.1;
    other_steps = λ other off. ap (λ l. steps_in other l) stops.rest.1;
    lines = subst (λ l. AllByRecursion (λ line. link_of line ≤ length new.links) l) (sym stops.rest.1)
        (lines_within (length old.links) (length new.links) old.ledger stops.links.grows bound.lines);
    no_session = stops.no_session;
    no_attempt = λ place attempt slot at off has. stops.no_attempt place attempt slot at has;
    keeps = record {
      list = kept.list;
      holds = down_halted honest words listed.0 added stops.stopped stops.disk stops.noted (FromClient number) stops.of.host
          talk.cuts.halted told.octets stops.left;
      reports = kept.reports;
    };
  }

  -- the client end, on which no attempt runs
  tried_now : (place : ℕ) → link_now.client ≡ Some place → IsTried new lists number link_now place
  tried_now place client =
      let tried : IsTried new lists number stops.of.link place =
      still_tried honest words old new lists lists stops.of.end.node number stops.of.host moved listed.0 listed.0 link_now bound
      (link_moved_so honest words old new lists lists stops.of.end.node number stops.of.host moved listed.0 listed.0
      stops.of.link link_now
      bound moves) number place stops.of.link stops.of.link_is client
      (λ attempt at its_link. same_attempts old.attempts new.attempts stops.rest.0 place attempt at)
      (λ attempt slot at its_link has. absurd (stops.no_attempt place attempt slot at has)) in
      record {
        attempt = tried.attempt;
        attempt_at = tried.attempt_at;
        its_link = tried.its_link;
        host = tried.host;
        changes = tried.changes;
        stands = tried.stands;
        passes = passes_cut tried.host tried.changes stops.of.link link_now tried.attempt refl refl refl tried.passes;
      }

  settled : stops.of.link.broken ≡ true
      → Settled honest words old new lists lists stops.of.end.node number stops.of.host moved listed.0 listed.0 link_now
      stops.of.link
  settled broken = record {
    serves = λ end serves off ended.
        absurd (off (ap (λ (e : ServerEnd). e.node) (same_Some end stops.of.end (sym serves ∙ stops.of.serves))));
    tries = λ place attempt client at off dropped. record {
      now = link_now;
      now_is = stops.links.at;
      stays = record { client = refl; up = refl; down = refl; down_read = refl; broken = refl };
      attempt_at = same_attempts old.attempts new.attempts stops.rest.0 place attempt at;
    };
  }

  pub stopped_hearing : IsBound honest words new lists
  stopped_hearing =
      link_moved honest words old new lists lists stops.of.end.node number stops.of.host moved listed.0 listed.0 stops.of.link
      link_now
      bound moves (record {
        served = λ end is. subst (λ e. IsServed new lists number link_now e) (same_Some end_now end is) (record {
          host = moved;
          changes = listed.0;
          stands = record { host_at = stops.hosts.at; list_at = listed.1 };
          serves = serves_now;
        });
        tried = tried_now;
        reads = record {
          up = (bound.reads number stops.of.link stops.of.link_is).up;
          down = (bound.reads number stops.of.link stops.of.link_is).down;
        };
        settled = settled;
        may_be_in = λ disk undecided down.
            subst (λ u. MayBeIn new stops.of.end.node moved listed.0 u)
            (same_Some its_undecided undecided (same_undecided stops.disk disk (Some its_undecided) (Some undecided) down))
            may_be_in;
      })

pub stopping_hearing_keeps : {D : Type 0} (honest : Type 0) (words : DiskWords D) → StoppingHearingKeeps honest words
stopping_hearing_keeps honest words old new lists number count bound stops =
    stopped_hearing honest words old new lists number count bound stops
