-- A world stays bound where a call has heard octets of a link, whatever brings what it accepted into the records.
use Rattle.std.proofs.Common.{◌≡◌, ◌≢◌, ◌≤◌, ◌+◌, ◌^◌, ℕ, suc, Bool, true, false, List, [], ◌∷◌, ◌++◌, length, map, take, None, Some, refl, sym, subst, ap, ◌∙◌, cond, arith}
use Rattle.std.specs.Prelude.{slice_get}
use Rattle.std.specs.List.{AllByRecursion}
use Rattle.std.proofs.Math.Numerals.{add-one}
use Rattle.std.proofs.lemmas.List.{append-nil, map-append}
use Rattle.std.proofs.lemmas.Option.{none-some, same_Some}
use Rattle.relay_octets.specs.Beginning.{Begins}
use Rattle.relay_disk.specs.Device.{DiskWords}
use Rattle.relay_slots.specs.Slots.{OthersStay, slot_at}
use Rattle.relay_server.specs.declared.offer.Answer.TheVariants.{Queued}
use Rattle.relay_server.specs.Dialogue.{IsDialogue, Offered, Said}
use Rattle.relay_server.specs.DialogueLaws.{AreNumbered}
use Rattle.relay_server.specs.Setup.{setup_for}
use Rattle.relay_server.proofs.Theorems.{what_stands_is_a_dialogue}
use Rattle.relay_routes.specs.declared.config.Config.{Config}
use Rattle.relay_book.specs.declared.change.Accept.{Accept}
use Rattle.relay_book.specs.declared.change.Change.{Change}
use Rattle.relay_book.specs.declared.change.Change.TheVariants as change
use Rattle.relay_book.specs.Marks.{change_at}
use Rattle.relay_book.specs.Queue.{Fitting}
use Rattle.relay_book.specs.Record.{encode}
use Rattle.relay_book.proofs.Theorems.{message_stays}
use Rattle.relay_records.specs.declared.noted.Noted.{Noted}
use Rattle.relay_records.specs.Records.{Keeps}
use Rattle.relay_node.specs.Acceptance.{IsAcceptOf, acceptance_by}
use Rattle.relay_node.specs.declared.receive.Received.{Received}
use Rattle.relay_node.specs.Attempts.{Tells}
use Rattle.relay_node.specs.Node.{SessionGoesOn, SeatHasSaid, NodeState}
use Rattle.relay_node.specs.Queued.{queued_in}
use Rattle.relay_node.specs.Room.{AnswersMore}
use Rattle.relay_node.proofs.Theorems.{queued_grows, told_stays}
use Rattle.relay_world.specs.declared.line.Line.{Line}
use Rattle.relay_world.specs.declared.line.Line.TheVariants.{Accepted}
use Rattle.relay_world.specs.declared.link.Link.{Link}
use Rattle.relay_world.specs.declared.link.ServerEnd.{ServerEnd}
use Rattle.relay_world.specs.Bound.{HasSession, HostKeeps, IsBound, IsServed, IsStored, IsStoredAs, IsTried, NodeKeeps, ReadsWithin, SaysThere, ServesLink, StandsAt, link_of}
use Rattle.relay_world.specs.Ledger.{Accepts, accepts_on, steps_in, steps_of}
use Rattle.relay_world.specs.Steps.{SessionOf, IsPut, IsPutAt, heard_link, session_after, unless_broken, waiting_up}
use Rattle.relay_world.specs.World.{Host, Up, World, link_at}
use Rattle.relay_world.proofs.ClosingLemmas.{whole_open, wrote_open}
use Rattle.relay_world.proofs.FrameLemmas.{TellsOn, accepts_on_more, changes_stay, get_last, steps_in_more, steps_more, stored_on}
use Rattle.relay_world.proofs.MoveLemmas.{link_cases, client_was, links_kept, Joins, Moves, Settled, moved_keeps, same_attempts, same_slots, still_tried}
use Rattle.relay_world.proofs.UndecidedLemmas.{up_not_down}
use Rattle.relay_world.proofs.OpenLemmas.{lines_within, number_within, list_there, node_kept, off_by, same_Up, still_says}
use Rattle.relay_world.proofs.PieceLemmas.{begins_more, written_broken, written_whole, read_more, all_append, still_answered, still_numbered, reports_more, with_at, with_at-length, with_at-put, same_number, passes_as, read_stays, few_within, read_within}
use Rattle.relay_report.specs.Report.{reporter_of}

-- an accept, as the ledger tells of it
abbrev accept_told : ℕ × Offered → ℕ × ℕ
accept_told one = (one.0, length one.1.envelope.recipients)

module _ {D : Type 0} (honest : Type 0) (words : DiskWords D) (old : World D) (lists : List (List Change)) (number : ℕ)
    (bound : IsBound honest words old lists) (of : SessionOf old number) where
  pub listed : (list : List Change) × (slice_get lists of.end.node ≡ Some list)
  listed = list_there old.hosts lists of.end.node of.host bound.even of.host_at

  stands : StandsAt old lists of.end.node of.host listed.0
  stands = record { host_at = of.host_at; list_at = listed.1 }

  kept : HostKeeps honest words of.host listed.0
  kept = bound.hosts of.end.node of.host listed.0 stands

  pub its_node : NodeKeeps honest words of.host.config of.before listed.0
  its_node = node_kept honest words of.host listed.0 of.before kept of.up

  was_served : IsServed old lists number of.link of.end
  was_served = bound.servers number of.link of.end of.link_is of.serves

  pub was : ServesLink of.host listed.0 old.ledger number of.link of.end
  was = subst (λ l. ServesLink of.host l old.ledger number of.link of.end)
      (same_Some was_served.changes listed.0 (sym was_served.stands.list_at ∙ listed.1))
      (subst (λ h. ServesLink h was_served.changes old.ledger number of.link of.end)
      (same_Some was_served.host of.host (sym was_served.stands.host_at ∙ of.host_at)) was_served.serves)

  live_before : SaysThere of.host (Some of.session) of.end.peer was.said
  live_before = subst (λ s. SaysThere of.host s of.end.peer was.said) of.goes_on was.live

  pub says_before : SeatHasSaid of.before.config of.before.seats of.session of.end.peer was.said
  says_before =
      subst (λ (n : NodeState D). SeatHasSaid of.before.config n.seats of.session of.end.peer was.said)
      (same_Up live_before.0 of.before (sym live_before.1 ∙ of.up))
      (subst (λ c. SeatHasSaid c live_before.0.seats of.session of.end.peer was.said) (sym its_node.config_is) live_before.2)

  -- A call has heard octets of the link, of those that wait as many as were carried, and has made the node so.
  pub record Talk (new : World D) (count : ℕ) (after : NodeState D) (received : Received) : Type 0 where
    pub later : Said
    pub goes_on : SessionGoesOn of.before.config after.seats of.session of.end.peer later received.close
    pub input : later.input ≡ was.said.input ++ take received.used (waiting_up count of.link)
    pub output : later.output ≡ was.said.output ++ received.out.items
    pub used : received.used ≤ length (waiting_up count of.link)
    pub others : OthersStay of.before.seats after.seats of.session
    pub config : after.config ≡ of.before.config
    pub attempts : after.attempts ≡ of.before.attempts
    pub links : IsPutAt old.links new.links number (heard_link of.link of.end of.session received)
    pub rest : (new.attempts ≡ old.attempts) × (new.clock ≡ old.clock) × (length new.hosts ≡ length old.hosts)

  module _ (new : World D) (count : ℕ) (after : NodeState D) (received : Received) (talk : Talk new count after received)
    where
      dialogue_by : (close : Bool) → SessionGoesOn of.before.config after.seats of.session of.end.peer talk.later close
          → IsDialogue (setup_for of.before.config of.end.peer) talk.later
      dialogue_by true goes = goes.1.dialogue
      dialogue_by false goes =
          what_stands_is_a_dialogue (setup_for of.before.config of.end.peer) goes.seat.session.value talk.later goes.says.stands

      dialogue : IsDialogue (setup_for of.host.config of.end.peer) talk.later
      dialogue =
          subst (λ c. IsDialogue (setup_for c of.end.peer) talk.later) its_node.config_is (dialogue_by received.close talk.goes_on)

      live_by : (records : List (List ℕ)) (close : Bool)
          → SessionGoesOn of.before.config after.seats of.session of.end.peer talk.later close
          → SaysThere (record of.host { state = Up after; records = records }) (session_after close of.session) of.end.peer
          talk.later
      live_by records true goes = tt
      live_by records false goes =
          (after, refl, subst (λ c. SeatHasSaid c after.seats of.session of.end.peer talk.later) its_node.config_is goes)

      abbrev out_now : List ℕ
      out_now = unless_broken of.link received.out.items

      -- while the session goes on, what was written is of its dialogue alone
      wrote_before : Begins of.link.down was.said.output
      wrote_before = wrote_open of.host listed.0 old.ledger number of.link of.end was of.session of.goes_on

      before : of.link.broken ≡ false → of.link.down ≡ was.said.output
      before = whole_open of.host listed.0 old.ledger number of.link of.end was of.session of.goes_on

      written : of.link.broken ≡ false → of.link.down ++ out_now ≡ talk.later.output
      written whole =
          ap (λ l. of.link.down ++ l) (written_whole of.link received.out.items whole)
          ∙ ap (λ l. l ++ received.out.items) (before whole) ∙ sym talk.output

      wrote : Begins (of.link.down ++ out_now) talk.later.output
      wrote = subst (λ l. Begins (of.link.down ++ out_now) l) (sym talk.output)
          (begins_more of.link.broken of.link.down was.said.output received.out.items wrote_before before)

      input_now : talk.later.input ≡ take (of.link.up_read + received.used) of.link.up
      input_now =
          talk.input
          ∙ ap (λ l. l ++ take received.used (waiting_up count of.link)) was.input
          ∙ sym (read_more of.link.up_read received.used count of.link.up talk.used)

      -- the end that has heard them
      serves_now : (records : List (List ℕ)) (grown : List Change) (ledger : List Line) → AreNumbered talk.later.answers → length talk.later.answers ≡ length talk.later.offers
          → accepts_on number ledger ≡ map (λ one. (one.0, length one.1.envelope.recipients)) (queued_in talk.later)
          → AllByRecursion (IsStored of.host.config of.end.peer grown) (queued_in talk.later)
          → ServesLink (record of.host { state = Up after; records = records }) grown ledger number
          (heard_link of.link of.end of.session received)
          (record of.end { session = session_after received.close of.session })
      serves_now records grown ledger numbered answered accepts stored = record {
        said = talk.later;
        dialogue = dialogue;
        numbered = numbered;
        answered = answered;
        input = input_now;
        closing = None;
        closes = tt;
        closed = tt;
        wrote = wrote;
        whole = written;
        accepts = accepts;
        stored = stored;
        live = live_by records received.close talk.goes_on;
      }

      -- the session of another link goes on
      other_session : (other : ℕ) (its : Link) → other ≢ number → link_at old.links other ≡ Some its
          → HasSession its of.end.node of.session → ⊥
      other_session other its off is has =
          off (bound.sessions other number its of.link of.end.node of.session is of.link_is has
          (record { end = of.end; serves = of.serves; its_node = refl; its_session = of.goes_on }))

      others_say : (records : List (List ℕ)) (other : ℕ) (its : Link)
          (session : ℕ) → other ≢ number → link_at old.links other ≡ Some its → HasSession its of.end.node session
          → (peer : List ℕ) (said : Said) → SaysThere of.host (Some session) peer said
          → SaysThere (record of.host { state = Up after; records = records }) (Some session) peer said
      others_say records other its session off is has peer said says = (
        after,
        refl,
        still_says of.host.config of.before after of.session session peer said talk.others
            (λ same. other_session other its off is (subst (λ s. HasSession its of.end.node s) same has))
            (subst (λ (n : NodeState D). SeatHasSaid of.host.config n.seats session peer said)
            (same_Up says.0 of.before (sym says.1 ∙ of.up)) says.2),
      )

      reads_now : ReadsWithin (heard_link of.link of.end of.session received)
      reads_now = record {
        up = read_within of.link.up_read received.used count of.link.up (bound.reads number of.link of.link_is).up
            talk.used;
        down = few_within of.link.down_read of.link.down out_now
            (bound.reads number of.link of.link_is).down;
      }

      -- what the link that was heard is, as it was served
      joins_now : (records : List (List ℕ)) (lists_now : List (List Change)) (grown : List Change)
          → ((slot : ℕ) → TellsOn of.host (record of.host { state = Up after; records = records }) listed.0 grown slot)
          → StandsAt new lists_now of.end.node (record of.host { state = Up after; records = records }) grown
          → ServesLink (record of.host { state = Up after; records = records }) grown new.ledger number
          (heard_link of.link of.end of.session received)
          (record of.end { session = session_after received.close of.session })
          → Moves honest words old new lists lists_now of.end.node number of.host
          (record of.host { state = Up after; records = records }) listed.0 grown
          (heard_link of.link of.end of.session received)
          → Joins honest words old new lists lists_now of.end.node number of.host
          (record of.host { state = Up after; records = records }) listed.0 grown
          (heard_link of.link of.end of.session received)
      joins_now records lists_now grown tells stands_now serves moves = record {
        served = λ end is. subst (λ e. IsServed new lists_now number (heard_link of.link of.end of.session received) e)
            (same_Some (record of.end { session = session_after received.close of.session }) end is)
            (record { host = record of.host { state = Up after; records = records }; changes = grown; stands = stands_now; serves = serves });
        tried = λ place client.
            let tried : IsTried new lists_now number of.link place =
            still_tried honest words old new lists lists_now of.end.node number of.host
            (record of.host { state = Up after; records = records }) listed.0 grown
            (heard_link of.link of.end of.session received) bound moves number place of.link of.link_is client
            (λ attempt at its_link. same_attempts old.attempts new.attempts talk.rest.0 place attempt at)
            (λ attempt slot at its_link has. tells slot) in
            record {
              attempt = tried.attempt;
              attempt_at = tried.attempt_at;
              its_link = tried.its_link;
              host = tried.host;
              changes = tried.changes;
              stands = tried.stands;
              passes = passes_as tried.host tried.changes of.link
                  (heard_link of.link of.end of.session received) tried.attempt
                  (read_stays of.link.down_read of.link.down out_now
                  (bound.reads number of.link of.link_is).down) refl refl tried.passes;
            };
        reads = reads_now;
        slots = same_slots old.attempts new.attempts talk.rest.0 bound.slots;
        attempts = links_kept old.links new.links number (heard_link of.link of.end of.session received)
            talk.links (client_was old.links number of.link of.link_is of.link.client refl) old.attempts new.attempts
            talk.rest.0 bound.attempts;
        apart = λ other its at session off is mine yours. joins_apart other its at session off is mine yours;
        settled = λ was there broken.
            let same : of.link ≡ was = same_Some of.link was (sym of.link_is ∙ there) in
            subst (λ l. Settled honest words old new lists lists_now of.end.node number of.host
            (record of.host { state = Up after; records = records }) listed.0 grown
            (heard_link of.link of.end of.session received) l) same
            (settled (ap (λ (l : Link). l.broken) same ∙ broken));
        may_be_in = λ disk undecided down. absurd (up_not_down after disk (Some undecided) down);
      }
        where
          -- the session was going on, so nothing undecided rests on its end; and on a broken link nothing was written
          settled : of.link.broken ≡ true
              → Settled honest words old new lists lists_now of.end.node number of.host
              (record of.host { state = Up after; records = records }) listed.0 grown
              (heard_link of.link of.end of.session received) of.link
          settled broken = record {
            serves = λ end serves off ended.
                absurd (none-some of.session (sym ended ∙ ap (λ (e : ServerEnd). e.session)
                (same_Some end of.end (sym serves ∙ of.serves)) ∙ of.goes_on));
            tries = λ place attempt client at off dropped. record {
              now = heard_link of.link of.end of.session received;
              now_is = talk.links.at;
              stays = record {
                client = refl;
                up = refl;
                down = ap (λ l. of.link.down ++ l) (written_broken of.link received.out.items broken)
                    ∙ append-nil of.link.down;
                down_read = refl;
                broken = broken;
              };
              attempt_at = same_attempts old.attempts new.attempts talk.rest.0 place attempt at;
            };
          }

          session_by : (close : Bool) (session : ℕ) → session_after close of.session ≡ Some session → of.session ≡ session
          session_by true session is = absurd (none-some session is)
          session_by false session is = same_Some of.session session is

          joins_apart : (other : ℕ) (its : Link) (at session : ℕ) → other ≢ number → link_at old.links other ≡ Some its
              → HasSession its at session
              → HasSession (heard_link of.link of.end of.session received) at session → ⊥
          joins_apart other its at session off is mine yours =
              let same_end = same_Some (record of.end { session = session_after received.close of.session }) yours.end yours.serves in
              let same_node : of.end.node ≡ at = ap (λ (e : ServerEnd). e.node) same_end ∙ yours.its_node in
              let same_session : of.session ≡ session =
              session_by received.close session (ap (λ (e : ServerEnd). e.session) same_end ∙ yours.its_session) in
              other_session other its off is
              (subst (λ s. HasSession its of.end.node s) (sym same_session)
              (subst (λ n. HasSession its n session) (sym same_node) mine))

      -- nothing was recorded
      pub heard_nothing : (refused : List Offered) → AnswersMore was.said talk.later refused [] []
          → after.records ≡ of.before.records → IsPut old.hosts new.hosts of.end.node (record of.host { state = Up after })
          → new.ledger ≡ old.ledger → IsBound honest words new lists
      heard_nothing refused answers same put line =
          moved_keeps honest words old new lists lists of.end.node number of.host (record of.host { state = Up after })
          listed.0 listed.0 (heard_link of.link of.end of.session received) bound moves
          (joins_now of.host.records lists listed.0 tells (record { host_at = put.at; list_at = listed.1 }) serves moves)
        where
          queued_same : queued_in talk.later ≡ queued_in was.said
          queued_same =
              queued_grows was.said talk.later refused [] [] (sym was.answered) answers
              ∙ append-nil (queued_in was.said)

          serves : ServesLink (record of.host { state = Up after }) listed.0 new.ledger number
              (heard_link of.link of.end of.session received)
              (record of.end { session = session_after received.close of.session })
          serves = serves_now of.host.records listed.0 new.ledger
              (still_numbered was.said talk.later refused [] [] answers was.numbered tt)
              (still_answered was.said talk.later refused [] [] answers was.answered refl)
              (ap (λ l. accepts_on number l) line ∙ was.accepts
              ∙ ap (λ l. map (λ (one : ℕ × Offered). (one.0, length one.1.envelope.recipients)) l) (sym queued_same))
              (subst (λ l. AllByRecursion (IsStored of.host.config of.end.peer listed.0) l) (sym queued_same) was.stored)

          tells : (slot : ℕ) → TellsOn of.host (record of.host { state = Up after }) listed.0 listed.0 slot
          tells slot told is = (
            after,
            refl,
            subst (λ l. Tells of.host.config.host listed.0 l slot told) (sym talk.attempts)
                (subst (λ (n : NodeState D). Tells of.host.config.host listed.0 n.attempts slot told)
                (same_Up is.0 of.before (sym is.1 ∙ of.up)) is.2),
          )

          moves : Moves honest words old new lists lists of.end.node number of.host (record of.host { state = Up after })
              listed.0 listed.0 (heard_link of.link of.end of.session received)
          moves = record {
            stands = stands;
            hosts = put;
            even = bound.even ∙ sym talk.rest.2;
            list = record { at = listed.1; others = λ other off. refl };
            links = link_cases old.links new.links number (heard_link of.link of.end of.session received) talk.links;
            stays = talk.links.others;
            attempts = λ place attempt at off. same_attempts old.attempts new.attempts talk.rest.0 place attempt at;
            config = refl;
            stay = λ k c is. is;
            messages = λ k a is. is;
            accepts = λ other off. ap (λ l. accepts_on other l) line;
            steps = ap (λ l. steps_in of.end.node l) line ∙ bound.ledger of.end.node listed.0 listed.1;
            other_steps = λ other off. ap (λ l. steps_in other l) line;
            lines = subst (λ l. AllByRecursion (λ line. link_of line ≤ length new.links) l) (sym line)
                (lines_within (length old.links) (length new.links) old.ledger talk.links.grows bound.lines);
            says = others_say of.host.records;
            tells = λ place attempt slot at off has. tells slot;
            keeps = record {
              list = kept.list;
              holds = record {
                config_is = talk.config ∙ its_node.config_is;
                keeps = subst (λ r. Keeps honest words r listed.0) (sym same) its_node.keeps;
              };
              reports = kept.reports;
            };
          }

      -- the change of this number, which accepts mail, has come into the node's list, and is noted so
      pub record TakesMail (number_now : ℕ) (noted : Noted) : Type 0 where
        pub number_is : number_now ≡ length listed.0 + 1
        pub few : number_now ≤ 2 ^ 62
        pub refused : List Offered
        pub offer : Offered
        pub answers : AnswersMore was.said talk.later refused (offer ∷ []) (Queued number_now ∷ [])
        pub accept : Accept
        pub at : ℕ
        pub is_accept
            : IsAcceptOf (acceptance_by of.before.config of.end.peer (length listed.0 + 1) at) offer accept
        pub octets : noted.octets ≡ encode (change.Accept accept)
        pub places : noted.accepted ≡ length accept.envelope.recipients
        pub keeps : Keeps honest words after.records (listed.0 ++ change.Accept accept ∷ [])

      -- mail was accepted: the node's list has one change more
      module _ (number_now : ℕ) (noted : Noted) (takes : TakesMail number_now noted)
          (put : IsPut old.hosts new.hosts of.end.node
          (record of.host { state = Up after; records = of.host.records ++ noted.octets ∷ [] }))
          (line : new.ledger ≡ old.ledger ++ Accepted of.end.node number_now noted.accepted number ∷ []) where
        abbrev grown : List Change
        grown = listed.0 ++ change.Accept takes.accept ∷ []

        places_are : noted.accepted ≡ length takes.offer.envelope.recipients
        places_are = takes.places ∙ ap (λ e. length e.recipients) takes.is_accept.envelope

        queued_more : queued_in talk.later ≡ queued_in was.said ++ (number_now, takes.offer) ∷ []
        queued_more = queued_grows was.said talk.later takes.refused (takes.offer ∷ []) (Queued number_now ∷ []) (sym was.answered)
            takes.answers

        accepts_more : accepts_on number new.ledger ≡ map (λ one. (one.0, length one.1.envelope.recipients)) (queued_in talk.later)
        accepts_more =
            ap (λ l. accepts_on number l) line
            ∙ accepts_on_more number old.ledger (Accepted of.end.node number_now noted.accepted number ∷ [])
            ∙ ap (λ l. l ++ accepts_on number (Accepted of.end.node number_now noted.accepted number ∷ [])) was.accepts
            ∙ ap (λ b. map accept_told (queued_in was.said) ++ (cond b ((number_now, noted.accepted) ∷ []) [] ++ [])) (same_number number)
            ∙ ap (λ n. map accept_told (queued_in was.said) ++ (number_now, n) ∷ []) places_are
            ∙ sym (map-append accept_told (queued_in was.said) ((number_now, takes.offer) ∷ []))
            ∙ ap (λ l. map accept_told l) (sym queued_more)

        stored_now : IsStoredAs of.host.config of.end.peer grown number_now takes.offer
        stored_now = record {
          accept = takes.accept;
          found = ap (λ n. change_at grown n) (takes.number_is ∙ add-one (length listed.0))
              ∙ get_last listed.0 (change.Accept takes.accept);
          at = takes.at;
          is = subst (λ n. IsAcceptOf (acceptance_by of.host.config of.end.peer n takes.at) takes.offer takes.accept)
              (sym takes.number_is)
              (subst (λ (c : Config). IsAcceptOf (acceptance_by c of.end.peer (length listed.0 + 1) takes.at) takes.offer takes.accept)
              its_node.config_is takes.is_accept);
        }

        stored_more : AllByRecursion (IsStored of.host.config of.end.peer grown) (queued_in talk.later)
        stored_more =
            subst (λ l. AllByRecursion (IsStored of.host.config of.end.peer grown) l) (sym queued_more)
            (all_append (IsStored of.host.config of.end.peer grown) (queued_in was.said) ((number_now, takes.offer) ∷ [])
            (stored_on of.host.config of.end.peer listed.0 grown (queued_in was.said)
            (changes_stay listed.0 (change.Accept takes.accept)) was.stored)
            (stored_now, tt))

        fitting_now : Fitting grown
        fitting_now = takes.keeps.fitting

        numbers_fit : AreNumbered (Queued number_now ∷ [])
        numbers_fit =
            let few = takes.few in
            (omega (arith, few), tt)

        abbrev moved : Host D
        moved = record of.host { state = Up after; records = of.host.records ++ noted.octets ∷ [] }

        serves : ServesLink moved grown new.ledger number (heard_link of.link of.end of.session received)
            (record of.end { session = session_after received.close of.session })
        serves = serves_now (of.host.records ++ noted.octets ∷ []) grown new.ledger
            (still_numbered was.said talk.later takes.refused (takes.offer ∷ []) (Queued number_now ∷ []) takes.answers was.numbered
            numbers_fit)
            (still_answered was.said talk.later takes.refused (takes.offer ∷ []) (Queued number_now ∷ []) takes.answers was.answered
            refl)
            accepts_more stored_more

        tells : (slot : ℕ) → TellsOn of.host moved listed.0 grown slot
        tells slot told is = (
          after,
          refl,
          told_stays of.host.config.host listed.0 (change.Accept takes.accept) of.before.attempts after.attempts slot told
              fitting_now (ap (λ l. slot_at l slot) talk.attempts)
              (subst (λ (n : NodeState D). Tells of.host.config.host listed.0 n.attempts slot told)
              (same_Up is.0 of.before (sym is.1 ∙ of.up)) is.2),
        )

        steps_now : steps_in of.end.node new.ledger ≡ steps_of grown
        steps_now =
            ap (λ l. steps_in of.end.node l) line
            ∙ steps_in_more of.end.node old.ledger (Accepted of.end.node number_now noted.accepted number ∷ [])
            ∙ ap (λ b. steps_in of.end.node old.ledger ++ (cond b (Accepts number_now noted.accepted ∷ []) [] ++ []))
            (same_number of.end.node)
            ∙ ap (λ l. l ++ Accepts number_now noted.accepted ∷ []) (bound.ledger of.end.node listed.0 listed.1)
            ∙ ap (λ n. steps_of listed.0 ++ Accepts n noted.accepted ∷ []) (takes.number_is ∙ add-one (length listed.0))
            ∙ ap (λ n. steps_of listed.0 ++ Accepts (suc (length listed.0)) n ∷ [])
            (places_are ∙ sym (ap (λ e. length e.recipients) takes.is_accept.envelope))
            ∙ sym (steps_more listed.0 (change.Accept takes.accept))

        abbrev pub lists_now : List (List Change)
        lists_now = with_at lists of.end.node grown

        moves : Moves honest words old new lists lists_now of.end.node number of.host moved listed.0 grown
            (heard_link of.link of.end of.session received)
        moves = record {
          stands = stands;
          hosts = put;
          even = with_at-length lists of.end.node grown ∙ bound.even ∙ sym talk.rest.2;
          list = with_at-put lists of.end.node grown listed.0 listed.1;
          links = link_cases old.links new.links number (heard_link of.link of.end of.session received) talk.links;
          stays = talk.links.others;
          attempts = λ place attempt at off. same_attempts old.attempts new.attempts talk.rest.0 place attempt at;
          config = refl;
          stay = changes_stay listed.0 (change.Accept takes.accept);
          messages = λ k a is. message_stays listed.0 (change.Accept takes.accept) fitting_now k a is;
          accepts = λ other off.
              ap (λ l. accepts_on other l) line
              ∙ accepts_on_more other old.ledger (Accepted of.end.node number_now noted.accepted number ∷ [])
              ∙ ap (λ b. accepts_on other old.ledger ++ (cond b ((number_now, noted.accepted) ∷ []) [] ++ []))
              (off_by number other (λ same. off (sym same)))
              ∙ append-nil (accepts_on other old.ledger);
          steps = steps_now;
          other_steps = λ other off.
              ap (λ l. steps_in other l) line
              ∙ steps_in_more other old.ledger (Accepted of.end.node number_now noted.accepted number ∷ [])
              ∙ ap (λ b. steps_in other old.ledger ++ (cond b (Accepts number_now noted.accepted ∷ []) [] ++ []))
              (off_by of.end.node other (λ same. off (sym same)))
              ∙ append-nil (steps_in other old.ledger);
          lines = subst (λ l. AllByRecursion (λ line. link_of line ≤ length new.links) l) (sym line)
              (all_append (λ line. link_of line ≤ length new.links) old.ledger
              (Accepted of.end.node number_now noted.accepted number ∷ [])
              (lines_within (length old.links) (length new.links) old.ledger talk.links.grows bound.lines)
              (number_within new.links number (heard_link of.link of.end of.session received) talk.links.at, tt));
          says = others_say (of.host.records ++ noted.octets ∷ []);
          tells = λ place attempt slot at off has. tells slot;
          keeps = record {
            list = record {
              fitting = fitting_now;
              records_are = ap (λ l. l ++ noted.octets ∷ []) kept.list.records_are
                  ∙ ap (λ o. map encode listed.0 ++ o ∷ []) takes.octets
                  ∙ sym (map-append encode listed.0 (change.Accept takes.accept ∷ []));
            };
            holds = record {
              config_is = talk.config ∙ its_node.config_is;
              keeps = takes.keeps;
            };
            reports = reports_more (reporter_of of.host.config) [] listed.0 (change.Accept takes.accept) kept.reports tt;
          };
        }

        pub heard_accept : IsBound honest words new lists_now
        heard_accept =
            moved_keeps honest words old new lists lists_now of.end.node number of.host moved listed.0 grown
            (heard_link of.link of.end of.session received) bound moves
            (joins_now (of.host.records ++ noted.octets ∷ []) lists_now grown tells
            (record { host_at = put.at; list_at = (with_at-put lists of.end.node grown listed.0 listed.1).at }) serves moves)
