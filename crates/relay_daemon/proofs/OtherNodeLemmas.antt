-- Each event of another node leaves a node alone.
use Rattle.std.proofs.Common.{inl, inr, ◌≡◌, ◌≢◌, ◌⊎◌, ◌∷◌, ℕ, suc, Bool, true, false, cond, List, [], length, map}
use Rattle.std.proofs.Common.{Option}
use Rattle.std.proofs.Common.{None, Some, refl, sym, subst, ap, ◌∙◌, arith}
use Rattle.std.specs.Prelude.{slice_get}
use Rattle.std.specs.Option.{option_map}
use Rattle.std.proofs.lemmas.Bool.{true≢false}
use Rattle.std.proofs.lemmas.Option.{same_Some}
use Rattle.relay_disk.specs.Device.{DiskWords}
use Rattle.relay_disk.specs.declared.disks.Disks.{Disks}
use Rattle.relay_lines.specs.Reply.{Reply}
use Rattle.relay_book.specs.declared.change.Change.{Change}
use Rattle.relay_node.specs.Node.{NodeState}
use Rattle.relay_records.specs.declared.noted.Noted.{Noted}
use Rattle.relay_records.specs.Records.{Kept}
use Rattle.relay_records.specs.Staged.{Row}
use Rattle.relay_world.specs.declared.attempt.Attempt.{Attempt}
use Rattle.relay_world.specs.declared.attempt.Fate.{Fate}
use Rattle.relay_world.specs.declared.attempt.Fate.TheVariants.{Dropped, Lost, Replied}
use Rattle.relay_world.specs.declared.link.Link.{Link}
use Rattle.relay_world.specs.Bound.{HasSlot, IsBound, MayBeIn, MayHaveCome}
use Rattle.relay_world.specs.Crashes.{has_end_of, let_go, let_go_link}
use Rattle.relay_world.specs.Groups.{AcceptsInto, AttemptDropped, HasHeardAll, HasHeardEach, HasReopenedAfterGroup}
use Rattle.relay_world.specs.Groups.{HasTurnedTo, Heard, IsOpenedAgain, OutcomeInto, Piece, Read}
use Rattle.relay_world.specs.Groups.{SessionEnded}
use Rattle.relay_world.specs.HangUp.{HangsUp, IsLetGo, broken_link, hung_up_attempt, hung_up_link}
use Rattle.relay_world.specs.Once.{BreaksOff, Closes, Drops, Ends, GivesUp, GoesOn, Hears, HearsAll}
use Rattle.relay_world.specs.Once.{IsNotOpened, LetsGo, Loses, Opens, Reads, Reopens, ReopensAfterGroup, Starts, Stops}
use Rattle.relay_world.specs.Once.{StopsInGivingUp, StopsInHearing, StopsInLosing, StopsInReading, Ticks, Writes}
use Rattle.relay_world.specs.Steps.{AttemptOf, Breaks, DropsAttempt, EndsWith, HasHeard, HasLost, HasOpened, HasRead}
use Rattle.relay_world.specs.Steps.{HasStarted, HasTicked, HasWritten, IsPut, IsPutAt, RecordsHeard, RecordsOutcome}
use Rattle.relay_world.specs.Steps.{RecordsRead, SessionOf, WritesAs}
use Rattle.relay_world.specs.Stops.{Decides, DropsAtStop, Finds, FindsOutcome, HasReopened, StopsHearing}
use Rattle.relay_world.specs.World.{Down, FromClient, FromGivingUp, FromLoss, FromReplies, Host, Origin, Undecided}
use Rattle.relay_world.specs.World.{World, link_at}
use Rattle.relay_daemon.specs.Elsewhere.{LeavesAlone, OthersLeaveAlone}
use Rattle.relay_daemon.proofs.AloneLemmas.{alone_both}
use Rattle.relay_daemon.proofs.KeepLemmas.{some_at}
use Rattle.relay_daemon.proofs.MoveLemmas.{not_both}
use Rattle.relay_daemon.proofs.OtherLemmas.{AttemptsStay, LinkStays, LinksStay, attempt_stays, attempts_pushed}
use Rattle.relay_daemon.proofs.OtherLemmas.{attempts_put, attempts_same, client_moved, get_map, host_beside}
use Rattle.relay_daemon.proofs.OtherLemmas.{hung_up_stays}
use Rattle.relay_daemon.proofs.OtherLemmas.{leaves, link_map, link_read, link_same, links_same, not_running, of_other}
use Rattle.relay_daemon.proofs.OtherLemmas.{push_stays, put_stays, server_moved}
use Rattle.relay_daemon.proofs.PutLemmas.{get_within}

module _ {D : Type 0} (honest : Type 0) (words : DiskWords D) (node : ℕ) where
  -- only the host of another node changes
  beside : (old new : World D) (other : ℕ) (host : Host D) → IsPut old.hosts new.hosts other host → other ≢ node
      → new.links ≡ old.links → new.attempts ≡ old.attempts → LeavesAlone old new node
  beside old new other host put off links attempts =
      leaves old new node (host_beside old.hosts new.hosts node other host put off)
      (attempts_same old.attempts new.attempts node attempts) (links_same old.attempts node old.links new.links links)

  opens : (old new : World D) (other : ℕ) (peer : List ℕ) → HasOpened old new other peer → other ≢ node
      → LeavesAlone old new node
  opens old new other peer is off =
      leaves old new node (host_beside old.hosts new.hosts node other _ is.hosts off)
      (attempts_same old.attempts new.attempts node is.rest.0)
      (push_stays old.attempts node old.links new.links _ is.links)

  writes : (old new : World D) (number : ℕ) (octets : List ℕ) → HasWritten old new number octets
      → LeavesAlone old new node
  writes old new number octets is =
      subst (λ (w : World D). LeavesAlone old w node) (sym is.new_is)
      (leaves old (record old { links = is.links }) node refl (λ place slot attempt there has. there)
      (put_stays old.attempts node number old.links is.links is.link is.written is.link_is is.put (moves is.writes)))
    where
      moves : WritesAs is.link octets is.written → LinkStays old.attempts node is.link is.written
      moves (inl up) = record {
        server = λ session has. record {
          server = ap (λ (l : Link). l.server) up.1;
          whole = λ fine. (is.whole, ap (λ (l : Link). l.down) up.1);
        };
        client = λ place slot attempt there has client. absurd (not_both is.link.client place up.0 client);
      }
      moves (inr down) = record {
        server = λ session has. absurd (not_both is.link.server has.end down.0 has.serves);
        client = λ place slot attempt there has client. record {
          client = ap (λ (l : Link). l.client) down.1;
          whole = λ fine. (is.whole, ap (λ (l : Link). l.up) down.1);
        };
      }

  heard_host : (old new : World D) (number other : ℕ) (host : Host D) (after : NodeState D) (change : Option ℕ)
      → RecordsHeard old new other number host after change → other ≢ node
      → slice_get new.hosts node ≡ slice_get old.hosts node
  heard_host old new number other host after None records off =
      host_beside old.hosts new.hosts node other _ records.0 off
  heard_host old new number other host after (Some change) records off =
      host_beside old.hosts new.hosts node other _ records.2 off

  hears : (old new : World D) (number count : ℕ) → (is : HasHeard honest words old new number count)
      → is.of.end.node ≢ node → LeavesAlone old new node
  hears old new number count is off =
      leaves old new node
      (heard_host old new number is.of.end.node is.of.host is.after is.received.change is.records off)
      (attempts_same old.attempts new.attempts node is.rest.0)
      (put_stays old.attempts node number old.links new.links is.of.link _ is.of.link_is is.links
      (server_moved old.attempts node is.of.link _ is.of.end is.of.serves off refl refl (λ fine. fine)))

  ends : (old new : World D) (number : ℕ) (closing : Option Reply) → (is : EndsWith old new number closing)
      → is.of.end.node ≢ node → LeavesAlone old new node
  ends old new number closing is off =
      leaves old new node (host_beside old.hosts new.hosts node is.of.end.node _ is.hosts off)
      (attempts_same old.attempts new.attempts node is.rest.0)
      (put_stays old.attempts node number old.links new.links is.of.link _ is.of.link_is is.links
      (server_moved old.attempts node is.of.link _ is.of.end is.of.serves off refl refl (λ fine. fine)))

  outcome_leaves : (old new : World D) (number : ℕ) (of : AttemptOf old number) (after : NodeState D) (change : ℕ)
      (fate : Fate) → RecordsOutcome old new number of after fate change → of.attempt.node ≢ node
      → (slice_get new.hosts node ≡ slice_get old.hosts node) × AttemptsStay old.attempts new.attempts node
  outcome_leaves old new number of after change fate records off = (
    host_beside old.hosts new.hosts node of.attempt.node _ records.hosts off,
    attempts_put old.attempts new.attempts node of.place of.attempt _ records.attempts of.attempt_at
        (of_other of.attempt node off),
  )

  read_leaves : (old new : World D) (number : ℕ) (of : AttemptOf old number) (after : NodeState D) (change : Option ℕ)
      → RecordsRead old new number of after change → of.attempt.node ≢ node
      → (slice_get new.hosts node ≡ slice_get old.hosts node) × AttemptsStay old.attempts new.attempts node
  read_leaves old new number of after None records off = (
    host_beside old.hosts new.hosts node of.attempt.node _ records.0 off,
    attempts_same old.attempts new.attempts node records.2,
  )
  read_leaves old new number of after (Some change) records off =
      outcome_leaves old new number of after change (Replied change) records off

  reads : (old new : World D) (number count : ℕ) → (is : HasRead honest words old new number count)
      → is.of.attempt.node ≢ node → LeavesAlone old new node
  reads old new number count is off =
      let there = read_leaves old new number is.of is.after is.replied.change is.records off in
      leaves old new node there.0 there.1
      (put_stays old.attempts node number old.links new.links is.of.link _ is.of.link_is is.links
      (client_moved old.attempts node is.of.place is.of.link _ is.of.attempt is.of.client is.of.attempt_at off refl refl
      (λ fine. fine)))

  loses : (old new : World D) (number change : ℕ) → (is : HasLost honest words old new number change)
      → is.of.attempt.node ≢ node → LeavesAlone old new node
  loses old new number change is off =
      let there = outcome_leaves old new number is.of is.after change (Lost change) is.records off in
      leaves old new node there.0 there.1 (links_same old.attempts node old.links new.links is.links)

  drops : (old new : World D) (number : ℕ) → (is : DropsAttempt old new number) → is.of.attempt.node ≢ node
      → LeavesAlone old new node
  drops old new number is off =
      leaves old new node (host_beside old.hosts new.hosts node is.of.attempt.node _ is.hosts off)
      (attempts_put old.attempts new.attempts node is.of.place is.of.attempt _ is.attempts is.of.attempt_at
      (of_other is.of.attempt node off)) (links_same old.attempts node old.links new.links is.links)

  -- a link broke, and is the same but for that
  broke : (attempts : List Attempt) (was : Link) → LinkStays attempts node was (record was { broken = true })
  broke attempts was = record {
    server = λ session has. record { server = refl; whole = λ fine. absurd (true≢false fine) };
    client = λ place slot attempt is has client. record { client = refl; whole = λ fine. absurd (true≢false fine) };
  }

  breaks : (old new : World D) (number : ℕ) → Breaks old new number → LeavesAlone old new node
  breaks old new number is =
      subst (λ (w : World D). LeavesAlone old w node) (sym is.new_is)
      (leaves old (record old { links = is.links }) node refl (λ place slot attempt there has. there)
      (put_stays old.attempts node number old.links is.links is.link _ is.link_is is.put
      (broke old.attempts is.link)))

  starts : (old new : World D) (number message : ℕ) (hop : List ℕ)
      → (is : HasStarted honest words old new number message hop) → is.attempt.node ≢ node → LeavesAlone old new node
  starts old new number message hop is off =
      leaves old new node (host_beside old.hosts new.hosts node is.attempt.node _ is.hosts off)
      (attempts_pushed old.attempts new.attempts node is.attempt is.attempts) (links is.is_blank.there)
    where
      begun : LinkStays old.attempts node is.blank (record is.blank { client = Some (length old.attempts) })
      begun = record {
        server = λ session has. record { server = refl; whole = λ fine. (fine, refl) };
        client = λ place slot attempt there has client.
            absurd (not_both is.blank.client place is.is_blank.client client);
      }

      links : (link_at old.links number ≡ Some is.blank)
          ⊎ ((number ≡ suc (length old.links)) × (is.blank.server ≡ None) × (is.blank.up_read ≡ 0))
          → LinksStay old.attempts node old.links new.links
      links (inl there) =
          put_stays old.attempts node number old.links new.links is.blank _ there is.links begun
      links (inr next) =
          push_stays old.attempts node old.links new.links _
          (subst (λ n. IsPutAt old.links new.links n (record is.blank { client = Some (length old.attempts) })) next.0
          is.links)

  stops_hearing : (old new : World D) (number count : ℕ) → (is : StopsHearing honest words old new number count)
      → is.of.end.node ≢ node → LeavesAlone old new node
  stops_hearing old new number count is off =
      leaves old new node (host_beside old.hosts new.hosts node is.of.end.node _ is.hosts off)
      (attempts_same old.attempts new.attempts node is.rest.0)
      (put_stays old.attempts node number old.links new.links is.of.link _ is.of.link_is is.links
      (server_moved old.attempts node is.of.link _ is.of.end is.of.serves off refl refl
      (λ fine. absurd (true≢false fine))))

  drops_at_stop : (old new : World D) (number : ℕ) (of : AttemptOf old number) (stopped : Kept D) (origin : Origin)
      → DropsAtStop honest words old new number of stopped origin → of.attempt.node ≢ node → LeavesAlone old new node
  drops_at_stop old new number of stopped origin is off =
      leaves old new node (host_beside old.hosts new.hosts node of.attempt.node _ is.hosts off)
      (attempts_put old.attempts new.attempts node of.place of.attempt _ is.attempts of.attempt_at
      (of_other of.attempt node off))
      (put_stays old.attempts node number old.links new.links of.link _ of.link_is is.links
      (broke old.attempts of.link))

  -- what a group of another node has heard and read
  accepts_host : (old new : World D) (number : ℕ) (of : SessionOf old number) (after : NodeState D) (row left : Row)
      (change : Option ℕ) → AcceptsInto honest words old new number of after row left change → of.end.node ≢ node
      → slice_get new.hosts node ≡ slice_get old.hosts node
  accepts_host old new number of after row left None accepts off =
      host_beside old.hosts new.hosts node of.end.node _ accepts.0 off
  accepts_host old new number of after row left (Some change) accepts off =
      host_beside old.hosts new.hosts node of.end.node _ accepts.2 off

  outcome_into : (old new : World D) (number : ℕ) (of : AttemptOf old number) (after : NodeState D) (row left : Row)
      (change : Option ℕ) → OutcomeInto honest words old new number of after row left change → of.attempt.node ≢ node
      → (slice_get new.hosts node ≡ slice_get old.hosts node) × AttemptsStay old.attempts new.attempts node
  outcome_into old new number of after row left None outcome off = (
    host_beside old.hosts new.hosts node of.attempt.node _ outcome.0 off,
    attempts_same old.attempts new.attempts node outcome.2,
  )
  outcome_into old new number of after row left (Some change) outcome off = (
    host_beside old.hosts new.hosts node of.attempt.node _ outcome.hosts off,
    attempts_put old.attempts new.attempts node of.place of.attempt _ outcome.attempts of.attempt_at
        (of_other of.attempt node off),
  )

  turned : (at : ℕ) (old new : World D) (other : ℕ) (piece : Piece) (row left : Row) → other ≢ node
      → HasTurnedTo honest words at old new other piece row left → LeavesAlone old new node
  turned at old new other piece row left off (Heard is) =
      let away : is.of.end.node ≢ node = λ same. off (sym is.its_node ∙ same) in
      leaves old new node
      (accepts_host old new piece.number is.of is.after row left is.received.change is.accepts away)
      (attempts_same old.attempts new.attempts node is.rest.0)
      (put_stays old.attempts node piece.number old.links new.links is.of.link _ is.of.link_is is.links
      (server_moved old.attempts node is.of.link _ is.of.end is.of.serves away refl refl (λ fine. fine)))
  turned at old new other piece row left off (SessionEnded is its_node same_row) =
      ends old new piece.number None is (λ same. off (sym its_node ∙ same))
  turned at old new other piece row left off (Read is) =
      let away : is.of.attempt.node ≢ node = λ same. off (sym is.its_node ∙ same) in
      let there = outcome_into old new piece.number is.of is.after row left is.replied.change is.outcome away in
      leaves old new node there.0 there.1
      (put_stays old.attempts node piece.number old.links new.links is.of.link _ is.of.link_is is.links
      (client_moved old.attempts node is.of.place is.of.link _ is.of.attempt is.of.client is.of.attempt_at away refl
      refl (λ fine. fine)))
  turned at old new other piece row left off (AttemptDropped is its_node same_row) =
      drops old new piece.number is (λ same. off (sym its_node ∙ same))

  pub alone_still : (world : World D) → LeavesAlone world world node
  alone_still world =
      leaves world world node refl (λ place slot attempt is has. is)
      (λ number link is. (link, is, link_same world.attempts node link))

  each_alone : (pieces : List Piece) (at : ℕ) (old new : World D) (other : ℕ) (row left : Row) → other ≢ node
      → HasHeardEach honest words at old new other pieces row left → LeavesAlone old new node
  each_alone [] at old new other row left off each =
      subst (λ (w : World D). LeavesAlone old w node) (sym each.0) (alone_still old)
  each_alone (piece ∷ pieces) at old new other row left off each =
      alone_both old each.0 new node (turned at old each.0 other piece row each.1 off each.2)
      (each_alone pieces at each.0 new other each.1 left off each.3)

  hears_all : (old new : World D) (other : ℕ) (pieces : List Piece) → HasHeardAll honest words old new other pieces
      → other ≢ node → LeavesAlone old new node
  hears_all old new other pieces is off =
      alone_both old is.heard new node (each_alone pieces old.clock old is.heard other _ is.row off is.each)
      (beside is.heard new other _ is.hosts off is.rest.0 is.rest.1)

  -- An outcome was found, of an attempt that was dropped.
  found_outcome : (old new : World D) (number place used : ℕ) (fate : Fate) (attempt : Attempt)
      → slice_get old.attempts place ≡ Some attempt → attempt.fate ≡ Dropped
      → FindsOutcome old new number place used fate
      → AttemptsStay old.attempts new.attempts node × LinksStay old.attempts node old.links new.links
  found_outcome old new number place used fate attempt there is_dropped finds = (
    attempts_put old.attempts new.attempts node place finds.attempt _ finds.attempts finds.attempt_at
        (λ slot has. not_running attempt.fate slot is_dropped
        (ap (λ (a : Attempt). a.fate) (same_Some attempt finds.attempt (sym there ∙ finds.attempt_at)) ∙ has.runs)),
    put_stays old.attempts node number old.links new.links finds.link _ finds.link_is finds.links
        (link_read old.attempts node finds.link _ refl refl refl refl refl),
  )

  finds_leave : (old new : World D) (other : ℕ) (host : Host D) (changes : List Change) (change : Change) (note : Noted)
      (origin : Origin) → MayHaveCome old other host changes change note origin → Finds old new note origin
      → AttemptsStay old.attempts new.attempts node × LinksStay old.attempts node old.links new.links
  finds_leave old new other host changes change note (FromClient number) came finds = (
    attempts_same old.attempts new.attempts node finds.attempts,
    put_stays old.attempts node number old.links new.links finds.link _ finds.link_is finds.links
        (link_read old.attempts node finds.link _ refl refl refl refl refl),
  )
  finds_leave old new other host changes change note (FromReplies number place message) came finds =
      found_outcome old new number place note.used (Replied note.number) came.attempt came.attempt_at came.dropped finds
  finds_leave old new other host changes change note (FromLoss number place message) came finds =
      found_outcome old new number place note.used (Lost note.number) came.attempt came.attempt_at came.dropped finds
  finds_leave old new other host changes change note (FromGivingUp message) came finds = (
    attempts_same old.attempts new.attempts node finds.1,
    links_same old.attempts node old.links new.links finds.0,
  )

  -- Another node was opened, with the undecided change or without it.
  decides_leaves : (old new : World D) (other : ℕ) (host : Host D) (after : NodeState D) (disk : Disks D)
      (changes : List Change) (undecided : Option Undecided)
      → ((its : Undecided) → undecided ≡ Some its → MayBeIn old other host changes its) → other ≢ node
      → Decides old new other host after undecided → LeavesAlone old new node
  decides_leaves old new other host after disk changes None may off decides =
      beside old new other _ decides.hosts off decides.links decides.attempts
  decides_leaves old new other host after disk changes (Some undecided) may off (inl decides) =
      beside old new other _ decides.1.hosts off decides.1.links decides.1.attempts
  decides_leaves old new other host after disk changes (Some undecided) may off (inr decides) =
      let its = may undecided refl in
      let there = finds_leave old new other host changes its.change undecided.note undecided.origin its.came
      decides.1.finds in
      leaves old new node (host_beside old.hosts new.hosts node other _ decides.1.hosts off) there.0 there.1

  reopens : (old new : World D) (lists : List (List Change)) (other : ℕ) → IsBound honest words old lists
      → HasReopened honest words old new other → other ≢ node → LeavesAlone old new node
  reopens old new lists other bound is off =
      let even = bound.even in
      let within = get_within old.hosts other is.host is.host_at in
      let listed = some_at lists other (omega (arith, even, within)) in
      decides_leaves old new other is.host is.after is.disk listed.0 is.undecided
      (λ its same. bound.may_be_in other is.host listed.0 is.disk its
      (record { host_at = is.host_at; list_at = listed.1 })
      (subst (λ u. is.host.state ≡ Down is.disk u) same is.down)) off is.decides

  module _ (other : ℕ) (off : other ≢ node) where
    let_go_stays : (attempts : List Attempt) (link : Link) (mine : Bool)
        → LinkStays attempts node link (cond mine (broken_link (hung_up_link other link)) link)
    let_go_stays attempts link true =
        hung_up_stays node other off attempts link _ refl refl refl refl (λ fine. absurd (true≢false fine))
    let_go_stays attempts link false = link_same attempts node link

    opened_again : (world new : World D) (host : Host D) (after : NodeState D)
        → IsOpenedAgain world new other host after → LeavesAlone world new node
    opened_again world new host after is =
        subst (λ (w : World D). LeavesAlone world w node) (sym is.new_is)
        (leaves world (record (let_go other world) { hosts = is.hosts }) node
        (host_beside world.hosts is.hosts node other _ is.put off)
        (λ place slot attempt there has. attempt_stays node other off (slice_get world.attempts place)
        (slice_get (map (hung_up_attempt other) world.attempts) place) attempt slot
        (get_map (hung_up_attempt other) world.attempts place) there has)
        (λ number link there. (
          let_go_link other world.attempts link,
          link_map (let_go_link other world.attempts) world.links number
              ∙ ap (λ o. option_map (let_go_link other world.attempts) o) there,
          let_go_stays world.attempts link (has_end_of other world.attempts link),
        )))

    reopens_group : (old new : World D) (pieces : List Piece)
        → (is : HasReopenedAfterGroup honest words old new other pieces) → LeavesAlone old new node
    reopens_group old new pieces is = by is.decides
      where
        by : ((is.after.records.queue.next ≡ is.before.now.records.queue.next)
            × IsOpenedAgain old new other is.before.host is.after)
            ⊎ ((is.after.records.queue.next ≡ is.stopped.queue.next)
            × IsOpenedAgain is.heard new other is.staged.host is.after)
            → LeavesAlone old new node
        by (inl none) = opened_again old new is.before.host is.after none.1
        by (inr all) =
            alone_both old is.heard new node (each_alone pieces is.at old is.heard other _ is.row off is.each)
            (opened_again is.heard new is.staged.host is.after all.1)

    lets_go : (old new : World D) → HangsUp old new other → LeavesAlone old new node
    lets_go old new is =
        subst (λ (w : World D). LeavesAlone old w node) (sym is.new_is)
        (leaves old (record old { links = is.links; attempts = is.attempts }) node refl
        (λ place slot attempt there has. kept place slot attempt there has (is.each_attempt place))
        (λ number link there. one number link there (is.each_link number)))
      where
        kept : (place slot : ℕ) (attempt : Attempt) → slice_get old.attempts place ≡ Some attempt
            → HasSlot attempt node slot
            → (slice_get is.attempts place ≡ slice_get old.attempts place)
            ⊎ (slice_get is.attempts place ≡ option_map (hung_up_attempt other) (slice_get old.attempts place))
            → slice_get is.attempts place ≡ Some attempt
        kept place slot attempt there has (inl same) = same ∙ there
        kept place slot attempt there has (inr hung) =
            attempt_stays node other off (slice_get old.attempts place) (slice_get is.attempts place) attempt slot hung
            there has

        one : (number : ℕ) (link : Link) → link_at old.links number ≡ Some link
            → IsLetGo other (link_at old.links number) (link_at is.links number)
            → (its : Link) × (link_at is.links number ≡ Some its) × LinkStays old.attempts node link its
        one number link there (inl same) = (link, same ∙ there, link_same old.attempts node link)
        one number link there (inr (inl hung)) = (
          hung_up_link other link,
          hung ∙ ap (λ o. option_map (hung_up_link other) o) there,
          hung_up_stays node other off old.attempts link _ refl refl refl refl (λ fine. fine),
        )
        one number link there (inr (inr (inl broken))) = (
          broken_link link,
          broken ∙ ap (λ o. option_map broken_link o) there,
          broke old.attempts link,
        )
        one number link there (inr (inr (inr both))) = (
          broken_link (hung_up_link other link),
          both ∙ ap (λ o. option_map (λ l. broken_link (hung_up_link other l)) o) there,
          hung_up_stays node other off old.attempts link _ refl refl refl refl (λ fine. absurd (true≢false fine)),
        )

  ticks : (old new : World D) (now : ℕ) → HasTicked old new now → LeavesAlone old new node
  ticks old new now is =
      subst (λ (w : World D). LeavesAlone old w node) (sym is.new_is)
      (leaves old (record old { clock = now }) node refl (λ place slot attempt there has. there)
      (λ number link there. (link, there, link_same old.attempts node link)))

module _ {D : Type 0} (honest : Type 0) (words : DiskWords D) where
  pub others_leave : OthersLeaveAlone honest words
  others_leave old new lists node bound (Opens other peer is) off = opens honest words node old new other peer is off
  others_leave old new lists node bound (Writes number octets is) off =
      writes honest words node old new number octets is
  others_leave old new lists node bound (Hears number count is) off =
      hears honest words node old new number count is off
  others_leave old new lists node bound (HearsAll other pieces is) off =
      hears_all honest words node old new other pieces is off
  others_leave old new lists node bound (Ends number is) off = ends honest words node old new number None is off
  others_leave old new lists node bound (Closes number reply is) off =
      ends honest words node old new number (Some reply) is.ends off
  others_leave old new lists node bound (Reads number count is) off =
      reads honest words node old new number count is off
  others_leave old new lists node bound (Loses number change is) off =
      loses honest words node old new number change is off
  others_leave old new lists node bound (Drops number is) off = drops honest words node old new number is off
  others_leave old new lists node bound (BreaksOff number is) off = breaks honest words node old new number is
  others_leave old new lists node bound (Starts number message hop is) off =
      starts honest words node old new number message hop is off
  others_leave old new lists node bound (GivesUp reason other message change is) off =
      beside honest words node old new other _ is.hosts off is.rest.0 is.rest.1
  others_leave old new lists node bound (Stops other is) off =
      beside honest words node old new other _ is.hosts off is.rest.0 is.rest.1
  others_leave old new lists node bound (StopsInHearing number count is) off =
      stops_hearing honest words node old new number count is off
  others_leave old new lists node bound (StopsInReading number count is) off =
      drops_at_stop honest words node old new number is.of is.stopped _ is.drops off
  others_leave old new lists node bound (StopsInLosing number is) off =
      drops_at_stop honest words node old new number is.of is.stopped _ is.drops off
  others_leave old new lists node bound (StopsInGivingUp reason other message is) off =
      beside honest words node old new other _ is.hosts off is.rest.0 is.rest.1
  others_leave old new lists node bound (IsNotOpened other is) off =
      beside honest words node old new other _ is.hosts off is.rest.0 is.rest.1
  others_leave old new lists node bound (Reopens other is) off =
      reopens honest words node old new lists other bound is off
  others_leave old new lists node bound (ReopensAfterGroup other pieces is) off =
      reopens_group honest words node other off old new pieces is
  others_leave old new lists node bound (Ticks now is) off = ticks honest words node old new now is
  others_leave old new lists node bound (LetsGo other is) off = lets_go honest words node other off old new is
  others_leave old new lists node bound (GoesOn other is) off =
      beside honest words node old new other _ is.hosts off is.rest.0 is.rest.1
