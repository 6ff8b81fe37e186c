-- Links that a node hears and reads one after another, its opening after a stop in that, and then each event, keep it
-- so that each line of the ledger has its source.
use Rattle.std.proofs.Common.{◌≡◌, inl, inr, ℕ, List, [], ◌∷◌, ◌++◌, Option, None, Some, refl, sym, subst, ap}
use Rattle.relay_disk.specs.Device.{DiskWords}
use Rattle.relay_book.specs.declared.change.Change.{Change}
use Rattle.relay_node.specs.Node.{NodeState}
use Rattle.relay_records.specs.Staged.{Row, no_row}
use Rattle.relay_world.specs.declared.attempt.Fate.TheVariants.{Replied}
use Rattle.relay_world.specs.Bound.{IsBound}
use Rattle.relay_world.specs.Groups.{AcceptsInto, AttemptDropped, HasHeardAll, HasHeardEach, HasHeardInto, HasReadInto, HasReopenedAfterGroup, HasTurnedTo, Heard, IsOpenedAgain, IsUp, OutcomeInto, Piece, Read, SessionEnded}
use Rattle.relay_world.specs.Growth.{AttemptsGrow, HasGrown}
use Rattle.relay_world.specs.Ledger.{report_told}
use Rattle.relay_world.specs.Lines.{HasSources}
use Rattle.relay_world.specs.Once.{BreaksOff, Drops, Ends, GivesUp, GoesOn, Happens, Hears, IsNotOpened, LetsGo, Loses, Opens, Reads, Reopens, Starts, Stops, StopsInGivingUp, StopsInHearing, StopsInLosing, StopsInReading, Ticks, Writes, Closes, HearsAll, ReopensAfterGroup, SourcesAreKept}
use Rattle.relay_world.specs.Steps.{heard_link, session_after}
use Rattle.relay_world.specs.World.{Up, World}
use Rattle.relay_world.proofs.GrowthAttemptLemmas.{attempts_same, event_attempts, opened_again, turned_to as attempts_turned}
use Rattle.relay_world.proofs.GrowthGroupLemmas.{opened_again as grown_again, settled_grown, turned_to as grown_turned}
use Rattle.relay_world.proofs.GrowthLemmas.{event_grows}
use Rattle.relay_world.proofs.GroupLemmas.{first, first_kept, unsettled_turned}
use Rattle.relay_world.proofs.GroupReadLemmas.{Replies, knows, replies, takes}
use Rattle.relay_world.proofs.LineEventLemmas.{added_list, given, heard, heard_line, lost, read_by, reopened, same}
use Rattle.relay_world.proofs.LineLemmas.{ended_cause, recorded}
use Rattle.relay_world.proofs.UnsettledLemmas.{Unsettled, bound_unsaid, unsettled_first}

module _ {D : Type 0} (honest : Type 0) (words : DiskWords D) where
  module _ (old : World D) (lists : List (List Change)) (node : ℕ) (changes : List Change) where
    -- a world in which a node awaits changes, and each line has its source
    record SourcesUnsettled (world : World D) (row : Row) : Type 0 where
      pub unsettled : Unsettled honest words old lists node changes world row
      pub sources : HasSources world unsettled.later

    module _ (world next : World D) (row left : Row) (was : SourcesUnsettled world row)
        (now : Unsettled honest words old lists node changes next left) (grows : HasGrown world next)
        (goes : AttemptsGrow world next) where
      still : next.ledger ≡ world.ledger → HasSources next now.later
      still is = same ⊥ words world next was.unsettled.later now.later was.unsettled.bound now.bound grows goes was.sources is

      heard_into : (at : ℕ) (piece : Piece) → HasHeardInto honest words at world next node piece row left
          → HasSources next now.later
      heard_into at piece hears = by hears.received.change hears.accepts
        where
          by : (change : Option ℕ) → AcceptsInto honest words world next piece.number hears.of hears.after row left change
              → HasSources next now.later
          by None accepts = still accepts.1
          by (Some change) accepts =
              heard_line ⊥ words world next was.unsettled.later now.later was.unsettled.bound now.bound grows goes was.sources
              piece.number hears.of (heard_link hears.of.link hears.of.end hears.of.session hears.received)
              (record hears.of.end { session = session_after hears.received.close hears.of.session }) hears.links.at refl refl
              change accepts.0.accepted accepts.3

      read_into : (at : ℕ) (piece : Piece) (reads : HasReadInto honest words at world next node piece row left)
          → HasSources next now.later
      read_into at piece reads =
          by reads.replied.change
          (replies honest words old lists node changes world next row left was.unsettled at piece reads) reads.outcome
        where
          by : (made : Option ℕ)
              → Replies honest words old lists node changes world next row left was.unsettled at piece reads made
              → OutcomeInto honest words world next piece.number reads.of reads.after row left made
              → HasSources next now.later
          by None on puts = still puts.1
          by (Some change_now) ends puts =
              let its = knows honest words old lists node changes world next row left was.unsettled at piece reads in
              let taken = takes honest words old lists node changes world next row left was.unsettled at piece reads
              change_now ends puts in
              let added = added_list ⊥ words world next was.unsettled.later now.later was.unsettled.bound now.bound grows
              goes was.sources reads.of.attempt.node reads.of.host
              (record reads.of.host { state = Up reads.after; records = reads.of.host.records ++ puts.noted.octets ∷ [] })
              puts.noted.octets reads.of.host_at puts.hosts.at refl (changes ++ was.unsettled.pending) its.list_at in
              recorded ⊥ words world next was.unsettled.later now.later was.unsettled.bound now.bound grows goes
              reads.of.attempt.node reads.of.attempt.message piece.number (report_told change_now puts.noted.report)
              puts.noted.left.items (changes ++ was.unsettled.pending) added.0 its.list_at added.1 puts.ledger
              (λ step place makes. inl (ended_cause ⊥ words world next was.unsettled.later now.later was.unsettled.bound
              now.bound grows goes piece.number change_now reads.of (Replied change_now) (inl refl) puts.attempts
              (changes ++ was.unsettled.pending) taken.number_is)) was.sources

      turned : (at : ℕ) (piece : Piece) → HasTurnedTo honest words at world next node piece row left
          → HasSources next now.later
      turned at piece (Heard hears) = heard_into at piece hears
      turned at piece (SessionEnded ends here is) = still ends.rest.1
      turned at piece (Read reads) = read_into at piece reads
      turned at piece (AttemptDropped drops here is) = still drops.ledger

    each_turned : (pieces : List Piece) (at : ℕ) (world heard : World D) (row left : Row) → SourcesUnsettled world row
        → HasHeardEach honest words at world heard node pieces row left → SourcesUnsettled heard left
    each_turned [] at world heard row left was each =
        subst (λ (r : Row). SourcesUnsettled heard r) (sym each.1)
        (subst (λ (w : World D). SourcesUnsettled w row) (sym each.0) was)
    each_turned (piece ∷ pieces) at world heard row left was (next, more, one, others) =
        let now : Unsettled honest words old lists node changes next more =
        unsettled_turned honest words old lists node changes at world next piece row more was.unsettled one in
        each_turned pieces at next heard more left
        (record {
          unsettled = now;
          sources = turned world next row more was now (grown_turned honest words at world next node piece row more one)
              (attempts_turned honest words at world next node piece row more one) at piece one;
        }) others

  -- a node that was up has heard and read links one after another
  heard_pieces : (old : World D) (lists : List (List Change)) (node : ℕ) (bound : IsBound honest words old lists)
      → HasSources old lists → (before : IsUp old node) (at : ℕ) (pieces : List Piece) (heard : World D) (row : Row)
      (each : HasHeardEach honest words at old heard node pieces no_row row) (staged : IsUp heard node)
      → SourcesUnsettled old lists node (first honest words old lists node bound before at pieces heard row each
      staged).0 heard row
  heard_pieces old lists node bound was before at pieces heard row each staged =
      let its_list = first honest words old lists node bound before at pieces heard row each staged in
      let kept = first_kept honest words old lists node bound before at pieces heard row each staged in
      each_turned old lists node its_list.0 pieces at old heard no_row row (record {
        unsettled = unsettled_first honest words old lists node its_list.0 bound before its_list.1 kept.keeps;
        sources = was;
      }) each

  heard_all : (old new : World D) (lists later : List (List Change)) → IsBound honest words old lists
      → HasSources old lists → IsBound honest words new later → (node : ℕ) (pieces : List Piece)
      → HasHeardAll honest words old new node pieces → HasSources new later
  heard_all old new lists later bound was now node pieces hears =
      let last = heard_pieces old lists node bound was hears.before old.clock pieces hears.heard hears.row hears.each
      hears.staged in
      same ⊥ words hears.heard new last.unsettled.later later last.unsettled.bound (bound_unsaid honest words new later now)
      (settled_grown honest words old new node pieces hears) (attempts_same hears.heard new hears.rest.1) last.sources
      hears.rest.2

  -- a node of the world that is opened again
  sources_again : (world new : World D) (lists later : List (List Change)) → IsBound ⊥ words world lists
      → HasSources world lists → IsBound ⊥ words new later → (node : ℕ) (is : IsUp world node) (after : NodeState D)
      → IsOpenedAgain world new node is.host after → HasSources new later
  sources_again world new lists later bound was now node is after again =
      same ⊥ words world new lists later bound now (grown_again honest words world new node is after again)
      (opened_again honest words world new node is.host after again) was (ap (λ (w : World D). w.ledger) again.new_is)

  reopened_after : (old new : World D) (lists later : List (List Change)) → IsBound honest words old lists
      → HasSources old lists → IsBound honest words new later → (node : ℕ) (pieces : List Piece)
      → HasReopenedAfterGroup honest words old new node pieces → HasSources new later
  reopened_after old new lists later bound was now node pieces is = elim is.decides [
    | inl none ↦
        sources_again old new lists later (bound_unsaid honest words old lists bound) was
        (bound_unsaid honest words new later now) node is.before is.after none.1
    | inr all ↦
        let last = heard_pieces old lists node bound was is.before is.at pieces is.heard is.row is.each is.staged in
        sources_again is.heard new last.unsettled.later later last.unsettled.bound last.sources
        (bound_unsaid honest words new later now) node is.staged is.after all.1
  ]

-- each event, in a line
pub sources_are_kept : {D : Type 0} (honest : Type 0) (words : DiskWords D) → SourcesAreKept honest words
sources_are_kept {D} honest words old new lists later asked bound once was happens now = by happens
  where
    grows : HasGrown old new
    grows = event_grows honest words old new happens

    goes : AttemptsGrow old new
    goes = event_attempts honest words old new lists bound happens

    still : new.ledger ≡ old.ledger → HasSources new later
    still is = same honest words old new lists later bound now grows goes was is

    by : Happens honest words old new → HasSources new later
    by (Opens node peer is) = still is.rest.1
    by (Writes number octets is) = still (ap (λ (w : World D). w.ledger) is.new_is)
    by (Hears number count is) =
        heard honest words old new lists later bound now grows goes was number is.of
        (session_after is.received.close is.of.session) (heard_link is.of.link is.of.end is.of.session is.received) refl
        is.links is.after is.received.change is.records
    by (HearsAll node pieces is) = heard_all honest words old new lists later bound was now node pieces is
    by (Ends number is) = still is.rest.1
    by (Closes number reply is) = still is.ends.rest.1
    by (Reads number count is) = read_by honest words old new lists later bound now grows goes was number count is
    by (Loses number change is) = lost honest words old new lists later bound now grows goes was number change is
    by (Drops number is) = still is.ledger
    by (BreaksOff number is) = still (ap (λ (w : World D). w.ledger) is.new_is)
    by (Starts number message hop is) = still is.rest.0
    by (GivesUp reason node message change is) =
        given honest words old new lists later bound now grows goes was reason node message change is
    by (Stops node is) = still is.rest.2
    by (StopsInHearing number count is) = still is.rest.1
    by (StopsInReading number count is) = still is.drops.rest.0
    by (StopsInLosing number is) = still is.drops.rest.0
    by (StopsInGivingUp reason node message is) = still is.rest.2
    by (IsNotOpened node is) = still is.rest.2
    by (Reopens node is) = reopened honest words old new lists later bound now grows goes was once node is
    by (ReopensAfterGroup node pieces is) =
        reopened_after honest words old new lists later bound was now node pieces is
    by (Ticks clock is) = still (ap (λ (w : World D). w.ledger) is.new_is)
    by (LetsGo node is) = still (ap (λ (w : World D). w.ledger) is.new_is)
    by (GoesOn node is) = still is.rest.2
