-- Links that a node hears and reads one after another keep it so that attempts have the links that they are meant to
-- have.
use Rattle.std.proofs.Common.{inl, inr, ℕ, List, [], ◌∷◌, ◌++◌, Option, None, Some, refl, sym, subst}
use Rattle.relay_disk.specs.Device.{DiskWords}
use Rattle.relay_node.specs.Node.{NodeState}
use Rattle.relay_records.specs.Staged.{Row, no_row}
use Rattle.relay_world.specs.declared.attempt.Fate.TheVariants.{Replied}
use Rattle.relay_world.specs.Crashes.{let_go as lets_go}
use Rattle.relay_world.specs.Groups.{AcceptsInto, AttemptDropped, HasHeardAll, HasHeardEach, HasHeardInto, HasReadInto, HasReopenedAfterGroup, HasTurnedTo, Heard, IsOpenedAgain, IsUp, OutcomeInto, Piece, Read, SessionEnded}
use Rattle.relay_world.specs.HopLinks.{AreLinkedToHops}
use Rattle.relay_world.specs.Steps.{heard_link, read_link, session_after}
use Rattle.relay_world.specs.World.{Up, World}
use Rattle.relay_world.proofs.CrashRestLemmas.{hangs}
use Rattle.relay_world.proofs.HopWayLemmas.{SameNames, SameWays, all_linked, dropped, ended, hops_same, let_go, names_put, one_node, read_on, recorded, ways_ended, ways_like}

module _ {D : Type 0} (honest : Type 0) (words : DiskWords D) where
  heard_into : (at : ℕ) (old new : World D) → AreLinkedToHops old → (node : ℕ) (piece : Piece) (row left : Row)
      → HasHeardInto honest words at old new node piece row left → AreLinkedToHops new
  heard_into at old new linked node piece row left hears =
      all_linked old new hears.rest.2 (by hears.received.change hears.accepts)
      (ways_ended old new piece.number hears.of.link
      (heard_link hears.of.link hears.of.end hears.of.session hears.received) hears.of.end
      (session_after hears.received.close hears.of.session) hears.of.link_is hears.of.serves refl hears.links) linked
      (hops_same old new hears.rest.0)
    where
      by : (change : Option ℕ) → AcceptsInto honest words old new piece.number hears.of hears.after row left change
          → SameNames old new
      by None accepts =
          names_put old new hears.of.end.node hears.of.host (record hears.of.host { state = Up hears.after })
          hears.of.host_at accepts.0 refl
      by (Some change) accepts =
          names_put old new hears.of.end.node hears.of.host
          (record hears.of.host { state = Up hears.after; records = hears.of.host.records ++ accepts.0.octets ∷ [] })
          hears.of.host_at accepts.2 refl

  read_into : (at : ℕ) (old new : World D) → AreLinkedToHops old → (node : ℕ) (piece : Piece) (row left : Row)
      → HasReadInto honest words at old new node piece row left → AreLinkedToHops new
  read_into at old new linked node piece row left reads = by reads.replied.change reads.outcome
    where
      ways : SameWays old new
      ways = ways_like old new piece.number reads.of.link (read_link reads.of.link reads.replied) reads.of.link_is refl
          reads.links

      by : (change : Option ℕ) → OutcomeInto honest words old new piece.number reads.of reads.after row left change
          → AreLinkedToHops new
      by None puts = read_on old new linked piece.number reads.of reads.after puts.0 puts.2 reads.rest.1 ways
      by (Some change) ends =
          recorded old new linked piece.number change reads.of reads.after (Replied change) ends.noted
          (record { hosts = ends.hosts; ledger = ends.ledger; attempts = ends.attempts }) reads.rest.1 ways

  turned_to : (at : ℕ) (old new : World D) → AreLinkedToHops old → (node : ℕ) (piece : Piece) (row left : Row)
      → HasTurnedTo honest words at old new node piece row left → AreLinkedToHops new
  turned_to at old new linked node piece row left (Heard hears) = heard_into at old new linked node piece row left hears
  turned_to at old new linked node piece row left (SessionEnded ends here same) =
      ended old new linked piece.number None ends
  turned_to at old new linked node piece row left (Read reads) = read_into at old new linked node piece row left reads
  turned_to at old new linked node piece row left (AttemptDropped drops here same) =
      dropped old new linked piece.number drops

  heard_each : (at : ℕ) (old new : World D) → AreLinkedToHops old → (node : ℕ) (pieces : List Piece) (row left : Row)
      → HasHeardEach honest words at old new node pieces row left → AreLinkedToHops new
  heard_each at old new linked node [] row left each = subst (λ (w : World D). AreLinkedToHops w) (sym each.0) linked
  heard_each at old new linked node (piece ∷ pieces) row left (next, more, first, others) =
      heard_each at next new (turned_to at old next linked node piece row more first) node pieces more left others

  pub heard_all : (old new : World D) → AreLinkedToHops old → (node : ℕ) (pieces : List Piece)
      → HasHeardAll honest words old new node pieces → AreLinkedToHops new
  heard_all old new linked node pieces hears =
      one_node hears.heard new (heard_each old.clock old hears.heard linked node pieces no_row hears.row hears.each) node
      hears.staged.host (record hears.staged.host { state = Up hears.after }) hears.staged.host_at hears.hosts refl
      hears.rest.4 hears.rest.0 hears.rest.1

  -- a node of the world that is opened again
  opened_again : (world new : World D) → AreLinkedToHops world → (node : ℕ) (is : IsUp world node) (after : NodeState D)
      → IsOpenedAgain world new node is.host after → AreLinkedToHops new
  opened_again world new linked node is after again =
      subst (λ (w : World D). AreLinkedToHops w) (sym again.new_is)
      (one_node (lets_go node world) (record (lets_go node world) { hosts = again.hosts })
      (let_go world (lets_go node world) linked node (hangs node world)) node is.host (record is.host { state = Up after })
      is.host_at again.put refl again.as_many refl refl)

  pub reopened_after : (old new : World D) → AreLinkedToHops old → (node : ℕ) (pieces : List Piece)
      → HasReopenedAfterGroup honest words old new node pieces → AreLinkedToHops new
  reopened_after old new linked node pieces reopens = elim reopens.decides [
    | inl none ↦ opened_again old new linked node reopens.before reopens.after none.1
    | inr all ↦
        opened_again reopens.heard new
        (heard_each reopens.at old reopens.heard linked node pieces no_row reopens.row reopens.each) node reopens.staged
        reopens.after all.1
  ]
