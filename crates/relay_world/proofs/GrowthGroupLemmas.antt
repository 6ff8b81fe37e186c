-- Links that a node hears and reads one after another: what was recorded, told, written and read stays so.
use Rattle.std.proofs.Common.{inl, inr, ℕ, List, [], ◌∷◌, ◌++◌, Option, None, Some, refl, sym, subst, ap}
use Rattle.relay_disk.specs.Device.{DiskWords}
use Rattle.relay_node.specs.Node.{NodeState}
use Rattle.relay_records.specs.Staged.{Row, no_row}
use Rattle.relay_world.specs.declared.attempt.Fate.TheVariants.{Replied}
use Rattle.relay_world.specs.Growth.{HasGrown}
use Rattle.relay_world.specs.Crashes.{let_go as lets_go}
use Rattle.relay_world.specs.Groups.{AcceptsInto, AttemptDropped, HasHeardAll, HasHeardEach, HasHeardInto, HasReadInto, HasReopenedAfterGroup, HasTurnedTo, Heard, IsOpenedAgain, IsUp, OutcomeInto, Piece, Read, SessionEnded}
use Rattle.relay_world.specs.Steps.{heard_link}
use Rattle.relay_world.specs.World.{Up, World}
use Rattle.relay_world.proofs.CrashRestLemmas.{hangs}
use Rattle.relay_world.proofs.GrowthStepLemmas.{Octets, dropped, ended, grown, grown_on, heard_grows, let_go, octets_of, octets_same, read_octets, read_on, recorded, records_put, records_same, same_ledger, stays}

module _ {D : Type 0} (honest : Type 0) (words : DiskWords D) where
  heard_into : (at : ℕ) (old new : World D) (node : ℕ) (piece : Piece) (row left : Row)
      → HasHeardInto honest words at old new node piece row left → HasGrown old new
  heard_into at old new node piece row left is = by is.received.change is.accepts
    where
      octets : Octets old new
      octets = octets_of old new piece.number is.of.link (heard_link is.of.link is.of.end is.of.session is.received)
          is.of.link_is is.links (heard_grows is.of.link is.of.end is.of.session is.received is.of.serves is.of.goes_on)

      by : (change : Option ℕ) → AcceptsInto honest words old new piece.number is.of is.after row left change
          → HasGrown old new
      by None accepts =
          grown old new
          (stays old new is.of.end.node is.of.host (record is.of.host { state = Up is.after }) is.of.host_at accepts.0 refl)
          (same_ledger old new accepts.1) octets
      by (Some change) accepts =
          grown old new
          (records_put old new is.of.end.node is.of.host
          (record is.of.host { state = Up is.after; records = is.of.host.records ++ accepts.0.octets ∷ [] }) is.of.host_at
          accepts.2 (accepts.0.octets ∷ [], refl))
          (_, accepts.3) octets

  read_into : (at : ℕ) (old new : World D) (node : ℕ) (piece : Piece) (row left : Row)
      → HasReadInto honest words at old new node piece row left → HasGrown old new
  read_into at old new node piece row left is = by is.replied.change is.outcome
    where
      octets : Octets old new
      octets = read_octets old new piece.number is.of is.replied is.links

      by : (change : Option ℕ) → OutcomeInto honest words old new piece.number is.of is.after row left change
          → HasGrown old new
      by None puts = read_on old new is.of.attempt.node is.of.host is.after is.of.host_at puts.0 puts.1 octets
      by (Some change) ends =
          recorded old new piece.number change is.of is.after (Replied change) ends.noted
          (record { hosts = ends.hosts; ledger = ends.ledger; attempts = ends.attempts }) octets

  pub turned_to : (at : ℕ) (old new : World D) (node : ℕ) (piece : Piece) (row left : Row)
      → HasTurnedTo honest words at old new node piece row left → HasGrown old new
  turned_to at old new node piece row left (Heard hears) = heard_into at old new node piece row left hears
  turned_to at old new node piece row left (SessionEnded ends here same) = ended old new piece.number None ends
  turned_to at old new node piece row left (Read reads) = read_into at old new node piece row left reads
  turned_to at old new node piece row left (AttemptDropped drops here same) = dropped old new piece.number drops

  heard_each : (at : ℕ) (old new : World D) (node : ℕ) (pieces : List Piece) (row left : Row)
      → HasHeardEach honest words at old new node pieces row left → HasGrown old new
  heard_each at old new node [] row left each =
      grown old new (records_same old new (ap (λ (w : World D). w.hosts) each.0))
      (same_ledger old new (ap (λ (w : World D). w.ledger) each.0))
      (octets_same old new (ap (λ (w : World D). w.links) each.0))
  heard_each at old new node (piece ∷ pieces) row left (next, more, first, others) =
      grown_on old next new (turned_to at old next node piece row more first)
      (heard_each at next new node pieces more left others)

  -- all that was heard and read has come into the spool
  pub settled_grown : (old new : World D) (node : ℕ) (pieces : List Piece)
      (is : HasHeardAll honest words old new node pieces) → HasGrown is.heard new
  settled_grown old new node pieces is =
      grown is.heard new
      (stays is.heard new node is.staged.host (record is.staged.host { state = Up is.after }) is.staged.host_at is.hosts refl)
      (same_ledger is.heard new is.rest.2) (octets_same is.heard new is.rest.0)

  pub heard_all : (old new : World D) (node : ℕ) (pieces : List Piece) → HasHeardAll honest words old new node pieces
      → HasGrown old new
  heard_all old new node pieces is =
      grown_on old is.heard new (heard_each old.clock old is.heard node pieces no_row is.row is.each)
      (settled_grown old new node pieces is)

  -- a node of the world that is opened again
  pub opened_again : (world new : World D) (node : ℕ) (is : IsUp world node) (after : NodeState D)
      → IsOpenedAgain world new node is.host after → HasGrown world new
  opened_again world new node is after again =
      subst (λ w. HasGrown world w) (sym again.new_is)
      (grown_on world (lets_go node world) (record (lets_go node world) { hosts = again.hosts })
      (let_go world (lets_go node world) node (hangs node world))
      (grown (lets_go node world) (record (lets_go node world) { hosts = again.hosts })
      (stays (lets_go node world) (record (lets_go node world) { hosts = again.hosts }) node is.host
      (record is.host { state = Up after }) is.host_at again.put refl)
      (same_ledger (lets_go node world) (record (lets_go node world) { hosts = again.hosts }) refl)
      (octets_same (lets_go node world) (record (lets_go node world) { hosts = again.hosts }) refl)))

  pub reopened_after : (old new : World D) (node : ℕ) (pieces : List Piece)
      → HasReopenedAfterGroup honest words old new node pieces → HasGrown old new
  reopened_after old new node pieces is = elim is.decides [
    | inl none ↦ opened_again old new node is.before is.after none.1
    | inr all ↦
        grown_on old is.heard new (heard_each is.at old is.heard node pieces no_row is.row is.each)
        (opened_again is.heard new node is.staged is.after all.1)
  ]
