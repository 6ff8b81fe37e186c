-- Links that a node hears and reads one after another, and its opening after a stop in that, keep a place from being
-- tried twice.
use Rattle.std.proofs.Common.{inl, inr, ℕ, List, [], ◌∷◌, ◌++◌, Option, None, Some, refl, sym, subst}
use Rattle.relay_disk.specs.Device.{DiskWords}
use Rattle.relay_book.specs.declared.change.Change.{Change}
use Rattle.relay_node.specs.Node.{NodeState}
use Rattle.relay_records.specs.Staged.{Row, no_row}
use Rattle.relay_world.specs.GivingUp.{Withdrawing}
use Rattle.relay_world.specs.declared.attempt.Fate.TheVariants.{Replied}
use Rattle.relay_world.specs.Bound.{IsBound}
use Rattle.relay_world.specs.Crashes.{let_go as lets_go}
use Rattle.relay_world.specs.Groups.{AcceptsInto, AttemptDropped, HasHeardAll, HasHeardEach, HasHeardInto, HasReadInto, HasReopenedAfterGroup, HasTurnedTo, Heard, IsOpenedAgain, IsUp, OutcomeInto, Piece, Read, SessionEnded}
use Rattle.relay_world.specs.Once.{IsTriedOnce}
use Rattle.relay_world.specs.Steps.{heard_link, read_link}
use Rattle.relay_world.specs.World.{Up, World}
use Rattle.relay_world.proofs.AddedLemmas.{HasTakenDown, ended_adds}
use Rattle.relay_world.proofs.ClaimLemmas.{given_up_at}
use Rattle.relay_world.proofs.CrashRestLemmas.{hangs}
use Rattle.relay_world.proofs.EventLemmas.{dropped, ended, heard_of, read_on, recorded}
use Rattle.relay_world.proofs.GroupLemmas.{first, first_kept, stays, unsettled_turned}
use Rattle.relay_world.proofs.GroupReadLemmas.{Replies, knows, outcome, replies, taken, takes}
use Rattle.relay_world.proofs.HangUpLemmas.{hanging_up_keeps}
use Rattle.relay_world.proofs.OnceMoreLemmas.{let_go}
use Rattle.relay_world.proofs.StayUpLemmas.{stayed_up}
use Rattle.relay_world.proofs.StopOnceLemmas.{state_alone}
use Rattle.relay_world.proofs.UnsettledLemmas.{Unsettled, bound_unsaid, unsettled_first}
use Rattle.relay_report.specs.Report.{reporter_of}

module _ {D : Type 0} (honest : Type 0) (words : DiskWords D) where
  -- what was heard into a row was taken down
  taken_into : (at : ℕ) (old new : World D) (node : ℕ) (piece : Piece) (row left : Row)
      (hears : HasHeardInto honest words at old new node piece row left) (change : Option ℕ)
      → AcceptsInto honest words old new piece.number hears.of hears.after row left change
      → HasTakenDown old new hears.of.end.node piece.number hears.of.host hears.after change
  taken_into at old new node piece row left hears None accepts = accepts
  taken_into at old new node piece row left hears (Some change) accepts = (accepts.0, accepts.2, accepts.3)

  module _ (asked : List Withdrawing) (old : World D) (lists : List (List Change)) (node : ℕ) (changes : List Change) where
    -- a world in which a node awaits changes, and each place is tried once
    record OnceUnsettled (world : World D) (row : Row) : Type 0 where
      pub unsettled : Unsettled honest words old lists node changes world row
      pub once : IsTriedOnce world unsettled.later asked

    -- where the node turns to a link, the world after that is such a one too
    module _ (world next : World D) (row left : Row) (was : OnceUnsettled world row)
        (now : Unsettled honest words old lists node changes next left) where
      heard_once : (at : ℕ) (piece : Piece) → HasHeardInto honest words at world next node piece row left
          → IsTriedOnce next now.later asked
      heard_once at piece hears =
          heard_of ⊥ words world next was.unsettled.later now.later was.unsettled.bound was.once now.bound piece.number
          hears.of (heard_link hears.of.link hears.of.end hears.of.session hears.received) _ refl hears.links
          hears.rest.0 hears.after hears.received.change
          (taken_into at world next node piece row left hears hears.received.change hears.accepts)

      read_once : (at : ℕ) (piece : Piece) (reads : HasReadInto honest words at world next node piece row left)
          → IsTriedOnce next now.later asked
      read_once at piece reads =
          by reads.replied.change
          (replies honest words old lists node changes world next row left was.unsettled at piece reads) reads.outcome
        where
          by : (made : Option ℕ)
              → Replies honest words old lists node changes world next row left was.unsettled at piece reads made
              → OutcomeInto honest words world next piece.number reads.of reads.after row left made
              → IsTriedOnce next now.later asked
          by None on puts =
              read_on ⊥ words world next was.unsettled.later now.later was.unsettled.bound was.once now.bound
              piece.number reads.of reads.after (read_link reads.of.link reads.replied) refl reads.links puts
          by (Some change_now) ends puts =
              recorded ⊥ words world next was.unsettled.later now.later was.unsettled.bound was.once now.bound
              piece.number change_now reads.of reads.after (Replied change_now) puts.noted
              (read_link reads.of.link reads.replied) refl reads.links
              (taken honest words old lists node changes world next row left was.unsettled at piece reads change_now
              ends puts)
              (ended_adds ⊥ words world next was.unsettled.later now.later was.unsettled.bound was.once now.bound
              piece.number change_now reads.of reads.after (Replied change_now) puts.noted
              (reporter_of reads.of.before.config)
              (outcome honest words old lists node changes world next row left was.unsettled at piece reads change_now
              ends puts)
              (changes ++ was.unsettled.pending)
              (knows honest words old lists node changes world next row left was.unsettled at piece reads).list_at
              (inl refl)
              (takes honest words old lists node changes world next row left was.unsettled at piece reads change_now
              ends puts)
              (taken honest words old lists node changes world next row left was.unsettled at piece reads change_now
              ends puts))

      turned_once : (at : ℕ) (piece : Piece) → HasTurnedTo honest words at world next node piece row left
          → IsTriedOnce next now.later asked
      turned_once at piece (Heard hears) = heard_once at piece hears
      turned_once at piece (SessionEnded ends here same) =
          ended ⊥ words world next was.unsettled.later now.later was.unsettled.bound was.once now.bound piece.number
          None ends
      turned_once at piece (Read reads) = read_once at piece reads
      turned_once at piece (AttemptDropped drops here same) =
          dropped ⊥ words world next was.unsettled.later now.later was.unsettled.bound was.once now.bound piece.number
          drops

    once_each : (pieces : List Piece) (at : ℕ) (world heard : World D) (row left : Row) → OnceUnsettled world row
        → HasHeardEach honest words at world heard node pieces row left → OnceUnsettled heard left
    once_each [] at world heard row left was each =
        subst (λ (r : Row). OnceUnsettled heard r) (sym each.1)
        (subst (λ (w : World D). OnceUnsettled w row) (sym each.0) was)
    once_each (piece ∷ pieces) at world heard row left was (next, more, one, others) =
        let now : Unsettled honest words old lists node changes next more =
        unsettled_turned honest words old lists node changes at world next piece row more was.unsettled one in
        once_each pieces at next heard more left
        (record { unsettled = now; once = turned_once world next row more was now at piece one }) others

  -- a node that was up has heard and read links one after another
  once_heard : {asked : List Withdrawing} (old : World D) (lists : List (List Change)) (node : ℕ) (bound : IsBound honest words old lists)
      → IsTriedOnce old lists asked → (before : IsUp old node) (at : ℕ) (pieces : List Piece) (heard : World D) (row : Row)
      (each : HasHeardEach honest words at old heard node pieces no_row row) (staged : IsUp heard node)
      → OnceUnsettled asked old lists node (first honest words old lists node bound before at pieces heard row each
      staged).0 heard row
  once_heard {asked} old lists node bound once before at pieces heard row each staged =
      let its_list = first honest words old lists node bound before at pieces heard row each staged in
      let kept = first_kept honest words old lists node bound before at pieces heard row each staged in
      once_each asked old lists node its_list.0 pieces at old heard no_row row (record {
        unsettled = unsettled_first honest words old lists node its_list.0 bound before its_list.1 kept.keeps;
        once = once;
      }) each

  pub heard_all : {asked : List Withdrawing} (old new : World D) (lists later : List (List Change)) → IsBound honest words old lists
      → IsTriedOnce old lists asked
      → IsBound honest words new later → (node : ℕ) (pieces : List Piece)
      → HasHeardAll honest words old new node pieces → IsTriedOnce new later asked
  heard_all old new lists later bound once now node pieces hears =
      let last = once_heard old lists node bound once hears.before old.clock pieces hears.heard hears.row hears.each
      hears.staged in
      stayed_up ⊥ words hears.heard new last.unsettled.later later last.unsettled.bound last.once
      (bound_unsaid honest words new later now) node (stays honest words old new lists node pieces bound hears)

  -- a node of the world that is opened again
  opened_again : {asked : List Withdrawing} (world new : World D) (lists later : List (List Change)) → IsBound honest words world lists
      → IsTriedOnce world lists asked → IsBound honest words new later → (node : ℕ) (is : IsUp world node)
      (after : NodeState D)
      → IsOpenedAgain world new node is.host after → IsTriedOnce new later asked
  opened_again {asked} world new lists later bound once now node is after again =
      let then : World D = record (lets_go node world) { hosts = again.hosts } in
      let gone : IsBound honest words (lets_go node world) lists =
      hanging_up_keeps honest words world (lets_go node world) lists node bound (hangs node world) in
      let still : IsTriedOnce (lets_go node world) lists asked =
      let_go honest words world (lets_go node world) lists lists bound once gone node (hangs node world) in
      let there : IsBound honest words then later = subst (λ w. IsBound honest words w later) again.new_is now in
      subst (λ w. IsTriedOnce w later asked) (sym again.new_is)
      (state_alone honest words (lets_go node world) then lists later gone still there node is.host
      (Up after) is.host_at
      again.put refl refl refl
      (given_up_at honest words (lets_go node world) then lists later gone still there node is.host after
      is.host.records
      again.put))

pub reopened_after : {D : Type 0} {asked : List Withdrawing} (honest : Type 0) (words : DiskWords D) (old new : World D)
    (lists later : List (List Change))
    → IsBound honest words old lists → IsTriedOnce old lists asked → IsBound honest words new later → (node : ℕ)
    (pieces : List Piece) → HasReopenedAfterGroup honest words old new node pieces → IsTriedOnce new later asked
reopened_after honest words old new lists later bound once now node pieces reopens = elim reopens.decides [
  | inl none ↦
      opened_again honest words old new lists later bound once now node reopens.before reopens.after none.1
  | inr all ↦
      let last = once_heard honest words old lists node bound once reopens.before reopens.at pieces reopens.heard
      reopens.row
      reopens.each reopens.staged in
      opened_again ⊥ words reopens.heard new last.unsettled.later later last.unsettled.bound last.once
      (bound_unsaid honest words new later now) node reopens.staged reopens.after all.1
]
