-- What a node hears and reads of several links, and brings into its spool together, keeps a world bound. Between two of
-- them nothing is said of disks, so each keeps bound what is said without them.
use Rattle.std.proofs.Common.{◌≡◌, ℕ, List, [], ◌∷◌, Some, sym, subst, ap, ◌∙◌}
use Rattle.std.specs.Prelude.{slice_get}
use Rattle.std.proofs.lemmas.Option.{same_Some}
use Rattle.relay_disk.specs.Device.{DiskWords}
use Rattle.relay_book.specs.declared.change.Change.{Change}
use Rattle.relay_node.specs.Node.{NodeState}
use Rattle.relay_records.specs.Staged.{Awaits, Row, Settles, no_row}
use Rattle.relay_world.specs.Bound.{IsBound, NodeKeeps}
use Rattle.relay_world.specs.Groups.{AttemptDropped, HasHeardAll, HasHeardEach, HasTurnedTo, Heard, HearingAllKeeps, IsUp, Piece, Read, SessionEnded}
use Rattle.relay_world.specs.Stops.{StaysUp}
use Rattle.relay_world.specs.World.{Host, World}
use Rattle.relay_world.proofs.GroupHearLemmas.{unsettled_ended, unsettled_heard}
use Rattle.relay_world.proofs.GroupReadLemmas.{unsettled_dropped, unsettled_read}
use Rattle.relay_world.proofs.OpenLemmas.{list_there, node_kept, same_Up}
use Rattle.relay_world.proofs.StayUpLemmas.{staying_up_keeps}
use Rattle.relay_world.proofs.UnsettledLemmas.{Unsettled, settled_keeps, unsettled_first}

module _ {D : Type 0} (honest : Type 0) (words : DiskWords D) where
  module _ (old : World D) (lists : List (List Change)) (node : ℕ) (changes : List Change) where
    pub unsettled_turned : (at : ℕ) (world next : World D) (piece : Piece) (row left : Row)
        → Unsettled honest words old lists node changes world row
        → HasTurnedTo honest words at world next node piece row left
        → Unsettled honest words old lists node changes next left
    unsettled_turned at world next piece row left unsettled (Heard hears) =
        unsettled_heard honest words old lists node changes world next row left unsettled at piece hears
    unsettled_turned at world next piece row left unsettled (SessionEnded ends here same) =
        unsettled_ended honest words old lists node changes world next row left unsettled piece.number ends here same
    unsettled_turned at world next piece row left unsettled (Read reads) =
        unsettled_read honest words old lists node changes world next row left unsettled at piece reads
    unsettled_turned at world next piece row left unsettled (AttemptDropped drops here same) =
        unsettled_dropped honest words old lists node changes world next row left unsettled piece.number drops here same

    pub unsettled_each : (pieces : List Piece) (at : ℕ) (world heard : World D) (row left : Row)
        → Unsettled honest words old lists node changes world row
        → HasHeardEach honest words at world heard node pieces row left
        → Unsettled honest words old lists node changes heard left
    unsettled_each [] at world heard row left unsettled each =
        subst (λ (r : Row). Unsettled honest words old lists node changes heard r) (sym each.1)
        (subst (λ (w : World D). Unsettled honest words old lists node changes w row) (sym each.0) unsettled)
    unsettled_each (piece ∷ pieces) at world heard row left unsettled (next, more, first, others) =
        unsettled_each pieces at next heard more left
        (unsettled_turned at world next piece row more unsettled first) others

  -- a node that was up has heard and read links one after another
  module _ (old : World D) (lists : List (List Change)) (node : ℕ) (bound : IsBound honest words old lists)
      (before : IsUp old node)
      (at : ℕ) (pieces : List Piece) (heard : World D) (row : Row)
      (each : HasHeardEach honest words at old heard node pieces no_row row) (staged : IsUp heard node) where
    pub first : (list : List Change) × (slice_get lists node ≡ Some list)
    first = list_there old.hosts lists node before.host bound.even before.host_at

    pub first_kept : NodeKeeps honest words before.host.config before.now first.0
    first_kept = node_kept honest words before.host first.0 before.now
        (bound.hosts node before.host first.0 (record { host_at = before.host_at; list_at = first.1 })) before.up

    pub last : Unsettled honest words old lists node first.0 heard row
    last = unsettled_each old lists node first.0 pieces at old heard no_row row
        (unsettled_first honest words old lists node first.0 bound before first.1 first_kept.keeps) each

    pub last_awaits : Awaits honest words staged.now.records first.0 last.pending row
    last_awaits =
        let same_host : last.is.host ≡ staged.host =
        same_Some last.is.host staged.host (sym last.is.host_at ∙ staged.host_at) in
        let same_now : last.is.now ≡ staged.now =
        same_Up last.is.now staged.now (sym last.is.up ∙ ap (λ (h : Host D). h.state) same_host ∙ staged.up) in
        subst (λ (n : NodeState D). Awaits honest words n.records first.0 last.pending row) same_now last.awaits

  module _ (old new : World D) (lists : List (List Change)) (node : ℕ) (pieces : List Piece)
      (bound : IsBound honest words old lists) (heard : HasHeardAll honest words old new node pieces) where
    abbrev pub changes : List Change
    changes = (first old lists node bound heard.before old.clock pieces heard.heard heard.row heard.each heard.staged).0

    abbrev pub unsettled : Unsettled honest words old lists node changes heard.heard heard.row
    unsettled = last old lists node bound heard.before old.clock pieces heard.heard heard.row heard.each heard.staged

    pub awaits : Awaits honest words heard.staged.now.records changes unsettled.pending heard.row
    awaits = last_awaits old lists node bound heard.before old.clock pieces heard.heard heard.row heard.each
        heard.staged

    pub settled : Settles honest words heard.after.records changes unsettled.pending heard.row.notes
    settled = heard.settles changes unsettled.pending awaits

    pub stays : StaysUp ⊥ words heard.heard new node
    stays = record {
      host = heard.staged.host;
      host_at = heard.staged.host_at;
      before = heard.staged.now;
      up = heard.staged.up;
      after = heard.after;
      noted = heard.noted;
      keeps = λ list before. record {
        live = settled.keeps.live;
        fitting = before.fitting;
        queue = settled.keeps.queue ∙ sym awaits.queue ∙ before.queue;
        bodies = λ none. absurd none;
        images = λ none. absurd none;
      };
      config = heard.config;
      seats = heard.seats;
      attempts = heard.attempts;
      hosts = heard.hosts;
      rest = heard.rest;
    }

    abbrev pub hearing_all : (later : List (List Change)) × IsBound honest words new later
    hearing_all = (
      unsettled.later,
      settled_keeps honest words old lists node changes heard.heard new heard.row unsettled bound
          (staying_up_keeps ⊥ words heard.heard new unsettled.later node unsettled.bound stays) heard.staged.host
          heard.after
          heard.hosts settled.keeps,
    )

  pub hearing_all_keeps : HearingAllKeeps honest words
  hearing_all_keeps old new lists node pieces bound heard = hearing_all old new lists node pieces bound heard
