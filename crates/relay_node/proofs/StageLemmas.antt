-- A session is taken out, heard after a row, and put back.
use Rattle.std.proofs.Common.{◌≡◌, ◌<◌, ℕ, Bool, true, false, List, length, Option, None, Some, sym, ◌∙◌, subst}
use Rattle.std.specs.Prelude.{if◌then◌else◌, slice_set}
use Rattle.relay_disk.specs.Device.{DiskWords}
use Rattle.relay_slots.specs.Slots.{slot_at}
use Rattle.relay_routes.specs.declared.config.Config.{Config}
use Rattle.relay_server.specs.Dialogue.{Said}
use Rattle.relay_book.specs.declared.change.Change.{Change}
use Rattle.relay_records.specs.Records.{Kept}
use Rattle.relay_records.specs.Staged.{Row}
use Rattle.relay_records.specs.declared.fault.NodeFault.{NodeFault}
use Rattle.relay_records.specs.declared.fault.NodeFault.TheVariants.{NoMemory, Stopped, Unknown, TooMany, NotDue, Busy, Open, Full, NoSecond}
use Rattle.relay_attempts.specs.declared.runs.Run.{Run}
use Rattle.relay_node.specs.declared.receive.Received.{Received}
use Rattle.relay_node.specs.declared.seat.Seat.{Seat}
use Rattle.relay_node.specs.Node.{SeatHasSaid}
use Rattle.relay_node.specs.Staging.{HearsAfter, HearsInto, ReceivesAfter, RefusesToHearInto}
use Rattle.relay_node.proofs.NodeLemmas.{goes_on, has_gone, is_open, not_closed, peer_of_taken, standing_of, taken_says}

-- a call that stages nothing leaves records and row
module _ {D : Type 0} (old new : Kept D) (row left : Row) where
  pub unstaged : (fault : NodeFault) → RefusesToHearInto old new row left fault → (new ≡ old) × (left ≡ row)
  unstaged NoMemory refused = refused
  unstaged Stopped refused = absurd refused
  unstaged Unknown refused = absurd refused
  unstaged TooMany refused = absurd refused
  unstaged NotDue refused = absurd refused
  unstaged Busy refused = absurd refused
  unstaged NoSecond refused = absurd refused
  unstaged (Open cause) refused = absurd refused
  unstaged Full refused = (refused.0, refused.1)

module _ {D : Type 0} (honest : Type 0) (words : DiskWords D) (config : Config) (changes pending : List Change) (at number : ℕ) (piece : List ℕ) (old : List (Option Seat)) (taken : Seat) (runs more : List (Option Run))
    (was : Some taken ≡ slot_at old number) (new : Seat) (peer_kept : new.peer ≡ taken.peer) (before after : Kept D) (row left : Row) (received : Received)
    (afterwards : HearsAfter honest words config changes pending at taken.peer taken.session.value new.session.value piece before row after left received) where
  module _ (peer : List ℕ) (said : Said) (is : SeatHasSaid config old number peer said) where
    heard : HearsInto config changes pending peer at said piece new.session.value before row after left afterwards.more received
    heard =
        let peer_is = peer_of_taken config peer number said old taken is was in
        subst (λ p. HearsInto config changes pending p at said piece new.session.value before row after left afterwards.more received) peer_is (afterwards.hears said (taken_says config peer number said old taken is was))

    new_peer : new.peer ≡ peer
    new_peer = peer_kept ∙ peer_of_taken config peer number said old taken is was

  -- the session was put back
  pub receives_after_on : (mid all : List (Option Seat)) → received.close ≡ false → number < length mid → all ≡ slice_set mid number (Some new)
      → ReceivesAfter honest words config changes pending at number piece (standing_of config old runs before) row (standing_of config all more after) left received
  receives_after_on mid all going within set = record {
    more = afterwards.more;
    staged = afterwards.staged;
    awaits = afterwards.awaits;
    receives = λ peer said is.
        let h = heard peer said is in
        let peer_is = new_peer peer said is in
        record {
          later = h.later;
          goes_on = goes_on config number new peer h.later received.close peer_is h.says h.closed mid all going within set;
          is_open = λ _. is_open config number new peer h.later received.close peer_is h.says h.closed mid all going within set;
          talks = h.talks;
        };
  }

  -- the session has closed
  pub receives_after_last : (rest : List (Option Seat)) → received.close ≡ true → rest ≡ slice_set old number None
      → ReceivesAfter honest words config changes pending at number piece (standing_of config old runs before) row (standing_of config rest more after) left received
  receives_after_last rest is_last set = record {
    more = afterwards.more;
    staged = afterwards.staged;
    awaits = afterwards.awaits;
    receives = λ peer said is.
        let h = heard peer said is in
        record {
          later = h.later;
          goes_on = has_gone config number new peer h.later received.close (new_peer peer said is) h.says h.closed old rest is_last set;
          is_open = λ going. absurd (not_closed (sym is_last ∙ going));
          talks = h.talks;
        };
  }

  -- the session was put back, unless it has closed
  pub receives_after_by : (close : Bool) → received.close ≡ close → (mid all : List (Option Seat)) → mid ≡ slice_set old number None → number < length mid → all ≡ (if close then mid else slice_set mid number (Some new))
      → ReceivesAfter honest words config changes pending at number piece (standing_of config old runs before) row (standing_of config all more after) left received
  receives_after_by true close_is mid all rest within put = receives_after_last all close_is (put ∙ rest)
  receives_after_by false close_is mid all rest within put = receives_after_on mid all close_is within put
