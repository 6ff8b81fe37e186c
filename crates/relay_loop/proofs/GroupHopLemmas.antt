-- What a call on several pieces and replies leaves of a next hop that mail was handed to.
use Rattle.std.proofs.Common.{◌≡◌, inl, inr, ℕ, false, List, [], ◌++◌, Result, refl, sym, ap, ◌∙◌, subst, append_assoc}
use Rattle.relay_disk.specs.Device.{DiskWords}
use Rattle.relay_slots.specs.Slots.{slot_at}
use Rattle.relay_routes.specs.declared.config.Config.{Config}
use Rattle.relay_attempts.specs.AddedOutcome.{reported_as}
use Rattle.relay_attempts.specs.Reply.{IsItsCourse, Told, outcome_at, told_more}
use Rattle.relay_book.specs.declared.change.Change.{Change}
use Rattle.relay_book.specs.Queue.{Fitting, empty_queue}
use Rattle.relay_records.specs.Staged.{no_row}
use Rattle.relay_records.specs.declared.fault.NodeFault.{NodeFault}
use Rattle.relay_report.specs.Report.{Reported, reporter_of}
use Rattle.relay_loop.specs.declared.hops.Answered.{Answered}
use Rattle.relay_loop.specs.declared.replying.ReplyPiece.{ReplyPiece}
use Rattle.relay_loop.specs.GroupHopLaws.{Becomes, GroupsHand, GroupsLeaveHops, used_of}
use Rattle.relay_loop.specs.Relay.{RelayState}
use Rattle.relay_loop.proofs.AwaitedLemmas.{front_fits}
use Rattle.relay_loop.proofs.HopBecomesLemmas.{each_becomes, hands_later}
use Rattle.relay_loop.proofs.LawLemmas.{hands_stay}
use Rattle.relay_loop.proofs.LeaveLemmas.{pieces_leave, replies_leave}

-- what becomes of an attempt has become of it as long as attempts, connections and configuration stay
becomes_later : {D : Type 0} (list : List Change) (at : ℕ) (mid new : RelayState D) (attempt : ℕ) (told : Told)
    (written : List ℕ) (replies : List ReplyPiece) (answers : List (Result Answered NodeFault))
    → new.node.attempts ≡ mid.node.attempts → new.hops ≡ mid.hops → new.node.config ≡ mid.node.config
    → Becomes list at mid attempt told written replies answers → Becomes list at new attempt told written replies answers
becomes_later list at mid new attempt told written replies answers attempts hops config (inl still) =
    inl (record {
      out = still.out;
      hands =
          hands_stay list list mid new attempt (told_more told (used_of attempt replies answers) still.out) written
          (inl refl) (ap (λ l. slot_at l attempt) attempts) (ap (λ l. slot_at l attempt) hops) config still.hands;
    })
becomes_later list at mid new attempt told written replies answers attempts hops config (inr (inl ended)) =
    inr (inl (record {
      out = ended.out;
      verdicts = ended.verdicts;
      course =
          subst (λ (c : Config). IsItsCourse c.host
          (told_more told (used_of attempt replies answers) ended.out) false ended.verdicts) (sym config) ended.course;
      last = ended.last;
      output = ended.output;
      front = ended.front;
      report = ended.report;
      reported =
          subst (λ (c : Config). Reported (reporter_of c) ended.front
          (reported_as (outcome_at at told ended.verdicts) ended.report)) (sym config) ended.reported;
      rest = ended.rest;
      list_is = ended.list_is;
      gone = ap (λ l. slot_at l attempt) attempts ∙ ended.gone;
      connection = ap (λ l. slot_at l attempt) hops ∙ ended.connection;
      handed = ended.handed;
    }))
becomes_later list at mid new attempt told written replies answers attempts hops config (inr (inr refused)) =
    inr (inr (record {
      gone = ap (λ l. slot_at l attempt) attempts ∙ refused.gone;
      connection = ap (λ l. slot_at l attempt) hops ∙ refused.connection;
      refused = refused.refused;
    }))

pub groups_hand : {D : Type 0} (honest : Type 0) (words : DiskWords D) → GroupsHand honest words
groups_hand honest words changes at pieces replies old new group attempt told written all t =
    let a = all.answers in
    let before = pieces_leave honest words changes at pieces group.heard.items [] old no_row a.between a.beside a.staged
    a.pieces_each in
    let after = replies_leave honest words changes at replies group.answered.items a.staged a.between a.beside
    all.before all.row all.pending a.replies_each in
    let whole : changes ++ all.pending ≡ (changes ++ a.staged) ++ after.added =
    ap (λ (l : List Change). changes ++ l) after.grows ∙ sym (append_assoc changes a.staged after.added) in
    let fits : Fitting (changes ++ a.staged) =
    front_fits empty_queue (changes ++ a.staged) after.added (subst Fitting whole all.settles.keeps.fitting) in
    let begun = hands_later changes a.staged old a.between attempt told written fits
    (ap (λ l. slot_at l attempt) before.attempts) (ap (λ l. slot_at l attempt) before.hops) before.config t in
    becomes_later (changes ++ all.pending) at all.before new attempt told written replies group.answered.items
    all.attempts all.hops all.config
    (each_becomes honest words changes at replies group.answered.items a.staged a.between a.beside all.before all.row
    all.pending attempt told written a.replies_each begun)

pub groups_leave_hops : {D : Type 0} (honest : Type 0) (words : DiskWords D) → GroupsLeaveHops honest words
groups_leave_hops honest words changes at pieces replies old new group attempt told written all only others t =
    let same = only.attempts attempt others in
    hands_later changes all.pending old new attempt told written all.settles.keeps.fitting same.0 same.1 only.config t
