-- What an outcome that was recorded makes of a node's list, and of the ledger.
use Rattle.std.proofs.Common.{◌≡◌, ◌≢◌, ◌≤◌, ◌+◌, ℕ, suc, List, [], ◌∷◌, ◌++◌, length, map, Some, refl, sym, subst, ap, ◌∙◌, cond}
use Rattle.std.specs.Prelude.{slice_get}
use Rattle.std.specs.List.{AllByRecursion}
use Rattle.std.proofs.Math.Numerals.{add-one}
use Rattle.std.proofs.lemmas.List.{append-nil, map-append}
use Rattle.std.proofs.lemmas.Option.{same_Some}
use Rattle.relay_disk.specs.Device.{DiskWords}
use Rattle.relay_book.specs.declared.change.Change.{Change}
use Rattle.relay_book.specs.declared.change.Outcome.{Outcome}
use Rattle.relay_book.specs.declared.fate.PlaceStep.{PlaceStep}
use Rattle.relay_book.specs.Marks.{change_at, place_steps}
use Rattle.relay_book.specs.Queue.{Fitting, queue_of}
use Rattle.relay_book.specs.Record.{encode}
use Rattle.relay_records.specs.declared.noted.Noted.{Noted}
use Rattle.relay_records.specs.Note.{IsNoted, is_text}
use Rattle.relay_records.specs.Records.{Keeps, Kept}
use Rattle.relay_report.specs.Report.{Reported, Reporter, reporter_of}
use Rattle.relay_attempts.specs.AddedOutcome.{AddsOutcome, reported_as}
use Rattle.relay_node.specs.Node.{NodeState}
use Rattle.relay_world.specs.declared.attempt.Fate.{Fate}
use Rattle.relay_world.specs.declared.line.Line.{Line}
use Rattle.relay_world.specs.Bound.{HostKeeps, IsBound, NodeKeeps, link_of}
use Rattle.relay_world.specs.Ledger.{Becomes, accepts_on, left_lines, report_number, report_told, steps_in, steps_of}
use Rattle.relay_world.specs.Steps.{AttemptOf, IsPut, RecordsOutcome, without_note}
use Rattle.relay_world.specs.World.{Host, Up, World}
use Rattle.relay_world.proofs.FrameLemmas.{accepts_on_more, get_last, steps_in_more, steps_more}
use Rattle.relay_world.proofs.PieceLemmas.{all_append, kept_without_note, reports_more, same_number}
use Rattle.relay_world.proofs.OpenLemmas.{lines_within, off_by}

-- what a ledger's lines of an outcome tell: its steps, of its node alone, and no accept
pub left_steps : (node message link report : ℕ) (left : List (ℕ × PlaceStep))
    → steps_in node (left_lines node message link report left) ≡ map (λ one. Becomes one.1 message one.0 report) left
left_steps node message link report [] = refl
left_steps node message link report (one ∷ left) =
    ap (λ b. cond b (Becomes one.1 message one.0 report ∷ []) [] ++ steps_in node (left_lines node message link report left))
    (same_number node)
    ∙ ap (λ l. Becomes one.1 message one.0 report ∷ l) (left_steps node message link report left)

pub left_elsewhere : (node other message link report : ℕ) (left : List (ℕ × PlaceStep)) → other ≢ node
    → steps_in other (left_lines node message link report left) ≡ []
left_elsewhere node other message link report [] off = refl
left_elsewhere node other message link report (one ∷ left) off =
    ap (λ b. cond b (Becomes one.1 message one.0 report ∷ []) [] ++ steps_in other (left_lines node message link report left))
    (off_by node other (λ same. off (sym same)))
    ∙ left_elsewhere node other message link report left off

pub none_left_accepted : (node number message link report : ℕ) (left : List (ℕ × PlaceStep))
    → accepts_on number (left_lines node message link report left) ≡ []
none_left_accepted node number message link report [] = refl
none_left_accepted node number message link report (one ∷ left) = none_left_accepted node number message link report left

pub left_within : (node message link report count : ℕ) (left : List (ℕ × PlaceStep)) → link ≤ count
    → AllByRecursion (λ line. link_of line ≤ count) (left_lines node message link report left)
left_within node message link report count [] few = tt
left_within node message link report count (one ∷ left) few = (few, left_within node message link report count left few)

pub report_is : (number : ℕ) (report : List ℕ) → report_told number (is_text report) ≡ report_number number report
report_is number [] = refl
report_is number (octet ∷ report) = refl

-- The outcome was recorded with the report that is due of it, as the change of this number, and is noted so.
pub record TakesOutcome {D : Type 0} (honest : Type 0) (words : DiskWords D) (reporter : Reporter) (changes : List Change)
    (outcome : Outcome) (records : Kept D) (number : ℕ) (noted : Noted) : Type 0 where
  pub number_is : number ≡ length changes + 1
  pub report : List ℕ
  pub reported : Reported reporter changes (reported_as outcome report)
  pub keeps : Keeps honest words records (changes ++ reported_as outcome report ∷ [])
  pub octets : noted.octets ≡ encode (reported_as outcome report)
  pub left : noted.left.items ≡ place_steps (queue_of changes) (reported_as outcome report)
  pub queues : noted.report ≡ is_text report

-- an outcome that was added, whose note was taken
pub outcome_added : {D : Type 0} (honest : Type 0) (words : DiskWords D) (reporter : Reporter) (changes : List Change)
    (outcome : Outcome) (used number : ℕ) (after : NodeState D) (noted : Noted) → after.records.noted ≡ Some noted
    → AddsOutcome honest words reporter changes outcome used after.records number
    → TakesOutcome honest words reporter changes outcome (without_note after).records number noted
outcome_added honest words reporter changes outcome used number after noted note_is adds =
    let is_noted : IsNoted (Some noted) changes (reported_as outcome adds.report) used =
    subst (λ n. IsNoted n changes (reported_as outcome adds.report) used) note_is adds.adds.noted in
    let same : is_noted.note ≡ noted = sym (same_Some noted is_noted.note is_noted.is) in
    record {
      number_is = adds.number_is;
      report = adds.report;
      reported = adds.reported;
      keeps = kept_without_note honest words after.records (changes ++ reported_as outcome adds.report ∷ [])
          adds.adds.keeps;
      octets = ap (λ (n : Noted). n.octets) (sym same) ∙ is_noted.octets;
      left = ap (λ (n : Noted). n.left.items) (sym same) ∙ is_noted.left;
      queues = ap (λ (n : Noted). n.report) (sym same) ∙ is_noted.report;
    }

-- the same of a reporter by another name for it
abbrev pub outcome_of_host : {D : Type 0} (honest : Type 0) (words : DiskWords D) (reporter other : Reporter)
    (changes : List Change) (outcome : Outcome) (records : Kept D) (number : ℕ) (noted : Noted) → reporter ≡ other
    → TakesOutcome honest words reporter changes outcome records number noted
    → TakesOutcome honest words other changes outcome records number noted
outcome_of_host honest words reporter other changes outcome records number noted same takes = record {
  number_is = takes.number_is;
  report = takes.report;
  reported = subst (λ (r : Reporter). Reported r changes (reported_as outcome takes.report)) same takes.reported;
  keeps = takes.keeps;
  octets = takes.octets;
  left = takes.left;
  queues = takes.queues;
}

-- What a world has taken down of an attempt that ended by an outcome of this number, with this note: its node is this
-- now.
pub record HasTakenOutcome {D : Type 0} (old new : World D) (number : ℕ) (of : AttemptOf old number)
    (after : NodeState D) (fate : Fate) (change : ℕ) (noted : Noted) : Type 0 where
  pub hosts : IsPut old.hosts new.hosts of.attempt.node
      (record of.host { state = Up after; records = of.host.records ++ noted.octets ∷ [] })
  pub ledger : new.ledger
      ≡ old.ledger
      ++ left_lines of.attempt.node of.attempt.message number (report_told change noted.report) noted.left.items
  pub attempts : IsPut old.attempts new.attempts of.place (record of.attempt { fate = fate })

pub outcome_taken : {D : Type 0} (old new : World D) (number : ℕ) (of : AttemptOf old number) (after : NodeState D)
    (fate : Fate) (change : ℕ) (records : RecordsOutcome old new number of after fate change)
    → HasTakenOutcome old new number of (without_note after) fate change records.noted
outcome_taken old new number of after fate change records =
    record { hosts = records.hosts; ledger = records.ledger; attempts = records.attempts }

module _ {D : Type 0} (honest : Type 0) (words : DiskWords D) (old new : World D) (lists : List (List Change))
    (node number : ℕ) (host : Host D) (changes : List Change) (before after : NodeState D) (outcome : Outcome)
    (change_now : ℕ) where
  -- what was there, and what was recorded, where the node is this now
  pub record Recording : Type 0 where
    pub bound : IsBound honest words old lists
    pub list_at : slice_get lists node ≡ Some changes
    pub kept : HostKeeps honest words host changes
    pub its_node : NodeKeeps honest words host.config before changes
    pub config : after.config ≡ before.config
    pub noted : Noted
    pub takes : TakesOutcome honest words (reporter_of host.config) changes outcome after.records change_now noted
    pub ledger : new.ledger
        ≡ old.ledger ++ left_lines node outcome.message number (report_told change_now noted.report) noted.left.items
    pub grows : length old.links ≤ length new.links
    pub few : number ≤ length new.links

  module _ (r : Recording) where
    abbrev grown : List Change
    grown = changes ++ reported_as outcome r.takes.report ∷ []

    abbrev told_lines : List Line
    told_lines = left_lines node outcome.message number (report_told change_now r.noted.report) r.noted.left.items

    number_is : change_now ≡ suc (length changes)
    number_is = r.takes.number_is ∙ add-one (length changes)

    report_told_is : report_told change_now r.noted.report ≡ report_number (suc (length changes)) r.takes.report
    report_told_is =
        ap (λ b. report_told change_now b) r.takes.queues
        ∙ ap (λ n. report_told n (is_text r.takes.report)) number_is
        ∙ report_is (suc (length changes)) r.takes.report

    pub fitting_now : Fitting grown
    fitting_now = r.takes.keeps.fitting

    pub found_now : change_at grown change_now ≡ Some (reported_as outcome r.takes.report)
    found_now = ap (λ n. change_at grown n) number_is ∙ get_last changes (reported_as outcome r.takes.report)

    pub steps_now : steps_in node new.ledger ≡ steps_of grown
    steps_now =
        ap (λ l. steps_in node l) r.ledger ∙ steps_in_more node old.ledger told_lines
        ∙ ap (λ l. l ++ steps_in node told_lines) (r.bound.ledger node changes r.list_at)
        ∙ ap (λ l. steps_of changes ++ l)
        (left_steps node outcome.message number (report_told change_now r.noted.report) r.noted.left.items)
        ∙ ap (λ (l : List (ℕ × PlaceStep)). steps_of changes
        ++ map (λ one. Becomes one.1 outcome.message one.0 (report_told change_now r.noted.report)) l) r.takes.left
        ∙ ap (λ n. steps_of changes
        ++ map (λ one. Becomes one.1 outcome.message one.0 n)
        (place_steps (queue_of changes) (reported_as outcome r.takes.report))) report_told_is
        ∙ sym (steps_more changes (reported_as outcome r.takes.report))

    pub other_steps : (other : ℕ) → other ≢ node → steps_in other new.ledger ≡ steps_in other old.ledger
    other_steps other off =
        ap (λ l. steps_in other l) r.ledger ∙ steps_in_more other old.ledger told_lines
        ∙ ap (λ l. steps_in other old.ledger ++ l)
        (left_elsewhere node other outcome.message number (report_told change_now r.noted.report) r.noted.left.items off)
        ∙ append-nil (steps_in other old.ledger)

    pub accepts_same : (other : ℕ) → accepts_on other new.ledger ≡ accepts_on other old.ledger
    accepts_same other =
        ap (λ l. accepts_on other l) r.ledger ∙ accepts_on_more other old.ledger told_lines
        ∙ ap (λ l. accepts_on other old.ledger ++ l)
        (none_left_accepted node other outcome.message number (report_told change_now r.noted.report) r.noted.left.items)
        ∙ append-nil (accepts_on other old.ledger)

    pub lines_now : AllByRecursion (λ line. link_of line ≤ length new.links) new.ledger
    lines_now = subst (λ l. AllByRecursion (λ line. link_of line ≤ length new.links) l) (sym r.ledger)
        (all_append (λ line. link_of line ≤ length new.links) old.ledger told_lines
        (lines_within (length old.links) (length new.links) old.ledger r.grows r.bound.lines)
        (left_within node outcome.message number (report_told change_now r.noted.report) (length new.links) r.noted.left.items
        r.few))

    pub keeps_now : HostKeeps honest words
        (record host { state = Up after; records = host.records ++ r.noted.octets ∷ [] }) grown
    keeps_now = record {
      list = record {
        fitting = fitting_now;
        records_are = ap (λ l. l ++ r.noted.octets ∷ []) r.kept.list.records_are
            ∙ ap (λ o. map encode changes ++ o ∷ []) r.takes.octets
            ∙ sym (map-append encode changes (reported_as outcome r.takes.report ∷ []));
      };
      holds = record { config_is = r.config ∙ r.its_node.config_is; keeps = r.takes.keeps };
      reports = reports_more (reporter_of host.config) [] changes (reported_as outcome r.takes.report) r.kept.reports
          r.takes.reported;
    }
