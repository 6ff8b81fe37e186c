-- Changes that a node awaits after a call more, and what is told of an attempt by them.
use Rattle.std.proofs.Common.{inl, inr, ◌≡◌, ◌⊎◌, ◌++◌, ◌∷◌, ℕ, List, [], Option, None, Some, fold, refl, sym, ap}
use Rattle.std.proofs.Common.{subst, ◌∙◌, append-nil, append_assoc}
use Rattle.relay_disk.specs.Device.{DiskWords}
use Rattle.relay_slots.specs.Slots.{slot_at}
use Rattle.relay_book.specs.declared.change.Change.{Change}
use Rattle.relay_book.specs.declared.change.Change.TheVariants as change
use Rattle.relay_book.specs.Queue.{FitsFrom, Fitting, Queue, empty_queue, step}
use Rattle.relay_records.specs.Records.{Kept}
use Rattle.relay_records.specs.Staged.{Awaits, Row}
use Rattle.relay_attempts.specs.AddedOutcome.{reported_as}
use Rattle.relay_attempts.specs.declared.reply.Replied.{Replied}
use Rattle.relay_attempts.specs.declared.runs.Run.{Run}
use Rattle.relay_attempts.specs.Reply.{Told, outcome_at}
use Rattle.relay_node.specs.Attempts.{Tells}
use Rattle.relay_node.specs.Node.{NodeState}
use Rattle.relay_node.specs.StagedReplies.{RepliesInto}
use Rattle.relay_node.specs.Staging.{IsStaged}
use Rattle.relay_node.proofs.Theorems.{told_stays}
use Rattle.relay_report.specs.Report.{Reporter}

-- no change, or one
abbrev pub AtMostOne : List Change → Type 0
AtMostOne more = (more ≡ []) ⊎ ((change : Change) × (more ≡ change ∷ []))

pub one_staged : (next : ℕ) (made : Option ℕ) (more : List Change) → IsStaged next made more → AtMostOne more
one_staged next None more none = inl none
one_staged next (Some number) more staged = inr (change.Accept staged.0, staged.2)

-- changes that fit after others that do
fit_after : (queue : Queue) (changes pending : List Change) → FitsFrom queue changes
    → FitsFrom (fold step queue changes) pending → FitsFrom queue (changes ++ pending)
fit_after queue [] pending first second = second
fit_after queue (one ∷ changes) pending first second =
    (first.0, fit_after (step queue one) changes pending first.1 second)

module _ {D : Type 0} (honest : Type 0) (words : DiskWords D) (changes pending : List Change) where
  pub awaited_fit : (records : Kept D) (row : Row) → Awaits honest words records changes pending row
      → Fitting (changes ++ pending)
  awaited_fit records row awaits = fit_after empty_queue changes pending awaits.fitting awaits.fits

  -- records and row that are the same await no change more
  pub awaits_still : (old new : Kept D) (row left : Row) → new ≡ old → left ≡ row
      → Awaits honest words old changes pending row → Awaits honest words new changes (pending ++ []) left
  awaits_still old new row left same unmoved awaits =
      subst (λ (l : List Change). Awaits honest words new changes l left) (sym (append-nil pending))
      (subst (λ (r : Row). Awaits honest words new changes pending r) (sym unmoved)
      (subst (λ (k : Kept D). Awaits honest words k changes pending row) (sym same) awaits))

  -- the changes that a node awaits after it has read a reply
  pub record ReadMore (new : Kept D) (left : Row) : Type 0 where
    pub more : List Change
    pub few : AtMostOne more
    pub awaits : Awaits honest words new changes (pending ++ more) left

  pub read_more : (reporter : Reporter) (at number : ℕ) (told : Told) (row left : Row) (piece : List ℕ)
      (old new : NodeState D) (replied : Replied) (made : Option ℕ)
      → RepliesInto honest words reporter at changes pending number told row piece old new left replied made
      → Awaits honest words old.records changes pending row → ReadMore new.records left
  read_more reporter at number told row left piece old new replied None reads awaits = record {
    more = [];
    few = inl refl;
    awaits = awaits_still old.records new.records row left reads.same reads.row_is awaits;
  }
  read_more reporter at number told row left piece old new replied (Some number_made) reads awaits = record {
    more = reported_as (outcome_at at told reads.verdicts) reads.stages.report ∷ [];
    few = inr (reported_as (outcome_at at told reads.verdicts) reads.stages.report, refl);
    awaits = reads.stages.awaits;
  }

-- What is told of an attempt stays so while it is the same, and at most one change more is pending.
module _ (host : List ℕ) (old new : List (Option Run)) (number : ℕ) (told : Told)
    (same : slot_at new number ≡ slot_at old number) where
  tells_still : (list : List Change) → Tells host list old number told → Tells host list new number told
  tells_still list tells = record {
    run = tells.run;
    at = same ∙ tells.at;
    its_message = tells.its_message;
    its_hop = tells.its_hop;
    its_places = tells.its_places;
    accept = tells.accept;
    accepted = tells.accepted;
    envelope_is = tells.envelope_is;
    text_is = tells.text_is;
    follows = tells.follows;
  }

  pub tells_more : (changes pending more : List Change) → AtMostOne more → Fitting (changes ++ (pending ++ more))
      → Tells host (changes ++ pending) old number told → Tells host (changes ++ (pending ++ more)) new number told
  tells_more changes pending more (inl none) fitting tells =
      let is : changes ++ (pending ++ more) ≡ changes ++ pending =
      ap (λ (l : List Change). changes ++ (pending ++ l)) none
      ∙ ap (λ (l : List Change). changes ++ l) (append-nil pending) in
      subst (λ (l : List Change). Tells host l new number told) (sym is) (tells_still (changes ++ pending) tells)
  tells_more changes pending more (inr one) fitting tells =
      let is : changes ++ (pending ++ more) ≡ (changes ++ pending) ++ one.0 ∷ [] =
      ap (λ (l : List Change). changes ++ (pending ++ l)) one.1 ∙ sym (append_assoc changes pending (one.0 ∷ [])) in
      subst (λ (l : List Change). Tells host l new number told) (sym is)
      (told_stays host (changes ++ pending) one.0 old new number told (subst Fitting is fitting) same tells)
