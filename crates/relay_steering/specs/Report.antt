-- What `return` and `discard` report.
use Rattle.std.specs.Prelude.{◌≡◌, ℕ, ◌+◌, ◌-◌, ◌^◌, min, List, [], ◌∷◌, ◌++◌, codes, decimal, length}
use Rattle.relay_arguments.specs.declared.withdrawing.Removal.{Removal}
use Rattle.relay_arguments.specs.declared.withdrawing.Removal.TheVariants.{Return, Discard}
use Rattle.relay_queue.specs.declared.groups.Selected.{Selected}
use Rattle.relay_steering.specs.declared.offline.Outcome.{Outcome}
use Rattle.relay_steering.specs.declared.offline.Outcome.TheVariants.{Withdrawn, Unknown, Busy, Full}
use Rattle.relay_steering.specs.declared.report.Report.{Report}

-- what was done to the recipients, in a word
abbrev pub done_word : Removal → List ℕ
done_word Return = codes "returned"
done_word Discard = codes "discarded"

-- the last line of a report: how many recipients were withdrawn
abbrev pub count_line : Removal → ℕ → List ℕ
count_line removal recipients = done_word removal ++ (codes " recipients=" ++ decimal recipients ++ codes "\n")

-- what is printed of a report: a line for each message that was refused, and the last one
abbrev pub report_text : Report → List ℕ
report_text report = report.refused.items ++ count_line report.removal report.recipients

-- the line after a preview, which says how to withdraw the mail that it shows
abbrev pub hint_line : Removal → List ℕ
hint_line Return = codes "nothing was returned; add --yes to return this mail\n"
hint_line Discard = codes "nothing was discarded; add --yes to discard this mail\n"

-- the line of a message that was refused: its number, and why
abbrev pub refused_line : Selected → Outcome → List ℕ
refused_line selected Withdrawn = []
refused_line selected Unknown = (decimal selected.message ++ codes " unknown") ++ 10 ∷ []
refused_line selected Busy = (decimal selected.message ++ codes " busy") ++ 10 ∷ []
refused_line selected Full = (decimal selected.message ++ codes " full") ++ 10 ∷ []

-- how many recipients of a message were withdrawn
abbrev pub withdrawn_of : Selected → Outcome → ℕ
withdrawn_of selected Withdrawn = length selected.places.items
withdrawn_of selected Unknown = 0
withdrawn_of selected Busy = 0
withdrawn_of selected Full = 0

-- the lines of the messages that were refused, in their order
abbrev pub refused_lines : List Selected → List Outcome → List ℕ
refused_lines messages [] = []
refused_lines [] (outcome ∷ outcomes) = []
refused_lines (selected ∷ messages) (outcome ∷ outcomes) =
    refused_line selected outcome ++ refused_lines messages outcomes

-- how many recipients were withdrawn in all
abbrev pub withdrawn_in : List Selected → List Outcome → ℕ
withdrawn_in messages [] = 0
withdrawn_in [] (outcome ∷ outcomes) = 0
withdrawn_in (selected ∷ messages) (outcome ∷ outcomes) = withdrawn_of selected outcome + withdrawn_in messages outcomes

-- the report tells these outcomes too
pub record TellsMore (messages : List Selected) (outcomes : List Outcome) (old new : Report) : Type 0 where
  pub removal : new.removal ≡ old.removal
  pub recipients : new.recipients ≡ min (old.recipients + withdrawn_in messages outcomes) (2 ^ 64 - 1)
  pub refused : new.refused.items ≡ old.refused.items ++ refused_lines messages outcomes
