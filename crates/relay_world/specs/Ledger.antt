-- The ledger of a run: the steps in the custody of mail that each change of a node makes, in order.
use Rattle.std.specs.Prelude.{ℕ, suc, nat_eq, Bool, true, false, List, [], ◌∷◌, ◌++◌, length, map, if◌then◌else◌}
use Rattle.std.specs.List.{flat_map}
use Rattle.relay_book.specs.declared.change.Change.{Change}
use Rattle.relay_book.specs.declared.change.Change.TheVariants.{Accept, Outcome}
use Rattle.relay_book.specs.declared.fate.PlaceStep.{PlaceStep}
use Rattle.relay_book.specs.Queue.{queue_of}
use Rattle.relay_book.specs.Marks.{place_steps}
use Rattle.relay_records.specs.declared.noted.Noted.{Noted}
use Rattle.relay_world.specs.declared.line.Line.{Line}
use Rattle.relay_world.specs.declared.line.Line.TheVariants.{Accepted, Became}
use Rattle.relay_world.specs.World.{FromClient, FromLoss, FromGivingUp, FromReplies, Origin, Undecided}

-- A message was accepted with this many places; or a place of a message left or was reported as delayed, and a report
-- was queued under this number (0: none).
pub data Step : Type 0 where
  Accepts : (number places : ℕ) → Step
  Becomes : (step : PlaceStep) (number place report : ℕ) → Step

-- the number of the change if it queues a report, else 0
abbrev pub report_number : ℕ → List ℕ → ℕ
report_number number [] = 0
report_number number (octet ∷ report) = number

-- the steps of a change that follows these
abbrev pub steps_by : List Change → Change → List Step
steps_by changes (Accept accept) = Accepts (suc (length changes)) (length accept.envelope.recipients) ∷ []
steps_by changes (Outcome outcome) =
    map (λ one. Becomes one.1 outcome.message one.0 (report_number (suc (length changes)) outcome.report))
    (place_steps (queue_of changes) (Outcome outcome))

-- the steps of changes that follow these
abbrev pub steps_after : List Change → List Change → List Step
steps_after front [] = []
steps_after front (change ∷ changes) = steps_by front change ++ steps_after (front ++ change ∷ []) changes

-- the steps of a list of changes, in order
abbrev pub steps_of : List Change → List Step
steps_of changes = steps_after [] changes

-- the step that a line records for a node, if any
abbrev pub if_of_node : ℕ → Line → List Step
if_of_node node (Accepted other number places link) =
    if nat_eq other node then Accepts number places ∷ [] else []
if_of_node node (Became step other number place link report) =
    if nat_eq other node then Becomes step number place report ∷ [] else []

-- the steps that a ledger records for a node
abbrev pub steps_in : ℕ → List Line → List Step
steps_in node ledger = flat_map (if_of_node node) ledger

-- the accept that a line records on a link, if any: its number, and its number of places
abbrev pub if_accepted_on : ℕ → Line → List (ℕ × ℕ)
if_accepted_on link (Accepted node number places other) = if nat_eq other link then (number, places) ∷ [] else []
if_accepted_on link (Became step node number place other report) = []

-- the accepts on a link, in order
abbrev pub accepts_on : ℕ → List Line → List (ℕ × ℕ)
accepts_on link ledger = flat_map (if_accepted_on link) ledger

-- the number of a change if it queued a report, else 0
abbrev pub report_told : ℕ → Bool → ℕ
report_told number true = number
report_told number false = 0

-- the lines that an outcome of a message adds, one for each place that left or was delayed
abbrev pub left_lines : ℕ → ℕ → ℕ → ℕ → List (ℕ × PlaceStep) → List Line
left_lines node message link report left = map (λ one. Became one.1 node message one.0 link report) left

-- the lines that a noted change of a node adds, given what the change came from
abbrev pub lines_by : ℕ → Noted → Origin → List Line
lines_by node note (FromClient link) = Accepted node note.number note.accepted link ∷ []
lines_by node note (FromReplies link place message) =
    left_lines node message link (report_told note.number note.report) note.left.items
lines_by node note (FromLoss link place message) =
    left_lines node message link (report_told note.number note.report) note.left.items
lines_by node note (FromGivingUp message) =
    left_lines node message 0 (report_told note.number note.report) note.left.items

-- the lines that an undecided change of a node would add
abbrev pub lines_of : ℕ → Undecided → List Line
lines_of node undecided = lines_by node undecided.note undecided.origin
