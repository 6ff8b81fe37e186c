-- What `return` and `discard` do to a spool on which no relay runs: exactly the selected places end, and nothing else
-- changes.
use Rattle.std.specs.Prelude.{◌≡◌, ◌⊎◌, ℕ, List, [], ◌∷◌, ◌++◌, None}
use Rattle.std.specs.Option.{option_copied}
use Rattle.relay_disk.specs.Device.{DiskWords}
use Rattle.relay_arguments.specs.declared.withdrawing.Choice.{Choice}
use Rattle.relay_arguments.specs.declared.withdrawing.Removal.{Removal}
use Rattle.relay_arguments.specs.declared.withdrawing.Removal.TheVariants as asks
use Rattle.relay_attempts.specs.Withdrawals.{AddsWithdrawal, CutsWithdrawal, EndsWithdrawal, RefusesToWithdraw}
use Rattle.relay_book.specs.declared.change.Change.{Change}
use Rattle.relay_book.specs.declared.change.Withdrawal.{Withdrawal}
use Rattle.relay_book.specs.declared.change.Withdrawal.TheVariants as how
use Rattle.relay_files.specs.declared.fault.Fault.{Fault}
use Rattle.relay_files.specs.declared.fault.Fault.TheVariants.{Device, NoMemory}
use Rattle.relay_node.specs.Node.{NodeState}
use Rattle.relay_queue.specs.declared.groups.Selected.{Selected}
use Rattle.relay_queue.specs.declared.selection.Selection.{Selection}
use Rattle.relay_records.specs.Records.{Keeps}
use Rattle.relay_records.specs.declared.fault.NodeFault.{NodeFault}
use Rattle.relay_records.specs.declared.fault.NodeFault.TheVariants as fault
use Rattle.relay_report.specs.Report.{reporter_of}
use Rattle.relay_steering.specs.declared.offline.Outcome.{Outcome}
use Rattle.relay_steering.specs.declared.offline.Outcome.TheVariants.{Withdrawn, Unknown, Busy, Full}
use Rattle.relay_steering.specs.declared.report.Report.{Report}
use Rattle.relay_steering.specs.Report.{TellsMore}

-- how the subcommands `return` and `discard` withdraw mail
abbrev pub withdrawal_by : Removal → Withdrawal
withdrawal_by asks.Return = how.Return
withdrawal_by asks.Discard = how.Discard

-- the selection takes the mail that the options choose
pub record Chooses (choice : Choice) (selection : Selection) : Type 0 where
  pub numbers : option_copied selection.numbers ≡ option_copied choice.numbers
  pub hop : option_copied selection.filter.hop ≡ option_copied choice.hop
  pub reverse_path : option_copied selection.filter.reverse_path ≡ option_copied choice.from
  pub path : option_copied selection.filter.path ≡ option_copied choice.to
  pub age : selection.filter.age ≡ None

-- some of the messages, in the same order
abbrev pub AreSome : List Selected → List Selected → Type 0
AreSome [] all = Unit {0}
AreSome (one ∷ some) [] = ⊥
AreSome (one ∷ some) (first ∷ all) = ((one ≡ first) × AreSome some all) ⊎ AreSome (one ∷ some) all

-- the configuration, the sessions and the attempts are the same
pub record KeepsAllButMail {D : Type 0} (old new : NodeState D) : Type 0 where
  pub config : new.config ≡ old.config
  pub seats : new.seats ≡ old.seats
  pub attempts : new.attempts ≡ old.attempts

-- The words below are of places that the postmaster withdraws at a time.
module _ {D : Type 0} (honest : Type 0) (words : DiskWords D) (at : ℕ) (withdrawal : Withdrawal) where
  -- Exactly the selected places of the message have ended. In a list of changes that is one change more, the
  -- withdrawal.
  pub record Withdraws (selected : Selected) (old new : NodeState D) : Type 0 where
    pub number : ℕ
    pub ends : EndsWithdrawal words (reporter_of old.config) old.attempts selected.message at withdrawal
        selected.places.items old.records new.records number
    pub adds : (changes : List Change) → Keeps honest words old.records changes
        → AddsWithdrawal honest words (reporter_of old.config) selected.message at withdrawal selected.places.items
        changes old.records new.records number
    pub rest : KeepsAllButMail old new

  -- they haven't, for this reason, and no mail has changed
  pub record Refuses (selected : Selected) (why : NodeFault) (old new : NodeState D) : Type 0 where
    pub why_is : RefusesToWithdraw words (reporter_of old.config) old.attempts selected.message at withdrawal
        selected.places.items old.records new.records why
    pub same : new.records ≡ old.records
    pub rest : KeepsAllButMail old new

  -- the outcome of withdrawing the selected places of a message
  abbrev pub HasOutcome : Outcome → Selected → NodeState D → NodeState D → Type 0
  HasOutcome Withdrawn selected old new = Withdraws selected old new
  HasOutcome Unknown selected old new = Refuses selected fault.Unknown old new
  HasOutcome Busy selected old new = Refuses selected fault.Busy old new
  HasOutcome Full selected old new = Refuses selected fault.Full old new

  -- these are the outcomes of the messages, one after the other
  abbrev pub HaveOutcomes : List Selected → List Outcome → NodeState D → NodeState D → Type 0
  HaveOutcomes [] [] old new = new ≡ old
  HaveOutcomes [] (outcome ∷ outcomes) old new = ⊥
  HaveOutcomes (selected ∷ all) [] old new = ⊥
  HaveOutcomes (selected ∷ all) (outcome ∷ outcomes) old new =
      (between : NodeState D) × HasOutcome outcome selected old between × HaveOutcomes all outcomes between new

  -- the device failed while the selected places ended
  pub record Stops (selected : Selected) (old new : NodeState D) : Type 0 where
    pub why_is : RefusesToWithdraw words (reporter_of old.config) old.attempts selected.message at withdrawal
        selected.places.items old.records new.records fault.Stopped
    pub cuts : (changes : List Change) → Keeps honest words old.records changes
        → CutsWithdrawal honest words (reporter_of old.config) selected.message at withdrawal selected.places.items
        changes old.records new.records
    pub rest : KeepsAllButMail old new

  -- the selected places of a message have no outcome: memory ran out, and no mail has changed, or the device failed
  abbrev pub FailsToWithdraw : Fault → Selected → NodeState D → NodeState D → Type 0
  FailsToWithdraw NoMemory selected old new = Refuses selected fault.NoMemory old new
  FailsToWithdraw Device selected old new = Stops selected old new
  FailsToWithdraw other selected old new = ⊥

  -- the first of the messages without an outcome failed
  pub record FailsAmong (all : List Selected) (outcomes : List Outcome) (why : Fault) (old new : NodeState D)
      : Type 0 where
    pub front : List Selected
    pub selected : Selected
    pub back : List Selected
    pub parts : all ≡ front ++ selected ∷ back
    pub between : NodeState D
    pub have : HaveOutcomes front outcomes old between
    pub fails : FailsToWithdraw why selected between new

-- the messages have outcomes, at some time, and the report tells them
pub record AreWithdrawn {D : Type 0} (honest : Type 0) (words : DiskWords D) (withdrawal : Withdrawal)
    (messages : List Selected) (old_report new_report : Report) (old new : NodeState D) : Type 0 where
  pub at : ℕ
  pub outcomes : List Outcome
  pub have : HaveOutcomes honest words at withdrawal messages outcomes old new
  pub told : TellsMore messages outcomes old_report new_report
