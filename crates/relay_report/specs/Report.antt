-- The report of an outcome (RFC 3461, section 6; RFC 3464): its text, and that it is there exactly if it is due.
use Rattle.std.specs.Prelude.{◌≡◌, ℕ, ◌+◌, ◌<◌, Bool, true, false, List, [], Option, None, Some, MatchOption}
use Rattle.std.specs.List.{list_any}
use Rattle.relay_trace.specs.DateTime.{IsDateText}
use Rattle.relay_trace.specs.declared.moment.TheConstants.{LAST_SECOND}
use Rattle.relay_routes.specs.declared.config.Config.{Config}
use Rattle.relay_routes.specs.declared.report_form.ReportForm.{ReportForm}
use Rattle.relay_book.specs.declared.version.Version.TheVariants.{WithDelay}
use Rattle.relay_book.specs.DueReport.{patience, reports_delay}
use Rattle.relay_book.specs.declared.change.Ruling.{Ruling}
use Rattle.relay_book.specs.declared.change.Outcome.{Outcome as OutcomeFields}
use Rattle.relay_book.specs.declared.change.Change.{Change}
use Rattle.relay_book.specs.declared.change.Change.TheVariants.{Accept, Outcome}
use Rattle.relay_book.specs.declared.message.Message.{Message}
use Rattle.relay_book.specs.Queue.{Queue, message_of, queue_of, reports_at}
use Rattle.relay_report.specs.declared.report.Report.{Report}
use Rattle.relay_report.specs.Boundary.{IsBoundary}
use Rattle.relay_report.specs.Multipart.{Told, first_part, second_part, third_part, report_text}

-- what a value of the code tells of
abbrev pub told_of : Report → Told
told_of report = record {
  form = report.form;
  host = report.host.now;
  number = report.number;
  message = report.message.now;
  hop = report.hop.now;
  rulings = report.rulings.now;
  at = report.at;
}

-- the date until which a place is tried that was accepted at this time, and none if it can't be written
abbrev pub IsUntil : ℕ → Option (List ℕ) → Type 0
IsUntil accepted None = LAST_SECOND < accepted + patience
IsUntil accepted (Some date) = IsDateText (accepted + patience) date

-- the text is the report that tells of this
pub record IsReport (told : Told) (text : List ℕ) : Type 0 where
  pub date : List ℕ
  pub arrival : List ℕ
  pub until : Option (List ℕ)
  pub boundary : List ℕ
  pub date_is : IsDateText told.at date
  pub arrival_is : IsDateText told.message.accept.at arrival
  pub until_is : IsUntil told.message.accept.at until
  pub boundary_is : IsBoundary told.number (first_part told arrival until) (second_part told date arrival until)
      (third_part told) boundary
  pub text_is : text ≡ report_text told date arrival until boundary

-- a report is due of one of the places
abbrev pub is_due : Message → ℕ → List Ruling → Bool
is_due message at rulings = list_any (reports_at WithDelay message at) rulings

-- the text is the report that is owed, and empty where none is
pub record IsDueReport (told : Told) (text : List ℕ) : Type 0 where
  pub due : is_due told.message told.at told.rulings ≡ true → IsReport told text
  pub none : is_due told.message told.at told.rulings ≡ false → text ≡ []

-- who reports: a host of this name, in this form
pub record Reporter : Type 0 where
  pub host : List ℕ
  pub form : ReportForm

-- the one of this name and form
abbrev pub reporter : List ℕ → ReportForm → Reporter
reporter host form = record { host = host; form = form }

-- the one that a configuration says
abbrev pub reporter_of : Config → Reporter
reporter_of config = reporter config.host config.reports

-- what the report of an outcome for this message tells of, as it is made by this reporter under this number
abbrev pub told_by : Reporter → ℕ → OutcomeFields → Message → Told
told_by reporter number outcome message = record {
  form = reporter.form;
  host = reporter.host;
  number = number;
  message = message;
  hop = outcome.hop;
  rulings = outcome.rulings;
  at = outcome.at;
}

-- an outcome, not of the first version, is reported of the message that it is for
pub record IsReportedOf (reporter : Reporter) (number : ℕ) (outcome : OutcomeFields) (message : Message) : Type 0 where
  pub version : reports_delay outcome.version ≡ true
  pub report : IsDueReport (told_by reporter number outcome message) outcome.report

-- A change after a queue: an outcome of it is not of the first version, and has the report that is owed, from this
-- reporter, under the number of the change, and none if none is due.
abbrev pub ReportedFrom : Reporter → Queue → Change → Type 0
ReportedFrom reporter queue (Accept accept) = Unit {0}
ReportedFrom reporter queue (Outcome outcome) =
    MatchOption (message_of queue.messages outcome.message) ⊥ (IsReportedOf reporter queue.next outcome)

-- the same after a list of changes
abbrev pub Reported : Reporter → List Change → Change → Type 0
Reported reporter changes change = ReportedFrom reporter (queue_of changes) change
