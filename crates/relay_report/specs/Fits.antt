-- A report that is due may be stored: it has text, and not too much.
use Rattle.std.specs.Prelude.{◌≡◌, ◌↔◌, ℕ, ◌+◌, ◌≤◌, ◌<◌, ◌^◌, false, List, [], length}
use Rattle.std.specs.List.{AllByRecursion}
use Rattle.relay_trace.specs.declared.moment.TheConstants.{LAST_SECOND}
use Rattle.relay_envelope.specs.HostName.{IsHostName}
use Rattle.relay_book.specs.Record.{IsAccept, IsRuling, MayBeHop}
use Rattle.relay_report.specs.Multipart.{Told}
use Rattle.relay_report.specs.Report.{IsDueReport, IsReport, is_due}

-- each value that is filled in may be stored
pub record MayBeTold (told : Told) : Type 0 where
  pub host : IsHostName told.host
  pub number : told.number < 2 ^ 64
  pub message : told.message.number < 2 ^ 64
  pub accept : IsAccept told.message.accept
  pub hop : MayBeHop told.hop
  pub at : told.at ≤ LAST_SECOND
  pub within : length told.rulings ≤ 100
  pub rulings : AllByRecursion IsRuling told.rulings

-- A report has at most 2^18 octets beside the stored text.
abbrev pub ReportIsShort : Type 0
ReportIsShort =
    (told : Told) (text : List ℕ) → MayBeTold told → IsReport told text
    → length text ≤ length told.message.accept.stored_text + 2 ^ 18

-- There is a report exactly if one is due, and it is short enough for the record of an outcome.
abbrev pub DueReportFits : Type 0
DueReportFits =
    (told : Told) (text : List ℕ) → MayBeTold told → IsDueReport told text
    → ((text ≡ []) ↔ (is_due told.message told.at told.rulings ≡ false)) × (length text ≤ 2 ^ 26)
