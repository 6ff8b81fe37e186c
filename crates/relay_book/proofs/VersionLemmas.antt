-- Outcomes of later versions than the first report alike.
use Rattle.std.proofs.Common.{◌≡◌, ℕ, true, false, if◌then◌else◌, Option, None, Some, option_and_then, slice_get, refl, ap}
use Rattle.std.proofs.lemmas.Bool.{false≢true}
use Rattle.relay_envelope.specs.declared.parameters.Notify.{Notify}
use Rattle.relay_envelope.specs.declared.envelope.Recipient.{Recipient}
use Rattle.relay_book.specs.declared.version.Version.TheVariants.{WithoutDelay, WithDelay, WithWithdrawal}
use Rattle.relay_book.specs.declared.change.Ruling.{Ruling}
use Rattle.relay_book.specs.declared.due_report.DueReport.{DueReport}
use Rattle.relay_book.specs.declared.fate.Fate.{Fate}
use Rattle.relay_book.specs.declared.fate.Fate.TheVariants.{Waits, Late, Failed, Relayed, Removed}
use Rattle.relay_book.specs.declared.message.Message.{Message}
use Rattle.relay_book.specs.declared.message.Place.{Place}
use Rattle.relay_book.specs.DelayLaw.{LaterReportAlike}
use Rattle.relay_book.specs.DueReport.{due_for, due_report_of, fate_of, report_of_fate}
use Rattle.relay_book.specs.Record.{is_null}

same_of_fate : (notify : Option Notify) (place : Place) (fate : Fate)
    → report_of_fate WithWithdrawal notify place fate ≡ report_of_fate WithDelay notify place fate
same_of_fate notify place Waits = refl
same_of_fate notify place Late = refl
same_of_fate notify place Failed = refl
same_of_fate notify place (Relayed true) = refl
same_of_fate notify place (Relayed false) = refl
same_of_fate notify place (Removed withdrawal) = refl

module _ (message : Message) (at : ℕ) (ruling : Ruling) where
  of_recipient : (place : Place) (found : Option Recipient)
      → option_and_then
      (λ recipient. due_report_of WithWithdrawal message.accept.envelope.reverse_path recipient.notify place
      (fate_of message.accept.at at ruling.verdict)) found
      ≡ option_and_then
      (λ recipient. due_report_of WithDelay message.accept.envelope.reverse_path recipient.notify place
      (fate_of message.accept.at at ruling.verdict)) found
  of_recipient place None = refl
  of_recipient place (Some recipient) =
      ap (λ (due : Option DueReport). if is_null message.accept.envelope.reverse_path then None else due)
      (same_of_fate recipient.notify place (fate_of message.accept.at at ruling.verdict))

  of_place : (found : Option Place)
      → option_and_then (λ place. due_for WithWithdrawal message.accept at place ruling) found
      ≡ option_and_then (λ place. due_for WithDelay message.accept at place ruling) found
  of_place None = refl
  of_place (Some place) = of_recipient place (slice_get message.accept.envelope.recipients ruling.place)

pub later_report_alike : LaterReportAlike
later_report_alike WithoutDelay later message at ruling = absurd (false≢true later)
later_report_alike WithDelay later message at ruling = refl
later_report_alike WithWithdrawal later message at ruling = of_place message at ruling (slice_get message.places ruling.place)
