-- A report that is due may be stored.
use Rattle.std.proofs.Common.{◌≡◌, ◌↔◌, ℕ, ◌≤◌, ◌^◌, if◌then◌else◌, Bool, true, false, ◌||◌, List, [], ◌∷◌, ◌++◌, codes, length, slice_get, Option, None, Some, is_some, option_and_then, refl, sym, ap, ◌∙◌, arith}
use Rattle.std.proofs.lemmas.Bool.{false≢true}
use Rattle.relay_envelope.specs.declared.envelope.Recipient.{Recipient}
use Rattle.relay_book.specs.declared.change.Ruling.{Ruling}
use Rattle.relay_book.specs.declared.message.Message.{Message}
use Rattle.relay_book.specs.declared.message.Place.{Place}
use Rattle.relay_book.specs.declared.version.Version.TheVariants.{WithDelay}
use Rattle.relay_book.specs.DueReport.{due_for, due_report_of, fate_of, report_of_fate}
use Rattle.relay_book.specs.Record.{is_null}
use Rattle.relay_report.specs.StatusFields.{field}
use Rattle.relay_report.specs.Multipart.{Told, encoding_of, header_fields, origin_fields, postmaster_at, report_text, third_part}
use Rattle.relay_report.specs.Report.{IsReport, is_due}
use Rattle.relay_report.specs.Fits.{DueReportFits}
use Rattle.relay_report.proofs.ReportShortLemmas.{report_is_short}

-- no report is due for the null reverse path
null_reports : (message : Message) (at : ℕ) (rulings : List Ruling) → is_null message.accept.envelope.reverse_path ≡ true → is_due message at rulings ≡ false
null_reports message at [] null = refl
null_reports message at (ruling ∷ rulings) null =
    (λ i. first (slice_get message.places ruling.place) i || is_due message at rulings) ∙ null_reports message at rulings null
  where
    of_recipient : (place : Place) (o : Option Recipient)
        → is_some (option_and_then (λ recipient. due_report_of WithDelay message.accept.envelope.reverse_path recipient.notify place (fate_of message.accept.at at ruling.verdict)) o)
        ≡ false
    of_recipient place None = refl
    of_recipient place (Some recipient) =
        ap (λ (test : Bool). is_some (if test then None else report_of_fate WithDelay recipient.notify place (fate_of message.accept.at at ruling.verdict))) null

    first : (o : Option Place) → is_some (option_and_then (λ place. due_for WithDelay message.accept at place ruling) o) ≡ false
    first None = refl
    first (Some place) = of_recipient place (slice_get message.accept.envelope.recipients ruling.place)

-- a report has text
begun : (front back : List ℕ) → (front ≡ [] → ⊥) → front ++ back ≡ [] → ⊥
begun [] back some none = some refl
begun (octet ∷ front) back some none = cc

from_is_some : (body : List ℕ) → field (codes "From") body ≡ [] → ⊥
unfolding field
from_is_some body none = cc

origin_is_some : (told : Told) (date : List ℕ) → origin_fields told date ≡ [] → ⊥
unfolding origin_fields
origin_is_some told date =
    begun _ _ (begun _ _ (begun _ _ (begun _ _ (begun _ _ (from_is_some (postmaster_at told.host))))))

header_is_some : (told : Told) (date encoding : List ℕ) → header_fields told date encoding ≡ [] → ⊥
unfolding header_fields
header_is_some told date encoding = begun _ _ (begun _ _ (origin_is_some told date))

text_is_some : (told : Told) (date arrival : List ℕ) (until : Option (List ℕ)) (boundary : List ℕ) → report_text told date arrival until boundary ≡ [] → ⊥
unfolding report_text
text_is_some told date arrival until boundary =
    begun _ _ (begun _ _ (begun _ _ (header_is_some told date (encoding_of told.form (third_part told)))))

report_is_some : (told : Told) (text : List ℕ) → IsReport told text → text ≡ [] → ⊥
report_is_some told text is none = text_is_some told is.date is.arrival is.until is.boundary (sym is.text_is ∙ none)

limit_is : (test : Bool) → test ≡ false → (if test then 2 ^ 26 else 2 ^ 25) ≤ 2 ^ 25
limit_is true e = absurd (false≢true (sym e))
limit_is false e = omega arith

pub due_report_fits : DueReportFits
due_report_fits told text may is = by (is_due told.message told.at told.rulings) refl
  where
    short : (test : Bool) → is_null told.message.accept.envelope.reverse_path ≡ test → is_due told.message told.at told.rulings ≡ true → length text ≤ 2 ^ 26
    short true null due = absurd (false≢true (sym (null_reports told.message told.at told.rulings null) ∙ due))
    short false null due =
        let all = report_is_short told text may (is.due due) in
        let stored = may.accept.text in
        let limit = limit_is (is_null told.message.accept.envelope.reverse_path) null in
        omega (arith, all, stored, limit)

    by : (test : Bool) → is_due told.message told.at told.rulings ≡ test
        → ((text ≡ []) ↔ (is_due told.message told.at told.rulings ≡ false)) × (length text ≤ 2 ^ 26)
    by true due = ((λ none. absurd (report_is_some told text (is.due due) none), λ not_due. absurd (false≢true (sym not_due ∙ due))), short (is_null told.message.accept.envelope.reverse_path) refl due)
    by false none = ((λ _. none, λ _. is.none none), omega (arith, ap length (is.none none)))
