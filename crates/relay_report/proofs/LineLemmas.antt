-- A report's header section and its first two parts are short lines.
use Rattle.std.proofs.Common.{◌≡◌, inl, inr, ℕ, zero, suc, ◌+◌, ◌-◌, ◌<◌, ◌≤◌, ◌^◌, nat_le, Bool, true, false, ◌&&◌, ◌==◌, if◌then◌else◌, List, [], ◌∷◌, ◌++◌, codes, decimal, length, take, drop, slice_get, Option, None, Some, refl, sym, ap, subst, ◌∙◌, arith, append_assoc, length-append}
use Rattle.std.proofs.lemmas.Bool.{and_parts, cases_Bool, eqb-true, leb-true}
use Rattle.std.proofs.lemmas.List.{length-take, length-drop, take_at}
use Rattle.std.specs.List.{flat_map, AllByRecursion, count_by, list_all, list_any, position_or_len}
use Rattle.std.specs.Option.{option_map_or}
use Rattle.relay_octets.specs.Line.{HasNoCrlf, begins_with_lf, crlf, ends_in_cr, lines_text}
use Rattle.relay_octets.proofs.Theorems.{no_crlf_by_test, no_crlf_joined}
use Rattle.relay_trace.specs.DateTime.{IsDateText}
use Rattle.relay_trace.specs.HeaderSection.{IsFilledLine, header_end_of, is_received, received_count_of}
use Rattle.relay_trace.proofs.Theorems.{date_text_has_31_octets, date_text_has_no_crlf, header_ends_at_empty_line, header_goes_on}
use Rattle.relay_envelope.specs.Parameters.{address_of, address_type_of, is_octet}
use Rattle.relay_envelope.specs.Envelope.{IsRecipient, may_be_envid, may_be_orcpt}
use Rattle.relay_envelope.specs.declared.envelope.Recipient.{Recipient}
use Rattle.relay_routes.specs.declared.report_form.ReportForm.{ReportForm}
use Rattle.relay_routes.specs.declared.report_form.ReportForm.TheVariants.{Plain, Rich}
use Rattle.relay_book.specs.declared.change.Ruling.{Ruling}
use Rattle.relay_book.specs.declared.change.Verdict.{Verdict}
use Rattle.relay_book.specs.declared.change.Verdict.TheVariants.{Taken, Refused, Later, CantSend, NoRoute, Withdrawn}
use Rattle.relay_book.specs.declared.change.Withdrawal.TheVariants.{Return, Discard}
use Rattle.relay_book.specs.declared.due_report.DueReport.{DueReport}
use Rattle.relay_book.specs.declared.due_report.DueReport.TheVariants.{OfFailure, OfRelay, OfDelay}
use Rattle.relay_book.specs.DueReport.{patience}
use Rattle.relay_book.specs.Record.{IsRuling, IsVerdict}
use Rattle.relay_report.specs.StatusFields.{action_of, address_in, attempt_fields, diagnostic_code, field, last_attempt_date, message_fields, original_envelope_id, original_recipient, plain_of, recipient_fields, remote_mta, reply_words, retry_until, status_of, status_of_left, status_of_refused, typed, will_retry_until}
use Rattle.relay_report.specs.StatusCode.{first_word, is_failure_code, refusal_status}
use Rattle.relay_report.specs.Sentences.{greeting, place_lines}
use Rattle.relay_report.specs.Multipart.{Told, dash_boundary, due_at, encoding_of, fields_of, first_part, first_part_as, header_fields, if_due, is_eight_bit, line_of, multipart_text, plain_first_part, recipient_line, report_text, report_type, returned_type, returns_whole, rich_first_part, second_part, sentences_of, third_part, title_line}
use Rattle.relay_report.specs.Fits.{MayBeTold}
use Rattle.relay_report.specs.Report.{IsReport, IsUntil}
use Rattle.relay_report.specs.Lines.{BreaksNoLine, HasPlainEnvid, HasPlainOrcpt, HasShortLines, IsPlainRecipient, IsPlainRuling, IsPlainVerdict, IsShortLine, ReportHasNoReceived, ReportHasShortLines}
use Rattle.relay_report.proofs.ApartLemmas.{IsAbove, is_above}
use Rattle.relay_report.proofs.HeaderLemmas.{above_none, and_false, boundary_above, closed, decimal_above, form_lines, header_filled, header_is, header_lines, headed, origin_filled, origin_lines, subject_fits, type_filled, type_lines}
use Rattle.relay_report.proofs.ShortLineLemmas.{IsShortDate, IsShortDay, each_joined, empty_line, field_line, joined, no_lines, one_line, part_none, typed_field, words_none}
use Rattle.relay_report.proofs.SentenceLemmas.{greeting_lines, place_lines_are}
use Rattle.relay_report.proofs.ReportShortLemmas.{boundary_short, front_short}
use Rattle.relay_report.proofs.ShortLemmas.{action_short, envid_short, hop_short, number_short, orcpt_short, plain_short, status_short, words_short, written_short}
use Rattle.relay_report.proofs.PlainLemmas.{told_breaks_no_line}

-- the fields of the message
envelope_id_lines : (envid : Option (List ℕ)) → HasPlainEnvid envid → may_be_envid envid ≡ true → HasShortLines (original_envelope_id envid)
envelope_id_lines None plain may = no_lines
envelope_id_lines (Some envid) plain may =
    field_line (codes "Original-Envelope-Id") (plain_of envid) refl refl plain (omega (arith, envid_short envid may, plain_short envid))

message_lines : (host arrival : List ℕ) (envid : Option (List ℕ)) → HasNoCrlf host → length host ≤ 255 → IsShortDate arrival → HasPlainEnvid envid → may_be_envid envid ≡ true
    → HasShortLines (message_fields host arrival envid)
message_lines host arrival envid none few date plain may =
    joined (original_envelope_id envid ++ field (codes "Reporting-MTA") (typed (codes "dns") host)) (field (codes "Arrival-Date") arrival)
    (joined (original_envelope_id envid) (field (codes "Reporting-MTA") (typed (codes "dns") host)) (envelope_id_lines envid plain may)
    (typed_field (codes "Reporting-MTA") (codes "dns") host refl refl (no_crlf_by_test (codes "dns") refl) none (omega (arith, few))))
    (field_line (codes "Arrival-Date") arrival refl refl date.plain (omega (arith, date.size)))

-- the fields of a recipient
original_lines : (orcpt : Option (List ℕ)) → HasPlainOrcpt orcpt → may_be_orcpt orcpt ≡ true → HasShortLines (original_recipient orcpt)
original_lines None plain may = no_lines
original_lines (Some orcpt) plain may =
    let short = orcpt_short orcpt may in
    let kind : length (address_type_of orcpt) + length (address_of orcpt) ≤ length orcpt + 1 = halves orcpt in
    typed_field (codes "Original-Recipient") (address_type_of orcpt) (plain_of (address_of orcpt)) refl refl plain.0 plain.1 (omega (arith, short, kind, plain_short (address_of orcpt)))
  where
    halves : (orcpt : List ℕ) → length (address_type_of orcpt) + length (address_of orcpt) ≤ length orcpt + 1
    halves orcpt = omega (arith, length-take (position_or_len (is_octet 59) orcpt) orcpt, length-drop (position_or_len (is_octet 59) orcpt + 1) orcpt)

action_none : (due : DueReport) → HasNoCrlf (action_of due)
action_none OfFailure = no_crlf_by_test (codes "failed") refl
action_none OfRelay = no_crlf_by_test (codes "relayed") refl
action_none OfDelay = no_crlf_by_test (codes "delayed") refl

refusal_none : (test : Bool) (text : List ℕ) → HasNoCrlf text → HasNoCrlf (if test then first_word text else codes "5.0.0")
refusal_none true text none = part_none text (position_or_len (is_octet 32) text) 0 none
refusal_none false text none = no_crlf_by_test (codes "5.0.0") refl

refused_none : (form : ReportForm) (code : ℕ) (text : List ℕ) → HasNoCrlf text → HasNoCrlf (status_of_refused form code text)
unfolding refusal_status
refused_none Plain code text none = no_crlf_by_test (codes "5.0.0") refl
refused_none Rich code text none = refusal_none (nat_le 500 code && is_failure_code (first_word text)) text none

left_none : (form : ReportForm) (verdict : Verdict) → IsPlainVerdict verdict → HasNoCrlf (status_of_left form verdict)
left_none form (Taken dsn) plain = no_crlf_by_test (codes "2.0.0") refl
left_none form (Refused code text) plain = refused_none form code text plain
left_none form Later plain = no_crlf_by_test (codes "4.4.7") refl
left_none form CantSend plain = no_crlf_by_test (codes "5.6.3") refl
left_none form NoRoute plain = no_crlf_by_test (codes "5.1.2") refl
left_none form (Withdrawn withdrawal) plain = no_crlf_by_test (codes "5.0.0") refl

status_none : (form : ReportForm) (due : DueReport) (verdict : Verdict) → IsPlainVerdict verdict → HasNoCrlf (status_of form due verdict)
status_none form OfFailure verdict plain = left_none form verdict plain
status_none form OfRelay verdict plain = left_none form verdict plain
status_none form OfDelay verdict plain = no_crlf_by_test (codes "4.0.0") refl

mta_line : (hop : List ℕ) → HasNoCrlf hop → length hop ≤ 255 → HasShortLines (field (codes "Remote-MTA") (typed (codes "dns") hop))
mta_line hop none few = typed_field (codes "Remote-MTA") (codes "dns") hop refl refl (no_crlf_by_test (codes "dns") refl) none (omega (arith, few))

remote_lines : (hop : List ℕ) (verdict : Verdict) → HasNoCrlf hop → length hop ≤ 255 → HasShortLines (remote_mta hop verdict)
remote_lines hop (Taken dsn) none few = mta_line hop none few
remote_lines hop (Refused code text) none few = mta_line hop none few
remote_lines hop Later none few = no_lines
remote_lines hop CantSend none few = no_lines
remote_lines hop NoRoute none few = no_lines
remote_lines hop (Withdrawn withdrawal) none few = no_lines

diagnostic_lines : (verdict : Verdict) → IsVerdict verdict → IsPlainVerdict verdict → HasShortLines (diagnostic_code verdict)
diagnostic_lines (Taken dsn) valid plain = no_lines
diagnostic_lines (Refused code text) valid plain =
    typed_field (codes "Diagnostic-Code") (codes "smtp") (reply_words code text) refl refl (no_crlf_by_test (codes "smtp") refl)
    (words_none code text (omega (arith, valid.high)) plain) (omega (arith, words_short code text (omega (arith, valid.high)) valid.text_fits))
diagnostic_lines Later valid plain = no_lines
diagnostic_lines CantSend valid plain = no_lines
diagnostic_lines NoRoute valid plain = no_lines
diagnostic_lines (Withdrawn Return) valid plain =
    typed_field (codes "Diagnostic-Code") (codes "X-Postmaster") (codes "returned by the postmaster") refl refl
    (no_crlf_by_test (codes "X-Postmaster") refl) (no_crlf_by_test (codes "returned by the postmaster") refl) (omega arith)
diagnostic_lines (Withdrawn Discard) valid plain = no_lines

last_line : (date : List ℕ) → IsShortDate date → HasShortLines (field (codes "Last-Attempt-Date") date)
last_line date is = field_line (codes "Last-Attempt-Date") date refl refl is.plain (omega (arith, is.size))

last_lines : (date : List ℕ) (verdict : Verdict) → IsShortDate date → HasShortLines (last_attempt_date date verdict)
last_lines date (Taken dsn) is = last_line date is
last_lines date (Refused code text) is = last_line date is
last_lines date Later is = last_line date is
last_lines date CantSend is = last_line date is
last_lines date NoRoute is = no_lines
last_lines date (Withdrawn withdrawal) is = no_lines

retry_lines : (until : Option (List ℕ)) → IsShortDay until → HasShortLines (retry_until until)
retry_lines None is = no_lines
retry_lines (Some date) is = field_line (codes "Will-Retry-Until") date refl refl is.plain (omega (arith, is.size))

until_lines : (until : Option (List ℕ)) (due : DueReport) → IsShortDay until → HasShortLines (will_retry_until until due)
until_lines until OfFailure is = no_lines
until_lines until OfRelay is = no_lines
until_lines until OfDelay is = retry_lines until is

attempt_lines : (form : ReportForm) (hop date : List ℕ) (due : DueReport) (verdict : Verdict) → HasNoCrlf hop → length hop ≤ 255 → IsShortDate date → IsVerdict verdict
    → IsPlainVerdict verdict → HasShortLines (attempt_fields form hop date due verdict)
attempt_lines form hop date due verdict none few is valid plain =
    joined (field (codes "Status") (status_of form due verdict) ++ remote_mta hop verdict ++ diagnostic_code verdict) (last_attempt_date date verdict)
    (joined (field (codes "Status") (status_of form due verdict) ++ remote_mta hop verdict) (diagnostic_code verdict)
    (joined (field (codes "Status") (status_of form due verdict)) (remote_mta hop verdict)
    (field_line (codes "Status") (status_of form due verdict) refl refl (status_none form due verdict plain) (omega (arith, status_short form due verdict valid)))
    (remote_lines hop verdict none few)) (diagnostic_lines verdict valid plain))
    (last_lines date verdict is)

recipient_lines : (form : ReportForm) (hop date : List ℕ) (until : Option (List ℕ)) (recipient : Recipient) (due : DueReport) (verdict : Verdict) → HasNoCrlf hop → length hop ≤ 255
    → IsShortDate date → IsShortDay until → IsRecipient recipient → IsPlainRecipient recipient → IsVerdict verdict → IsPlainVerdict verdict
    → HasShortLines (recipient_fields form hop date until recipient due verdict)
recipient_lines form hop date until recipient due verdict none few is day valid plain rules plainly =
    joined (crlf ++ original_recipient recipient.orcpt ++ final ++ field (codes "Action") (action_of due) ++ attempt_fields form hop date due verdict) (will_retry_until until due)
    (joined (crlf ++ original_recipient recipient.orcpt ++ final ++ field (codes "Action") (action_of due)) (attempt_fields form hop date due verdict)
    (joined (crlf ++ original_recipient recipient.orcpt ++ final) (field (codes "Action") (action_of due))
    (joined (crlf ++ original_recipient recipient.orcpt) final
    (joined crlf (original_recipient recipient.orcpt) empty_line (original_lines recipient.orcpt plain.orcpt valid.orcpt)) final_lines)
    (field_line (codes "Action") (action_of due) refl refl (action_none due) (omega (arith, action_short due))))
    (attempt_lines form hop date due verdict none few is rules plainly))
    (until_lines until due day)
  where
    final : List ℕ
    final = field (codes "Final-Recipient") (typed (codes "rfc822") (address_in recipient.path))

    final_lines : HasShortLines final
    final_lines =
        typed_field (codes "Final-Recipient") (codes "rfc822") (address_in recipient.path) refl refl (no_crlf_by_test (codes "rfc822") refl)
        (part_none recipient.path (length recipient.path - 2) 1 plain.path)
        (omega (arith, written_short _ recipient.path valid.path, length-take (length recipient.path - 2) (drop 1 recipient.path)))

place_line : (recipient : Recipient) (due : DueReport) → IsRecipient recipient → IsPlainRecipient recipient → HasShortLines (recipient_line recipient due)
place_line recipient due valid plain =
    one_line (action_of due ++ codes " " ++ recipient.path)
    (subst HasNoCrlf (sym (append_assoc (action_of due) (codes " ") recipient.path))
    (no_crlf_joined (action_of due) (codes " " ++ recipient.path) (action_none due) (headed (codes " ") recipient.path refl refl plain.path) (and_false (ends_in_cr (action_of due)))))
    (omega (arith, written_short _ recipient.path valid.path, action_short due, length-append (action_of due ++ codes " ") recipient.path, length-append (action_of due) (codes " ")))

-- what is written of a place, if a report is due
at_place : (text : Recipient → DueReport → List ℕ) (due : Option DueReport) → ((recipient : Recipient) (is : DueReport) → IsRecipient recipient → IsPlainRecipient recipient → HasShortLines (text recipient is))
    → (recipients : List Recipient) (place : ℕ) → AllByRecursion IsRecipient recipients → AllByRecursion IsPlainRecipient recipients
    → HasShortLines (option_map_or (λ recipient. if_due text recipient due) (slice_get recipients place) [])
at_place text due each recipients place valid plain = at recipients place valid plain
  where
    one : (recipient : Recipient) (o : Option DueReport) → IsRecipient recipient → IsPlainRecipient recipient → HasShortLines (if_due text recipient o)
    one recipient None is free = no_lines
    one recipient (Some word) is free = each recipient word is free

    at : (rest : List Recipient) (k : ℕ) → AllByRecursion IsRecipient rest → AllByRecursion IsPlainRecipient rest
        → HasShortLines (option_map_or (λ recipient. if_due text recipient due) (slice_get rest k) [])
    at [] k all free = no_lines
    at (recipient ∷ rest) zero all free = one recipient due all.0 free.0
    at (recipient ∷ rest) (suc k) all free = at rest k all.1 free.1

-- rows of lines are lines
rows : (octets_of : Ruling → List ℕ) → ((ruling : Ruling) → IsRuling ruling → IsPlainRuling ruling → HasShortLines (octets_of ruling))
    → (rulings : List Ruling) → AllByRecursion IsRuling rulings → AllByRecursion IsPlainRuling rulings → HasShortLines (flat_map octets_of rulings)
rows octets_of each [] valid plain = no_lines
rows octets_of each (ruling ∷ rulings) valid plain =
    joined (octets_of ruling) (flat_map octets_of rulings) (each ruling valid.0 plain.0) (rows octets_of each rulings valid.1 plain.1)

above_begins : (text : List ℕ) → IsAbove text → begins_with_lf text ≡ false
above_begins [] above = refl
above_begins (octet ∷ octets) above =
    elim (cases_Bool (octet == 10)) [
      | inl here ↦ absurd (omega (arith, leb-true 14 octet (and_parts (is_above octet) (list_all is_above octets) above.test).0, eqb-true octet 10 here))
      | inr other ↦ other
    ]

title_lines : (host : List ℕ) (number : ℕ) → HasNoCrlf host → length host ≤ 255 → number < 2 ^ 64 → HasShortLines (title_line host number)
unfolding title_line
title_lines host number none few fits =
    one_line (codes "Delivery report of " ++ host ++ codes " for message " ++ decimal number ++ codes ".")
    (closed (codes "Delivery report of " ++ host ++ codes " for message " ++ decimal number) (codes ".")
    (no_crlf_joined (codes "Delivery report of " ++ host ++ codes " for message ") (decimal number)
    (closed (codes "Delivery report of " ++ host) (codes " for message ") (headed (codes "Delivery report of ") host refl refl none) refl refl)
    (above_none (decimal number) (decimal_above number fits))
    (ap (λ b. ends_in_cr (codes "Delivery report of " ++ host ++ codes " for message ") && b) (above_begins (decimal number) (decimal_above number fits)) ∙ and_false (ends_in_cr (codes "Delivery report of " ++ host ++ codes " for message "))))
    refl refl)
    (simp length-append (omega (arith, few, number_short number fits)))

plain_lines : (told : Told) → MayBeTold told → BreaksNoLine told → HasShortLines (plain_first_part told)
unfolding plain_first_part
plain_lines told may plain =
    joined (title_line told.host told.message.number) (flat_map (line_of told.message told.at) told.rulings)
    (title_lines told.host told.message.number plain.host may.host.few_octets may.message)
    (rows (line_of told.message told.at) (λ ruling is free. at_place recipient_line (due_at told.message told.at ruling) place_line told.message.accept.envelope.recipients ruling.place may.accept.envelope.recipients plain.recipients)
    told.rulings may.rulings plain.rulings)

rich_lines : (told : Told) (arrival : List ℕ) (until : Option (List ℕ)) → MayBeTold told → BreaksNoLine told → IsShortDate arrival → IsShortDay until
    → HasShortLines (rich_first_part told arrival until)
unfolding rich_first_part
rich_lines told arrival until may plain came days =
    joined (greeting told.host told.message.number arrival) (flat_map (sentences_of told.message told.hop told.at until) told.rulings)
    (greeting_lines told.host told.message.number arrival plain.host may.host.few_octets may.message came)
    (rows (sentences_of told.message told.hop told.at until)
    (λ ruling is free. at_place (λ recipient due. place_lines told.hop until recipient due ruling.verdict) (due_at told.message told.at ruling)
    (λ recipient due valid free_of. place_lines_are told.hop until recipient due ruling.verdict plain.hop (hop_short told.hop may.hop) days valid free_of is.verdict free)
    told.message.accept.envelope.recipients ruling.place may.accept.envelope.recipients plain.recipients)
    told.rulings may.rulings plain.rulings)

first_lines_as : (form : ReportForm) (told : Told) (arrival : List ℕ) (until : Option (List ℕ)) → MayBeTold told → BreaksNoLine told → IsShortDate arrival
    → IsShortDay until → HasShortLines (first_part_as form told arrival until)
first_lines_as Plain told arrival until may plain came days = plain_lines told may plain
first_lines_as Rich told arrival until may plain came days = rich_lines told arrival until may plain came days

second_lines : (told : Told) (date arrival : List ℕ) (until : Option (List ℕ)) → MayBeTold told → BreaksNoLine told → IsShortDate date → IsShortDate arrival
    → IsShortDay until → HasShortLines (second_part told date arrival until)
unfolding second_part
second_lines told date arrival until may plain day came days =
    joined (message_fields told.host arrival told.message.accept.envelope.envid) (flat_map (fields_of told.form told.message told.hop told.at date until) told.rulings)
    (message_lines told.host arrival told.message.accept.envelope.envid plain.host may.host.few_octets came plain.envid may.accept.envelope.envid)
    (rows (fields_of told.form told.message told.hop told.at date until)
    (λ ruling is free. at_place (λ recipient due. recipient_fields told.form told.hop date until recipient due ruling.verdict) (due_at told.message told.at ruling)
    (λ recipient due valid free_of. recipient_lines told.form told.hop date until recipient due ruling.verdict plain.hop (hop_short told.hop may.hop) day days valid free_of is.verdict free)
    told.message.accept.envelope.recipients ruling.place may.accept.envelope.recipients plain.recipients)
    told.rulings may.rulings plain.rulings)

-- the header section
form_each : (form : ReportForm) (eight : Bool) → AllByRecursion IsShortLine (form_lines form eight)
form_each Plain eight = tt
form_each Rich true = (
  record { no_crlf = no_crlf_by_test (codes "Auto-Submitted: auto-replied") refl; short = omega arith },
  (record { no_crlf = no_crlf_by_test (codes "Content-Transfer-Encoding: 8bit") refl; short = omega arith }, tt),
)
form_each Rich false = (record { no_crlf = no_crlf_by_test (codes "Auto-Submitted: auto-replied") refl; short = omega arith }, tt)

type_each : (boundary : List ℕ) → IsAbove boundary → length boundary ≤ 49 → AllByRecursion IsShortLine (type_lines boundary)
type_each boundary above few =
    let filled = type_filled boundary above in
    (record { no_crlf = filled.0.no_crlf; short = omega arith }, (record { no_crlf = filled.1.0.no_crlf; short = simp length-append (omega (arith, few)) }, tt))

origin_each : (told : Told) (date : List ℕ) → MayBeTold told → IsShortDate date → AllByRecursion IsShortLine (origin_lines told date)
origin_each told date may day =
    let filled = origin_filled told date may day.plain in
    let host = may.host.few_octets in
    let path = written_short _ told.message.accept.envelope.reverse_path may.accept.envelope.reverse_path in
    let number = number_short told.number may.number in
    let front = front_short told.form told.at (omega (arith, may.at)) in
    let subject = (subject_fits told may).short in
    let size = day.size in (
      record { no_crlf = filled.0.no_crlf; short = simp length-append (omega (arith, host)) },
      (
        record { no_crlf = filled.1.0.no_crlf; short = simp length-append (omega (arith, path)) },
        (
          record { no_crlf = filled.1.1.0.no_crlf; short = simp length-append (omega (arith, subject)) },
          (
            record { no_crlf = filled.1.1.1.0.no_crlf; short = simp length-append (omega (arith, size)) },
            (
              record { no_crlf = filled.1.1.1.1.0.no_crlf; short = simp length-append (omega (arith, host, number, front)) },
              (record { no_crlf = filled.1.1.1.1.1.0.no_crlf; short = omega arith }, tt),
            ),
          ),
        ),
      ),
    )

header_each : (told : Told) (date boundary : List ℕ) → MayBeTold told → IsShortDate date → IsAbove boundary → length boundary ≤ 49
    → AllByRecursion IsShortLine (header_lines told date boundary)
header_each told date boundary may day above few =
    each_joined (origin_lines told date) (form_lines told.form (list_any is_eight_bit (third_part told)) ++ type_lines boundary) (origin_each told date may day)
    (each_joined (form_lines told.form (list_any is_eight_bit (third_part told))) (type_lines boundary) (form_each told.form (list_any is_eight_bit (third_part told))) (type_each boundary above few))

-- a report is the lines of its header section, an empty line, and more
pub record HasHeader (told : Told) (text date boundary : List ℕ) : Type 0 where
  pub after : List ℕ
  pub text_is : text ≡ lines_text (header_lines told date boundary) ++ (crlf ++ after)
  pub filled : AllByRecursion IsFilledLine (header_lines told date boundary)
  pub each : AllByRecursion IsShortLine (header_lines told date boundary)

short_date : (moment : ℕ) (date : List ℕ) → IsDateText moment date → IsShortDate date
short_date moment date is = record { plain = date_text_has_no_crlf moment date is; size = date_text_has_31_octets moment date is }

short_day : (accepted : ℕ) (until : Option (List ℕ)) → IsUntil accepted until → IsShortDay until
short_day accepted None is = tt
short_day accepted (Some date) is = short_date (accepted + patience) date is

has_header : (told : Told) (text : List ℕ) → MayBeTold told → (is : IsReport told text) → HasHeader told text is.date is.boundary
unfolding report_text
has_header told text may is = record {
  after = parts;
  text_is =
      is.text_is ∙ append_assoc (header_fields told is.date (encoding_of told.form (third_part told)) ++ field (codes "Content-Type") (report_type is.boundary)) crlf parts
      ∙ ap (λ l. l ++ (crlf ++ parts)) (header_is told is.date is.boundary);
  filled = header_filled told is.date is.boundary may (date_text_has_no_crlf told.at is.date is.date_is) above;
  each =
      header_each told is.date is.boundary may (short_date told.at is.date is.date_is) above
      (omega (arith, boundary_short told.number is.boundary_is.least may.number is.boundary_is.is_least.fits, ap length is.boundary_is.boundary_is));
}
  where
    parts : List ℕ
    parts = multipart_text is.boundary (first_part told is.arrival is.until) (second_part told is.date is.arrival is.until) (returned_type (returns_whole told)) (encoding_of told.form (third_part told)) (third_part told)

    above : IsAbove is.boundary
    above = record { test = (subst (λ l. IsAbove (dash_boundary l)) (sym is.boundary_is.boundary_is) (boundary_above told.number is.boundary_is.least may.number is.boundary_is.is_least.fits)).test }

header_section : (told : Told) (text date boundary : List ℕ) → HasHeader told text date boundary → HasShortLines (take (header_end_of text) text)
header_section told text date boundary has = record {
  lines = header_lines told date boundary;
  text_is = ap (λ l. take (header_end_of l) l) has.text_is ∙ take_at (lines_text (header_lines told date boundary)) (crlf ++ has.after) end end_is;
  each = has.each;
}
  where
    end : ℕ
    end = header_end_of (lines_text (header_lines told date boundary) ++ (crlf ++ has.after))

    end_is : length (lines_text (header_lines told date boundary)) ≡ end
    end_is =
        let goes = (header_goes_on (header_lines told date boundary) (crlf ++ has.after) has.filled).1 in
        let stops = (header_ends_at_empty_line has.after).1 in
        omega (arith, goes, stops)

pub report_has_short_lines : ReportHasShortLines
report_has_short_lines told text may is =
    let plain = told_breaks_no_line told may in (
      header_section told text is.date is.boundary (has_header told text may is),
      first_lines_as told.form told is.arrival is.until may plain (short_date told.message.accept.at is.arrival is.arrival_is) (short_day told.message.accept.at is.until is.until_is),
      second_lines told is.date is.arrival is.until may plain (short_date told.at is.date is.date_is) (short_date told.message.accept.at is.arrival is.arrival_is)
          (short_day told.message.accept.at is.until is.until_is),
    )

-- none of the header's lines begins with that name
none_in_form : (form : ReportForm) (eight : Bool) (boundary : List ℕ) → count_by is_received (form_lines form eight ++ type_lines boundary) ≡ 0
unfolding is_received
none_in_form Plain eight boundary = refl
none_in_form Rich true boundary = refl
none_in_form Rich false boundary = refl

none_received : (told : Told) (date boundary : List ℕ) → count_by is_received (header_lines told date boundary) ≡ 0
unfolding is_received
none_received told date boundary = none_in_form told.form (list_any is_eight_bit (third_part told)) boundary

pub report_has_no_received : ReportHasNoReceived
report_has_no_received told text may is =
    let has = has_header told text may is in
    let goes = (header_goes_on (header_lines told is.date is.boundary) (crlf ++ has.after) has.filled).0 in
    let stops = (header_ends_at_empty_line has.after).0 in
    omega (arith, ap received_count_of has.text_is, goes, stops, none_received told is.date is.boundary)
