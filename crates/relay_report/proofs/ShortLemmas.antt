-- How many octets the pieces of a report have.
use Rattle.std.proofs.Common.{◌≡◌, ℕ, zero, suc, ◌+◌, ◌*◌, ◌-◌, ◌<◌, ◌≤◌, ◌^◌, nat_le, Bool, true, false, ◌&&◌, if◌then◌else◌, List, [], ◌∷◌, ◌++◌, codes, decimal, length, drop, map, slice_get, Option, None, Some, refl, sym, ap, ◌∙◌, arith, length-append}
use Rattle.std.proofs.lemmas.Bool.{and_parts, leb-true}
use Rattle.std.proofs.lemmas.List.{length-map, length-take, length-drop}
use Rattle.std.proofs.lemmas.Fmt.{length-decimal-le}
use Rattle.std.specs.List.{flat_map, AllByRecursion, position_or_len}
use Rattle.std.specs.Option.{option_map_or}
use Rattle.std.specs.Char.{to_ascii_lowercase}
use Rattle.relay_octets.specs.Line.{crlf}
use Rattle.relay_envelope.proofs.Theorems.{decoded_is_spelled}
use Rattle.relay_envelope.specs.Xtext.{Part, Xchar, Hexchar, SpellsXtext, decoded, octet_of, part_text}
use Rattle.relay_envelope.specs.Path.{Path, Null, Postmaster, Mailbox, IsPath, path_text}
use Rattle.relay_envelope.specs.Parameters.{address_of, address_type_of, is_envid, is_octet, is_orcpt}
use Rattle.relay_envelope.specs.Envelope.{IsRecipient, IsWrittenPath, may_be_envid, may_be_orcpt}
use Rattle.relay_envelope.specs.declared.envelope.Recipient.{Recipient}
use Rattle.relay_routes.specs.declared.report_form.ReportForm.{ReportForm}
use Rattle.relay_routes.specs.declared.report_form.ReportForm.TheVariants.{Plain, Rich}
use Rattle.relay_book.specs.declared.change.Ruling.{Ruling}
use Rattle.relay_book.specs.declared.change.Verdict.{Verdict}
use Rattle.relay_book.specs.declared.change.Verdict.TheVariants.{Taken, Refused, Later, CantSend, NoRoute, Withdrawn}
use Rattle.relay_book.specs.declared.change.Withdrawal.TheVariants.{Return, Discard}
use Rattle.relay_book.specs.declared.due_report.DueReport.{DueReport}
use Rattle.relay_book.specs.declared.due_report.DueReport.TheVariants.{OfFailure, OfRelay, OfDelay}
use Rattle.relay_book.specs.Record.{IsRuling, IsVerdict, MayBeHop}
use Rattle.relay_report.specs.StatusCode.{first_word, is_failure_code, refusal_status}
use Rattle.relay_report.specs.StatusFields.{action_of, address_in, attempt_fields, diagnostic_code, field, last_attempt_date, message_fields, octets_or, original_envelope_id, original_recipient, plain_of, recipient_fields, remote_mta, reply_words, retry_until, status_of, status_of_left, status_of_refused, will_retry_until, typed}
use Rattle.relay_report.specs.Multipart.{if_due, recipient_line}

pub length-field : (name body : List ℕ) → length (field name body) ≡ length name + length body + 4
unfolding field
length-field name body = simp length-append (omega arith)

pub length-typed : (kind text : List ℕ) → length (typed kind text) ≡ length kind + length text + 2
unfolding typed
length-typed kind text = simp length-append (omega arith)

pub number_short : (n : ℕ) → n < 2 ^ 64 → length (decimal n) ≤ 20
number_short n fits = length-decimal-le 20 n (omega arith) (omega (arith, fits)) fits

-- xtext stands for no more octets than it has
parts_short : (parts : List Part) → length (map octet_of parts) ≤ length (flat_map part_text parts)
parts_short [] = omega arith
parts_short (Xchar octet ∷ parts) = let rest = parts_short parts in omega (arith, rest)
parts_short (Hexchar high low ∷ parts) = let rest = parts_short parts in omega (arith, rest)

spelled_short : (text octets : List ℕ) → SpellsXtext text octets → length octets ≤ length text
spelled_short text octets spells =
    let short = parts_short spells.parts in
    omega (arith, short, ap length spells.text_is, ap length spells.octets_are)

pub plain_short : (text : List ℕ) → length (plain_of text) ≤ length text
plain_short text = by (decoded text) refl
  where
    by : (o : Option (List ℕ)) → decoded text ≡ o → length (octets_or text o) ≤ length text
    by None e = omega arith
    by (Some octets) e = spelled_short text octets ((decoded_is_spelled text octets).0 e)

-- texts that may be stored
path_short : (path : Path) → IsPath path → length (path_text path) ≤ 256
path_short Null valid = omega arith
path_short (Postmaster word) valid =
    let same = sym (length-map word to_ascii_lowercase) ∙ ap length valid in
    omega (arith, same, length-append word (62 ∷ []))
path_short (Mailbox route local domain) valid = valid.1

pub written_short : (is_allowed : Path → Bool) (text : List ℕ) → IsWrittenPath is_allowed text → length text ≤ 256
written_short is_allowed text written =
    let fits = path_short written.path written.valid in
    omega (arith, fits, ap length written.text_is)

pub orcpt_short : (orcpt : List ℕ) → is_orcpt orcpt ≡ true → length orcpt ≤ 500
unfolding is_orcpt
orcpt_short orcpt valid =
    let parts = and_parts _ _ valid in
    let first = and_parts (nat_le (length orcpt) 500) _ parts.0 in
    leb-true (length orcpt) 500 first.0

pub envid_short : (envid : List ℕ) → is_envid envid ≡ true → length envid ≤ 100
unfolding is_envid
envid_short envid valid =
    let parts = and_parts _ _ valid in
    let range = and_parts (nat_le 1 (length envid)) (nat_le (length envid) 100) parts.0 in
    leb-true (length envid) 100 range.1

pub hop_short : (hop : List ℕ) → MayBeHop hop → length hop ≤ 255
hop_short [] valid = omega arith
hop_short (octet ∷ octets) valid = valid.few_octets

-- the fields of the message
envelope_id_short : (envid : Option (List ℕ)) → may_be_envid envid ≡ true → length (original_envelope_id envid) ≤ 124
envelope_id_short None valid = omega arith
envelope_id_short (Some envid) valid =
    let short = envid_short envid valid in
    let plain = plain_short envid in
    omega (arith, short, plain, length-field (codes "Original-Envelope-Id") (plain_of envid))

pub message_fields_short : (host arrival : List ℕ) (envid : Option (List ℕ)) → length host ≤ 255 → length arrival ≡ 31 → may_be_envid envid ≡ true
    → length (message_fields host arrival envid) ≤ 500
message_fields_short host arrival envid few day valid =
    let id = envelope_id_short envid valid in
    let mta = length-field (codes "Reporting-MTA") (typed (codes "dns") host) in
    let name = length-typed (codes "dns") host in
    let date = length-field (codes "Arrival-Date") arrival in
    let one = length-append (original_envelope_id envid) (field (codes "Reporting-MTA") (typed (codes "dns") host)) in
    let all = length-append (original_envelope_id envid ++ field (codes "Reporting-MTA") (typed (codes "dns") host)) (field (codes "Arrival-Date") arrival) in
    omega (arith, id, mta, name, date, one, all, few, day)

-- the fields of a recipient
original_short : (orcpt : Option (List ℕ)) → may_be_orcpt orcpt ≡ true → length (original_recipient orcpt) ≤ 530
original_short None valid = omega arith
original_short (Some orcpt) valid =
    let short = orcpt_short orcpt valid in
    let kind = length-take (position_or_len (is_octet 59) orcpt) orcpt in
    let rest = length-drop (position_or_len (is_octet 59) orcpt + 1) orcpt in
    let plain = plain_short (address_of orcpt) in
    let all = length-typed (address_type_of orcpt) (plain_of (address_of orcpt)) in
    let line = length-field (codes "Original-Recipient") (typed (address_type_of orcpt) (plain_of (address_of orcpt))) in
    omega (arith, short, kind, rest, plain, all, line)

pub action_short : (due : DueReport) → length (action_of due) ≤ 7
action_short OfFailure = omega arith
action_short OfRelay = omega arith
action_short OfDelay = omega arith

refusal_short : (test : Bool) (text : List ℕ) → length text ≤ 200 → length (if test then first_word text else codes "5.0.0") ≤ 200
refusal_short true text few = let cut = length-take (position_or_len (is_octet 32) text) text in omega (arith, few, cut)
refusal_short false text few = omega arith

refused_short : (form : ReportForm) (code : ℕ) (text : List ℕ) → length text ≤ 200 → length (status_of_refused form code text) ≤ 200
unfolding refusal_status
refused_short Plain code text few = omega arith
refused_short Rich code text few = refusal_short (nat_le 500 code && is_failure_code (first_word text)) text few

left_short : (form : ReportForm) (verdict : Verdict) → IsVerdict verdict → length (status_of_left form verdict) ≤ 200
left_short form (Taken dsn) valid = omega arith
left_short form (Refused code text) valid = refused_short form code text valid.text_fits
left_short form Later valid = omega arith
left_short form CantSend valid = omega arith
left_short form NoRoute valid = omega arith
left_short form (Withdrawn withdrawal) valid = omega arith

pub status_short : (form : ReportForm) (due : DueReport) (verdict : Verdict) → IsVerdict verdict → length (status_of form due verdict) ≤ 200
status_short form OfFailure verdict valid = left_short form verdict valid
status_short form OfRelay verdict valid = left_short form verdict valid
status_short form OfDelay verdict valid = omega arith

mta_line_short : (hop : List ℕ) → length hop ≤ 255 → length (field (codes "Remote-MTA") (typed (codes "dns") hop)) ≤ 300
mta_line_short hop few = let line = length-field (codes "Remote-MTA") (typed (codes "dns") hop) in let name = length-typed (codes "dns") hop in omega (arith, few, line, name)

remote_short : (hop : List ℕ) (verdict : Verdict) → length hop ≤ 255 → length (remote_mta hop verdict) ≤ 300
remote_short hop (Taken dsn) few = mta_line_short hop few
remote_short hop (Refused code text) few = mta_line_short hop few
remote_short hop Later few = omega arith
remote_short hop CantSend few = omega arith
remote_short hop NoRoute few = omega arith
remote_short hop (Withdrawn withdrawal) few = omega arith

code_short : (code : ℕ) → code < 2 ^ 16 → length (decimal code) ≤ 5
code_short code fits = length-decimal-le 5 code (omega arith) (omega (arith, fits)) (omega (arith, fits))

pub words_short : (code : ℕ) (text : List ℕ) → code < 2 ^ 16 → length text ≤ 200 → length (reply_words code text) ≤ 206
words_short code [] fits few = let number = code_short code fits in omega (arith, number)
words_short code (octet ∷ octets) fits few =
    let number = code_short code fits in
    let one = length-append (decimal code) (codes " ") in
    let all = length-append (decimal code ++ codes " ") (octet ∷ octets) in
    omega (arith, number, one, all, few)

diagnostic_short : (verdict : Verdict) → IsVerdict verdict → length (diagnostic_code verdict) ≤ 235
diagnostic_short (Taken dsn) valid = omega arith
diagnostic_short (Refused code text) valid =
    let words = words_short code text (omega (arith, valid.high)) valid.text_fits in
    let line = length-field (codes "Diagnostic-Code") (typed (codes "smtp") (reply_words code text)) in
    let kind = length-typed (codes "smtp") (reply_words code text) in
    omega (arith, words, line, kind)
diagnostic_short Later valid = omega arith
diagnostic_short CantSend valid = omega arith
diagnostic_short NoRoute valid = omega arith
diagnostic_short (Withdrawn Return) valid =
    let line = length-field (codes "Diagnostic-Code") (typed (codes "X-Postmaster") (codes "returned by the postmaster")) in
    let kind = length-typed (codes "X-Postmaster") (codes "returned by the postmaster") in
    omega (arith, line, kind)
diagnostic_short (Withdrawn Discard) valid = omega arith

last_line_short : (date : List ℕ) → length date ≡ 31 → length (field (codes "Last-Attempt-Date") date) ≤ 60
last_line_short date day = let line = length-field (codes "Last-Attempt-Date") date in omega (arith, line, day)

last_short : (date : List ℕ) (verdict : Verdict) → length date ≡ 31 → length (last_attempt_date date verdict) ≤ 60
last_short date (Taken dsn) day = last_line_short date day
last_short date (Refused code text) day = last_line_short date day
last_short date Later day = last_line_short date day
last_short date CantSend day = last_line_short date day
last_short date NoRoute day = omega arith
last_short date (Withdrawn withdrawal) day = omega arith

-- until when a place is tried
abbrev pub IsDay : Option (List ℕ) → Type 0
IsDay None = Unit {0}
IsDay (Some date) = length date ≡ 31

retry_short : (until : Option (List ℕ)) → IsDay until → length (retry_until until) ≤ 60
retry_short None day = omega arith
retry_short (Some date) day = let line = length-field (codes "Will-Retry-Until") date in omega (arith, line, day)

until_short : (until : Option (List ℕ)) (due : DueReport) → IsDay until → length (will_retry_until until due) ≤ 60
until_short until OfFailure day = omega arith
until_short until OfRelay day = omega arith
until_short until OfDelay day = retry_short until day

attempt_short : (form : ReportForm) (hop date : List ℕ) (due : DueReport) (verdict : Verdict) → length hop ≤ 255 → length date ≡ 31 → IsVerdict verdict
    → length (attempt_fields form hop date due verdict) ≤ 805
attempt_short form hop date due verdict few day valid =
    let status = length-field (codes "Status") (status_of form due verdict) in
    let code = status_short form due verdict valid in
    let remote = remote_short hop verdict few in
    let diagnostic = diagnostic_short verdict valid in
    let last = last_short date verdict day in
    let one = length-append (field (codes "Status") (status_of form due verdict)) (remote_mta hop verdict) in
    let two = length-append (field (codes "Status") (status_of form due verdict) ++ remote_mta hop verdict) (diagnostic_code verdict) in
    let all = length-append (field (codes "Status") (status_of form due verdict) ++ remote_mta hop verdict ++ diagnostic_code verdict) (last_attempt_date date verdict) in
    omega (arith, status, code, remote, diagnostic, last, one, two, all)

pub recipient_short : (form : ReportForm) (hop date : List ℕ) (until : Option (List ℕ)) (recipient : Recipient) (due : DueReport) (verdict : Verdict) → length hop ≤ 255 → length date ≡ 31
    → IsDay until → IsRecipient recipient → IsVerdict verdict → length (recipient_fields form hop date until recipient due verdict) ≤ 1700
recipient_short form hop date until recipient due verdict few day days valid rules =
    let path = written_short _ recipient.path valid.path in
    let cut = length-take (length recipient.path - 2) (drop 1 recipient.path) in
    let original = original_short recipient.orcpt valid.orcpt in
    let address = length-typed (codes "rfc822") (address_in recipient.path) in
    let final = length-field (codes "Final-Recipient") (typed (codes "rfc822") (address_in recipient.path)) in
    let word = action_short due in
    let action = length-field (codes "Action") (action_of due) in
    let attempt = attempt_short form hop date due verdict few day rules in
    let retry = until_short until due days in
    let one = length-append crlf (original_recipient recipient.orcpt) in
    let two = length-append (crlf ++ original_recipient recipient.orcpt) (field (codes "Final-Recipient") (typed (codes "rfc822") (address_in recipient.path))) in
    let three = length-append (crlf ++ original_recipient recipient.orcpt ++ field (codes "Final-Recipient") (typed (codes "rfc822") (address_in recipient.path))) (field (codes "Action") (action_of due)) in
    let four = length-append (crlf ++ original_recipient recipient.orcpt ++ field (codes "Final-Recipient") (typed (codes "rfc822") (address_in recipient.path)) ++ field (codes "Action") (action_of due)) (attempt_fields form hop date due verdict) in
    let all = length-append (crlf ++ original_recipient recipient.orcpt ++ field (codes "Final-Recipient") (typed (codes "rfc822") (address_in recipient.path)) ++ field (codes "Action") (action_of due) ++ attempt_fields form hop date due verdict) (will_retry_until until due) in
    omega (arith, path, cut, original, address, final, word, action, attempt, retry, one, two, three, four, all)

pub line_short : (recipient : Recipient) (due : DueReport) → IsRecipient recipient → length (recipient_line recipient due) ≤ 300
line_short recipient due valid =
    let path = written_short _ recipient.path valid.path in
    let word = action_short due in
    let one = length-append (action_of due) (codes " ") in
    let two = length-append (action_of due ++ codes " ") recipient.path in
    let all = length-append (action_of due ++ codes " " ++ recipient.path) crlf in
    omega (arith, path, word, one, two, all)

-- what is written of a place, if a report is due
pub place_short : (text : Recipient → DueReport → List ℕ) (due : Option DueReport) (most : ℕ) → ((recipient : Recipient) (is : DueReport) → IsRecipient recipient → length (text recipient is) ≤ most)
    → (recipients : List Recipient) (place : ℕ) → AllByRecursion IsRecipient recipients
    → length (option_map_or (λ recipient. if_due text recipient due) (slice_get recipients place) []) ≤ most
place_short text due most each recipients place valid = at_place recipients place valid
  where
    one : (recipient : Recipient) (o : Option DueReport) → IsRecipient recipient → length (if_due text recipient o) ≤ most
    one recipient None is = omega arith
    one recipient (Some word) is = each recipient word is

    at_place : (rest : List Recipient) (k : ℕ) → AllByRecursion IsRecipient rest → length (option_map_or (λ recipient. if_due text recipient due) (slice_get rest k) []) ≤ most
    at_place [] k all = omega arith
    at_place (recipient ∷ rest) zero all = one recipient due all.0
    at_place (recipient ∷ rest) (suc k) all = at_place rest k all.1

-- rows of short elements are short
pub rows_short : (octets_of : Ruling → List ℕ) (most : ℕ) → ((ruling : Ruling) → IsRuling ruling → length (octets_of ruling) ≤ most)
    → (rulings : List Ruling) → AllByRecursion IsRuling rulings → length (flat_map octets_of rulings) ≤ most * length rulings
rows_short octets_of most each [] valid = omega arith
rows_short octets_of most each (ruling ∷ rulings) valid =
    let first = each ruling valid.0 in
    let rest = rows_short octets_of most each rulings valid.1 in
    let parts = length-append (octets_of ruling) (flat_map octets_of rulings) in
    omega (arith, first, rest, parts)
