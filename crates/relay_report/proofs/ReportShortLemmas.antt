-- How many octets a report has.
use Rattle.std.proofs.Common.{◌≡◌, ℕ, ◌+◌, ◌<◌, ◌≤◌, ◌^◌, Bool, true, false, List, [], ◌++◌, codes, decimal, length, Option, None, Some, ap, arith, length-append}
use Rattle.std.proofs.lemmas.List.{length-take}
use Rattle.std.specs.List.{flat_map, list_any}
use Rattle.relay_octets.specs.Line.{crlf}
use Rattle.relay_trace.specs.HeaderSection.{header_end_of}
use Rattle.relay_trace.proofs.Theorems.{date_text_has_31_octets}
use Rattle.relay_routes.specs.declared.report_form.ReportForm.{ReportForm}
use Rattle.relay_routes.specs.declared.report_form.ReportForm.TheVariants.{Plain, Rich}
use Rattle.relay_book.specs.declared.change.Ruling.{Ruling}
use Rattle.relay_book.specs.DueReport.{patience}
use Rattle.relay_book.specs.Record.{IsRuling}
use Rattle.relay_report.specs.StatusFields.{field, message_fields, recipient_fields}
use Rattle.relay_report.specs.Sentences.{greeting, place_lines}
use Rattle.relay_report.specs.Multipart.{Told, auto_submitted, body_part, closing_line, due_at, encoding_field, encoding_of, fields_of, first_part, first_part_as, header_fields, id_front, is_eight_bit, line_of, message_id, multipart_text, origin_fields, part_fields, part_head, plain_first_part, postmaster_at, recipient_line, report_text, report_type, returned, returned_type, returns_whole, rich_first_part, second_part, sentences_of, third_part, title_line}
use Rattle.relay_report.specs.Boundary.{boundary_text}
use Rattle.relay_report.specs.Fits.{MayBeTold, ReportIsShort}
use Rattle.relay_report.specs.Report.{IsUntil}
use Rattle.relay_report.proofs.ShortLemmas.{IsDay, hop_short, length-field, line_short, message_fields_short, number_short, place_short, recipient_short, rows_short, written_short}
use Rattle.relay_report.proofs.HeaderLemmas.{subject_fits}
use Rattle.relay_report.proofs.SentenceLemmas.{greeting_short, place_lines_short}

plain_short_part : (told : Told) → MayBeTold told → length (plain_first_part told) ≤ 30400
unfolding plain_first_part title_line
plain_short_part told may =
    let host = may.host.few_octets in
    let number = number_short told.message.number may.message in
    let few = may.within in
    let each = λ (ruling : Ruling) (is : IsRuling ruling). place_short recipient_line (due_at told.message told.at ruling) 300 line_short told.message.accept.envelope.recipients ruling.place may.accept.envelope.recipients in
    let rows = rows_short (line_of told.message told.at) 300 each told.rulings may.rulings in
    simp length-append (omega (arith, host, number, few, rows))

rich_short_part : (told : Told) (arrival : List ℕ) (until : Option (List ℕ)) → MayBeTold told → length arrival ≡ 31 → IsDay until
    → length (rich_first_part told arrival until) ≤ 83000
unfolding rich_first_part
rich_short_part told arrival until may came days =
    let few = may.within in
    let hop = hop_short told.hop may.hop in
    let opening = greeting_short told.host told.message.number arrival may.host.few_octets may.message came in
    let each = λ (ruling : Ruling) (is : IsRuling ruling). place_short (λ recipient due. place_lines told.hop until recipient due ruling.verdict) (due_at told.message told.at ruling) 825
    (λ recipient due valid. place_lines_short told.hop until recipient due ruling.verdict hop days valid is.verdict) told.message.accept.envelope.recipients ruling.place may.accept.envelope.recipients in
    let rows = rows_short (sentences_of told.message told.hop told.at until) 825 each told.rulings may.rulings in
    let all = length-append (greeting told.host told.message.number arrival) (flat_map (sentences_of told.message told.hop told.at until) told.rulings) in
    omega (arith, few, opening, rows, all)

first_short_as : (form : ReportForm) (told : Told) (arrival : List ℕ) (until : Option (List ℕ)) → MayBeTold told → length arrival ≡ 31 → IsDay until
    → length (first_part_as form told arrival until) ≤ 83000
first_short_as Plain told arrival until may came days = let short = plain_short_part told may in omega (arith, short)
first_short_as Rich told arrival until may came days = rich_short_part told arrival until may came days

first_short : (told : Told) (arrival : List ℕ) (until : Option (List ℕ)) → MayBeTold told → length arrival ≡ 31 → IsDay until
    → length (first_part told arrival until) ≤ 83000
first_short told arrival until may came days = first_short_as told.form told arrival until may came days

second_short : (told : Told) (date arrival : List ℕ) (until : Option (List ℕ)) → MayBeTold told → length date ≡ 31 → length arrival ≡ 31 → IsDay until
    → length (second_part told date arrival until) ≤ 170500
unfolding second_part
second_short told date arrival until may day came days =
    let few = may.within in
    let hop = hop_short told.hop may.hop in
    let fields = message_fields_short told.host arrival told.message.accept.envelope.envid may.host.few_octets came may.accept.envelope.envid in
    let each = λ (ruling : Ruling) (is : IsRuling ruling). place_short (λ recipient due. recipient_fields told.form told.hop date until recipient due ruling.verdict) (due_at told.message told.at ruling) 1700
    (λ recipient due valid. recipient_short told.form told.hop date until recipient due ruling.verdict hop day days valid is.verdict) told.message.accept.envelope.recipients ruling.place may.accept.envelope.recipients in
    let rows = rows_short (fields_of told.form told.message told.hop told.at date until) 1700 each told.rulings may.rulings in
    let all = length-append (message_fields told.host arrival told.message.accept.envelope.envid) (flat_map (fields_of told.form told.message told.hop told.at date until) told.rulings) in
    omega (arith, few, fields, rows, all)

third_short : (whole : Bool) (text : List ℕ) → length (returned whole text) ≤ length text
unfolding returned
third_short true text = omega arith
third_short false text = let cut = length-take (header_end_of text) text in omega (arith, cut)

type_short : (whole : Bool) → length (returned_type whole) ≤ 19
type_short true = omega arith
type_short false = omega arith

pub boundary_short : (number least : ℕ) → number < 2 ^ 64 → least < 2 ^ 64 → length (boundary_text number least) ≤ 49
boundary_short number least one two =
    let first = number_short number one in
    let second = number_short least two in
    simp length-append (omega (arith, first, second))

encoding_short : (eight : Bool) → length (encoding_field eight) ≤ 33
unfolding field
encoding_short true = omega arith
encoding_short false = omega arith

pub encoding_of_short : (form : ReportForm) (part : List ℕ) → length (encoding_of form part) ≤ 33
encoding_of_short Plain part = omega arith
encoding_of_short Rich part = encoding_short (list_any is_eight_bit part)

head_short : (boundary kind encoding : List ℕ) → length boundary ≤ 49 → length kind ≤ 28 → length encoding ≤ 33 → length (part_head boundary (part_fields kind encoding)) ≤ 143
unfolding part_head part_fields
head_short boundary kind encoding few short little =
    let line = length-field (codes "Content-Type") kind in
    simp length-append (omega (arith, few, short, little, line))

body_short : (boundary kind encoding part : List ℕ) → length boundary ≤ 49 → length kind ≤ 28 → length encoding ≤ 33
    → length (body_part boundary (part_fields kind encoding) part) ≤ length part + 145
unfolding body_part
body_short boundary kind encoding part few short little =
    let head = head_short boundary kind encoding few short little in
    simp length-append (omega (arith, head))

multipart_short : (boundary one two kind encoding three : List ℕ) → length boundary ≤ 49 → length kind ≤ 28 → length encoding ≤ 33
    → length (multipart_text boundary one two kind encoding three) ≤ length one + length two + length three + 500
unfolding multipart_text closing_line
multipart_short boundary one two kind encoding three few short little =
    let first = body_short boundary (codes "text/plain; charset=us-ascii") [] one few (omega arith) (omega arith) in
    let second = body_short boundary (codes "message/delivery-status") [] two few (omega arith) (omega arith) in
    let third = body_short boundary kind encoding three few short little in
    simp length-append (omega (arith, first, second, third, few))

auto_short : (form : ReportForm) → length (auto_submitted form) ≤ 30
unfolding field
auto_short Plain = omega arith
auto_short Rich = omega arith

pub front_short : (form : ReportForm) (at : ℕ) → at < 2 ^ 64 → length (id_front form at) ≤ 21
front_short Plain at fits = omega arith
front_short Rich at fits = let number = number_short at fits in omega (arith, number, length-append (decimal at) (codes "."))

origin_short : (told : Told) (date : List ℕ) → MayBeTold told → length date ≡ 31 → length (origin_fields told date) ≤ 1500
unfolding origin_fields postmaster_at message_id
origin_short told date may day =
    let host = may.host.few_octets in
    let path = written_short _ told.message.accept.envelope.reverse_path may.accept.envelope.reverse_path in
    let number = number_short told.number may.number in
    let front = front_short told.form told.at (omega (arith, may.at)) in
    let subject = (subject_fits told may).short in
    simp (length-append, length-field) (omega (arith, host, path, number, front, subject, day))

header_short : (told : Told) (date : List ℕ) → MayBeTold told → length date ≡ 31 → length (header_fields told date (encoding_of told.form (third_part told))) ≤ 1600
unfolding header_fields
header_short told date may day =
    let origin = origin_short told date may day in
    let auto = auto_short told.form in
    let encoding = encoding_of_short told.form (third_part told) in
    omega (
      arith,
      origin,
      auto,
      encoding,
      length-append (origin_fields told date) (auto_submitted told.form),
      length-append (origin_fields told date ++ auto_submitted told.form) (encoding_of told.form (third_part told)),
    )

report_type_short : (boundary : List ℕ) → length boundary ≤ 49 → length (field (codes "Content-Type") (report_type boundary)) ≤ 150
unfolding report_type
report_type_short boundary few =
    let line = length-field (codes "Content-Type") (report_type boundary) in
    simp (length-append, length-field) (omega (arith, few))

is_day : (accepted : ℕ) (until : Option (List ℕ)) → IsUntil accepted until → IsDay until
is_day accepted None is = tt
is_day accepted (Some date) is = date_text_has_31_octets (accepted + patience) date is

pub report_is_short : ReportIsShort
unfolding report_text
report_is_short told text may is =
    let day = date_text_has_31_octets told.at is.date is.date_is in
    let came = date_text_has_31_octets told.message.accept.at is.arrival is.arrival_is in
    let bound = boundary_short told.number is.boundary_is.least may.number is.boundary_is.is_least.fits in
    let few : length is.boundary ≤ 49 = omega (arith, bound, ap length is.boundary_is.boundary_is) in
    let kind : length (returned_type (returns_whole told)) ≤ 28 = let short = type_short (returns_whole told) in omega (arith, short) in
    let encoding = encoding_of told.form (third_part told) in
    let header = header_short told is.date may day in
    let type = report_type_short is.boundary few in
    let days = is_day told.message.accept.at is.until is.until_is in
    let one = first_short told is.arrival is.until may came days in
    let two = second_short told is.date is.arrival is.until may day came days in
    let three = third_short (returns_whole told) told.message.accept.stored_text in
    let parts = multipart_short is.boundary (first_part told is.arrival is.until) (second_part told is.date is.arrival is.until) (returned_type (returns_whole told)) encoding (third_part told) few kind (encoding_of_short told.form (third_part told)) in
    let a = length-append (header_fields told is.date encoding) (field (codes "Content-Type") (report_type is.boundary)) in
    let b = length-append (header_fields told is.date encoding ++ field (codes "Content-Type") (report_type is.boundary)) crlf in
    let c = length-append (header_fields told is.date encoding ++ field (codes "Content-Type") (report_type is.boundary) ++ crlf) (multipart_text is.boundary (first_part told is.arrival is.until) (second_part told is.date is.arrival is.until) (returned_type (returns_whole told)) encoding (third_part told)) in
    let all = ap length is.text_is in
    omega (arith, header, type, one, two, three, parts, a, b, c, all)
