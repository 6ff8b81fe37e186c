-- A report as a multipart/report of three parts (RFC 3461, section 6.2; RFC 3462; RFC 2046, section 5.1.1).
use Rattle.std.specs.Prelude.{ℕ, Bool, true, false, ◌&&◌, nat_lt, List, [], ◌++◌, codes, decimal, take, slice_get}
use Rattle.std.specs.Prelude.{Option, Some, None, if◌then◌else◌}
use Rattle.std.specs.List.{find, flat_map, list_any}
use Rattle.std.specs.Option.{option_and_then, option_map_or}
use Rattle.relay_octets.specs.Line.{crlf}
use Rattle.relay_trace.specs.HeaderSection.{header_end_of}
use Rattle.relay_envelope.specs.declared.envelope.Recipient.{Recipient}
use Rattle.relay_envelope.specs.declared.parameters.Ret.{Ret}
use Rattle.relay_envelope.specs.declared.parameters.Ret.TheVariants.{Full, Hdrs}
use Rattle.relay_routes.specs.declared.report_form.ReportForm.{ReportForm}
use Rattle.relay_routes.specs.declared.report_form.ReportForm.TheVariants.{Plain, Rich}
use Rattle.relay_book.specs.declared.change.Ruling.{Ruling}
use Rattle.relay_book.specs.declared.message.Message.{Message}
use Rattle.relay_book.specs.declared.due_report.DueReport.{DueReport}
use Rattle.relay_book.specs.declared.due_report.DueReport.TheVariants.{OfFailure, OfRelay, OfDelay}
use Rattle.relay_book.specs.declared.version.Version.TheVariants.{WithDelay}
use Rattle.relay_book.specs.Queue.{due_report_at}
use Rattle.relay_report.specs.StatusFields.{action_of, field, message_fields, recipient_fields}
use Rattle.relay_report.specs.Sentences.{greeting, place_lines}

-- what a report tells of: in which form, this host, the number of the report, the message, the hop, the verdicts at a
-- time
pub record Told : Type 0 where
  pub form : ReportForm
  pub host : List ℕ
  pub number : ℕ
  pub message : Message
  pub hop : List ℕ
  pub rulings : List Ruling
  pub at : ℕ

-- which report is due of a place by its verdict at a time, as a node judges that writes no outcome of the first version
abbrev pub due_at : Message → ℕ → Ruling → Option DueReport
due_at message at ruling = due_report_at WithDelay message at ruling

-- what is written of a place of which a report is due, and nothing of another
abbrev pub if_due : (Recipient → DueReport → List ℕ) → Recipient → Option DueReport → List ℕ
if_due text recipient None = []
if_due text recipient (Some due) = text recipient due

-- the line of a recipient: the action and the path
abbrev pub recipient_line : Recipient → DueReport → List ℕ
recipient_line recipient due = action_of due ++ codes " " ++ recipient.path ++ crlf

-- the line of a verdict's place
abbrev pub line_of : Message → ℕ → Ruling → List ℕ
line_of message at ruling =
    option_map_or
    (λ recipient. if_due recipient_line recipient (due_at message at ruling))
    (slice_get message.accept.envelope.recipients ruling.place) []

-- the fields of a verdict's place
abbrev pub fields_of : ReportForm → Message → List ℕ → ℕ → List ℕ → Option (List ℕ) → Ruling → List ℕ
fields_of form message hop at date until ruling =
    option_map_or
    (λ recipient. if_due (λ recipient due. recipient_fields form hop date until recipient due ruling.verdict) recipient
    (due_at message at ruling))
    (slice_get message.accept.envelope.recipients ruling.place) []

-- the sentences about a verdict's place
abbrev pub sentences_of : Message → List ℕ → ℕ → Option (List ℕ) → Ruling → List ℕ
sentences_of message hop at until ruling =
    option_map_or
    (λ recipient. if_due (λ recipient due. place_lines hop until recipient due ruling.verdict) recipient
    (due_at message at ruling))
    (slice_get message.accept.envelope.recipients ruling.place) []

-- the title of a report, on a line of its own
unfoldable pub title_line : List ℕ → ℕ → List ℕ
title_line host number =
    codes "Delivery report of " ++ host ++ codes " for message " ++ decimal number ++ codes "." ++ crlf

-- the first part of a plain report: the title, and a line for each place that is reported
unfoldable pub plain_first_part : Told → List ℕ
plain_first_part told =
    title_line told.host told.message.number ++ flat_map (line_of told.message told.at) told.rulings

-- that of a rich one: who reports, and sentences about each place that is reported
unfoldable pub rich_first_part : Told → List ℕ → Option (List ℕ) → List ℕ
rich_first_part told arrival until =
    greeting told.host told.message.number arrival
    ++ flat_map (sentences_of told.message told.hop told.at until) told.rulings

-- the first part, for people (RFC 3462, section 1), by the date of the arrival, and that until which what is late is
-- tried
abbrev pub first_part_as : ReportForm → Told → List ℕ → Option (List ℕ) → List ℕ
first_part_as Plain told arrival until = plain_first_part told
first_part_as Rich told arrival until = rich_first_part told arrival until

abbrev pub first_part : Told → List ℕ → Option (List ℕ) → List ℕ
first_part told arrival until = first_part_as told.form told arrival until

-- the second part: a delivery status (RFC 3464, section 2.1), by the dates of the report and of the arrival, and that
-- until which what is late is tried
unfoldable pub second_part : Told → List ℕ → List ℕ → Option (List ℕ) → List ℕ
second_part told date arrival until =
    message_fields told.host arrival told.message.accept.envelope.envid
    ++ flat_map (fields_of told.form told.message told.hop told.at date until) told.rulings

-- the place of a verdict is reported as failed
abbrev pub is_failure : Option DueReport → Bool
is_failure None = false
is_failure (Some OfFailure) = true
is_failure (Some OfRelay) = false
is_failure (Some OfDelay) = false

abbrev pub fails_at : Message → ℕ → Ruling → Bool
fails_at message at ruling = is_failure (due_at message at ruling)

-- RET=FULL was given
abbrev pub is_full : Option Ret → Bool
is_full None = false
is_full (Some Full) = true
is_full (Some Hdrs) = false

-- the whole message is returned (RFC 3461, section 4.3): RET=FULL was given, and a failure is reported
abbrev pub returns_whole : Told → Bool
returns_whole told =
    is_full told.message.accept.envelope.ret && list_any (fails_at told.message told.at) told.rulings

-- what is returned: the whole stored text, or its header section
unfoldable pub returned : Bool → List ℕ → List ℕ
returned whole text = if whole then text else take (header_end_of text) text

abbrev pub third_part : Told → List ℕ
third_part told = returned (returns_whole told) told.message.accept.stored_text

-- the type of what is returned (RFC 3462, section 2)
abbrev pub returned_type : Bool → List ℕ
returned_type whole = if whole then codes "message/rfc822" else codes "text/rfc822-headers"

-- From: the postmaster of this host (RFC 5321, section 4.5.1)
unfoldable pub postmaster_at : List ℕ → List ℕ
postmaster_at host = codes "<postmaster@" ++ host ++ codes ">"

-- two reports are of one kind
abbrev pub is_same : DueReport → DueReport → Bool
is_same OfFailure OfFailure = true
is_same OfFailure OfRelay = false
is_same OfFailure OfDelay = false
is_same OfRelay OfFailure = false
is_same OfRelay OfRelay = true
is_same OfRelay OfDelay = false
is_same OfDelay OfFailure = false
is_same OfDelay OfRelay = false
is_same OfDelay OfDelay = true

-- the place of a verdict is reported so
abbrev pub is_kind : DueReport → Option DueReport → Bool
is_kind due None = false
is_kind due (Some other) = is_same due other

-- the first recipient that is reported so
abbrev pub first_of : Message → ℕ → List Ruling → DueReport → Option Recipient
first_of message at rulings due =
    option_and_then (λ ruling. slice_get message.accept.envelope.recipients ruling.place)
    (find (λ ruling. is_kind due (due_at message at ruling)) rulings)

-- what is said of a recipient in short
unfoldable pub subject_line : DueReport → Recipient → List ℕ
subject_line due recipient = codes "Delivery " ++ action_of due ++ codes ": " ++ recipient.path

-- Subject of a rich report: the first recipient that failed, else the first that is late, else the first that was
-- relayed
abbrev pub relayed_subject : Told → List ℕ
relayed_subject told =
    option_map_or (subject_line OfRelay) (first_of told.message told.at told.rulings OfRelay)
    (codes "Delivery report")

abbrev pub late_subject : Told → List ℕ
late_subject told =
    option_map_or (subject_line OfDelay) (first_of told.message told.at told.rulings OfDelay) (relayed_subject told)

abbrev pub rich_subject : Told → List ℕ
rich_subject told =
    option_map_or (subject_line OfFailure) (first_of told.message told.at told.rulings OfFailure) (late_subject told)

-- Subject
abbrev pub subject_as : ReportForm → Told → List ℕ
subject_as Plain told = codes "Delivery report"
subject_as Rich told = rich_subject told

-- seconds, and a period
abbrev pub moment_front : ℕ → List ℕ
moment_front at = decimal at ++ codes "."

-- what a Message-ID begins with: in a rich report its time, since the numbers of two spools at one host are the same
abbrev pub id_front : ReportForm → ℕ → List ℕ
id_front Plain at = []
id_front Rich at = moment_front at

-- Message-ID: the number of the report at this host
unfoldable pub message_id : ReportForm → ℕ → ℕ → List ℕ → List ℕ
message_id form at number host =
    codes "<" ++ id_front form at ++ decimal number ++ codes "@" ++ host ++ codes ">"

-- Auto-Submitted (RFC 3834, section 5): no program answers a rich report
abbrev pub auto_submitted : ReportForm → List ℕ
auto_submitted Plain = []
auto_submitted Rich = field (codes "Auto-Submitted") (codes "auto-replied")

-- the octet has eight bits
abbrev pub is_eight_bit : ℕ → Bool
is_eight_bit octet = nat_lt 127 octet

-- Content-Transfer-Encoding (RFC 2045, section 6.2), if it isn't 7bit
abbrev pub encoding_field : Bool → List ℕ
encoding_field eight_bit =
    if eight_bit then field (codes "Content-Transfer-Encoding") (codes "8bit") else []

-- that of what a rich report returns, and so of the whole (RFC 2045, section 6.4)
abbrev pub encoding_of : ReportForm → List ℕ → List ℕ
encoding_of Plain part = []
encoding_of Rich part = encoding_field (list_any is_eight_bit part)

-- from whom the report is, to whom, on what, and when
unfoldable pub origin_fields : Told → List ℕ → List ℕ
origin_fields told date =
    field (codes "From") (postmaster_at told.host)
    ++ field (codes "To") told.message.accept.envelope.reverse_path
    ++ field (codes "Subject") (subject_as told.form told)
    ++ field (codes "Date") date
    ++ field (codes "Message-ID") (message_id told.form told.at told.number told.host)
    ++ field (codes "MIME-Version") (codes "1.0")

-- the header section of the report, with this field of the encoding, but for the field that names the boundary
unfoldable pub header_fields : Told → List ℕ → List ℕ → List ℕ
header_fields told date encoding = origin_fields told date ++ auto_submitted told.form ++ encoding

-- the type that names the boundary, on two lines (RFC 3462, section 1)
unfoldable pub report_type : List ℕ → List ℕ
report_type boundary =
    codes "multipart/report; report-type=delivery-status;" ++ crlf ++ codes " boundary=\"" ++ boundary ++ codes "\""

-- dash-boundary (RFC 2046, section 5.1.1)
abbrev pub dash_boundary : List ℕ → List ℕ
dash_boundary boundary = codes "--" ++ boundary

-- the fields of a body part: its type, and the field of its encoding
unfoldable pub part_fields : List ℕ → List ℕ → List ℕ
part_fields kind encoding = field (codes "Content-Type") kind ++ encoding

-- what is before a body part: the boundary's line, these fields, and an empty line
unfoldable pub part_head : List ℕ → List ℕ → List ℕ
part_head boundary fields = dash_boundary boundary ++ crlf ++ fields ++ crlf

-- a body part, and the line end that belongs to the next boundary
unfoldable pub body_part : List ℕ → List ℕ → List ℕ → List ℕ
body_part boundary fields part = part_head boundary fields ++ part ++ crlf

-- close-delimiter
unfoldable pub closing_line : List ℕ → List ℕ
closing_line boundary = dash_boundary boundary ++ codes "--" ++ crlf

-- the multipart text of three parts, of which the third has this type and encoding
unfoldable pub multipart_text : List ℕ → List ℕ → List ℕ → List ℕ → List ℕ → List ℕ → List ℕ
multipart_text boundary one two kind encoding three =
    body_part boundary (part_fields (codes "text/plain; charset=us-ascii") []) one
    ++ body_part boundary (part_fields (codes "message/delivery-status") []) two
    ++ body_part boundary (part_fields kind encoding) three
    ++ closing_line boundary

-- the text of a report, by its dates and its boundary
unfoldable pub report_text : Told → List ℕ → List ℕ → Option (List ℕ) → List ℕ → List ℕ
report_text told date arrival until boundary =
    header_fields told date (encoding_of told.form (third_part told))
    ++ field (codes "Content-Type") (report_type boundary) ++ crlf
    ++ multipart_text boundary (first_part told arrival until) (second_part told date arrival until)
    (returned_type (returns_whole told)) (encoding_of told.form (third_part told)) (third_part told)
