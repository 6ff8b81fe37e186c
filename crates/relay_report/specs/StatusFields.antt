-- The fields of a delivery status (RFC 3464, sections 2.2 and 2.3), each on a line of its own.
use Rattle.std.specs.Prelude.{ℕ, ◌-◌, List, [], ◌∷◌, ◌++◌, codes, decimal, length, take, drop, Option, Some, None}
use Rattle.relay_octets.specs.Line.{crlf}
use Rattle.relay_envelope.specs.Xtext.{decoded}
use Rattle.relay_envelope.specs.Parameters.{address_of, address_type_of}
use Rattle.relay_envelope.specs.declared.envelope.Recipient.{Recipient}
use Rattle.relay_routes.specs.declared.report_form.ReportForm.{ReportForm}
use Rattle.relay_routes.specs.declared.report_form.ReportForm.TheVariants.{Plain, Rich}
use Rattle.relay_book.specs.declared.change.Verdict.{Verdict}
use Rattle.relay_book.specs.declared.change.Verdict.TheVariants.{Taken, Refused, Later, CantSend, NoRoute, Withdrawn}
use Rattle.relay_book.specs.declared.change.Withdrawal.TheVariants.{Return, Discard}
use Rattle.relay_book.specs.declared.due_report.DueReport.{DueReport}
use Rattle.relay_book.specs.declared.due_report.DueReport.TheVariants.{OfFailure, OfRelay, OfDelay}
use Rattle.relay_report.specs.StatusCode.{refusal_status}

-- field-name ":" field-body, and the line's end
unfoldable pub field : List ℕ → List ℕ → List ℕ
field name body = name ++ codes ": " ++ body ++ crlf

-- a field up to its body
unfoldable pub field_front : List ℕ → List ℕ
field_front name = name ++ codes ": "

-- address-type ";" generic-address; mta-name-type ";" mta-name; diagnostic-type ";" *text
unfoldable pub typed : List ℕ → List ℕ → List ℕ
typed kind text = kind ++ codes "; " ++ text

-- a field whose body has a type, up to its text
unfoldable pub typed_front : List ℕ → List ℕ → List ℕ
typed_front name kind = name ++ codes ": " ++ kind ++ codes "; "

-- the octets of an option, or these
abbrev pub octets_or : List ℕ → Option (List ℕ) → List ℕ
octets_or other None = other
octets_or other (Some octets) = octets

-- the octets that an xtext stands for; what is no xtext stands for itself
abbrev pub plain_of : List ℕ → List ℕ
plain_of text = octets_or text (decoded text)

-- original-envelope-id-field (section 2.2.1): ENVID decoded, if it was given
abbrev pub original_envelope_id : Option (List ℕ) → List ℕ
original_envelope_id None = []
original_envelope_id (Some envid) = field (codes "Original-Envelope-Id") (plain_of envid)

-- per-message-fields (section 2.2): ENVID, reporting-mta-field, arrival-date-field
abbrev pub message_fields : List ℕ → List ℕ → Option (List ℕ) → List ℕ
message_fields host arrival envid =
    original_envelope_id envid ++ field (codes "Reporting-MTA") (typed (codes "dns") host)
    ++ field (codes "Arrival-Date") arrival

-- original-recipient-field (section 2.3.1): ORCPT decoded, if it was given
abbrev pub original_recipient : Option (List ℕ) → List ℕ
original_recipient None = []
original_recipient (Some orcpt) =
    field (codes "Original-Recipient") (typed (address_type_of orcpt) (plain_of (address_of orcpt)))

-- the address in a path: what is between its brackets
abbrev pub address_in : List ℕ → List ℕ
address_in path = take (length path - 2) (drop 1 path)

-- action-value (section 2.3.3)
abbrev pub action_of : DueReport → List ℕ
action_of OfFailure = codes "failed"
action_of OfRelay = codes "relayed"
action_of OfDelay = codes "delayed"

-- status-code of a refused place: one for all in a plain report, that of the reply in a rich one
abbrev pub status_of_refused : ReportForm → ℕ → List ℕ → List ℕ
status_of_refused Plain code text = codes "5.0.0"
status_of_refused Rich code text = refusal_status code text

-- status-code of a place that left (section 2.3.4; RFC 3463). One that was to be tried again has left since its time
-- has run out.
abbrev pub status_of_left : ReportForm → Verdict → List ℕ
status_of_left form (Taken dsn) = codes "2.0.0"
status_of_left form (Refused code text) = status_of_refused form code text
status_of_left form Later = codes "4.4.7"
status_of_left form CantSend = codes "5.6.3"
status_of_left form NoRoute = codes "5.1.2"
status_of_left form (Withdrawn withdrawal) = codes "5.0.0"

-- status-code: the same, and that of a place that is late and stays
abbrev pub status_of : ReportForm → DueReport → Verdict → List ℕ
status_of form OfFailure verdict = status_of_left form verdict
status_of form OfRelay verdict = status_of_left form verdict
status_of form OfDelay verdict = codes "4.0.0"

-- remote-mta-field (section 2.3.5): the hop that answered for the place
abbrev pub remote_mta : List ℕ → Verdict → List ℕ
remote_mta hop (Taken dsn) = field (codes "Remote-MTA") (typed (codes "dns") hop)
remote_mta hop (Refused code text) = field (codes "Remote-MTA") (typed (codes "dns") hop)
remote_mta hop Later = []
remote_mta hop CantSend = []
remote_mta hop NoRoute = []
remote_mta hop (Withdrawn withdrawal) = []

-- a reply's code, and a space and its text if there is one
abbrev pub reply_words : ℕ → List ℕ → List ℕ
reply_words code [] = decimal code
reply_words code (octet ∷ octets) = decimal code ++ codes " " ++ (octet ∷ octets)

-- a reply as a diagnostic
abbrev pub diagnostic_of : ℕ → List ℕ → List ℕ
diagnostic_of code text = field (codes "Diagnostic-Code") (typed (codes "smtp") (reply_words code text))

-- profile: a diagnostic of a type of its own for what the postmaster has returned
abbrev pub returned_diagnostic : List ℕ
returned_diagnostic =
    field (codes "Diagnostic-Code") (typed (codes "X-Postmaster") (codes "returned by the postmaster"))

-- diagnostic-code-field (section 2.3.6): what the hop answered, or that the postmaster has returned the place
abbrev pub diagnostic_code : Verdict → List ℕ
diagnostic_code (Taken dsn) = []
diagnostic_code (Refused code text) = diagnostic_of code text
diagnostic_code Later = []
diagnostic_code CantSend = []
diagnostic_code NoRoute = []
diagnostic_code (Withdrawn Return) = returned_diagnostic
diagnostic_code (Withdrawn Discard) = []

-- last-attempt-date-field (section 2.3.7): without a hop there was no attempt, nor where the postmaster ended the place
abbrev pub last_attempt_date : List ℕ → Verdict → List ℕ
last_attempt_date date (Taken dsn) = field (codes "Last-Attempt-Date") date
last_attempt_date date (Refused code text) = field (codes "Last-Attempt-Date") date
last_attempt_date date Later = field (codes "Last-Attempt-Date") date
last_attempt_date date CantSend = field (codes "Last-Attempt-Date") date
last_attempt_date date NoRoute = []
last_attempt_date date (Withdrawn withdrawal) = []

-- will-retry-until-field (section 2.3.9): of a date that can be written
abbrev pub retry_until : Option (List ℕ) → List ℕ
retry_until None = []
retry_until (Some date) = field (codes "Will-Retry-Until") date

-- the same, of a place that is tried again
abbrev pub will_retry_until : Option (List ℕ) → DueReport → List ℕ
will_retry_until until OfFailure = []
will_retry_until until OfRelay = []
will_retry_until until OfDelay = retry_until until

-- what the hop said of a place, and when
abbrev pub attempt_fields : ReportForm → List ℕ → List ℕ → DueReport → Verdict → List ℕ
attempt_fields form hop date due verdict =
    field (codes "Status") (status_of form due verdict) ++ remote_mta hop verdict ++ diagnostic_code verdict
    ++ last_attempt_date date verdict

-- per-recipient-fields (section 2.3), after an empty line
abbrev pub recipient_fields
    : ReportForm → List ℕ → List ℕ → Option (List ℕ) → Recipient → DueReport → Verdict → List ℕ
recipient_fields form hop date until recipient due verdict =
    crlf ++ original_recipient recipient.orcpt
    ++ field (codes "Final-Recipient") (typed (codes "rfc822") (address_in recipient.path))
    ++ field (codes "Action") (action_of due) ++ attempt_fields form hop date due verdict ++ will_retry_until until due
