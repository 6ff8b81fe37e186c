-- What a rich report says to people (RFC 3462, section 1): whom the mail was for, what went wrong in the words of the
-- hop, what happens next, and until when.
use Rattle.std.specs.Prelude.{ℕ, List, ◌++◌, codes, decimal, Option, Some, None}
use Rattle.relay_octets.specs.Line.{crlf}
use Rattle.relay_envelope.specs.declared.envelope.Recipient.{Recipient}
use Rattle.relay_book.specs.declared.change.Verdict.{Verdict}
use Rattle.relay_book.specs.declared.change.Verdict.TheVariants.{Taken, Refused, Later, CantSend, NoRoute, Withdrawn}
use Rattle.relay_book.specs.declared.due_report.DueReport.{DueReport}
use Rattle.relay_book.specs.declared.due_report.DueReport.TheVariants.{OfFailure, OfRelay, OfDelay}
use Rattle.relay_report.specs.StatusFields.{reply_words}

-- a line with a word filled in
unfoldable pub sentence : List ℕ → List ℕ → List ℕ → List ℕ
sentence front word back = front ++ word ++ back ++ crlf

-- who reports, and of which message
unfoldable pub greeting : List ℕ → ℕ → List ℕ → List ℕ
greeting host number arrival =
    sentence (codes "This is the mail relay at ") host (codes ".")
    ++ sentence (codes "It reports about your message, which it accepted as number ") (decimal number) (codes ",")
    ++ sentence (codes "at ") arrival (codes ":")

-- the hop's own words, on a line
unfoldable pub reply_line : ℕ → List ℕ → List ℕ
reply_line code text = codes "    " ++ reply_words code text ++ crlf

-- what the hop answered
unfoldable pub refusal_lines : List ℕ → ℕ → List ℕ → List ℕ
refusal_lines hop code text =
    sentence (codes "  It could not be delivered. ") hop (codes " answered:") ++ reply_line code text

-- what happened to a place that left
abbrev pub left_lines : List ℕ → Verdict → List ℕ
left_lines hop (Taken dsn) = sentence (codes "  It was handed to ") hop (codes ", which sends no reports.")
left_lines hop (Refused code text) = refusal_lines hop code text
left_lines hop Later =
    sentence (codes "  It could not be delivered in time. The last attempt was made at ") hop (codes ".")
left_lines hop CantSend =
    sentence (codes "  It could not be delivered: its last line has no end, which ") hop (codes " does not take.")
left_lines hop NoRoute = codes "  It could not be delivered: this relay has no route for it." ++ crlf
left_lines hop (Withdrawn withdrawal) = codes "  It was removed from the queue by the postmaster." ++ crlf

-- what happened: the same, and that of a place that is late and stays
abbrev pub event_lines : List ℕ → DueReport → Verdict → List ℕ
event_lines hop OfFailure verdict = left_lines hop verdict
event_lines hop OfRelay verdict = left_lines hop verdict
event_lines hop OfDelay verdict =
    sentence (codes "  It has not been delivered yet. The last attempt was made at ") hop (codes ".")

-- until when a place is tried, if that date can be written
abbrev pub trying_line : Option (List ℕ) → List ℕ
trying_line None = codes "  The relay keeps trying." ++ crlf
trying_line (Some date) = sentence (codes "  The relay keeps trying until ") date (codes ".")

-- a place is tried again
unfoldable pub trying_lines : Option (List ℕ) → List ℕ
trying_lines until = trying_line until ++ codes "  You need not send the message again." ++ crlf

-- what happens next
abbrev pub next_lines : Option (List ℕ) → DueReport → List ℕ
next_lines until OfFailure = codes "  The relay will not try again." ++ crlf
next_lines until OfRelay = codes "  The relay will send no further report about it." ++ crlf
next_lines until OfDelay = trying_lines until

-- all of a place, after an empty line
unfoldable pub place_lines : List ℕ → Option (List ℕ) → Recipient → DueReport → Verdict → List ℕ
place_lines hop until recipient due verdict =
    crlf ++ sentence (codes "For ") recipient.path (codes ":") ++ event_lines hop due verdict ++ next_lines until due
