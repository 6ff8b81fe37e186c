-- The sentences of a rich report: how many octets they have, and that they are short lines.
use Rattle.std.proofs.Common.{◌≡◌, ℕ, ◌+◌, ◌<◌, ◌≤◌, ◌^◌, false, List, ◌++◌, codes, decimal, length, Option, None, Some, refl, sym, subst, arith, append_assoc, length-append}
use Rattle.relay_octets.specs.Line.{HasNoCrlf, begins_with_lf, crlf, ends_in_cr, has_crlf}
use Rattle.relay_octets.proofs.Theorems.{no_crlf_by_test}
use Rattle.relay_envelope.specs.Envelope.{IsRecipient}
use Rattle.relay_envelope.specs.declared.envelope.Recipient.{Recipient}
use Rattle.relay_book.specs.declared.change.Verdict.{Verdict}
use Rattle.relay_book.specs.declared.change.Verdict.TheVariants.{Taken, Refused, Later, CantSend, NoRoute, Withdrawn}
use Rattle.relay_book.specs.declared.due_report.DueReport.{DueReport}
use Rattle.relay_book.specs.declared.due_report.DueReport.TheVariants.{OfFailure, OfRelay, OfDelay}
use Rattle.relay_book.specs.Record.{IsVerdict}
use Rattle.relay_report.specs.StatusFields.{reply_words}
use Rattle.relay_report.specs.Sentences.{event_lines, greeting, left_lines, next_lines, place_lines, refusal_lines, reply_line, sentence, trying_line, trying_lines}
use Rattle.relay_report.specs.Lines.{HasShortLines, IsPlainRecipient, IsPlainVerdict}
use Rattle.relay_report.proofs.HeaderLemmas.{above_none, closed, decimal_above, headed}
use Rattle.relay_report.proofs.ShortLemmas.{IsDay, number_short, words_short, written_short}
use Rattle.relay_report.proofs.ShortLineLemmas.{IsShortDate, IsShortDay, empty_line, joined, one_line, words_none}

length-sentence : (front word back : List ℕ) → length (sentence front word back) ≡ length front + length word + length back + 2
unfolding sentence
length-sentence front word back = simp length-append (omega arith)

pub greeting_short : (host : List ℕ) (number : ℕ) (arrival : List ℕ) → length host ≤ 255 → number < 2 ^ 64 → length arrival ≡ 31 → length (greeting host number arrival) ≤ 500
unfolding greeting
greeting_short host number arrival few fits came =
    let digits = number_short number fits in
    simp (length-append, length-sentence) (omega (arith, few, digits, came))

reply_short : (code : ℕ) (text : List ℕ) → code < 2 ^ 16 → length text ≤ 200 → length (reply_line code text) ≤ 212
unfolding reply_line
reply_short code text fits few =
    let words = words_short code text fits few in
    simp length-append (omega (arith, words))

refusal_short : (hop : List ℕ) (code : ℕ) (text : List ℕ) → length hop ≤ 255 → code < 2 ^ 16 → length text ≤ 200 → length (refusal_lines hop code text) ≤ 508
unfolding refusal_lines
refusal_short hop code text few fits short =
    let reply = reply_short code text fits short in
    simp (length-append, length-sentence) (omega (arith, few, reply))

left_short : (hop : List ℕ) (verdict : Verdict) → length hop ≤ 255 → IsVerdict verdict → length (left_lines hop verdict) ≤ 508
left_short hop (Taken dsn) few valid = omega (arith, few, length-sentence (codes "  It was handed to ") hop (codes ", which sends no reports."))
left_short hop (Refused code text) few valid = refusal_short hop code text few (omega (arith, valid.high)) valid.text_fits
left_short hop Later few valid = omega (arith, few, length-sentence (codes "  It could not be delivered in time. The last attempt was made at ") hop (codes "."))
left_short hop CantSend few valid = omega (arith, few, length-sentence (codes "  It could not be delivered: its last line has no end, which ") hop (codes " does not take."))
left_short hop NoRoute few valid = omega arith
left_short hop (Withdrawn withdrawal) few valid = omega arith

event_short : (hop : List ℕ) (due : DueReport) (verdict : Verdict) → length hop ≤ 255 → IsVerdict verdict → length (event_lines hop due verdict) ≤ 508
event_short hop OfFailure verdict few valid = left_short hop verdict few valid
event_short hop OfRelay verdict few valid = left_short hop verdict few valid
event_short hop OfDelay verdict few valid = omega (arith, few, length-sentence (codes "  It has not been delivered yet. The last attempt was made at ") hop (codes "."))

trying_short : (until : Option (List ℕ)) → IsDay until → length (trying_line until) ≤ 65
trying_short None day = omega arith
trying_short (Some date) day = omega (arith, day, length-sentence (codes "  The relay keeps trying until ") date (codes "."))

next_short : (until : Option (List ℕ)) (due : DueReport) → IsDay until → length (next_lines until due) ≤ 105
unfolding trying_lines
next_short until OfFailure day = omega arith
next_short until OfRelay day = omega arith
next_short until OfDelay day = let line = trying_short until day in simp length-append (omega (arith, line))

-- at most 825 octets are for one place: its fields have at most 1,700, and a hundred of both with the rest fit into 2^18
pub place_lines_short : (hop : List ℕ) (until : Option (List ℕ)) (recipient : Recipient) (due : DueReport) (verdict : Verdict) → length hop ≤ 255 → IsDay until
    → IsRecipient recipient → IsVerdict verdict → length (place_lines hop until recipient due verdict) ≤ 825
unfolding place_lines
place_lines_short hop until recipient due verdict few day valid rules = by due
  where
    path : length recipient.path ≤ 256
    path = written_short _ recipient.path valid.path

    short : (due : DueReport) → length (event_lines hop due verdict) + length (next_lines until due) ≤ 560
        → length (crlf ++ sentence (codes "For ") recipient.path (codes ":") ++ event_lines hop due verdict ++ next_lines until due) ≤ 825
    short due both =
        omega (
          arith,
          path,
          both,
          length-sentence (codes "For ") recipient.path (codes ":"),
          length-append crlf (sentence (codes "For ") recipient.path (codes ":")),
          length-append (crlf ++ sentence (codes "For ") recipient.path (codes ":")) (event_lines hop due verdict),
          length-append (crlf ++ sentence (codes "For ") recipient.path (codes ":") ++ event_lines hop due verdict) (next_lines until due),
        )

    by : (due : DueReport) → length (crlf ++ sentence (codes "For ") recipient.path (codes ":") ++ event_lines hop due verdict ++ next_lines until due) ≤ 825
    by OfFailure = short OfFailure (omega (arith, event_short hop OfFailure verdict few rules))
    by OfRelay = short OfRelay (omega (arith, left_short hop verdict few rules))
    by OfDelay =
        short OfDelay
        (omega (arith, few, length-sentence (codes "  It has not been delivered yet. The last attempt was made at ") hop (codes "."), next_short until OfDelay day))

-- a sentence is a line
sentence_line : (front word back : List ℕ) → has_crlf front ≡ false → ends_in_cr front ≡ false → HasNoCrlf word → has_crlf back ≡ false → begins_with_lf back ≡ false
    → length front + length word + length back ≤ 998 → HasShortLines (sentence front word back)
unfolding sentence
sentence_line front word back plain ends none rest begins short =
    one_line (front ++ word ++ back) (closed (front ++ word) back (headed front word plain ends none) rest begins)
    (omega (arith, short, length-append (front ++ word) back, length-append front word))

pub greeting_lines : (host : List ℕ) (number : ℕ) (arrival : List ℕ) → HasNoCrlf host → length host ≤ 255 → number < 2 ^ 64 → IsShortDate arrival
    → HasShortLines (greeting host number arrival)
unfolding greeting
greeting_lines host number arrival none few fits came =
    joined (first ++ second) third
    (joined first second
    (sentence_line (codes "This is the mail relay at ") host (codes ".") refl refl none refl refl (omega (arith, few)))
    (sentence_line (codes "It reports about your message, which it accepted as number ") (decimal number) (codes ",") refl refl (above_none (decimal number) (decimal_above number fits)) refl refl
    (omega (arith, number_short number fits))))
    (sentence_line (codes "at ") arrival (codes ":") refl refl came.plain refl refl (omega (arith, came.size)))
  where
    first : List ℕ
    first = sentence (codes "This is the mail relay at ") host (codes ".")

    second : List ℕ
    second = sentence (codes "It reports about your message, which it accepted as number ") (decimal number) (codes ",")

    third : List ℕ
    third = sentence (codes "at ") arrival (codes ":")

reply_is_line : (code : ℕ) (text : List ℕ) → code < 2 ^ 16 → length text ≤ 200 → HasNoCrlf text → HasShortLines (reply_line code text)
unfolding reply_line
reply_is_line code text fits few none =
    one_line (codes "    " ++ reply_words code text) (headed (codes "    ") (reply_words code text) refl refl (words_none code text (omega (arith, fits)) none))
    (omega (arith, words_short code text fits few, length-append (codes "    ") (reply_words code text)))

refusal_is_lines : (hop : List ℕ) (code : ℕ) (text : List ℕ) → HasNoCrlf hop → length hop ≤ 255 → code < 2 ^ 16 → length text ≤ 200 → HasNoCrlf text
    → HasShortLines (refusal_lines hop code text)
unfolding refusal_lines
refusal_is_lines hop code text free few fits short none =
    joined (sentence (codes "  It could not be delivered. ") hop (codes " answered:")) (reply_line code text)
    (sentence_line (codes "  It could not be delivered. ") hop (codes " answered:") refl refl free refl refl (omega (arith, few)))
    (reply_is_line code text fits short none)

left_is_lines : (hop : List ℕ) (verdict : Verdict) → HasNoCrlf hop → length hop ≤ 255 → IsVerdict verdict → IsPlainVerdict verdict → HasShortLines (left_lines hop verdict)
left_is_lines hop (Taken dsn) free few valid plain =
    sentence_line (codes "  It was handed to ") hop (codes ", which sends no reports.") refl refl free refl refl (omega (arith, few))
left_is_lines hop (Refused code text) free few valid plain =
    refusal_is_lines hop code text free few (omega (arith, valid.high)) valid.text_fits plain
left_is_lines hop Later free few valid plain =
    sentence_line (codes "  It could not be delivered in time. The last attempt was made at ") hop (codes ".") refl refl free refl refl (omega (arith, few))
left_is_lines hop CantSend free few valid plain =
    sentence_line (codes "  It could not be delivered: its last line has no end, which ") hop (codes " does not take.") refl refl free refl refl (omega (arith, few))
left_is_lines hop NoRoute free few valid plain =
    one_line (codes "  It could not be delivered: this relay has no route for it.") (no_crlf_by_test (codes "  It could not be delivered: this relay has no route for it.") refl) (omega arith)
left_is_lines hop (Withdrawn withdrawal) free few valid plain =
    one_line (codes "  It was removed from the queue by the postmaster.") (no_crlf_by_test (codes "  It was removed from the queue by the postmaster.") refl) (omega arith)

event_is_lines : (hop : List ℕ) (due : DueReport) (verdict : Verdict) → HasNoCrlf hop → length hop ≤ 255 → IsVerdict verdict → IsPlainVerdict verdict
    → HasShortLines (event_lines hop due verdict)
event_is_lines hop OfFailure verdict free few valid plain = left_is_lines hop verdict free few valid plain
event_is_lines hop OfRelay verdict free few valid plain = left_is_lines hop verdict free few valid plain
event_is_lines hop OfDelay verdict free few valid plain =
    sentence_line (codes "  It has not been delivered yet. The last attempt was made at ") hop (codes ".") refl refl free refl refl (omega (arith, few))

trying_is_line : (until : Option (List ℕ)) → IsShortDay until → HasShortLines (trying_line until)
trying_is_line None day = one_line (codes "  The relay keeps trying.") (no_crlf_by_test (codes "  The relay keeps trying.") refl) (omega arith)
trying_is_line (Some date) day =
    sentence_line (codes "  The relay keeps trying until ") date (codes ".") refl refl day.plain refl refl (omega (arith, day.size))

next_is_lines : (until : Option (List ℕ)) (due : DueReport) → IsShortDay until → HasShortLines (next_lines until due)
unfolding trying_lines
next_is_lines until OfFailure day =
    one_line (codes "  The relay will not try again.") (no_crlf_by_test (codes "  The relay will not try again.") refl) (omega arith)
next_is_lines until OfRelay day =
    one_line (codes "  The relay will send no further report about it.") (no_crlf_by_test (codes "  The relay will send no further report about it.") refl) (omega arith)
next_is_lines until OfDelay day =
    subst HasShortLines (sym (append_assoc (trying_line until) (codes "  You need not send the message again.") crlf))
    (joined (trying_line until) (codes "  You need not send the message again." ++ crlf) (trying_is_line until day)
    (one_line (codes "  You need not send the message again.") (no_crlf_by_test (codes "  You need not send the message again.") refl) (omega arith)))

pub place_lines_are : (hop : List ℕ) (until : Option (List ℕ)) (recipient : Recipient) (due : DueReport) (verdict : Verdict) → HasNoCrlf hop → length hop ≤ 255
    → IsShortDay until → IsRecipient recipient → IsPlainRecipient recipient → IsVerdict verdict → IsPlainVerdict verdict
    → HasShortLines (place_lines hop until recipient due verdict)
unfolding place_lines
place_lines_are hop until recipient due verdict free few day valid plain rules plainly =
    joined (crlf ++ named ++ event_lines hop due verdict) (next_lines until due)
    (joined (crlf ++ named) (event_lines hop due verdict)
    (joined crlf named empty_line
    (sentence_line (codes "For ") recipient.path (codes ":") refl refl plain.path refl refl (omega (arith, written_short _ recipient.path valid.path))))
    (event_is_lines hop due verdict free few rules plainly))
    (next_is_lines until due day)
  where
    named : List ℕ
    named = sentence (codes "For ") recipient.path (codes ":")
