-- The laws of header sections.
use Rattle.std.proofs.Common.{◌≡◌, ◌≢◌, ℕ, ◌+◌, ◌<◌, cond, List, [], ◌∷◌, ◌++◌, length, refl, sym, ap, ◌∙◌, arith, append_assoc, length-append, zero-add}
use Rattle.std.proofs.lemmas.List.Sums.{sum_by-cons}
use Rattle.relay_octets.specs.Line.{crlf, HasNoCrlf, ReadsLine, lines_text}
use Rattle.relay_octets.proofs.Theorems.{no_crlf_nil}
use Rattle.relay_trace.specs.HeaderSection.{is_received, received_count_of, header_end_of, HeaderGoesOn, HeaderEndsAtEmptyLine, HeaderEndsWithText}
use Rattle.relay_trace.proofs.HeaderLemmas.{received_count_of-line, received_count_of-empty, received_count_of-last, header_end_of-line, header_end_of-empty, header_end_of-last}

-- a line that isn't empty has octets
some_octets : (line : List ℕ) → line ≢ [] → 0 < length line
some_octets [] some = absurd (some refl)
some_octets (octet ∷ line) some = omega arith

-- a text that begins with lines begins with the first
reads_first : (line : List ℕ) (lines : List (List ℕ)) (rest : List ℕ) → HasNoCrlf line
    → ReadsLine (lines_text (line ∷ lines) ++ rest) line (lines_text lines ++ rest)
reads_first line lines rest none = record {
  text = append_assoc (line ++ crlf) (lines_text lines) rest;
  first = none;
}

pub header_goes_on : HeaderGoesOn
header_goes_on [] rest each = (sym (zero-add (received_count_of rest)), sym (zero-add (header_end_of rest)))
header_goes_on (line ∷ lines) rest each =
    let some = some_octets line each.0.not_empty in
    let reads = reads_first line lines rest each.0.no_crlf in
    let text = lines_text (line ∷ lines) ++ rest in
    let later = header_goes_on lines rest each.1 in
    let count = received_count_of-line text line (lines_text lines ++ rest) some reads in
    let end = header_end_of-line text line (lines_text lines ++ rest) some reads in
    let counts = sum_by-cons (λ l. cond (is_received l) 1 0) line lines in
    let size : length (lines_text (line ∷ lines)) ≡ length line + 2 + length (lines_text lines) =
    length-append (line ++ crlf) (lines_text lines)
    ∙ ap (λ n. n + length (lines_text lines)) (length-append line crlf) in
    (omega (arith, later.0), omega (arith, later.1))

reads_empty : (rest : List ℕ) → ReadsLine (crlf ++ rest) [] rest
reads_empty rest = record { text = refl; first = no_crlf_nil }

pub header_ends_at_empty_line : HeaderEndsAtEmptyLine
header_ends_at_empty_line rest =
    (received_count_of-empty (crlf ++ rest) [] rest refl (reads_empty rest), header_end_of-empty (crlf ++ rest) [] rest refl (reads_empty rest))

pub header_ends_with_text : HeaderEndsWithText
header_ends_with_text last none = (received_count_of-last last none, header_end_of-last last none)
