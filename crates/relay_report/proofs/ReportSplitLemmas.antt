-- A report comes apart into its parts.
use Rattle.std.proofs.Common.{◌≡◌, inl, inr, ℕ, List, ◌++◌, codes, drop, sym, ap, subst, ◌∙◌, arith, append_assoc}
use Rattle.std.proofs.lemmas.List.{drop_at}
use Rattle.std.specs.List.{AllByRecursion}
use Rattle.relay_octets.specs.Line.{crlf, lines_text}
use Rattle.relay_trace.specs.HeaderSection.{IsFilledLine, header_end_of}
use Rattle.relay_trace.proofs.Theorems.{date_text_has_no_crlf, header_ends_at_empty_line, header_goes_on}
use Rattle.relay_report.specs.Boundary.{StandsIn, StandsNowhere, numbered, stem_of}
use Rattle.relay_report.specs.StatusFields.{field}
use Rattle.relay_report.specs.Multipart.{dash_boundary, encoding_of, first_part, header_fields, multipart_text, report_text, report_type, returned_type, returns_whole, second_part, third_part}
use Rattle.relay_report.specs.Split.{HasParts, OpensWith, ReportComesApart}
use Rattle.relay_report.proofs.ApartLemmas.{IsAbove, OpensParts, multipart_opens, returned_head}
use Rattle.relay_report.proofs.HeaderLemmas.{boundary_above, header_filled, header_is, header_lines}

-- the boundary stands in no part
free_in : (word text : List ℕ) → (StandsIn word text → ⊥) → StandsNowhere word text
free_in word text without = record { nowhere = λ before after e. without (record { before = before; after = after; text_is = e }) }

-- after its header section
after_header_is : (lines : List (List ℕ)) (rest : List ℕ) → AllByRecursion IsFilledLine lines
    → drop (header_end_of (lines_text lines ++ (crlf ++ rest))) (lines_text lines ++ (crlf ++ rest)) ≡ crlf ++ rest
after_header_is lines rest each =
    let goes = (header_goes_on lines (crlf ++ rest) each).1 in
    let stops = (header_ends_at_empty_line rest).1 in
    drop_at (lines_text lines) (crlf ++ rest) (header_end_of (lines_text lines ++ (crlf ++ rest))) (omega (arith, goes, stops))

has_opened : (text start one two three : List ℕ) → drop (header_end_of text) text ≡ start → OpensParts start one two three → HasParts text one two three
has_opened text start one two three start_is opens = record {
  line = opens.line;
  rest = opens.rest;
  first = opens.first;
  second = opens.second;
  third = opens.third;
  opens = subst (λ l. OpensWith l opens.line opens.rest) (sym start_is) opens.opens;
  cuts = opens.cuts;
  one_is = opens.one_is;
  two_is = opens.two_is;
  three_is = opens.three_is;
}

pub report_comes_apart : ReportComesApart
unfolding report_text
report_comes_apart told text may is =
    has_opened text (crlf ++ parts) (first_part told is.arrival is.until) (second_part told is.date is.arrival is.until) (third_part told)
    (ap (λ l. drop (header_end_of l) l) whole ∙ after_header_is (header_lines told is.date is.boundary) parts lines)
    (multipart_opens is.boundary (first_part told is.arrival is.until) (second_part told is.date is.arrival is.until) (returned_type (returns_whole told)) (encoding_of told.form (third_part told)) (third_part told) (returned_head told.form (returns_whole told) (third_part told)) dashed
    (nowhere (first_part told is.arrival is.until) (λ stands. is.boundary_is.is_least.free (inl stands)))
    (nowhere (second_part told is.date is.arrival is.until) (λ stands. is.boundary_is.is_least.free (inr (inl stands))))
    (nowhere (third_part told) (λ stands. is.boundary_is.is_least.free (inr (inr stands)))))
  where
    parts : List ℕ
    parts = multipart_text is.boundary (first_part told is.arrival is.until) (second_part told is.date is.arrival is.until) (returned_type (returns_whole told)) (encoding_of told.form (third_part told)) (third_part told)

    dashed : IsAbove (dash_boundary is.boundary)
    dashed = subst (λ l. IsAbove (dash_boundary l)) (sym is.boundary_is.boundary_is) (boundary_above told.number is.boundary_is.least may.number is.boundary_is.is_least.fits)

    own : IsAbove is.boundary
    own = record { test = dashed.test }

    nowhere : (part : List ℕ) → (StandsIn (numbered (stem_of told.number) is.boundary_is.least) part → ⊥) → StandsNowhere (dash_boundary is.boundary) part
    nowhere part without = subst (λ l. StandsNowhere (dash_boundary l) part) (sym is.boundary_is.boundary_is) (free_in (numbered (stem_of told.number) is.boundary_is.least) part without)

    lines : AllByRecursion IsFilledLine (header_lines told is.date is.boundary)
    lines = header_filled told is.date is.boundary may (date_text_has_no_crlf told.at is.date is.date_is) own

    whole : text ≡ lines_text (header_lines told is.date is.boundary) ++ (crlf ++ parts)
    whole = is.text_is ∙ append_assoc (header_fields told is.date (encoding_of told.form (third_part told)) ++ field (codes "Content-Type") (report_type is.boundary)) crlf parts ∙ ap (λ l. l ++ (crlf ++ parts)) (header_is told is.date is.boundary)
