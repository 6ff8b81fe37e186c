-- A time stamp line adds one `Received:` field, whatever the address and the number that it says.
use Rattle.std.proofs.Common.{◌≡◌, ℕ, zero, suc, ◌+◌, ◌/◌, ◌%◌, Bool, true, false, not, ◌&&◌, ◌||◌, ◌==◌, nat_lt, List, [], ◌∷◌, ◌++◌, inl, inr, refl, sym, ap, ◌∙◌, arith}
use Rattle.std.proofs.Math.Bool.{and-false}
use Rattle.std.proofs.lemmas.Bool.{cases_Bool, and_parts, cond-true, cond-false}
use Rattle.std.proofs.lemmas.Bool.Decides.{nat_tests}
use Rattle.std.proofs.lemmas.List.Folds.{list_all-append}
use Rattle.std.specs.List.{AllByRecursion, count_by, list_all}
use Rattle.std.specs.Prelude.{codes, decimal, slice_index}
use Rattle.std.specs.Fmt.{digit_glyph, digits, digits_onto}
use Rattle.relay_octets.specs.Line.{HasNoCrlf, lines_text, ends_in_cr, begins_with_lf}
use Rattle.relay_octets.proofs.Theorems.{has_crlf, no_crlf_by_test, no_crlf_joined}
use Rattle.relay_trace.specs.DateTime.{IsDateText}
use Rattle.relay_trace.specs.HeaderSection.{IsFilledLine, is_received, received_count_of}
use Rattle.relay_trace.specs.TimeStamp.{Stamp, IsPassed, IsTimeStamp, address_text, protocol_word, from_line, by_line, date_line}
use Rattle.relay_trace.specs.declared.received.Protocol.{Protocol}
use Rattle.relay_trace.specs.declared.received.Protocol.TheVariants.{Smtp, Esmtp}
use Rattle.relay_trace.proofs.Theorems.{date_text_has_no_crlf, header_goes_on}

unfoldable pub is_no_lf : ℕ → Bool
is_no_lf octet = not (octet == 10)

-- no LF stands in the text
pub record HasNoLf (text : List ℕ) : Type 0 where
  pub test : list_all is_no_lf text ≡ true

both_true : (a b : Bool) → a ≡ true → b ≡ true → a && b ≡ true
both_true a b one two = ap (λ x. x && b) one ∙ two

-- parts without an LF join without one
pub both : {front back : List ℕ} → HasNoLf front → HasNoLf back → HasNoLf (front ++ back)
both {front} {back} one two = record {
  test = list_all-append is_no_lf front back ∙ both_true _ _ one.test two.test;
}

no_lf_first : (octet : ℕ) (text : List ℕ) → list_all is_no_lf (octet ∷ text) ≡ true → begins_with_lf (octet ∷ text) ≡ false
unfolding is_no_lf
no_lf_first octet text free =
    elim (cases_Bool (octet == 10)) [
      | inl here ↦
          let parts = and_parts (not (octet == 10)) (list_all is_no_lf text) free in
          let e : false ≡ true = ap not (sym here) ∙ parts.0 in cc
      | inr elsewhere ↦ elsewhere
    ]

no_lf_no_crlf : (text : List ℕ) → list_all is_no_lf text ≡ true → has_crlf text ≡ false
no_lf_no_crlf [] free = refl
no_lf_no_crlf (octet ∷ []) free = ap (λ b. b || false) (and-false (octet == 13))
no_lf_no_crlf (octet ∷ next ∷ text) free =
    let later = (and_parts (is_no_lf octet) (list_all is_no_lf (next ∷ text)) free).1 in
    ap (λ b. octet == 13 && b || has_crlf (next ∷ text)) (no_lf_first next text later)
    ∙ ap (λ b. b || has_crlf (next ∷ text)) (and-false (octet == 13)) ∙ no_lf_no_crlf (next ∷ text) later

-- so no CR LF does
pub no_crlf : {text : List ℕ} → HasNoLf text → HasNoCrlf text
no_crlf {text} free = no_crlf_by_test text (no_lf_no_crlf text free.test)

pub literal_free : (text : List ℕ) → list_all is_no_lf text ≡ true → HasNoLf text
literal_free text test = record { test = test }

above_free : (octet : ℕ) → is_no_lf (48 + octet) ≡ true
unfolding is_no_lf
above_free octet = grind (arith, nat_tests)

letter_free : (octet : ℕ) → is_no_lf (87 + octet) ≡ true
unfolding is_no_lf
letter_free octet = grind (arith, nat_tests)

glyph_free : (digit : ℕ) → is_no_lf (digit_glyph false digit) ≡ true
glyph_free digit =
    elim (cases_Bool (nat_lt digit 10)) [
      | inl low ↦ ap is_no_lf (cond-true (nat_lt digit 10) (48 + digit) (87 + digit) low) ∙ above_free digit
      | inr high ↦ ap is_no_lf (cond-false (nat_lt digit 10) (48 + digit) (87 + digit) high) ∙ letter_free digit
    ]

onto_free : (count number : ℕ) (text : List ℕ) → list_all is_no_lf text ≡ true
    → list_all is_no_lf (digits_onto count 10 false number text) ≡ true
onto_free zero number text free = free
onto_free (suc count) number text free =
    let more : List ℕ = digit_glyph false (number % 10) ∷ text in
    let more_free : list_all is_no_lf more ≡ true =
    both_true (is_no_lf (digit_glyph false (number % 10))) (list_all is_no_lf text) (glyph_free (number % 10)) free in
    elim (cases_Bool (number / 10 == 0)) [
      | inl last ↦
          ap (list_all is_no_lf) (cond-true (number / 10 == 0) more (digits_onto count 10 false (number / 10) more) last)
          ∙ more_free
      | inr others ↦
          ap (list_all is_no_lf) (cond-false (number / 10 == 0) more (digits_onto count 10 false (number / 10) more) others)
          ∙ onto_free count (number / 10) more more_free
    ]

pub decimal_free : (number : ℕ) → HasNoLf (decimal number)
unfolding digits
decimal_free number = record { test = onto_free 64 number [] refl }

address_free : (peer : List ℕ) → HasNoLf (address_text peer)
unfolding address_text is_no_lf
address_free peer =
    let octet : (place : ℕ) → HasNoLf (decimal (slice_index peer place)) = λ place. decimal_free (slice_index peer place) in
    let period = literal_free (codes ".") refl in
    both (both (both (both (both (both (octet 0) period) (octet 1)) period) (octet 2)) period) (octet 3)

protocol_free : (protocol : Protocol) → HasNoLf (protocol_word protocol)
unfolding is_no_lf
protocol_free Smtp = record { test = refl }
protocol_free Esmtp = record { test = refl }

ends_in_cr-append : (front : List ℕ) (octet : ℕ) (back : List ℕ)
    → ends_in_cr (front ++ octet ∷ back) ≡ ends_in_cr (octet ∷ back)
ends_in_cr-append [] octet back = refl
ends_in_cr-append (x ∷ []) octet back = refl
ends_in_cr-append (x ∷ y ∷ front) octet back = ends_in_cr-append (y ∷ front) octet back

-- a word between two texts, of which the first ends in no CR and the second begins with no LF
around : (front word back : List ℕ) → HasNoCrlf front → HasNoCrlf word → HasNoCrlf back
    → ends_in_cr front ≡ false → begins_with_lf back ≡ false → HasNoCrlf (front ++ word ++ back)
around front word back in_front within in_back front_end back_start =
    no_crlf_joined (front ++ word) back
    (no_crlf_joined front word in_front within (ap (λ b. b && begins_with_lf word) front_end))
    in_back (ap (λ b. ends_in_cr (front ++ word) && b) back_start ∙ and-false _)

from_line_filled : (stamp : Stamp) → HasNoCrlf stamp.client → IsFilledLine (from_line stamp)
unfolding is_no_lf
from_line_filled stamp client_free = record {
  no_crlf =
      let start = codes "Received: from " ++ stamp.client in
      let client =
      around (codes "Received: from ") stamp.client (codes " ([")
      (no_crlf (literal_free _ refl)) client_free (no_crlf (literal_free _ refl)) refl refl in
      around (start ++ codes " ([") (address_text stamp.peer) (codes "])") client
      (no_crlf (address_free stamp.peer)) (no_crlf (literal_free _ refl))
      (ends_in_cr-append start 32 (40 ∷ 91 ∷ [])) refl;
  not_empty = λ e. cc;
}

by_line_filled : (stamp : Stamp) → HasNoCrlf stamp.host → IsFilledLine (by_line stamp)
unfolding is_no_lf
by_line_filled stamp host_free = record {
  no_crlf =
      let host = codes " by " ++ stamp.host in
      let protocol = host ++ codes " with " ++ protocol_word stamp.protocol in
      let by =
      around (codes " by ") stamp.host (codes " with ") (no_crlf (literal_free _ refl)) host_free
      (no_crlf (literal_free _ refl)) refl refl in
      let with_word =
      around (host ++ codes " with ") (protocol_word stamp.protocol) (codes " id ") by
      (no_crlf (protocol_free stamp.protocol)) (no_crlf (literal_free _ refl))
      (ends_in_cr-append host 32 (119 ∷ 105 ∷ 116 ∷ 104 ∷ 32 ∷ [])) refl in
      around (protocol ++ codes " id ") (decimal stamp.number) (codes ";") with_word
      (no_crlf (decimal_free stamp.number)) (no_crlf (literal_free _ refl))
      (ends_in_cr-append protocol 32 (105 ∷ 100 ∷ 32 ∷ [])) refl;
  not_empty = λ e. cc;
}

date_line_filled : (seconds : ℕ) (date : List ℕ) → IsDateText seconds date → IsFilledLine (date_line date)
unfolding is_no_lf
date_line_filled seconds date is = record {
  no_crlf = no_crlf_joined (codes " ") date (no_crlf (literal_free (codes " ") refl)) (date_text_has_no_crlf seconds date is) refl;
  not_empty = λ e. cc;
}

-- the lines of a time stamp line: the first begins with the field's name, and the others with a space
stamp_lines : Stamp → List ℕ → List (List ℕ)
stamp_lines stamp date = from_line stamp ∷ by_line stamp ∷ date_line date ∷ []

stamp_lines_count : (stamp : Stamp) (date : List ℕ) → count_by is_received (stamp_lines stamp date) ≡ 1
unfolding stamp_lines is_received
stamp_lines_count stamp date = refl

filled : (stamp : Stamp) (line : List ℕ) → HasNoCrlf stamp.client → HasNoCrlf stamp.host → (is : IsTimeStamp stamp line)
    → AllByRecursion IsFilledLine (stamp_lines stamp is.date)
unfolding stamp_lines
filled stamp line client host is =
    (from_line_filled stamp client, (by_line_filled stamp host, (date_line_filled stamp.accepted is.date is.date_is, tt)))

line_is : (stamp : Stamp) (line : List ℕ) (is : IsTimeStamp stamp line) → line ≡ lines_text (stamp_lines stamp is.date)
unfolding stamp_lines
line_is stamp line is = is.line_is

pub passed_has_one_more : (stamp : Stamp) (content text : List ℕ) → HasNoCrlf stamp.client → HasNoCrlf stamp.host
    → IsPassed stamp content text → received_count_of text ≡ received_count_of content + 1
passed_has_one_more stamp content text client host passed =
    let lines : List (List ℕ) = stamp_lines stamp passed.line_is.date in
    let goes = header_goes_on lines content (filled stamp passed.line client host passed.line_is) in
    let whole = ap received_count_of passed.text_is in
    let after = ap (λ l. received_count_of (l ++ content)) (line_is stamp passed.line passed.line_is) in
    let one = stamp_lines_count stamp passed.line_is.date in
    omega (arith, whole, after, goes.0, one)
