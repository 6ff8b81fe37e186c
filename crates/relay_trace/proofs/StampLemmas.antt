-- The time stamp line: what its writes leave, and its lines.
use Rattle.std.proofs.Common.{◌≡◌, ℕ, zero, suc, ◌+◌, ◌-◌, ◌^◌, ◌<◌, ◌/◌, ◌%◌, Bool, true, false, not, ◌&&◌, ◌||◌, ◌==◌, cond, List, [], ◌∷◌, ◌++◌, length, take, inl, inr, refl, sym, ap, ◌∙◌, subst, arith, get_or, append_assoc, append-nil, unsigned_abs}
use Rattle.std.proofs.Math.Bool.{and-false}
use Rattle.std.proofs.lemmas.Bool.{cases_Bool, and_parts, eqb-true}
use Rattle.std.proofs.lemmas.Fmt.{decimal_is_IsNumeral}
use Rattle.std.proofs.lemmas.List.Folds.{list_all-append}
use Rattle.std.proofs.Math.Seq.{take-append-add}
use Rattle.std.specs.List.{AllByRecursion, count_by, list_all}
use Rattle.std.specs.Prelude.{codes, decimal, slice_index}
use Rattle.std.specs.Char.{digit_value}
use Rattle.std.specs.Str.Parse.{AllDigits}
use Rattle.jiff_core.specs.Date.{weekday_of}
use Rattle.jiff_core.specs.declared.civil.datetime.DateTime.{DateTime}
use Rattle.relay_octets.specs.Line.{HasNoCrlf, lines_text, ends_in_cr, begins_with_lf}
use Rattle.relay_octets.proofs.Theorems.{has_crlf, no_crlf_by_test, no_crlf_joined, no_crlf_nil}
use Rattle.relay_trace.specs.DateLine.{DateTextHasNoCrlf}
use Rattle.relay_trace.specs.DateTime.{IsDateText, date_time_text, day_name, day_names, month_name, month_names, two_digits}
use Rattle.relay_trace.specs.HeaderSection.{IsFilledLine, is_received, received_count_of, header_end_of}
use Rattle.relay_trace.specs.TimeStamp.{Stamp, IsStamp, IsTimeStamp, TimeStampIsOne, TimeStampIsOneField, PassingAddsOne, PassingKeepsHeader, address_text, protocol_word, from_line, by_line, date_line}
use Rattle.relay_trace.specs.declared.received.Protocol.{Protocol}
use Rattle.relay_trace.specs.declared.received.Protocol.TheVariants.{Smtp, Esmtp}
use Rattle.relay_trace.proofs.DateTextLemmas.{date_text_is_one}
use Rattle.relay_trace.proofs.LawLemmas.{header_goes_on, header_ends_with_text}

-- what five writes leave, the last of two parts
pub five_written : (old s1 s2 s3 s4 s5 a b c d e f : List ℕ) → s1 ≡ old ++ a → s2 ≡ s1 ++ b
    → s3 ≡ s2 ++ c → s4 ≡ s3 ++ d → s5 ≡ s4 ++ (e ++ f) → s5 ≡ old ++ (a ++ b ++ c ++ d ++ e ++ f)
five_written old s1 s2 s3 s4 s5 a b c d e f e1 e2 e3 e4 e5 =
    let t2 = e2 ∙ ap (λ l. l ++ b) e1 in
    let t3 = e3 ∙ ap (λ l. l ++ c) t2 in
    let t4 = e4 ∙ ap (λ l. l ++ d) t3 in
    e5 ∙ ap (λ l. l ++ (e ++ f)) t4 ∙ simp append_assoc

is_no_lf : ℕ → Bool
is_no_lf octet = not (octet == 10)

-- no LF stands in the text
record HasNoLf (text : List ℕ) : Type 0 where
  test : list_all is_no_lf text ≡ true

both_true : (a b : Bool) → a ≡ true → b ≡ true → a && b ≡ true
both_true a b one two = ap (λ x. x && b) one ∙ two

-- parts without an LF join without one
both : {front back : List ℕ} → HasNoLf front → HasNoLf back → HasNoLf (front ++ back)
both {front} {back} one two = record {
  test = list_all-append is_no_lf front back ∙ both_true _ _ one.test two.test;
}

no_lf_first : (octet : ℕ) (text : List ℕ) → list_all is_no_lf (octet ∷ text) ≡ true
    → begins_with_lf (octet ∷ text) ≡ false
unfolding is_no_lf
no_lf_first octet text free =
    elim (cases_Bool (octet == 10)) [
      | inl here ↦
          let parts = and_parts (not (octet == 10)) (list_all is_no_lf text) free in
          let e : false ≡ true = ap not (sym here) ∙ parts.0 in cc
      | inr elsewhere ↦ elsewhere
    ]

no_lf_no_crlf : (text : List ℕ) → list_all is_no_lf text ≡ true → has_crlf text ≡ false
no_lf_no_crlf [] free = refl
no_lf_no_crlf (octet ∷ []) free = ap (λ b. b || false) (and-false (octet == 13))
no_lf_no_crlf (octet ∷ next ∷ text) free =
    let later = (and_parts (is_no_lf octet) (list_all is_no_lf (next ∷ text)) free).1 in
    ap (λ b. octet == 13 && b || has_crlf (next ∷ text)) (no_lf_first next text later)
    ∙ ap (λ b. b || has_crlf (next ∷ text)) (and-false (octet == 13)) ∙ no_lf_no_crlf (next ∷ text) later

-- so no CR LF does
no_crlf : {text : List ℕ} → HasNoLf text → HasNoCrlf text
no_crlf {text} free = no_crlf_by_test text (no_lf_no_crlf text free.test)

digit_free : (octet : ℕ) → digit_value octet < 10 → is_no_lf octet ≡ true
unfolding is_no_lf
digit_free octet small =
    elim (cases_Bool (octet == 10)) [
      | inl here ↦
          let wrong : digit_value 10 < 10 = subst (λ o. digit_value o < 10) (eqb-true octet 10 here) small in
          absurd (omega arith)
      | inr elsewhere ↦ ap not elsewhere
    ]

digits_free : (digits : List ℕ) → AllDigits 10 digits → list_all is_no_lf digits ≡ true
digits_free [] each = refl
digits_free (octet ∷ digits) each =
    both_true _ _ (digit_free octet each.0) (digits_free digits each.1)

decimal_free : (number : ℕ) → number < 2 ^ 64 → HasNoLf (decimal number)
decimal_free number small = record {
  test = digits_free (decimal number) (decimal_is_IsNumeral number small).0.1;
}

above_free : (number : ℕ) → is_no_lf (48 + number) ≡ true
unfolding is_no_lf
above_free number =
    elim (cases_Bool (48 + number == 10)) [
      | inl here ↦ let wrong = eqb-true (48 + number) 10 here in absurd (omega arith)
      | inr elsewhere ↦ ap not elsewhere
    ]

two_digits_free : (number : ℕ) → HasNoLf (two_digits number)
two_digits_free number = record {
  test = both_true _ _ (above_free (number / 10)) (both_true _ _ (above_free (number % 10)) refl);
}

names_free : (names : List (List ℕ)) (place : ℕ) → list_all (list_all is_no_lf) names ≡ true
    → list_all is_no_lf (get_or names place []) ≡ true
names_free [] place free = refl
names_free (name ∷ names) zero free =
    (and_parts (list_all is_no_lf name) (list_all (list_all is_no_lf) names) free).0
names_free (name ∷ names) (suc place) free =
    names_free names place
    (and_parts (list_all is_no_lf name) (list_all (list_all is_no_lf) names) free).1

day_name_free : (weekday : ℕ) → HasNoLf (day_name weekday)
unfolding is_no_lf
day_name_free weekday = record { test = names_free day_names weekday refl }

month_name_free : (month : ℕ) → HasNoLf (month_name month)
unfolding is_no_lf
month_name_free month = record { test = names_free month_names (month - 1) refl }

literal_free : (text : List ℕ) → list_all is_no_lf text ≡ true → HasNoLf text
literal_free text free = record { test = free }

date_time_free : (shown : DateTime) → HasNoLf (date_time_text shown)
unfolding date_time_text is_no_lf
date_time_free shown =
    let date = shown.date in
    let time = shown.time in
    let year =
    both (two_digits_free (unsigned_abs date.year / 100))
    (two_digits_free (unsigned_abs date.year % 100)) in
    let space = literal_free (codes " ") refl in
    let colon = literal_free (codes ":") refl in
    let day_part =
    both
    (both (both (both (two_digits_free date.day) space) (month_name_free date.month)) space) year in
    let clock =
    both (both (both (both (two_digits_free time.hour) colon) (two_digits_free time.minute)) colon)
    (two_digits_free time.second) in
    both
    (both (both (both (both (day_name_free (weekday_of date)) (literal_free (codes ", ") refl)) day_part) space) clock)
    (literal_free (codes " +0000") refl)

date_free : (seconds : ℕ) (date : List ℕ) → IsDateText seconds date → HasNoLf date
date_free seconds date is = subst HasNoLf (sym is.text_is) (date_time_free is.shown)

address_free : (stamp : Stamp) → IsStamp stamp → HasNoLf (address_text stamp.peer)
unfolding address_text is_no_lf
address_free stamp is =
    let octet : (place : ℕ) → place < 4 → HasNoLf (decimal (slice_index stamp.peer place)) =
    λ place within. decimal_free (slice_index stamp.peer place) (omega (arith, is.octets place 0 (omega (arith, is.four)))) in
    let period = literal_free (codes ".") refl in
    both
    (both (both (both (both (both (octet 0 (omega arith)) period) (octet 1 (omega arith))) period) (octet 2 (omega arith))) period)
    (octet 3 (omega arith))

protocol_free : (protocol : Protocol) → HasNoLf (protocol_word protocol)
unfolding is_no_lf
protocol_free Smtp = record { test = refl }
protocol_free Esmtp = record { test = refl }

ends_in_cr-append : (front : List ℕ) (octet : ℕ) (back : List ℕ)
    → ends_in_cr (front ++ octet ∷ back) ≡ ends_in_cr (octet ∷ back)
ends_in_cr-append [] octet back = refl
ends_in_cr-append (x ∷ []) octet back = refl
ends_in_cr-append (x ∷ y ∷ front) octet back = ends_in_cr-append (y ∷ front) octet back

-- a word between two texts, of which the first ends in no CR and the second begins with no LF
around : (front word back : List ℕ) → HasNoCrlf front → HasNoCrlf word → HasNoCrlf back
    → ends_in_cr front ≡ false → begins_with_lf back ≡ false → HasNoCrlf (front ++ word ++ back)
around front word back in_front within in_back front_end back_start =
    no_crlf_joined (front ++ word) back
    (no_crlf_joined front word in_front within (ap (λ b. b && begins_with_lf word) front_end))
    in_back (ap (λ b. ends_in_cr (front ++ word) && b) back_start ∙ and-false _)

from_line_filled : (stamp : Stamp) → IsStamp stamp → IsFilledLine (from_line stamp)
unfolding is_no_lf
from_line_filled stamp is = record {
  no_crlf =
      let start = codes "Received: from " ++ stamp.client in
      let client =
      around (codes "Received: from ") stamp.client (codes " ([")
      (no_crlf (literal_free _ refl)) is.client (no_crlf (literal_free _ refl)) refl refl in
      around (start ++ codes " ([") (address_text stamp.peer) (codes "])") client
      (no_crlf (address_free stamp is)) (no_crlf (literal_free _ refl))
      (ends_in_cr-append start 32 (40 ∷ 91 ∷ [])) refl;
  not_empty = λ e. cc;
}

by_line_filled : (stamp : Stamp) → IsStamp stamp → IsFilledLine (by_line stamp)
unfolding is_no_lf
by_line_filled stamp is = record {
  no_crlf =
      let host = codes " by " ++ stamp.host in
      let protocol = host ++ codes " with " ++ protocol_word stamp.protocol in
      let by =
      around (codes " by ") stamp.host (codes " with ") (no_crlf (literal_free _ refl)) is.host
      (no_crlf (literal_free _ refl)) refl refl in
      let with_word =
      around (host ++ codes " with ") (protocol_word stamp.protocol) (codes " id ") by
      (no_crlf (protocol_free stamp.protocol)) (no_crlf (literal_free _ refl))
      (ends_in_cr-append host 32 (119 ∷ 105 ∷ 116 ∷ 104 ∷ 32 ∷ [])) refl in
      around (protocol ++ codes " id ") (decimal stamp.number) (codes ";") with_word
      (no_crlf (decimal_free stamp.number is.number)) (no_crlf (literal_free _ refl))
      (ends_in_cr-append protocol 32 (105 ∷ 100 ∷ 32 ∷ [])) refl;
  not_empty = λ e. cc;
}

date_line_filled : (seconds : ℕ) (date : List ℕ) → IsDateText seconds date
    → IsFilledLine (date_line date)
unfolding is_no_lf
date_line_filled seconds date is = record {
  no_crlf = no_crlf (both (literal_free (codes " ") refl) (date_free seconds date is));
  not_empty = λ e. cc;
}

-- the lines of a time stamp line
stamp_lines : Stamp → List ℕ → List (List ℕ)
stamp_lines stamp date = from_line stamp ∷ by_line stamp ∷ date_line date ∷ []

stamp_lines_filled : (stamp : Stamp) (line : List ℕ) → IsStamp stamp → (is : IsTimeStamp stamp line)
    → AllByRecursion IsFilledLine (stamp_lines stamp is.date)
unfolding stamp_lines
stamp_lines_filled stamp line valid is =
    (from_line_filled stamp valid, (by_line_filled stamp valid, (date_line_filled stamp.accepted is.date is.date_is, tt)))

-- the first line begins with the field's name, and the others with a space
stamp_lines_count : (stamp : Stamp) (date : List ℕ)
    → count_by is_received (stamp_lines stamp date) ≡ 1
unfolding stamp_lines is_received
stamp_lines_count stamp date = refl

line_is : (stamp : Stamp) (line : List ℕ) (is : IsTimeStamp stamp line)
    → line ≡ lines_text (stamp_lines stamp is.date)
unfolding stamp_lines
line_is stamp line is = is.line_is

-- a text after a time stamp line
after : (stamp : Stamp) (line content : List ℕ) → IsStamp stamp → IsTimeStamp stamp line
    → (received_count_of (line ++ content) ≡ 1 + received_count_of content) ×
    (header_end_of (line ++ content) ≡ length line + header_end_of content)
after stamp line content valid is =
    let text = line_is stamp line is in
    let goes = header_goes_on (stamp_lines stamp is.date) content (stamp_lines_filled stamp line valid is) in (
      ap (λ l. received_count_of (l ++ content)) text ∙ goes.0
          ∙ ap (λ n. n + received_count_of content) (stamp_lines_count stamp is.date),
      ap (λ l. header_end_of (l ++ content)) text ∙ goes.1
          ∙ ap (λ l. length l + header_end_of content) (sym text),
    )

is_received-nil : is_received [] ≡ false
unfolding is_received
is_received-nil = refl

pub time_stamp_is_one_field : TimeStampIsOneField
time_stamp_is_one_field stamp line valid is = (
  record {
    lines = stamp_lines stamp is.date;
    text_is = line_is stamp line is;
    each = stamp_lines_filled stamp line valid is;
  },
  ap received_count_of (sym (append-nil line)) ∙ (after stamp line [] valid is).0
      ∙ ap (λ n. 1 + n) ((header_ends_with_text [] no_crlf_nil).0 ∙ ap (λ b. cond b 1 0) is_received-nil),
)

pub passing_adds_one : PassingAddsOne
passing_adds_one stamp content text valid passed =
    let count = (after stamp passed.line content valid passed.line_is).0 in
    let same = ap received_count_of passed.text_is in
    omega arith

pub passing_keeps_header : PassingKeepsHeader
passing_keeps_header stamp content text valid passed =
    let end = ap header_end_of passed.text_is ∙ (after stamp passed.line content valid passed.line_is).1 in
    ap (λ n. take n text) end ∙ ap (take (length passed.line + header_end_of content)) passed.text_is
    ∙ take-append-add passed.line content (header_end_of content)

pub time_stamp_is_one : TimeStampIsOne
time_stamp_is_one stamp line other one two =
    let date = date_text_is_one stamp.accepted one.date two.date one.date_is two.date_is in
    one.line_is ∙ ap (λ d. lines_text (from_line stamp ∷ by_line stamp ∷ date_line d ∷ [])) date
    ∙ sym two.line_is

pub date_text_has_no_crlf : DateTextHasNoCrlf
date_text_has_no_crlf seconds text is = no_crlf (date_free seconds text is)
