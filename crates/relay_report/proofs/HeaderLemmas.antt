-- The lines of a report's header section.
use Rattle.std.proofs.Common.{◌≡◌, ℕ, zero, suc, ◌<◌, ◌≤◌, ◌^◌, Bool, true, false, ◌&&◌, List, [], ◌∷◌, ◌++◌, codes, decimal, length, slice_get, Option, None, Some, option_and_then, refl, sym, ap, subst, ◌∙◌, arith, append_assoc, append-nil, length-append}
use Rattle.std.proofs.lemmas.Bool.{le-leb}
use Rattle.std.proofs.lemmas.Grind.{flat_map-append}
use Rattle.std.proofs.lemmas.List.Folds.{list_all-append}
use Rattle.std.proofs.lemmas.Fmt.{decimal_is_IsNumeral}
use Rattle.std.proofs.lemmas.Str.Parse.{digit_from_value}
use Rattle.std.specs.Str.Parse.{AllDigits}
use Rattle.std.specs.List.{find, list_all, list_any, AllByRecursion}
use Rattle.std.specs.Option.{option_map_or}
use Rattle.relay_octets.specs.Line.{HasNoCrlf, begins_with_lf, ends_in_cr, has_crlf, line_text, lines_text}
use Rattle.relay_octets.proofs.Theorems.{no_crlf_back, no_crlf_by_test, no_crlf_joined}
use Rattle.relay_trace.specs.HeaderSection.{IsFilledLine}
use Rattle.relay_envelope.specs.Envelope.{IsRecipient}
use Rattle.relay_envelope.specs.declared.envelope.Recipient.{Recipient}
use Rattle.relay_envelope.proofs.Theorems.{host_name_is_host_word, host_word_has_no_crlf, mail_is_command_line}
use Rattle.relay_routes.specs.declared.report_form.ReportForm.{ReportForm}
use Rattle.relay_routes.specs.declared.report_form.ReportForm.TheVariants.{Plain, Rich}
use Rattle.relay_book.specs.declared.change.Ruling.{Ruling}
use Rattle.relay_book.specs.declared.due_report.DueReport.{DueReport}
use Rattle.relay_book.specs.declared.due_report.DueReport.TheVariants.{OfFailure, OfRelay, OfDelay}
use Rattle.relay_report.specs.Boundary.{boundary_text}
use Rattle.relay_report.specs.StatusFields.{action_of, field}
use Rattle.relay_report.specs.Multipart.{Told, auto_submitted, dash_boundary, due_at, encoding_field, encoding_of, first_of, header_fields, id_front, is_eight_bit, is_kind, late_subject, message_id, origin_fields, postmaster_at, relayed_subject, report_type, subject_as, subject_line, third_part}
use Rattle.relay_report.specs.Fits.{MayBeTold}
use Rattle.relay_report.specs.Lines.{IsPlainRecipient}
use Rattle.relay_report.proofs.ApartLemmas.{IsAbove, is_above, above_has_no_crlf}
use Rattle.relay_report.proofs.PlainLemmas.{told_breaks_no_line}
use Rattle.relay_report.proofs.ShortLemmas.{action_short, written_short}

pub and_false : (b : Bool) → b && false ≡ false
and_false true = refl
and_false false = refl

-- octets above CR and LF join
pub both_above : (front back : List ℕ) → IsAbove front → IsAbove back → IsAbove (front ++ back)
both_above front back one two = record { test = list_all-append is_above front back ∙ ap (λ b. b && list_all is_above back) one.test ∙ two.test }

digits_above : (digits : List ℕ) → AllDigits 10 digits → list_all is_above digits ≡ true
digits_above [] each = refl
digits_above (octet ∷ digits) each =
    let digit = digit_from_value octet each.0 in
    ap (λ b. b && list_all is_above digits) (le-leb 14 octet (omega (arith, digit.0))) ∙ digits_above digits each.1

pub decimal_above : (number : ℕ) → number < 2 ^ 64 → IsAbove (decimal number)
decimal_above number small = record { test = digits_above (decimal number) (decimal_is_IsNumeral number small).0.1 }

pub boundary_above : (number least : ℕ) → number < 2 ^ 64 → least < 2 ^ 64 → IsAbove (dash_boundary (boundary_text number least))
boundary_above number least one two =
    both_above (codes "--") (boundary_text number least) (record { test = refl })
    (both_above (codes "=_relay_" ++ decimal number ++ codes "_") (decimal least)
    (both_above (codes "=_relay_" ++ decimal number) (codes "_") (both_above (codes "=_relay_") (decimal number) (record { test = refl }) (decimal_above number one)) (record { test = refl }))
    (decimal_above least two))

-- a line of a word that is filled in
pub headed : (front text : List ℕ) → has_crlf front ≡ false → ends_in_cr front ≡ false → HasNoCrlf text → HasNoCrlf (front ++ text)
headed front text plain ends none = no_crlf_joined front text (no_crlf_by_test front plain) none (ap (λ b. b && begins_with_lf text) ends)

pub closed : (text back : List ℕ) → HasNoCrlf text → has_crlf back ≡ false → begins_with_lf back ≡ false → HasNoCrlf (text ++ back)
closed text back none plain begins = no_crlf_joined text back none (no_crlf_by_test back plain) (ap (λ b. ends_in_cr text && b) begins ∙ and_false (ends_in_cr text))

filled : (octet : ℕ) (octets : List ℕ) → HasNoCrlf (octet ∷ octets) → IsFilledLine (octet ∷ octets)
filled octet octets none = record { no_crlf = none; not_empty = λ e. cc }

pub above_none : (text : List ℕ) → IsAbove text → HasNoCrlf text
above_none text above = no_crlf_by_test text (above_has_no_crlf text above.test)

-- the lines of a report's header section: those of every report
abbrev pub origin_lines : Told → List ℕ → List (List ℕ)
origin_lines told date =
    (codes "From: <postmaster@" ++ (told.host ++ codes ">"))
    ∷ (codes "To: " ++ told.message.accept.envelope.reverse_path)
    ∷ (codes "Subject: " ++ subject_as told.form told)
    ∷ (codes "Date: " ++ date)
    ∷ (codes "Message-ID: <" ++ ((((id_front told.form told.at ++ decimal told.number) ++ codes "@") ++ told.host) ++ codes ">"))
    ∷ codes "MIME-Version: 1.0"
    ∷ []

-- those of its form, where what is returned has octets of eight bits or not
abbrev pub form_lines : ReportForm → Bool → List (List ℕ)
form_lines Plain eight = []
form_lines Rich true = codes "Auto-Submitted: auto-replied" ∷ codes "Content-Transfer-Encoding: 8bit" ∷ []
form_lines Rich false = codes "Auto-Submitted: auto-replied" ∷ []

-- and those that name the boundary
abbrev pub type_lines : List ℕ → List (List ℕ)
type_lines boundary =
    codes "Content-Type: multipart/report; report-type=delivery-status;" ∷ (codes " boundary=\"" ++ (boundary ++ codes "\"")) ∷ []

abbrev pub header_lines : Told → List ℕ → List ℕ → List (List ℕ)
header_lines told date boundary =
    origin_lines told date ++ (form_lines told.form (list_any is_eight_bit (third_part told)) ++ type_lines boundary)

six_lines : (a b c d f g : List ℕ) → a ++ b ++ c ++ d ++ f ++ g ≡ a ++ (b ++ (c ++ (d ++ (f ++ (g ++ [])))))
six_lines a b c d f g = simp (append_assoc, append-nil)

origin_is : (told : Told) (date : List ℕ) → origin_fields told date ≡ lines_text (origin_lines told date)
unfolding origin_fields field postmaster_at message_id
origin_is told date =
    six_lines (line_text (codes "From: <postmaster@" ++ (told.host ++ codes ">"))) (line_text (codes "To: " ++ told.message.accept.envelope.reverse_path)) (line_text (codes "Subject: " ++ subject_as told.form told)) (line_text (codes "Date: " ++ date))
    (line_text (codes "Message-ID: <" ++ ((((id_front told.form told.at ++ decimal told.number) ++ codes "@") ++ told.host) ++ codes ">"))) (line_text (codes "MIME-Version: 1.0"))

form_is : (form : ReportForm) (eight : Bool) (encoding : List ℕ) → (form ≡ Plain → encoding ≡ []) → (form ≡ Rich → encoding ≡ encoding_field eight)
    → auto_submitted form ++ encoding ≡ lines_text (form_lines form eight)
unfolding field
form_is Plain eight encoding plain rich = plain refl
form_is Rich true encoding plain rich = ap (λ l. auto_submitted Rich ++ l) (rich refl)
form_is Rich false encoding plain rich = ap (λ l. auto_submitted Rich ++ l) (rich refl)

plain_encoding : (form : ReportForm) (part : List ℕ) → form ≡ Plain → encoding_of form part ≡ []
plain_encoding form part is = ap (λ (f : ReportForm). encoding_of f part) is

rich_encoding : (form : ReportForm) (part : List ℕ) → form ≡ Rich → encoding_of form part ≡ encoding_field (list_any is_eight_bit part)
rich_encoding form part is = ap (λ (f : ReportForm). encoding_of f part) is

two_lines : (a b : List ℕ) → a ++ b ≡ a ++ (b ++ [])
two_lines a b = ap (λ l. a ++ l) (sym (append-nil b))

type_is : (boundary : List ℕ) → field (codes "Content-Type") (report_type boundary) ≡ lines_text (type_lines boundary)
unfolding field report_type
type_is boundary =
    two_lines (line_text (codes "Content-Type: multipart/report; report-type=delivery-status;")) (line_text (codes " boundary=\"" ++ (boundary ++ codes "\"")))

three_texts : (one two three : List (List ℕ)) (a b c d : List ℕ) → a ≡ lines_text one → b ++ c ≡ lines_text two → d ≡ lines_text three
    → (a ++ b ++ c) ++ d ≡ lines_text (one ++ (two ++ three))
three_texts one two three a b c d e f g =
    ap (λ l. l ++ d) (append_assoc a b c) ∙ append_assoc a (b ++ c) d ∙ ap (λ l. l ++ ((b ++ c) ++ d)) e ∙ ap (λ l. lines_text one ++ (l ++ d)) f
    ∙ ap (λ l. lines_text one ++ (lines_text two ++ l)) g ∙ ap (λ l. lines_text one ++ l) (sym (flat_map-append line_text two three)) ∙ sym (flat_map-append line_text one (two ++ three))

pub header_is : (told : Told) (date boundary : List ℕ)
    → header_fields told date (encoding_of told.form (third_part told)) ++ field (codes "Content-Type") (report_type boundary) ≡ lines_text (header_lines told date boundary)
unfolding header_fields
header_is told date boundary =
    three_texts (origin_lines told date) (form_lines told.form (list_any is_eight_bit (third_part told))) (type_lines boundary)
    (origin_fields told date) (auto_submitted told.form) (encoding_of told.form (third_part told)) (field (codes "Content-Type") (report_type boundary))
    (origin_is told date)
    (form_is told.form (list_any is_eight_bit (third_part told)) (encoding_of told.form (third_part told)) (plain_encoding told.form (third_part told)) (rich_encoding told.form (third_part told)))
    (type_is boundary)

-- the subject breaks no line, and is short
pub record IsSubject (text : List ℕ) : Type 0 where
  pub plain : HasNoCrlf text
  pub short : length text ≤ 300

plain_action : (due : DueReport) → has_crlf (codes "Delivery " ++ action_of due ++ codes ": ") ≡ false
plain_action OfFailure = refl
plain_action OfRelay = refl
plain_action OfDelay = refl

ends_in_blank : (due : DueReport) → ends_in_cr (codes "Delivery " ++ action_of due ++ codes ": ") ≡ false
ends_in_blank OfFailure = refl
ends_in_blank OfRelay = refl
ends_in_blank OfDelay = refl

subject_of : (due : DueReport) (recipient : Recipient) → IsRecipient recipient → IsPlainRecipient recipient → IsSubject (subject_line due recipient)
unfolding subject_line
subject_of due recipient valid plain = record {
  plain = headed (codes "Delivery " ++ action_of due ++ codes ": ") recipient.path (plain_action due) (ends_in_blank due) plain.path;
  short =
      omega (
        arith,
        written_short _ recipient.path valid.path,
        action_short due,
        length-append (codes "Delivery " ++ action_of due ++ codes ": ") recipient.path,
        length-append (codes "Delivery " ++ action_of due) (codes ": "),
        length-append (codes "Delivery ") (action_of due),
      );
}

subject_at : (due : DueReport) (other : List ℕ) → IsSubject other → (recipients : List Recipient) (place : ℕ) → AllByRecursion IsRecipient recipients
    → AllByRecursion IsPlainRecipient recipients → IsSubject (option_map_or (subject_line due) (slice_get recipients place) other)
subject_at due other is [] place valid plain = is
subject_at due other is (recipient ∷ rest) zero valid plain = subject_of due recipient valid.0 plain.0
subject_at due other is (recipient ∷ rest) (suc place) valid plain = subject_at due other is rest place valid.1 plain.1

subject_found : (due : DueReport) (other : List ℕ) → IsSubject other → (recipients : List Recipient) → AllByRecursion IsRecipient recipients
    → AllByRecursion IsPlainRecipient recipients → (found : Option Ruling)
    → IsSubject (option_map_or (subject_line due) (option_and_then (λ (ruling : Ruling). slice_get recipients ruling.place) found) other)
subject_found due other is recipients valid plain None = is
subject_found due other is recipients valid plain (Some ruling) = subject_at due other is recipients ruling.place valid plain

first_subject : (told : Told) → MayBeTold told → (due : DueReport) (other : List ℕ) → IsSubject other
    → IsSubject (option_map_or (subject_line due) (first_of told.message told.at told.rulings due) other)
first_subject told may due other is =
    subject_found due other is told.message.accept.envelope.recipients may.accept.envelope.recipients (told_breaks_no_line told may).recipients
    (find (λ ruling. is_kind due (due_at told.message told.at ruling)) told.rulings)

no_subject : IsSubject (codes "Delivery report")
no_subject = record { plain = no_crlf_by_test (codes "Delivery report") refl; short = omega arith }

subject_by : (form : ReportForm) (told : Told) → MayBeTold told → IsSubject (subject_as form told)
subject_by Plain told may = no_subject
subject_by Rich told may =
    first_subject told may OfFailure (late_subject told) (first_subject told may OfDelay (relayed_subject told) (first_subject told may OfRelay (codes "Delivery report") no_subject))

pub subject_fits : (told : Told) → MayBeTold told → IsSubject (subject_as told.form told)
subject_fits told may = subject_by told.form told may

pub front_above : (form : ReportForm) (at : ℕ) → at < 2 ^ 64 → IsAbove (id_front form at)
front_above Plain at fits = record { test = refl }
front_above Rich at fits = both_above (decimal at) (codes ".") (decimal_above at fits) (record { test = refl })

id_none : (told : Told) → MayBeTold told → HasNoCrlf ((((id_front told.form told.at ++ decimal told.number) ++ codes "@") ++ told.host) ++ codes ">")
id_none told may =
    closed (((id_front told.form told.at ++ decimal told.number) ++ codes "@") ++ told.host) (codes ">")
    (subst HasNoCrlf (sym (append_assoc front (codes "@") told.host)) (no_crlf_joined front (codes "@" ++ told.host) (above_none front above) (headed (codes "@") told.host refl refl host) (and_false (ends_in_cr front))))
    refl refl
  where
    front : List ℕ
    front = id_front told.form told.at ++ decimal told.number

    host : HasNoCrlf told.host
    host = host_word_has_no_crlf told.host (host_name_is_host_word told.host may.host)

    above : IsAbove front
    above = both_above (id_front told.form told.at) (decimal told.number) (front_above told.form told.at (omega (arith, may.at))) (decimal_above told.number may.number)

all_filled : (one two : List (List ℕ)) → AllByRecursion IsFilledLine one → AllByRecursion IsFilledLine two → AllByRecursion IsFilledLine (one ++ two)
all_filled [] two a b = b
all_filled (line ∷ one) two a b = (a.0, all_filled one two a.1 b)

form_filled : (form : ReportForm) (eight : Bool) → AllByRecursion IsFilledLine (form_lines form eight)
form_filled Plain eight = tt
form_filled Rich true = (filled _ _ (no_crlf_by_test (codes "Auto-Submitted: auto-replied") refl), (filled _ _ (no_crlf_by_test (codes "Content-Transfer-Encoding: 8bit") refl), tt))
form_filled Rich false = (filled _ _ (no_crlf_by_test (codes "Auto-Submitted: auto-replied") refl), tt)

pub type_filled : (boundary : List ℕ) → IsAbove boundary → AllByRecursion IsFilledLine (type_lines boundary)
type_filled boundary above = (
  filled _ _ (no_crlf_by_test (codes "Content-Type: multipart/report; report-type=delivery-status;") refl),
  (filled _ _ (headed (codes " boundary=\"") (boundary ++ codes "\"") refl refl (closed boundary (codes "\"") (above_none boundary above) refl refl)), tt),
)

pub origin_filled : (told : Told) (date : List ℕ) → MayBeTold told → HasNoCrlf date → AllByRecursion IsFilledLine (origin_lines told date)
origin_filled told date may day =
    let host = host_word_has_no_crlf told.host (host_name_is_host_word told.host may.host) in
    let path = no_crlf_back (codes "MAIL FROM:") told.message.accept.envelope.reverse_path (mail_is_command_line told.message.accept.envelope may.accept.envelope).1.has_no_crlf in
    let id = id_none told may in (
      filled _ _ (headed (codes "From: <postmaster@") (told.host ++ codes ">") refl refl (closed told.host (codes ">") host refl refl)),
      (
        filled _ _ (headed (codes "To: ") told.message.accept.envelope.reverse_path refl refl path),
        (
          filled _ _ (headed (codes "Subject: ") (subject_as told.form told) refl refl (subject_fits told may).plain),
          (
            filled _ _ (headed (codes "Date: ") date refl refl day),
            (
              filled _ _ (headed (codes "Message-ID: <") ((((id_front told.form told.at ++ decimal told.number) ++ codes "@") ++ told.host) ++ codes ">") refl refl id),
              (filled _ _ (no_crlf_by_test (codes "MIME-Version: 1.0") refl), tt),
            ),
          ),
        ),
      ),
    )

pub header_filled : (told : Told) (date boundary : List ℕ) → MayBeTold told → HasNoCrlf date → IsAbove boundary → AllByRecursion IsFilledLine (header_lines told date boundary)
header_filled told date boundary may day above =
    all_filled (origin_lines told date) (form_lines told.form (list_any is_eight_bit (third_part told)) ++ type_lines boundary) (origin_filled told date may day)
    (all_filled (form_lines told.form (list_any is_eight_bit (third_part told))) (type_lines boundary) (form_filled told.form (list_any is_eight_bit (third_part told))) (type_filled boundary above))
