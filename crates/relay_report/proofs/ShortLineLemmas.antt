-- Texts of short lines, one after another.
use Rattle.std.proofs.Common.{◌≡◌, ℕ, ◌+◌, ◌<◌, ◌≤◌, ◌^◌, false, List, [], ◌∷◌, ◌++◌, codes, decimal, length, take, drop, Option, None, Some, refl, sym, ap, subst, ◌∙◌, arith, append_assoc, append-nil, length-append}
use Rattle.std.proofs.lemmas.Grind.{flat_map-append}
use Rattle.std.proofs.lemmas.List.{take-append-drop}
use Rattle.std.specs.List.{AllByRecursion}
use Rattle.relay_octets.specs.Line.{HasNoCrlf, crlf, ends_in_cr, has_crlf, line_text, lines_text}
use Rattle.relay_octets.proofs.Theorems.{no_crlf_back, no_crlf_front, no_crlf_joined, no_crlf_nil}
use Rattle.relay_report.specs.StatusFields.{field, reply_words, typed}
use Rattle.relay_report.specs.Lines.{HasShortLines, IsShortLine}
use Rattle.relay_report.proofs.HeaderLemmas.{above_none, and_false, decimal_above, headed}
use Rattle.relay_report.proofs.ShortLemmas.{length-typed}

-- lines, and texts of lines
pub no_lines : HasShortLines []
no_lines = record { lines = []; text_is = refl; each = tt }

pub empty_line : HasShortLines crlf
empty_line = record { lines = [] ∷ []; text_is = refl; each = (record { no_crlf = no_crlf_nil; short = omega arith }, tt) }

pub one_line : (line : List ℕ) → HasNoCrlf line → length line ≤ 998 → HasShortLines (line ++ crlf)
one_line line plain short = record {
  lines = line ∷ [];
  text_is = sym (append-nil (line ++ crlf));
  each = (record { no_crlf = plain; short = short }, tt);
}

pub each_joined : (one two : List (List ℕ)) → AllByRecursion IsShortLine one → AllByRecursion IsShortLine two → AllByRecursion IsShortLine (one ++ two)
each_joined [] two a b = b
each_joined (line ∷ one) two a b = (a.0, each_joined one two a.1 b)

pub joined : (one two : List ℕ) → HasShortLines one → HasShortLines two → HasShortLines (one ++ two)
joined one two a b = record {
  lines = a.lines ++ b.lines;
  text_is = ap (λ t. t ++ two) a.text_is ∙ ap (λ t. lines_text a.lines ++ t) b.text_is ∙ sym (flat_map-append line_text a.lines b.lines);
  each = each_joined a.lines b.lines a.each b.each;
}

pub field_line : (name body : List ℕ) → has_crlf (name ++ codes ": ") ≡ false → ends_in_cr (name ++ codes ": ") ≡ false → HasNoCrlf body
    → length name + length body ≤ 996 → HasShortLines (field name body)
unfolding field
field_line name body plain ends none short =
    one_line ((name ++ codes ": ") ++ body) (headed (name ++ codes ": ") body plain ends none)
    (omega (arith, short, length-append (name ++ codes ": ") body, length-append name (codes ": ")))

typed_none : (kind text : List ℕ) → HasNoCrlf kind → HasNoCrlf text → HasNoCrlf (typed kind text)
unfolding typed
typed_none kind text first second =
    subst HasNoCrlf (sym (append_assoc kind (codes "; ") text))
    (no_crlf_joined kind (codes "; " ++ text) first (headed (codes "; ") text refl refl second) (and_false (ends_in_cr kind)))

pub typed_field : (name kind text : List ℕ) → has_crlf (name ++ codes ": ") ≡ false → ends_in_cr (name ++ codes ": ") ≡ false → HasNoCrlf kind → HasNoCrlf text
    → length name + length kind + length text ≤ 994 → HasShortLines (field name (typed kind text))
typed_field name kind text plain ends first second short =
    field_line name (typed kind text) plain ends (typed_none kind text first second) (omega (arith, short, length-typed kind text))

-- a date of a report
pub record IsShortDate (date : List ℕ) : Type 0 where
  pub plain : HasNoCrlf date
  pub size : length date ≡ 31

-- until when a place is tried
abbrev pub IsShortDay : Option (List ℕ) → Type 0
IsShortDay None = Unit {0}
IsShortDay (Some date) = IsShortDate date

pub part_none : (octets : List ℕ) (size from : ℕ) → HasNoCrlf octets → HasNoCrlf (take size (drop from octets))
part_none octets size from none =
    no_crlf_front (take size (drop from octets)) (drop size (drop from octets))
    (subst HasNoCrlf (sym (take-append-drop size (drop from octets))) (no_crlf_back (take from octets) (drop from octets) (subst HasNoCrlf (sym (take-append-drop from octets)) none)))

pub words_none : (code : ℕ) (text : List ℕ) → code < 2 ^ 64 → HasNoCrlf text → HasNoCrlf (reply_words code text)
words_none code [] fits none = above_none (decimal code) (decimal_above code fits)
words_none code (octet ∷ octets) fits none =
    subst HasNoCrlf (sym (append_assoc (decimal code) (codes " ") (octet ∷ octets)))
    (no_crlf_joined (decimal code) (codes " " ++ (octet ∷ octets)) (above_none (decimal code) (decimal_above code fits)) (headed (codes " ") (octet ∷ octets) refl refl none) (and_false (ends_in_cr (decimal code))))
