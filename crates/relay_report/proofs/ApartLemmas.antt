-- A multipart text whose parts have no boundary in them comes apart into them.
use Rattle.std.proofs.Common.{◌≡◌, inl, inr, ℕ, zero, suc, ◌+◌, ◌<◌, ◌≤◌, nat_le, Bool, true, false, ◌==◌, ◌&&◌, ◌||◌, List, [], ◌∷◌, ◌++◌, codes, length, drop, get_or, refl, sym, ap, subst, ◌∙◌, arith, append_assoc, add-zero, length-append}
use Rattle.std.proofs.lemmas.Bool.{and_parts, eqb-true, false≢true, leb-true, cases_Bool}
use Rattle.std.proofs.lemmas.List.{drop_at}
use Rattle.std.specs.Prelude.{slice_index}
use Rattle.std.specs.List.{AllByRecursion, list_all, list_any}
use Rattle.relay_octets.specs.Line.{begins_with_lf, crlf, has_crlf, lines_text}
use Rattle.relay_octets.proofs.Theorems.{no_crlf_by_test, no_crlf_nil}
use Rattle.relay_trace.specs.HeaderSection.{IsFilledLine, header_end_of}
use Rattle.relay_trace.proofs.Theorems.{header_ends_at_empty_line, header_goes_on}
use Rattle.relay_report.specs.Boundary.{StandsNowhere}
use Rattle.relay_report.specs.StatusFields.{field}
use Rattle.relay_routes.specs.declared.report_form.ReportForm.{ReportForm}
use Rattle.relay_routes.specs.declared.report_form.ReportForm.TheVariants.{Plain, Rich}
use Rattle.relay_report.specs.Multipart.{body_part, closing_line, dash_boundary, encoding_field, encoding_of, is_eight_bit, multipart_text, part_fields, part_head, returned_type}
use Rattle.relay_report.specs.Parts.{BeginsOnce, IsThreeOf}
use Rattle.relay_report.specs.Split.{OpensWith, part_of}
use Rattle.relay_report.proofs.CutLemmas.{nowhere_after_line}

-- octets above CR and LF
abbrev pub is_above : ℕ → Bool
is_above octet = nat_le 14 octet

pub record IsAbove (text : List ℕ) : Type 0 where
  pub test : list_all is_above text ≡ true

above_not_cr : (octet : ℕ) → is_above octet ≡ true → octet == 13 ≡ false
above_not_cr octet above =
    elim (cases_Bool (octet == 13)) [
      | inl here ↦ absurd (omega (arith, leb-true 14 octet above, eqb-true octet 13 here))
      | inr other ↦ other
    ]

pub above_has_no_crlf : (text : List ℕ) → list_all is_above text ≡ true → has_crlf text ≡ false
above_has_no_crlf [] above = refl
above_has_no_crlf (octet ∷ octets) above =
    let parts = and_parts (is_above octet) (list_all is_above octets) above in
    ap (λ b. (b && begins_with_lf octets) || has_crlf octets) (above_not_cr octet parts.0) ∙ above_has_no_crlf octets parts.1

above_at : (text : List ℕ) (place : ℕ) → list_all is_above text ≡ true → place < length text → 14 ≤ get_or text place 0
above_at [] place above within = absurd (omega (arith, within))
above_at (octet ∷ octets) zero above within = leb-true 14 octet (and_parts (is_above octet) (list_all is_above octets) above).0
above_at (octet ∷ octets) (suc place) above within = above_at octets place (and_parts (is_above octet) (list_all is_above octets) above).1 (omega (arith, within))

above_begins_once : (line : List ℕ) → IsAbove line → BeginsOnce (crlf ++ line)
above_begins_once line above = record { some = omega arith; once = once }
  where
    once : (place : ℕ) → 0 < place → place < length (crlf ++ line) → slice_index (crlf ++ line) place ≡ slice_index (crlf ++ line) 0 → ⊥
    once zero low high e = omega (arith, low)
    once (suc zero) low high e = omega (arith, e)
    once (suc (suc k)) low high e = omega (arith, above_at line k above.test (omega (arith, high)), e)

-- two dashes stand in the octets
abbrev pub begins_with_dash : List ℕ → Bool
begins_with_dash [] = false
begins_with_dash (octet ∷ octets) = octet == 45

abbrev pub has_dashes : List ℕ → Bool
has_dashes [] = false
has_dashes (octet ∷ octets) = (octet == 45 && begins_with_dash octets) || has_dashes octets

or_true : (b : Bool) → b || true ≡ true
or_true true = refl
or_true false = refl

dashes_between : (before after : List ℕ) → has_dashes (before ++ (45 ∷ 45 ∷ after)) ≡ true
dashes_between [] after = refl
dashes_between (octet ∷ octets) after =
    ap (λ b. (octet == 45 && begins_with_dash (octets ++ (45 ∷ 45 ∷ after))) || b) (dashes_between octets after) ∙ or_true _

-- so a boundary doesn't where none stand
no_dashes : (boundary text : List ℕ) → has_dashes text ≡ false → StandsNowhere (dash_boundary boundary) text
no_dashes boundary text none = record {
  nowhere = λ before after e. false≢true (sym none ∙ ap has_dashes e ∙ dashes_between before (boundary ++ after));
}

-- fields that may stand in a part's head
pub record IsHead (fields : List ℕ) : Type 0 where
  pub lines : List (List ℕ)
  pub text_is : fields ≡ lines_text lines
  pub filled : AllByRecursion IsFilledLine lines
  pub dashes : has_dashes ((crlf ++ fields) ++ (13 ∷ [])) ≡ false

filled_line : (octet : ℕ) (octets : List ℕ) → has_crlf (octet ∷ octets) ≡ false → IsFilledLine (octet ∷ octets)
filled_line octet octets plain = record { no_crlf = no_crlf_by_test (octet ∷ octets) plain; not_empty = λ e. cc }

pub text_head : IsHead (part_fields (codes "text/plain; charset=us-ascii") [])
unfolding part_fields field
text_head = record {
  lines = codes "Content-Type: text/plain; charset=us-ascii" ∷ [];
  text_is = refl;
  filled = (filled_line _ _ refl, tt);
  dashes = refl;
}

pub status_head : IsHead (part_fields (codes "message/delivery-status") [])
unfolding part_fields field
status_head = record {
  lines = codes "Content-Type: message/delivery-status" ∷ [];
  text_is = refl;
  filled = (filled_line _ _ refl, tt);
  dashes = refl;
}

third_head : (whole eight : Bool) → IsHead (part_fields (returned_type whole) (encoding_field eight))
unfolding part_fields field
third_head true true = record {
  lines = codes "Content-Type: message/rfc822" ∷ codes "Content-Transfer-Encoding: 8bit" ∷ [];
  text_is = refl;
  filled = (filled_line _ _ refl, (filled_line _ _ refl, tt));
  dashes = refl;
}
third_head true false = record {
  lines = codes "Content-Type: message/rfc822" ∷ [];
  text_is = refl;
  filled = (filled_line _ _ refl, tt);
  dashes = refl;
}
third_head false true = record {
  lines = codes "Content-Type: text/rfc822-headers" ∷ codes "Content-Transfer-Encoding: 8bit" ∷ [];
  text_is = refl;
  filled = (filled_line _ _ refl, (filled_line _ _ refl, tt));
  dashes = refl;
}
third_head false false = record {
  lines = codes "Content-Type: text/rfc822-headers" ∷ [];
  text_is = refl;
  filled = (filled_line _ _ refl, tt);
  dashes = refl;
}

pub returned_head : (form : ReportForm) (whole : Bool) (part : List ℕ) → IsHead (part_fields (returned_type whole) (encoding_of form part))
returned_head Plain whole part = third_head whole false
returned_head Rich whole part = third_head whole (list_any is_eight_bit part)

-- a piece between two boundaries
abbrev pub piece : List ℕ → List ℕ → List ℕ
piece fields part = crlf ++ (fields ++ (crlf ++ part))

mark_nowhere : (word text : List ℕ) → StandsNowhere word text → StandsNowhere (crlf ++ word) text
mark_nowhere word text none = record {
  nowhere = λ before after e. none.nowhere (before ++ crlf) after (e ∙ ap (λ l. before ++ l) (append_assoc crlf word after) ∙ sym (append_assoc before crlf (word ++ after)));
}

regroup : (head part : List ℕ) → (head ++ (13 ∷ [])) ++ (10 ∷ part) ≡ head ++ (13 ∷ 10 ∷ part)
regroup head part = append_assoc head (13 ∷ []) (10 ∷ part)

piece_free : (boundary fields part : List ℕ) → IsHead fields → IsAbove (dash_boundary boundary) → StandsNowhere (dash_boundary boundary) part
    → StandsNowhere (crlf ++ dash_boundary boundary) (piece fields part)
piece_free boundary fields part is above none =
    mark_nowhere (dash_boundary boundary) (piece fields part)
    (subst (StandsNowhere (dash_boundary boundary)) (regroup (crlf ++ fields) part ∙ append_assoc crlf fields (crlf ++ part))
    (nowhere_after_line (dash_boundary boundary) ((crlf ++ fields) ++ (13 ∷ [])) part
    (λ place within e. omega (arith, above_at (dash_boundary boundary) place above.test within, e))
    (no_dashes boundary _ is.dashes) none))

-- the head of a part is a header section
head_end : (fields part : List ℕ) → IsHead fields → header_end_of (fields ++ (crlf ++ part)) ≡ length fields
head_end fields part is =
    let goes = (header_goes_on is.lines (crlf ++ part) is.filled).1 in
    let stops = (header_ends_at_empty_line part).1 in
    subst (λ l. header_end_of (l ++ (crlf ++ part)) ≡ length l) (sym is.text_is)
    (goes ∙ ap (λ n. length (lines_text is.lines) + n) stops ∙ add-zero (length (lines_text is.lines)))

part_after : (head part : List ℕ) → header_end_of (head ++ (crlf ++ part)) ≡ length head → part ≡ part_of (crlf ++ (head ++ (crlf ++ part)))
part_after head part end =
    let size : length (head ++ crlf) ≡ header_end_of (head ++ (crlf ++ part)) + 2 = omega (arith, end, length-append head crlf) in
    sym (drop_at (head ++ crlf) part (header_end_of (head ++ (crlf ++ part)) + 2) size)
    ∙ ap (drop (header_end_of (head ++ (crlf ++ part)) + 2)) (append_assoc head crlf part)
    ∙ ap (λ l. drop (header_end_of l + 2) l) (sym (drop_at crlf (head ++ (crlf ++ part)) 2 refl))

piece_part : (fields part : List ℕ) → IsHead fields → part ≡ part_of (piece fields part)
piece_part fields part is = part_after fields part (head_end fields part is)

-- the pieces one after another
abbrev mark_text : List ℕ → List ℕ → List ℕ → List ℕ → List ℕ
mark_text c w f part = (((w ++ c) ++ f) ++ c) ++ part ++ c

abbrev after_first : List ℕ → List ℕ → List ℕ → List ℕ → List ℕ → List ℕ → List ℕ → List ℕ
after_first c w g h two three tail = (c ++ w) ++ ((c ++ (g ++ (c ++ two))) ++ ((c ++ w) ++ ((c ++ (h ++ (c ++ three))) ++ ((c ++ w) ++ tail))))

joined_pieces : (c w f g h one two three d : List ℕ)
    → mark_text c w f one ++ mark_text c w g two ++ mark_text c w h three ++ ((w ++ d) ++ c)
    ≡ w ++ (c ++ ((f ++ (c ++ one)) ++ after_first c w g h two three (d ++ c)))
joined_pieces c w f g h one two three d = simp append_assoc

-- a text opens with a boundary that cuts it in these three parts
pub record OpensParts (text one two three : List ℕ) : Type 0 where
  pub line : List ℕ
  pub rest : List ℕ
  pub first : List ℕ
  pub second : List ℕ
  pub third : List ℕ
  pub opens : OpensWith text line rest
  pub cuts : IsThreeOf (crlf ++ line) (crlf ++ rest) first second third
  pub one_is : one ≡ part_of first
  pub two_is : two ≡ part_of second
  pub three_is : three ≡ part_of third

pub multipart_opens : (boundary one two kind encoding three : List ℕ) → IsHead (part_fields kind encoding) → IsAbove (dash_boundary boundary)
    → StandsNowhere (dash_boundary boundary) one → StandsNowhere (dash_boundary boundary) two → StandsNowhere (dash_boundary boundary) three
    → OpensParts (crlf ++ multipart_text boundary one two kind encoding three) one two three
unfolding multipart_text body_part part_head closing_line
multipart_opens boundary one two kind encoding three is above first second third = record {
  line = dash_boundary boundary;
  rest = rest;
  first = piece text_fields one;
  second = piece status_fields two;
  third = piece (part_fields kind encoding) three;
  opens = record {
    after = dash_boundary boundary ++ (crlf ++ rest);
    empty_line = record { text = ap (λ l. crlf ++ l) whole; first = no_crlf_nil };
    boundary_line = record {
      text = sym (append_assoc (dash_boundary boundary) crlf rest);
      first = no_crlf_by_test (dash_boundary boundary) (above_has_no_crlf (dash_boundary boundary) above.test);
    };
    no_cr = above_begins_once (dash_boundary boundary) above;
  };
  cuts = record {
    tail = codes "--" ++ crlf;
    cuts = record {
      text_is = sym (append_assoc crlf (text_fields ++ (crlf ++ one)) after);
      one_plain = piece_free boundary text_fields one text_head above first;
      two_plain = piece_free boundary status_fields two status_head above second;
      three_plain = piece_free boundary (part_fields kind encoding) three is above third;
    };
  };
  one_is = piece_part text_fields one text_head;
  two_is = piece_part status_fields two status_head;
  three_is = piece_part (part_fields kind encoding) three is;
}
  where
    text_fields : List ℕ
    text_fields = part_fields (codes "text/plain; charset=us-ascii") []

    status_fields : List ℕ
    status_fields = part_fields (codes "message/delivery-status") []

    after : List ℕ
    after = after_first crlf (dash_boundary boundary) status_fields (part_fields kind encoding) two three (codes "--" ++ crlf)

    rest : List ℕ
    rest = (text_fields ++ (crlf ++ one)) ++ after

    whole : multipart_text boundary one two kind encoding three ≡ dash_boundary boundary ++ (crlf ++ rest)
    whole = joined_pieces crlf (dash_boundary boundary) text_fields status_fields (part_fields kind encoding) one two three (codes "--")
