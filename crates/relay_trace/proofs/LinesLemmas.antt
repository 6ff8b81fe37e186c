-- The lines that a text is cut into are its lines, and it has no others.
use Rattle.std.proofs.Common.{◌≡◌, ℕ, true, false, ◌&&◌, ◌||◌, ◌==◌, List, [], ◌∷◌, ◌++◌, length, map, take, drop, inl, inr, refl, sym, ap, ◌∙◌, subst, arith, append_assoc, append-nil, length-append}
use Rattle.std.proofs.lemmas.List.{append_cancel_right, length-map, take_at, take-append-drop}
use Rattle.std.proofs.lemmas.Slice.Eq.{bytes_eq-Decides}
use Rattle.std.proofs.lemmas.Bool.{cases_Bool, and_parts, eqb-true}
use Rattle.std.specs.Char.{to_ascii_lowercase}
use Rattle.std.specs.Prelude.{codes}
use Rattle.relay_octets.specs.Line.{crlf, AreLines, lines_text}
use Rattle.relay_octets.proofs.Theorems.{has_crlf, no_crlf_test, no_crlf_by_test, no_crlf_nil, no_crlf_one}
use Rattle.relay_trace.specs.HeaderSection.{lines_of, before_lines, is_received, HasLines, LinesAreOne, BeginsWithReceived, ReceivedIsTested}
use Rattle.relay_trace.proofs.HeaderLemmas.{lines_of-line, lines_of-last, lines_of-octet, lines_of-crlf, lines_of-one, lines_of-nil}

-- lines as a text, the last without its CR LF
unfoldable pub joined : List ℕ → List (List ℕ) → List ℕ
joined line [] = line
joined line (next ∷ more) = line ++ (crlf ++ joined next more)

joined-crlf : (line : List ℕ) (lines : List (List ℕ))
    → joined line lines ++ crlf ≡ lines_text (line ∷ lines)
unfolding joined
joined-crlf line [] = sym (append-nil (line ++ crlf))
joined-crlf line (next ∷ more) =
    append_assoc line (crlf ++ joined next more) crlf
    ∙ ap (λ l. line ++ (crlf ++ l)) (joined-crlf next more)
    ∙ sym (append_assoc line crlf (lines_text (next ∷ more)))

lines_of-joined : (line : List ℕ) (lines : List (List ℕ)) → AreLines (line ∷ lines)
    → lines_of (joined line lines) ≡ line ∷ lines
unfolding joined
lines_of-joined line [] each = lines_of-last line each.0
lines_of-joined line (next ∷ more) each =
    lines_of-line line (joined next more) each.0 ∙ ap (λ l. line ∷ l) (lines_of-joined next more each.1)

-- a text as its first line and the others
pub split_lines : (text : List ℕ) (lines : List (List ℕ)) → HasLines text lines
    → (line : List ℕ) × (rest : List (List ℕ)) × AreLines (line ∷ rest) ×
    (text ≡ joined line rest) × (lines ≡ line ∷ rest)
split_lines text [] has =
    let size = length-append text crlf in
    let none = ap length has.text_is in
    absurd (omega arith)
split_lines text (line ∷ lines) has =
    (line, lines, has.each, append_cancel_right text (joined line lines) crlf (has.text_is ∙ sym (joined-crlf line lines)), refl)

only_lines : (text : List ℕ) (lines : List (List ℕ)) → HasLines text lines → lines ≡ lines_of text
only_lines text lines has =
    let split = split_lines text lines has in
    split.4 ∙ sym (ap lines_of split.3 ∙ lines_of-joined split.0 split.1 split.2)

-- with an octet in front that begins no CR LF
with_octet : (octet next : ℕ) (rest : List ℕ) (lines : List (List ℕ))
    → (octet == 13 && next == 10) ≡ false → HasLines (next ∷ rest) lines
    → HasLines (octet ∷ next ∷ rest) (before_lines octet lines)
with_octet octet next rest [] none has =
    let size = ap length has.text_is in
    absurd (omega arith)
with_octet octet next rest ([] ∷ lines) none has = record {
  text_is = ap (λ l. octet ∷ l) has.text_is;
  each = (no_crlf_one octet, has.each.1);
}
with_octet octet next rest ((first ∷ line) ∷ lines) none has = record {
  text_is = ap (λ l. octet ∷ l) has.text_is;
  each =
      let same : next ≡ first = let whole = has.text_is in cc in (
        no_crlf_by_test (octet ∷ first ∷ line)
            (ap (λ b. b || has_crlf (first ∷ line)) (ap (λ o. octet == 13 && o == 10) (sym same) ∙ none) ∙ no_crlf_test (first ∷ line) has.each.0),
        has.each.1,
      );
}

pub has_lines : (text : List ℕ) → HasLines text (lines_of text)
has_lines [] = subst (HasLines []) (sym lines_of-nil) (record { text_is = refl; each = (no_crlf_nil, tt) })
has_lines (octet ∷ []) =
    subst (HasLines (octet ∷ [])) (sym (lines_of-one octet))
    (record { text_is = refl; each = (no_crlf_one octet, tt) })
has_lines (octet ∷ next ∷ rest) =
    elim (cases_Bool (octet == 13 && next == 10)) [
      | inl here ↦
          let parts = and_parts (octet == 13) (next == 10) here in
          let text_is : octet ∷ next ∷ rest ≡ crlf ++ rest =
          ap (λ o. o ∷ next ∷ rest) (eqb-true octet 13 parts.0)
          ∙ ap (λ o. 13 ∷ o ∷ rest) (eqb-true next 10 parts.1) in
          let has : HasLines (crlf ++ rest) ([] ∷ lines_of rest) =
          record { text_is = ap (λ l. crlf ++ l) (has_lines rest).text_is; each = (no_crlf_nil, (has_lines rest).each) } in
          subst (λ text. HasLines text (lines_of text)) (sym text_is)
          (subst (HasLines (crlf ++ rest)) (sym (lines_of-crlf rest)) has)
      | inr elsewhere ↦
          subst (HasLines (octet ∷ next ∷ rest)) (sym (lines_of-octet octet next rest elsewhere))
          (with_octet octet next rest (lines_of (next ∷ rest)) elsewhere (has_lines (next ∷ rest)))
    ]

pub lines_are_one : LinesAreOne
lines_are_one text lines = (only_lines text lines, λ is. subst (HasLines text) (sym is) (has_lines text))

tested_received : (line : List ℕ) → is_received line ≡ true → BeginsWithReceived line
unfolding is_received
tested_received line test = record {
  name = take 9 line;
  rest = drop 9 line;
  line_is = sym (take-append-drop 9 line);
  same =
      (bytes_eq-Decides (map to_ascii_lowercase (take 9 line)) (map to_ascii_lowercase (codes "Received:"))).0 test;
}

received_tested : (line : List ℕ) → BeginsWithReceived line → is_received line ≡ true
unfolding is_received
received_tested line begins =
    let size : length begins.name ≡ 9 =
    sym (length-map begins.name to_ascii_lowercase) ∙ ap length begins.same in
    let front : take 9 line ≡ begins.name =
    ap (take 9) begins.line_is ∙ take_at begins.name begins.rest 9 size in
    (bytes_eq-Decides (map to_ascii_lowercase (take 9 line)) (map to_ascii_lowercase (codes "Received:"))).1
    (ap (map to_ascii_lowercase) front ∙ begins.same)

pub received_is_tested : ReceivedIsTested
received_is_tested line = (tested_received line, received_tested line)
