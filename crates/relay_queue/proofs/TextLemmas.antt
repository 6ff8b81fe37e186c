-- A text of mail, line by line.
use Rattle.std.proofs.Common.{◌≡◌, ℕ, List, [], ◌∷◌, ◌++◌, refl, sym, ap, ◌∙◌, append_assoc}
use Rattle.std.proofs.lemmas.List.{flat_map_more}
use Rattle.std.specs.List.{flat_map}
use Rattle.relay_octets.specs.Line.{AreLines, HasNoCrlf, ReadsLine, line_text, lines_text}
use Rattle.relay_queue.specs.Screen.{IsShownText, shown, shown_last, shown_line}

-- what was read and shown so far of a text, and what is left of it
abbrev pub IsShownSoFar : List ℕ → List ℕ → List ℕ → List ℕ → Type 0
IsShownSoFar text rest before now =
    (lines : List (List ℕ)) × (text ≡ lines_text lines ++ rest) × AreLines lines × (now ≡ before ++ flat_map shown_line lines)

one_line_more : (lines : List (List ℕ)) (line : List ℕ) → AreLines lines → HasNoCrlf line → AreLines (lines ++ line ∷ [])
one_line_more [] line all is = (is, tt)
one_line_more (first ∷ lines) line all is = (all.0, one_line_more lines line all.1 is)

pub shown_more : (text rest more line before now shown_now new : List ℕ) → IsShownSoFar text rest before now → ReadsLine rest line more
    → shown_now ≡ now ++ shown line → new ≡ shown_now ++ 10 ∷ [] → IsShownSoFar text more before new
shown_more text rest more line before now shown_now new so_far reads shown_is new_is = (
  so_far.0 ++ line ∷ [],
  so_far.1 ∙ ap (λ l. lines_text so_far.0 ++ l) reads.text ∙ sym (append_assoc (lines_text so_far.0) (line_text line) more)
      ∙ ap (λ l. l ++ more) (flat_map_more line_text [] so_far.0 line),
  one_line_more so_far.0 line so_far.2 reads.first,
  new_is ∙ ap (λ l. l ++ 10 ∷ []) shown_is ∙ append_assoc now (shown line) (10 ∷ []) ∙ ap (λ l. l ++ shown_line line) so_far.3
      ∙ flat_map_more shown_line before so_far.0 line,
)

pub shown_to_end : (text rest before now new : List ℕ) → IsShownSoFar text rest before now → HasNoCrlf rest → new ≡ now ++ shown_last rest
    → (added : List ℕ) × (new ≡ before ++ added) × IsShownText text added
shown_to_end text rest before now new so_far none is = (
  flat_map shown_line so_far.0 ++ shown_last rest,
  is ∙ ap (λ l. l ++ shown_last rest) so_far.3 ∙ append_assoc before (flat_map shown_line so_far.0) (shown_last rest),
  record { lines = so_far.0; rest = rest; text_is = so_far.1; are_lines = so_far.2; rest_is = none; added_is = refl },
)
