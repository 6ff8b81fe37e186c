-- What is shown of octets.
use Rattle.std.proofs.Common.{◌≡◌, ℕ, ◌+◌, Bool, true, false, ◌&&◌, List, [], ◌∷◌, ◌++◌, map, take, length, get_or, ◌<◌, ◌≤◌, cond, refl, sym, ap, ◌∙◌, subst}
use Rattle.std.specs.List.{AllPass, list_all}
use Rattle.std.proofs.lemmas.List.{map_more, take_all}
use Rattle.std.proofs.lemmas.List.Sums.{AllPass-from_list_all}
use Rattle.relay_lines.specs.Word.{is_printable, shown}

shown_by : (octet : ℕ) (test : Bool) → is_printable octet ≡ test → is_printable (cond test octet 63) ≡ true
shown_by octet true e = e
shown_by octet false e = refl

all_shown_by : (text : List ℕ) → list_all is_printable (map shown text) ≡ true
all_shown_by [] = refl
all_shown_by (octet ∷ text) =
    ap (λ b. b && list_all is_printable (map shown text)) (shown_by octet (is_printable octet) refl)
    ∙ all_shown_by text

-- what is shown is printable
pub shown_is_printable : (text : List ℕ) → AllPass is_printable (map shown text)
shown_is_printable text = AllPass-from_list_all is_printable (map shown text) (all_shown_by text)

-- where all of a text was shown, it is printable
pub all_is_printable : (text all : List ℕ) (index : ℕ) → length text ≤ index → all ≡ map shown (take index text)
    → AllPass is_printable all
all_is_printable text all index end is =
    subst (AllPass is_printable) (sym (is ∙ ap (map shown) (take_all index text end))) (shown_is_printable text)

-- one octet more is shown
pub shown_more : (text all now : List ℕ) (index octet : ℕ) → index < length text → all ≡ map shown (take index text)
    → octet ≡ shown (get_or text index 0) → now ≡ all ++ octet ∷ [] → now ≡ map shown (take (index + 1) text)
shown_more text all now index octet within is shows more =
    more ∙ ap (λ front. front ++ octet ∷ []) is ∙ ap (λ next. map shown (take index text) ++ next ∷ []) shows
    ∙ sym (map_more shown text index 0 within)
