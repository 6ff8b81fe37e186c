-- How the code goes through a row, an octet at a time. Only private functions speak of it.
use Rattle.std.specs.Prelude.{ℕ, suc, ◌+◌, ◌==◌, Bool, true, false, ◌&&◌, List, [], ◌∷◌, Option, Some, None}
use Rattle.std.specs.Prelude.{if◌then◌else◌}
use Rattle.std.specs.Option.{option_and_then}
use Rattle.relay_lines.specs.Word.{is_printable}
use Rattle.relay_envelope.specs.Row.{is_plain, is_text_octet}
use Rattle.relay_envelope.specs.declared.row.Place.{Place}
use Rattle.relay_envelope.specs.declared.row.Place.TheVariants.{Outside, Inside, Escaped}

-- the place after an octet, if it may stand here
abbrev pub place_after : Place → ℕ → Option Place
place_after Outside octet = if octet == 34 then Some Inside else (if is_plain octet then Some Outside else None)
place_after Inside octet =
    if octet == 34 then Some Outside
    else (if octet == 92 then Some Escaped else (if is_text_octet octet then Some Inside else None))
place_after Escaped octet = if is_printable octet then Some Inside else None

-- a row may end here
abbrev pub is_outside : Place → Bool
is_outside Outside = true
is_outside Inside = false
is_outside Escaped = false

abbrev pub one_more : Option ℕ → Option ℕ
one_more None = None
one_more (Some n) = Some (suc n)

-- as many more
abbrev pub counted : ℕ → Option ℕ → Option ℕ
counted passed None = None
counted passed (Some n) = Some (passed + n)

-- how long the row is that the text begins with after this place, to its first plain `stop` or the text's end
unfoldable pub row_len_from : ℕ → Place → List ℕ → Option ℕ
row_len_from stop place [] = if is_outside place then Some 0 else None
row_len_from stop place (octet ∷ text) =
    if is_outside place && octet == stop then Some 0
    else one_more (option_and_then (λ next. row_len_from stop next text) (place_after place octet))
