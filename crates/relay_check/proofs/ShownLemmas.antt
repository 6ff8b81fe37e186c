-- What is shown stays printable and short.
use Rattle.std.proofs.Common.{◌≡◌, ℕ, ◌<◌, true, List, [], ◌∷◌, ◌++◌, length, sym, ap, subst, ◌∙◌, arith, length-append}
use Rattle.std.specs.Char.{encode_utf8}
use Rattle.std.proofs.lemmas.Str.{encode_ascii}
use Rattle.std.proofs.lemmas.Grind.{common_steps}
use Rattle.relay_check.specs.Shown.{IsShown, is_printable}

below_128 : (octet : ℕ) → is_printable octet ≡ true → octet < 128
below_128 octet printable = grind (arith, common_steps)

one_more : (old : List ℕ) (octet : ℕ) → IsShown old → length old < 160 → is_printable octet ≡ true → IsShown (old ++ octet ∷ [])
one_more old octet shown room printable = record {
  printable = grind (arith, common_steps, shown.printable, printable);
  short = grind (arith, length-append, room);
}

-- a printable character more is shown
pub shown_more : (old new : List ℕ) (octet : ℕ) → IsShown old → length old < 160 → is_printable octet ≡ true
    → new ≡ old ++ encode_utf8 octet → IsShown new
shown_more old new octet shown room printable more =
    subst IsShown (sym (more ∙ ap (λ last. old ++ last) (encode_ascii octet (below_128 octet printable))))
    (one_more old octet shown room printable)
