-- Printable text is shown as it is.
use Rattle.std.proofs.Common.{◌≡◌, ℕ, ◌==◌, true, false, List, [], ◌∷◌, ◌++◌, codes, decimal, refl, sym, ap, ◌∙◌, append_assoc, arith}
use Rattle.std.specs.Prelude.{if◌then◌else◌}
use Rattle.std.specs.List.{list_all}
use Rattle.std.proofs.lemmas.Bool.{and_parts}
use Rattle.std.proofs.lemmas.Bool.Decides.{nat_tests}
use Rattle.std.proofs.lemmas.Grind.{flat_map-append}
use Rattle.relay_lines.specs.Word.{is_printable}
use Rattle.relay_listing.specs.Metrics.{sample_text}
use Rattle.relay_listing.proofs.PrintableLemmas.{ArePrintable, decimal_printable}
use Rattle.relay_queue.specs.Printed.{spool_gauge}
use Rattle.relay_queue.specs.Screen.{escape, shown, shown_lines, shown_octet}

pub shown_printable : (text : List ℕ) → ArePrintable text → shown text ≡ text
shown_printable [] all = refl
shown_printable (octet ∷ text) all =
    let each = and_parts (is_printable octet) (list_all is_printable text) all in
    ap (λ b. (if b then octet ∷ [] else escape octet) ++ shown text) each.0 ∙ ap (λ l. octet ∷ l) (shown_printable text each.1)

-- the same of lines, since no printable octet is LF
is_no_lf : (octet : ℕ) → is_printable octet ≡ true → octet == 10 ≡ false
is_no_lf octet is = grind (arith, nat_tests, is)

lines_printable : (text : List ℕ) → ArePrintable text → shown_lines text ≡ text
lines_printable [] all = refl
lines_printable (octet ∷ text) all =
    let each = and_parts (is_printable octet) (list_all is_printable text) all in
    ap (λ b. (if b then 10 ∷ [] else shown_octet octet) ++ shown_lines text) (is_no_lf octet each.0)
    ∙ ap (λ b. (if b then octet ∷ [] else escape octet) ++ shown_lines text) each.0
    ∙ ap (λ l. octet ∷ l) (lines_printable text each.1)

-- lines one after another
lines-append : (front back : List ℕ) → shown_lines (front ++ back) ≡ shown_lines front ++ shown_lines back
lines-append front back = flat_map-append (λ (octet : ℕ). if octet == 10 then 10 ∷ [] else shown_octet octet) front back

sample_shown : (size : ℕ) → shown_lines (sample_text (codes "relayd_spool_bytes") size) ≡ spool_gauge size
sample_shown size =
    ap (λ l. codes "relayd_spool_bytes " ++ l)
    (lines-append (decimal size) (10 ∷ []) ∙ ap (λ l. l ++ 10 ∷ []) (lines_printable (decimal size) (decimal_printable size)))

-- a gauge of the spool stands among the lines that are shown
pub gauge_shown : (front head rest : List ℕ) (size : ℕ)
    → shown_lines ((front ++ (head ++ sample_text (codes "relayd_spool_bytes") size)) ++ rest)
    ≡ ((shown_lines front ++ shown_lines head) ++ spool_gauge size) ++ shown_lines rest
gauge_shown front head rest size =
    let sample : List ℕ = sample_text (codes "relayd_spool_bytes") size in
    lines-append (front ++ (head ++ sample)) rest
    ∙ ap (λ l. l ++ shown_lines rest)
    (lines-append front (head ++ sample)
    ∙ ap (λ l. shown_lines front ++ l) (lines-append head sample ∙ ap (λ l. shown_lines head ++ l) (sample_shown size))
    ∙ sym (append_assoc (shown_lines front) (shown_lines head) (spool_gauge size)))
