-- A field is added to a line where it fits, and else the line is as before.
use Rattle.std.proofs.Common.{◌≡◌, ◌<◌, ◌≤◌, ◌+◌, ℕ, List, ◌++◌, length, take, sym, ap, ◌∙◌, length-append, arith}
use Rattle.std.proofs.lemmas.Bool.{cond-true, cond-false, le-leb, lt-leb}
use Rattle.std.proofs.lemmas.List.{take_at}
use Rattle.relay_backlog.specs.LogLine.{with_field}

-- how long a line with the field is
with_both : (line before field : List ℕ) → line ≡ before ++ field → length line ≡ length before + length field
with_both line before field is = ap length is ∙ length-append before field

pub field_fits : (line before field : List ℕ) → line ≡ before ++ field → length line ≤ 998 → line ≡ with_field before field
field_fits line before field is short =
    let whole = with_both line before field is in
    let fits : length before + length field ≤ 998 = omega (arith, whole, short) in
    is ∙ sym (cond-true _ _ _ (le-leb (length before + length field) 998 fits))

pub field_left_out : (line before field cut : List ℕ) (start : ℕ) → line ≡ before ++ field → start ≡ length before → 998 < length line
    → cut ≡ take start line → cut ≡ with_field before field
field_left_out line before field cut start is at long cuts =
    let whole = with_both line before field is in
    let over : 998 < length before + length field = omega (arith, whole, long) in
    cuts ∙ ap (take start) is ∙ take_at before field start (sym at)
    ∙ sym (cond-false _ _ _ (lt-leb (length before + length field) 998 over))
