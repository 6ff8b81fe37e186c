-- Taking a multipart text apart.
use Rattle.std.proofs.Common.{◌≡◌, ℕ, zero, suc, ◌+◌, ◌<◌, ◌≤◌, List, [], ◌++◌, length, take, drop, Some, None, sym, ap, subst, ◌∙◌, arith, append_assoc}
use Rattle.std.proofs.lemmas.List.{take_at, drop_at, length-take}
use Rattle.std.proofs.lemmas.Bool.{eqb-true, eq-eqb}
use Rattle.std.specs.Prelude.{slice_index}
use Rattle.memchr.specs.Find.{IsFirstByte, is_byte}
use Rattle.relay_octets.specs.Line.{HasNoCrlf, ReadsLine, crlf}
use Rattle.relay_octets.proofs.Theorems.{first_line_is_one}
use Rattle.relay_trace.specs.HeaderSection.{header_end_of}
use Rattle.relay_report.specs.Parts.{BeginsOnce, CutsInThree, HasNoThree, IsThreeOf}
use Rattle.relay_report.specs.Split.{Delimits, HasNoEmptyLine, OpensWith, OpensWithNone, HasParts, HasNoParts, PartsAreOne, part_of}
use Rattle.relay_report.proofs.CutLemmas.{parts_come_back}

-- where a text opens is fixed by the text
pub opens_is_one : (text line rest other more : List ℕ) → OpensWith text line rest → OpensWith text other more → (line ≡ other) × (rest ≡ more)
opens_is_one text line rest other more a b =
    let after = first_line_is_one text [] a.after [] b.after a.empty_line b.empty_line in
    first_line_is_one b.after line rest other more (subst (λ l. ReadsLine l line rest) after.1 a.boundary_line) b.boundary_line

pub parts_are_one : PartsAreOne
parts_are_one text one two three first second third a b =
    let opens = opens_is_one _ _ _ _ _ a.opens b.opens in
    let cuts = subst (λ l. CutsInThree (crlf ++ l) (crlf ++ a.rest) a.first a.second a.third a.cuts.tail) opens.0 a.cuts.cuts in
    let both = subst (λ l. CutsInThree (crlf ++ b.line) (crlf ++ l) a.first a.second a.third a.cuts.tail) opens.1 cuts in
    let same = parts_come_back (crlf ++ b.line) (crlf ++ b.rest) a.first a.second a.third a.cuts.tail b.first b.second b.third b.cuts.tail b.opens.no_cr both b.cuts.cuts in
    (a.one_is ∙ ap part_of same.0 ∙ sym b.one_is, a.two_is ∙ ap part_of same.1 ∙ sym b.two_is, a.three_is ∙ ap part_of same.2 ∙ sym b.three_is)

-- without an opening there are no parts
pub none_opens : (text start : List ℕ) → start ≡ drop (header_end_of text) text → OpensWithNone start → HasNoParts text
none_opens text start start_is without = record { none = λ one two three has. without.none has.line has.rest (subst (λ l. OpensWith l has.line has.rest) (sym start_is) has.opens) }

opening : (text line rest : List ℕ) → OpensWith text line rest → text ≡ (crlf ++ line) ++ (crlf ++ rest)
opening text line rest opens = opens.empty_line.text ∙ ap (λ l. crlf ++ l) (opens.boundary_line.text ∙ append_assoc line crlf rest)

-- without three pieces there are no parts
pub none_cuts : (text start mark pieces : List ℕ) → start ≡ drop (header_end_of text) text → Delimits start mark pieces → HasNoThree mark pieces → HasNoParts text
none_cuts text start mark pieces start_is is without = record {
  none = λ one two three has.
      let same = opens_is_one start has.line has.rest is.line is.rest (subst (λ l. OpensWith l has.line has.rest) (sym start_is) has.opens) is.opens in
      let mark_is = ap (λ l. crlf ++ l) same.0 ∙ sym is.mark_is in
      let pieces_are = ap (λ l. crlf ++ l) same.1 ∙ sym is.pieces_are in
      let cuts = subst (λ l. CutsInThree l (crlf ++ has.rest) has.first has.second has.third has.cuts.tail) mark_is has.cuts.cuts in
      without.none has.first has.second has.third has.cuts.tail (subst (λ l. CutsInThree mark l has.first has.second has.third has.cuts.tail) pieces_are cuts);
}

-- three pieces have the three parts
pub has_parts : (text start mark pieces first second third one two three : List ℕ) → start ≡ drop (header_end_of text) text → Delimits start mark pieces
    → IsThreeOf mark pieces first second third → one ≡ part_of first → two ≡ part_of second → three ≡ part_of third → HasParts text one two three
has_parts text start mark pieces first second third one two three start_is is cuts a b d = record {
  line = is.line;
  rest = is.rest;
  first = first;
  second = second;
  third = third;
  opens = subst (λ l. OpensWith l is.line is.rest) start_is is.opens;
  cuts = subst (λ l. IsThreeOf l (crlf ++ is.rest) first second third) is.mark_is (subst (λ l. IsThreeOf mark l first second third) is.pieces_are cuts);
  one_is = a;
  two_is = b;
  three_is = d;
}

-- a line without a CR, after CR LF
pub no_cr_begins : (line : List ℕ) → IsFirstByte (is_byte 13) line None → BeginsOnce (crlf ++ line)
no_cr_begins line none = record { some = omega arith; once = once }
  where
    once : (place : ℕ) → 0 < place → place < length (crlf ++ line) → slice_index (crlf ++ line) place ≡ slice_index (crlf ++ line) 0 → ⊥
    once zero low high e = omega (arith, low)
    once (suc zero) low high e = omega (arith, e)
    once (suc (suc k)) low high e = none k (omega arith) (omega (arith, high)) (eq-eqb (slice_index line k) 13 e)

pub cr_begins_not : (line : List ℕ) (place : ℕ) → IsFirstByte (is_byte 13) line (Some place) → BeginsOnce (crlf ++ line) → ⊥
cr_begins_not line place found once = once.once (suc (suc place)) (omega arith) (omega (arith, found.0.high)) (eqb-true (slice_index line place) 13 found.1)

-- the line end and the line are the text's front
pub delimits : (text after line mark pieces : List ℕ) (size : ℕ) → ReadsLine text [] after → ReadsLine after (take size after) (drop (size + 2) after) → size + 2 ≤ length after
    → line ≡ take size after → BeginsOnce (crlf ++ line) → mark ≡ take (size + 2) text → pieces ≡ drop (size + 2) text → Delimits text mark pieces
delimits text after line mark pieces size empty reads within line_is once mark_is pieces_are = record {
  line = take size after;
  rest = drop (size + 2) after;
  opens = opens;
  mark_is = mark_is ∙ ap (take (size + 2)) whole ∙ take_at (crlf ++ take size after) (crlf ++ drop (size + 2) after) (size + 2) long;
  pieces_are = pieces_are ∙ ap (drop (size + 2)) whole ∙ drop_at (crlf ++ take size after) (crlf ++ drop (size + 2) after) (size + 2) long;
}
  where
    opens : OpensWith text (take size after) (drop (size + 2) after)
    opens = record { after = after; empty_line = empty; boundary_line = reads; no_cr = subst (λ l. BeginsOnce (crlf ++ l)) line_is once }

    whole : text ≡ (crlf ++ take size after) ++ (crlf ++ drop (size + 2) after)
    whole = opening text (take size after) (drop (size + 2) after) opens

    long : length (crlf ++ take size after) ≡ size + 2
    long = let cut = length-take size after in omega (arith, cut, within)

-- a line with a CR opens nothing
pub cr_opens_none : (text after line : List ℕ) (size : ℕ) → ReadsLine text [] after → ReadsLine after (take size after) (drop (size + 2) after)
    → line ≡ take size after → (BeginsOnce (crlf ++ line) → ⊥) → OpensWithNone text
cr_opens_none text after line size empty reads line_is not_once = record {
  none = λ other more opens.
      let same = first_line_is_one text [] after [] opens.after empty opens.empty_line in
      let lines = first_line_is_one opens.after (take size after) (drop (size + 2) after) other more (subst (λ l. ReadsLine l (take size after) (drop (size + 2) after)) same.1 reads) opens.boundary_line in
      not_once (subst (λ l. BeginsOnce (crlf ++ l)) (sym (line_is ∙ lines.0)) opens.no_cr);
}

-- an empty line with no line after it opens nothing
pub line_opens_none : (text after : List ℕ) → ReadsLine text [] after → HasNoCrlf after → OpensWithNone text
line_opens_none text after empty none = record {
  none = λ other more opens.
      let same = first_line_is_one text [] after [] opens.after empty opens.empty_line in
      none.nowhere other more (same.1 ∙ opens.boundary_line.text);
}

pub none_opens_none : (text : List ℕ) → HasNoEmptyLine text → OpensWithNone text
none_opens_none text without = record { none = λ line rest opens. without.none opens.after opens.empty_line }

-- a text whose first line isn't empty has no empty line at its front
pub other_line : (text line rest : List ℕ) (size : ℕ) → ReadsLine text line rest → line ≡ take size text → size + 2 ≤ length text → (size ≡ 0 → ⊥) → HasNoEmptyLine text
other_line text line rest size reads line_is within some = record {
  none = λ after empty.
      let same = first_line_is_one text line rest [] after reads empty in
      some (let cut = length-take size text in omega (arith, cut, within, ap length line_is, ap length same.0));
}

pub no_line : (text : List ℕ) → HasNoCrlf text → HasNoEmptyLine text
no_line text none = record { none = λ after empty. none.nowhere [] after empty.text }
