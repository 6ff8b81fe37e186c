-- The lines of a text, and what they say of its header section.
use Rattle.std.proofs.Common.{◌≡◌, ℕ, ◌+◌, ◌<◌, Bool, true, false, ◌&&◌, ◌||◌, ◌==◌, cond, min, List, [], ◌∷◌, ◌++◌, length, refl, sym, ap, ◌∙◌, arith, append_assoc, length-append, zero-add}
use Rattle.std.proofs.Math.Bool.{and-false}
use Rattle.std.proofs.lemmas.List.Sums.{sum_by-cons}
use Rattle.std.specs.List.{count_by}
use Rattle.relay_octets.specs.Line.{crlf, HasNoCrlf, ReadsLine, lines_text}
use Rattle.relay_octets.proofs.Theorems.{no_crlf_test, no_crlf_tail}
use Rattle.relay_trace.specs.HeaderSection.{lines_of, before_lines, before_empty, is_received, received_count_of, header_end_of}

-- no CR LF stands at the start
not_here : (here later : Bool) → here || later ≡ false → here ≡ false
not_here true later e = e
not_here false later e = refl

-- an octet that begins no CR LF belongs to the first line
pub lines_of-octet : (octet next : ℕ) (rest : List ℕ) → (octet == 13 && next == 10) ≡ false
    → lines_of (octet ∷ next ∷ rest) ≡ before_lines octet (lines_of (next ∷ rest))
unfolding lines_of
lines_of-octet octet next rest none =
    ap (λ b. cond b ([] ∷ lines_of rest) (before_lines octet (lines_of (next ∷ rest)))) none

pub lines_of-crlf : (rest : List ℕ) → lines_of (crlf ++ rest) ≡ [] ∷ lines_of rest
unfolding lines_of
lines_of-crlf rest = refl

pub lines_of-one : (octet : ℕ) → lines_of (octet ∷ []) ≡ (octet ∷ []) ∷ []
unfolding lines_of
lines_of-one octet = refl

pub lines_of-nil : lines_of [] ≡ [] ∷ []
unfolding lines_of
lines_of-nil = refl

-- a line with its CR LF is the first line
pub lines_of-line : (line rest : List ℕ) → HasNoCrlf line
    → lines_of (line ++ (crlf ++ rest)) ≡ line ∷ lines_of rest
lines_of-line [] rest none = lines_of-crlf rest
lines_of-line (octet ∷ []) rest none =
    lines_of-octet octet 13 (10 ∷ rest) (and-false (octet == 13))
    ∙ ap (before_lines octet) (lines_of-crlf rest)
lines_of-line (octet ∷ next ∷ line) rest none =
    lines_of-octet octet next (line ++ (crlf ++ rest))
    (not_here _ _ (no_crlf_test (octet ∷ next ∷ line) none))
    ∙ ap (before_lines octet) (lines_of-line (next ∷ line) rest (no_crlf_tail octet (next ∷ line) none))

-- what stands after the last CR LF is the last line
pub lines_of-last : (last : List ℕ) → HasNoCrlf last → lines_of last ≡ last ∷ []
lines_of-last [] none = lines_of-nil
lines_of-last (octet ∷ []) none = lines_of-one octet
lines_of-last (octet ∷ next ∷ last) none =
    lines_of-octet octet next last (not_here _ _ (no_crlf_test (octet ∷ next ∷ last) none))
    ∙ ap (before_lines octet) (lines_of-last (next ∷ last) (no_crlf_tail octet (next ∷ last) none))

-- a text that begins with a line has the lines of the rest after it
lines_of-read : (text line rest : List ℕ) → ReadsLine text line rest
    → lines_of text ≡ line ∷ lines_of rest
lines_of-read text line rest reads =
    ap lines_of (reads.text ∙ append_assoc line crlf rest) ∙ lines_of-line line rest reads.first

-- one, where the line is a field of the name
abbrev pub one_if_received : List ℕ → ℕ
one_if_received line = cond (is_received line) 1 0

count-line : (line : List ℕ) (lines : List (List ℕ)) → 0 < length line
    → count_by is_received
    (before_empty (line ∷ lines)) ≡ one_if_received line + count_by is_received (before_empty lines)
count-line [] lines some = absurd (omega arith)
count-line (octet ∷ line) lines some =
    sum_by-cons (λ l. cond (is_received l) 1 0) (octet ∷ line) (before_empty lines)

-- the count of a text that begins with a line that isn't empty
pub received_count_of-line : (text line rest : List ℕ) → 0 < length line → ReadsLine text line rest
    → received_count_of text ≡ one_if_received line + received_count_of rest
unfolding received_count_of
received_count_of-line text line rest some reads =
    ap (λ lines. count_by is_received (before_empty lines)) (lines_of-read text line rest reads)
    ∙ count-line line (lines_of rest) some

-- of one that begins with an empty line
pub received_count_of-empty : (text line rest : List ℕ) → length line ≡ 0 → ReadsLine text line rest
    → received_count_of text ≡ 0
unfolding received_count_of
received_count_of-empty text [] rest none reads =
    ap (λ lines. count_by is_received (before_empty lines)) (lines_of-read text [] rest reads)
received_count_of-empty text (octet ∷ line) rest none reads = absurd (omega arith)

is_received-nil : is_received [] ≡ false
unfolding is_received
is_received-nil = refl

count-last : (last : List ℕ)
    → count_by is_received (before_empty (last ∷ [])) ≡ one_if_received last
count-last [] = ap (λ b. cond b 1 0) (sym is_received-nil)
count-last (octet ∷ last) = zero-add (one_if_received (octet ∷ last))

-- and of one line without its CR LF
pub received_count_of-last : (last : List ℕ) → HasNoCrlf last
    → received_count_of last ≡ one_if_received last
unfolding received_count_of
received_count_of-last last none =
    ap (λ lines. count_by is_received (before_empty lines)) (lines_of-last last none) ∙ count-last last

-- the length of the lines with their CR LFs
unfoldable pub lines_length : List (List ℕ) → ℕ
lines_length lines = length (lines_text (before_empty lines))

pub lines_length-line : (line : List ℕ) (lines : List (List ℕ)) → 0 < length line
    → lines_length (line ∷ lines) ≡ length line + 2 + lines_length lines
unfolding lines_length
lines_length-line [] lines some = absurd (omega arith)
lines_length-line (octet ∷ line) lines some =
    length-append ((octet ∷ line) ++ crlf) (lines_text (before_empty lines))
    ∙ ap (λ n. n + length (lines_text (before_empty lines))) (length-append (octet ∷ line) crlf)

pub header_end_of-parts : (text : List ℕ)
    → header_end_of text ≡ min (lines_length (lines_of text)) (length text)
unfolding header_end_of lines_length
header_end_of-parts text = refl

-- the end of the header section after a line that isn't empty
pub header_end_of-line : (text line rest : List ℕ) → 0 < length line → ReadsLine text line rest
    → header_end_of text ≡ length line + 2 + header_end_of rest
header_end_of-line text line rest some reads =
    let whole : length text ≡ length line + 2 + length rest =
    ap length reads.text ∙ length-append (line ++ crlf) rest
    ∙ ap (λ n. n + length rest) (length-append line crlf) in
    let lines : lines_length (lines_of text) ≡ length line + 2 + lines_length (lines_of rest) =
    ap lines_length (lines_of-read text line rest reads) ∙ lines_length-line line (lines_of rest) some in
    let here = header_end_of-parts text in
    let after = header_end_of-parts rest in
    omega arith

lines_length-empty : (lines : List (List ℕ)) → lines_length ([] ∷ lines) ≡ 0
unfolding lines_length
lines_length-empty lines = refl

-- at an empty line
pub header_end_of-empty : (text line rest : List ℕ) → length line ≡ 0 → ReadsLine text line rest
    → header_end_of text ≡ 0
header_end_of-empty text [] rest none reads =
    let lines : lines_length (lines_of text) ≡ 0 =
    ap lines_length (lines_of-read text [] rest reads) ∙ lines_length-empty (lines_of rest) in
    let here = header_end_of-parts text in
    omega arith
header_end_of-empty text (octet ∷ line) rest none reads = absurd (omega arith)

lines_length-nil : lines_length [] ≡ 0
unfolding lines_length
lines_length-nil = refl

-- and in one line without its CR LF
pub header_end_of-last : (last : List ℕ) → HasNoCrlf last → header_end_of last ≡ length last
header_end_of-last [] none =
    let here = header_end_of-parts [] in
    omega arith
header_end_of-last (octet ∷ last) none =
    let lines : lines_length (lines_of (octet ∷ last)) ≡ length (octet ∷ last) + 2 + lines_length [] =
    ap lines_length (lines_of-last (octet ∷ last) none) ∙ lines_length-line (octet ∷ last) [] (omega arith) in
    let here = header_end_of-parts (octet ∷ last) in
    omega arith
