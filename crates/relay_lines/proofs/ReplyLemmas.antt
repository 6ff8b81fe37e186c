-- What is true of replies, over lists alone.
use Rattle.std.proofs.Common.{◌≡◌, ℕ, ◌+◌, ◌<◌, ◌≤◌, length, get_or, List, [], ◌∷◌, ◌++◌, refl, sym, ap, ◌∙◌, append_assoc, append-nil, take}
use Rattle.std.proofs.lemmas.List.{flat_map_more, take_all, take_more}
use Rattle.std.specs.List.{flat_map}
use Rattle.relay_octets.specs.Beginning.{Begins}
use Rattle.relay_lines.specs.Reply.{middle_line, last_line, lines_of_reply, last_text}

-- the last line stands after the others
pub lines_of_reply-append : (code : ℕ) (middle : List (List ℕ)) (last : List ℕ)
    → lines_of_reply code (middle ++ last ∷ []) ≡ flat_map
    (middle_line code) middle ++ last_line code last
lines_of_reply-append code [] last = refl
lines_of_reply-append code (text ∷ []) last =
    ap (λ l. l ++ last_line code last) (sym (append-nil (middle_line code text)))
lines_of_reply-append code (text ∷ next ∷ more) last =
    ap (λ l. middle_line code text ++ l) (lines_of_reply-append code (next ∷ more) last)
    ∙ sym
    (append_assoc (middle_line code text) (flat_map (middle_line code) (next ∷ more)) (last_line code last))

-- after all the other lines, with the last line they are the reply's
pub all_written : (before now : List ℕ) (code index : ℕ) (middle lines : List (List ℕ))
    (last : List ℕ)
    → now ≡ before ++ flat_map (middle_line code) (take index middle) → length middle ≤ index
    → lines ≡ middle ++ last ∷ [] → now ++ last_line code last ≡ before ++ lines_of_reply code lines
all_written before now code index middle lines last so_far all split =
    ap (λ l. l ++ last_line code last)
    (so_far ∙ ap (λ m. before ++ flat_map (middle_line code) m) (take_all index middle all))
    ∙ append_assoc before (flat_map (middle_line code) middle) (last_line code last)
    ∙ ap (λ l. before ++ l)
    (sym (lines_of_reply-append code middle last) ∙ ap (lines_of_reply code) (sym split))

-- one line more is written
pub line_more : (before now new : List ℕ) (code index : ℕ) (middle : List (List ℕ)) (text : List ℕ) → index < length middle
    → now ≡ before ++ flat_map (middle_line code) (take index middle) → text ≡ get_or middle index text
    → new ≡ now ++ middle_line code text → new ≡ before ++ flat_map (middle_line code) (take (index + 1) middle)
line_more before now new code index middle text within so_far is writes =
    writes ∙ ap (λ front. front ++ middle_line code text) so_far
    ∙ flat_map_more (middle_line code) before (take index middle) text
    ∙ ap (λ next. before ++ flat_map (middle_line code) (take index middle ++ next ∷ [])) is
    ∙ ap (λ texts. before ++ flat_map (middle_line code) texts) (sym (take_more middle index text within))

-- what begins with the octets and more begins with the octets
pub begins_more : (old now new text : List ℕ) → now ≡ old ++ text → Begins now new → Begins old new
begins_more old now new text so_far begins =
    (text ++ begins.0, begins.1 ∙ ap (λ front. front ++ begins.0) so_far ∙ append_assoc old text begins.0)

-- the last of some lines has the last text
last_text-append : (middle : List (List ℕ)) (last : List ℕ) → last_text (middle ++ last ∷ []) ≡ last
last_text-append [] last = refl
last_text-append (text ∷ []) last = refl
last_text-append (text ∷ next ∷ more) last = last_text-append (next ∷ more) last

pub last_is : (lines middle : List (List ℕ)) (last : List ℕ) → lines ≡ middle ++ last ∷ []
    → last ≡ last_text lines
last_is lines middle last split = sym (last_text-append middle last) ∙ ap last_text (sym split)
