-- Rows: how the code goes through one, and that its way is that of the rows.
use Rattle.std.proofs.Common.{◌≡◌, ◌≢◌, ◌↔◌, ℕ, suc, ◌+◌, ◌<◌, ◌≤◌, ◌==◌, ◌&&◌, not, Bool, true, false, if◌then◌else◌, ◌⊎◌, inl, inr, List, [], ◌∷◌, ◌++◌, take, drop, length, get_or, Option, None, Some, refl, sym, subst, ap, ◌∙◌, arith, append_assoc, append-nil, length-append}
use Rattle.std.specs.List.{flat_map, list_all, AllByRecursion}
use Rattle.std.specs.Option.{option_and_then}
use Rattle.std.proofs.lemmas.Grind.{flat_map-append}
use Rattle.std.proofs.lemmas.List.{drop_more, drop_all, drop_at, take_all, take_at}
use Rattle.std.proofs.lemmas.Bool.{cond-true, cond-false, and_parts, and_from, eqb-true, eq-eqb, false≢true, not-true, false_from_ne_true}
use Rattle.relay_lines.specs.Word.{is_printable}
use Rattle.relay_envelope.specs.Row.{Content, IsContent, content_text, Piece, IsPiece, piece_text, IsRow, RowBefore, is_plain, is_text_octet}
use Rattle.relay_envelope.specs.Row.Content.{Text, Pair}
use Rattle.relay_envelope.specs.Row.Piece.{Plain, Quoted}
use Rattle.relay_envelope.specs.RowScan.{is_outside, place_after, one_more, counted, row_len_from}
use Rattle.relay_envelope.specs.declared.row.Place.{Place}
use Rattle.relay_envelope.specs.declared.row.Place.TheVariants.{Outside, Inside, Escaped}

-- where a row ends
row_len-stop : (stop : ℕ) (place : Place) (octet : ℕ) (text : List ℕ) → is_outside place && (octet == stop) ≡ true → row_len_from stop place (octet ∷ text) ≡ Some 0
unfolding row_len_from
row_len-stop stop place octet text h = cond-true (is_outside place && (octet == stop)) _ _ h

-- where it goes on
row_len-on : (stop : ℕ) (place : Place) (octet : ℕ) (text : List ℕ) (next : Place) → is_outside place && (octet == stop) ≡ false → place_after place octet ≡ Some next → row_len_from stop place (octet ∷ text) ≡ one_more (row_len_from stop next text)
unfolding row_len_from
row_len-on stop place octet text next h e =
    cond-false (is_outside place && (octet == stop)) _ _ h ∙ ap (λ o. one_more (option_and_then (λ p. row_len_from stop p text) o)) e

-- where none stands
row_len-bad : (stop : ℕ) (place : Place) (octet : ℕ) (text : List ℕ) → is_outside place && (octet == stop) ≡ false → place_after place octet ≡ None → row_len_from stop place (octet ∷ text) ≡ None
unfolding row_len_from
row_len-bad stop place octet text h e =
    cond-false (is_outside place && (octet == stop)) _ _ h ∙ ap (λ o. one_more (option_and_then (λ p. row_len_from stop p text) o)) e

counted-more : (i : ℕ) (len : Option ℕ) → counted (i + 1) len ≡ counted i (one_more len)
counted-more i None = refl
counted-more i (Some n) = let same : i + 1 + n ≡ i + suc n = omega arith in ap (λ k. Some k) same

one_more-counted : (i : ℕ) (len : Option ℕ) → one_more (counted i len) ≡ counted (suc i) len
one_more-counted i None = refl
one_more-counted i (Some n) = let same : suc (i + n) ≡ suc i + n = omega arith in ap (λ k. Some k) same

pub counted-zero : (len : Option ℕ) → counted 0 len ≡ len
counted-zero None = refl
counted-zero (Some n) = let same : 0 + n ≡ n = omega arith in ap (λ k. Some k) same

-- the row at an octet that is passed
pub row_len-passed : (stop : ℕ) (place : Place) (text : List ℕ) (i : ℕ) (next : Place) → i < length text → is_outside place && (get_or text i 0 == stop) ≡ false → place_after place (get_or text i 0) ≡ Some next → counted (i + 1) (row_len_from stop next (drop (i + 1) text)) ≡ counted i (row_len_from stop place (drop i text))
row_len-passed stop place text i next h more e =
    counted-more i _
    ∙ ap (counted i) (sym (row_len-on stop place (get_or text i 0) (drop (i + 1) text) next more e) ∙ ap (row_len_from stop place) (sym (drop_more text i 0 h)))

-- the row that ends at an octet
pub row_len-ended : (stop : ℕ) (place : Place) (text : List ℕ) (i : ℕ) → i < length text → is_outside place && (get_or text i 0 == stop) ≡ true → Some i ≡ counted i (row_len_from stop place (drop i text))
row_len-ended stop place text i h here =
    let same : i ≡ i + 0 = omega arith in
    ap (λ k. Some k) same ∙ ap (counted i) (sym (row_len-stop stop place (get_or text i 0) (drop (i + 1) text) here) ∙ ap (row_len_from stop place) (sym (drop_more text i 0 h)))

-- no row at an octet that may not stand there
pub row_len-broken : (stop : ℕ) (place : Place) (text : List ℕ) (i : ℕ) → i < length text → is_outside place && (get_or text i 0 == stop) ≡ false → place_after place (get_or text i 0) ≡ None → None ≡ counted i (row_len_from stop place (drop i text))
row_len-broken stop place text i h more e =
    ap (counted i) (sym (row_len-bad stop place (get_or text i 0) (drop (i + 1) text) more e) ∙ ap (row_len_from stop place) (sym (drop_more text i 0 h)))

row_len-nil : (stop : ℕ) (place : Place) (i : ℕ) → counted i (row_len_from stop place []) ≡ (if is_outside place then Some i else None)
unfolding row_len_from
row_len-nil stop Outside i = let same : i + 0 ≡ i = omega arith in ap (λ k. Some k) same
row_len-nil stop Inside i = refl
row_len-nil stop Escaped i = refl

-- at the text's end
pub row_len-end : (stop : ℕ) (place : Place) (text : List ℕ) (i : ℕ) → i ≡ length text → counted i (row_len_from stop place (drop i text)) ≡ (if is_outside place then Some (length text) else None)
row_len-end stop place text i e =
    ap (λ l. counted i (row_len_from stop place l)) (drop_all i text (omega arith)) ∙ row_len-nil stop place i ∙ ap (λ n. if is_outside place then Some n else None) e

-- the rest of a quoted string, and a row after it
record InString (stop : ℕ) (front : List ℕ) : Type 0 where
  contents : List Content
  row : List ℕ
  are_contents : AllByRecursion IsContent contents
  is_row : IsRow stop row
  front_is : front ≡ flat_map content_text contents ++ 34 ∷ row

-- a printable octet, and the rest of a quoted string
record AfterEscape (stop : ℕ) (front : List ℕ) : Type 0 where
  octet : ℕ
  rest : List ℕ
  printable : is_printable octet ≡ true
  front_is : front ≡ octet ∷ rest
  in_string : InString stop rest

-- what may stand after a place
abbrev Continues : ℕ → Place → List ℕ → Type 0
Continues stop Outside front = IsRow stop front
Continues stop Inside front = InString stop front
Continues stop Escaped front = AfterEscape stop front

-- the octet that ends a row
abbrev EndsRow : ℕ → List ℕ → Type 0
EndsRow stop [] = Unit {0}
EndsRow stop (octet ∷ octets) = octet ≡ stop

pub plain_row : (stop octet : ℕ) (front : List ℕ) → is_plain octet && not (octet == stop) ≡ true → IsRow stop front → IsRow stop (octet ∷ front)
plain_row stop octet front valid row = record {
  pieces = Plain octet ∷ row.pieces;
  are_pieces = (valid, row.are_pieces);
  text_is = ap (λ l. octet ∷ l) row.text_is;
}

quoted_row : (stop : ℕ) (front : List ℕ) → InString stop front → IsRow stop (34 ∷ front)
quoted_row stop front string = record {
  pieces = Quoted string.contents ∷ string.is_row.pieces;
  are_pieces = (string.are_contents, string.is_row.are_pieces);
  text_is = ap (λ l. 34 ∷ l) (string.front_is ∙ ap (λ l. flat_map content_text string.contents ++ 34 ∷ l) string.is_row.text_is
      ∙ sym (append_assoc (flat_map content_text string.contents) (34 ∷ []) (flat_map piece_text string.is_row.pieces)));
}

string_more : (stop : ℕ) (content : Content) (front : List ℕ) → IsContent content → InString stop front → InString stop (content_text content ++ front)
string_more stop content front valid string = record {
  contents = content ∷ string.contents;
  row = string.row;
  are_contents = (valid, string.are_contents);
  is_row = string.is_row;
  front_is = ap (λ l. content_text content ++ l) string.front_is ∙ sym (append_assoc (content_text content) (flat_map content_text string.contents) (34 ∷ string.row));
}

-- the tests of a step, as cases
if_either : (a b : Bool) (x y next : Place) → (if a then Some x else (if b then Some y else None)) ≡ Some next → ((a ≡ true) × (next ≡ x)) ⊎ ((b ≡ true) × (next ≡ y))
if_either true b x y next e = inl (refl, (let same : next ≡ x = cc in same))
if_either false true x y next e = inr (refl, (let same : next ≡ y = cc in same))
if_either false false x y next e = absurd (let no : ⊥ = cc in no)

if_any : (a b d : Bool) (x y z next : Place) → (if a then Some x else (if b then Some y else (if d then Some z else None))) ≡ Some next → ((a ≡ true) × (next ≡ x)) ⊎ (((b ≡ true) × (next ≡ y)) ⊎ ((d ≡ true) × (next ≡ z)))
if_any true b d x y z next e = inl (refl, (let same : next ≡ x = cc in same))
if_any false true d x y z next e = inr (inl (refl, (let same : next ≡ y = cc in same)))
if_any false false true x y z next e = inr (inr (refl, (let same : next ≡ z = cc in same)))
if_any false false false x y z next e = absurd (let no : ⊥ = cc in no)

if_one : (a : Bool) (x next : Place) → (if a then Some x else None) ≡ Some next → (a ≡ true) × (next ≡ x)
if_one true x next e = (refl, (let same : next ≡ x = cc in same))
if_one false x next e = absurd (let no : ⊥ = cc in no)

-- what may stand after the next place may stand here after the octet
step_back : (stop : ℕ) (place : Place) (octet : ℕ) (next : Place) (front : List ℕ) → is_outside place && (octet == stop) ≡ false → place_after place octet ≡ Some next → Continues stop next front → Continues stop place (octet ∷ front)
step_back stop Outside octet next front more e goes =
    elim (if_either (octet == 34) (is_plain octet) Inside Outside next e) [
      | inl h ↦
          let string = subst (λ (p : Place). Continues stop p front) h.1 goes in
          subst (λ (o : ℕ). IsRow stop (o ∷ front)) (sym (eqb-true octet 34 h.0)) (quoted_row stop front string)
      | inr h ↦
          let row = subst (λ (p : Place). Continues stop p front) h.1 goes in
          plain_row stop octet front (and_from (is_plain octet) (not (octet == stop)) h.0 (ap not more)) row
    ]
step_back stop Inside octet next front more e goes =
    elim (if_any (octet == 34) (octet == 92) (is_text_octet octet) Outside Escaped Inside next e) [
      | inl h ↦
          let row = subst (λ (p : Place). Continues stop p front) h.1 goes in
          record { contents = []; row = front; are_contents = tt; is_row = row; front_is = ap (λ o. o ∷ front) (eqb-true octet 34 h.0) }
      | inr (inl h) ↦
          let escape = subst (λ (p : Place). Continues stop p front) h.1 goes in
          let string = string_more stop (Pair escape.octet) escape.rest escape.printable escape.in_string in
          subst (InString stop) (ap (λ l. 92 ∷ l) (sym escape.front_is) ∙ ap (λ o. o ∷ front) (sym (eqb-true octet 92 h.0))) string
      | inr (inr h) ↦
          let string = subst (λ (p : Place). Continues stop p front) h.1 goes in
          string_more stop (Text octet) front h.0 string
    ]
step_back stop Escaped octet next front more e goes =
    let h = if_one (is_printable octet) Inside next e in
    let string = subst (λ (p : Place). Continues stop p front) h.1 goes in
    record { octet = octet; rest = front; printable = h.0; front_is = refl; in_string = string }

-- what a length says
record Stands (stop : ℕ) (place : Place) (text : List ℕ) (n : ℕ) : Type 0 where
  front : Continues stop place (take n text)
  back : EndsRow stop (drop n text)

pub empty_row : (stop : ℕ) → IsRow stop []
empty_row stop = record { pieces = []; are_pieces = tt; text_is = refl }

stands_at_end : (stop : ℕ) (place : Place) (n : ℕ) → (if is_outside place then Some 0 else None) ≡ Some n → Stands stop place [] n
stands_at_end stop Outside n e =
    let same : 0 ≡ n = cc in subst (Stands stop Outside []) same (record { front = empty_row stop; back = tt })
stands_at_end stop Inside n e = absurd (let no : ⊥ = cc in no)
stands_at_end stop Escaped n e = absurd (let no : ⊥ = cc in no)

stands_at_stop : (stop : ℕ) (place : Place) (octet : ℕ) (text : List ℕ) (n : ℕ) → is_outside place && (octet == stop) ≡ true → Some 0 ≡ Some n → Stands stop place (octet ∷ text) n
stands_at_stop stop Outside octet text n h e =
    let same : 0 ≡ n = cc in
    subst (Stands stop Outside (octet ∷ text)) same (record { front = empty_row stop; back = eqb-true octet stop h })
stands_at_stop stop Inside octet text n h e = absurd (false≢true h)
stands_at_stop stop Escaped octet text n h e = absurd (false≢true h)

stands_one_more : (stop : ℕ) (place : Place) (octet : ℕ) (text : List ℕ) (n : ℕ) (next : Place) (len : Option ℕ) → is_outside place && (octet == stop) ≡ false → place_after place octet ≡ Some next → one_more len ≡ Some n → ((m : ℕ) → len ≡ Some m → Stands stop next text m) → Stands stop place (octet ∷ text) n
stands_one_more stop place octet text n next None more f e later = absurd (let no : ⊥ = cc in no)
stands_one_more stop place octet text n next (Some m) more f e later =
    let stands = later m refl in
    let same : suc m ≡ n = cc in
    subst (Stands stop place (octet ∷ text)) same (record { front = step_back stop place octet next (take m text) more f stands.front; back = stands.back })

stands_after : (stop : ℕ) (place : Place) (octet : ℕ) (text : List ℕ) (n : ℕ) (after : Option Place) (len : Place → Option ℕ) → is_outside place && (octet == stop) ≡ false → place_after place octet ≡ after → one_more (option_and_then len after) ≡ Some n → ((next : Place) (m : ℕ) → len next ≡ Some m → Stands stop next text m) → Stands stop place (octet ∷ text) n
stands_after stop place octet text n None len more f e later = absurd (let no : ⊥ = cc in no)
stands_after stop place octet text n (Some next) len more f e later =
    stands_one_more stop place octet text n next (len next) more f e (λ m g. later next m g)

stands_from_test : (stop : ℕ) (place : Place) (octet : ℕ) (text : List ℕ) (n : ℕ) (test : Bool) → is_outside place && (octet == stop) ≡ test → (if test then Some 0 else one_more (option_and_then (λ next. row_len_from stop next text) (place_after place octet))) ≡ Some n → ((next : Place) (m : ℕ) → row_len_from stop next text ≡ Some m → Stands stop next text m) → Stands stop place (octet ∷ text) n
stands_from_test stop place octet text n true h e later = stands_at_stop stop place octet text n h e
stands_from_test stop place octet text n false h e later =
    stands_after stop place octet text n (place_after place octet) (λ next. row_len_from stop next text) h refl e later

stands_from_len : (stop : ℕ) (text : List ℕ) (place : Place) (n : ℕ) → row_len_from stop place text ≡ Some n → Stands stop place text n
unfolding row_len_from
stands_from_len stop [] place n e = stands_at_end stop place n e
stands_from_len stop (octet ∷ text) place n e =
    stands_from_test stop place octet text n (is_outside place && (octet == stop)) refl e (λ next m f. stands_from_len stop text next m f)

-- a test that cannot be true is false
eqb-false-from : (stop : ℕ) → stop ≢ 34 → 34 == stop ≡ false
eqb-false-from stop apart = false_from_ne_true (34 == stop) (λ h. apart (sym (eqb-true 34 stop h)))

all_joined : (P : Piece → Type 0) (front back : List Piece) → AllByRecursion P front → AllByRecursion P back → AllByRecursion P (front ++ back)
all_joined P [] back one two = two
all_joined P (piece ∷ front) back one two = (one.0, all_joined P front back one.1 two)

-- a plain octet is no `>`
plain_is_no_end : (octet : ℕ) → is_plain octet ≡ true → is_plain octet && not (octet == 62) ≡ true
plain_is_no_end octet valid =
    let parts = and_parts _ (not (octet == 92)) valid in
    let more = and_parts _ (not (octet == 34)) parts.0 in
    let most = and_parts _ (not (octet == 62)) more.0 in
    and_from (is_plain octet) (not (octet == 62)) valid most.1

-- tests that an octet of a content decides
text_octet_after : (octet : ℕ) → is_text_octet octet ≡ true → place_after Inside octet ≡ Some Inside
text_octet_after octet valid =
    let parts = and_parts (is_printable octet && not (octet == 34)) (not (octet == 92)) valid in
    let first = and_parts (is_printable octet) (not (octet == 34)) parts.0 in
    cond-false (octet == 34) _ _ (not-true (octet == 34) first.1)
    ∙ cond-false (octet == 92) _ _ (not-true (octet == 92) parts.1)
    ∙ cond-true (is_text_octet octet) _ _ valid

-- a quoted string is passed whole
string_len : (stop : ℕ) (contents : List Content) (rest : List ℕ) → AllByRecursion IsContent contents → row_len_from stop Inside (flat_map content_text contents ++ 34 ∷ rest) ≡ counted (suc (length (flat_map content_text contents))) (row_len_from stop Outside rest)
string_len stop [] rest valid =
    row_len-on stop Inside 34 rest Outside refl refl ∙ ap one_more (sym (counted-zero (row_len_from stop Outside rest))) ∙ one_more-counted 0 (row_len_from stop Outside rest)
string_len stop (Text octet ∷ contents) rest valid =
    row_len-on stop Inside octet (flat_map content_text contents ++ 34 ∷ rest) Inside refl (text_octet_after octet valid.0)
    ∙ ap one_more (string_len stop contents rest valid.1)
    ∙ one_more-counted (suc (length (flat_map content_text contents))) (row_len_from stop Outside rest)
string_len stop (Pair octet ∷ contents) rest valid =
    let afterwards = flat_map content_text contents ++ 34 ∷ rest in
    row_len-on stop Inside 92 (octet ∷ afterwards) Escaped refl refl
    ∙ ap one_more (row_len-on stop Escaped octet afterwards Inside refl (cond-true (is_printable octet) _ _ valid.0)
    ∙ ap one_more (string_len stop contents rest valid.1)
    ∙ one_more-counted (suc (length (flat_map content_text contents))) (row_len_from stop Outside rest))
    ∙ one_more-counted (suc (suc (length (flat_map content_text contents)))) (row_len_from stop Outside rest)

counted-counted : (i j : ℕ) (len : Option ℕ) → counted i (counted j len) ≡ counted (i + j) len
counted-counted i j None = refl
counted-counted i j (Some n) = let same : i + (j + n) ≡ i + j + n = omega arith in ap (λ k. Some k) same

-- a plain octet that is no `"`
plain_after : (octet : ℕ) → is_plain octet ≡ true → place_after Outside octet ≡ Some Outside
plain_after octet valid =
    let parts = and_parts _ (not (octet == 92)) valid in
    let more = and_parts _ (not (octet == 34)) parts.0 in
    cond-false (octet == 34) _ _ (not-true (octet == 34) more.1) ∙ cond-true (is_plain octet) _ _ valid

-- a row is passed whole
pieces_len : (stop : ℕ) (pieces : List Piece) (rest : List ℕ) → stop ≢ 34 → AllByRecursion (IsPiece stop) pieces → row_len_from stop Outside (flat_map piece_text pieces ++ rest) ≡ counted (length (flat_map piece_text pieces)) (row_len_from stop Outside rest)
pieces_len stop [] rest apart valid = sym (counted-zero (row_len_from stop Outside rest))
pieces_len stop (Plain octet ∷ pieces) rest apart valid =
    let parts = and_parts (is_plain octet) (not (octet == stop)) valid.0 in
    row_len-on stop Outside octet (flat_map piece_text pieces ++ rest) Outside (not-true (octet == stop) parts.1) (plain_after octet parts.0)
    ∙ ap one_more (pieces_len stop pieces rest apart valid.1)
    ∙ one_more-counted (length (flat_map piece_text pieces)) (row_len_from stop Outside rest)
pieces_len stop (Quoted contents ∷ pieces) rest apart valid =
    let string = flat_map content_text contents in
    let more = flat_map piece_text pieces in
    let whole : (34 ∷ string ++ 34 ∷ []) ++ more ++ rest ≡ 34 ∷ (string ++ 34 ∷ (more ++ rest)) =
    append_assoc (34 ∷ string ++ 34 ∷ []) more rest ∙ ap (λ l. 34 ∷ l) (append_assoc string (34 ∷ []) (more ++ rest)) in
    let lengths : suc (suc (length string)) + length more ≡ length ((34 ∷ string ++ 34 ∷ []) ++ more) =
    omega (arith, length-append (34 ∷ string ++ 34 ∷ []) more, length-append string (34 ∷ [])) in
    ap (row_len_from stop Outside) whole
    ∙ row_len-on stop Outside 34 (string ++ 34 ∷ (more ++ rest)) Inside (eqb-false-from stop apart) refl
    ∙ ap one_more (string_len stop contents (more ++ rest) valid.0 ∙ ap (counted (suc (length string))) (pieces_len stop pieces rest apart valid.1)
    ∙ counted-counted (suc (length string)) (length more) (row_len_from stop Outside rest))
    ∙ one_more-counted (suc (length string) + length more) (row_len_from stop Outside rest)
    ∙ ap (λ n. counted n (row_len_from stop Outside rest)) (let same : suc (suc (length string) + length more) ≡ suc (suc (length string)) + length more = omega arith in same ∙ lengths)

-- a row is passed whole, whatever follows
row_passed : (stop : ℕ) (row rest : List ℕ) → stop ≢ 34 → IsRow stop row → row_len_from stop Outside (row ++ rest) ≡ counted (length row) (row_len_from stop Outside rest)
row_passed stop row rest apart is_row =
    let P : List ℕ → Type 0 = λ l. row_len_from stop Outside (l ++ rest) ≡ counted (length l) (row_len_from stop Outside rest) in
    subst P (sym is_row.text_is) (pieces_len stop is_row.pieces rest apart is_row.are_pieces)

-- a row before its end
pub row_len-before : (stop : ℕ) (row rest : List ℕ) → stop ≢ 34 → IsRow stop row → row_len_from stop Outside (row ++ stop ∷ rest) ≡ Some (length row)
row_len-before stop row rest apart is_row =
    let same : length row + 0 ≡ length row = omega arith in
    row_passed stop row (stop ∷ rest) apart is_row ∙ ap (counted (length row)) (row_len-stop stop Outside stop rest (eq-eqb stop stop refl)) ∙ ap (λ k. Some k) same

-- a row that is the whole text
row_len-whole : (stop : ℕ) (row : List ℕ) → stop ≢ 34 → IsRow stop row → row_len_from stop Outside row ≡ Some (length row)
row_len-whole stop row apart is_row =
    ap (row_len_from stop Outside) (sym (append-nil row)) ∙ row_passed stop row [] apart is_row ∙ row_len-nil stop Outside (length row)

-- a length says that the text is a row exactly where it is the text's
pub whole_row : (stop : ℕ) (text : List ℕ) (n : ℕ) → stop ≢ 34 → Some n ≡ row_len_from stop Outside text → (n == length text ≡ true) ↔ IsRow stop text
whole_row stop text n apart e = (
  λ same.
      let stands = stands_from_len stop text Outside n (sym e) in
      subst (IsRow stop) (take_all n text (let is : n ≡ length text = eqb-true n (length text) same in omega arith)) stands.front,
  λ is_row.
      let found = e ∙ row_len-whole stop text apart is_row in
      eq-eqb n (length text) (let same : n ≡ length text = cc in same),
)

-- where there is no length the text is no row
pub no_row : (stop : ℕ) (text : List ℕ) → stop ≢ 34 → None ≡ row_len_from stop Outside text → IsRow stop text → ⊥
no_row stop text apart e is_row =
    let found = e ∙ row_len-whole stop text apart is_row in
    let no : ⊥ = cc in no

-- the octet after a length ends the row
end_is : (stop : ℕ) (text : List ℕ) (n : ℕ) → n < length text → EndsRow stop (drop n text) → get_or text n 0 ≡ stop
end_is stop text n h ends = subst (EndsRow stop) (drop_more text n 0 h) ends

-- a length within the text is that of the row before its end
pub row_found : (stop : ℕ) (text : List ℕ) (n : ℕ) → Some n ≡ row_len_from stop Outside text → n < length text → RowBefore stop text n
row_found stop text n e h =
    let stands = stands_from_len stop text Outside n (sym e) in
    record { within = h; is_row = stands.front; here = end_is stop text n h stands.back }

-- where there is no length, or one past the text, no row stands before its end
pub row_not_found : (stop : ℕ) (text : List ℕ) → stop ≢ 34 → None ≡ row_len_from stop Outside text → (row rest : List ℕ) → IsRow stop row → text ≡ row ++ stop ∷ rest → ⊥
row_not_found stop text apart e row rest is_row text_is =
    let found = e ∙ ap (row_len_from stop Outside) text_is ∙ row_len-before stop row rest apart is_row in
    let no : ⊥ = cc in no

pub row_past : (stop : ℕ) (text : List ℕ) (n : ℕ) → stop ≢ 34 → Some n ≡ row_len_from stop Outside text → length text ≤ n → (row rest : List ℕ) → IsRow stop row → text ≡ row ++ stop ∷ rest → ⊥
row_past stop text n apart e long row rest is_row text_is =
    let found = e ∙ ap (row_len_from stop Outside) text_is ∙ row_len-before stop row rest apart is_row in
    let same : n ≡ length row = cc in
    omega (arith, length-append row (stop ∷ rest), ap length text_is)

-- two rows before their ends in one text are one
pub row_is_one : (stop : ℕ) (row rest other more : List ℕ) → stop ≢ 34 → IsRow stop row → IsRow stop other → row ++ stop ∷ rest ≡ other ++ stop ∷ more → (row ≡ other) × (rest ≡ more)
row_is_one stop row rest other more apart is_row is_other e =
    let found = sym (row_len-before stop row rest apart is_row) ∙ ap (row_len_from stop Outside) e ∙ row_len-before stop other more apart is_other in
    let same : length row ≡ length other = cc in
    let fronts = sym (take_at row (stop ∷ rest) (length row) refl) ∙ ap (take (length row)) e ∙ take_at other (stop ∷ more) (length row) (sym same) in
    let backs = sym (drop_at row (stop ∷ rest) (length row) refl) ∙ ap (drop (length row)) e ∙ drop_at other (stop ∷ more) (length row) (sym same) in
    (fronts, ap (drop 1) backs)

-- rows join
pub row_joined : (stop : ℕ) (front back : List ℕ) → IsRow stop front → IsRow stop back → IsRow stop (front ++ back)
row_joined stop front back one two = record {
  pieces = one.pieces ++ two.pieces;
  are_pieces = all_joined (IsPiece stop) one.pieces two.pieces one.are_pieces two.are_pieces;
  text_is = ap (λ l. l ++ back) one.text_is ∙ ap (λ l. flat_map piece_text one.pieces ++ l) two.text_is ∙ sym (flat_map-append piece_text one.pieces two.pieces);
}

-- a piece without a plain `:` is one without a plain `>`
piece_weaker : (stop : ℕ) (piece : Piece) → IsPiece stop piece → IsPiece 62 piece
piece_weaker stop (Plain octet) valid = plain_is_no_end octet (and_parts (is_plain octet) (not (octet == stop)) valid).0
piece_weaker stop (Quoted contents) valid = valid

pieces_weaker : (stop : ℕ) (pieces : List Piece) → AllByRecursion (IsPiece stop) pieces → AllByRecursion (IsPiece 62) pieces
pieces_weaker stop [] valid = tt
pieces_weaker stop (piece ∷ pieces) valid = (piece_weaker stop piece valid.0, pieces_weaker stop pieces valid.1)

pub row_weaker : (stop : ℕ) (row : List ℕ) → IsRow stop row → IsRow 62 row
row_weaker stop row is_row = record { pieces = is_row.pieces; are_pieces = pieces_weaker stop is_row.pieces is_row.are_pieces; text_is = is_row.text_is }

-- plain octets are a row
pub plain_octets : (test : ℕ → Bool) (text : List ℕ) → ((octet : ℕ) → test octet ≡ true → is_plain octet ≡ true) → list_all test text ≡ true → IsRow 62 text
plain_octets test [] plain all = empty_row 62
plain_octets test (octet ∷ text) plain all =
    let parts = and_parts (test octet) (list_all test text) all in
    plain_row 62 octet text (plain_is_no_end octet (plain octet parts.0)) (plain_octets test text plain parts.1)
