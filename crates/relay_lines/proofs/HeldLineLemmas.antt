-- What a line buffer holds, over lists alone.
use Rattle.std.proofs.Common.{◌≡◌, ℕ, zero, suc, ◌+◌, ◌-◌, ◌<◌, ◌≤◌, Bool, true, false, ◌||◌, ◌&&◌, nat_lt, eqb, min, List, [], ◌∷◌, ◌++◌, length, take, get_or, None, Some, refl, sym, ap, ◌∙◌, subst, arith, sub-one}
use Rattle.std.proofs.lemmas.List.{take_min, length-take, length-take-le, take_all, length-append, append-nil, append_assoc, take_at, take-take, take-append-le}
use Rattle.std.proofs.lemmas.Bool.Decides.{nat_tests}
use Rattle.std.proofs.lemmas.Option.{slice_get_within, get_or_from_slice_get}
use Rattle.std.specs.List.{slice_get}
use Rattle.std.proofs.lemmas.Slice.{take-put_mid}
use Rattle.std.proofs.Math.Seq.{take-append-add}
use Rattle.relay_octets.specs.Line.{crlf, HasNoCrlf, ReadsLine, ends_in_cr, begins_with_lf}
use Rattle.relay_octets.proofs.Theorems.{no_crlf_front, no_crlf_joined}
use Rattle.std.proofs.lemmas.Bool.{eqb-true, false≢true}
use Rattle.relay_lines.specs.HeldLine.{HeldLine, Holds, HoldsLine, GoesOn, last_is_cr}
use borrow.Rule.Slice.PartMut.{put_mid}

-- the octets kept after a write of what fits
pub kept_after : (array octets written : List ℕ) (len count width : ℕ) → len ≤ 2048
    → length array ≡ 2048 → count ≡ min (2048 - len) (length octets) → written ≡ take count octets
    → take (len + count) (put_mid len width array written) ≡ take 2048 (take len array ++ octets)
kept_after array octets written len count width within size count_is written_is =
    let front = length-take-le len array (omega arith) in
    let room : 2048 ≡ length (take len array) + (2048 - len) = omega arith in
    let fits : length written ≡ count = ap length written_is ∙ length-take-le count octets (omega arith) in
    take-put_mid len width array written (len + count) (omega arith) (omega arith)
    ∙ ap (λ l. take len array ++ l)
    (written_is ∙ ap (λ n. take n octets) count_is ∙ take_min (2048 - len) octets)
    ∙ sym
    (ap (λ n. take n (take len array ++ octets)) room ∙ take-append-add (take len array) octets (2048 - len))

-- more came than fit, told by the room or by the number of all
pub room_or_all : (long : Bool) (len kept more : ℕ) → len ≤ 2048 → kept ≡ len
    → long || nat_lt (2048 - len) more ≡ long || nat_lt 2048 (kept + more)
room_or_all true len kept more within e = refl
room_or_all false len kept more within e = grind (arith, nat_tests)

-- the last octet tells
ends_in_cr-last : (octet : ℕ) (octets : List ℕ)
    → ends_in_cr (octet ∷ octets) ≡ eqb (get_or (octet ∷ octets) (length octets) 0) 13
ends_in_cr-last octet [] = refl
ends_in_cr-last octet (next ∷ more) = ends_in_cr-last next more

pub last_octet : (before : Bool) (octets : List ℕ) (last : ℕ)
    → slice_get octets (length octets - 1) ≡ Some last → eqb last 13 ≡ last_is_cr before octets
last_octet before [] last e = absurd (omega (arith, slice_get_within [] 0 last e))
last_octet before (octet ∷ octets) last e =
    let at : get_or (octet ∷ octets) (length octets) 0 ≡ last =
    get_or_from_slice_get (octet ∷ octets) (length octets) last 0 (rw (sub-one) at e) in
    ap (λ n. eqb n 13) (sym at) ∙ sym (ends_in_cr-last octet octets)

found : (octet : ℕ) (octets : List ℕ) → slice_get (octet ∷ octets) (length octets) ≡ None → ⊥
found octet [] e = cc
found octet (next ∷ more) e = found next more e

-- where there is no last octet, there is none
pub no_last_octet : (octets : List ℕ) → slice_get octets (length octets - 1) ≡ None → octets ≡ []
no_last_octet [] e = refl
no_last_octet (octet ∷ octets) e = absurd (found octet octets (rw (sub-one) at e))

few_octets : (long : Bool) (n : ℕ) → n ≤ 2048 → long ≡ long || nat_lt 2048 (n + 0)
few_octets true n within = refl
few_octets false n within = grind (arith, nat_tests)

-- nothing further
pub goes_on_nothing : (held : HeldLine) → length held.kept ≤ 2048 → GoesOn held held []
goes_on_nothing held within = record {
  kept =
      sym
      (take_all 2048 (held.kept ++ []) (omega (arith, length-append held.kept [])) ∙ append-nil held.kept);
  is_long = few_octets held.is_long (length held.kept) within;
  after_cr = refl;
}

-- what is kept of a part tells what is kept of all
pub take-take_append : (n : ℕ) (octets more : List ℕ)
    → take n (take n octets ++ more) ≡ take n (octets ++ more)
take-take_append zero octets more = refl
take-take_append (suc n) [] more = refl
take-take_append (suc n) (octet ∷ octets) more = ap (λ l. octet ∷ l) (take-take_append n octets more)

all_or_kept : (octets more : List ℕ)
    → nat_lt 2048 (length octets) || nat_lt 2048
    (length (take 2048 octets) + length more) ≡ nat_lt 2048 (length (octets ++ more))
all_or_kept octets more =
    let kept = length-take 2048 octets in let all = length-append octets more in grind (arith, nat_tests)

after : (octets : List ℕ) (octet : ℕ) (more : List ℕ)
    → ends_in_cr (octets ++ octet ∷ more) ≡ ends_in_cr (octet ∷ more)
after [] octet more = refl
after (first ∷ []) octet more = refl
after (first ∷ next ∷ octets) octet more = after (next ∷ octets) octet more

-- the last octet of joined octets
pub last_is_cr-append : (octets more : List ℕ)
    → last_is_cr (ends_in_cr octets) more ≡ ends_in_cr (octets ++ more)
last_is_cr-append octets [] = ap ends_in_cr (sym (append-nil octets))
last_is_cr-append octets (octet ∷ more) = sym (after octets octet more)

-- what is kept of a line that goes on, and whether it is long
goes_on_kept : (old new : HeldLine) (octets more : List ℕ) → Holds old octets → GoesOn old new more
    → new.kept ≡ take 2048 (octets ++ more)
goes_on_kept old new octets more holds on =
    on.kept ∙ ap (λ l. take 2048 (l ++ more)) holds.kept ∙ take-take_append 2048 octets more

goes_on_long : (old new : HeldLine) (octets more : List ℕ) → Holds old octets → GoesOn old new more
    → new.is_long ≡ nat_lt 2048 (length (octets ++ more))
goes_on_long old new octets more holds on =
    on.is_long ∙ ap (λ b. b || nat_lt 2048 (length old.kept + length more)) holds.is_long
    ∙ ap (λ l. nat_lt 2048 (length octets) || nat_lt 2048 (length l + length more)) holds.kept
    ∙ all_or_kept octets more

-- a line that goes on is held on
pub holds_on : (old new : HeldLine) (octets more : List ℕ) → Holds old octets → GoesOn old new more
    → HasNoCrlf (octets ++ more) → Holds new (octets ++ more)
holds_on old new octets more holds on unended = record {
  kept = goes_on_kept old new octets more holds on;
  is_long = goes_on_long old new octets more holds on;
  after_cr = on.after_cr ∙ ap (λ b. last_is_cr b more) holds.after_cr ∙ last_is_cr-append octets more;
  unended = unended;
}

-- a line is long, told by what is kept of it
pub long_line : (long : Bool) (kept line : List ℕ) → kept ≡ take 2048 line
    → (long ≡ true → 2046 < length line)
    → long || nat_lt 2046 (length kept) ≡ nat_lt 2046 (length line)
long_line true kept line kept_is some = let more = some refl in grind (arith, nat_tests)
long_line false kept line kept_is some =
    let size = ap length kept_is ∙ length-take 2048 line in grind (arith, nat_tests)

-- octets whose last is a CR are some octets and it
pub cr_after : (octets : List ℕ) → ends_in_cr octets ≡ true
    → (front : List ℕ) × (octets ≡ front ++ 13 ∷ [])
cr_after [] e = absurd (false≢true e)
cr_after (octet ∷ []) e = ([], ap (λ o. o ∷ []) (eqb-true octet 13 e))
cr_after (octet ∷ next ∷ more) e =
    let front = cr_after (next ∷ more) e in (octet ∷ front.0, ap (λ l. octet ∷ l) front.1)

-- an LF after a CR ends the line before it
pub lf_ends : (octets piece : List ℕ) → HasNoCrlf octets → ends_in_cr octets ≡ true
    → begins_with_lf piece ≡ true
    → (line : List ℕ) × (octets ≡ line ++ 13 ∷ []) × ReadsLine (octets ++ take 1 piece) line []
lf_ends octets [] unended cr lf = absurd (false≢true lf)
lf_ends octets (octet ∷ piece) unended cr lf =
    let front = cr_after octets cr in
    let e = front.1 in (
      front.0,
      e,
      record {
        text =
            ap (λ l. l ++ octet ∷ []) e ∙ append_assoc front.0 (13 ∷ []) (octet ∷ [])
            ∙ ap (λ o. front.0 ++ 13 ∷ o ∷ []) (eqb-true octet 10 lf)
            ∙ sym (append-nil (front.0 ++ crlf));
        first = no_crlf_front front.0 (13 ∷ []) (subst HasNoCrlf e unended);
      },
    )

-- what doesn't begin with an LF has no front that does
apart_in_front : (cr : Bool) (n : ℕ) (piece : List ℕ) → cr && begins_with_lf piece ≡ false
    → cr && begins_with_lf (take n piece) ≡ false
apart_in_front false n piece apart = refl
apart_in_front true zero piece apart = refl
apart_in_front true (suc n) [] apart = refl
apart_in_front true (suc n) (octet ∷ piece) apart = apart

-- a CR LF in the piece ends the line that is held, where none stands across the join
pub crlf_ends : (octets piece : List ℕ) (place : ℕ) (rest : List ℕ) → HasNoCrlf octets
    → ends_in_cr octets && begins_with_lf piece ≡ false → ReadsLine piece (take place piece) rest
    → place + 2 ≤ length piece
    → ReadsLine (octets ++ take (place + 2) piece) (octets ++ take place piece) []
crlf_ends octets piece place rest unended apart reads within =
    let whole : take (place + 2) piece ≡ take place piece ++ crlf =
    ap (take (place + 2)) reads.text
    ∙ take_at (take place piece ++ crlf) rest (place + 2)
    (length-append (take place piece) crlf ∙ ap (λ n. n + 2) (length-take-le place piece (omega arith))) in
    record {
      text =
          ap (λ l. octets ++ l) whole ∙ sym (append_assoc octets (take place piece) crlf)
          ∙ sym (append-nil (octets ++ take place piece ++ crlf));
      first =
          no_crlf_joined octets (take place piece) unended reads.first
          (apart_in_front (ends_in_cr octets) place piece apart);
    }

-- without its CR a short line is what was kept of it
pub cr_dropped : (array line : List ℕ) (len : ℕ) → len ≤ 2048 → length array ≡ 2048
    → take len array ≡ take 2048 (line ++ 13 ∷ []) → length (line ++ 13 ∷ []) ≤ 2048
    → take (len - 1) array ≡ take 2048 line
cr_dropped array line len within size kept short =
    let all = length-append line (13 ∷ []) in
    let whole : take len array ≡ line ++ 13 ∷ [] = kept ∙ take_all 2048 (line ++ 13 ∷ []) short in
    let count : len ≡ length line + 1 =
    sym (length-take-le len array (omega arith)) ∙ ap length whole ∙ all in
    sym (take-take (len - 1) len array (omega arith)) ∙ ap (take (len - 1)) whole
    ∙ take_at line (13 ∷ []) (len - 1) (omega arith) ∙ sym (take_all 2048 line (omega arith))

-- of a long line the CR isn't kept
pub cr_beyond : (line : List ℕ) → 2048 < length (line ++ 13 ∷ [])
    → take 2048 (line ++ 13 ∷ []) ≡ take 2048 line
cr_beyond line long =
    let all = length-append line (13 ∷ []) in take-append-le 2048 line (13 ∷ []) (omega arith)

-- an ended line, told by what was kept of it before its end was counted
pub ended_line : (mid new : HeldLine) (line : List ℕ) → mid.kept ≡ take 2048 line
    → (mid.is_long ≡ true → 2046 < length line) → new.kept ≡ mid.kept
    → new.is_long ≡ mid.is_long || nat_lt 2046 (length mid.kept) → HoldsLine new line
ended_line mid new line kept some new_kept new_long = record {
  kept = new_kept ∙ kept;
  is_long = new_long ∙ long_line mid.is_long mid.kept line kept some;
}

-- the line before a CR that was kept
pub ends_short : (old mid new : HeldLine) (array line : List ℕ) (len : ℕ) → len ≤ 2048
    → length array ≡ 2048 → Holds old (line ++ 13 ∷ []) → take len array ≡ old.kept
    → old.is_long ≡ false → mid.kept ≡ take (len - 1) array → mid.is_long ≡ false
    → new.kept ≡ mid.kept → new.is_long ≡ mid.is_long || nat_lt 2046 (length mid.kept)
    → HoldsLine new line
ends_short old mid new array line len within size holds old_kept old_long mid_kept mid_long new_kept new_long =
    let short : length (line ++ 13 ∷ []) ≤ 2048 = let e = sym holds.is_long ∙ old_long in
    grind (arith, nat_tests) in
    ended_line mid new line
    (mid_kept ∙ cr_dropped array line len within size (old_kept ∙ holds.kept) short)
    (λ long. absurd (false≢true (sym mid_long ∙ long))) new_kept new_long

-- the line before a CR that wasn't
pub ends_long : (old new : HeldLine) (line : List ℕ) → Holds old (line ++ 13 ∷ [])
    → old.is_long ≡ true → new.kept ≡ old.kept
    → new.is_long ≡ old.is_long || nat_lt 2046 (length old.kept) → HoldsLine new line
ends_long old new line holds old_long new_kept new_long =
    let all = length-append line (13 ∷ []) in
    let long : 2048 < length (line ++ 13 ∷ []) = let e = sym holds.is_long ∙ old_long in
    grind (arith, nat_tests) in
    ended_line old new line (holds.kept ∙ cr_beyond line long) (λ _. omega arith) new_kept new_long

-- the line whose CR LF came in the piece
pub ends_within : (old mid new : HeldLine) (octets more : List ℕ) → Holds old octets
    → GoesOn old mid more → new.kept ≡ mid.kept
    → new.is_long ≡ mid.is_long || nat_lt 2046 (length mid.kept) → HoldsLine new (octets ++ more)
ends_within old mid new octets more holds on new_kept new_long =
    let long = goes_on_long old mid octets more holds on in
    ended_line mid new (octets ++ more) (goes_on_kept old mid octets more holds on)
    (λ some. let e = sym long ∙ some in grind (arith, nat_tests)) new_kept new_long
