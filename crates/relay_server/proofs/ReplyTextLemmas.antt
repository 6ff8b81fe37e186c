-- Replies: the text of each, and that of an answer it says which.
use Rattle.std.proofs.Common.{◌≡◌, ℕ, zero, suc, ◌+◌, ◌/◌, ◌%◌, ◌^◌, ◌<◌, ◌≤◌, Bool, true, false, cond, ◌||◌, ◌==◌, nat_lt, List, [], ◌∷◌, ◌++◌, codes, decimal, length, get_or, inl, inr, refl, sym, ap, ◌∙◌, arith, append_assoc, lit≤}
use Rattle.std.specs.Fmt.{digits, digits_onto, digit_glyph}
use Rattle.std.specs.Str.Parse.{digits_value}
use Rattle.std.proofs.Math.Nat.{pow-succ'}
use Rattle.std.proofs.lemmas.Bool.{cases_lt, ne_eqb, false≢true}
use Rattle.std.proofs.lemmas.Fmt.{decimal_is_IsNumeral, decimal_is_IsNumeral_wide, length-decimal-le}
use Rattle.std.proofs.lemmas.List.{append_cancel_left}
use Rattle.relay_octets.specs.Line.{crlf, HasNoCrlf}
use Rattle.relay_octets.proofs.Theorems.{first_line_is_one}
use Rattle.relay_lines.specs.Reply.{middle_line, one_line, reply_text}
use Rattle.relay_server.specs.declared.reply_table.Row.TheVariants.{Extensions}
use Rattle.relay_server.specs.declared.offer.Answer.{Answer}
use Rattle.relay_server.specs.declared.offer.Answer.TheVariants.{Queued, Full}
use Rattle.relay_server.specs.Dialogue.{row_of_answer}
use Rattle.relay_server.specs.DialogueLaws.{IsNumbered}
use Rattle.relay_envelope.specs.Mailbox.{stands_in}
use Rattle.relay_server.specs.Reply.{reply_of}
use Rattle.relay_server.proofs.OctetLemmas.{stands_between}

-- without a CR there is no CR LF
pub no_crlf_without_cr : (octets : List ℕ) → stands_in 13 octets ≡ false → HasNoCrlf octets
no_crlf_without_cr octets none = record {
  nowhere = λ before after e. false≢true (sym none ∙ ap (stands_in 13) (e ∙ append_assoc before crlf after) ∙ stands_between 13 before (10 ∷ after));
}

-- a digit is no CR
digit_is_no_cr : (low : Bool) (digit : ℕ) → cond low (48 + digit) (87 + digit) == 13 ≡ false
digit_is_no_cr true digit = ne_eqb (48 + digit) 13 (λ e. omega arith)
digit_is_no_cr false digit = ne_eqb (87 + digit) 13 (λ e. omega arith)

either_lacks_cr : (b : Bool) (one two : List ℕ) → stands_in 13 one ≡ false → stands_in 13 two ≡ false → stands_in 13 (cond b one two) ≡ false
either_lacks_cr true one two h k = h
either_lacks_cr false one two h k = k

digits_lack_cr : (count number : ℕ) (more : List ℕ) → stands_in 13 more ≡ false → stands_in 13 (digits_onto count 10 false number more) ≡ false
digits_lack_cr zero number more h = h
digits_lack_cr (suc count) number more h =
    let last = digit_glyph false (number % 10) in
    let here : stands_in 13 (last ∷ more) ≡ false = ap (λ b. b || stands_in 13 more) (digit_is_no_cr (nat_lt (number % 10) 10) (number % 10)) ∙ h in
    either_lacks_cr (number / 10 == 0) (last ∷ more) (digits_onto count 10 false (number / 10) (last ∷ more)) here (digits_lack_cr count (number / 10) (last ∷ more) here)

-- no CR stands in a number
pub decimal_lacks_cr : (number : ℕ) → stands_in 13 (decimal number) ≡ false
unfolding digits
decimal_lacks_cr number = digits_lack_cr 64 number [] refl

power_is_some : (count : ℕ) → 1 ≤ 10 ^ count
power_is_some zero = omega arith
power_is_some (suc count) = let less = power_is_some count in omega (arith, pow-succ' 10 count)

-- a number with more digits than are written is written with all of those
digits_are_all : (count number : ℕ) (more : List ℕ) → 10 ^ count ≤ number → length (digits_onto count 10 false number more) ≡ count + length more
digits_are_all zero number more h = omega arith
digits_are_all (suc count) number more h =
    let last = digit_glyph false (number % 10) in
    let some = power_is_some count in
    let fits : 10 ^ count ≤ number / 10 = omega (arith, pow-succ' 10 count) in
    let test : number / 10 == 0 ≡ false = ne_eqb (number / 10) 0 (λ e. omega arith) in
    let later = digits_are_all count (number / 10) (last ∷ more) fits in
    let sum : count + length (last ∷ more) ≡ suc count + length more = omega arith in
    ap (λ b. length (cond b (last ∷ more) (digits_onto count 10 false (number / 10) (last ∷ more)))) test ∙ later ∙ sum

long_decimal : (number : ℕ) → 10 ^ 64 ≤ number → length (decimal number) ≡ 64
unfolding digits
long_decimal number h = digits_are_all 64 number [] h

pub short_decimal : (number : ℕ) → number < 2 ^ 64 → length (decimal number) ≤ 20
short_decimal number h =
    let most : 2 ^ 64 ≤ 10 ^ 20 = lit≤ tt in
    length-decimal-le 20 number (omega arith) (omega arith) h

-- no number is written as a number of 64 bits but that one
decimal_is_one : (number other : ℕ) → other < 2 ^ 64 → decimal number ≡ decimal other → number ≡ other
decimal_is_one number other h e = elim (cases_lt number (10 ^ 64)) [
  | inl few ↦ sym (decimal_is_IsNumeral_wide number few).1 ∙ ap (digits_value 10) e ∙ (decimal_is_IsNumeral other h).1
  | inr many ↦
      let long = long_decimal number many in
      let short = short_decimal other h in
      let same = ap length e in
      absurd (omega arith)
]

-- what stands before the CR LF of the reply to an offer
abbrev pub answer_line : Answer → List ℕ
answer_line (Queued number) = codes "250 queued as " ++ decimal number
answer_line Full = codes "452 spool full"

pub answer_text : (host : List ℕ) (given : Answer) → reply_text (reply_of host (row_of_answer given)) ≡ answer_line given ++ crlf
unfolding reply_of
answer_text host (Queued number) = refl
answer_text host Full = refl

answer_has_no_crlf : (given : Answer) → HasNoCrlf (answer_line given)
answer_has_no_crlf (Queued number) = no_crlf_without_cr (answer_line (Queued number)) (decimal_lacks_cr number)
answer_has_no_crlf Full = no_crlf_without_cr (answer_line Full) refl

-- a line says one answer
line_is_one : (given other : Answer) → IsNumbered other → answer_line given ≡ answer_line other → given ≡ other
line_is_one (Queued number) (Queued other) h e =
    ap (λ n. Queued n) (decimal_is_one number other h (append_cancel_left (codes "250 queued as ") (decimal number) (decimal other) e))
line_is_one (Queued number) Full h e =
    let no : ◌≡◌ {A = ℕ} 50 52 = ap (λ l. get_or l 0 0) e in
    absurd (omega arith)
line_is_one Full (Queued other) h e =
    let no : ◌≡◌ {A = ℕ} 52 50 = ap (λ l. get_or l 0 0) e in
    absurd (omega arith)
line_is_one Full Full h e = refl

-- octets begin with the reply to one answer
pub answer_is_one : (host : List ℕ) (given other : Answer) (afterwards more : List ℕ) → IsNumbered other → reply_text (reply_of host (row_of_answer given)) ++ afterwards ≡ reply_text (reply_of host (row_of_answer other)) ++ more → given ≡ other
answer_is_one host given other afterwards more h e =
    let same = first_line_is_one (reply_text (reply_of host (row_of_answer given)) ++ afterwards) (answer_line given) afterwards (answer_line other) more (record {
      text = ap (λ l. l ++ afterwards) (answer_text host given);
      first = answer_has_no_crlf given;
    }) (record {
      text = e ∙ ap (λ l. l ++ more) (answer_text host other);
      first = answer_has_no_crlf other;
    }) in
    line_is_one given other h same.0

-- the lines of the reply to EHLO, written one after another
pub extensions_text : (host start one two three : List ℕ) → one ≡ start ++ middle_line 250 host → two ≡ one ++ middle_line 250 (codes "PIPELINING") → three ≡ two ++ middle_line 250 (codes "CHUNKING") → three ++ reply_text (one_line 250 (codes "DSN")) ≡ start ++ reply_text (reply_of host Extensions)
unfolding reply_of
extensions_text host start one two three first second third =
    let name = middle_line 250 host in
    let pipelining = middle_line 250 (codes "PIPELINING") in
    let chunking = middle_line 250 (codes "CHUNKING") in
    let last = reply_text (one_line 250 (codes "DSN")) in
    ap (λ l. l ++ last) (third ∙ ap (λ l. l ++ chunking) (second ∙ ap (λ l. l ++ pipelining) first))
    ∙ append_assoc ((start ++ name) ++ pipelining) chunking last
    ∙ append_assoc (start ++ name) pipelining (chunking ++ last)
    ∙ append_assoc start name (pipelining ++ (chunking ++ last))
