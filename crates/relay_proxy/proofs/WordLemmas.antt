-- Words are cut at a space in one way, and an address and a port are written in one way.
use Rattle.std.proofs.Common.{◌≡◌, ℕ, ◌<◌, ◌≤◌, ◌^◌, ◌==◌, false, List, [], ◌∷◌, ◌++◌, codes, decimal, Result, Ok, Err, MatchOption, drop, get_or, zero, suc, lit≤, lit<, refl, sym, ap, subst, ◌∙◌, arith, append_assoc, inl, inr, ◌⊎◌}
use Rattle.std.specs.Char.{digit_value}
use Rattle.std.specs.List.{AllByRecursion}
use Rattle.std.specs.Result.{result_ok}
use Rattle.std.specs.Str.{IsUtf8}
use Rattle.std.specs.Str.Parse.{AllDigits, IsNumeral, ParsesUnsigned, digits_value}
use Rattle.std.specs.Net.Addr.{ipv4_octets}
use Rattle.std.specs.Net.Grammar.{IsDotted, IsIpv4Text}
use Rattle.std.specs.Net.Text.{dotted_text}
use Rattle.std.specs.declared.net.ipv4_addr.Ipv4Addr.{Ipv4Addr}
use Rattle.std.proofs.lemmas.Bool.{false_from_ne_true, eqb-true}
use Rattle.std.proofs.lemmas.Bool.Decides.{nat_tests}
use Rattle.std.proofs.lemmas.Fmt.{IsAscii-decimal, decimal-digits_value, decimal_digit, decimal_injective, decimal_is_IsNumeral, first_decimal}
use Rattle.std.proofs.lemmas.Str.{IsUtf8-from_ascii}
use Rattle.std.proofs.lemmas.Str.Parse.{IsNumeralModel, numerals_by_value, parse_plain, tells_digits}
use Rattle.relay_proxy.specs.Word.{Cuts, HasNoAddress, HasNoPort, HasNoPortWord, IsPort, ReadsAddress, ReadsPort}

-- the octet stands nowhere in the text
abbrev pub HasNo : ℕ → List ℕ → Type 0
HasNo stop text = AllByRecursion (λ octet. octet == stop ≡ false) text

pub has_no-append : (stop : ℕ) (front back : List ℕ) → HasNo stop front → HasNo stop back → HasNo stop (front ++ back)
has_no-append stop [] back f b = b
has_no-append stop (octet ∷ front) back f b = (f.0, has_no-append stop front back f.1 b)

no_digit : (stop octet : ℕ) → 10 ≤ digit_value stop → digit_value octet < 10 → octet == stop ≡ false
no_digit stop octet high low =
    false_from_ne_true (octet == stop) (λ h. let same = ap digit_value (eqb-true octet stop h) in omega arith)

has_no-digits : (stop : ℕ) (digits : List ℕ) → 10 ≤ digit_value stop → AllDigits 10 digits → HasNo stop digits
has_no-digits stop [] high all = tt
has_no-digits stop (digit ∷ digits) high all = (no_digit stop digit high all.0, has_no-digits stop digits high all.1)

pub has_no-decimal : (stop n : ℕ) → 10 ≤ digit_value stop → n < 2 ^ 64 → HasNo stop (decimal n)
has_no-decimal stop n high fits = has_no-digits stop (decimal n) high (decimal_is_IsNumeral n fits).0.1

-- texts that part at the first such octet part in one way
split_is_one : (stop : ℕ) (front other back more : List ℕ) → HasNo stop front → HasNo stop other
    → front ++ stop ∷ back ≡ other ++ stop ∷ more → (front ≡ other) × (back ≡ more)
split_is_one stop [] [] back more f o same = (refl, ap (drop 1) same)
split_is_one stop [] (octet ∷ other) back more f o same =
    let h : stop ≡ octet = cc same in absurd (grind (arith, nat_tests, o.0))
split_is_one stop (octet ∷ front) [] back more f o same =
    let h : octet ≡ stop = cc same in absurd (grind (arith, nat_tests, f.0))
split_is_one stop (octet ∷ front) (next ∷ other) back more f o same =
    let h : octet ≡ next = cc same in
    let (heads, tails) = split_is_one stop front other back more f.1 o.1 (ap (drop 1) same) in
    (cc, tails)

pub has_stop : (stop : ℕ) (front back : List ℕ) → HasNo stop (front ++ stop ∷ back) → ⊥
has_stop stop [] back none = let apart = none.0 in absurd (grind (arith, nat_tests, apart))
has_stop stop (octet ∷ front) back none = has_stop stop front back none.1

-- four numbers with dots between them
pub has_no-dotted : (stop a b c d : ℕ) → 10 ≤ digit_value stop → 46 == stop ≡ false → a < 256 → b < 256 → c < 256
    → d < 256 → HasNo stop (dotted_text a b c d)
has_no-dotted stop a b c d high no_dot ha hb hc hd =
    let part : (n : ℕ) → n < 256 → HasNo stop (decimal n) = λ n h. has_no-decimal stop n high (omega arith) in
    let dot : HasNo stop (codes ".") = (no_dot, tt) in
    has_no-append stop _ _ (has_no-append stop _ _ (has_no-append stop _ _ (has_no-append stop _ _ (has_no-append stop _ _ (has_no-append stop _ _ (part a ha) dot) (part b hb)) dot) (part c hc)) dot) (part d hd)

parted : (a b c d : ℕ) → dotted_text a b c d ≡ decimal a ++ 46 ∷ (decimal b ++ 46 ∷ (decimal c ++ 46 ∷ decimal d))
parted a b c d = simp append_assoc

dotted_is_one : (a b c d e f g h : ℕ) → a < 256 → b < 256 → c < 256 → d < 256 → e < 256 → f < 256 → g < 256 → h < 256
    → dotted_text a b c d ≡ dotted_text e f g h → (a ≡ e) × (b ≡ f) × (c ≡ g) × (d ≡ h)
dotted_is_one a b c d e f g h ha hb hc hd he hf hg hh same =
    let no : (n : ℕ) → n < 256 → HasNo 46 (decimal n) = λ n h. has_no-decimal 46 n (lit≤ tt) (omega arith) in
    let one : (m n : ℕ) → m < 256 → n < 256 → decimal m ≡ decimal n → m ≡ n = λ m n x y s. decimal_injective m n (omega arith) (omega arith) s in
    let (first, rest) = split_is_one 46 (decimal a) (decimal e) _ _ (no a ha) (no e he) (sym (parted a b c d) ∙ same ∙ parted e f g h) in
    let (second, more) = split_is_one 46 (decimal b) (decimal f) _ _ (no b hb) (no f hf) rest in
    let (third, fourth) = split_is_one 46 (decimal c) (decimal g) _ _ (no c hc) (no g hg) more in
    (one a e ha he first, one b f hb hf second, one c g hc hg third, one d h hd hh fourth)

same_octets : (text one other : List ℕ) → IsDotted text one → IsDotted text other → one ≡ other
same_octets text one other p q =
    let (a, b, c, d) = dotted_is_one p.a p.b p.c p.d q.a q.b q.c q.d p.fit.0 p.fit.1 p.fit.2 p.fit.3 q.fit.0 q.fit.1 q.fit.2 q.fit.3 (sym p.spelled ∙ q.spelled) in
    p.value ∙ cc (a, b, c, d) ∙ sym q.value

no_space_in_address : (text octets : List ℕ) → IsDotted text octets → HasNo 32 text
no_space_in_address text octets p =
    subst (λ (t : List ℕ). HasNo 32 t) (sym p.spelled) (has_no-dotted 32 p.a p.b p.c p.d (lit≤ tt) refl p.fit.0 p.fit.1 p.fit.2 p.fit.3)

pub address_by : (one two : Ipv4Addr) → ipv4_octets one ≡ ipv4_octets two → one ≡ two
address_by one two octets = λ j. record { octets = octets j }

-- what stands before a space, and what follows it
spaced : (text word rest : List ℕ) → text ≡ word ++ codes " " ++ rest → text ≡ word ++ 32 ∷ rest
spaced text word rest is = is ∙ append_assoc word (codes " ") rest

-- addresses
pub no_address : (text word rest : List ℕ) → Cuts text word rest → ((address : Ipv4Addr) → ¬ IsIpv4Text word address) → HasNoAddress text
no_address text word rest cut nowhere = record {
  none = λ address other p.
      let (words, rests) = split_is_one 32 p.word word other rest (no_space_in_address p.word (ipv4_octets address) p.is_address) cut.first (sym (spaced text p.word other p.text_is) ∙ spaced text word rest cut.text_is) in
      nowhere address (subst (λ (t : List ℕ). IsIpv4Text t address) words p.is_address);
}

pub address_is_one : (text : List ℕ) (one two : Ipv4Addr) (rest more : List ℕ) → ReadsAddress text one rest → ReadsAddress text two more
    → (one ≡ two) × (rest ≡ more)
address_is_one text one two rest more p q =
    let (words, rests) = split_is_one 32 p.word q.word rest more (no_space_in_address p.word (ipv4_octets one) p.is_address) (no_space_in_address q.word (ipv4_octets two) q.is_address) (sym (spaced text p.word rest p.text_is) ∙ spaced text q.word more q.text_is) in
    (address_by one two (same_octets q.word (ipv4_octets one) (ipv4_octets two) (subst (λ (t : List ℕ). IsIpv4Text t one) words p.is_address) q.is_address), rests)

-- ports
no_space_in_port : (text : List ℕ) (port : ℕ) → IsPort text port → HasNo 32 text
no_space_in_port text port p =
    let fits = p.fits in
    subst (λ (t : List ℕ). HasNo 32 t) (sym p.text_is) (has_no-decimal 32 port (lit≤ tt) (omega arith))

pub port_is_one : (text : List ℕ) (one two : ℕ) → IsPort text one → IsPort text two → one ≡ two
port_is_one text one two p q =
    let fits = p.fits in
    let other = q.fits in
    decimal_injective one two (omega arith) (omega arith) (sym p.text_is ∙ q.text_is)

pub no_port_before : (text word rest : List ℕ) → Cuts text word rest → HasNoPort word → HasNoPortWord text
no_port_before text word rest cut nowhere = record {
  none = λ port other p.
      let (words, rests) = split_is_one 32 p.word word other rest (no_space_in_port p.word port p.is_port) cut.first (sym (spaced text p.word other p.text_is) ∙ spaced text word rest cut.text_is) in
      nowhere.none port (subst (λ (t : List ℕ). IsPort t port) words p.is_port);
}

pub port_word_is_one : (text : List ℕ) (one two : ℕ) (rest more : List ℕ) → ReadsPort text one rest → ReadsPort text two more
    → (one ≡ two) × (rest ≡ more)
port_word_is_one text one two rest more p q =
    let (words, rests) = split_is_one 32 p.word q.word rest more (no_space_in_port p.word one p.is_port) (no_space_in_port q.word two q.is_port) (sym (spaced text p.word rest p.text_is) ∙ spaced text q.word more q.text_is) in
    (port_is_one q.word one two (subst (λ (t : List ℕ). IsPort t one) words p.is_port) q.is_port, rests)

-- what std reads of digits that no zero and no sign leads
own : IsNumeralModel (AllDigits 10) (digits_value 10)
own = numerals_by_value (AllDigits 10) tells_digits

pub port_zero : (text : List ℕ) → text ≡ 48 ∷ [] → IsPort text 0
port_zero text is = record { text_is = is ∙ sym (decimal_digit 0 (lit< tt)); fits = lit< tt }

-- a port begins with a digit from 1, or is 0
first_of_port : (port : ℕ) → port < 2 ^ 16 → (decimal port ≡ 48 ∷ []) ⊎ (48 < get_or (decimal port) 0 0)
first_of_port zero fits = inl (decimal_digit 0 (lit< tt))
first_of_port (suc n) fits = inr (first_decimal (suc n) (omega arith) (omega arith))

digits_of_port : (text : List ℕ) (port : ℕ) → IsPort text port → IsNumeral 10 text × (digits_value 10 text ≡ port)
digits_of_port text port p =
    let fits = p.fits in
    subst (λ (t : List ℕ). IsNumeral 10 t × (digits_value 10 t ≡ port)) (sym p.text_is) (decimal_is_IsNumeral port (omega arith))

pub no_port : (text : List ℕ) → (text ≡ 48 ∷ [] → ⊥) → (48 < get_or text 0 0 → ⊥) → HasNoPort text
no_port text no_zero no_first = record { none = λ port p. by port p (first_of_port port p.fits) }
  where
    by : (port : ℕ) (p : IsPort text port) → (decimal port ≡ 48 ∷ []) ⊎ (48 < get_or (decimal port) 0 0) → ⊥
    by port p (inl is) = no_zero (p.text_is ∙ is)
    by port p (inr above) = no_first (subst (λ (t : List ℕ). 48 < get_or t 0 0) (sym p.text_is) above)

pub not_text : (text : List ℕ) → (IsUtf8 text → ⊥) → HasNoPort text
not_text text none = record {
  none = λ port p.
      let fits = p.fits in
      none (subst (λ (t : List ℕ). IsUtf8 t) (sym p.text_is) (IsUtf8-from_ascii (decimal port) (IsAscii-decimal port (omega arith))));
}

pub port_parsed : {E : Type 0} (text : List ℕ) (parsed : Result ℕ E) → 48 < get_or text 0 0 → ParsesUnsigned 16 10 text parsed
    → MatchOption (result_ok parsed) (HasNoPort text) (IsPort text)
port_parsed {E} text (Ok port) above parses =
    let gives = parse_plain own {E = E} 16 text (Ok port) parses (λ plus. omega arith) in
    let fits : digits_value 10 text < 2 ^ 16 = gives.0.2 in
    let written : decimal (digits_value 10 text) ≡ text = decimal-digits_value own text gives.0.0 gives.0.1 (λ leads. absurd (omega arith)) (omega arith) in
    let is : port ≡ digits_value 10 text = gives.1 in
    record { text_is = sym written ∙ ap decimal (sym is); fits = subst (λ (n : ℕ). n < 2 ^ 16) (sym is) fits }
port_parsed {E} text (Err fault) above parses =
    let gives = parse_plain own {E = E} 16 text (Err fault) parses (λ plus. omega arith) in
    record {
      none = λ port p.
          let (numeral, value) = digits_of_port text port p in
          gives (numeral.1, numeral.0, subst (λ (n : ℕ). n < 2 ^ 16) (sym value) p.fits);
    }
