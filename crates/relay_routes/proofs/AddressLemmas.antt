-- An address is written in one way, and what std reads is it where no zero leads.
use Rattle.std.proofs.Common.{◌≡◌, ℕ, ◌+◌, ◌<◌, ◌≤◌, ◌^◌, Bool, true, false, not, ◌==◌, List, [], ◌∷◌, ◌++◌, codes, decimal, length, drop, get_or, zero, suc, add-one, lit≤, lit<, refl, sym, ap, ◌∙◌, arith, append_assoc}
use Rattle.std.specs.Char.{digit_value}
use Rattle.std.specs.List.{AllByRecursion, after_first, position_or_len}
use Rattle.std.specs.Str.Parse.{AllDigits, IsNumeral, digits_value}
use Rattle.std.specs.Net.Addr.{ipv4_octets}
use Rattle.std.specs.Net.Socket.{v4_ip, v4_port}
use Rattle.std.specs.Net.Text.{dotted_text}
use Rattle.std.specs.Net.Grammar.{IsDotted, IsSocketV4Text}
use Rattle.std.specs.declared.net.socket_addr.SocketAddrV4.{SocketAddrV4}
use Rattle.std.proofs.lemmas.Bool.{false_from_ne_true, eqb-true, false≢true}
use Rattle.std.proofs.lemmas.Bool.Decides.{nat_tests}
use Rattle.std.proofs.lemmas.List.{drop_all}
use Rattle.std.proofs.lemmas.List.Sums.{position_or_len_is}
use Rattle.std.proofs.lemmas.Fmt.{decimal_is_IsNumeral, decimal_injective, decimal-digits_value, first_decimal, decimal_digit}
use Rattle.std.proofs.lemmas.Str.Parse.{numerals_by_value, tells_digits}
use Rattle.memchr.specs.Find.{NoneBefore, Passes, is_byte}
use Rattle.relay_routes.specs.Value.{IsAddress, IsAddressText, address_text, begins_with_zero, is_colon}

-- the octet stands nowhere in the text
abbrev pub HasNo : ℕ → List ℕ → Type 0
HasNo stop text = AllByRecursion (λ octet. octet == stop ≡ false) text

pub has_no-append : (stop : ℕ) (front back : List ℕ) → HasNo stop front → HasNo stop back → HasNo stop (front ++ back)
has_no-append stop [] back f b = b
has_no-append stop (octet ∷ front) back f b = (f.0, has_no-append stop front back f.1 b)

no_digit : (stop octet : ℕ) → 10 ≤ digit_value stop → digit_value octet < 10 → octet == stop ≡ false
no_digit stop octet high low =
    false_from_ne_true (octet == stop) (λ h. let same = ap digit_value (eqb-true octet stop h) in omega arith)

has_no-digits : (stop : ℕ) (digits : List ℕ) → 10 ≤ digit_value stop → AllDigits 10 digits → HasNo stop digits
has_no-digits stop [] high all = tt
has_no-digits stop (digit ∷ digits) high all = (no_digit stop digit high all.0, has_no-digits stop digits high all.1)

has_no-decimal : (stop n : ℕ) → 10 ≤ digit_value stop → n < 2 ^ 64 → HasNo stop (decimal n)
has_no-decimal stop n high fits = has_no-digits stop (decimal n) high (decimal_is_IsNumeral n fits).0.1

-- texts that part at the first such octet part in one way
pub split_is_one : (stop : ℕ) (front other back more : List ℕ) → HasNo stop front → HasNo stop other → front ++ stop ∷ back ≡ other ++ stop ∷ more → (front ≡ other) × (back ≡ more)
split_is_one stop [] [] back more f o same = (refl, ap (drop 1) same)
split_is_one stop [] (octet ∷ other) back more f o same = let h : stop ≡ octet = cc same in absurd (grind (arith, nat_tests, o.0))
split_is_one stop (octet ∷ front) [] back more f o same = let h : octet ≡ stop = cc same in absurd (grind (arith, nat_tests, f.0))
split_is_one stop (octet ∷ front) (next ∷ other) back more f o same =
    let h : octet ≡ next = cc same in
    let (heads, tails) = split_is_one stop front other back more f.1 o.1 (ap (drop 1) same) in
    (cc, tails)

colon_place : (front back : List ℕ) → HasNo 58 front → position_or_len is_colon (front ++ 58 ∷ back) ≡ length front
colon_place [] back h = refl
colon_place (octet ∷ front) back h = rw (h.0, colon_place front back h.1) (omega arith)

drop_after : (front : List ℕ) (octet : ℕ) (back : List ℕ) → drop (suc (length front)) (front ++ octet ∷ back) ≡ back
drop_after [] octet back = refl
drop_after (first ∷ front) octet back = drop_after front octet back

-- what stands after the first colon
after_colon : (front back : List ℕ) → HasNo 58 front → after_first is_colon (front ++ 58 ∷ back) ≡ back
after_colon front back h = rw (colon_place front back h, add-one) (drop_after front 58 back)

-- what is neither a digit nor a dot stands in no address
pub has_no-dotted : (stop a b c d : ℕ) → 10 ≤ digit_value stop → 46 == stop ≡ false → a < 256 → b < 256 → c < 256 → d < 256 → HasNo stop (dotted_text a b c d)
has_no-dotted stop a b c d high no_dot ha hb hc hd =
    let part : (n : ℕ) → n < 256 → HasNo stop (decimal n) = λ n h. has_no-decimal stop n high (omega arith) in
    let dot : HasNo stop (codes ".") = (no_dot, tt) in
    has_no-append stop _ _ (has_no-append stop _ _ (has_no-append stop _ _ (has_no-append stop _ _ (has_no-append stop _ _ (has_no-append stop _ _ (part a ha) dot) (part b hb)) dot) (part c hc)) dot) (part d hd)

has_no_colon : (a b c d : ℕ) → a < 256 → b < 256 → c < 256 → d < 256 → HasNo 58 (dotted_text a b c d)
has_no_colon a b c d ha hb hc hd = has_no-dotted 58 a b c d (lit≤ tt) refl ha hb hc hd

parted : (a b c d : ℕ) → dotted_text a b c d ≡ decimal a ++ 46 ∷ (decimal b ++ 46 ∷ (decimal c ++ 46 ∷ decimal d))
parted a b c d = simp append_assoc

-- four numbers with dots between them are written in one way
pub dotted_is_one : (a b c d e f g h : ℕ) → a < 256 → b < 256 → c < 256 → d < 256 → e < 256 → f < 256 → g < 256 → h < 256
    → dotted_text a b c d ≡ dotted_text e f g h → (a ≡ e) × (b ≡ f) × (c ≡ g) × (d ≡ h)
dotted_is_one a b c d e f g h ha hb hc hd he hf hg hh same =
    let no : (n : ℕ) → n < 256 → HasNo 46 (decimal n) = λ n h. has_no-decimal 46 n (lit≤ tt) (omega arith) in
    let one : (m n : ℕ) → m < 256 → n < 256 → decimal m ≡ decimal n → m ≡ n = λ m n x y s. decimal_injective m n (omega arith) (omega arith) s in
    let (first, rest) = split_is_one 46 (decimal a) (decimal e) _ _ (no a ha) (no e he) (sym (parted a b c d) ∙ same ∙ parted e f g h) in
    let (second, more) = split_is_one 46 (decimal b) (decimal f) _ _ (no b hb) (no f hf) rest in
    let (third, fourth) = split_is_one 46 (decimal c) (decimal g) _ _ (no c hc) (no g hg) more in
    (one a e ha he first, one b f hb hf second, one c g hc hg third, one d h hd hh fourth)

-- the address of four octets and a port
abbrev address_of : ℕ → ℕ → ℕ → ℕ → ℕ → SocketAddrV4
address_of a b c d port = record { ip = record { octets = a ∷ b ∷ c ∷ d ∷ [] }; port = port }

-- what each address is made of
pub record HasParts (address : SocketAddrV4) : Type 0 where
  pub a : ℕ
  pub b : ℕ
  pub c : ℕ
  pub d : ℕ
  pub fit : (a < 256) × (b < 256) × (c < 256) × (d < 256)
  pub octets_are : ipv4_octets (v4_ip address) ≡ a ∷ b ∷ c ∷ d ∷ []

parts_of_octets : (octets : List ℕ) → length octets ≡ 4 → AllByRecursion (λ octet. octet < 2 ^ 8) octets
    → (a b c d : ℕ) × ((a < 256) × (b < 256) × (c < 256) × (d < 256)) × (octets ≡ a ∷ b ∷ c ∷ d ∷ [])
parts_of_octets [] four below = absurd (omega arith)
parts_of_octets (a ∷ []) four below = absurd (omega arith)
parts_of_octets (a ∷ b ∷ []) four below = absurd (omega arith)
parts_of_octets (a ∷ b ∷ c ∷ []) four below = absurd (omega arith)
parts_of_octets (a ∷ b ∷ c ∷ d ∷ []) four below = (a, b, c, d, (below.0, below.1.0, below.1.1.0, below.1.1.1.0), refl)
parts_of_octets (a ∷ b ∷ c ∷ d ∷ e ∷ octets) four below = absurd (omega arith)

has_parts : (address : SocketAddrV4) → IsAddress address → HasParts address
has_parts address valid =
    let (a, b, c, d, fit, is) = parts_of_octets (ipv4_octets (v4_ip address)) valid.four valid.octets in
    record { a = a; b = b; c = c; d = d; fit = fit; octets_are = is }

-- the text of an address, by its parts
text_of_parts : (address : SocketAddrV4) (p : HasParts address) → address_text address ≡ dotted_text p.a p.b p.c p.d ++ 58 ∷ decimal (v4_port address)
text_of_parts address p = rw p.octets_are (append_assoc _ (codes ":") _)

no_colon_in_parts : (address : SocketAddrV4) (p : HasParts address) → HasNo 58 (dotted_text p.a p.b p.c p.d)
no_colon_in_parts address p = has_no_colon p.a p.b p.c p.d p.fit.0 p.fit.1 p.fit.2 p.fit.3

-- an address has one text, and a text one address
pub address_is_one : (one two : SocketAddrV4) → IsAddress one → IsAddress two → address_text one ≡ address_text two → one ≡ two
address_is_one one two valid other same =
    let p = has_parts one valid in
    let q = has_parts two other in
    let (ips, ports) = split_is_one 58 _ _ _ _ (no_colon_in_parts one p) (no_colon_in_parts two q) (sym (text_of_parts one p) ∙ same ∙ text_of_parts two q) in
    let (a, b, c, d) = dotted_is_one p.a p.b p.c p.d q.a q.b q.c q.d p.fit.0 p.fit.1 p.fit.2 p.fit.3 q.fit.0 q.fit.1 q.fit.2 q.fit.3 ips in
    let port = decimal_injective (v4_port one) (v4_port two) (omega (arith, valid.port_fits)) (omega (arith, other.port_fits)) ports in
    let octets : ipv4_octets (v4_ip one) ≡ ipv4_octets (v4_ip two) = p.octets_are ∙ cc (a, b, c, d) ∙ sym q.octets_are in
    λ j. record { ip = record { octets = octets j }; port = port j }

-- a numeral that no zero leads is how its number is written
some_number : (digits : List ℕ) (n : ℕ) → digits ≡ decimal n → begins_with_zero digits ≡ false → 0 < n
some_number digits zero is plain = absurd (false≢true (sym plain ∙ ap begins_with_zero (is ∙ decimal_digit 0 (lit< tt))))
some_number digits (suc n) is plain = omega arith

no_leading_zero : (digits : List ℕ) → begins_with_zero digits ≡ false → get_or digits 0 0 ≡ 48 → length digits ≡ 1
no_leading_zero [] plain zero_first = absurd (omega arith)
no_leading_zero (digit ∷ digits) plain zero_first = absurd (grind (arith, nat_tests))

plain_numeral : (digits : List ℕ) (n : ℕ) → IsNumeral 10 digits → digits_value 10 digits ≡ n → n < 2 ^ 16 → begins_with_zero digits ≡ false → (digits ≡ decimal n) × (0 < n)
plain_numeral digits n numeral value fits plain =
    let own = numerals_by_value (AllDigits 10) tells_digits in
    let is : decimal (digits_value 10 digits) ≡ digits = decimal-digits_value own digits numeral.1 numeral.0 (no_leading_zero digits plain) (omega arith) in
    let written : digits ≡ decimal n = sym is ∙ ap decimal value in
    (written, some_number digits n written plain)

parts_of_dotted : (address : SocketAddrV4) (ip : List ℕ) → IsDotted ip (ipv4_octets (v4_ip address)) → HasParts address
parts_of_dotted address ip dotted =
    record { a = dotted.a; b = dotted.b; c = dotted.c; d = dotted.d; fit = dotted.fit; octets_are = dotted.value }

dotted_is_parts : (address : SocketAddrV4) (ip : List ℕ) (dotted : IsDotted ip (ipv4_octets (v4_ip address)))
    → let p = parts_of_dotted address ip dotted in ip ≡ dotted_text p.a p.b p.c p.d
unfolding parts_of_dotted
dotted_is_parts address ip dotted = dotted.spelled

no_zero_first : (text : List ℕ) → 48 < get_or text 0 0 → begins_with_zero text ≡ false
no_zero_first [] above = refl
no_zero_first (octet ∷ text) above = grind (arith, nat_tests)

-- what std reads is the address where no zero leads its port
pub plain_address : (text : List ℕ) (address : SocketAddrV4) → IsSocketV4Text text address → begins_with_zero (after_first is_colon text) ≡ false → IsAddressText text address
plain_address text address (ip, port, text_is, dotted, (digits, port_is, number, fits)) plain =
    let p : HasParts address = parts_of_dotted address ip dotted in
    let ip_is : ip ≡ dotted_text p.a p.b p.c p.d = dotted_is_parts address ip dotted in
    let whole : text ≡ dotted_text p.a p.b p.c p.d ++ 58 ∷ digits = text_is ∙ cc (ip_is, port_is) in
    let after : after_first is_colon text ≡ digits = ap (after_first is_colon) whole ∙ after_colon _ digits (no_colon_in_parts address p) in
    let (written, some) = plain_numeral digits (v4_port address) number.0 number.1 fits (ap begins_with_zero (sym after) ∙ plain) in
    record {
      valid = record {
        four = ap length p.octets_are;
        octets = rw p.octets_are (p.fit.0, (p.fit.1, (p.fit.2, (p.fit.3, tt))));
        some_port = some;
        port_fits = fits;
      };
      text_is = whole ∙ ap (λ d. dotted_text p.a p.b p.c p.d ++ 58 ∷ d) written ∙ sym (text_of_parts address p);
    }

-- and each address is read by std, and no zero leads its port
pub address_is_plain : (text : List ℕ) (address : SocketAddrV4) → IsAddressText text address → IsSocketV4Text text address × (begins_with_zero (after_first is_colon text) ≡ false)
address_is_plain text address is =
    let p = has_parts address is.valid in
    let dotted : IsDotted (dotted_text p.a p.b p.c p.d) (ipv4_octets (v4_ip address)) = record { a = p.a; b = p.b; c = p.c; d = p.d; fit = p.fit; value = p.octets_are; spelled = refl } in
    let whole : text ≡ dotted_text p.a p.b p.c p.d ++ 58 ∷ decimal (v4_port address) = is.text_is ∙ text_of_parts address p in
    let fits = is.valid.port_fits in
    let after : after_first is_colon text ≡ decimal (v4_port address) = ap (after_first is_colon) whole ∙ after_colon _ (decimal (v4_port address)) (no_colon_in_parts address p) in (
      (dotted_text p.a p.b p.c p.d, 58 ∷ decimal (v4_port address), whole, dotted, (decimal (v4_port address), refl, decimal_is_IsNumeral (v4_port address) (omega arith), fits)),
      ap begins_with_zero after ∙ no_zero_first (decimal (v4_port address)) (first_decimal (v4_port address) is.valid.some_port (omega arith)),
    )

first_place : (octet : ℕ) (text : List ℕ) (place : ℕ) → NoneBefore (Passes (is_byte octet) text) 0 (length text) place → Passes (is_byte octet) text place → position_or_len (λ o. o == octet) text ≡ place
first_place octet text place none here =
    let high = none.high in
    position_or_len_is (λ o. o == octet) text place 0 (omega arith)
    (λ k below. false_from_ne_true (get_or text k 0 == octet) (λ h. none.before k (omega arith) below h))
    (λ within. here)

-- what a search for the first colon finds
pub after_found : (text : List ℕ) (place : ℕ) → NoneBefore (Passes (is_byte 58) text) 0 (length text) place → Passes (is_byte 58) text place → after_first is_colon text ≡ drop (place + 1) text
after_found text place none here = ap (λ n. drop (n + 1) text) (first_place 58 text place none here)

pub after_none : (text : List ℕ) → ((k : ℕ) → 0 ≤ k → k < length text → ¬ Passes (is_byte 58) text k) → after_first is_colon text ≡ []
after_none text nowhere =
    let e = position_or_len_is is_colon text (length text) 0 (omega arith) (λ k h. false_from_ne_true (get_or text k 0 == 58) (λ e. nowhere k (omega arith) h e)) (λ past. absurd (omega arith)) in
    drop_all _ text (omega (arith, e))

pub plain_where_true : (result leads : Bool) → result ≡ not leads → result ≡ true → leads ≡ false
plain_where_true result true is holds = absurd (false≢true (sym is ∙ holds))
plain_where_true result false is holds = refl

pub leads_where_false : (result leads : Bool) → result ≡ not leads → result ≡ false → leads ≡ true
leads_where_false result true is isnt = refl
leads_where_false result false is isnt = absurd (false≢true (sym isnt ∙ is))
