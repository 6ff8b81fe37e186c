-- What a proxy writes is a header.
use Rattle.std.proofs.Common.{◌≡◌, ℕ, ◌+◌, ◌<◌, ◌≤◌, ◌^◌, List, [], ◌∷◌, ◌++◌, codes, decimal, length, get_or, take, drop, lit≤, lit<, refl, sym, ap, subst, ◌∙◌, arith, inl, inr, append_assoc, length-append}
use Rattle.std.specs.Int.{w16, from_be_bytes, to_be_bytes}
use Rattle.std.specs.List.{AllByRecursion}
use Rattle.std.specs.Net.Addr.{ipv4_octets}
use Rattle.std.specs.Net.Grammar.{IsDotted}
use Rattle.std.specs.Net.Socket.{v4_ip, v4_port}
use Rattle.std.specs.Net.Text.{dotted_text, ipv4_text}
use Rattle.std.specs.declared.net.socket_addr.SocketAddrV4.{SocketAddrV4}
use Rattle.std.proofs.lemmas.Fmt.{length-decimal-le}
use Rattle.std.proofs.lemmas.List.{drop_at, take_at}
use Rattle.std.proofs.lemmas.Nat.{from_be_bytes-to_be_bytes_2}
use Rattle.relay_octets.specs.Line.{HasNoCrlf, crlf}
use Rattle.relay_proxy.specs.HeaderLine.{WritesClient, line_limit}
use Rattle.relay_proxy.specs.Block.{WritesIpv4, signature, two_octets}
use Rattle.relay_proxy.specs.Laws.{ClientBlockIsHeader, ClientLineIsHeader, IsAddress, client_fields, client_line, client_words}
use Rattle.relay_proxy.proofs.WordLemmas.{HasNo, has_no-append, has_no-decimal, has_no-dotted, has_stop}

-- an address by its four octets
record HasParts (octets : List ℕ) : Type 0 where
  a : ℕ
  b : ℕ
  c : ℕ
  d : ℕ
  fit : (a < 256) × (b < 256) × (c < 256) × (d < 256)
  are : octets ≡ a ∷ b ∷ c ∷ d ∷ []

has_parts : (octets : List ℕ) → length octets ≡ 4 → AllByRecursion (λ octet. octet < 2 ^ 8) octets → HasParts octets
has_parts [] four below = absurd (omega arith)
has_parts (a ∷ []) four below = absurd (omega arith)
has_parts (a ∷ b ∷ []) four below = absurd (omega arith)
has_parts (a ∷ b ∷ c ∷ []) four below = absurd (omega arith)
has_parts (a ∷ b ∷ c ∷ d ∷ []) four below = record { a = a; b = b; c = c; d = d; fit = (below.0, below.1.0, below.1.1.0, below.1.1.1.0); are = refl }
has_parts (a ∷ b ∷ c ∷ d ∷ e ∷ octets) four below = absurd (omega arith)

parts_of : (address : SocketAddrV4) → IsAddress address → HasParts (ipv4_octets (v4_ip address))
parts_of address valid = has_parts (ipv4_octets (v4_ip address)) valid.four valid.octets

text_of : (octets : List ℕ) (p : HasParts octets) → ipv4_text octets ≡ dotted_text p.a p.b p.c p.d
text_of octets p = ap ipv4_text p.are

is_text : (octets : List ℕ) (p : HasParts octets) → IsDotted (ipv4_text octets) octets
is_text octets p = record { a = p.a; b = p.b; c = p.c; d = p.d; fit = p.fit; value = p.are; spelled = text_of octets p }

-- version 1
writes_client : (client destination : SocketAddrV4) → IsAddress client → IsAddress destination → WritesClient (client_words client destination) client
writes_client client destination one two =
    let source = ipv4_text (ipv4_octets (v4_ip client)) in
    let target = ipv4_text (ipv4_octets (v4_ip destination)) in
    let ports = decimal (v4_port client) ++ (codes " " ++ decimal (v4_port destination)) in
    record {
      after_source = target ++ (codes " " ++ ports);
      after_destination = ports;
      last = decimal (v4_port destination);
      destination = v4_ip destination;
      destination_port = v4_port destination;
      source_is = record { word = source; text_is = sym (append_assoc source (codes " ") (target ++ (codes " " ++ ports))); is_address = is_text (ipv4_octets (v4_ip client)) (parts_of client one) };
      destination_is = record { word = target; text_is = sym (append_assoc target (codes " ") ports); is_address = is_text (ipv4_octets (v4_ip destination)) (parts_of destination two) };
      port_is = record { word = decimal (v4_port client); text_is = sym (append_assoc (decimal (v4_port client)) (codes " ") (decimal (v4_port destination))); is_port = record { text_is = refl; fits = one.port_fits } };
      last_is = record { text_is = refl; fits = two.port_fits };
    }

no_cr_in_address : (address : SocketAddrV4) → IsAddress address → HasNo 13 (ipv4_text (ipv4_octets (v4_ip address)))
no_cr_in_address address valid =
    let p = parts_of address valid in
    subst (λ (t : List ℕ). HasNo 13 t) (sym (text_of (ipv4_octets (v4_ip address)) p)) (has_no-dotted 13 p.a p.b p.c p.d (lit≤ tt) refl p.fit.0 p.fit.1 p.fit.2 p.fit.3)

no_cr_in_port : (address : SocketAddrV4) → IsAddress address → HasNo 13 (decimal (v4_port address))
no_cr_in_port address valid = let fits = valid.port_fits in has_no-decimal 13 (v4_port address) (lit≤ tt) (omega arith)

no_crlf : (text : List ℕ) → HasNo 13 text → HasNoCrlf text
no_crlf text none = record {
  nowhere = λ before after is. has_stop 13 before (10 ∷ after) (subst (λ (t : List ℕ). HasNo 13 t) (is ∙ append_assoc before crlf after) none);
}

no_cr_in_line : (client destination : SocketAddrV4) → IsAddress client → IsAddress destination → HasNo 13 (codes "PROXY TCP4 " ++ client_words client destination)
no_cr_in_line client destination one two =
    let source = ipv4_text (ipv4_octets (v4_ip client)) in
    let target = ipv4_text (ipv4_octets (v4_ip destination)) in
    let port = decimal (v4_port client) in
    let other = decimal (v4_port destination) in
    let space : HasNo 13 (codes " ") = (refl, tt) in
    let first : HasNo 13 (codes "PROXY TCP4 ") = (refl, (refl, (refl, (refl, (refl, (refl, (refl, (refl, (refl, (refl, (refl, tt))))))))))) in
    let last : HasNo 13 (codes " " ++ other) = has_no-append 13 (codes " ") other space (no_cr_in_port destination two) in
    let ports : HasNo 13 (port ++ (codes " " ++ other)) = has_no-append 13 port (codes " " ++ other) (no_cr_in_port client one) last in
    let after : HasNo 13 (codes " " ++ (port ++ (codes " " ++ other))) = has_no-append 13 (codes " ") (port ++ (codes " " ++ other)) space ports in
    let targets : HasNo 13 (target ++ (codes " " ++ (port ++ (codes " " ++ other)))) = has_no-append 13 target (codes " " ++ (port ++ (codes " " ++ other))) (no_cr_in_address destination two) after in
    let after : HasNo 13 (codes " " ++ (target ++ (codes " " ++ (port ++ (codes " " ++ other))))) = has_no-append 13 (codes " ") (target ++ (codes " " ++ (port ++ (codes " " ++ other)))) space targets in
    let words : HasNo 13 (client_words client destination) = has_no-append 13 source (codes " " ++ (target ++ (codes " " ++ (port ++ (codes " " ++ other))))) (no_cr_in_address client one) after in
    has_no-append 13 (codes "PROXY TCP4 ") (client_words client destination) first words

-- an address has 15 octets at most, a port five
dotted_is_short : (a b c d : ℕ) → a < 256 → b < 256 → c < 256 → d < 256 → length (dotted_text a b c d) ≤ 15
dotted_is_short a b c d ha hb hc hd =
    let short : (n : ℕ) → n < 256 → length (decimal n) ≤ 3 = λ n h. length-decimal-le 3 n (lit< tt) (omega arith) (omega arith) in
    let one = short a ha in
    let two = short b hb in
    let three = short c hc in
    let four = short d hd in
    simp length-append (omega (arith, one, two, three, four))

address_is_short : (address : SocketAddrV4) → IsAddress address → length (ipv4_text (ipv4_octets (v4_ip address))) ≤ 15
address_is_short address valid =
    let p = parts_of address valid in
    subst (λ (t : List ℕ). length t ≤ 15) (sym (text_of (ipv4_octets (v4_ip address)) p)) (dotted_is_short p.a p.b p.c p.d p.fit.0 p.fit.1 p.fit.2 p.fit.3)

port_is_short : (address : SocketAddrV4) → IsAddress address → length (decimal (v4_port address)) ≤ 5
port_is_short address valid = let fits = valid.port_fits in length-decimal-le 5 (v4_port address) (lit< tt) (omega arith) (omega arith)

line_is_short : (client destination : SocketAddrV4) → IsAddress client → IsAddress destination → length (client_line client destination) ≤ line_limit
line_is_short client destination one two =
    let source = ipv4_text (ipv4_octets (v4_ip client)) in
    let target = ipv4_text (ipv4_octets (v4_ip destination)) in
    let port = decimal (v4_port client) in
    let other = decimal (v4_port destination) in
    let sizes : length (client_line client destination) ≡ (11 + (length source + (1 + (length target + (1 + (length port + (1 + length other))))))) + 2 = sum source target port other in
    let first = address_is_short client one in
    let second = address_is_short destination two in
    let third = port_is_short client one in
    let fourth = port_is_short destination two in
    omega (arith, sizes, first, second, third, fourth)
  where
    sum : (source target port other : List ℕ)
        → length ((codes "PROXY TCP4 " ++ (source ++ (codes " " ++ (target ++ (codes " " ++ (port ++ (codes " " ++ other))))))) ++ crlf)
        ≡ (11 + (length source + (1 + (length target + (1 + (length port + (1 + length other))))))) + 2
    sum source target port other =
        omega (
          arith,
          length-append (codes "PROXY TCP4 " ++ (source ++ (codes " " ++ (target ++ (codes " " ++ (port ++ (codes " " ++ other))))))) crlf,
          length-append (codes "PROXY TCP4 ") (source ++ (codes " " ++ (target ++ (codes " " ++ (port ++ (codes " " ++ other)))))),
          length-append source (codes " " ++ (target ++ (codes " " ++ (port ++ (codes " " ++ other))))),
          length-append (codes " ") (target ++ (codes " " ++ (port ++ (codes " " ++ other)))),
          length-append target (codes " " ++ (port ++ (codes " " ++ other))),
          length-append (codes " ") (port ++ (codes " " ++ other)),
          length-append port (codes " " ++ other),
          length-append (codes " ") other,
        )

pub client_line_is_header : ClientLineIsHeader
client_line_is_header client destination one two = inl (record {
  line = codes "PROXY TCP4 " ++ client_words client destination;
  header_is = refl;
  one_line = no_crlf (codes "PROXY TCP4 " ++ client_words client destination) (no_cr_in_line client destination one two);
  short = line_is_short client destination one two;
  says = (client_words client destination, refl, writes_client client destination one two);
})

-- version 2
two_of : (octets : List ℕ) → length octets ≡ 2 → octets ≡ get_or octets 0 0 ∷ get_or octets 1 0 ∷ []
two_of [] two = absurd (omega arith)
two_of (a ∷ []) two = absurd (omega arith)
two_of (a ∷ b ∷ []) two = refl
two_of (a ∷ b ∷ c ∷ octets) two = absurd (omega arith)

writes_ipv4 : (client destination : SocketAddrV4) (more : List ℕ) → IsAddress client → IsAddress destination → WritesIpv4 (client_fields client destination more) client
writes_ipv4 client destination more one two =
    let source = ipv4_octets (v4_ip client) in
    let target = ipv4_octets (v4_ip destination) in
    let port = to_be_bytes w16 (v4_port client) in
    let last = to_be_bytes w16 (v4_port destination) ++ more in
    let two_ports : (length port ≡ 2) × (length (to_be_bytes w16 (v4_port destination)) ≡ 2) = (refl, refl) in
    let both : length (source ++ target) ≡ 8 = length-append source target ∙ omega (arith, one.four, two.four) in
    let after : drop 8 (client_fields client destination more) ≡ port ++ last = ap (λ (l : List ℕ). drop 8 l) (sym (append_assoc source target (port ++ last))) ∙ drop_at (source ++ target) (port ++ last) 8 both in
    let port_there : take 2 (drop 8 (client_fields client destination more)) ≡ port = ap (λ (l : List ℕ). take 2 l) after ∙ take_at port last 2 refl in
    record {
      whole = omega (arith, two_ports.0, two_ports.1, one.four, two.four, length-append source (target ++ (port ++ last)), length-append target (port ++ last), length-append port last, length-append (to_be_bytes w16 (v4_port destination)) more);
      address_is = sym (take_at source (target ++ (port ++ last)) 4 one.four);
      port_is = sym (from_be_bytes-to_be_bytes_2 (v4_port client) one.port_fits) ∙ ap (λ (l : List ℕ). from_be_bytes w16 l) (sym port_there);
    }

fields_length : (client destination : SocketAddrV4) (more : List ℕ) → IsAddress client → IsAddress destination → length (client_fields client destination more) ≡ 12 + length more
fields_length client destination more one two =
    let source = ipv4_octets (v4_ip client) in
    let target = ipv4_octets (v4_ip destination) in
    let port = to_be_bytes w16 (v4_port client) in
    let other = to_be_bytes w16 (v4_port destination) in
    let two_ports : (length port ≡ 2) × (length other ≡ 2) = (refl, refl) in
    omega (arith, two_ports.0, two_ports.1, one.four, two.four, length-append source (target ++ (port ++ (other ++ more))), length-append target (port ++ (other ++ more)), length-append port (other ++ more), length-append other more)

pub client_block_is_header : ClientBlockIsHeader
client_block_is_header client destination more one two few =
    let size = to_be_bytes w16 (12 + length more) in
    let rest = client_fields client destination more in
    let count = fields_length client destination more one two in
    let pair = two_of size refl in
    let value : two_octets (get_or size 0 0) (get_or size 1 0) ≡ 12 + length more = ap (λ (l : List ℕ). from_be_bytes w16 l) (sym pair) ∙ from_be_bytes-to_be_bytes_2 (12 + length more) (omega arith) in
    inr (record {
      command = 0x21;
      family = 0x11;
      high = get_or size 0 0;
      low = get_or size 1 0;
      rest = rest;
      header_is = ap (λ (l : List ℕ). signature ++ (0x21 ∷ 0x11 ∷ (l ++ rest))) pair;
      whole = count ∙ sym value;
      short = omega (arith, count);
      says = (refl, refl, writes_ipv4 client destination more one two);
    })
