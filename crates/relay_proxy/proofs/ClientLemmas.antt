-- What a line says is said in one way.
use Rattle.std.proofs.Common.{◌≡◌, ◌≢◌, ℕ, List, ◌++◌, codes, length, get_or, refl, sym, ap, subst, ◌∙◌, arith, inl, inr, ◌≤◌, length-append}
use Rattle.std.specs.Net.Socket.{v4_ip, v4_port}
use Rattle.std.specs.declared.net.ipv4_addr.Ipv4Addr.{Ipv4Addr}
use Rattle.std.specs.declared.net.socket_addr.SocketAddrV4.{SocketAddrV4}
use Rattle.std.proofs.lemmas.List.{append_cancel_left}
use Rattle.relay_proxy.specs.Word.{HasNoAddress, HasNoPort, HasNoPortWord, IsPort, ReadsAddress, ReadsPort}
use Rattle.relay_proxy.specs.HeaderLine.{HasNoClient, HasNoSource, SaysOfLine, WritesClient}
use Rattle.relay_proxy.specs.declared.source.Source.{Source}
use Rattle.relay_proxy.specs.declared.source.Source.TheVariants.{Own, Client, Other}
use Rattle.relay_proxy.proofs.WordLemmas.{address_is_one, port_word_is_one}

-- the addresses and ports of a client
pub no_source_address : (text : List ℕ) → HasNoAddress text → HasNoClient text
no_source_address text lacks = record { none = λ client w. lacks.none (v4_ip client) w.after_source w.source_is }

pub no_destination : (text rest : List ℕ) (address : Ipv4Addr) → ReadsAddress text address rest → HasNoAddress rest → HasNoClient text
no_destination text rest address reads lacks = record {
  none = λ client w.
      let (same, rests) = address_is_one text (v4_ip client) address w.after_source rest w.source_is reads in
      lacks.none w.destination w.after_destination (subst (λ (t : List ℕ). ReadsAddress t w.destination w.after_destination) rests w.destination_is);
}

after_both : (text rest last : List ℕ) (source destination : Ipv4Addr) (client : SocketAddrV4) → ReadsAddress text source rest → ReadsAddress rest destination last
    → (w : WritesClient text client) → (v4_ip client ≡ source) × (w.after_destination ≡ last)
after_both text rest last source destination client reads other w =
    let (same, rests) = address_is_one text (v4_ip client) source w.after_source rest w.source_is reads in
    let (again, lasts) = address_is_one rest w.destination destination w.after_destination last (subst (λ (t : List ℕ). ReadsAddress t w.destination w.after_destination) rests w.destination_is) other in
    (same, lasts)

pub no_client_port : (text rest last : List ℕ) (source destination : Ipv4Addr) → ReadsAddress text source rest → ReadsAddress rest destination last
    → HasNoPortWord last → HasNoClient text
no_client_port text rest last source destination reads other lacks = record {
  none = λ client w.
      let (same, lasts) = after_both text rest last source destination client reads other w in
      lacks.none (v4_port client) w.last (subst (λ (t : List ℕ). ReadsPort t (v4_port client) w.last) lasts w.port_is);
}

pub no_last_port : (text rest last end : List ℕ) (source destination : Ipv4Addr) (port : ℕ) → ReadsAddress text source rest
    → ReadsAddress rest destination last → ReadsPort last port end → HasNoPort end → HasNoClient text
no_last_port text rest last end source destination port reads other after lacks = record {
  none = λ client w.
      let (same, lasts) = after_both text rest last source destination client reads other w in
      let (ports, ends) = port_word_is_one last (v4_port client) port w.last end (subst (λ (t : List ℕ). ReadsPort t (v4_port client) w.last) lasts w.port_is) after in
      lacks.none w.destination_port (subst (λ (t : List ℕ). IsPort t w.destination_port) ends w.last_is);
}

pub client_by : (one two : SocketAddrV4) → v4_ip one ≡ v4_ip two → v4_port one ≡ v4_port two → one ≡ two
client_by one two ip port = λ j. record { ip = ip j; port = port j }

client_is_one : (text : List ℕ) (one two : SocketAddrV4) → WritesClient text one → WritesClient text two → one ≡ two
client_is_one text one two p q =
    let (ips, lasts) = after_both text q.after_source q.after_destination (v4_ip two) q.destination one q.source_is q.destination_is p in
    let (ports, ends) = port_word_is_one q.after_destination (v4_port one) (v4_port two) p.last q.last (subst (λ (t : List ℕ). ReadsPort t (v4_port one) p.last) lasts p.port_is) q.port_is in
    client_by one two ips ports

-- lines whose octets differ at a place
differ : (one other : List ℕ) (place a b : ℕ) → one ≡ other → get_or one place 0 ≡ a → get_or other place 0 ≡ b → a ≢ b → ⊥
differ one other place a b same here there apart = apart (sym here ∙ ap (λ (l : List ℕ). get_or l place 0) same ∙ there)

tcp4_is_no_tcp6 : (text more : List ℕ) → codes "PROXY TCP4 " ++ text ≡ codes "PROXY TCP6 " ++ more → ⊥
tcp4_is_no_tcp6 text more same = differ _ _ 9 52 54 same refl refl (λ e. absurd (omega arith))

tcp4_is_not_unknown : (text : List ℕ) → codes "PROXY TCP4 " ++ text ≡ codes "PROXY UNKNOWN" → ⊥
tcp4_is_not_unknown text same = differ _ _ 6 84 85 same refl refl (λ e. absurd (omega arith))

tcp4_is_not_unknown_with : (text more : List ℕ) → codes "PROXY TCP4 " ++ text ≡ codes "PROXY UNKNOWN " ++ more → ⊥
tcp4_is_not_unknown_with text more same = differ _ _ 6 84 85 same refl refl (λ e. absurd (omega arith))

tcp6_is_not_unknown : (text : List ℕ) → codes "PROXY TCP6 " ++ text ≡ codes "PROXY UNKNOWN" → ⊥
tcp6_is_not_unknown text same = differ _ _ 6 84 85 same refl refl (λ e. absurd (omega arith))

tcp6_is_not_unknown_with : (text more : List ℕ) → codes "PROXY TCP6 " ++ text ≡ codes "PROXY UNKNOWN " ++ more → ⊥
tcp6_is_not_unknown_with text more same = differ _ _ 6 84 85 same refl refl (λ e. absurd (omega arith))

-- a line of TCP4 without a client says nothing
pub no_tcp4 : (line text : List ℕ) → line ≡ codes "PROXY TCP4 " ++ text → HasNoClient text → HasNoSource line
no_tcp4 line text is lacks = record { none = by }
  where
    by : (source : Source) → SaysOfLine line source → ⊥
    by Own (inl says) = tcp4_is_not_unknown text (sym is ∙ says)
    by Own (inr (ignored, says)) = tcp4_is_not_unknown_with text ignored (sym is ∙ says)
    by (Client client) (other, says, writes) =
        lacks.none client (subst (λ (t : List ℕ). WritesClient t client) (append_cancel_left (codes "PROXY TCP4 ") other text (sym says ∙ is)) writes)
    by Other (ignored, says) = tcp4_is_no_tcp6 text ignored (sym is ∙ says)

-- a line says one thing
pub source_is_one : (line : List ℕ) (one two : Source) → SaysOfLine line one → SaysOfLine line two → one ≡ two
source_is_one line Own Own p q = refl
source_is_one line Own (Client client) (inl p) (text, q, w) = absurd (tcp4_is_not_unknown text (sym q ∙ p))
source_is_one line Own (Client client) (inr (ignored, p)) (text, q, w) = absurd (tcp4_is_not_unknown_with text ignored (sym q ∙ p))
source_is_one line Own Other (inl p) (text, q) = absurd (tcp6_is_not_unknown text (sym q ∙ p))
source_is_one line Own Other (inr (ignored, p)) (text, q) = absurd (tcp6_is_not_unknown_with text ignored (sym q ∙ p))
source_is_one line (Client client) Own (text, p, w) (inl q) = absurd (tcp4_is_not_unknown text (sym p ∙ q))
source_is_one line (Client client) Own (text, p, w) (inr (ignored, q)) = absurd (tcp4_is_not_unknown_with text ignored (sym p ∙ q))
source_is_one line (Client one) (Client two) (text, p, w) (other, q, v) =
    let same : text ≡ other = append_cancel_left (codes "PROXY TCP4 ") text other (sym p ∙ q) in
    ap Client (client_is_one other one two (subst (λ (t : List ℕ). WritesClient t one) same w) v)
source_is_one line (Client client) Other (text, p, w) (ignored, q) = absurd (tcp4_is_no_tcp6 text ignored (sym p ∙ q))
source_is_one line Other Own (text, p) (inl q) = absurd (tcp6_is_not_unknown text (sym p ∙ q))
source_is_one line Other Own (text, p) (inr (ignored, q)) = absurd (tcp6_is_not_unknown_with text ignored (sym p ∙ q))
source_is_one line Other (Client client) (ignored, p) (text, q, w) = absurd (tcp4_is_no_tcp6 text ignored (sym q ∙ p))
source_is_one line Other Other p q = refl

-- and begins as each line does
pub line_begins : (line : List ℕ) (source : Source) → SaysOfLine line source → (rest : List ℕ) × (line ≡ codes "PROXY " ++ rest)
line_begins line Own (inl says) = (codes "UNKNOWN", says)
line_begins line Own (inr (ignored, says)) = (codes "UNKNOWN " ++ ignored, says)
line_begins line (Client client) (text, says, w) = (codes "TCP4 " ++ text, says)
line_begins line Other (ignored, says) = (codes "TCP6 " ++ ignored, says)

at_least : (line front rest : List ℕ) → line ≡ front ++ rest → length front ≤ length line
at_least line front rest is = omega (arith, ap length is, length-append front rest)

-- it has 11 octets at least
pub line_is_long : (line : List ℕ) (source : Source) → SaysOfLine line source → 11 ≤ length line
line_is_long line Own (inl says) = at_least line (codes "PROXY UNKNO") (codes "WN") says
line_is_long line Own (inr (ignored, says)) = at_least line (codes "PROXY UNKNO") (codes "WN " ++ ignored) says
line_is_long line (Client client) (text, says, w) = at_least line (codes "PROXY TCP4 ") text says
line_is_long line Other (ignored, says) = at_least line (codes "PROXY TCP6 ") ignored says
