-- Networks and their texts.
use Rattle.std.proofs.Common.{◌≡◌, ℕ, ◌+◌, ◌<◌, ◌≤◌, ◌==◌, false, inl, inr, List, [], ◌∷◌, ◌++◌, codes, decimal, Option, None, Some, MatchOption, length, take, drop, get_or, zero, suc, add-one, lit≤, refl, sym, ap, ◌∙◌, subst, arith, append_assoc}
use Rattle.std.specs.Net.Addr.{ipv4_octets}
use Rattle.std.specs.Net.Grammar.{IsDotted, IsIpv4Text}
use Rattle.std.specs.declared.net.ipv4_addr.Ipv4Addr.{Ipv4Addr}
use Rattle.std.proofs.Math.Path.{PathP, to_path_p}
use Rattle.std.proofs.Props.{props}
use Rattle.std.proofs.lemmas.Bool.{false_from_ne_true, eqb-true}
use Rattle.std.proofs.lemmas.Bool.Decides.{nat_tests}
use Rattle.std.proofs.lemmas.Fmt.{decimal_injective}
use Rattle.memchr.specs.Find.{NoneBefore, Passes, is_byte}
use Rattle.toml.specs.Data.{Data, string}
use Rattle.relay_routes.specs.Prefix.{IsNetwork}
use Rattle.relay_routes.specs.Network.{GivesNetwork, IsNetworkAt, IsNetworkText, IsPrefixText}
use Rattle.relay_routes.specs.declared.network.Network.{Network}
use Rattle.relay_routes.proofs.AddressLemmas.{HasNo, dotted_is_one, has_no-dotted, split_is_one}

-- an address is read in one way
same_octets : (text one other : List ℕ) → IsDotted text one → IsDotted text other → one ≡ other
same_octets text one other p q =
    let (a, b, c, d) = dotted_is_one p.a p.b p.c p.d q.a q.b q.c q.d p.fit.0 p.fit.1 p.fit.2 p.fit.3 q.fit.0 q.fit.1 q.fit.2 q.fit.3 (sym p.spelled ∙ q.spelled) in
    p.value ∙ cc (a, b, c, d) ∙ sym q.value

-- and no "/" stands in it
no_slash : (text octets : List ℕ) → IsDotted text octets → HasNo 47 text
no_slash text octets p = subst (λ (t : List ℕ). HasNo 47 t) (sym p.spelled) (has_no-dotted 47 p.a p.b p.c p.d (lit≤ tt) refl p.fit.0 p.fit.1 p.fit.2 p.fit.3)

has_stop : (stop : ℕ) (front back : List ℕ) → HasNo stop (front ++ stop ∷ back) → ⊥
has_stop stop [] back none = let apart = none.0 in absurd (grind (arith, nat_tests, apart))
has_stop stop (octet ∷ front) back none = has_stop stop front back none.1

text_of_prefix : (text : List ℕ) (network : Network) (p : IsPrefixText text network) → text ≡ p.address ++ 47 ∷ decimal p.length
text_of_prefix text network p = p.text_is ∙ append_assoc p.address (codes "/") (decimal p.length)

-- what is read of an address and a length
pub network_at : (address : List ℕ) (prefix_length : ℕ) (first : Ipv4Addr) (result : Option Network) → IsIpv4Text address first
    → MatchOption result (¬ IsNetwork (ipv4_octets first) prefix_length) (λ network. (network.first ≡ first) × (network.prefix_length ≡ prefix_length))
    → MatchOption result ((network : Network) → ¬ IsNetworkAt address prefix_length network) (IsNetworkAt address prefix_length)
network_at address prefix_length first None is none = λ network at.
    let octets = same_octets address (ipv4_octets network.first) (ipv4_octets first) at.first is in
    none (subst (λ (o : List ℕ). IsNetwork o prefix_length) octets (subst (λ (n : ℕ). IsNetwork (ipv4_octets network.first) n) at.length_is network.valid))
network_at address prefix_length first (Some network) is (first_is, length_is) =
    record { first = subst (λ (a : Ipv4Addr). IsIpv4Text address a) (sym first_is) is; length_is = length_is }

-- a text in which no "/" stands writes an address alone
pub alone : (text : List ℕ) (result : Option Network) → HasNo 47 text
    → MatchOption result ((network : Network) → ¬ IsNetworkAt text 32 network) (IsNetworkAt text 32)
    → MatchOption result ((network : Network) → ¬ IsNetworkText text network) (IsNetworkText text)
alone text None none nowhere = λ network is. by network is
  where
    by : (network : Network) → IsNetworkText text network → ⊥
    by network (inl p) = has_stop 47 p.address (decimal p.length) (subst (λ (t : List ℕ). HasNo 47 t) (text_of_prefix text network p) none)
    by network (inr at) = nowhere network at
alone text (Some network) none at = inr at

-- no text writes a network where no number below 100 stands after its first "/"
pub no_length : (text address after : List ℕ) → text ≡ address ++ 47 ∷ after → HasNo 47 address → ((number : ℕ) → number < 100 → after ≡ decimal number → ⊥) → (network : Network) → ¬ IsNetworkText text network
no_length text address after text_is none nowhere network (inl p) =
    let (front, back) = split_is_one 47 address p.address after (decimal p.length) none (no_slash p.address (ipv4_octets network.first) p.is_at.first) (sym text_is ∙ text_of_prefix text network p) in
    let few = network.valid.short in
    let is = p.is_at.length_is in
    nowhere p.length (omega (arith, few, is)) back
no_length text address after text_is none nowhere network (inr at) =
    has_stop 47 address after (subst (λ (t : List ℕ). HasNo 47 t) text_is (no_slash text (ipv4_octets network.first) at.first))

-- an address, "/" and a length
pub prefixed : (text address after : List ℕ) (number : ℕ) (result : Option Network) → text ≡ address ++ 47 ∷ after → HasNo 47 address → number < 100 → after ≡ decimal number
    → MatchOption result ((network : Network) → ¬ IsNetworkAt address number network) (IsNetworkAt address number)
    → MatchOption result ((network : Network) → ¬ IsNetworkText text network) (IsNetworkText text)
prefixed text address after number None text_is none small is nowhere = λ network written. by network written
  where
    by : (network : Network) → IsNetworkText text network → ⊥
    by network (inl p) =
        let (front, back) = split_is_one 47 address p.address after (decimal p.length) none (no_slash p.address (ipv4_octets network.first) p.is_at.first) (sym text_is ∙ text_of_prefix text network p) in
        let few = network.valid.short in
        let length_is = p.is_at.length_is in
        let same : p.length ≡ number = decimal_injective p.length number (omega (arith, few, length_is)) (omega arith) (sym back ∙ is) in
        nowhere network (record { first = subst (λ (t : List ℕ). IsIpv4Text t network.first) (sym front) p.is_at.first; length_is = length_is ∙ same })
    by network (inr at) =
        has_stop 47 address after (subst (λ (t : List ℕ). HasNo 47 t) text_is (no_slash text (ipv4_octets network.first) at.first))
prefixed text address after number (Some network) text_is none small is at =
    inl (record { address = address; length = number; text_is = text_is ∙ ap (λ b. address ++ 47 ∷ b) is ∙ sym (append_assoc address (codes "/") (decimal number)); is_at = at })

-- a network is its first address and the length of its prefix
network_by : (one two : Network) → one.first ≡ two.first → one.prefix_length ≡ two.prefix_length → one ≡ two
network_by one two first prefix_length =
    let prop : (octets : List ℕ) (n : ℕ) → IsProp (IsNetwork octets n) = λ octets n. hlevel props in
    let valid : PathP (λ j. IsNetwork (ipv4_octets (first j)) (prefix_length j)) one.valid two.valid =
    to_path_p (λ j. IsNetwork (ipv4_octets (first j)) (prefix_length j)) (prop (ipv4_octets two.first) two.prefix_length _ two.valid) in
    λ j. record { first = first j; prefix_length = prefix_length j; valid = valid j }

address_by : (one two : Ipv4Addr) → ipv4_octets one ≡ ipv4_octets two → one ≡ two
address_by one two octets = λ j. record { octets = octets j }

-- a text writes one network
text_is_one : (text : List ℕ) (one two : Network) → IsNetworkText text one → IsNetworkText text two → one ≡ two
text_is_one text one two (inl p) (inl q) =
    let (front, back) = split_is_one 47 p.address q.address (decimal p.length) (decimal q.length) (no_slash p.address (ipv4_octets one.first) p.is_at.first) (no_slash q.address (ipv4_octets two.first) q.is_at.first) (sym (text_of_prefix text one p) ∙ text_of_prefix text two q) in
    let few = one.valid.short in
    let small = two.valid.short in
    let is = p.is_at.length_is in
    let at = q.is_at.length_is in
    let same : p.length ≡ q.length = decimal_injective p.length q.length (omega (arith, few, is)) (omega (arith, small, at)) back in
    let octets = same_octets q.address (ipv4_octets one.first) (ipv4_octets two.first) (subst (λ (t : List ℕ). IsIpv4Text t one.first) front p.is_at.first) q.is_at.first in
    network_by one two (address_by one.first two.first octets) (is ∙ same ∙ sym at)
text_is_one text one two (inl p) (inr b) =
    absurd (has_stop 47 p.address (decimal p.length) (subst (λ (t : List ℕ). HasNo 47 t) (text_of_prefix text one p) (no_slash text (ipv4_octets two.first) b.first)))
text_is_one text one two (inr a) (inl q) =
    absurd (has_stop 47 q.address (decimal q.length) (subst (λ (t : List ℕ). HasNo 47 t) (text_of_prefix text two q) (no_slash text (ipv4_octets one.first) a.first)))
text_is_one text one two (inr a) (inr b) =
    network_by one two (address_by one.first two.first (same_octets text (ipv4_octets one.first) (ipv4_octets two.first) a.first b.first)) (a.length_is ∙ sym b.length_is)

pub network_is_one : (value : Data) (one two : Network) → GivesNetwork value one → GivesNetwork value two → one ≡ two
network_is_one value one two a b =
    let same : string a.text ≡ string b.text = sym a.value_is ∙ b.value_is in
    let text : a.text ≡ b.text = cc same in
    text_is_one b.text one two (subst (λ (t : List ℕ). IsNetworkText t one) text a.is_text) b.is_text

-- a text parts at a place where an octet stands
parted_at : (text : List ℕ) (place stop : ℕ) → place < length text → get_or text place 0 ≡ stop → text ≡ take place text ++ stop ∷ drop (suc place) text
parted_at [] place stop within is = absurd (omega arith)
parted_at (octet ∷ text) zero stop within is = ap (λ o. o ∷ text) is
parted_at (octet ∷ text) (suc place) stop within is = ap (λ t. octet ∷ t) (parted_at text place stop (omega arith) is)

has_no_before : (stop : ℕ) (text : List ℕ) (place : ℕ) → place ≤ length text → ((k : ℕ) → k < place → get_or text k 0 == stop ≡ false) → HasNo stop (take place text)
has_no_before stop text zero within each = tt
has_no_before stop [] (suc place) within each = tt
has_no_before stop (octet ∷ text) (suc place) within each =
    (each 0 (omega arith), has_no_before stop text place (omega arith) (λ k below. each (suc k) (omega arith)))

-- what a search for "/" finds
pub slash_found : (text : List ℕ) (place : ℕ) → NoneBefore (Passes (is_byte 47) text) 0 (length text) place → Passes (is_byte 47) text place → text ≡ take place text ++ 47 ∷ drop (place + 1) text
slash_found text place none here =
    let high = none.high in
    rw add-one (parted_at text place 47 (omega (arith, high)) (eqb-true (get_or text place 0) 47 here))

pub none_before : (text : List ℕ) (place : ℕ) → NoneBefore (Passes (is_byte 47) text) 0 (length text) place → HasNo 47 (take place text)
none_before text place none =
    let high = none.high in
    has_no_before 47 text place (omega (arith, high)) (λ k below. false_from_ne_true (get_or text k 0 == 47) (λ h. none.before k (omega arith) below h))

has_no_through : (stop : ℕ) (text : List ℕ) → ((k : ℕ) → k < length text → get_or text k 0 == stop ≡ false) → HasNo stop text
has_no_through stop [] each = tt
has_no_through stop (octet ∷ text) each = (each 0 (omega arith), has_no_through stop text (λ k below. each (suc k) (omega arith)))

pub none_through : (text : List ℕ) → ((k : ℕ) → 0 ≤ k → k < length text → ¬ Passes (is_byte 47) text k) → HasNo 47 text
none_through text nowhere = has_no_through 47 text (λ k below. false_from_ne_true (get_or text k 0 == 47) (λ h. nowhere k (omega arith) below h))

-- what a value's text is read as
pub read_of_text : (value : Data) (text : List ℕ) (result : Option Network) → value ≡ string text
    → MatchOption result ((network : Network) → ¬ IsNetworkText text network) (IsNetworkText text)
    → MatchOption result ((network : Network) → ¬ GivesNetwork value network) (GivesNetwork value)
read_of_text value text None value_is none = λ network gives.
    let same : string gives.text ≡ string text = sym gives.value_is ∙ value_is in
    let is : gives.text ≡ text = cc same in
    none network (subst (λ (t : List ℕ). IsNetworkText t network) is gives.is_text)
read_of_text value text (Some network) value_is is_text = record { text = text; value_is = value_is; is_text = is_text }
