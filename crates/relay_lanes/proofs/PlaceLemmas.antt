-- The key of a place is one to one; and what holds of numbered places where one more is added.
use Rattle.std.proofs.Common.{◌≡◌, ◌⊎◌, inl, inr, ℕ, ◌<◌, zero, suc, eqb, cond, Bool, true, false, nat_eq, List, [], ◌∷◌, ◌++◌, length, get_or, Option, None, Some, option_map, refl, sym, ap, subst, ◌∙◌, arith}
use Rattle.std.specs.Prelude.{slice_get}
use Rattle.std.specs.Int.{w32, from_be_bytes, to_be_bytes}
use Rattle.std.specs.HashMap.{HashMap, get}
use Rattle.std.specs.Map.{lookup}
use Rattle.std.specs.Net.Addr.{ipv4_octets}
use Rattle.std.specs.Net.Socket.{IsSocketAddrV4, v4_ip, v4_port}
use Rattle.std.specs.declared.net.socket_addr.SocketAddrV4.{SocketAddrV4}
use Rattle.std.proofs.lemmas.Nat.{be_bytes_4}
use Rattle.std.proofs.lemmas.Bool.Decides.{eqb_tells}
use Rattle.relay_lanes.specs.Places.{AreNumbered, HasNone, key_of}

-- octets of one value are the same
same_octets : (one other : List ℕ) → length one ≡ 4 → length other ≡ 4 → ((k : ℕ) → get_or one k 0 < 256) → ((k : ℕ) → get_or other k 0 < 256) → from_be_bytes w32 one ≡ from_be_bytes w32 other → one ≡ other
same_octets one other four four-too fits fits-too same =
    sym (be_bytes_4 one (from_be_bytes w32 one) four fits refl) ∙ ap (to_be_bytes w32) same ∙ be_bytes_4 other (from_be_bytes w32 other) four-too fits-too refl

same_address : (one other : SocketAddrV4) → ipv4_octets (v4_ip one) ≡ ipv4_octets (v4_ip other) → v4_port one ≡ v4_port other → one ≡ other
same_address one other octets port = by (v4_port other) octets port where
  by : {a b : List ℕ} {m : ℕ} (n : ℕ) → a ≡ b → m ≡ n → ◌≡◌ {A = SocketAddrV4} (record { ip = record { octets = a }; port = m }) (record { ip = record { octets = b }; port = n })
  by n e f = cc (e, f)

-- the key of a place is one to one
pub key_is_one_to_one : (one other : SocketAddrV4) → IsSocketAddrV4 one → IsSocketAddrV4 other → key_of one ≡ key_of other → one ≡ other
key_is_one_to_one one other fits fits-too same =
    let port : v4_port one ≡ v4_port other = omega (arith, same, fits.1, fits-too.1) in
    let value : from_be_bytes w32 (ipv4_octets (v4_ip one)) ≡ from_be_bytes w32 (ipv4_octets (v4_ip other)) = omega (arith, same, fits.1, fits-too.1) in
    same_address one other (same_octets (ipv4_octets (v4_ip one)) (ipv4_octets (v4_ip other)) fits.0.0 fits-too.0.0 fits.0.1 fits-too.0.1 value) port

-- what a place found under a key is, where places are numbered
abbrev of_key : Option SocketAddrV4 → ℕ → Type 0
of_key found key = option_map key_of found ≡ Some key

module _ {S : Type 0} (numbers : HashMap ℕ ℕ S) (places : List SocketAddrV4) (numbered : AreNumbered numbers places) where
  -- the number that is found under the key of an address is the number of its place
  pub is_its_place : (at : SocketAddrV4) (number : ℕ) → IsSocketAddrV4 at → get nat_eq numbers (key_of at) ≡ Some number → slice_get places number ≡ Some at
  is_its_place at number fits found = by (slice_get places number) refl (numbered.only (key_of at) number found) where
    by : (place : Option SocketAddrV4) → slice_get places number ≡ place → of_key place (key_of at) → place ≡ Some at
    by None there key = absurd (cc key)
    by (Some place) there key = ap (λ place. Some place) (key_is_one_to_one place at (numbered.fits number place there) fits (cc key))

  -- what isn't found has no number
  pub has_none : (at : SocketAddrV4) → get nat_eq numbers (key_of at) ≡ None → HasNone places at
  has_none at none number there = absurd (cc (sym none ∙ numbered.found number at there))

  -- what has no number isn't found
  pub not_found : (at : SocketAddrV4) → IsSocketAddrV4 at → HasNone places at → get nat_eq numbers (key_of at) ≡ None
  not_found at fits none = by (get nat_eq numbers (key_of at)) refl where
    by : (found : Option ℕ) → get nat_eq numbers (key_of at) ≡ found → found ≡ None
    by None is = refl
    by (Some number) is = absurd (none number (is_its_place at number fits is))

-- what stands in a list with one place more
pushed : (places : List SocketAddrV4) (at : SocketAddrV4) (number : ℕ) (place : SocketAddrV4) → slice_get (places ++ at ∷ []) number ≡ Some place → ((number ≡ length places) × (place ≡ at)) ⊎ (slice_get places number ≡ Some place)
pushed [] at zero place there = inl (refl, cc there)
pushed [] at (suc number) place there = absurd (cc there)
pushed (first ∷ places) at zero place there = inr there
pushed (first ∷ places) at (suc number) place there = by (pushed places at number place there) where
  by : ((number ≡ length places) × (place ≡ at)) ⊎ (slice_get places number ≡ Some place) → ((suc number ≡ suc (length places)) × (place ≡ at)) ⊎ (slice_get places number ≡ Some place)
  by (inl same) = inl (ap suc same.0, same.1)
  by (inr before) = inr before

pub stays : (places : List SocketAddrV4) (at : SocketAddrV4) (number : ℕ) (place : SocketAddrV4) → slice_get places number ≡ Some place → slice_get (places ++ at ∷ []) number ≡ Some place
stays [] at number place there = absurd (cc there)
stays (first ∷ places) at zero place there = there
stays (first ∷ places) at (suc number) place there = stays places at number place there

pub is_last : (places : List SocketAddrV4) (at : SocketAddrV4) → slice_get (places ++ at ∷ []) (length places) ≡ Some at
is_last [] at = refl
is_last (first ∷ places) at = is_last places at

still_of_key : (places : List SocketAddrV4) (at : SocketAddrV4) (number key : ℕ) → of_key (slice_get places number) key → of_key (slice_get (places ++ at ∷ []) number) key
still_of_key places at number key is = by (slice_get places number) refl is where
  by : (place : Option SocketAddrV4) → slice_get places number ≡ place → of_key place key → of_key (slice_get (places ++ at ∷ []) number) key
  by None there key-is = absurd (cc key-is)
  by (Some place) there key-is = ap (option_map key_of) (stays places at number place there) ∙ key-is

-- a place that was not found has the next number
pub numbered_more : {S : Type 0} (numbers more : HashMap ℕ ℕ S) (places : List SocketAddrV4) (at : SocketAddrV4) → AreNumbered numbers places → IsSocketAddrV4 at → get nat_eq numbers (key_of at) ≡ None
    → ((key : ℕ) → get nat_eq more key ≡ cond (eqb (key_of at) key) (Some (length places)) (get nat_eq numbers key)) → AreNumbered more (places ++ at ∷ [])
numbered_more {S} numbers more places at numbered fits none updates = record { fits = still_fits; found = still_found; only = still_only } where
  still_fits : (number : ℕ) (place : SocketAddrV4) → slice_get (places ++ at ∷ []) number ≡ Some place → IsSocketAddrV4 place
  still_fits number place there = by (pushed places at number place there) where
    by : ((number ≡ length places) × (place ≡ at)) ⊎ (slice_get places number ≡ Some place) → IsSocketAddrV4 place
    by (inl same) = subst IsSocketAddrV4 (sym same.1) fits
    by (inr before) = numbered.fits number place before

  found_at : (key number : ℕ) → key ≡ key_of at → number ≡ length places → get nat_eq more key ≡ Some number
  found_at key number same is = by (eqb_tells (key_of at) key) where
    by : ((eqb (key_of at) key ≡ true) × (key_of at ≡ key)) ⊎ ((eqb (key_of at) key ≡ false) × (key_of at ≡ key → ⊥)) → get nat_eq more key ≡ Some number
    by (inl yes-is) = updates key ∙ ap (λ (is : Bool). cond is (Some (length places)) (get nat_eq numbers key)) yes-is.0 ∙ ap (λ (n : ℕ). Some n) (sym is)
    by (inr no-is) = absurd (no-is.1 (sym same))

  still_found : (number : ℕ) (place : SocketAddrV4) → slice_get (places ++ at ∷ []) number ≡ Some place → get nat_eq more (key_of place) ≡ Some number
  still_found number place there = by (pushed places at number place there) where
    by : ((number ≡ length places) × (place ≡ at)) ⊎ (slice_get places number ≡ Some place) → get nat_eq more (key_of place) ≡ Some number
    by (inl same) = found_at (key_of place) number (ap key_of same.1) same.0
    by (inr before) = other (eqb_tells (key_of at) (key_of place)) where
      other : ((eqb (key_of at) (key_of place) ≡ true) × (key_of at ≡ key_of place)) ⊎ ((eqb (key_of at) (key_of place) ≡ false) × (key_of at ≡ key_of place → ⊥)) → get nat_eq more (key_of place) ≡ Some number
      other (inl same) = absurd (cc (sym none ∙ ap (get nat_eq numbers) same.1 ∙ numbered.found number place before))
      other (inr apart) = updates (key_of place) ∙ ap (λ (is : Bool). cond is (Some (length places)) (get nat_eq numbers (key_of place))) apart.0 ∙ numbered.found number place before

  still_only : (key number : ℕ) → get nat_eq more key ≡ Some number → of_key (slice_get (places ++ at ∷ []) number) key
  still_only key number there = by (eqb_tells (key_of at) key) where
    by : ((eqb (key_of at) key ≡ true) × (key_of at ≡ key)) ⊎ ((eqb (key_of at) key ≡ false) × (key_of at ≡ key → ⊥)) → of_key (slice_get (places ++ at ∷ []) number) key
    by (inl same) =
        let is : number ≡ length places = cc (sym there ∙ updates key ∙ ap (λ (is : Bool). cond is (Some (length places)) (get nat_eq numbers key)) same.0) in
        ap (λ (n : ℕ). option_map key_of (slice_get (places ++ at ∷ []) n)) is ∙ ap (option_map key_of) (is_last places at) ∙ ap (λ (k : ℕ). Some k) same.1
    by (inr apart) = still_of_key places at number key (numbered.only key number (sym (ap (λ (is : Bool). cond is (Some (length places)) (get nat_eq numbers key)) apart.0) ∙ sym (updates key) ∙ there))

-- what is found under each key is the same
pub numbered_same : {S : Type 0} (numbers more : HashMap ℕ ℕ S) (places : List SocketAddrV4) → AreNumbered numbers places → more.entries ≡ numbers.entries → AreNumbered more places
numbered_same numbers more places numbered same = record {
  fits = numbered.fits;
  found = λ number place there. still (key_of place) ∙ numbered.found number place there;
  only = λ key number there. numbered.only key number (sym (still key) ∙ there);
} where
  still : (key : ℕ) → get nat_eq more key ≡ get nat_eq numbers key
  still key = ap (λ (entries : List (ℕ × ℕ)). lookup (nat_eq key) entries) same
