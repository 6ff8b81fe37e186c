-- Mailboxes in brackets (RFC 5321, section 4.1.2), and the postmaster's path (section 4.1.1.3).
use Rattle.std.specs.Prelude.{◌≡◌, ℕ, ◌<◌, ◌==◌, Bool, true, false, ◌⊎◌, List, [], ◌∷◌, ◌++◌, codes, length}
use Rattle.std.specs.List.{list_any}
use Rattle.relay_octets.specs.LetterCase.{IsSameWord}
use Rattle.relay_lines.specs.Word.{are_domain_octets, IsAddressLiteral}
use Rattle.relay_envelope.specs.Row.{IsRow}

-- what is between brackets
abbrev pub in_brackets : List ℕ → List ℕ
in_brackets body = 60 ∷ body ++ 62 ∷ []

-- "Postmaster", in any letter case
abbrev pub IsPostmaster : List ℕ → Type 0
IsPostmaster word = IsSameWord word (codes "postmaster")

-- the text begins with `@`, as a source route does
abbrev pub begins_with_at : List ℕ → Bool
begins_with_at [] = false
begins_with_at (octet ∷ octets) = octet == 64

-- Local-part is not empty; profile: a row of plain octets and quoted strings
pub record IsLocalPart (local : List ℕ) : Type 0 where
  pub not_empty : 0 < length local
  pub is_row : IsRow 62 local

-- Domain; profile: letters, digits, `-`, `.` and `_`, and not empty
pub record IsDomainName (domain : List ℕ) : Type 0 where
  pub not_empty : 0 < length domain
  pub octets : are_domain_octets domain ≡ true

-- what is after the `@`: Domain, or address-literal (section 4.1.3)
abbrev pub IsDomain : List ℕ → Type 0
IsDomain domain = IsDomainName domain ⊎ IsAddressLiteral domain

-- A-d-l ":", a source route; profile: a row up to its first plain `:`
pub record IsSourceRoute (route : List ℕ) : Type 0 where
  pub row : List ℕ
  pub is_row : IsRow 58 row
  pub text_is : route ≡ 64 ∷ row ++ 58 ∷ []

-- the route before an address: a source route, or nothing if the address itself begins with no `@`
abbrev pub IsRoute : List ℕ → List ℕ → Type 0
IsRoute route address = IsSourceRoute route ⊎ ((route ≡ []) × (begins_with_at address ≡ false))

-- Local-part "@" Domain
abbrev pub address_text : List ℕ → List ℕ → List ℕ
address_text local domain = local ++ 64 ∷ domain

-- Path = "<" [ A-d-l ":" ] Mailbox ">"
abbrev pub mailbox_text : List ℕ → List ℕ → List ℕ → List ℕ
mailbox_text route local domain = in_brackets (route ++ address_text local domain)

-- a mailbox has a route, a local part and a domain
pub record IsMailbox (route local domain : List ℕ) : Type 0 where
  pub is_route : IsRoute route (address_text local domain)
  pub is_local_part : IsLocalPart local
  pub is_domain : IsDomain domain

-- the octet is `@`
abbrev pub is_at : ℕ → Bool
is_at octet = octet == 64

-- the octet is in the text
abbrev pub stands_in : ℕ → List ℕ → Bool
stands_in octet text = list_any (λ other. other == octet) text

-- the text is a front, the last of these octets, and a back
pub record SplitsAtLast (octet : ℕ) (text front back : List ℕ) : Type 0 where
  pub text_is : text ≡ front ++ octet ∷ back
  pub last : stands_in octet back ≡ false

-- the text is a row in brackets, and a back
pub record SplitsAfterBracket (text front back : List ℕ) : Type 0 where
  pub row : List ℕ
  pub is_row : IsRow 62 row
  pub front_is : front ≡ in_brackets row
  pub text_is : text ≡ front ++ back

-- the body is a route, and the address after it
pub record SplitsRoute (body route address : List ℕ) : Type 0 where
  pub text_is : body ≡ route ++ address
  pub is_route : IsRoute route address
