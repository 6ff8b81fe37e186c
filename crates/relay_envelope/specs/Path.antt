-- Paths (RFC 5321, section 4.1.2): the null reverse path, the postmaster's, and mailboxes with or without a source
-- route.
use Rattle.std.specs.Prelude.{◌≡◌, ℕ, ◌≤◌, Bool, true, false, List, [], ◌∷◌, ◌++◌, length, Option, Some, None}
use Rattle.std.specs.Prelude.{if◌then◌else◌}
use Rattle.std.specs.List.{AllPass, after_last, list_any}
use Rattle.std.specs.Ffi.{without_last}
use Rattle.relay_lines.specs.Word.{is_space}
use Rattle.relay_envelope.specs.Mailbox.{IsMailbox, IsPostmaster, address_text, in_brackets, is_at, mailbox_text}
use Rattle.relay_envelope.specs.declared.path.Path.{Path as Sliced}
use Rattle.relay_envelope.specs.declared.path.Path.TheVariants as sliced

-- the null reverse path; the postmaster's, by the word that came; or a mailbox: its source route, local part and domain
pub data Path : Type 0 where
  Null : Path
  Postmaster : List ℕ → Path
  Mailbox : List ℕ → List ℕ → List ℕ → Path

-- what is between a path's brackets
abbrev pub body_of : Path → List ℕ
body_of Null = []
body_of (Postmaster word) = word
body_of (Mailbox route local domain) = route ++ address_text local domain

-- a path as it is written
abbrev pub path_text : Path → List ℕ
path_text path = in_brackets (body_of path)

-- a path has at most 256 octets with its brackets (section 4.5.3.1.3)
abbrev pub IsPath : Path → Type 0
IsPath Null = Unit {0}
IsPath (Postmaster word) = IsPostmaster word
IsPath (Mailbox route local domain) =
    IsMailbox route local domain × (length (mailbox_text route local domain) ≤ 256)

-- nothing follows, or a space does
abbrev pub stands_apart : List ℕ → Bool
stands_apart [] = true
stands_apart (octet ∷ octets) = is_space octet

-- the text begins with this path, and the rest doesn't touch its `>`; profile: spaces may stand before the path
pub record BeginsWithPath (text : List ℕ) (path : Path) (rest : List ℕ) : Type 0 where
  pub spaces : List ℕ
  pub are_spaces : AllPass is_space spaces
  pub text_is : text ≡ spaces ++ path_text path ++ rest
  pub valid : IsPath path
  pub apart : stands_apart rest ≡ true

-- Reverse-path: in MAIL a path is null or a mailbox
abbrev pub is_reverse : Path → Bool
is_reverse Null = true
is_reverse (Postmaster word) = false
is_reverse (Mailbox route local domain) = true

-- Forward-path: in RCPT a path is the postmaster's or a mailbox
abbrev pub is_forward : Path → Bool
is_forward Null = false
is_forward (Postmaster word) = true
is_forward (Mailbox route local domain) = true

-- the domain of a mailbox, and other paths have none
abbrev pub domain_of : Path → Option (List ℕ)
domain_of Null = None
domain_of (Postmaster word) = None
domain_of (Mailbox route local domain) = Some domain

-- the domain in a path as it is stored: what is after its last `@`, but for the octet at its end
abbrev pub domain_in : List ℕ → Option (List ℕ)
domain_in text = if list_any is_at text then Some (without_last (after_last is_at text)) else None

-- the octets of a path that the code answers
abbrev pub value_of : Sliced → Path
value_of sliced.Null = Null
value_of (sliced.Postmaster postmaster) = Postmaster postmaster.word.now
value_of (sliced.Mailbox mailbox) = Mailbox mailbox.route.now mailbox.local.now mailbox.domain.now

-- A text begins with at most one path, and one rest follows it.
abbrev pub PathIsOne : Type 0
PathIsOne =
    (text : List ℕ) (path : Path) (rest : List ℕ) (other : Path) (more : List ℕ)
    → BeginsWithPath text path rest → BeginsWithPath text other more → (path ≡ other) × (rest ≡ more)

-- The domain in a path as it is stored is the path's.
abbrev pub DomainInIsDomainOf : Type 0
DomainInIsDomainOf = (path : Path) → IsPath path → domain_in (path_text path) ≡ domain_of path
