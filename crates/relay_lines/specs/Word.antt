-- Words of a command line (RFC 5321, sections 2.4 and 4.1.1): how a line, without its CR LF, falls
-- into parts.
use Rattle.std.specs.Prelude.{◌≡◌, ◌↔◌, ℕ, ◌-◌, ◌≤◌, ◌==◌, nat_lt, Bool, IsTrue, not, ◌&&◌, ◌||◌, ◌⊎◌, List, [], ◌++◌}
use Rattle.std.specs.Prelude.{codes, length, take, drop, slice_index, slice_range, Option, Some, None, if◌then◌else◌}
use Rattle.std.specs.List.{list_all, position_or_len, prefix_len, suffix_len, AllPass}
use Rattle.std.specs.Int.{is_in_range}
use Rattle.std.specs.Char.{is_ascii_alphanumeric}
use Rattle.std.specs.Str.{str_eq_ignore_ascii_case}
use Rattle.relay_octets.specs.LetterCase.{IsSameWord}

-- SP
abbrev pub is_space : ℕ → Bool
is_space octet = octet == 32

-- not SP
abbrev pub is_no_space : ℕ → Bool
is_no_space octet = not (is_space octet)

-- SP or HTAB
abbrev pub is_blank : ℕ → Bool
is_blank octet = octet == 32 || octet == 9

-- profile: an octet that a command line may hold, from SP to `~`
abbrev pub is_printable : ℕ → Bool
is_printable octet = is_in_range 32 126 octet

-- profile: an octet that isn't printable stands as `?` where it is shown or kept
abbrev pub shown : ℕ → ℕ
shown octet = if is_printable octet then octet else 63

-- a letter, a digit, `-` or `.` (section 4.1.2); profile: `_` too
abbrev pub is_domain_octet : ℕ → Bool
is_domain_octet octet = is_ascii_alphanumeric octet || octet == 45 || octet == 46 || octet == 95

-- profile: an octet of an address literal (section 4.1.3) is one of a domain, or `:`
abbrev pub is_literal_octet : ℕ → Bool
is_literal_octet octet = is_domain_octet octet || octet == 58

-- each octet is printable
unfoldable pub are_printable : List ℕ → Bool
are_printable text = list_all is_printable text

-- each octet is one of a domain
unfoldable pub are_domain_octets : List ℕ → Bool
are_domain_octets text = list_all is_domain_octet text

-- each octet is one of an address literal
unfoldable pub are_literal_octets : List ℕ → Bool
are_literal_octets text = list_all is_literal_octet text

-- the line without the spaces and tabs before its CR LF (section 4.1.1: trailing white space is
-- tolerated)
unfoldable pub without_trailing_blanks : List ℕ → List ℕ
without_trailing_blanks line = take (length line - suffix_len is_blank line) line

-- how many octets stand before the first space
unfoldable pub word_len : List ℕ → ℕ
word_len text = position_or_len is_space text

-- how many spaces a text begins with
unfoldable pub space_len : List ℕ → ℕ
space_len text = prefix_len is_space text

-- what is before the first space
unfoldable pub first_word : List ℕ → List ℕ
first_word text = take (word_len text) text

-- profile: what is after the first word and the spaces after it, where one may be several
unfoldable pub argument_of : List ℕ → List ℕ
argument_of text = let after = drop (word_len text) text in drop (space_len after) after

-- the text is this word, in any letter case (section 2.4)
unfoldable pub is_word : List ℕ → List ℕ → Bool
is_word text word = str_eq_ignore_ascii_case text word

-- what is after a keyword, where the text begins with it, in any letter case
unfoldable pub after_keyword : List ℕ → List ℕ → Option (List ℕ)
after_keyword keyword text =
    if is_word (take (length keyword) text) keyword then Some (drop (length keyword) text) else None

-- profile: `[`, octets of an address literal or none, `]`
unfoldable pub is_address_literal : List ℕ → Bool
is_address_literal text =
    nat_lt 1 (length text) && slice_index text 0 == 91 && slice_index text (length text - 1) == 93
    && are_literal_octets (slice_range text 1 (length text - 1))

-- the word of HELO: 1 to 255 octets (section 4.5.3.1.2) of a domain, or an address literal
unfoldable pub is_host_word : List ℕ → Bool
is_host_word text = is_in_range 1 255 (length text) && (are_domain_octets text || is_address_literal text)

-- the line is a word, spaces, an argument, and spaces and tabs at its end; an argument is after a space
pub record SplitsLine (line word argument : List ℕ) : Type 0 where
  pub spaces : List ℕ
  pub blanks : List ℕ
  pub line_is : line ≡ word ++ spaces ++ argument ++ blanks
  pub word_has_no_space : AllPass is_no_space word
  pub are_spaces : AllPass is_space spaces
  pub are_blanks : AllPass is_blank blanks
  pub apart : spaces ≡ [] → argument ≡ []
  pub argument_begins_with_no_space : prefix_len is_space argument ≡ 0
  pub text_ends_in_no_blank : suffix_len is_blank (word ++ spaces ++ argument) ≡ 0

-- the text is this keyword, in any letter case, and the rest
pub record BeginsWithKeyword (text keyword rest : List ℕ) : Type 0 where
  pub front : List ℕ
  pub same : IsSameWord front keyword
  pub text_is : text ≡ front ++ rest

-- the text is an address literal
pub record IsAddressLiteral (text : List ℕ) : Type 0 where
  pub inner : List ℕ
  pub text_is : text ≡ codes "[" ++ inner ++ codes "]"
  pub octets : AllPass is_literal_octet inner

-- the text is the word of HELO
pub record IsHostWord (text : List ℕ) : Type 0 where
  pub not_empty : 1 ≤ length text
  pub within : length text ≤ 255
  pub form : AllPass is_domain_octet text ⊎ IsAddressLiteral text

-- The test of an address literal passes exactly at one.
abbrev pub AddressLiteralIsTested : Type 0
AddressLiteralIsTested = (text : List ℕ) → IsTrue (is_address_literal text) ↔ IsAddressLiteral text

-- The test of a host word passes exactly at one.
abbrev pub HostWordIsTested : Type 0
HostWordIsTested = (text : List ℕ) → IsTrue (is_host_word text) ↔ IsHostWord text
