-- NUL in a content: mail data may hold each of the 128 codes of ASCII, but should have no control characters other than
-- SP, HT, CR and LF, since they cause problems (RFC 5321, section 4.1.1.4).
use Rattle.std.specs.Prelude.{ℕ, Bool, ◌==◌, List}
use Rattle.std.specs.List.{list_any}

-- NUL is among the octets
abbrev pub has_nul : List ℕ → Bool
has_nul octets = list_any (λ octet. octet == 0) octets
