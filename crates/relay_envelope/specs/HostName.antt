-- The names of hosts (RFC 5321, sections 2.3.5 and 4.5.3.1.2).
use Rattle.std.specs.Prelude.{ℕ, ◌<◌, ◌≤◌, Bool, ◌||◌, ◌==◌, List, length}
use Rattle.std.specs.List.{AllPass}
use Rattle.std.specs.Char.{is_ascii_alphanumeric}
use Rattle.relay_octets.specs.Line.{HasNoCrlf}
use Rattle.relay_lines.specs.Word.{IsHostWord}

-- profile: a letter, a digit, `-` or `.`
abbrev pub is_host_octet : ℕ → Bool
is_host_octet octet = is_ascii_alphanumeric octet || octet == 45 || octet == 46

-- the name of a host has at most 255 octets (section 4.5.3.1.2); profile: each is one of these
pub record IsHostName (host : List ℕ) : Type 0 where
  pub some_octet : 0 < length host
  pub few_octets : length host ≤ 255
  pub octets : AllPass is_host_octet host

-- The name of a host is a word of HELO.
abbrev pub HostNameIsHostWord : Type 0
HostNameIsHostWord = (host : List ℕ) → IsHostName host → IsHostWord host

-- No CR LF is in a word of HELO.
abbrev pub HostWordHasNoCrlf : Type 0
HostWordHasNoCrlf = (word : List ℕ) → IsHostWord word → HasNoCrlf word
