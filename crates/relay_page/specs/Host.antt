-- The Host field of a request (RFC 9110, section 7.2), which says by which name the page is requested.
use Rattle.std.specs.Prelude.{ℕ, ◌==◌, Bool, true, ◌&&◌, ◌||◌, List, [], ◌∷◌, codes, length, take, drop}
use Rattle.std.specs.List.{list_all}
use Rattle.std.specs.Char.{is_ascii_digit}
use Rattle.relay_lines.specs.Word.{is_word}

-- nothing, or a colon and a port: [ ":" port ], where port = *DIGIT (RFC 3986, section 3.2.3)
abbrev pub is_port : List ℕ → Bool
is_port [] = true
is_port (octet ∷ digits) = octet == 58 && list_all is_ascii_digit digits

-- a name, in any letter case, with or without a port
abbrev pub is_host : List ℕ → List ℕ → Bool
is_host name text = is_word (take (length name) text) name && is_port (drop (length name) text)

-- profile: the page is requested by a name that means this machine alone, so that a page of another site can't have a
-- browser read it under that site's name (DNS rebinding)
abbrev pub is_loopback : List ℕ → Bool
is_loopback text =
    is_host (codes "localhost") text || is_host (codes "127.0.0.1") text || is_host (codes "[::1]") text
