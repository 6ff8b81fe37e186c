-- What a server offers (RFC 5321, section 4.1.1.1): the first word of each line of its reply to EHLO after the first
-- line.
use Rattle.std.specs.Prelude.{ℕ, Bool, false, ◌||◌, List, [], ◌∷◌, codes}
use Rattle.relay_lines.specs.Reply.{Reply}
use Rattle.relay_lines.specs.Word.{first_word, is_word}
use Rattle.relay_course.specs.declared.extensions.Extensions.{Extensions}

-- one of the lines begins with this keyword, in any letter case (section 2.4); profile: a word ends at a space
abbrev pub offers : List ℕ → List (List ℕ) → Bool
offers keyword [] = false
offers keyword (line ∷ lines) = is_word (first_word line) keyword || offers keyword lines

-- the lines after the first, which is the server's name and a greeting
abbrev pub after_first : List (List ℕ) → List (List ℕ)
after_first [] = []
after_first (line ∷ lines) = lines

-- what lines offer: PIPELINING (RFC 2920), CHUNKING (RFC 3030) and DSN (RFC 3461)
abbrev pub extensions_in : List (List ℕ) → Extensions
extensions_in lines = record {
  pipelining = offers (codes "PIPELINING") lines;
  chunking = offers (codes "CHUNKING") lines;
  dsn = offers (codes "DSN") lines;
}

-- what a reply to EHLO offers
abbrev pub extensions_of : Reply → Extensions
extensions_of reply = extensions_in (after_first reply.lines)

-- a server that has answered no EHLO offers nothing
abbrev pub no_extensions : Extensions
no_extensions = record { pipelining = false; chunking = false; dsn = false }
