-- Headers of the PROXY protocol: what octets begin with.
use Rattle.std.specs.Prelude.{◌≡◌, ℕ, ◌-◌, ◌<◌, ◌≤◌, ◌⊎◌, List, ◌∷◌, ◌++◌, length, max, take}
use Rattle.relay_octets.specs.Beginning.{Begins}
use Rattle.relay_octets.specs.Line.{HasNoCrlf}
use Rattle.relay_proxy.specs.HeaderLine.{IsHeaderLine, line_limit, line_word}
use Rattle.relay_proxy.specs.Block.{IsBlock, rest_limit, signature, two_octets}
use Rattle.relay_proxy.specs.declared.header.Header.{Header}
use Rattle.relay_proxy.specs.declared.header.Reading.{Reading}
use Rattle.relay_proxy.specs.declared.header.Reading.TheVariants.{Found, Unfinished, Missing}
use Rattle.relay_proxy.specs.declared.source.Source.{Source}

-- the octets are a header, of version 1 or 2, that says this of the client
abbrev pub IsHeader : List ℕ → Source → Type 0
IsHeader header source = IsHeaderLine header source ⊎ IsBlock header source

-- octets of which more are waited for: a prefix of what each line or each block begins with; a line that hasn't ended;
-- a block whose length, or whose octets, aren't all there
pub data IsUnfinished (octets : List ℕ) : Type 0 where
  at_word : Begins octets line_word → IsUnfinished octets
  at_line : Begins line_word octets → HasNoCrlf octets → length octets < line_limit → IsUnfinished octets
  at_signature : Begins octets signature → IsUnfinished octets
  at_fields : (rest : List ℕ) → octets ≡ signature ++ rest → length rest < 4 → IsUnfinished octets
  at_rest : (command family high low : ℕ) (rest : List ℕ) → octets ≡ signature ++ (command ∷ family ∷ high ∷ low ∷ rest)
      → length rest < two_octets high low → two_octets high low ≤ rest_limit → IsUnfinished octets

-- the octets begin with this header
pub record IsFound (octets : List ℕ) (header : Header) : Type 0 where
  pub within : header.length ≤ length octets
  pub is : IsHeader (take header.length octets) header.source

-- more octets are waited for, and each header that begins with these has so many more at least
pub record IsBegun (octets : List ℕ) (count : ℕ) : Type 0 where
  pub unfinished : IsUnfinished octets
  pub some : 0 < count
  pub least : (more : List ℕ) (source : Source) → IsHeader (octets ++ more) source → count ≤ length more

-- the octets begin with no header, and no more are waited for
pub record IsNone (octets : List ℕ) : Type 0 where
  pub none : (header : List ℕ) (source : Source) → IsHeader header source → ¬ Begins header octets
  pub ended : ¬ IsUnfinished octets

-- what octets begin with
abbrev pub Reads : List ℕ → Reading → Type 0
Reads octets (Found header) = IsFound octets header
Reads octets (Unfinished count) = IsBegun octets count
Reads octets Missing = IsNone octets

-- this many octets are missing at least to a header of which these many are there: each has more than 12
abbrev pub least_left : ℕ → ℕ
least_left count = max 1 (12 - count)
