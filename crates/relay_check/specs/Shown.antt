-- What a finding shows of a value.
use Rattle.std.specs.Prelude.{◌≡◌, ℕ, ◌≤◌, Bool, true, List, length}
use Rattle.std.specs.Int.{is_in_range}
use Rattle.std.specs.List.{list_all}

-- an octet from SP to `~`, which a terminal prints and doesn't obey
abbrev pub is_printable : ℕ → Bool
is_printable octet = is_in_range 32 126 octet

-- printable octets, 160 at most
pub record IsShown (text : List ℕ) : Type 0 where
  pub printable : list_all is_printable text ≡ true
  pub short : length text ≤ 160
