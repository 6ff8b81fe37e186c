-- Words of a line of a script: nodes, numbers, counts of nodes and times.
use Rattle.std.specs.Prelude.{◌≡◌, ℕ, ◌+◌, ◌<◌, ◌≤◌, List, [], ◌∷◌, length}
use Rattle.std.specs.List.{AllPass}
use Rattle.std.specs.Char.{is_ascii_digit}
use Rattle.std.specs.Str.Parse.{digits_value}
use Rattle.relay_trace.specs.DateTime.{last_second}

-- how many nodes play at most
abbrev pub most_nodes : ℕ
most_nodes = 16

-- a node's letter: `a` for 0, `b` for 1, and so on to `p`
pub record IsNode (word : List ℕ) (index : ℕ) : Type 0 where
  pub within : index < most_nodes
  pub letter : word ≡ (97 + index) ∷ []

-- a number: 1 to 18 decimal digits, leading zeros among them
pub record IsNumber (word : List ℕ) (number : ℕ) : Type 0 where
  pub some : 1 ≤ length word
  pub few : length word ≤ 18
  pub digits : AllPass is_ascii_digit word
  pub value : digits_value 10 word ≡ number

-- how many nodes play: a number from 2 to 16
pub record IsNodeCount (word : List ℕ) (count : ℕ) : Type 0 where
  pub number : IsNumber word count
  pub some : 2 ≤ count
  pub within : count ≤ most_nodes

-- a time: the number of its seconds from 1970
pub record IsMoment (word : List ℕ) (seconds : ℕ) : Type 0 where
  pub number : IsNumber word seconds
  pub within : seconds ≤ last_second
