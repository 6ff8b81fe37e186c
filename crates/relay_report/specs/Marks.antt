-- Numbers marked in a row of bits, 64 in a word.
use Rattle.std.specs.Prelude.{◌≡◌, ℕ, ◌*◌, ◌/◌, ◌%◌, ◌^◌, ◌<◌, ◌≤◌, List, [], ◌∷◌, length, slice_index, slice_set}
use Rattle.std.specs.Prelude.{bit_or, replicate}
use Rattle.std.specs.Int.{bit_at}

-- the bit of a number is set
abbrev pub IsMarked : List ℕ → ℕ → Type 0
IsMarked words number = bit_at (slice_index words (number / 64)) (number % 64) ≡ 1

-- a row of this many words, of which no bit is set
abbrev pub empty_row : ℕ → List ℕ
empty_row count = replicate count 0

-- the row with the bit of a number set, if it is that long
unfoldable pub marked_one : List ℕ → ℕ → List ℕ
marked_one words number =
    slice_set words (number / 64)
    (bit_or (slice_index words (number / 64)) (1 * 2 ^ (number % 64) % 2 ^ 64))

-- the row with the bits of these numbers set
abbrev pub marked : List ℕ → List ℕ → List ℕ
marked words [] = words
marked words (number ∷ numbers) = marked (marked_one words number) numbers

-- the least number whose bit isn't set
pub record IsLeastUnmarked (words : List ℕ) (least : ℕ) : Type 0 where
  pub within : least ≤ 64 * length words
  pub below : (lower : ℕ) → lower < least → IsMarked words lower
  pub unmarked : least < 64 * length words → IsMarked words least → ⊥
