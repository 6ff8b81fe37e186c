-- Numbers of a request, in decimal without leading zeros.
use Rattle.std.specs.Prelude.{◌≡◌, ℕ, ◌<◌, ◌^◌, List, decimal}

-- the text writes this number of 64 bits
pub record IsNumber (text : List ℕ) (number : ℕ) : Type 0 where
  pub text_is : text ≡ decimal number
  pub fits : number < 2 ^ 64

-- the text writes this many seconds, up to 65,535
pub record IsSeconds (text : List ℕ) (seconds : ℕ) : Type 0 where
  pub text_is : text ≡ decimal seconds
  pub fits : seconds < 2 ^ 16

-- the text writes no such number
pub record HasNoNumber (text : List ℕ) : Type 0 where
  pub none : (number : ℕ) → ¬ IsNumber text number

pub record HasNoSeconds (text : List ℕ) : Type 0 where
  pub none : (seconds : ℕ) → ¬ IsSeconds text seconds
