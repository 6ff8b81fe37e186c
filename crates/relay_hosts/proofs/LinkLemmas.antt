-- What waits on a link after what was read.
use Rattle.std.proofs.Common.{◌≡◌, ◌<◌, ◌≤◌, ℕ, zero, suc, true, false, List, [], ◌∷◌, length, drop, refl, arith}
use Rattle.relay_hosts.specs.Links.{is_nil}

pub all_read : (octets : List ℕ) (read : ℕ) → length octets ≤ read → is_nil (drop read octets) ≡ true
all_read [] zero less = refl
all_read [] (suc read) less = refl
all_read (x ∷ xs) zero less = absurd (omega (arith, less))
all_read (x ∷ xs) (suc read) less = all_read xs read (omega (arith, less))

pub some_waits : (octets : List ℕ) (read : ℕ) → read < length octets → is_nil (drop read octets) ≡ false
some_waits [] read less = absurd (omega (arith, less))
some_waits (x ∷ xs) zero less = refl
some_waits (x ∷ xs) (suc read) less = some_waits xs read (omega (arith, less))
