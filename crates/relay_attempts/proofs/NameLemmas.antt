-- Names that are compared octet by octet.
use Rattle.std.proofs.Common.{◌≡◌, ℕ, true, List, bytes_eq}
use Rattle.std.proofs.lemmas.Slice.Eq.{bytes_eq-Decides}

pub same_name : (one other : List ℕ) → bytes_eq one other ≡ true → one ≡ other
same_name one other is = (bytes_eq-Decides one other).0 is
