-- What octets begin with.
use Rattle.std.proofs.Common.{◌≡◌, ◌≢◌, ℕ, List, ◌++◌, Bor, Option, None, Some, MatchOption}
use Rattle.relay_octets.specs.Beginning.{Begins}

pub begun_by : (octets front : List ℕ) (rest : Option (Bor (List ℕ)))
    → MatchOption rest ((rest : List ℕ) → octets ≢ front ++ rest) (λ rest. octets ≡ front ++ rest.now)
    → MatchOption rest (¬ Begins front octets) (λ rest. octets ≡ front ++ rest.now)
begun_by octets front None none = λ begun. none begun.0 begun.1
begun_by octets front (Some rest) is = is
