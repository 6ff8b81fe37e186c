-- What a status says of a subcommand's end.
use Rattle.std.proofs.Common.{◌≡◌, ◌≢◌, ℕ, Result, Ok, Err, OnErr, OnOk, MatchResult}

-- a subcommand whose status is 0 has done what it says
pub done_at_zero : {T E : Type 0} (end : Result T E) (Done : Type 0) (status : ℕ) → OnOk end Done → MatchResult end (λ _. status ≡ 0) (λ _. status ≡ 1) → status ≡ 0 → Done
done_at_zero (Ok value) Done status done zero is_zero = done
done_at_zero (Err fault) Done status done one is_zero = absurd (cc (one, is_zero))

-- a subcommand whose status is another has failed: the status is 1
pub failed_at_other : {T E : Type 0} (end : Result T E) (Failed : Type 0) (status : ℕ) → OnErr end Failed → MatchResult end (λ _. status ≡ 0) (λ _. status ≡ 1) → status ≢ 0 → (status ≡ 1) × Failed
failed_at_other (Ok value) Failed status failed zero other = absurd (other zero)
failed_at_other (Err fault) Failed status failed one other = (one, failed)

-- a status that is 1 isn't 0
pub one_is_not_zero : (status : ℕ) → status ≡ 1 → status ≢ 0
one_is_not_zero status one = λ zero. absurd (cc (one, zero))
