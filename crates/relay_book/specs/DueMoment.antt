-- When a place is due (RFC 5321, section 4.5.4.1): at acceptance, and after its Later verdicts by a growing
-- wait.
use Rattle.std.specs.Prelude.{ℕ, ◌+◌, ◌-◌, ◌*◌, ◌^◌, ◌==◌, min, Bool, true, false, ◌&&◌, ◌||◌, List, [], ◌∷◌, length}
use Rattle.std.specs.Prelude.{fold, if◌then◌else◌}
use Rattle.relay_book.specs.declared.change.Ruling.{Ruling}
use Rattle.relay_book.specs.declared.change.Verdict.{Verdict}
use Rattle.relay_book.specs.declared.change.Verdict.TheVariants.{Taken, Refused, Later, CantSend, NoRoute, Withdrawn}
use Rattle.relay_book.specs.declared.change.Change.{Change}
use Rattle.relay_book.specs.declared.change.Change.TheVariants.{Accept, Outcome}

-- profile: the wait after the first Later verdict, half an hour, and the longest, four hours, in
-- seconds
abbrev pub first_wait : ℕ
first_wait = 1800

abbrev pub longest_wait : ℕ
longest_wait = 14400

-- after each further one twice as long
abbrev pub wait_after : ℕ → ℕ
wait_after laters = min (first_wait * 2 ^ (laters - 1)) longest_wait

-- by the time of acceptance and those of the Later verdicts, the last first
abbrev pub due_moment_of : ℕ → List ℕ → ℕ
due_moment_of accepted [] = accepted
due_moment_of accepted (last ∷ before) = last + wait_after (length (last ∷ before))

abbrev pub is_later : Verdict → Bool
is_later (Taken dsn) = false
is_later (Refused code text) = false
is_later Later = true
is_later CantSend = false
is_later NoRoute = false
is_later (Withdrawn withdrawal) = false

-- a ruling is Later for this place
abbrev pub waits_in : ℕ → List Ruling → Bool
waits_in place [] = false
waits_in place (ruling ∷ rulings) =
    (ruling.place == place && is_later ruling.verdict) || waits_in place rulings

-- an outcome for this message that has Later for this place adds its time
abbrev pub laters_with : ℕ → ℕ → List ℕ → Change → List ℕ
laters_with number place before (Accept accept) = before
laters_with number place before (Outcome outcome) =
    if outcome.message == number && waits_in place outcome.rulings then outcome.at ∷ before else before

-- the times of a place's Later verdicts, the last first
abbrev pub laters_of : List Change → ℕ → ℕ → List ℕ
laters_of changes number place = fold (laters_with number place) [] changes
