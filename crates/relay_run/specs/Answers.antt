-- Answers of the control socket, and those to requests to return or discard mail.
use Rattle.std.specs.Prelude.{◌≡◌, ℕ, ◌+◌, ◌-◌, ◌^◌, min, nat_lt, if◌then◌else◌, List, [], ◌∷◌, ◌++◌, codes, decimal}
use Rattle.std.specs.Prelude.{IfOk, Result, length}
use Rattle.std.specs.Global.{Vec}
use Rattle.relay_book.specs.declared.change.Withdrawal.{Withdrawal}
use Rattle.relay_book.specs.declared.change.Withdrawal.TheVariants.{Return, Discard}
use Rattle.relay_control.specs.Answer.{end_text, error_text, line_text}
use Rattle.relay_control.specs.declared.answer.End.TheVariants.{Done}
use Rattle.relay_control.specs.declared.named.Named.{Named}
use Rattle.relay_run.specs.declared.withdrawing.Outcome.{Outcome}
use Rattle.relay_run.specs.declared.withdrawing.Outcome.TheVariants.{Withdrawn, Unknown, Busy, Full}

-- the answer is this text, if there was memory for it
abbrev pub IsText : {E : Type 0} → Result (Vec ℕ) E → List ℕ → Type 0
IsText answer text = IfOk answer (λ octets. octets.items ≡ text)

-- it is an error, if there was memory for it
abbrev pub IsError : {E : Type 0} → Result (Vec ℕ) E → Type 0
IsError answer = IfOk answer (λ octets. (reason : List ℕ) × (octets.items ≡ error_text reason))

-- the line of a message that was refused: its number, and why
abbrev pub refused_line : Named → Outcome → List ℕ
refused_line named Withdrawn = []
refused_line named Unknown = line_text (decimal named.message ++ codes " unknown")
refused_line named Busy = line_text (decimal named.message ++ codes " busy")
refused_line named Full = line_text (decimal named.message ++ codes " full")

-- how many recipients of a message were withdrawn
abbrev pub withdrawn_of : Named → Outcome → ℕ
withdrawn_of named Withdrawn = length named.places.items
withdrawn_of named Unknown = 0
withdrawn_of named Busy = 0
withdrawn_of named Full = 0

-- the lines of the messages that were refused, in the order of the request
abbrev pub refused_lines : List Named → List Outcome → List ℕ
refused_lines names [] = []
refused_lines [] (outcome ∷ outcomes) = []
refused_lines (named ∷ names) (outcome ∷ outcomes) = refused_line named outcome ++ refused_lines names outcomes

-- how many recipients were withdrawn in all
abbrev pub withdrawn_in : List Named → List Outcome → ℕ
withdrawn_in names [] = 0
withdrawn_in [] (outcome ∷ outcomes) = 0
withdrawn_in (named ∷ names) (outcome ∷ outcomes) = withdrawn_of named outcome + withdrawn_in names outcomes

-- the word for what was done
abbrev pub done_word : Withdrawal → List ℕ
done_word Return = codes "returned"
done_word Discard = codes "discarded"

-- the line with the number of recipients
abbrev pub count_line : Withdrawal → ℕ → List ℕ
count_line withdrawal count = line_text (done_word withdrawal ++ codes " recipients=" ++ decimal count)

-- the last line: an error if memory ran out before the last message had its outcome
abbrev pub last_line : List Named → List Outcome → List ℕ
last_line names outcomes =
    if nat_lt (length outcomes) (length names) then error_text (codes "no memory") else end_text Done

-- the whole answer
abbrev pub withdrawn_text : Withdrawal → List Named → List Outcome → List ℕ
withdrawn_text withdrawal names outcomes =
    refused_lines names outcomes ++ count_line withdrawal (min (withdrawn_in names outcomes) (2 ^ 64 - 1))
    ++ last_line names outcomes
