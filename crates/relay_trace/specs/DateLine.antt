-- A date text is on one line.
use Rattle.std.specs.Prelude.{ℕ, List}
use Rattle.relay_octets.specs.Line.{HasNoCrlf}
use Rattle.relay_trace.specs.DateTime.{IsDateText}

-- No CR LF is in a date text.
abbrev pub DateTextHasNoCrlf : Type 0
DateTextHasNoCrlf = (seconds : ℕ) (text : List ℕ) → IsDateText seconds text → HasNoCrlf text
