-- Single steps of reading and writing a dot text, for the contracts inside this crate.
use Rattle.std.specs.Prelude.{◌≡◌, ◌≢◌, ℕ, Bool, true, false, ◌==◌, if◌then◌else◌, List, [], ◌∷◌, ◌++◌, ◌<◌, ◌≤◌}
use Rattle.std.specs.Prelude.{length, take, drop, map}
use Rattle.relay_octets.specs.Line.{crlf, AreLines, lines_text}
use Rattle.relay_body.specs.declared.dot_reader.Phase.{Phase}
use Rattle.relay_body.specs.declared.dot_reader.Phase.TheVariants.{LineStart, Period, PeriodCr, Within, WithinCr, Done}
use Rattle.relay_body.specs.declared.dot_reader.Phase.TheVariants.{Failed}
use Rattle.relay_body.specs.DotText.{ends_in_line_end, with_period}

-- a reader in this phase reads on
abbrev pub IsOpen : Phase → Type 0
IsOpen LineStart = Unit {0}
IsOpen Period = Unit {0}
IsOpen PeriodCr = Unit {0}
IsOpen Within = Unit {0}
IsOpen WithinCr = Unit {0}
IsOpen Done = ⊥
IsOpen Failed = ⊥

-- a period is the first octet
abbrev pub begins_with_period : List ℕ → Bool
begins_with_period [] = false
begins_with_period (octet ∷ octets) = octet == 46

-- what comes next belongs to a line that isn't the end of mail data, and after no CR
abbrev pub RunsOn : Phase → List ℕ → Type 0
RunsOn LineStart rest = begins_with_period rest ≡ false
RunsOn Within rest = Unit {0}
RunsOn Period rest = ⊥
RunsOn PeriodCr rest = ⊥
RunsOn WithinCr rest = ⊥
RunsOn Done rest = ⊥
RunsOn Failed rest = ⊥

-- the octet is content in this phase, and its line goes on
abbrev pub StandsForItself : Phase → ℕ → Type 0
StandsForItself LineStart octet = octet ≢ 46
StandsForItself Period octet = octet ≢ 13
StandsForItself PeriodCr octet = ⊥
StandsForItself Within octet = Unit {0}
StandsForItself WithinCr octet = octet ≢ 10
StandsForItself Done octet = ⊥
StandsForItself Failed octet = ⊥

-- the phase within a line, after its last octet
abbrev pub phase_after : ℕ → Phase
phase_after octet = if octet == 13 then WithinCr else Within

-- a line end, and a period that begins the next line
abbrev pub period_line : List ℕ
period_line = 13 ∷ 10 ∷ 46 ∷ []

-- no line of the octets but the first begins with a period
pub record HasNoPeriodLine (octets : List ℕ) : Type 0 where
  pub nowhere : (before after : List ℕ) → octets ≢ before ++ period_line ++ after

-- up to this place the octets are lines of which no other than the first begins with a period, and
-- after it one does
pub record EndsRun (octets : List ℕ) (end : ℕ) : Type 0 where
  pub some : 0 < end
  pub within : end ≤ length octets
  pub front : List ℕ
  pub run_is : take end octets ≡ front ++ crlf
  pub no_period : HasNoPeriodLine (take end octets)
  pub period : begins_with_period (drop end octets) ≡ true

-- the period that is put before lines which begin with one
abbrev pub period_for : List ℕ → List ℕ
period_for lines = if begins_with_period lines then 46 ∷ [] else []

-- After what stood there is sent what the content's lines in front of this rest are sent as, and
-- the rest's period.
pub record AddsSoFar (content old new rest : List ℕ) : Type 0 where
  pub lines : List (List ℕ)
  pub each : AreLines lines
  pub content_is : content ≡ lines_text lines ++ rest
  pub added : new ≡ old ++ (lines_text (map with_period lines) ++ period_for rest)
  pub rest_ends : ends_in_line_end rest ≡ true
