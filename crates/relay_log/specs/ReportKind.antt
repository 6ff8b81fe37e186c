-- What a report tells of, as its delivery status says (RFC 3464, section 2.3.3).
use Rattle.std.specs.Prelude.{◌≡◌, ℕ, List, ◌++◌, codes, Option, None, Some}
use Rattle.relay_octets.specs.Line.{crlf}
use Rattle.relay_book.specs.declared.due_report.DueReport.{DueReport}
use Rattle.relay_book.specs.declared.due_report.DueReport.TheVariants.{OfFailure, OfRelay, OfDelay}
use Rattle.relay_report.specs.Boundary.{StandsIn}
use Rattle.relay_report.specs.Split.{HasNoParts, HasParts}
use Rattle.relay_report.specs.StatusFields.{action_of, field}

-- the delivery status has the field `Action:` of this kind for one of its recipients; other fields stand before the
-- first recipient's
abbrev pub Reports : DueReport → List ℕ → Type 0
Reports due status = StandsIn (crlf ++ field (codes "Action") (action_of due)) status

-- profile: the worst that a delivery status says of a recipient: that it failed, else that it is delayed, else that it
-- was relayed
abbrev pub IsWorst : List ℕ → Option DueReport → Type 0
IsWorst status (Some OfFailure) = Reports OfFailure status
IsWorst status (Some OfDelay) = ¬ Reports OfFailure status × Reports OfDelay status
IsWorst status (Some OfRelay) = ¬ Reports OfFailure status × ¬ Reports OfDelay status × Reports OfRelay status
IsWorst status None = ¬ Reports OfFailure status × ¬ Reports OfDelay status × ¬ Reports OfRelay status

-- a report is of this kind: the worst that its delivery status, the second of its parts, says; a text without three
-- parts is of none
pub record HasKind (report : List ℕ) (kind : Option DueReport) : Type 0 where
  pub worst : (one two three : List ℕ) → HasParts report one two three → IsWorst two kind
  pub none : HasNoParts report → kind ≡ None
