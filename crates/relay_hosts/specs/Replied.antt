-- The effect of replies that an attempt has read on the attempt, and on the ledger.
use Rattle.std.specs.Prelude.{ℕ, List, [], Option, None, Some}
use Rattle.relay_world.specs.declared.attempt.Attempt.{Attempt}
use Rattle.relay_world.specs.declared.attempt.Fate.TheVariants as fate
use Rattle.relay_world.specs.declared.line.Line.{Line}
use Rattle.relay_world.specs.Ledger.{left_lines, report_told}
use Rattle.relay_hosts.specs.declared.recorded.Recorded.{Recorded}

-- an attempt after replies that led to this change, if any
abbrev pub replied_attempt : Attempt → Option ℕ → Attempt
replied_attempt attempt None = attempt
replied_attempt attempt (Some change) = record attempt { fate = fate.Replied change }

-- the lines of the places that left or were delayed by that change
abbrev pub replied_lines : ℕ → Attempt → Option ℕ → Option Recorded → List Line
replied_lines number attempt None recorded = []
replied_lines number attempt (Some change) None = []
replied_lines number attempt (Some change) (Some recorded) =
    left_lines attempt.node attempt.message number (report_told change recorded.report) recorded.left.items
