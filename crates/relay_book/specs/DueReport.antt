-- What a verdict makes of a place, and which report is due (RFC 3461, sections 5.2 and 5.2.4): by the version of the
-- outcome, reverse path, NOTIFY, what is known of the place, and the verdict.
use Rattle.std.specs.Prelude.{ℕ, ◌+◌, nat_le, Bool, true, false, not, ◌&&◌, List, Option, Some, None, option_and_then}
use Rattle.std.specs.Prelude.{slice_get, if◌then◌else◌}
use Rattle.relay_envelope.specs.declared.parameters.Notify.{Notify}
use Rattle.relay_envelope.specs.declared.parameters.Notify.TheVariants.{Never, On}
use Rattle.relay_book.specs.Record.{is_null}
use Rattle.relay_book.specs.declared.version.Version.{Version}
use Rattle.relay_book.specs.declared.version.Version.TheVariants.{WithoutDelay, WithDelay, WithWithdrawal}
use Rattle.relay_book.specs.declared.change.Accept.{Accept as AcceptFields}
use Rattle.relay_book.specs.declared.change.Ruling.{Ruling}
use Rattle.relay_book.specs.declared.change.Verdict.{Verdict}
use Rattle.relay_book.specs.declared.change.Verdict.TheVariants.{Taken, Refused, Later, CantSend, NoRoute, Withdrawn}
use Rattle.relay_book.specs.declared.change.Withdrawal.{Withdrawal}
use Rattle.relay_book.specs.declared.change.Withdrawal.TheVariants.{Return, Discard}
use Rattle.relay_book.specs.declared.fate.Fate.{Fate}
use Rattle.relay_book.specs.declared.fate.Fate.TheVariants.{Waits, Late, Failed, Relayed, Removed}
use Rattle.relay_book.specs.declared.fate.Way.{Way}
use Rattle.relay_book.specs.declared.fate.Way.TheVariants.{ByTransfer, ByEnd, ByWithdrawal}
use Rattle.relay_book.specs.declared.due_report.DueReport.{DueReport}
use Rattle.relay_book.specs.declared.due_report.DueReport.TheVariants.{OfFailure, OfRelay, OfDelay}
use Rattle.relay_book.specs.declared.message.Place.{Place}

-- profile: a place is tried for so long after its acceptance, in seconds (RFC 5321, section 4.5.4.1)
abbrev pub patience : ℕ
patience = 432000

-- profile: a place that waits for so long after its acceptance, in seconds, is late
abbrev pub lateness : ℕ
lateness = 14400

-- what a place becomes that is to be tried again
abbrev pub fate_of_later : ℕ → ℕ → Fate
fate_of_later accepted at =
    if nat_le (accepted + patience) at then Failed else (if nat_le (accepted + lateness) at then Late else Waits)

-- what a verdict at one time makes of a place accepted at another
abbrev pub fate_of : ℕ → ℕ → Verdict → Fate
fate_of accepted at (Taken dsn) = Relayed dsn
fate_of accepted at (Refused code text) = Failed
fate_of accepted at Later = fate_of_later accepted at
fate_of accepted at CantSend = Failed
fate_of accepted at NoRoute = Failed
fate_of accepted at (Withdrawn withdrawal) = Removed withdrawal

-- how a place leaves, if it does
abbrev pub way_of : Fate → Option Way
way_of Waits = None
way_of Late = None
way_of Failed = Some ByEnd
way_of (Relayed dsn) = Some ByTransfer
way_of (Removed withdrawal) = Some (ByWithdrawal withdrawal)

-- a failure is reported where NOTIFY wasn't given, or names it
abbrev pub wants_failure : Option Notify → Bool
wants_failure None = true
wants_failure (Some Never) = false
wants_failure (Some (On outcomes)) = outcomes.failure

-- a success is reported where NOTIFY names it
abbrev pub wants_success : Option Notify → Bool
wants_success None = false
wants_success (Some Never) = false
wants_success (Some (On outcomes)) = outcomes.success

-- a delay is reported where NOTIFY names it
abbrev pub wants_delay : Option Notify → Bool
wants_delay None = false
wants_delay (Some Never) = false
wants_delay (Some (On outcomes)) = outcomes.delay

-- outcomes of the first version report no delay
abbrev pub reports_delay : Version → Bool
reports_delay WithoutDelay = false
reports_delay WithDelay = true
reports_delay WithWithdrawal = true

-- of a delay, once: of a place that wasn't reported as delayed before
abbrev pub report_of_delay : Version → Option Notify → Place → Option DueReport
report_of_delay version notify place =
    if reports_delay version && wants_delay notify && not place.delayed then Some OfDelay else None

-- profile: of a place that the postmaster has ended: as of a failure where it is returned, none if it is discarded
abbrev pub report_of_withdrawal : Withdrawal → Option Notify → Option DueReport
report_of_withdrawal Return notify = if wants_failure notify then Some OfFailure else None
report_of_withdrawal Discard notify = None

-- of a delay, of a failure, of a success at a hop that makes no reports itself, and of what the postmaster has ended
abbrev pub report_of_fate : Version → Option Notify → Place → Fate → Option DueReport
report_of_fate version notify place Waits = None
report_of_fate version notify place Late = report_of_delay version notify place
report_of_fate version notify place Failed = if wants_failure notify then Some OfFailure else None
report_of_fate version notify place (Relayed true) = None
report_of_fate version notify place (Relayed false) = if wants_success notify then Some OfRelay else None
report_of_fate version notify place (Removed withdrawal) = report_of_withdrawal withdrawal notify

-- which report is due: none to the null reverse path
abbrev pub due_report_of : Version → List ℕ → Option Notify → Place → Fate → Option DueReport
due_report_of version reverse_path notify place fate =
    if is_null reverse_path then None else report_of_fate version notify place fate

-- which report is due of a place of a message by a verdict at a time: none of a place without a recipient
abbrev pub due_for : Version → AcceptFields → ℕ → Place → Ruling → Option DueReport
due_for version accept at place ruling =
    option_and_then
    (λ recipient. due_report_of version accept.envelope.reverse_path recipient.notify place
    (fate_of accept.at at ruling.verdict))
    (slice_get accept.envelope.recipients ruling.place)
