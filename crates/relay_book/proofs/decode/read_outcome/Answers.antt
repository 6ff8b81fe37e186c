use Rattle.std.proofs.Common.{◌≡◌, ◌≤◌, ◌<◌, ◌^◌, length, rules}
use Rattle.relay_trace.specs.declared.moment.TheConstants.{LAST_SECOND}
use Rattle.relay_book.specs.Record.{AreOfVersion, MayBeHop}
use Rattle.relay_book.proofs.BeginLemmas.{spelled_with_hop}
use Rattle.relay_book.proofs.FaultLemmas.{fault_passed, no_memory}
use Rattle.relay_book.proofs.OutcomeLemmas.{bad_hop, bad_moment, bad_report, bad_verdicts, none_of, outcome_found}
use Rattle.relay_book.proofs.decode.read_outcome.Goals as goal
use Rattle.relay_book.proofs.decode.read_outcome.Goals.{then-not-may_be_hop-via-then-not-may_be_hop, then-not-may_be_hop-via-else-not-may_be_hop+then-report-gt-REPORT_LIMIT}

pub returns-in_err-message-clause-bad : goal.returns-in_err-message-clause-bad
returns-in_err-message-clause-bad c = λ bad. none_of c.args.version c.args.text.now (c.in_err-message.ensures.bad (fault_passed c.from_residual.result _ _ c.from_residual.ensures.1 bad))

pub returns-in_err-message-clause-memory : goal.returns-in_err-message-clause-memory
returns-in_err-message-clause-memory c = λ bad. c.in_err-message.ensures.memory (fault_passed c.from_residual.result _ _ c.from_residual.ensures.1 bad)

pub returns-in_default-clause-bad : goal.returns-in_default-clause-bad
returns-in_default-clause-bad c =
    let late : LAST_SECOND < c.in_ok-message.at = search rules in
    λ _. bad_moment c.args.version c.args.text.now c.in_ok-message.message c.in_ok-message.at c.in_ok-message.hop.now c.in_ok-message.rulings c.in_ok-message.report.now c.in_ok-message.ensures.fields late

pub returns-then-not-may_be_hop-clause-bad : goal.returns-then-not-may_be_hop-clause-bad
returns-then-not-may_be_hop-clause-bad c = λ _. elim c.then-not-may_be_hop.branch [
  | then-not-may_be_hop-via-then-not-may_be_hop w ↦
      let out : MayBeHop c.in_ok-message.hop.now → ⊥ = search rules in
      bad_hop c.args.version c.args.text.now c.in_ok-message.message c.in_ok-message.at c.in_ok-message.hop.now c.in_ok-message.rulings c.in_ok-message.report.now c.in_ok-message.ensures.fields out
  | then-not-may_be_hop-via-else-not-may_be_hop+then-report-gt-REPORT_LIMIT w ↦
      let long : 2 ^ 26 < length c.in_ok-message.report.now = search rules in
      bad_report c.args.version c.args.text.now c.in_ok-message.message c.in_ok-message.at c.in_ok-message.hop.now c.in_ok-message.rulings c.in_ok-message.report.now c.in_ok-message.ensures.fields long
]

pub returns-then-not-are_of_version-clause-bad : goal.returns-then-not-are_of_version-clause-bad
returns-then-not-are_of_version-clause-bad c =
    let out : AreOfVersion c.args.version c.in_ok-message.rulings → ⊥ = search rules in
    λ _. bad_verdicts c.args.version c.args.text.now c.in_ok-message.message c.in_ok-message.at c.in_ok-message.hop.now c.in_ok-message.rulings c.in_ok-message.report.now c.in_ok-message.ensures.fields out

pub returns-in_err-from_slice-clause-bad : goal.returns-in_err-from_slice-clause-bad
returns-in_err-from_slice-clause-bad c = no_memory c.from_residual-in_err-from_slice.result c.from_residual-in_err-from_slice.ensures.1

pub returns-in_err-from_slice-clause-memory : goal.returns-in_err-from_slice-clause-memory
returns-in_err-from_slice-clause-memory c = λ _. spelled_with_hop c.args.text.now c.in_ok-message.message c.in_ok-message.at c.in_ok-message.hop.now c.in_ok-message.rulings c.in_ok-message.report.now c.in_ok-message.ensures.fields

pub returns-in_err-from_slice-2-clause-bad : goal.returns-in_err-from_slice-2-clause-bad
returns-in_err-from_slice-2-clause-bad c = no_memory c.from_residual-in_err-from_slice-2.result c.from_residual-in_err-from_slice-2.ensures.1

pub returns-in_err-from_slice-2-clause-memory : goal.returns-in_err-from_slice-2-clause-memory
returns-in_err-from_slice-2-clause-memory c = λ _. spelled_with_hop c.args.text.now c.in_ok-message.message c.in_ok-message.at c.in_ok-message.hop.now c.in_ok-message.rulings c.in_ok-message.report.now c.in_ok-message.ensures.fields

pub returns-clause-outcome : goal.returns-clause-outcome
returns-clause-outcome c =
    let moment_is : c.in-Ok.at ≡ c.in_ok-message.at = search rules in
    let late : c.in-Ok.at ≤ LAST_SECOND = search rules in
    let may : MayBeHop c.in_ok-message.hop.now = search rules in
    let short : length c.in_ok-message.report.now ≤ 2 ^ 26 = search rules in
    let verdicts : AreOfVersion c.args.version c.in_ok-message.rulings = search rules in
    outcome_found c.args.version c.args.text.now c.in_ok-message.message c.in_ok-message.at c.in_ok-message.hop.now c.in_ok-message.rulings c.in_ok-message.report.now
    c.in-Ok.at c.in_ok-from_slice.field-0 _ c.in_ok-from_slice-2.field-0 c.in_ok-message.ensures.fields moment_is late may short verdicts c.in_ok-from_slice.ensures c.rulings.view_is
    c.in_ok-from_slice-2.ensures
