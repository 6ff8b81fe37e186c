use Rattle.std.proofs.Common.{◌≡◌, ◌++◌, None, Some, length, sym, ap, ◌∙◌, arith, rules}
use Rattle.std.proofs.lemmas.List.{append-nil, length-map}
use Rattle.relay_world.specs.Ledger.{left_lines, report_told}
use Rattle.relay_hosts.proofs.RepliedLemmas.{lines_none, lines_some, lines_unrecorded, replied_none, replied_some}
use Rattle.relay_hosts.proofs.replied.end_by_replies.Goals as goal

pub returns-in_default-clause-attempt : goal.returns-in_default-clause-attempt
returns-in_default-clause-attempt c = replied_none c.args.attempt.now c.args.change c.in_default.is

pub returns-in_default-clause-items : goal.returns-in_default-clause-items
returns-in_default-clause-items c =
    sym (ap (λ l. c.args.ledger.now.items ++ l) (lines_none c.args.number c.args.attempt.now c.args.change c.args.recorded.now c.in_default.is)
    ∙ append-nil c.args.ledger.now.items)

pub returns-in_default-clause-len : goal.returns-in_default-clause-len
returns-in_default-clause-len c =
    let none = ap length (lines_none c.args.number c.args.attempt.now c.args.change c.args.recorded.now c.in_default.is) in
    omega (arith, none)

pub returns-in_default-recorded-clause-attempt : goal.returns-in_default-recorded-clause-attempt
returns-in_default-recorded-clause-attempt c = replied_some c.args.attempt.now c.args.change c.in-Some.change c.in-Some.is

pub returns-in_default-recorded-clause-items : goal.returns-in_default-recorded-clause-items
returns-in_default-recorded-clause-items c =
    let none : c.args.recorded.now ≡ None = search rules in
    sym (ap (λ l. c.args.ledger.now.items ++ l)
    (lines_unrecorded c.args.number c.args.attempt.now c.args.change c.args.recorded.now c.in-Some.change c.in-Some.is none)
    ∙ append-nil c.args.ledger.now.items)

pub returns-in_default-recorded-clause-len : goal.returns-in_default-recorded-clause-len
returns-in_default-recorded-clause-len c =
    let is_none : c.args.recorded.now ≡ None = search rules in
    let none = ap length
    (lines_unrecorded c.args.number c.args.attempt.now c.args.change c.args.recorded.now c.in-Some.change c.in-Some.is is_none) in
    omega (arith, none)

pub push_left-requires : goal.push_left-requires
push_left-requires c =
    let one = c.in-Some-recorded.recorded in
    let some : c.args.recorded.now ≡ Some one = search rules in
    let lines = ap length
    (lines_some c.args.number c.args.attempt.now c.args.change c.args.recorded.now c.in-Some.change one c.in-Some.is some) in
    let each : length (left_lines c.args.attempt.now.node c.args.attempt.now.message c.args.number
    (report_told c.in-Some.change one.report) one.left.items) ≡ length one.left.items =
    length-map one.left.items _ in
    let left = ap length c.as_slice-left.ensures.value in
    let room = c.requires in
    omega (arith, lines, each, left, room)

pub returns-clause-attempt : goal.returns-clause-attempt
returns-clause-attempt c = replied_some c.args.attempt.now c.args.change c.in-Some.change c.in-Some.is
