use Rattle.std.proofs.Common.{◌≡◌, ◌<◌, length, rules}
use Rattle.relay_events.proofs.ActLemmas.{answers_refused, answers_shown, answers_stop, answers_stopped}
use Rattle.relay_events.proofs.act.answer_of.Goals as goal

pub returns-in-Shows : goal.returns-in-Shows
returns-in-Shows c told is =
    answers_shown c.args.act c.args.stopped told is c.in-Shows.own c.seen_of.result c.in-Shows.is c.seen_of.ensures

pub returns-then-is_empty : goal.returns-then-is_empty
returns-then-is_empty c told is =
    let none : length c.args.stopped ≡ 0 = search rules in
    answers_refused c.args.act c.args.stopped told is c.in-Refuses.why c.in-Refuses.is none

pub returns-else-is_empty : goal.returns-else-is_empty
returns-else-is_empty c told is =
    let some : 0 < length c.args.stopped = search rules in
    answers_stopped c.args.act c.args.stopped told is c.in-Refuses.why c.in-Refuses.is some

pub returns-in-Stops : goal.returns-in-Stops
returns-in-Stops c told is = answers_stop c.args.act c.args.stopped told is _ c.in-Stops.is
