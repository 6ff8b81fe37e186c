use Rattle.std.proofs.Common.{◌≡◌, ◌<◌, ◌≤◌, length, arith, rules}
use Rattle.std.specs.Prelude.{slice_index_or}
use Rattle.relay_hosts.proofs.RoomLemmas.{lines_none_more, lines_one_more}
use Rattle.relay_hosts.proofs.lines.lines_to_come.Goals as goal

pub loop-place-preserved : goal.loop-place-preserved
loop-place-preserved c =
    let place = c.loop-place.place in
    let one = c.index-attempts-place.result in
    let within : place < length c.args.attempts.now = search rules in
    let there : one ≡ slice_index_or c.args.attempts.now place one = search rules in
    let more = lines_one_more c.args.attempts.now place one within there in
    let so_far = c.loop-place.invariant in
    let its = c.lines_of_attempt.ensures in
    let sum = c.in_ok-lines.ensures in
    omega (arith, more, so_far, its, sum)

pub returns : goal.returns
returns c =
    let place = c.loop-place.place in
    let all : length c.args.attempts.now ≤ place = search rules in
    let none = lines_none_more c.args.attempts.now place all in
    let so_far = c.loop-place.invariant in
    omega (arith, none, so_far)
