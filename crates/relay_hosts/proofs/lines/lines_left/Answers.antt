use Rattle.std.proofs.Common.{◌≡◌, ◌<◌, ◌≤◌, length, arith, rules}
use Rattle.std.specs.Prelude.{slice_index_or}
use Rattle.relay_hosts.proofs.RoomLemmas.{left_none_more, left_one_more}
use Rattle.relay_hosts.proofs.lines.lines_left.Goals as goal

pub loop-node-preserved : goal.loop-node-preserved
loop-node-preserved g c =
    let node = c.loop-node.node in
    let one = c.index-hosts-node.result in
    let within : node < length c.args.hosts.now = search rules in
    let there : one ≡ slice_index_or c.args.hosts.now node one = search rules in
    let more = left_one_more c.args.hosts.now node node one within there in
    let so_far = c.loop-node.invariant in
    let its = c.lines_held.ensures node in
    let sum = c.in_ok-lines.ensures in
    omega (arith, more, so_far, its, sum)

pub returns : goal.returns
returns g c =
    let node = c.loop-node.node in
    let all : length c.args.hosts.now ≤ node = search rules in
    let none = left_none_more c.args.hosts.now node node all in
    let so_far = c.loop-node.invariant in
    omega (arith, none, so_far)
