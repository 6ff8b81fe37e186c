-- one recipient more, and all of them
use Rattle.std.proofs.Common.{rules, ◌≤◌, length, refl}
use Rattle.relay_queue.proofs.TotalLemmas.{all_so_far, more_so_far, none_so_far}
use Rattle.relay_queue.proofs.table.totals_of.Goals as goal

pub loop-key-init : goal.loop-key-init
loop-key-init c = none_so_far c.args.look.now.queue c.args.keys.now

pub loop-key-preserved : goal.loop-key-preserved
loop-key-preserved c =
    more_so_far c.args.look.now.queue c.args.keys.now c.loop-key.key-index _ c.loop-key.sums _ c.loop-key-test.true
    c.loop-key.invariant c.sums_with-sums.ensures

pub returns : goal.returns
returns c =
    let all : length c.args.keys.now ≤ c.loop-key.key-index = search rules in
    let sums = all_so_far c.args.look.now.queue c.args.keys.now c.loop-key.key-index c.loop-key.sums all c.loop-key.invariant in
    record {
      messages = sums.0;
      recipients = refl;
      octets = sums.1;
      oldest = c.age_of_first.ensures;
    }
