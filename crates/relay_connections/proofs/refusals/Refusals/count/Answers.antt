use Rattle.std.proofs.Common.{rules, ◌≡◌, ap, ◌∙◌, Some, true, slice_set}
use Rattle.std.specs.Net.Addr.{ipv4_octets}
use Rattle.std.specs.Net.Socket.{v4_ip}
use Rattle.relay_slots.specs.Slots.{slot_at}
use Rattle.relay_connections.specs.Refusals.{is_of}
use Rattle.relay_connections.proofs.RefusalLemmas.{put_again}
use Rattle.relay_connections.proofs.refusals.Refusals.count.Goals as goal

pub returns-in-Some-take-clause-counted : goal.returns-in-Some-take-clause-counted
returns-in-Some-take-clause-counted c = λ _.
    let old = c.args.self.now.tallies in
    let tally = c.in-Some-take.tally in
    let number = c.in-Some.number in
    let there : slot_at old number ≡ Some tally = search rules in
    let same : is_of (ipv4_octets (v4_ip c.args.peer)) tally ≡ true = search rules in
    record {
      number = number;
      tally = tally;
      there = there;
      same = same;
      counted = put_again old c.take.new.self c.put.new.self number tally c.again.result there c.take.ensures.rest c.put.ensures.stands
          ∙ ap (λ (value : _). slice_set old number (Some value)) c.again.ensures;
    }
