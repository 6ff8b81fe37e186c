use Rattle.std.proofs.Common.{rules, ◌≡◌, sym, ap, ◌∙◌, Some, nat_lt, slice_set, false, true}
use Rattle.relay_slots.specs.Slots.{slot_at}
use Rattle.relay_connections.proofs.RefusalLemmas.{left_told, put_again}
use Rattle.relay_connections.proofs.refusals.Refusals.take_over.Goals as goal

pub returns-then-tally-gt0-clause-left : goal.returns-then-tally-gt0-clause-left
returns-then-tally-gt0-clause-left c =
    let old = c.args.self.now.tallies in
    let tally = c.in-Some-Some.tally in
    let there : slot_at old c.args.number ≡ Some tally = search rules in
    let past : nat_lt c.args.now.now.tick tally.until ≡ false = search rules in
    let some : nat_lt 0 tally.count ≡ true = search rules in
    put_again old c.take.new.self c.put.new.self c.args.number tally c.told.result there c.take.ensures.rest c.put.ensures.stands
    ∙ ap (λ told. slice_set old c.args.number (Some told)) c.told.ensures
    ∙ sym (left_told c.args.now.now.tick c.args.number tally old there past some)
