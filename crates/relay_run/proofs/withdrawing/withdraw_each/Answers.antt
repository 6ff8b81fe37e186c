-- The next group has its outcomes; the device failed in it; or memory ran out.
use Rattle.std.proofs.Common.{rules, ◌≡◌, ◌-◌, ◌++◌, ℕ, List, length, map, take, drop, Result, refl, sym, ◌∙◌, ap, arith, vec_len}
use Rattle.relay_loop.specs.declared.withdrawing.Chosen.{Chosen}
use Rattle.relay_records.specs.declared.fault.NodeFault.{NodeFault}
use Rattle.relay_run.specs.Withdrawing.{outcome_of}
use Rattle.relay_run.specs.declared.withdrawing.Outcome.{Outcome}
use Rattle.relay_run.proofs.WithdrawalLemmas.{fails_next, goes_on, have_none, rest_of, within_still}
use Rattle.relay_run.proofs.withdrawing.withdraw_each.Goals as goal

pub returns-in_default-clause-have : goal.returns-in_default-clause-have
returns-in_default-clause-have g c =
    have_none g.D.Disk.honest g.D.Disk.words c.args.now.now.moment c.args.withdrawal c.args.names.now c.args.outcomes.now.items c.args.relay.now c.requires.empty

pub returns-in_default-entries_of-clause-have : goal.returns-in_default-entries_of-clause-have
returns-in_default-entries_of-clause-have g c =
    have_none g.D.Disk.honest g.D.Disk.words c.args.now.now.moment c.args.withdrawal c.args.names.now c.args.outcomes.now.items c.args.relay.now c.requires.empty

pub loop-withdrawal-init : goal.loop-withdrawal-init
loop-withdrawal-init g c = record {
  have = have_none g.D.Disk.honest g.D.Disk.words c.args.now.now.moment c.args.withdrawal c.args.names.now c.args.outcomes.now.items c.args.relay.now c.requires.empty;
  within = let none = ap (λ (outcomes : List Outcome). length outcomes) c.requires.empty in omega (arith, none);
  room = refl;
}

pub loop-withdrawal-preserved : goal.loop-withdrawal-preserved
loop-withdrawal-preserved g c =
    let i = c.loop-withdrawal.invariant in
    let count : length c.loop-withdrawal.outcomes.items ≡ vec_len c.loop-withdrawal.outcomes = search rules in
    let rest : List Chosen = take (length c.as_slice.result.now - c.len-done.result) (drop c.len-done.result c.as_slice.result.now) in
    let is : rest ≡ drop (length c.loop-withdrawal.outcomes.items) c.in-Ok.chosen.items =
    rest_of c.as_slice.result.now c.in-Ok.chosen.items c.len-done.result (length c.loop-withdrawal.outcomes.items) c.as_slice.ensures.value (c.len-done.ensures ∙ sym count) in
    let later : c.push_outcomes.new.outcomes.items ≡ c.loop-withdrawal.outcomes.items ++ map outcome_of c.in-Ok-withdraw_all.field-0.results.items =
    c.push_outcomes.ensures.items ∙ ap (λ (results : List (Result ℕ NodeFault)). c.loop-withdrawal.outcomes.items ++ map outcome_of results) c.as_slice-in-Ok-withdraw_all.ensures.value in
    record {
      have =
          goes_on g.D.Disk.honest g.D.Disk.words c.args.now.now.moment c.args.withdrawal c.in-Ok.chosen.items rest c.args.names.now c.loop-withdrawal.outcomes.items
          c.push_outcomes.new.outcomes.items c.in-Ok-withdraw_all.field-0 c.args.relay.now c.loop-withdrawal.relay c.withdraw_all.new.self c.in-Ok.ensures is i.have
          c.in-Ok-withdraw_all.ensures.withdraws later;
      within =
          within_still c.in-Ok.chosen.items rest c.args.names.now c.loop-withdrawal.outcomes.items c.push_outcomes.new.outcomes.items c.in-Ok-withdraw_all.field-0.results.items
          c.in-Ok.ensures is c.in-Ok-withdraw_all.ensures.within i.within later;
      room = c.push_outcomes.ensures.capacity ∙ i.room;
    }

pub returns-then-is_short-clause-have : goal.returns-then-is_short-clause-have
returns-then-is_short-clause-have g c =
    let i = c.loop-withdrawal.invariant in
    let count : length c.loop-withdrawal.outcomes.items ≡ vec_len c.loop-withdrawal.outcomes = search rules in
    let rest : List Chosen = take (length c.as_slice.result.now - c.len-done.result) (drop c.len-done.result c.as_slice.result.now) in
    let is : rest ≡ drop (length c.loop-withdrawal.outcomes.items) c.in-Ok.chosen.items =
    rest_of c.as_slice.result.now c.in-Ok.chosen.items c.len-done.result (length c.loop-withdrawal.outcomes.items) c.as_slice.ensures.value (c.len-done.ensures ∙ sym count) in
    let later : c.push_outcomes.new.outcomes.items ≡ c.loop-withdrawal.outcomes.items ++ map outcome_of c.in-Ok-withdraw_all.field-0.results.items =
    c.push_outcomes.ensures.items ∙ ap (λ (results : List (Result ℕ NodeFault)). c.loop-withdrawal.outcomes.items ++ map outcome_of results) c.as_slice-in-Ok-withdraw_all.ensures.value in
    goes_on g.D.Disk.honest g.D.Disk.words c.args.now.now.moment c.args.withdrawal c.in-Ok.chosen.items rest c.args.names.now c.loop-withdrawal.outcomes.items
    c.push_outcomes.new.outcomes.items c.in-Ok-withdraw_all.field-0 c.args.relay.now c.loop-withdrawal.relay c.withdraw_all.new.self c.in-Ok.ensures is i.have
    c.in-Ok-withdraw_all.ensures.withdraws later

pub returns-in-Err-Stopped-clause-failed : goal.returns-in-Err-Stopped-clause-failed
returns-in-Err-Stopped-clause-failed g c =
    let i = c.loop-withdrawal.invariant in
    let count : length c.loop-withdrawal.outcomes.items ≡ vec_len c.loop-withdrawal.outcomes = search rules in
    let rest : List Chosen = take (length c.as_slice.result.now - c.len-done.result) (drop c.len-done.result c.as_slice.result.now) in
    let is : rest ≡ drop (length c.loop-withdrawal.outcomes.items) c.in-Ok.chosen.items =
    rest_of c.as_slice.result.now c.in-Ok.chosen.items c.len-done.result (length c.loop-withdrawal.outcomes.items) c.as_slice.ensures.value (c.len-done.ensures ∙ sym count) in
    fails_next g.D.Disk.honest g.D.Disk.words c.args.now.now.moment c.args.withdrawal c.in-Ok.chosen.items rest c.args.names.now c.loop-withdrawal.outcomes.items
    c.in-Err-Stopped.field-0 c.args.relay.now c.loop-withdrawal.relay c.withdraw_all.new.self c.in-Ok.ensures is i.have c.in-Err-Stopped.field-0-is c.in-Err-Stopped.ensures.refused
