-- One message more has its result; the row is full; or memory runs out.
use Rattle.std.proofs.Common.{◌≡◌, ◌<◌, List, [], ◌∷◌, ◌++◌, length, map, take, get_or, Result, ℕ, sym, subst, arith, rules}
use Rattle.relay_records.specs.declared.fault.NodeFault.{NodeFault}
use Rattle.relay_loop.specs.GroupPieces.{IsLaden}
use Rattle.relay_loop.specs.Withdrawing.{MessagePlaces, choice_of}
use Rattle.relay_loop.proofs.WithdrawingLemmas.{Goes, chosen_more, goes_nowhere, goes_on, no_chosen, stood_full, stood_short, stood_whole}
use Rattle.relay_loop.proofs.relay.Relay.withdraw_some.Goals as goal

pub loop-places-preserved : goal.loop-places-preserved
loop-places-preserved g c =
    let index : c.loop-places.places-index < length c.args.chosen.now = omega arith in
    let front = map choice_of (take c.loop-places.places-index c.args.chosen.now) in
    let one = choice_of (get_or c.args.chosen.now c.loop-places.places-index no_chosen) in
    let goes =
    goes_on g.D.Disk.honest g.D.Disk.words c.args.now c.args.withdrawal c.args.self.now c.args.row.now front c.loop-places.results.items c.loop-places.self
    c.withdraw_one.new.self c.loop-places.row c.withdraw_one.new.row one c.in-Some.result c.loop-places.invariant.goes c.in-Some.ensures in
    let room = c.loop-places.invariant.room in
    let grows = c.push_reserved.ensures.len in
    let keeps = c.push_reserved.ensures.capacity in
    record {
      goes =
          subst (λ (l : List MessagePlaces). Goes g.D.Disk.honest g.D.Disk.words c.args.now c.args.withdrawal c.args.self.now c.args.row.now l c.push_reserved.new.self.items c.withdraw_one.new.self c.withdraw_one.new.row)
          (sym (chosen_more c.args.chosen.now c.loop-places.places-index index))
          (subst (λ (l : List (Result ℕ NodeFault)). Goes g.D.Disk.honest g.D.Disk.words c.args.now c.args.withdrawal c.args.self.now c.args.row.now (front ++ one ∷ []) l c.withdraw_one.new.self c.withdraw_one.new.row) {y = c.push_reserved.new.self.items} (sym {A = List (Result ℕ NodeFault)} c.push_reserved.ensures.items) goes);
      room = omega (arith, index, room, grows, keeps);
    }

pub returns-then-is_laden-clause-some : goal.returns-then-is_laden-clause-some
returns-then-is_laden-clause-some g c =
    let index : c.loop-places.places-index < length c.args.chosen.now = omega arith in
    let laden : IsLaden c.loop-places.row = search rules in
    (stood_full g.D.Disk.honest g.D.Disk.words c.args.now c.args.withdrawal c.args.self.now c.args.row.now c.args.chosen.now c.loop-places.places-index
    c.loop-places.results.items c.loop-places.self c.loop-places.row index c.loop-places.invariant.goes laden).some

pub returns-in_default-clause-some : goal.returns-in_default-clause-some
returns-in_default-clause-some g c =
    let index : c.loop-places.places-index < length c.args.chosen.now = omega arith in
    let light : IsLaden c.loop-places.row → ⊥ = search rules in
    (stood_short g.D.Disk.honest g.D.Disk.words c.args.now c.args.withdrawal c.args.self.now c.args.row.now c.args.chosen.now c.loop-places.places-index
    c.loop-places.results.items c.loop-places.self c.withdraw_one.new.self c.loop-places.row c.withdraw_one.new.row index c.loop-places.invariant.goes light
    c.in_default.ensures.0 c.in_default.ensures.1 c.in_default.ensures.2).some
