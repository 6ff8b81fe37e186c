-- The places of a message end, or they are refused, and nothing has changed.
use Rattle.std.proofs.Common.{◌≡◌, Err, Result, ℕ, refl, rules, true}
use Rattle.relay_records.specs.declared.fault.NodeFault.{NodeFault}
use Rattle.relay_records.specs.declared.fault.NodeFault.TheVariants.{NoMemory}
use Rattle.relay_loop.specs.Relay.{RelayState}
use Rattle.relay_loop.specs.Withdrawing.{choice_of}
use Rattle.relay_loop.proofs.WithdrawingLemmas.{one_by, short_by}
use Rattle.relay_loop.proofs.relay.Relay.withdraw_one.Goals as goal

pub returns-then-is_no_memory : goal.returns-then-is_no_memory
returns-then-is_no_memory g c = rw (← c.self.view_is) (
    let old : RelayState g.row.D.Denot = record { node = c.self.inside.node; clients = c.self.inside.clients; hops = c.self.inside.hops } in
    let new : RelayState g.row.D.Denot = record { node = c.withdraw_into-answer.new.self; clients = c.self.inside.clients; hops = c.self.inside.hops } in
    let live : c.self.inside.node.records.spool.live ≡ true = search rules in
    let rest = c.withdraw_into-answer.ensures.rest in
    let is : c.withdraw_into-answer.result ≡ Err NoMemory = search rules in
    short_by g.D.Disk.words c.args.now c.args.withdrawal (choice_of c.args.chosen.now) old c.args.row.now new c.withdraw_into-answer.new.row
    c.withdraw_into-answer.result (record { config = rest.0; seats = rest.1; attempts = rest.2; clients = refl; hops = refl }) is
    (c.withdraw_into-answer.ensures.refused live))

pub returns : goal.returns
returns g c = rw (← c.self.view_is) (
    let old : RelayState g.row.D.Denot = record { node = c.self.inside.node; clients = c.self.inside.clients; hops = c.self.inside.hops } in
    let new : RelayState g.row.D.Denot = record { node = c.withdraw_into-answer.new.self; clients = c.self.inside.clients; hops = c.self.inside.hops } in
    let live : c.self.inside.node.records.spool.live ≡ true = search rules in
    let rest = c.withdraw_into-answer.ensures.rest in
    let other : c.withdraw_into-answer.result ≡ Err NoMemory → ⊥ = search rules in
    one_by g.D.Disk.words c.args.now c.args.withdrawal (choice_of c.args.chosen.now) old c.args.row.now new c.withdraw_into-answer.new.row
    c.withdraw_into-answer.result c.requires.room (record { config = rest.0; seats = rest.1; attempts = rest.2; clients = refl; hops = refl }) other
    c.withdraw_into-answer.ensures.stages (c.withdraw_into-answer.ensures.refused live))
