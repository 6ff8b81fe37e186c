-- What is listed of it stays.
use Rattle.std.proofs.Common.{false, inl, inr, refl, sym, ap, ◌∙◌}
use Rattle.relay_book.specs.Queue.{message_of}
use Rattle.relay_lanes.specs.Numbers.{Walk, with_newer}
use Rattle.relay_next_hops.proofs.KnownLemmas.{noted_none, noted_some, ok_of}
use Rattle.relay_next_hops.proofs.lanes.Lanes.take_one.Goals as goal

pub returns-then-is_err-clause-listed : goal.returns-then-is_err-clause-listed
returns-then-is_err-clause-listed g c = c.add.ensures.listed

pub returns-then-not-add-clause-noted : goal.returns-then-not-add-clause-noted
returns-then-not-add-clause-noted g c =
    noted_none (with_newer c.args.number) (message_of c.args.relay.now.node.records.queue.messages c.args.number) c.add.result c.args.self.now c.add.new.self
    c.add.ensures.found c.if-not-add.true c.add.ensures.walk.0 c.add.ensures.numbers.all

pub returns-then-is_err-clause-noted : goal.returns-then-is_err-clause-noted
returns-then-is_err-clause-noted g c =
    noted_some (with_newer c.args.number) (message_of c.args.relay.now.node.records.queue.messages c.args.number) c.add.result c.args.self.now (record c.add.new.self { queued = c.push.new.self; knows_all = false })
    c.add.ensures.found c.if-not-add.false (inr refl)

pub returns-else-is_err-clause-noted : goal.returns-else-is_err-clause-noted
returns-else-is_err-clause-noted g c =
    noted_some (with_newer c.args.number) (message_of c.args.relay.now.node.records.queue.messages c.args.number) c.add.result c.args.self.now (record c.add.new.self { queued = c.push.new.self })
    c.add.ensures.found c.if-not-add.false
    (inl (ok_of _ c.push.result (sym c.is_err.ensures.value ∙ c.if-is_err.false) c.push.ensures.pushed ∙ ap (λ (walk : Walk). with_newer c.args.number walk) c.add.ensures.walk.0, c.add.ensures.numbers.all))
