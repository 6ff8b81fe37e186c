use Rattle.std.proofs.Common.{None, arith, ap, sym, ◌∙◌}
use Rattle.std.specs.Option.{option_and_then, option_map, unwrap_or}
use Rattle.relay_next_hops.specs.Hearing.{hearing_of}
use Rattle.relay_next_hops.proofs.ReadLemmas.{slot_read}
use Rattle.relay_next_hops.proofs.hops.Hops.hearing_at.Goals as goal

pub returns-in-Some-Some : goal.returns-in-Some-Some
returns-in-Some-Some g c =
    let read = slot_read (λ x. x.now) c.get.result c.standing.result.now c.args.self.now.hops c.args.number
    (c.get.ensures.lookup.4 (omega arith)) c.standing.ensures.slots in
    let there = read ∙ ap (λ o. unwrap_or (option_map (λ x. x.now) o) None) c.in-Some-Some.is ∙ c.in-Some-Some.field-0-is in
    c.hearing.ensures ∙ sym (ap (option_and_then hearing_of) there)

pub returns-in-Some-None : goal.returns-in-Some-None
returns-in-Some-None g c =
    let read = slot_read (λ x. x.now) c.get.result c.standing.result.now c.args.self.now.hops c.args.number
    (c.get.ensures.lookup.4 (omega arith)) c.standing.ensures.slots in
    let there = read ∙ ap (λ o. unwrap_or (option_map (λ x. x.now) o) None) c.in-Some-None.is ∙ c.in-Some-None.field-0-is in
    sym (ap (option_and_then hearing_of) there)

pub returns-in-None : goal.returns-in-None
returns-in-None g c =
    let read = slot_read (λ x. x.now) c.get.result c.standing.result.now c.args.self.now.hops c.args.number
    (c.get.ensures.lookup.4 (omega arith)) c.standing.ensures.slots in
    let there = read ∙ ap (λ o. unwrap_or (option_map (λ x. x.now) o) None) c.in-None.is in
    sym (ap (option_and_then hearing_of) there)
