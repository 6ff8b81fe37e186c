use Rattle.std.proofs.Common.{None, Some, arith, ap, sym, ◌∙◌}
use Rattle.std.specs.Option.{option_map, unwrap_or}
use Rattle.relay_connections.specs.Channel.{unread_of}
use Rattle.relay_next_hops.specs.Hearing.{reply_of, told_of}
use Rattle.relay_next_hops.proofs.ReadLemmas.{slot_read}
use Rattle.relay_next_hops.proofs.hops.Hops.reply_at.Goals as goal

pub returns-in_err-attempt : goal.returns-in_err-attempt
returns-in_err-attempt g c =
    let read = slot_read (λ x. x.now) c.get.result c.standing.result.now c.args.self.now.hops c.args.number
    (c.get.ensures.lookup.4 (omega arith)) c.standing.ensures.slots in
    let there = read ∙ ap (λ o. unwrap_or (option_map (λ x. x.now) o) None) c.in-Some-Some.is ∙ c.in-Some-Some.field-0-is in
    let unread = unread_of c.in-Some-Some.hop.channel in
    ap (option_map told_of) c.from_residual.ensures
    ∙ ap (option_map (λ attempt. (attempt, unread))) c.in_err-attempt.ensures ∙ sym (ap reply_of there)

pub returns : goal.returns
returns g c =
    let read = slot_read (λ x. x.now) c.get.result c.standing.result.now c.args.self.now.hops c.args.number
    (c.get.ensures.lookup.4 (omega arith)) c.standing.ensures.slots in
    let there = read ∙ ap (λ o. unwrap_or (option_map (λ x. x.now) o) None) c.in-Some-Some.is ∙ c.in-Some-Some.field-0-is in
    let unread = unread_of c.in-Some-Some.hop.channel in
    ap (λ octets. Some (c.in_ok-attempt.attempt, octets)) c.piece-octets.ensures
    ∙ ap (option_map (λ attempt. (attempt, unread))) c.in_ok-attempt.ensures ∙ sym (ap reply_of there)
