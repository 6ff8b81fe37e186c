use Rattle.std.proofs.Common.{sym, ◌∙◌}
use Rattle.relay_trace.proofs.EndLemmas.{begins_empty, begins_filled, end_found, no_end_found}
use Rattle.relay_trace.proofs.header.header_end.Goals as goal

pub returns-then-starts_with : goal.returns-then-starts_with
returns-then-starts_with c =
    begins_empty c.args.text.now (sym c.starts_with.ensures.value ∙ c.if-starts_with.true)

pub returns-in-Some : goal.returns-in-Some
returns-in-Some c =
    let filled = begins_filled c.args.text.now (sym c.starts_with.ensures.value ∙ c.if-starts_with.false) in
    end_found c.args.text.now c.in-Some.place filled c.in-Some.ensures.0 c.in-Some.ensures.1

pub returns-in-None : goal.returns-in-None
returns-in-None c =
    let filled = begins_filled c.args.text.now (sym c.starts_with.ensures.value ∙ c.if-starts_with.false) in
    no_end_found c.args.text.now filled c.in-None.ensures
