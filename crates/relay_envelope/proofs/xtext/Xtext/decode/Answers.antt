use Rattle.std.proofs.Common.{Some, sym, ap, ◌∙◌}
use Rattle.relay_envelope.proofs.XtextLemmas.{decoded_done}
use Rattle.relay_envelope.proofs.xtext.Xtext.decode.Goals as goal

pub returns-then-is_empty-clause-decoded : goal.returns-then-is_empty-clause-decoded
returns-then-is_empty-clause-decoded c =
    decoded_done c.loop-octet.octets.items c.loop-octet.rest.now c.args.text.now (sym c.is_empty.ensures ∙ c.if-is_empty.true) c.loop-octet.invariant ∙ ap (λ l. Some l) (sym c.new.ensures)
