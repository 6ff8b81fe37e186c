-- A search finds the text exactly if it is somewhere.
use Rattle.std.proofs.Common.{refl, sym, true≢false}
use Rattle.relay_log.proofs.ReportKindLemmas.{found_stands, not_found}
use Rattle.relay_log.proofs.report_kind.has_text.Goals as goal

pub returns-in-Some : goal.returns-in-Some
returns-in-Some c = ((λ _. found_stands c.args.octets.now c.args.text.now c.in-Some.field-0 c.in-Some.ensures), (λ _. refl))

pub returns-in-None : goal.returns-in-None
returns-in-None c = (
  (λ is. absurd (true≢false (sym is))),
  (λ stands. absurd (not_found c.args.octets.now c.args.text.now c.in-None.ensures stands)),
)
