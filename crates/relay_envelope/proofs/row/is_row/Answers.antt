-- A length says that the text is a row exactly where it is the text's.
use Rattle.std.proofs.Common.{◌≢◌, ℕ, arith}
use Rattle.std.proofs.lemmas.Bool.{false≢true}
use Rattle.relay_envelope.proofs.RowLemmas.{whole_row, no_row}
use Rattle.relay_envelope.proofs.row.is_row.Goals as goal

no_quote : ◌≢◌ {A = ℕ} 62 34
no_quote e = omega arith

pub returns-in-Some : goal.returns-in-Some
returns-in-Some c = whole_row 62 c.args.text.now c.in-Some.len no_quote c.in-Some.ensures.value

pub returns-in-None : goal.returns-in-None
returns-in-None c = (λ h. absurd (false≢true h), λ is_row. absurd (no_row 62 c.args.text.now no_quote c.in-None.ensures.value is_row))
