use Rattle.relay_book.proofs.OutlineLemmas as lemma
use Rattle.relay_book.proofs.outline_laws.outline_steps.Goals as goal

pub returns : goal.returns
returns c = lemma.outline_steps
