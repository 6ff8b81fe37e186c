use Rattle.std.proofs.Common.{rules}
use Rattle.indexmap.proofs.CallerLemmas.{filter-RetainsPairs}
use Rattle.relay_book.specs.Book.{is_there}
use Rattle.relay_book.proofs.book.entries.keep_queued.Goals as goal

pub returns-clause-entries : goal.returns-clause-entries
returns-clause-entries c = filter-RetainsPairs _ is_there _ (λ k v b w g call. search rules) _ _ c.retain.ensures.filtered
