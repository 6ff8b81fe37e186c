use Rattle.std.proofs.Common.{◌≡◌, ◌∙◌, List, [], ℕ, sym, ap, rules}
use Rattle.relay_book.specs.declared.message.Message.{Message}
use Rattle.relay_attempts.specs.Hops.{stranded_of}
use Rattle.relay_attempts.proofs.OpenLemmas.{idle_serves}
use Rattle.relay_attempts.proofs.attempts.Attempts.idle.Goals as goal

pub returns-clause-serves : goal.returns-clause-serves
returns-clause-serves c = λ host table queue none.
    let empty : c.new-2.result.items ≡ [] = search rules in
    idle_serves host table _ queue c.in_ok-new.ensures.free
    (empty ∙ sym (ap (λ (l : List (ℕ × Message)). stranded_of table l) none))
