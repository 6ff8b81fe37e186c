-- A first body that is no snapshot records a first change, or is none.
use Rattle.std.proofs.Common.{◌≡◌, false, ap, sym, subst, rules, ◌∙◌}
use Rattle.relay_pieces.specs.Pieces.{text_of}
use Rattle.relay_book.specs.SnapshotFields.{is_of_snapshot}
use Rattle.relay_book.specs.StandsFor.{ReadsNoBody}
use Rattle.relay_book.proofs.FirstLemmas.{no_change_first}
use Rattle.relay_book.proofs.PieceLemmas.{kind_in_all}
use Rattle.relay_book.proofs.FaultLemmas.{no_memory}
use Rattle.relay_book.proofs.book.Book.read_first.Goals as goal

pub returns-in_err-read_next-clause-bad : goal.returns-in_err-read_next-clause-bad
returns-in_err-read_next-clause-bad c =
    let held = c.hold_first.new.self in
    let text = text_of c.args.body in
    let same : text_of held ≡ text = c.in_ok-hold_first.ensures.text in
    let first : is_of_snapshot held.front ≡ false = search rules in
    let other : is_of_snapshot text ≡ false = sym (ap is_of_snapshot same) ∙ sym (kind_in_all held c.in_ok-hold_first.ensures.held) ∙ first in
    let body : c.in_ok-into_vec.field-0.items ≡ text = c.in_ok-into_vec.ensures ∙ same in
    λ bad. no_change_first text c.new-book.result.queue (search rules) other
    (subst (ReadsNoBody c.new-book.result.queue) body (c.in_err-read_next.ensures.bad (search rules)))

pub returns-in_err-hold_first-clause-bad : goal.returns-in_err-hold_first-clause-bad
returns-in_err-hold_first-clause-bad c = no_memory c.from_residual.result c.from_residual.ensures.1

pub returns-in_err-into_vec-clause-bad : goal.returns-in_err-into_vec-clause-bad
returns-in_err-into_vec-clause-bad c = no_memory c.from_residual-in_err-into_vec.result c.from_residual-in_err-into_vec.ensures.1
