-- A first body that is no snapshot records a first change, or is none.
use Rattle.std.proofs.Common.{◌≡◌, false, ap, refl, sym, subst, rules, ◌∙◌}
use Rattle.relay_pieces.specs.Pieces.{text_of}
use Rattle.relay_book.specs.Queue.{empty_queue}
use Rattle.relay_book.specs.SnapshotFields.{is_of_snapshot}
use Rattle.relay_book.specs.StandsFor.{ReadsNoBody}
use Rattle.relay_book.proofs.FaultLemmas.{no_memory}
use Rattle.relay_book.proofs.FirstLemmas.{no_change_first}
use Rattle.relay_book.proofs.OutlineReadLemmas.{first_change}
use Rattle.relay_book.proofs.PieceLemmas.{kind_in_all}
use Rattle.relay_book.proofs.book.Book.read_first_outline.Goals as goal

pub returns-clause-reads : goal.returns-clause-reads
returns-clause-reads c =
    let body : c.in_ok-into_vec.field-0.items ≡ text_of c.args.body = c.in_ok-into_vec.ensures ∙ c.in_ok-hold_first.ensures.text in
    first_change (text_of c.args.body) c.in_ok-into_vec.field-0.items _ body (c.in_ok-read_next_outline.ensures.reads empty_queue c.new-book.ensures)

pub returns-in_err-read_next_outline-clause-bad : goal.returns-in_err-read_next_outline-clause-bad
returns-in_err-read_next_outline-clause-bad c =
    let held = c.hold_first.new.self in
    let text = text_of c.args.body in
    let same : text_of held ≡ text = c.in_ok-hold_first.ensures.text in
    let first : is_of_snapshot held.front ≡ false = search rules in
    let other : is_of_snapshot text ≡ false = sym (ap is_of_snapshot same) ∙ sym (kind_in_all held c.in_ok-hold_first.ensures.held) ∙ first in
    let body : c.in_ok-into_vec.field-0.items ≡ text = c.in_ok-into_vec.ensures ∙ same in
    λ bad. no_change_first text empty_queue refl other
    (subst (ReadsNoBody empty_queue) body (c.in_err-read_next_outline.ensures.bad empty_queue c.new-book.ensures (search rules)))

pub returns-in_err-hold_first-clause-bad : goal.returns-in_err-hold_first-clause-bad
returns-in_err-hold_first-clause-bad c = no_memory c.from_residual.result c.from_residual.ensures.1

pub returns-in_err-into_vec-clause-bad : goal.returns-in_err-into_vec-clause-bad
returns-in_err-into_vec-clause-bad c = no_memory c.from_residual-in_err-into_vec.result c.from_residual-in_err-into_vec.ensures.1
