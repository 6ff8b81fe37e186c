-- What stands before the messages was let go.
use Rattle.std.proofs.Common.{◌≡◌, ◌-◌, List, ℕ, drop, length, rules, subst}
use Rattle.relay_book.specs.SnapshotFields.{SpellsSnapshot}
use Rattle.relay_book.proofs.PieceLemmas.{head_in_all}
use Rattle.relay_book.proofs.FaultLemmas.{no_memory}
use Rattle.relay_book.proofs.book.snapshot.next_head.Goals as goal

pub returns-clause-head : goal.returns-clause-head
returns-clause-head c =
    let held = c.hold_first.new.self in
    let rest = c.in-Some.rest.now in
    let left : c.advance.new.self.front ≡ drop (length held.front - length rest) held.front = search rules in
    let stays : c.advance.new.self.after ≡ held.after = search rules in
    let same : c.front-front.result.now ≡ held.front = search rules in
    head_in_all c.in-Some.version _ held c.advance.new.self c.in-Some.next c.in-Some.count rest
    (subst (λ (front : List ℕ). SpellsSnapshot c.in-Some.version front c.in-Some.next c.in-Some.count rest) same c.in-Some.ensures)
    c.in_ok-hold_first.ensures.text left stays

pub returns-in_err-hold_first-clause-bad : goal.returns-in_err-hold_first-clause-bad
returns-in_err-hold_first-clause-bad c = no_memory c.from_residual.result c.from_residual.ensures.1
