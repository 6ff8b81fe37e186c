-- What stands before the messages was let go.
use Rattle.std.proofs.Common.{◌≡◌, ◌-◌, List, ℕ, drop, length, refl, rules, subst, arith}
use Rattle.relay_book.specs.SnapshotFields.{SpellsSnapshot}
use Rattle.relay_book.proofs.PieceLemmas.{head_in_all}
use Rattle.relay_book.proofs.book.read_blocks.next_begun.Goals as goal

pub returns : goal.returns
returns c =
    let held = c.hold_first.new.self in
    let rest = c.in-Some.rest.now in
    let left : c.advance.new.self.front ≡ drop (length held.front - length rest) held.front = search rules in
    let stays : c.advance.new.self.after ≡ held.after = search rules in
    let same : c.front-front.result.now ≡ held.front = search rules in
    let low = c.if-next-lt1.false in
    let high = c.if-next.false in (
      head_in_all c.in-Some.version _ held c.advance.new.self c.in-Some.next c.in-Some.count rest
          (subst (λ (front : List ℕ). SpellsSnapshot c.in-Some.version front c.in-Some.next c.in-Some.count rest) same c.in-Some.ensures)
          c.in_ok-hold_first.ensures.text left stays,
      omega (arith, low),
      omega (arith, high),
      refl,
    )
