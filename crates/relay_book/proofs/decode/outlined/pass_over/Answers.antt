use Rattle.std.proofs.Common.{◌≡◌, ◌-◌, drop, length, min, rules, arith, List, ℕ, subst, sym, refl}
use Rattle.relay_pieces.specs.Pieces.{text_of}
use Rattle.relay_book.specs.FirstOutline.{PassesOver}
use Rattle.relay_book.proofs.FirstOutlineLemmas.{passes_on}
use Rattle.relay_book.proofs.decode.outlined.pass_over.Goals as goal

pub returns-then-missing-eq0-clause-passed : goal.returns-then-missing-eq0-clause-passed
returns-then-missing-eq0-clause-passed c =
    let here_is : c.min-here.result ≡ min (length c.loop-missing.text.front) c.loop-missing.missing = search rules in
    let left : c.advance.new.self.front ≡ drop c.min-here.result c.loop-missing.text.front = search rules in
    let stays : c.advance.new.self.after ≡ c.loop-missing.text.after = search rules in
    let none : c.loop-missing.missing - c.min-here.result ≡ 0 = c.if-missing-eq0.true in
    passes_on (text_of c.args.text.now) c.loop-missing.text c.advance.new.self c.loop-missing.missing c.min-here.result 0 c.args.count c.loop-missing.invariant here_is left stays
    (sym none)

pub loop-missing-preserved : goal.loop-missing-preserved
loop-missing-preserved c =
    let here_is : c.min-here.result ≡ min (length c.loop-missing.text.front) c.loop-missing.missing = search rules in
    let left : c.advance.new.self.front ≡ drop c.min-here.result c.loop-missing.text.front = search rules in
    let stays : c.advance.new.self.after ≡ c.loop-missing.text.after = search rules in
    let same : text_of c.take_up.new.self ≡ text_of c.advance.new.self = search rules in
    let fewer = c.loop-missing.missing - c.min-here.result in
    subst (λ (now : List ℕ). PassesOver (text_of c.args.text.now) now fewer c.args.count) (sym same)
    (passes_on (text_of c.args.text.now) c.loop-missing.text c.advance.new.self c.loop-missing.missing c.min-here.result fewer c.args.count c.loop-missing.invariant here_is left stays
    refl)
