use Rattle.std.proofs.Common.{◌≡◌, ◌≤◌, ◌<◌, length, rules, arith}
use Rattle.relay_pieces.specs.Pieces.{text_of}
use Rattle.relay_book.proofs.FirstOutlineLemmas.{below, cut_off, some_after, some_left, whole_outline}
use Rattle.relay_book.proofs.book.read_blocks.end_snapshot.Goals.{then-len-gt0-via-then-len-gt0, then-len-gt0-via-else-len-gt0+then-next_number-head}
use Rattle.relay_book.proofs.book.read_blocks.end_snapshot.Goals as goal

pub returns-then-head-gt0-clause-bad : goal.returns-then-head-gt0-clause-bad
returns-then-head-gt0-clause-bad c = λ octets reading _. cut_off c.args.head octets c.args.book.now.queue (text_of c.args.text.now) reading c.if-head-gt0.true

pub returns-then-head-gt0-2-clause-bad : goal.returns-then-head-gt0-2-clause-bad
returns-then-head-gt0-2-clause-bad c =
    let none = c.if-head-gt0.false in
    λ octets reading _. some_left c.args.head octets c.args.book.now.queue (text_of c.args.text.now) reading (omega (arith, none)) c.if-head-gt0-2.true

pub returns-clause-reads : goal.returns-clause-reads
returns-clause-reads c =
    let none = c.if-head-gt0.false in
    let all = c.if-head-gt0-2.false in
    let ended : length (text_of c.args.text.now) ≡ 0 = search rules in
    λ octets reading.
    whole_outline c.args.head octets c.args.book.now.queue c.skip_to.new.self.queue (text_of c.args.text.now) reading (omega (arith, none)) (omega (arith, all)) ended
    c.skip_to.ensures.next c.skip_to.ensures.messages

pub returns-then-len-gt0-clause-bad : goal.returns-then-len-gt0-clause-bad
returns-then-len-gt0-clause-bad c =
    let none = c.if-head-gt0.false in
    let all = c.if-head-gt0-2.false in
    let queue = c.args.book.now.queue in
    let text = text_of c.args.text.now in
    λ octets reading _.
    elim c.then-len-gt0.branch [
      | then-len-gt0-via-then-len-gt0 w ↦
          (let some = w.if-len-gt0.true in
          let counted = c.len.ensures in
          some_after c.args.head octets queue text reading (omega (arith, none)) (omega (arith, all)) (λ ended. omega (arith, ended, some, counted)))
      | then-len-gt0-via-else-len-gt0+then-next_number-head w ↦
          (let high = w.if-next_number-head.true in
          let number_is = w.next_number.ensures in
          let low = below c.args.head octets queue text reading (omega (arith, none)) in
          absurd (omega (arith, high, number_is, low)))
    ]
