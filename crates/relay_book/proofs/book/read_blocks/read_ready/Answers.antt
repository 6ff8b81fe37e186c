-- One outline more was put into the book.
use Rattle.std.proofs.Common.{◌≡◌, ◌-◌, ◌+◌, rules, arith, sym, ◌∙◌}
use Rattle.relay_pieces.specs.Pieces.{text_of}
use Rattle.relay_book.proofs.FirstOutlineLemmas.{reading_within, so_far_whole}
use Rattle.relay_book.proofs.book.read_blocks.read_ready.Goals as goal

pub returns-then-missing-gt0 : goal.returns-then-missing-gt0
returns-then-missing-gt0 c =
    let least_is : c.next_number-least.result ≡ c.loop-index.book.queue.next = search rules in
    let inside = c.loop-index-test.true in
    λ octets start.
    reading_within _ octets c.loop-index.book.queue c.restore.new.self.queue (text_of c.loop-index.text) (text_of c.next_outlined.new.text) (c.args.head.left - c.loop-index.index)
    c.next_number-least.result c.in-Ok.outline c.if-missing-gt0.true (c.loop-index.invariant octets start) c.in-Ok.ensures.entry c.in-Ok.ensures.end least_is (omega (arith, inside))
    c.in_ok-restore-in-Ok.ensures.next c.in_ok-restore-in-Ok.ensures.messages

pub loop-index-preserved : goal.loop-index-preserved
loop-index-preserved c =
    let least_is : c.next_number-least.result ≡ c.loop-index.book.queue.next = search rules in
    let inside = c.loop-index-test.true in
    let zero = c.if-missing-gt0.false in
    let none : c.in-Ok.missing ≡ 0 = omega (arith, zero) in
    λ octets start.
    so_far_whole c.args.head.version c.args.head.next (c.args.head.left - c.loop-index.index) (c.args.head.left - (c.loop-index.index + 1)) c.next_number-least.result octets
    c.loop-index.book.queue (text_of c.loop-index.text) c.in-Ok.outline (text_of c.next_outlined.new.text) c.restore.new.self.queue (c.loop-index.invariant octets start)
    (λ more long. c.in-Ok.ensures.entry more (long ∙ sym none)) least_is (omega (arith, inside)) c.in_ok-restore-in-Ok.ensures.next c.in_ok-restore-in-Ok.ensures.messages
