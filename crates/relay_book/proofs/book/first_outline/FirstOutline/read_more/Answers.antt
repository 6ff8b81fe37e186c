use Rattle.std.proofs.Common.{◌≡◌, ◌++◌, ◌≤◌, ℕ, List, ap, drop, length, ◌∙◌, arith, rules}
use Rattle.relay_pieces.specs.Pieces.{text_of}
use Rattle.relay_book.proofs.FirstOutlineLemmas.{reading_after}
use Rattle.relay_book.proofs.book.first_outline.FirstOutline.read_more.Goals as goal

pub returns : goal.returns
returns c = λ octets reading.
    let head = c.args.head in
    let block = c.args.block.items in
    let text = text_of c.args.self.now.text in
    let past = c.if-head-len.false in
    let long : c.len.result ≡ length block = search rules in
    let within : head.skip ≤ length block = omega (arith, past, long) in
    let text_is : text_of c.push.new.self ≡ text ++ drop head.skip block =
    c.in_ok-push.ensures ∙ ap (λ (l : List ℕ). text ++ l) c.after-rest.ensures in
    c.in_ok-read.ensures (octets ++ block) (reading_after head octets block c.args.self.now.book.queue text (text_of c.push.new.self) reading within text_is)
