use Rattle.std.proofs.Common.{◌≡◌, ◌++◌, ℕ, List, ap, subst, ◌∙◌}
use Rattle.relay_pieces.specs.Pieces.{text_of}
use Rattle.relay_book.specs.FirstOutline.{ReadsSoFar}
use Rattle.relay_book.proofs.FirstOutlineLemmas.{so_far_none}
use Rattle.relay_book.proofs.book.first_outline.FirstOutline.read_front.Goals as goal

pub returns-in_ok-read-in-Some : goal.returns-in_ok-read-in-Some
returns-in_ok-read-in-Some c = λ octets is.
    let head = c.in-Some.head in
    let block = c.args.block.items in
    let text = text_of c.push.new.self in
    let rest = text_of c.next_begun.new.text in
    let begun = rw c.in-Some.is at c.in_ok-head.ensures in
    let text_is : text ≡ octets ++ block = c.in_ok-push.ensures ∙ ap (λ (l : List ℕ). l ++ block) is in
    c.in_ok-read-in-Some.ensures (octets ++ block)
    (subst (λ (l : List ℕ). ReadsSoFar head.version head.next head.left l c.new-book.result.queue rest) text_is
    (so_far_none head.version text head.next head.left rest c.new-book.result.queue begun.0 begun.1 begun.2 c.new-book.ensures))
