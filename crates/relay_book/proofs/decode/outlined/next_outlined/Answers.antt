use Rattle.std.proofs.Common.{List, ℕ, subst}
use Rattle.relay_pieces.specs.Pieces.{text_of}
use Rattle.relay_book.specs.FirstOutline.{OutlinesHead}
use Rattle.relay_book.proofs.FirstOutlineLemmas.{text_found}
use Rattle.relay_book.proofs.decode.outlined.next_outlined.Goals as goal

pub returns-in-Ok-clause-entry : goal.returns-in-Ok-clause-entry
returns-in-Ok-clause-entry c =
    let version = c.args.version in
    let least = c.args.least in
    let next = c.args.next in
    let mid = text_of c.outlined_front.new.text in
    let outline = c.in-Ok.outline in
    let count = c.in-Ok.count in
    let found = subst (λ (text : List ℕ). OutlinesHead version least next text outline count mid) c.loop-outline.invariant c.in-Ok.ensures.head in
    text_found version least next (text_of c.args.text.now) mid (text_of c.pass_over.new.text) outline count c.in_ok-missing-in-Ok.missing found c.in_ok-missing-in-Ok.ensures.passed
    c.in_ok-missing-in-Ok.ensures.end
