use Rattle.std.proofs.Common.{◌≡◌, ◌-◌, List, ℕ, drop, length, rules, subst}
use Rattle.relay_book.specs.Fields.{HasNone}
use Rattle.relay_book.specs.FirstOutline.{OutlinesHead}
use Rattle.relay_book.specs.Snapshot.{entry_octets}
use Rattle.relay_book.specs.SnapshotFields.{IsQueuedIn}
use Rattle.relay_book.proofs.FaultLemmas.{fault_passed}
use Rattle.relay_book.proofs.FirstOutlineLemmas.{head_in_text}
use Rattle.relay_book.proofs.decode.outlined.outlined_front.Goals as goal

pub returns-clause-head : goal.returns-clause-head
returns-clause-head c =
    let version = c.args.version in
    let old = c.args.text.now in
    let new = c.advance.new.self in
    let rest = c.in_ok-outline.rest.now in
    let same : c.front-front.result.now ≡ old.front = search rules in
    let left : new.front ≡ drop (length old.front - length rest) old.front = search rules in
    let stays : new.after ≡ old.after = search rules in
    head_in_text version c.args.least c.args.next old new c.in_ok-outline.outline c.in_ok-outline.count rest
    (subst (λ (front : List ℕ). OutlinesHead version c.args.least c.args.next front c.in_ok-outline.outline c.in_ok-outline.count rest) same c.in_ok-outline.ensures.head)
    left stays

pub returns-in_err-outline-clause-bad : goal.returns-in_err-outline-clause-bad
returns-in_err-outline-clause-bad c =
    let same : c.front-front.result.now ≡ c.args.text.now.front = search rules in
    λ bad. subst (HasNone (IsQueuedIn c.args.version c.args.least c.args.next) (entry_octets c.args.version)) same
    (c.in_err-outline.ensures.bad (fault_passed c.from_residual.result _ _ c.from_residual.ensures.1 bad))
