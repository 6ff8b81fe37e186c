use Rattle.std.proofs.Common.{◌≡◌, List, ℕ, [], ◌∷◌, ◌++◌, OnOk, get_or, take, sym, ap, ◌∙◌, subst, append-nil}
use Rattle.std.specs.List.{flat_map}
use Rattle.relay_lines.specs.Reply.{last_line, middle_line}
use Rattle.relay_lines.proofs.ReplyLemmas.{all_written, begins_more, line_more}
use Rattle.relay_lines.proofs.reply.push_lines.Goals as goal

pub returns-clause-ok : goal.returns-clause-ok
returns-clause-ok c =
    let cases = c.in-Some.ensures.cases in
    let whole =
    all_written c.args.out.now.items c.loop-text.out.items c.args.code c.loop-text.text-index c.in-Some.middle.now c.args.lines.now c.as_slice-2.result.now c.loop-text.invariant c.loop-text-test.false
    (cases.0 ∙ ap (λ (x : List ℕ). c.in-Some.middle.now ++ x ∷ []) (sym c.as_slice-2.ensures)) in
    let text = c.as_slice-2.result.now in
    let plain = ap (λ (l : List ℕ). c.loop-text.out.items ++ last_line c.args.code l) (append-nil text) in
    subst (λ (l : List ℕ). OnOk c.push_last.result (c.push_last.new.out.items ≡ l))
    (plain ∙ whole) c.push_last.ensures.ok

pub returns-clause-front : goal.returns-clause-front
returns-clause-front c =
    begins_more c.args.out.now.items c.loop-text.out.items c.push_last.new.out.items
    (flat_map (middle_line c.args.code) (take c.loop-text.text-index c.in-Some.middle.now)) c.loop-text.invariant c.push_last.ensures.front

pub returns-in_err-push_reply_line-clause-front : goal.returns-in_err-push_reply_line-clause-front
returns-in_err-push_reply_line-clause-front c =
    begins_more c.args.out.now.items c.loop-text.out.items c.push_reply_line.new.out.items
    (flat_map (middle_line c.args.code) (take c.loop-text.text-index c.in-Some.middle.now)) c.loop-text.invariant
    c.push_reply_line.ensures.front

pub loop-text-preserved : goal.loop-text-preserved
loop-text-preserved c =
    let middle = c.in-Some.middle.now in
    let index = c.loop-text.text-index in
    let text = c.as_slice.result.now in
    let same = c.as_slice.ensures in
    let plain = ap (λ (l : List ℕ). c.loop-text.out.items ++ middle_line c.args.code l) (append-nil text) in
    line_more c.args.out.now.items c.loop-text.out.items c.push_reply_line.new.out.items c.args.code index middle text
    c.loop-text-test.true c.loop-text.invariant
    (subst (λ (t : List ℕ). t ≡ get_or middle index t) (sym same) c.text-item.is) (c.in_ok-push_reply_line.ensures.ok ∙ plain)
