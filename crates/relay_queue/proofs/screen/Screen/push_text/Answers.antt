-- one line after another
use Rattle.std.proofs.Common.{[], take, refl, sym, append-nil}
use Rattle.std.proofs.lemmas.List.{take_rest}
use Rattle.std.proofs.lemmas.Result.{on_ok_weaker}
use Rattle.relay_queue.proofs.TextLemmas.{shown_more, shown_to_end}
use Rattle.relay_queue.proofs.screen.Screen.push_text.Goals as goal

pub loop-place-init : goal.loop-place-init
loop-place-init c = ([], refl, tt, sym (append-nil c.args.self.now))

pub loop-place-preserved : goal.loop-place-preserved
loop-place-preserved c =
    let rest = c.loop-place.rest.now in
    let place = c.in-Some.place in
    rw take_rest (shown_more c.args.text.now rest _ (take place rest) c.args.self.now c.loop-place.self c.push.new.self c.end_line.new.self c.loop-place.invariant c.in-Some.ensures.first c.in_ok-push.ensures c.in_ok-end_line.ensures)

pub returns : goal.returns
returns c =
    on_ok_weaker c.push_last.result
    (λ is. shown_to_end c.args.text.now c.loop-place.rest.now c.args.self.now c.loop-place.self c.push_last.new.self c.loop-place.invariant c.in_default.ensures.first is)
    c.push_last.ensures
