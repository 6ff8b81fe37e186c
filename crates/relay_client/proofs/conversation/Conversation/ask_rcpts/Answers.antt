use Rattle.std.proofs.Common.{◌≡◌, ◌∷◌, ◌+◌, drop, ap, sym, ◌∙◌, ℕ, arith}
use Rattle.std.proofs.lemmas.List.{drop_more}
use Rattle.relay_client.proofs.DoesLemmas.{asks_on_step, asks_on_end, drop_past}
use Rattle.relay_client.proofs.conversation.Conversation.ask_rcpts.Goals as goal

pub returns : goal.returns
returns c = λ delivery old h is.
    let now = c.loop-self.self in
    asks_on_end delivery old _ c.args.out.now.items c.loop-self.out.items
    (drop_past now.places.items now.asked (omega (arith, c.loop-self-test.false, c.len.ensures)))
    (c.loop-self.invariant delivery old h is)

pub loop-self-preserved : goal.loop-self-preserved
loop-self-preserved c = λ delivery old h is.
    let now = c.loop-self.self in
    let place = c.index-place.result.now in
    let after = drop (now.asked + 1) now.places.items in
    let e : drop now.asked now.places.items ≡ place ∷ after =
    drop_more now.places.items now.asked place (omega (arith, c.loop-self-test.true, c.len.ensures))
    ∙ ap (λ (p : ℕ). p ∷ after) (sym c.index-place.ensures) in
    asks_on_step delivery old now c.ask_rcpt.new.self c.args.out.now.items c.loop-self.out.items
    c.ask_rcpt.new.out.items _ after e
    (λ m hm. c.in_ok-ask_rcpt.ensures.does delivery m after hm is e) (c.loop-self.invariant delivery old h is)
