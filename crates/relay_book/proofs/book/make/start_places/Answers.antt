use Rattle.std.proofs.Common.{◌<◌, ap, refl, subst, ◌∙◌, ◌∷◌, ◌++◌, [], List, length, false}
use Rattle.relay_envelope.specs.declared.envelope.Recipient.{Recipient}
use Rattle.relay_book.specs.Queue.{held_place}
use Rattle.relay_book.proofs.RowLemmas.{map_step}
use Rattle.relay_book.proofs.book.make.start_places.Goals as goal

pub loop-preserved : goal.loop-preserved
loop-preserved c =
    let made = held_place 0 false c.args.accept.now.at in
    map_step (λ (recipient : Recipient). made) made (λ _. refl) c.args.accept.now.envelope.recipients c.loop.index c.loop.items.items c.push.new.self.items _
    (subst (λ (l : List Recipient). c.loop.index < length l) c.as_slice-items.ensures c.loop-test.true)
    c.loop.invariant (c.in_ok-push.ensures.items ∙ ap (λ n. c.loop.items.items ++ held_place 0 false n ∷ []) c.seconds.ensures.seconds)
