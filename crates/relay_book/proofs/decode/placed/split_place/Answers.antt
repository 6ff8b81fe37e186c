use Rattle.std.proofs.Common.{rules, ◌≡◌, ◌∷◌}
use Rattle.relay_book.proofs.PlacedLemmas.{no_due}
use Rattle.relay_book.proofs.decode.placed.split_place.Goals as goal

pub returns-in-None : goal.returns-in-None
returns-in-None c =
    let is : c.args.text.now ≡ c.in_ok-held.held.now ∷ c.in_ok-held.after.now = search rules in
    let then : c.in_ok-held.after.now ≡ c.in_ok-laters.laters.now ∷ c.in_ok-laters.after.now = search rules in
    no_due c.args.version c.args.text.now c.in_ok-held.held.now c.in_ok-held.after.now c.in_ok-laters.laters.now c.in_ok-laters.after.now c.in_ok-delayed.delayed
    c.in_ok-delayed.after.now is then c.in_ok-delayed.ensures c.in-None.ensures
