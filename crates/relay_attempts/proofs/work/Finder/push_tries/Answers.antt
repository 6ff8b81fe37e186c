use Rattle.std.proofs.Common.{◌≡◌, List, get_or, slice_get, Some, rules, subst}
use Rattle.std.proofs.lemmas.Option.{slice_get-get_or}
use Rattle.relay_book.specs.declared.message.Place.{Place}
use Rattle.relay_book.specs.Queue.{left_place}
use Rattle.relay_attempts.proofs.WorkLemmas.{tries_step}
use Rattle.relay_attempts.proofs.work.Finder.push_tries.Goals as goal

pub loop-index-preserved : goal.loop-index-preserved
loop-index-preserved c =
    let places = c.as_slice-place-items.result.now in
    let place = get_or places c.loop-index.index left_place in
    let at =
    subst (λ (l : List Place). slice_get l c.loop-index.index ≡ Some place) c.as_slice-place-items.ensures.value
    (slice_get-get_or places c.loop-index.index left_place c.loop-index-test.true) in
    tries_step c.args.self.now.runs.now c.args.number c.args.self.now.table.now c.args.self.now.at c.args.message.now.accept.envelope.recipients
    c.args.message.now.places c.loop-index.index c.len-start.result place _ c.args.works.now.items c.loop-index.works.items c.push_try.new.works.items
    c.due_hop.ensures at (search rules) c.loop-index.invariant c.in_ok-push_try.ensures
