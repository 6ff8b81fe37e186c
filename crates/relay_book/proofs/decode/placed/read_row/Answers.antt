use Rattle.relay_book.proofs.PlacedLemmas.{no_placed_row, row_read}
use Rattle.relay_book.proofs.FaultLemmas.{no_memory}
use Rattle.relay_book.proofs.decode.placed.read_row.Goals as goal

pub loop-index-preserved : goal.loop-index-preserved
loop-index-preserved c =
    row_read c.args.version c.loop-index.index c.args.text.now c.loop-index.recipients c.loop-index.places.items c.loop-index.rest.now c.in_ok-new-in-Some.field-0 _ c.in-Some.place
    c.in-Some.after.now c.push.new.self c.push_place.new.places.items c.loop-index.invariant c.in-Some.ensures.0 c.in-Some.ensures.1 c.in_ok-new-in-Some.ensures
    c.in_ok-push-in-Some.ensures.ok c.in_ok-push_place-in-Some.ensures

pub returns-in-None-clause-bad : goal.returns-in-None-clause-bad
returns-in-None-clause-bad c =
    λ _. no_placed_row c.args.version c.args.count c.loop-index.index c.args.text.now c.loop-index.recipients c.loop-index.places.items c.loop-index.rest.now
    c.loop-index-test.true c.loop-index.invariant c.in-None.ensures

pub returns-in_err-recipients-clause-bad : goal.returns-in_err-recipients-clause-bad
returns-in_err-recipients-clause-bad c = no_memory c.from_residual.result c.from_residual.ensures.1

pub returns-in_err-places-clause-bad : goal.returns-in_err-places-clause-bad
returns-in_err-places-clause-bad c = no_memory c.from_residual-in_err-places.result c.from_residual-in_err-places.ensures.1

pub returns-in_err-new-in-Some-clause-bad : goal.returns-in_err-new-in-Some-clause-bad
returns-in_err-new-in-Some-clause-bad c = no_memory c.from_residual-in_err-new-in-Some.result c.from_residual-in_err-new-in-Some.ensures.1

pub returns-in_err-push-in-Some-clause-bad : goal.returns-in_err-push-in-Some-clause-bad
returns-in_err-push-in-Some-clause-bad c = no_memory c.from_residual-in_err-push-in-Some.result c.from_residual-in_err-push-in-Some.ensures.1

pub returns-in_err-push_place-in-Some-clause-bad : goal.returns-in_err-push_place-in-Some-clause-bad
returns-in_err-push_place-in-Some-clause-bad c = no_memory c.from_residual-in_err-push_place-in-Some.result c.from_residual-in_err-push_place-in-Some.ensures.1
