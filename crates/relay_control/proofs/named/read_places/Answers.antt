use Rattle.relay_control.proofs.NamedLemmas.{all_read, no_more_places, one_more_read}
use Rattle.relay_control.proofs.named.read_places.Goals as goal

pub returns-in_default-read_place : goal.returns-in_default-read_place
returns-in_default-read_place c =
    no_more_places c.args.text.now c.loop-rest.places.items c.loop-rest.least c.loop-rest.rest c.in-Some.octets c.cut.result.0.now c.cut.result.1
    c.loop-rest.invariant c.in-Some.is c.cut.ensures c.in_default-read_place.ensures

pub loop-rest-preserved : goal.loop-rest-preserved
loop-rest-preserved c =
    rw c.in_ok-push.ensures.items
    (one_more_read c.args.text.now c.loop-rest.places.items c.loop-rest.least c.loop-rest.rest c.in-Some.octets c.cut.result.0.now c.cut.result.1
    c.in-Some-read_place.place c.loop-rest.invariant c.in-Some.is c.cut.ensures c.in-Some-read_place.ensures)

pub returns : goal.returns
returns c = all_read c.args.text.now c.loop-rest.places.items c.loop-rest.least c.loop-rest.rest c.loop-rest.invariant c.in_default.is
