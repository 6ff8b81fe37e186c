use Rattle.std.proofs.lemmas.Option.{MatchOption-at_none}
use Rattle.relay_control.proofs.NamedLemmas.{no_colon, no_number_named, no_places_named}
use Rattle.relay_control.proofs.named.read_named.Goals as goal

pub returns-in_default : goal.returns-in_default
returns-in_default c = no_colon c.args.text.now c.cut.result.0.now c.cut.result.1 c.cut.ensures c.in_default.is

pub returns-in_default-read_number : goal.returns-in_default-read_number
returns-in_default-read_number c =
    no_number_named c.args.text.now c.cut.result.0.now c.cut.result.1 c.in-Some.list c.cut.ensures c.in-Some.is c.in_default-read_number.ensures

pub returns-in-None : goal.returns-in-None
returns-in-None c =
    no_places_named c.args.text.now c.cut.result.0.now c.cut.result.1 c.in-Some.list c.cut.ensures c.in-Some.is
    (MatchOption-at_none _ _ c.in-None.is c.in_ok-places.ensures)
