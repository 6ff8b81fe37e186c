use Rattle.std.proofs.Common.{arith}
use Rattle.std.proofs.lemmas.Option.{MatchOption-at_none, MatchOption-at_some}
use Rattle.relay_control.proofs.NamedLemmas.{all_names_read, no_more_names, one_more_name, too_many_names}
use Rattle.relay_control.proofs.named.read_names.Goals as goal

pub returns-then-len-ge-MOST_NAMED : goal.returns-then-len-ge-MOST_NAMED
returns-then-len-ge-MOST_NAMED c =
    let size = c.len.ensures in
    let ok = c.loop-rest.names.ok in
    let many = c.if-len-ge-MOST_NAMED.true in
    too_many_names c.args.text.now c.loop-rest.names.items c.loop-rest.rest c.in-Some.octets c.loop-rest.invariant c.in-Some.is (omega arith)

pub returns-in-None : goal.returns-in-None
returns-in-None c =
    no_more_names c.args.text.now c.loop-rest.names.items c.loop-rest.rest c.in-Some.octets c.cut.result.0.now c.cut.result.1 c.loop-rest.invariant c.in-Some.is
    c.cut.ensures (MatchOption-at_none _ _ c.in-None.is c.in_ok-named.ensures)

pub loop-rest-preserved : goal.loop-rest-preserved
loop-rest-preserved c =
    let size = c.len.ensures in
    let ok = c.loop-rest.names.ok in
    let few = c.if-len-ge-MOST_NAMED.false in
    rw c.in_ok-push-in-Some-2.ensures.items
    (one_more_name c.args.text.now c.loop-rest.names.items c.loop-rest.rest c.in-Some.octets c.cut.result.0.now c.cut.result.1 c.in-Some-2.named
    c.loop-rest.invariant c.in-Some.is (omega arith) c.cut.ensures (MatchOption-at_some _ _ _ c.in-Some-2.is c.in_ok-named.ensures))

pub returns : goal.returns
returns c = all_names_read c.args.text.now c.loop-rest.names.items c.loop-rest.rest c.loop-rest.invariant c.in_default.is
