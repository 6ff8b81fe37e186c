use Rattle.std.proofs.Common.{refl, sym, ◌∙◌}
use Rattle.std.proofs.lemmas.List.{take_rest}
use Rattle.relay_body.proofs.BareEndLemmas.{found_alone, goes_on, none_follows}
use Rattle.relay_body.proofs.bare_ends.has_bare_end.Goals as goal

pub loop-place-preserved : goal.loop-place-preserved
loop-place-preserved c =
    goes_on c.args.octets.now c.loop-place.from c.in-Some.place _ c.loop-place.invariant (rw take_rest at c.in-Some.ensures.0)
    (sym (rw take_rest at c.begins_with_crlf.ensures.test) ∙ c.if-not-begins_with_crlf.false) (rw take_rest at (c.begins_with_crlf.ensures.two c.if-not-begins_with_crlf.false)) refl

pub returns-then-not-begins_with_crlf : goal.returns-then-not-begins_with_crlf
returns-then-not-begins_with_crlf c =
    sym
    (found_alone c.args.octets.now c.loop-place.from c.in-Some.place c.loop-place.invariant (rw take_rest at c.in-Some.ensures.0) (rw take_rest at c.in-Some.ensures.1)
    (sym (rw take_rest at c.begins_with_crlf.ensures.test) ∙ c.if-not-begins_with_crlf.true))

pub returns : goal.returns
returns c = sym (none_follows c.args.octets.now c.loop-place.from c.loop-place.invariant (rw take_rest at c.in_default.ensures))
