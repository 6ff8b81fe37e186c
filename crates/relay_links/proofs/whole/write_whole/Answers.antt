-- Each write appends the octets that follow.
use Rattle.std.proofs.Common.{◌≡◌, ◌<◌, length, rules, arith, length-drop}
use Rattle.std.proofs.lemmas.List.{take_rest}
use Rattle.relay_links.proofs.WholeLemmas.{wrote_front, wrote_none, wrote_more}
use Rattle.relay_links.proofs.whole.write_whole.Goals as goal

pub returns-in-Ok-eq0-clause-err : goal.returns-in-Ok-eq0-clause-err
returns-in-Ok-eq0-clause-err g c =
    let none : c.in-Ok-eq0.field-0 ≡ 0 = search rules in
    let more : c.loop-written.written < length c.args.octets.now = search rules in
    wrote_none _ _ _ c.args.octets.now _ c.loop-written.written c.in-Ok-eq0.field-0 more c.loop-written.invariant.appended c.in-Ok-eq0.ensures.bytes none

pub loop-written-preserved-in-Ok : goal.loop-written-preserved-in-Ok
loop-written-preserved-in-Ok g c =
    let octets = c.args.octets.now in
    let written = c.loop-written.written in
    let bound = rw take_rest at c.in-Ok.ensures.bound in
    let bytes = rw take_rest at c.in-Ok.ensures.bytes in
    let after = length-drop written octets in
    record {
      within = omega (arith, bound, after, c.loop-written.invariant.within);
      appended = wrote_more _ _ _ octets written c.in-Ok.count c.loop-written.invariant.appended bytes;
    }

pub returns-then-ne-clause-err : goal.returns-then-ne-clause-err
returns-then-ne-clause-err g c =
    let more : c.loop-written.written < length c.args.octets.now = search rules in
    wrote_front _ _ _ c.args.octets.now c.loop-written.written more c.loop-written.invariant.appended c.in-Err.ensures.bytes
