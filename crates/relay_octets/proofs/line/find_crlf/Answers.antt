-- A search from LF to LF finds the end of the first line.
use Rattle.std.proofs.Common.{refl, arith}
use Rattle.std.proofs.lemmas.List.{take_rest}
use Rattle.relay_octets.proofs.SearchLemmas.{found_after, goes_on, none_after}
use Rattle.relay_octets.proofs.line.find_crlf.Goals as goal
use Rattle.relay_octets.proofs.line.find_crlf.Goals.{else-line_feed-gt0-via-then-line_feed-gt0+else-octets-line_feed-eq13, else-line_feed-gt0-via-else-line_feed-gt0}

pub returns-then-octets-line_feed-eq13-clause-first :
    goal.returns-then-octets-line_feed-eq13-clause-first
returns-then-octets-line_feed-eq13-clause-first c =
    found_after c.args.octets.now c.loop-place.from c.in-Some.place _ refl c.loop-place.invariant (rw take_rest at c.in-Some.ensures.0) (rw take_rest at c.in-Some.ensures.1) c.if-line_feed-gt0.true c.if-octets-line_feed-eq13.true

pub loop-place-preserved : goal.loop-place-preserved
loop-place-preserved c =
    goes_on c.args.octets.now c.loop-place.from c.in-Some.place c.loop-place.invariant (rw take_rest at c.in-Some.ensures.0)
    (elim c.else-line_feed-gt0.branch [
      | else-line_feed-gt0-via-then-line_feed-gt0+else-octets-line_feed-eq13 w ↦ λ some. w.if-octets-line_feed-eq13.false
      | else-line_feed-gt0-via-else-line_feed-gt0 w ↦ λ some. absurd (omega (arith, some, w.if-line_feed-gt0.false))
    ])

pub returns-clause-first : goal.returns-clause-first
returns-clause-first c = none_after c.args.octets.now c.loop-place.from c.loop-place.invariant (rw take_rest at c.in_default.ensures)
