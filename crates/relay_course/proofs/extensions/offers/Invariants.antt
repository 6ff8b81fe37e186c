-- what the lines from here offer is what all offer
use Rattle.std.proofs.Common.{◌≡◌, drop}
use Rattle.relay_course.specs.Extensions.{offers}
use Rattle.relay_course.proofs.extensions.offers.Given as goal

abbrev pub invariant-loop-line : goal.invariant-loop-line
invariant-loop-line l = offers l.keyword (drop l.line-index l.lines) ≡ offers l.keyword l.lines
