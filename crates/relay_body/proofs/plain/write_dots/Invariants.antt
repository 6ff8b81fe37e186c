use Rattle.std.proofs.Common.{length, ◌-◌, ◌≤◌, take}
use Rattle.relay_body.proofs.PlainLemmas.{WritesFront}
use Rattle.relay_body.proofs.plain.write_dots.Given as goal

-- what stands in front of the place is written
abbrev pub invariant-loop-place : goal.invariant-loop-place
invariant-loop-place l = record {
  within : l.place ≤ length l.content;
  writes : WritesFront (take l.place l.content) l.text.items l.begins_line l.after_cr;
}

abbrev pub decreases-loop-place : goal.decreases-loop-place
decreases-loop-place l = length l.content - l.place
