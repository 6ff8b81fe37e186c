-- What was read follows what was there, and no header ends before it.
use Rattle.std.proofs.Common.{◌≤◌, ◌+◌, ◌-◌, ◌++◌, ◌∙◌, List, ap, arith, length, subst, sym, take}
use Rattle.std.proofs.lemmas.List.{length-take-le}
use Rattle.std.proofs.lemmas.Slice.{take-put_mid_below}
use Rattle.relay_connections.specs.HeaderFront.{HasNothingAfter}
use Rattle.relay_connections.proofs.HeaderFrontLemmas.{comes_none, nothing_after_more, read_after}
use Rattle.relay_connections.proofs.header_octets.HeaderOctets.fill.Goals as goal

pub returns-in_err-came-clause-came : goal.returns-in_err-came-clause-came
returns-in_err-came-clause-came g c =
    comes_none _ _ _ _ c.in_err-came.ensures.bytes (take-put_mid_below c.self.inside.length _ c.self.inside.octets c.try_read.new.into c.self.inside.length (omega arith) (omega arith) ∙ c.self.view_is)

pub invariant_of-self-2 : goal.invariant_of-self-2
invariant_of-self-2 g c =
    let came = c.in_ok-came.came in
    let into = c.try_read.new.into in
    let few : came ≤ length into = omega (arith, c.in_ok-came.ensures.bound) in
    let short : length (take came into) ≤ c.args.count = omega (arith, length-take-le came into few, c.min.ensures) in
    let nothing = nothing_after_more c.args.self.now (take came into) c.args.count c.requires short in
    let whole =
    read_after c.self.inside.octets into c.self.inside.length (c.self.inside.length + c.min.result - c.self.inside.length) came (omega arith) few
    ∙ ap (λ (front : List _). front ++ take came into) c.self.view_is in
    (omega (arith, few, c.min.ensures), subst HasNothingAfter (sym whole) nothing)

pub returns-clause-came : goal.returns-clause-came
returns-clause-came g c =
    let came = c.in_ok-came.came in
    let into = c.try_read.new.into in
    record {
      came = take came into;
      octets =
          read_after c.self.inside.octets into c.self.inside.length (c.self.inside.length + c.min.result - c.self.inside.length) came (omega arith) (omega (arith, c.in_ok-came.ensures.bound))
          ∙ ap (λ (front : List _). front ++ take came into) c.self.view_is;
      stream = c.in_ok-came.ensures.bytes.0;
    }
