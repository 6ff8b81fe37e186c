-- One more has been made.
use Rattle.std.proofs.Common.{ℕ, [], ◌∷◌, ◌++◌, arith, length-append}
use Rattle.relay_rounds.specs.Row.{EachIs}
use Rattle.relay_rounds.proofs.RowLemmas.{each_on}
use Rattle.relay_rounds.proofs.row.map_into.Goals as goal

pub loop-one-preserved : goal.loop-one-preserved
loop-one-preserved g c =
    let i = c.loop-one.invariant in
    let long = length-append c.loop-one.yielded (c.in-Some.one ∷ []) in
    let is : g.row.T.Denot → g.row.U.Denot → Type 0 = λ one other. (at : ℕ) × goal.F-post g c.args.make at one other in
    let more : EachIs is (c.loop-one.yielded ++ c.in-Some.one ∷ []) (c.loop-one.made.items ++ c.make.result ∷ []) =
    each_on is c.loop-one.yielded c.loop-one.made.items c.in-Some.one c.make.result i.each (c.loop-one.at, c.make.ensures) in
    record {
      at = omega (arith, long);
      each = rw c.put.ensures.items more;
      many = omega (arith, long, c.put.ensures.many);
      room = omega arith;
    }
