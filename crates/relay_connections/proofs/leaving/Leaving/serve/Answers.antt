-- One connection more stays, or is closed and counted.
use Rattle.std.proofs.Common.{◌≡◌, ◌+◌, refl, sym, ap, ◌∙◌, arith, if◌then◌else◌}
use Rattle.relay_connections.specs.Leaving.{StaysOrCloses}
use Rattle.relay_connections.specs.Table.{count_of}
use Rattle.relay_connections.proofs.TableLemmas.{all_done, done_more, left_more}
use Rattle.relay_connections.proofs.leaving.Leaving.serve.Goals as goal
use Rattle.relay_connections.proofs.leaving.Leaving.serve.Goals.{then-serve_one, else-serve_one}

pub loop-number-init : goal.loop-number-init
loop-number-init g c = record {
  few = omega arith;
  count = omega arith;
  done = λ number below. absurd (omega (arith, below));
  left = λ number after. refl;
}

pub loop-number-preserved : goal.loop-number-preserved
loop-number-preserved g c =
    let i = c.loop-number.invariant in
    let first = c.args.self.now.leavers in
    let old = c.loop-number.self.leavers in
    let new = c.serve_one.new.self.leavers in
    let number = c.loop-number.number in
    let done = done_more (StaysOrCloses g.S.Stream.remaining g.S.Stream.contents c.args.now.now.tick) first old new number i.left c.serve_one.ensures.others i.done c.serve_one.ensures.stays in
    let left = left_more (StaysOrCloses g.S.Stream.remaining g.S.Stream.contents c.args.now.now.tick) first old new number i.left c.serve_one.ensures.others in
    elim c.if-serve_one.branch [
      | then-serve_one w ↦
          let counts : 1 + count_of new ≡ count_of old = ap (λ is. (if is then 1 else 0) + count_of new) (sym w.if-serve_one.true) ∙ c.serve_one.ensures.count in
          record { few = omega (arith, w.closed-is, i.few); count = omega (arith, w.closed-is, i.count, counts); done = done; left = left }
      | else-serve_one w ↦
          let counts : 0 + count_of new ≡ count_of old = ap (λ is. (if is then 1 else 0) + count_of new) (sym w.if-serve_one.false) ∙ c.serve_one.ensures.count in
          record { few = omega (arith, w.closed-is, i.few); count = omega (arith, w.closed-is, i.count, counts); done = done; left = left }
    ]

pub returns-clause-each : goal.returns-clause-each
returns-clause-each g c =
    let i = c.loop-number.invariant in
    all_done (StaysOrCloses g.S.Stream.remaining g.S.Stream.contents c.args.now.now.tick) c.standing-count.result.now c.args.self.now.leavers c.loop-number.self.leavers c.loop-number.number c.standing-count.ensures.slots c.loop-number-test.false i.done i.left refl
