-- One connection more is read of: it waits on, or it has left its slot.
use Rattle.std.proofs.Common.{refl, arith}
use Rattle.relay_connections.specs.Arrivals.{WaitsOn}
use Rattle.relay_connections.proofs.ArrivalLemmas.{one_leaves}
use Rattle.relay_connections.proofs.TableLemmas.{all_done, done_more, left_more}
use Rattle.relay_connections.proofs.arrivals.Arrivals.next.Goals as goal

pub loop-number-init : goal.loop-number-init
loop-number-init g c = record {
  done = λ number below. absurd (omega (arith, below));
  left = λ number after. refl;
}

pub loop-number-preserved : goal.loop-number-preserved
loop-number-preserved g c =
    let i = c.loop-number.invariant in
    let waits = WaitsOn g.S.Stream.remaining g.S.Stream.contents c.args.now.now.tick in
    record {
      done = done_more waits c.args.self.now.arrivals c.loop-number.self.arrivals c.read_one.new.self.arrivals c.loop-number.number i.left c.read_one.ensures.others i.done c.in_default.ensures.one;
      left = left_more waits c.args.self.now.arrivals c.loop-number.self.arrivals c.read_one.new.self.arrivals c.loop-number.number i.left c.read_one.ensures.others;
    }

pub returns-in-Some : goal.returns-in-Some
returns-in-Some g c =
    let i = c.loop-number.invariant in
    one_leaves g.S.Stream.remaining g.S.Stream.contents c.args.now.now.tick c.loop-number.number c.args.self.now.arrivals c.loop-number.self.arrivals c.read_one.new.self.arrivals c.in-Some.arrived
    i.done i.left c.read_one.ensures.others c.in-Some.ensures.one

pub returns : goal.returns
returns g c =
    let i = c.loop-number.invariant in
    all_done (WaitsOn g.S.Stream.remaining g.S.Stream.contents c.args.now.now.tick) c.standing-count.result.now c.args.self.now.arrivals c.loop-number.self.arrivals c.loop-number.number c.standing-count.ensures.slots c.loop-number-test.false i.done i.left refl
