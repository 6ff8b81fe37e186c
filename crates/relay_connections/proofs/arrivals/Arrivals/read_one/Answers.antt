-- The connection stands again, or it has left its slot.
use Rattle.std.proofs.Common.{Some, sym, subst}
use Rattle.relay_slots.specs.Slots.{slot_at}
use Rattle.relay_connections.specs.Arrivals.{HasArrived, ReadsOn, WaitsOn}
use Rattle.relay_connections.specs.declared.arrival.Arrived.TheVariants.{Refused}
use Rattle.relay_connections.proofs.ArrivalLemmas.{arrived_on, fails}
use Rattle.relay_connections.proofs.arrivals.Arrivals.read_one.Goals as goal

pub returns-in-Waits-clause-one : goal.returns-in-Waits-clause-one
returns-in-Waits-clause-one g c =
    let waits = WaitsOn g.S.Stream.remaining g.S.Stream.contents c.args.now.now.tick in
    let reads = subst (λ arrival. ReadsOn g.S.Stream.remaining g.S.Stream.contents arrival c.read.new.self) c.deref_mut.ensures.value c.read.ensures.reads_on in
    subst (λ slot. waits slot (slot_at c.put.new.self c.args.number)) c.in-Some.ensures.taken
    (subst (λ slot. waits (Some c.in-Some.taken) slot) (sym (c.put.ensures.there c.in-Some.ensures.within)) (reads, c.in-Waits.ensures.progress))

pub returns-in-Whole-clause-one : goal.returns-in-Whole-clause-one
returns-in-Whole-clause-one g c =
    let reads = subst (λ arrival. ReadsOn g.S.Stream.remaining g.S.Stream.contents arrival c.read.new.self) c.deref_mut.ensures.value c.read.ensures.reads_on in
    let has = subst (λ arrival. HasArrived g.S.Stream.remaining g.S.Stream.contents c.args.now.now.tick arrival c.arrived.result) c.into_inner.ensures (c.arrived.ensures c.args.now.now.tick) in
    record {
      arrival = c.in-Some.taken;
      there = sym c.in-Some.ensures.taken;
      gone = c.take.ensures.free;
      has = arrived_on g.S.Stream.remaining g.S.Stream.contents c.args.now.now.tick c.in-Some.taken.value c.read.new.self c.arrived.result reads has;
    }

pub returns-in-Fails-clause-one : goal.returns-in-Fails-clause-one
returns-in-Fails-clause-one g c =
    let tick = c.args.now.now.tick in
    let fault = c.in-Fails.fault in
    let reads = subst (λ arrival. ReadsOn g.S.Stream.remaining g.S.Stream.contents arrival c.read.new.self) c.deref_mut.ensures.value c.read.ensures.reads_on in
    let has = fails g.S.Stream.remaining g.S.Stream.contents tick c.read.new.self fault c.in-Fails.ensures.progress in
    record {
      arrival = c.in-Some.taken;
      there = sym c.in-Some.ensures.taken;
      gone = c.take.ensures.free;
      has =
          subst (λ arrival. HasArrived g.S.Stream.remaining g.S.Stream.contents tick c.in-Some.taken.value (Refused arrival.balancer fault)) (sym c.deref.ensures)
          (arrived_on g.S.Stream.remaining g.S.Stream.contents tick c.in-Some.taken.value c.read.new.self (Refused c.read.new.self.balancer fault) reads has);
    }
