-- What the node received is what the connection has read.
use Rattle.relay_loop.proofs.ClientLemmas.{err_of, reads}
use Rattle.relay_loop.proofs.relay.Relay.read.Goals as goal

pub returns-in-Ok-clause-reads : goal.returns-in-Ok-clause-reads
returns-in-Ok-clause-reads g c = rw (← c.self.view_is) (λ changes peer said written keeps talks drained.
    reads g.D.Disk.honest g.D.Disk.words changes c.args.session peer c.args.now said written c.args.piece.now _ _ c.in-Ok.received c.set_by.result keeps talks drained
    (c.in-Ok.ensures.receives changes peer said keeps talks.seat) c.in-Ok.ensures.rest.1 c.set_by.ensures.heard c.set_by.ensures.set)

pub returns-in-Ok-clause-hears : goal.returns-in-Ok-clause-hears
returns-in-Ok-clause-hears g c = rw (← c.self.view_is) (λ connected. record {
  received = c.in-Ok.received;
  receives = λ changes peer said keeps says. c.in-Ok.ensures.receives changes peer said keeps says;
  heard_is = c.set_by.ensures.heard;
  set = c.set_by.ensures.set;
})

pub returns-in-Err-clause-full : goal.returns-in-Err-clause-full
returns-in-Err-clause-full g c = rw (← c.self.view_is) (λ changes peer said written talks full. c.in-Err.ensures.full peer said talks.seat (err_of c.in-Err.fault _ full))
