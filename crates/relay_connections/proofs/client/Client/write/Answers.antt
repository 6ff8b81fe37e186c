-- What was written is said still, and so is the rest that waits.
use Rattle.std.proofs.Common.{◌++◌, take}
use Rattle.relay_loop.specs.Outboxes.{unwritten_at}
use Rattle.relay_connections.proofs.client.Client.write.Goals as goal

pub returns-clause-said : goal.returns-clause-said
returns-clause-said g c = λ changes address said has. record {
  written = has.written ++ take c.write-count.result (unwritten_at c.args.relay.now.clients c.args.session);
  talks = c.wrote_to_client.ensures.talks changes address said has.written has.talks;
}
