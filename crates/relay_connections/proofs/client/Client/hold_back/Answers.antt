-- What is held is said still.
use Rattle.std.proofs.Common.{◌++◌, length, take}
use Rattle.relay_loop.specs.Outboxes.{unwritten_at}
use Rattle.relay_connections.proofs.client.Client.hold_back.Goals as goal

pub returns-clause-said : goal.returns-clause-said
returns-clause-said g c = λ changes address said has. record {
  written = has.written ++ take (length c.to_client-count.result.now) (unwritten_at c.args.relay.now.clients c.args.session);
  talks = c.wrote_to_client.ensures.talks changes address said has.written has.talks;
}
