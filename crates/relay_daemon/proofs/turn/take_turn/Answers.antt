use Rattle.std.proofs.Common.{length, refl}
use Rattle.relay_daemon.specs.Turn.{calls_of}
use Rattle.relay_daemon.proofs.turn.take_turn.Goals as goal

pub returns : goal.returns
returns g c = record {
  promise = λ is world node asked stands.
      c.calls_keep_the_promise.ensures is
      (calls_of c.args.peer c.args.pieces.now c.args.replies.now c.args.attempt c.args.now (record {
        session = c.in_ok-session.session;
        greeted = length c.to_client-greeted.result.now;
        group = c.in_ok-group.group;
        written = length c.to_hop-written.result.now;
      })) world node asked c.args.relay.now c.wrote_to_hop.new.relay stands (
        c.accept.new.relay,
        c.in_ok-session.ensures.accepts,
        (
          c.wrote_to_client.new.relay,
          c.wrote_to_client.ensures,
          (c.read_all.new.relay, c.in_ok-group.ensures.hears, (c.wrote_to_hop.new.relay, c.wrote_to_hop.ensures, refl)),
        ),
      );
}
