-- Links that were given lanes, served, and taken apart.
use Rattle.std.proofs.Common.{length, vec_len, vec_capacity, arith}
use denote.Param.Send.{arg_sync, given_send, given_sync, param_send, param_sync}
use Rattle.relay_rounds.specs.Round.{MayBegin}
use Rattle.relay_rounds.proofs.LaneLemmas.{come_out}
use Rattle.relay_rounds.proofs.rounds.Room.serve.Goals as goal

pub serve_lanes-lanes-requires : goal.serve_lanes-lanes-requires
serve_lanes-lanes-requires g c =
    let room = c.requires.room in
    let many = c.lanes_of-lanes.ensures.many in
    let begin : MayBegin (vec_len c.lanes_of-lanes.result) (length c.as_slice.result.now) c.args.self.started.items (vec_capacity c.args.self.started) c.args.self.ended.items (vec_capacity c.args.self.ended) =
    record {
      words = omega (arith, many, room.words, c.as_slice.ensures.len);
      none_started = room.none_started;
      room_to_start = omega (arith, many, room.started);
      none_ended = room.none_ended;
      room_to_end = omega (arith, many, room.ended);
    } in
    let bounds = c.type_bounds in (
      param_send 0 _ (given_send 3 _ g.row.D bounds.send-D),
      (
        param_send 1 _ (given_send 0 _ g.row.J bounds.send-J),
        (
          param_send 3 _ (given_send 1 _ g.row.R bounds.send-R),
          (
            param_send 4 _ (given_send 2 _ g.row.W bounds.send-W),
            (
              param_sync 1 _ (arg_sync _ _ _ (given_sync 0 g.row.J bounds.sync-J)),
              (param_sync 2 _ (arg_sync _ _ _ (given_sync 4 g.row.T bounds.sync-T)), begin),
            ),
          ),
        ),
      ),
    )

pub returns-clause-out : goal.returns-clause-out
returns-clause-out g c = λ served together.
    come_out g.J.Opening.has_answered g.R.Read.remaining g.W.Write.contents c.args.shop.now.config.now c.args.shop.now.at c.args.links.items c.lanes_of-lanes.result.items c.serve_lanes-lanes.result.items c.take_apart-passes.result.0.items c.take_apart-passes.result.1.items served c.lanes_of-lanes.ensures.lanes c.serve_lanes-lanes.ensures.served c.take_apart-passes.ensures.apart together
