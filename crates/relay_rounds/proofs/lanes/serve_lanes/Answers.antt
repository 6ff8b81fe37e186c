-- What the closure asks for is what is asked here.
use denote.Exit as exit
use denote.Param.Send.{arg_send, arg_sync, param_send, param_sync}
use Rattle.relay_rounds.proofs.lanes.serve_lanes.Goals as goal

pub scoped-requires : goal.scoped-requires
scoped-requires g c =
    let bounds = c.type_bounds in
    record {
      at = λ scope. (
        c.requires,
        (
          param_send 0 _ (arg_send _ exit.no _ bounds.send-D),
          param_send 1 _ (arg_send _ exit.no _ bounds.send-J),
          param_send 3 _ (arg_send _ exit.no _ bounds.send-R),
          param_send 4 _ (arg_send _ exit.no _ bounds.send-W),
          param_sync 1 _ (arg_sync _ exit.no _ bounds.sync-J),
          param_sync 2 _ (arg_sync _ exit.no _ bounds.sync-T),
        ),
      );
    }
