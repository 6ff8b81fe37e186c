-- A chunk that is refused is answered where it ends.
use Rattle.std.proofs.Common.{◌++◌, take}
use Rattle.relay_server.specs.ReplyTable.{Replies}
use Rattle.relay_server.specs.Setup.{setup_of}
use Rattle.relay_server.specs.State.{Command}
use Rattle.relay_server.specs.Values.{command_state_of}
use Rattle.relay_server.proofs.ChunkLemmas.{refused_ends}
use Rattle.relay_server.proofs.SessionLemmas.{comes_and_ends}
use Rattle.relay_server.proofs.server.Server.skip.Goals as goal

pub returns-then-missing-eq0-clause-moves : goal.returns-then-missing-eq0-clause-moves
returns-then-missing-eq0-clause-moves c = λ routes old octets refused.
    let setup = setup_of c.args.self.now routes in
    let used = c.min-used.result in
    comes_and_ends setup old (octets ++ take used c.args.rest.now) (Replies c.args.row (Command (command_state_of c.args.state)))
    c.in_ok-stage.stage c.args.out.now.items c.reply.new.out.items
    (refused_ends setup c.args.row c.args.state c.args.missing used old octets c.args.rest.now refused c.min-used.ensures c.if-missing-eq0.true)
    (c.in_ok-stage.ensures.enters routes)
