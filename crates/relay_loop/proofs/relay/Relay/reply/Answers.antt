-- What the node replied to is what the connection has read.
use Rattle.std.proofs.Common.{subst}
use Rattle.relay_loop.specs.Hops.{Replies}
use Rattle.relay_loop.specs.Relay.{RelayState}
use Rattle.relay_loop.proofs.ClientLemmas.{err_of}
use Rattle.relay_loop.proofs.HopLemmas.{replies}
use Rattle.relay_loop.proofs.relay.Relay.reply.Goals as goal

pub returns-in-Ok-clause-replies : goal.returns-in-Ok-clause-replies
returns-in-Ok-clause-replies g c = rw (← c.self.view_is) (λ changes told written keeps hands drained.
    let new : RelayState g.row.D.Denot = record { node = c.reply.new.self; clients = c.self.inside.clients; hops = c.set_by.new.hops } in
    subst (λ (old : RelayState g.row.D.Denot). Replies g.D.Disk.honest g.D.Disk.words changes c.args.attempt c.args.now told written c.args.piece.now old new c.set_by.result) c.self.view_is
    (replies g.D.Disk.honest g.D.Disk.words changes c.args.attempt c.args.now told written c.args.piece.now _ new c.in-Ok.replied c.set_by.result hands drained c.in-Ok.ensures.rest.1 c.set_by.ensures.answered
    (c.in-Ok.ensures.replies changes told keeps hands.tells) c.set_by.ensures.set))

pub returns-in-Err-clause-cut : goal.returns-in-Err-clause-cut
returns-in-Err-clause-cut g c = rw (← c.self.view_is) (λ changes told written keeps hands stopped. c.in-Err.ensures.cut changes told keeps hands.tells (err_of c.in-Err.fault _ stopped))

pub returns-in-Err-clause-full : goal.returns-in-Err-clause-full
returns-in-Err-clause-full g c = rw (← c.self.view_is) (λ changes told written keeps hands full. c.in-Err.ensures.full changes told keeps hands.tells (err_of c.in-Err.fault _ full))
