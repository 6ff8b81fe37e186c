-- A reply is heard, and its note taken if the attempt has ended; then commands are written.
use Rattle.std.proofs.Common.{◌≡◌, ℕ, List, Err, IfOk, subst, rules}
use Rattle.relay_loop.specs.Hops.{Replies}
use Rattle.relay_records.specs.declared.fault.NodeFault.TheVariants.{Stopped}
use Rattle.relay_connections.specs.Served.{LeavesClients}
use Rattle.relay_connections.proofs.Theorems.{leaves_then}
use Rattle.relay_next_hops.proofs.LeaveLemmas.{leaves_equal, note_leaves, reply_leaves}
use Rattle.relay_next_hops.proofs.hop.Hop.hear_alone.Goals as goal
use Rattle.relay_next_hops.proofs.hop.Hop.hear_alone.Goals.{then-has_ended, else-has_ended}

pub returns-clause-leaves : goal.returns-clause-leaves
returns-clause-leaves g c =
    let honest = g.D.Disk.honest in
    let words = g.D.Disk.words in
    let heard = c.reply-answered.new.self in
    let reply = c.reply-answered.ensures in
    let other : c.reply-answered.result ≡ Err Stopped → ⊥ = search rules in
    let hears = reply_leaves honest words c.args.attempt c.args.now.now.moment c.piece.result.now c.args.relay.now heard c.reply-answered.result reply.replies reply.waits reply.only reply.refused reply.unknown other in
    let notes : LeavesClients honest words heard c.if-has_ended.relay = elim c.if-has_ended.branch [
      | then-has_ended w ↦
          leaves_then honest words heard w.take_noted-noted.new.self c.if-has_ended.relay
          (note_leaves honest words heard w.take_noted-noted.new.self (w.take_noted-noted.ensures.node, w.take_noted-noted.ensures.connections.0, w.take_noted-noted.ensures.connections.1))
          (leaves_equal honest words w.take_noted-noted.new.self c.if-has_ended.relay w.relay-is)
      | else-has_ended w ↦ leaves_equal honest words heard c.if-has_ended.relay w.relay-is
    ] in
    leaves_then honest words c.args.relay.now c.if-has_ended.relay c.answer.new.relay (leaves_then honest words c.args.relay.now heard c.if-has_ended.relay hears notes) c.answer.ensures.leaves

pub returns-clause-told : goal.returns-clause-told
returns-clause-told g c = λ used told. (_, c.answer.ensures.told used told)

pub returns-clause-heard : goal.returns-clause-heard
returns-clause-heard g c =
    let honest = g.D.Disk.honest in
    let words = g.D.Disk.words in
    let heard = c.reply-answered.new.self in
    let notes : LeavesClients honest words heard c.if-has_ended.relay = elim c.if-has_ended.branch [
      | then-has_ended w ↦
          leaves_then honest words heard w.take_noted-noted.new.self c.if-has_ended.relay
          (note_leaves honest words heard w.take_noted-noted.new.self (w.take_noted-noted.ensures.node, w.take_noted-noted.ensures.connections.0, w.take_noted-noted.ensures.connections.1))
          (leaves_equal honest words w.take_noted-noted.new.self c.if-has_ended.relay w.relay-is)
      | else-has_ended w ↦ leaves_equal honest words heard c.if-has_ended.relay w.relay-is
    ] in
    record {
      answer = c.reply-answered.result;
      between = heard;
      replies = λ changes told written keeps hands none.
          subst (λ (octets : List ℕ). IfOk c.reply-answered.result (Replies honest words changes c.args.attempt c.args.now.now.moment told written octets c.args.relay.now heard)) c.piece.ensures
          (c.reply-answered.ensures.replies changes told written keeps hands none);
      refused = c.reply-answered.ensures.refused;
      course_is = c.answer.ensures.course;
      meanwhile = leaves_then honest words heard c.if-has_ended.relay c.answer.new.relay notes c.answer.ensures.leaves;
    }
