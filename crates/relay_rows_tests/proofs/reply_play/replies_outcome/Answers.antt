use Rattle.std.proofs.Common.{◌∙◌}
use Rattle.relay_rows_tests.proofs.PlayLemmas.{replies_fail_by}
use Rattle.relay_rows_tests.proofs.reply_play.replies_outcome.Goals as goal

pub returns-in-Err : goal.returns-in-Err
returns-in-Err c =
    replies_fail_by c.args.octets.now c.loop-rest.rest.now c.next_piece.result.now c.loop-rest.out.items
    c.read_some.new.out.items c.new.result _ c.loop-rest.reader c.read_some.new.reader c.in-Err.fault
    c.loop-rest.invariant c.next_piece.ensures.piece c.in-Err.ensures.faults
    c.in_ok-push_fault-in-Err.ensures.memory
    (λ failed. c.new.ensures ∙ c.in_ok-push_fault-in-Err.ensures.words failed) c.in-Err.ensures.stays
