use Rattle.relay_rows_tests.proofs.PlayLemmas.{line_ends, line_goes_on}
use Rattle.relay_rows_tests.proofs.line_play.line_outcome.Goals as goal

pub returns-in-Some : goal.returns-in-Some
returns-in-Some c =
    line_ends c.args.octets.now c.loop-rest.rest.now c.next_piece-piece.result.now c.in_ok-outcome.outcome
    _ c.loop-rest.come
    c.in-Some.used c.loop-rest.buffer c.feed.new.self c.loop-rest.invariant c.next_piece-piece.ensures.piece
    c.in-Some.ensures.within.1 c.in-Some.ensures.taken c.in_ok-outcome.ensures

pub loop-rest-preserved : goal.loop-rest-preserved
loop-rest-preserved c =
    line_goes_on c.args.octets.now c.loop-rest.rest.now c.next_piece-piece.result.now
    _ c.loop-rest.come c.loop-rest.buffer
    c.feed.new.self c.loop-rest.invariant c.next_piece-piece.ensures.piece c.in_default.ensures.taken
