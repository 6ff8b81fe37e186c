use Rattle.std.proofs.Common.{◌≡◌, Some, rules}
use Rattle.relay_book.specs.Queue.{message_of}
use Rattle.relay_attempts.proofs.ToldLemmas.{hears_queued}
use Rattle.relay_attempts.proofs.runs.Run.hear.Goals as goal

pub returns-clause-follows : goal.returns-clause-follows
returns-clause-follows g c =
    let found : message_of c.args.records.now.queue.messages c.args.self.now.message ≡ Some c.in-Some.message.now = search rules in
    hears_queued c.args.records.now.queue c.args.self.now c.feed.new.self c.args.piece.now c.feed.result
    c.in-Some.message.now c.as_slice.result.now found c.as_slice.ensures c.feed.ensures.follows
