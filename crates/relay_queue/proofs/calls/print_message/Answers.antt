-- The configuration that was read, the queue that was opened, and the message that was written of it.
use Rattle.std.proofs.Common.{◌≡◌, Some, sym}
use Rattle.std.proofs.lemmas.Result.{on_ok_weaker}
use Rattle.relay_book.specs.Queue.{message_of}
use Rattle.relay_queue.proofs.calls.print_message.Goals as goal

pub returns-clause-printed : goal.returns-clause-printed
returns-clause-printed g c =
    let queued : message_of c.in_ok-records.records.queue.messages c.args.number ≡ Some c.in-Some.message.now = sym c.in-Some.ensures.message in
    on_ok_weaker c.print_text.result
    (λ printed. record {
      records = c.in_ok-records.records;
      opened = c.in_ok-records.ensures;
      document = c.in_ok-config.ensures.0;
      config = c.in_ok-config.config;
      reads = c.in_ok-config.ensures.1;
      message = c.in-Some.message.now;
      queued = queued;
      printed = printed;
    })
    c.print_text.ensures.printed
