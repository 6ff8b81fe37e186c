use Rattle.std.proofs.Common.{◌++◌, Option, ap, ◌∙◌}
use Rattle.relay_book.specs.declared.message.Message.{Message}
use Rattle.relay_attempts.specs.Gathering.{of_message}
use Rattle.relay_attempts.specs.Work.{message_works}
use Rattle.relay_attempts.proofs.GatherLemmas.{works_next}
use Rattle.relay_attempts.proofs.work.Finder.works.Goals as goal

pub loop-number-preserved-in-Continue-1 : goal.loop-number-preserved-in-Continue-1
loop-number-preserved-in-Continue-1 g c =
    let works = message_works c.args.self.now.table.now c.args.self.now.runs.now c.args.self.now.at in
    works_next works c.args.records.now.queue.messages c.in-Some.number.now c.loop-number.number-iterator c.next.new.self
    c.loop-number.works.items c.push_works.new.works.items _ c.in-Some.ensures.steps c.loop-number.invariant
    (c.in_ok-push_works.ensures
    ∙ ap (λ (o : Option Message). c.loop-number.works.items ++ of_message works c.in-Some.number.now o) c.in-Some-message.ensures.message)
