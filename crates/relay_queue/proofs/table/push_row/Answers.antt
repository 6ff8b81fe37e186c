-- numbers, names, and the rest of the line
use Rattle.std.proofs.lemmas.Result.{on_ok_weaker}
use Rattle.relay_listing.specs.Row.{said_by}
use Rattle.relay_queue.specs.Table.{names_text, numbers_text, tries_and_time}
use Rattle.relay_queue.proofs.JoinLemmas.{joined3}
use Rattle.relay_queue.proofs.table.push_row.Goals as goal

pub returns : goal.returns
returns c =
    let queued = said_by c.args.row.now in
    let time = c.time-time.result in
    on_ok_weaker c.push_tries.result
    (λ last. (
      time,
      joined3 c.args.screen.now c.push_numbers.new.screen c.push_names.new.screen c.push_tries.new.screen (numbers_text c.args.now queued)
          (names_text c.args.widths queued) (tries_and_time time queued) c.in_ok-push_numbers.ensures c.in_ok-push_names.ensures last,
    ))
    c.push_tries.ensures
