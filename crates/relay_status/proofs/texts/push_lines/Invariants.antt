-- the lines of the recipients so far
use Rattle.std.proofs.Common.{◌≡◌, ◌++◌, take}
use Rattle.relay_page.specs.Listing.{lines_of}
use Rattle.relay_status.proofs.texts.push_lines.Given as goal

abbrev pub invariant-loop-mark : goal.invariant-loop-mark
invariant-loop-mark g l =
    l.text.items ≡ l.fn.text.items ++ lines_of l.now l.node.config.routes l.node.records.queue (take l.mark-index l.marks)
