-- The configuration that was read, the queue that was opened, and the mail that was selected, if any.
use Rattle.std.proofs.Common.{◌≡◌, length, sym, ◌∙◌, arith}
use Rattle.std.proofs.lemmas.Bool.Decides.{nat_tests}
use Rattle.std.proofs.lemmas.List.{nil_from_length}
use Rattle.relay_queue.proofs.BlankLemmas.{selected_of_look}
use Rattle.relay_queue.proofs.TakenLemmas.{taken_from}
use Rattle.relay_queue.proofs.preview.select.Goals as goal

pub returns-then-is_empty-clause-nothing : goal.returns-then-is_empty-clause-nothing
returns-then-is_empty-clause-nothing g c = λ _.
    let marks = c.in_ok-marks.marks in
    let len = marks.ok.0 in
    let none : length marks.items ≡ 0 = grind (arith, nat_tests, len, c.is_empty.ensures, c.if-is_empty.true) in
    let same =
    selected_of_look c.args.selection.now c.clock_moment-now.result c.in_ok-config.config.routes c.in_ok-look.look.queue
    c.in_ok-look.ensures.0 c.in_ok-look.ensures.1.shows.blank
    in
    record {
      look = c.in_ok-look.look;
      queue = c.in_ok-look.ensures.0;
      opened = c.in_ok-look.ensures.1;
      document = c.in_ok-config.ensures.0;
      config = c.in_ok-config.config;
      reads = c.in_ok-config.ensures.1;
      now = c.clock_moment-now.result;
      nothing = sym (c.in_ok-marks.ensures ∙ same) ∙ nil_from_length marks.items none;
    }

pub returns-clause-taken : goal.returns-clause-taken
returns-clause-taken g c =
    taken_from c.args.selection.now c.in_ok-look.look c.in_ok-look.ensures.0 c.in_ok-config.ensures.0
    c.in_ok-config.config c.clock_moment-now.result c.as_slice.result.now c.taken_of.result
    c.in_ok-look.ensures.1 c.in_ok-config.ensures.1 (c.as_slice.ensures.value ∙ c.in_ok-marks.ensures)
    c.taken_of.ensures.messages c.taken_of.ensures.preview c.taken_of.ensures.safe
