use Rattle.relay_body.proofs.RunReadingLemmas.{uses_run}
use Rattle.relay_body.proofs.dot_reader.DotReader.take_run.Goals as goal

pub returns-clause-uses : goal.returns-clause-uses
returns-clause-uses c =
    uses_run c.args.self.now c.after_run-self.result c.keep.new.self c.args.rest.now c.run_len-used.result
    (c.run_len-used.ensures.some, c.run_len-used.ensures.within) c.run_len-used.ensures.none c.requires.runs
    (record { at_line_end = c.after_run-self.ensures.line; within = c.after_run-self.ensures.within })
    c.in_ok-keep.ensures.keeps
