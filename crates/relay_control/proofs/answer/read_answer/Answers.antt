use Rattle.relay_control.proofs.AnswerLemmas.{is_answer, no_answer, no_lf}
use Rattle.relay_control.proofs.answer.read_answer.Goals as goal

pub returns-in_err-body : goal.returns-in_err-body
returns-in_err-body c = rw c.from_residual.ensures (no_lf c.args.octets.now c.in_err-body.ensures)

pub returns-in-Some : goal.returns-in-Some
returns-in-Some c = record {
  last = c.cut_last.result.1.now;
  octets_are =
      is_answer c.args.octets.now c.in_ok-body.body.now c.cut_last.result.0.now c.cut_last.result.1.now c.in_ok-body.ensures c.cut_last.ensures.parts;
  whole = c.cut_last.ensures.whole;
  last_is_line = c.cut_last.ensures.last;
  is_end = c.in-Some.ensures;
}

pub returns-in-None : goal.returns-in-None
returns-in-None c =
    no_answer c.args.octets.now c.in_ok-body.body.now c.cut_last.result.0.now c.cut_last.result.1.now c.in_ok-body.ensures c.cut_last.ensures.parts
    c.cut_last.ensures.whole c.cut_last.ensures.last c.in-None.ensures
