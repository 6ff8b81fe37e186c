use Rattle.relay_course.proofs.GoingLemmas.{each_reply_answers}
use Rattle.relay_course.proofs.laws.each_reply_answers.Goals as goal

pub returns : goal.returns
returns c = each_reply_answers
