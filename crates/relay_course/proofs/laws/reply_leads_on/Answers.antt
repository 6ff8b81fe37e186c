use Rattle.relay_course.proofs.GoingLemmas.{reply_leads_on}
use Rattle.relay_course.proofs.laws.reply_leads_on.Goals as goal

pub returns : goal.returns
returns c = reply_leads_on
