use Rattle.relay_book.proofs.VersionLemmas.{later_report_alike}
use Rattle.relay_book.proofs.custody_laws.later_report_alike.Goals as goal

pub returns : goal.returns
returns c = later_report_alike
