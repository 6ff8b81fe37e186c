-- octets that aren't UTF-8 aren't printable either
use Rattle.std.proofs.Common.{sym}
use Rattle.relay_listing.proofs.PrintableLemmas.{no_text}
use Rattle.relay_listing.proofs.object.text_of.Goals as goal

pub returns-in-Err : goal.returns-in-Err
returns-in-Err c = sym (no_text c.args.octets.now c.in-Err.ensures.cases.0)
