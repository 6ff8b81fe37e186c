use Rattle.std.specs.Cmp.{unsigned_Decides}
use Rattle.std.proofs.lemmas.Slice.Eq.{strip_prefix_is}
use Rattle.relay_control.proofs.RequestLemmas.{begun_by}
use Rattle.relay_control.proofs.front.after.Goals as goal

pub returns : goal.returns
returns c =
    begun_by c.args.octets.now c.args.front.now c.strip_prefix.result
    (strip_prefix_is unsigned_Decides c.args.octets.now c.args.front.now c.strip_prefix.result c.strip_prefix.ensures.cases)
