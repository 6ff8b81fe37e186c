-- Each number is looked for in passes that rise.
use Rattle.relay_hub.proofs.RiseLemmas.{all_rise}
use Rattle.relay_hub.proofs.told.are_receipts.Goals as goal

pub each_comes_once-requires : goal.each_comes_once-requires
each_comes_once-requires g c = all_rise c.args.first _ c.args.passes.now (c.each_rises.ensures.0 c.if-not-each_rises.false)
