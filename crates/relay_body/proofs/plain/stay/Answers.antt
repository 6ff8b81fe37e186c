use Rattle.relay_body.proofs.PlainLemmas.{plain_stays}
use Rattle.relay_body.proofs.plain.stay.Goals as goal

pub returns-clause-uses : goal.returns-clause-uses
returns-clause-uses c =
    plain_stays c.args.reader.now c.after-reader.result c.keep.new.self c.args.octet c.requires c.after-reader.ensures c.in_ok-keep.ensures.keeps
