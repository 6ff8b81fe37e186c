use Rattle.relay_body.proofs.ReadingLemmas.{cr_stays}
use Rattle.relay_body.proofs.dot_reader.DotReader.after_period_cr.Goals as goal

pub returns-in_ok-keep-clause-uses : goal.returns-in_ok-keep-clause-uses
returns-in_ok-keep-clause-uses c =
    cr_stays c.args.self.now c.after-self.result c.keep.new.self c.args.octet c.requires c.if-octet-eq10.false c.after-self.ensures c.in_ok-keep.ensures.keeps
