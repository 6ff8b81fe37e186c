use Rattle.relay_body.proofs.ReadingLemmas.{lf_ends_line, octet_stays}
use Rattle.relay_body.proofs.dot_reader.DotReader.after_cr.Goals as goal

pub returns-then-octet-eq10-clause-uses : goal.returns-then-octet-eq10-clause-uses
returns-then-octet-eq10-clause-uses c =
    lf_ends_line c.args.self.now c.keep.new.self c.args.octet c.requires c.if-octet-eq10.true c.in_ok-keep.ensures.keeps

pub returns-clause-uses : goal.returns-clause-uses
returns-clause-uses c =
    octet_stays c.args.self.now c.after-self.result c.keep.new.self c.args.octet c.requires c.if-octet-eq10.false c.after-self.ensures c.in_ok-keep.ensures.keeps
