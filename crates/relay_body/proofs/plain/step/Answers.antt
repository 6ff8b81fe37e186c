use Rattle.relay_body.proofs.ReadingLemmas.{cr_stays, lf_ends_line}
use Rattle.relay_body.proofs.plain.step.Goals as goal

pub returns-in_ok-keep-in-PeriodCr-2-clause-uses : goal.returns-in_ok-keep-in-PeriodCr-2-clause-uses
returns-in_ok-keep-in-PeriodCr-2-clause-uses c =
    cr_stays c.args.reader.now c.after-reader.result c.keep.new.self c.args.octet c.in-PeriodCr-2.is c.if-octet-eq10.false c.after-reader.ensures c.in_ok-keep-in-PeriodCr-2.ensures.keeps

pub returns-in_ok-keep-in-WithinCr-clause-uses : goal.returns-in_ok-keep-in-WithinCr-clause-uses
returns-in_ok-keep-in-WithinCr-clause-uses c =
    lf_ends_line c.args.reader.now c.keep-in-WithinCr.new.self c.args.octet c.in-WithinCr.is c.if-octet-eq10-2.true c.in_ok-keep-in-WithinCr.ensures.keeps
