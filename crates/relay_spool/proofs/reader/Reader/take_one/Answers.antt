use Rattle.std.proofs.Common.{rules}
use Rattle.relay_spool.proofs.PassLemmas.{any_then}
use Rattle.relay_spool.proofs.reader.Reader.take_one.Goals as goal

pub returns-in_err-fill-clause-goes_on : goal.returns-in_err-fill-clause-goes_on
returns-in_err-fill-clause-goes_on g c =
    record {
      size = search rules;
      at = search rules;
      keeps = search rules;
      failures = search rules;
      calls = any_then g.D.Disk.words c.args.disk.now c.loop-self.disk c.fill.new.disk c.loop-self.invariant.calls c.fill.ensures.goes_on.calls;
    }

pub loop-self-preserved : goal.loop-self-preserved
loop-self-preserved g c =
    record {
      stands = search rules;
      octets = search rules;
      kept = search rules;
      place_is = search rules;
      few = search rules;
      size_is = search rules;
      failures = search rules;
      calls = any_then g.D.Disk.words c.args.disk.now c.loop-self.disk c.fill.new.disk c.loop-self.invariant.calls c.fill.ensures.goes_on.calls;
    }

pub returns-in_err-give-clause-goes_on : goal.returns-in_err-give-clause-goes_on
returns-in_err-give-clause-goes_on g c =
    record {
      size = search rules;
      at = search rules;
      keeps = search rules;
      failures = search rules;
      calls = any_then g.D.Disk.words c.args.disk.now c.loop-self.disk c.fill.new.disk c.loop-self.invariant.calls c.fill.ensures.goes_on.calls;
    }
