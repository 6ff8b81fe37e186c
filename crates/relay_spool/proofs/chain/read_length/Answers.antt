use Rattle.std.proofs.Common.{◌≡◌, ◌+◌, ◌-◌, ◌∙◌, refl, arith}
use Rattle.std.proofs.lemmas.Result.{IfOk-from_err}
use Rattle.relay_spool.proofs.ChainLemmas.{cut_short}
use Rattle.relay_spool.proofs.GoesLemmas.{goes_damaged, goes_fault, goes_value, passed_on}
use Rattle.relay_spool.proofs.chain.read_length.Goals as goal

pub returns-in_err-size-clause-number : goal.returns-in_err-size-clause-number
returns-in_err-size-clause-number g c = λ honest. IfOk-from_err c.from_residual.result _ c.from_residual.ensures.0

pub returns-in_err-size-clause-place : goal.returns-in_err-size-clause-place
returns-in_err-size-clause-place g c = IfOk-from_err c.from_residual.result _ c.from_residual.ensures.0

pub returns-in_err-size-clause-goes_on : goal.returns-in_err-size-clause-goes_on
returns-in_err-size-clause-goes_on g c =
    goes_fault g.D.Disk.honest g.D.Disk.words c.from_residual.result c.read_size.result c.in_err-size.field-0.0 c.args.disk.now
    c.read_size.new.disk c.args.reader.now c.read_size.new.reader
    (passed_on c.from_residual.result c.in_err-size.field-0.0 c.from_residual.ensures.1) c.in_err-size.was c.read_size.ensures.goes_on

pub returns-then-reader-size-clause-goes_on : goal.returns-then-reader-size-clause-goes_on
returns-then-reader-size-clause-goes_on g c =
    goes_damaged g.D.Disk.honest g.D.Disk.words _ c.read_size.result c.in_ok-size.field-0 _ c.args.disk.now c.read_size.new.disk
    c.args.reader.now c.read_size.new.reader refl c.in_ok-size.was c.read_size.ensures.goes_on

pub returns-then-reader-size-clause-refused : goal.returns-then-reader-size-clause-refused
returns-then-reader-size-clause-refused g c =
    let place = c.args.reader.now.place in
    let after = c.requires.after in
    let back : place - 1 + 1 ≡ place = omega (arith, after) in (
      back,
      λ honest.
          let (octets, width, number, lies) = c.in_ok-size.ensures.number honest in
          cut_short (g.D.Disk.words.seen c.args.disk.now) octets place c.read_size.new.reader.place c.in_ok-size.field-0 c.read_size.new.reader.size width number lies
          (c.read_size.ensures.goes_on.size ∙ (c.requires.at honest).size) c.in_ok-size.ensures.place c.if-reader-size.true,
    )

pub returns-clause-goes_on : goal.returns-clause-goes_on
returns-clause-goes_on g c =
    goes_value g.D.Disk.honest g.D.Disk.words _ c.read_size.result _ c.in_ok-size.field-0 c.args.disk.now c.read_size.new.disk
    c.args.reader.now c.read_size.new.reader refl c.in_ok-size.was c.read_size.ensures.goes_on
