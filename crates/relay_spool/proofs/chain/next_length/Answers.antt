use Rattle.std.proofs.Common.{◌≡◌, ℕ, [], ◌∷◌, rules, refl, subst}
use Rattle.std.proofs.lemmas.Result.{IfOk-from_err}
use Rattle.relay_spool.specs.Blocks.{Lies}
use Rattle.relay_spool.proofs.GoesLemmas.{goes_fault, goes_then, goes_value, passed_on}
use Rattle.relay_spool.proofs.ChainLemmas.{lies_in, lies_on}
use Rattle.relay_spool.proofs.chain.next_length.Goals as goal

pub returns-clause-begun : goal.returns-clause-begun
returns-clause-begun g c = λ honest.
    let seen = g.D.Disk.words.seen in
    let image = seen c.args.disk.now in
    let from = c.args.reader.now.place in
    let mid = c.next.new.self.place in
    let to = c.read_length.new.reader.place in
    let opens : c.in_ok-next.field-0 ≡ 1 = search rules in
    let gate = subst (λ (octet : ℕ). Lies image from mid (octet ∷ [])) opens (c.in_ok-next.ensures.octet honest) in
    let found = c.in_ok-left.ensures.number honest in
    let rest = lies_in (seen c.next.new.disk) image mid to found.0 (c.next.ensures.goes_on.keeps honest).reads found.3 in (
      found.0,
      found.1,
      found.2,
      lies_on image from mid to (1 ∷ []) found.0 gate rest,
    )

pub returns-in_err-next-clause-begun : goal.returns-in_err-next-clause-begun
returns-in_err-next-clause-begun g c = λ honest. IfOk-from_err c.from_residual.result _ c.from_residual.ensures.0

pub returns-in_err-next-clause-place : goal.returns-in_err-next-clause-place
returns-in_err-next-clause-place g c = IfOk-from_err c.from_residual.result _ c.from_residual.ensures.0

pub returns-in_err-next-clause-goes_on : goal.returns-in_err-next-clause-goes_on
returns-in_err-next-clause-goes_on g c =
    goes_fault g.D.Disk.honest g.D.Disk.words c.from_residual.result c.next.result c.in_err-next.field-0.0 c.args.disk.now
    c.next.new.disk c.args.reader.now c.next.new.self
    (passed_on c.from_residual.result c.in_err-next.field-0.0 c.from_residual.ensures.1) c.in_err-next.was c.next.ensures.goes_on

pub returns-in_err-left-clause-begun : goal.returns-in_err-left-clause-begun
returns-in_err-left-clause-begun g c = λ honest. IfOk-from_err c.from_residual-in_err-left.result _ c.from_residual-in_err-left.ensures.0

pub returns-in_err-left-clause-goes_on : goal.returns-in_err-left-clause-goes_on
returns-in_err-left-clause-goes_on g c =
    let fault = c.in_err-left.field-0.0 in
    let result = c.from_residual-in_err-left.result in
    goes_then g.D.Disk.honest g.D.Disk.words c.next.result c.in_ok-next.field-0 result c.args.disk.now c.next.new.disk
    c.read_length.new.disk c.args.reader.now c.next.new.self c.read_length.new.reader c.in_ok-next.was c.next.ensures.goes_on
    (goes_fault g.D.Disk.honest g.D.Disk.words result c.read_length.result fault c.next.new.disk c.read_length.new.disk c.next.new.self
    c.read_length.new.reader (passed_on result fault c.from_residual-in_err-left.ensures.1) c.in_err-left.was c.read_length.ensures.goes_on)

pub returns-clause-goes_on : goal.returns-clause-goes_on
returns-clause-goes_on g c =
    goes_then g.D.Disk.honest g.D.Disk.words c.next.result c.in_ok-next.field-0 _ c.args.disk.now c.next.new.disk
    c.read_length.new.disk c.args.reader.now c.next.new.self c.read_length.new.reader c.in_ok-next.was c.next.ensures.goes_on
    (goes_value g.D.Disk.honest g.D.Disk.words _ c.read_length.result _ c.in_ok-left.left c.next.new.disk c.read_length.new.disk c.next.new.self
    c.read_length.new.reader refl c.in_ok-left.was c.read_length.ensures.goes_on)
