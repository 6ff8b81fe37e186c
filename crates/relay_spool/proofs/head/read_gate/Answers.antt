use Rattle.std.proofs.Common.{◌≡◌, ℕ, List, take, refl, sym, ap, ◌∙◌, arith, slice_index, get_or-take, take-take}
use Rattle.std.proofs.lemmas.Bool.{false≢true}
use Rattle.std.proofs.lemmas.Bool.Decides.{Decides-eqb}
use Rattle.std.proofs.lemmas.Result.{IfOk-from_err}
use Rattle.std.proofs.lemmas.Slice.Eq.{slice_eq-Decides}
use Rattle.relay_spool.proofs.CallLemmas.{counts_fault, counts_none}
use Rattle.relay_spool.proofs.PassLemmas.{any_one}
use Rattle.relay_spool.proofs.head.read_gate.Goals as goal

-- the first eight octets of what was read, and the ninth
front : (image into : List ℕ) → into ≡ take 9 image → take 8 into ≡ take 8 image
front image into read = ap (λ (xs : List ℕ). take 8 xs) read ∙ take-take 8 9 image (omega arith)

gate_is : (image into : List ℕ) → into ≡ take 9 image → slice_index into 8 ≡ slice_index image 8
gate_is image into read = ap (λ (xs : List ℕ). slice_index xs 8) read ∙ get_or-take 9 image 8 0 (omega arith)

pub returns-in_err-read-clause-gate : goal.returns-in_err-read-clause-gate
returns-in_err-read-clause-gate g c = λ honest. IfOk-from_err c.from_residual.result _ c.from_residual.ensures.0

pub returns-in_err-read-clause-seen : goal.returns-in_err-read-clause-seen
returns-in_err-read-clause-seen g c = c.read.ensures.seen

pub returns-in_err-read-clause-stop : goal.returns-in_err-read-clause-stop
returns-in_err-read-clause-stop g c = c.read.ensures.stop

pub returns-in_err-read-clause-failures : goal.returns-in_err-read-clause-failures
returns-in_err-read-clause-failures g c =
    counts_fault g.D.Disk.words c.from_residual.result c.args.disk.now c.args.disk.now c.read.new.self
    c.from_residual.ensures.0 refl c.in_err-read.ensures.failures.fault

pub returns-then-not-is_signed-clause-gate : goal.returns-then-not-is_signed-clause-gate
returns-then-not-is_signed-clause-gate g c = λ honest has.
    let image = g.D.Disk.words.seen c.args.disk.now in
    let decides = slice_eq-Decides Decides-eqb (take 8 c.read.new.into) c.as_slice.result.now c.eq-is_signed.result c.eq-is_signed.ensures in
    false≢true (sym c.if-not-is_signed.true
    ∙ decides.1 (front image c.read.new.into (c.in_ok-read.ensures.read honest) ∙ has.signed ∙ sym c.as_slice.ensures))

pub returns-then-not-is_signed-clause-seen : goal.returns-then-not-is_signed-clause-seen
returns-then-not-is_signed-clause-seen g c = c.read.ensures.seen

pub returns-then-not-is_signed-clause-stop : goal.returns-then-not-is_signed-clause-stop
returns-then-not-is_signed-clause-stop g c = c.read.ensures.stop

pub returns-then-not-is_signed-clause-failures : goal.returns-then-not-is_signed-clause-failures
returns-then-not-is_signed-clause-failures g c =
    counts_none g.D.Disk.words c.args.disk.now c.read.new.self _ c.in_ok-read.ensures.failures.ok

pub returns-then-front-eq-OPEN-clause-gate : goal.returns-then-front-eq-OPEN-clause-gate
returns-then-front-eq-OPEN-clause-gate g c = λ honest.
    let image = g.D.Disk.words.seen c.args.disk.now in
    let read = c.in_ok-read.ensures.read honest in
    let decides = slice_eq-Decides Decides-eqb (take 8 c.read.new.into) c.as_slice.result.now c.eq-is_signed.result c.eq-is_signed.ensures in (
      record { long = c.requires honest; signed = sym (front image c.read.new.into read) ∙ decides.0 c.if-not-is_signed.false ∙ c.as_slice.ensures },
      sym (gate_is image c.read.new.into read) ∙ c.if-front-eq-OPEN.true,
    )

pub returns-then-front-eq-OPEN-clause-seen : goal.returns-then-front-eq-OPEN-clause-seen
returns-then-front-eq-OPEN-clause-seen g c = c.read.ensures.seen

pub returns-then-front-eq-OPEN-clause-stop : goal.returns-then-front-eq-OPEN-clause-stop
returns-then-front-eq-OPEN-clause-stop g c = c.read.ensures.stop

pub returns-then-front-eq-OPEN-clause-failures : goal.returns-then-front-eq-OPEN-clause-failures
returns-then-front-eq-OPEN-clause-failures g c =
    counts_none g.D.Disk.words c.args.disk.now c.read.new.self _ c.in_ok-read.ensures.failures.ok

pub returns-clause-gate : goal.returns-clause-gate
returns-clause-gate g c = λ honest.
    let image = g.D.Disk.words.seen c.args.disk.now in
    let read = c.in_ok-read.ensures.read honest in
    let decides = slice_eq-Decides Decides-eqb (take 8 c.read.new.into) c.as_slice.result.now c.eq-is_signed.result c.eq-is_signed.ensures in (
      record { long = c.requires honest; signed = sym (front image c.read.new.into read) ∙ decides.0 c.if-not-is_signed.false ∙ c.as_slice.ensures },
      λ opens. c.if-front-eq-OPEN.false (gate_is image c.read.new.into read ∙ opens),
    )

pub returns-clause-seen : goal.returns-clause-seen
returns-clause-seen g c = c.read.ensures.seen

pub returns-clause-stop : goal.returns-clause-stop
returns-clause-stop g c = c.read.ensures.stop

pub returns-clause-failures : goal.returns-clause-failures
returns-clause-failures g c =
    counts_none g.D.Disk.words c.args.disk.now c.read.new.self _ c.in_ok-read.ensures.failures.ok

pub returns-in_err-read-clause-calls : goal.returns-in_err-read-clause-calls
returns-in_err-read-clause-calls g c = any_one g.D.Disk.words c.args.disk.now c.read.new.self c.read.ensures.fuse.burnt

pub returns-then-not-is_signed-clause-calls : goal.returns-then-not-is_signed-clause-calls
returns-then-not-is_signed-clause-calls g c = any_one g.D.Disk.words c.args.disk.now c.read.new.self c.read.ensures.fuse.burnt

pub returns-then-front-eq-OPEN-clause-calls : goal.returns-then-front-eq-OPEN-clause-calls
returns-then-front-eq-OPEN-clause-calls g c = any_one g.D.Disk.words c.args.disk.now c.read.new.self c.read.ensures.fuse.burnt

pub returns-clause-calls : goal.returns-clause-calls
returns-clause-calls g c = any_one g.D.Disk.words c.args.disk.now c.read.new.self c.read.ensures.fuse.burnt
