-- Each call of the loop is one more step in the dialogue.
use Rattle.std.proofs.Common.{◌≡◌, true, refl, sym, arith}
use Rattle.std.proofs.lemmas.List.{length-drop, take_rest}
use Rattle.relay_server.specs.Machine.{is_reading}
use Rattle.relay_server.proofs.StandsLemmas.{hears_further, hears_nothing}
use Rattle.std.proofs.lemmas.Result.{IfOk-from_err}
use Rattle.relay_server.proofs.session.Session.read.Goals as goal

pub loop-used-init : goal.loop-used-init
loop-used-init c = record {
  within = omega arith;
  began = λ reads. reads;
  still = λ _. (refl, refl, refl);
  idle = λ _. refl;
  hears = λ setup said same stands. hears_nothing setup c.args.self.now said c.args.out.now.items stands;
}

pub loop-used-preserved : goal.loop-used-preserved
loop-used-preserved c =
    let piece = c.args.piece.now in
    let used = c.loop-used.used in
    let some = c.in_ok-used.ensures.within.0 in
    let short = rw take_rest at c.in_ok-used.ensures.within.1 in
    let advances = rw take_rest at c.in_ok-used.ensures.advances in
    let reads : is_reading c.loop-used.self.stage ≡ true = sym c.if-is_reading.ensures in
    let began = c.loop-used.invariant.began reads in
    record {
      within = omega (arith, short, length-drop used piece);
      began = λ _. began;
      still = λ rests. cc;
      idle = λ none. absurd (omega (arith, some, none));
      hears = λ setup said same stands.
          hears_further setup c.args.self.now c.loop-used.self c.advance.new.self c.args.table.now said piece used c.in_ok-used.field-0
          c.args.out.now.items c.loop-used.out.items c.advance.new.out.items same began reads (c.loop-used.invariant.hears setup said same stands) advances;
    }

pub returns-in_err-used-clause-stands : goal.returns-in_err-used-clause-stands
returns-in_err-used-clause-stands c = IfOk-from_err c.from_residual.result _ c.from_residual.ensures.0

pub returns-in_err-used-clause-idle : goal.returns-in_err-used-clause-idle
returns-in_err-used-clause-idle c = IfOk-from_err c.from_residual.result _ c.from_residual.ensures.0

pub returns-in_err-used-clause-within : goal.returns-in_err-used-clause-within
returns-in_err-used-clause-within c = IfOk-from_err c.from_residual.result _ c.from_residual.ensures.0

pub returns-in_err-used-clause-whole : goal.returns-in_err-used-clause-whole
returns-in_err-used-clause-whole c = IfOk-from_err c.from_residual.result _ c.from_residual.ensures.0
