-- An attempt that was lost had a connection.
use Rattle.std.proofs.Common.{◌≡◌, ℕ, Ok, Err, Result, sym, ◌∙◌}
use Rattle.relay_records.specs.declared.fault.NodeFault.{NodeFault}
use Rattle.relay_records.specs.declared.fault.NodeFault.TheVariants.{Unknown}
use Rattle.relay_daemon.proofs.calls.lose.Goals as goal

not_err : (change : ℕ) (fault : NodeFault) → ◌≡◌ {A = Result ℕ NodeFault} (Ok change) (Err fault) → ⊥
not_err change fault e = cc

pub returns-clause-loses : goal.returns-clause-loses
returns-clause-loses g c = record {
  was = λ none. absurd (not_err c.in_ok-change.change Unknown (sym c.in_ok-change.was ∙ c.lose.ensures.unknown none));
  lost = c.in_ok-change.ensures.loses;
  gone = c.lose.ensures.gone;
  ended = c.in_ok-change.ensures.ends.gone;
  only = c.lose.ensures.only;
}
