use Rattle.std.proofs.Common.{ℕ, ◌≤◌, arith, subst, sym}
use Rattle.relay_hosts.proofs.BeginLemmas.{new_owes_none}
use Rattle.relay_hosts.proofs.host.Host.create.Goals as goal

pub invariant_of-result : goal.invariant_of-result
invariant_of-result g c = (
  subst (λ (n : ℕ). n ≤ 0)
      (sym (new_owes_none g.D.Disk.honest g.D.Disk.words c.args.config c.in-Ok.node c.in-Ok.ensures.keeps c.in-Ok.ensures.idle))
      (omega arith),
  omega (arith, c.new.ensures.len),
)
