use Rattle.std.proofs.Common.{◌≡◌, List, ℕ, true, length, ap, rules}
use Rattle.relay_world.specs.declared.link.Link.{Link}
use Rattle.relay_hosts.proofs.RepliedLemmas.{nothing_written}
use Rattle.relay_hosts.proofs.replied.write_up.Goals as goal

pub returns-then-is_empty-clause-ok : goal.returns-then-is_empty-clause-ok
returns-then-is_empty-clause-ok c =
    let none : length c.args.octets.now ≡ 0 = search rules in nothing_written c.args.link.now c.args.octets.now none

pub returns-in-Ok-clause-ok : goal.returns-in-Ok-clause-ok
returns-in-Ok-clause-ok c =
    ap (λ (u : List ℕ). let written : Link = record c.args.link.now { up = u } in written) c.in-Ok.ensures.ok

pub returns-in-Err-clause-err : goal.returns-in-Err-clause-err
returns-in-Err-clause-err c =
    ap (λ (u : List ℕ). let off : Link = record c.args.link.now { up = u; broken = true } in off) c.in-Err.ensures.err
