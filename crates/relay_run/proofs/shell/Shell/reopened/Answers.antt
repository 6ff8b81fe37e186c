-- No client was left, and no connection that was leaving.
use Rattle.std.proofs.Common.{sym, subst}
use Rattle.relay_slots.specs.Slots.{AreFree}
use Rattle.relay_connections.specs.Leaving.{leavers_of}
use Rattle.relay_connections.specs.Readiness.{clients_of}
use Rattle.relay_connections.specs.declared.clients.Clients.{Clients}
use Rattle.relay_connections.specs.declared.leaving.Leaving.{Leaving}
use Rattle.relay_run.proofs.RequestLemmas.{if_ok_both, if_ok_then}
use Rattle.relay_run.proofs.shell.Shell.reopened.Goals as goal

pub returns-clause-none : goal.returns-clause-none
returns-clause-none g c =
    if_ok_both c.opened.result _ _ _ c.opened.ensures.same c.opened.ensures.opened
    (λ shell same opened. record {
      none = subst (λ (it : Clients _). AreFree (clients_of it)) (sym same.1) c.clear.ensures.free;
      opened = opened;
    })

pub returns-clause-left : goal.returns-clause-left
returns-clause-left g c =
    if_ok_then c.opened.result _ _ c.opened.ensures.same
    (λ shell same. subst (λ (it : Leaving _). AreFree (leavers_of it)) (sym same.3) c.clear-2.ensures)
