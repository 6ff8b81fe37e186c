-- The reload that waits is the one that takes effect, and what was held is held.
use Rattle.std.proofs.Common.{◌≡◌, ◌∙◌, Box, List, Option, ap, inr, sym, subst}
use Rattle.std.specs.Prelude.{unwrap_or}
use Rattle.std.specs.Global.{Global}
use Rattle.relay_slots.specs.Slots.{AreFree}
use Rattle.relay_connections.specs.Readiness.{clients_of}
use Rattle.relay_connections.specs.declared.client.Client.{Client}
use Rattle.relay_run.specs.Reloading.{HoldsAlike}
use Rattle.relay_run.specs.Reopening.{KeepsConfig}
use Rattle.relay_run.specs.declared.reload.Reload.{Reload}
use Rattle.relay_run.proofs.FreeLemmas.{free_of_count}
use Rattle.relay_run.proofs.shell.Shell.reloaded.Goals as goal

pub returns-clause-config : goal.returns-clause-config
returns-clause-config g c =
    let same : c.requires.reload ≡ c.in-Some.reload =
    ap (λ (kept : Option Reload). unwrap_or kept c.in-Some.reload)
    (sym c.requires.waits ∙ (sym c.take.ensures.value ∙ c.in-Some.is)) in
    inr (
      c.args.now.now.tick,
      c.requires,
      subst (λ (reload : Reload). KeepsConfig reload.settings.config
          c.in_ok-shell.shell.relay.node.config) (sym same) c.in_ok-shell.ensures.config,
    )

pub returns-clause-held : goal.returns-clause-held
returns-clause-held g c =
    subst (HoldsAlike c.args.self.next_hops.lanes.held) (sym c.in_ok-shell.ensures.held)
    (subst (λ held. HoldsAlike held c.in-Ok.next_hops.lanes.held) c.held.ensures c.in-Ok.ensures)

-- No session was left.
pub returns-clause-served : goal.returns-clause-served
returns-clause-served g c =
    let opened = c.in_ok-shell.ensures.opened in
    inr (record {
      none = subst (λ (table : List (Option (Box (Client _) Global))). AreFree table) (sym opened.0) (free_of_count (clients_of c.args.self.clients) c.requires.effect.sessions);
      opened = opened.1;
    })

pub returns-clause-matches : goal.returns-clause-matches
returns-clause-matches g c = λ matches. c.in_ok-shell.ensures.matches
