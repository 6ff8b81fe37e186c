-- A configuration that is kept, and the reload that takes effect.
use Rattle.std.proofs.Common.{◌≡◌, ◌≢◌, ℕ, Option, None, Some, refl, ◌∙◌, subst}
use Rattle.relay_connections.specs.declared.clients.Clients.{Clients}
use Rattle.relay_connections.specs.declared.leaving.Leaving.{Leaving}
use Rattle.relay_next_hops.specs.declared.next_hops.NextHops.{NextHops}
use Rattle.relay_routes.specs.declared.config.Config.{Config}
use Rattle.relay_run.specs.Reloading.{IsReloadable, TakesEffect}
use Rattle.relay_run.specs.Reopening.{KeepsConfig}
use Rattle.relay_run.specs.declared.reload.Reload.{Reload}
use Rattle.relay_run.specs.declared.steering.Steering.{Steering}

-- what isn't something is nothing
pub is_none : {A : Type 0} (x : Option A) → ¬ (x ≢ None) → x ≡ None
is_none None nothing = refl
is_none (Some x) nothing = absurd (nothing (λ is. let no : ⊥ = cc is in no))

-- no reload waits
pub none_due : {S : Type 0} (steering : Steering) (clients : Clients S) (next_hops : NextHops S) (leaving : Leaving S) (tick : ℕ) → steering.reload ≡ None
    → ¬ IsReloadable steering clients next_hops leaving tick
none_due steering clients next_hops leaving tick none due = let no : ⊥ = cc (due.waits, none) in no

-- the reload that takes effect is the one that waits
pub due_then : {S : Type 0} (steering : Steering) (clients : Clients S) (next_hops : NextHops S) (leaving : Leaving S) (tick : ℕ) (reload : Reload) → steering.reload ≡ Some reload
    → IsReloadable steering clients next_hops leaving tick → TakesEffect reload clients next_hops leaving tick
due_then steering clients next_hops leaving tick reload is due =
    let same : due.reload ≡ reload = cc (due.waits, is) in
    subst (λ (it : Reload). TakesEffect it clients next_hops leaving tick) same due.effect

pub keeps_self : (config : Config) → KeepsConfig config config
keeps_self config = record {
  host = refl;
  listen = refl;
  spool = refl;
  max_content = refl;
  bare_newlines = refl;
  routes = refl;
  trusted_clients = refl;
  routed_paths = refl;
  reports = refl;
}

pub keeps_on : (one two three : Config) → KeepsConfig one two → KeepsConfig two three → KeepsConfig one three
keeps_on one two three first second = record {
  host = second.host ∙ first.host;
  listen = second.listen ∙ first.listen;
  spool = second.spool ∙ first.spool;
  max_content = second.max_content ∙ first.max_content;
  bare_newlines = second.bare_newlines ∙ first.bare_newlines;
  routes = second.routes ∙ first.routes;
  trusted_clients = second.trusted_clients ∙ first.trusted_clients;
  routed_paths = second.routed_paths ∙ first.routed_paths;
  reports = second.reports ∙ first.reports;
}
