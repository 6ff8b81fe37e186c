-- A reload that changes a place is refused, and nothing has changed.
use Rattle.std.proofs.Common.{inr, refl, ap, subst, ◌∙◌, Ok, List, ℕ}
use Rattle.relay_node.specs.Node.{NodeState}
use Rattle.relay_routes.specs.declared.config.Config.{Config}
use Rattle.relay_run.specs.Reloading.{KeepsPlaces}
use Rattle.relay_run.proofs.ReloadLemmas.{is_none}
use Rattle.relay_run.proofs.shell.Shell.begin_reload.Goals as goal

pub returns-then-not-keeps_places-clause-served : goal.returns-then-not-keeps_places-clause-served
returns-then-not-keeps_places-clause-served g c = (
  refl,
  refl,
  inr (inr (
    is_none c.args.self.now.steering.drain (λ drains. let no : ⊥ = cc (c.is_draining.ensures.1 drains, c.if-is_draining.false) in no),
    is_none c.args.self.now.steering.reload (λ waits. let no : ⊥ = cc (c.is_reloading.ensures.1 waits, c.if-is_reloading.false) in no),
    inr (
      c.in-Ok.settings,
      subst (λ (path : List ℕ). g.O.Documents.has_read c.args.files.now path (Ok c.in-Ok.settings)) c.as_str.ensures.value c.in-Ok.ensures,
      subst (λ (config : Config). ¬ KeepsPlaces c.args.self.now.steering.source config c.in-Ok.settings)
          (c.config-config.ensures ∙ ap (λ (node : NodeState _). node.config) c.node.ensures)
          (λ keeps. let no : ⊥ = cc (c.keeps_places.ensures.1 keeps, c.if-not-keeps_places.true) in no),
      c.restart_answer-answer.ensures,
    ),
  )),
)
