-- A reload that takes effect waits no longer.
use Rattle.std.proofs.Common.{inl, inr, refl}
use Rattle.relay_run.proofs.RequestLemmas.{fault_is_none, if_ok_then}
use Rattle.relay_run.proofs.shell.Shell.kept_or_reopened.Goals as goal

pub reloaded-requires : goal.reloaded-requires
reloaded-requires g c = c.may_reload.ensures.0 c.if-may_reload.true

pub returns-in-Ok-clause-reloads : goal.returns-in-Ok-clause-reloads
returns-in-Ok-clause-reloads g c = if_ok_then c.reloaded.result _ _ c.reloaded.ensures.ended (λ after ended. λ well due. ended.0)

pub returns-in-Ok-3-clause-reloads : goal.returns-in-Ok-3-clause-reloads
returns-in-Ok-3-clause-reloads g c = λ well due. let no : ⊥ = cc (c.may_reload.ensures.1 due, c.if-may_reload.false) in absurd no

-- A spool that is opened again for another reason has its configuration.
pub returns-in-Ok-2-clause-config : goal.returns-in-Ok-2-clause-config
returns-in-Ok-2-clause-config g c = if_ok_then c.reopened.result _ _ c.reopened.ensures.config (λ after config. inl config)

pub returns-in-Ok-2-clause-reloads : goal.returns-in-Ok-2-clause-reloads
returns-in-Ok-2-clause-reloads g c = if_ok_then c.reopened.result _ _ c.reopened.ensures.config (λ after config. λ well due. let no : ⊥ = cc (c.may_reload.ensures.1 due, c.if-may_reload.false) in absurd no)

pub returns-in-Ok-2-clause-served : goal.returns-in-Ok-2-clause-served
returns-in-Ok-2-clause-served g c = if_ok_then c.reopened.result _ _ c.reopened.ensures.none (λ after none. inr none)

pub returns-in-Err-Device-clause-config : goal.returns-in-Err-Device-clause-config
returns-in-Err-Device-clause-config g c = if_ok_then c.reopened-in-Err-Device.result _ _ c.reopened-in-Err-Device.ensures.config (λ after config. inl config)

pub returns-in-Err-Device-clause-reloads : goal.returns-in-Err-Device-clause-reloads
returns-in-Err-Device-clause-reloads g c = if_ok_then c.reopened-in-Err-Device.result _ _ c.reopened-in-Err-Device.ensures.config (λ after config. λ well due. absurd (fault_is_none c.args.end _ c.in-Err-Device.is well))

-- It has no connection to a next hop.
pub returns-in-Ok-2-clause-hops : goal.returns-in-Ok-2-clause-hops
returns-in-Ok-2-clause-hops g c = if_ok_then c.reopened.result _ _ c.reopened.ensures.hops (λ after free. inr free)

pub returns-in-Err-Device-clause-hops : goal.returns-in-Err-Device-clause-hops
returns-in-Err-Device-clause-hops g c = if_ok_then c.reopened-in-Err-Device.result _ _ c.reopened-in-Err-Device.ensures.hops (λ after free. inr free)

-- Its tables match: they did, or they are new.
pub returns-in-Ok-clause-matches : goal.returns-in-Ok-clause-matches
returns-in-Ok-clause-matches g c =
    if_ok_then c.reloaded.result _ _ c.reloaded.ensures.matches (λ after goes. λ matches. goes (matches (rw c.in-Ok.is refl)))

pub returns-in-Ok-2-clause-matches : goal.returns-in-Ok-2-clause-matches
returns-in-Ok-2-clause-matches g c = if_ok_then c.reopened.result _ _ c.reopened.ensures.matches (λ after now. λ matches. now)

pub returns-in-Ok-3-clause-matches : goal.returns-in-Ok-3-clause-matches
returns-in-Ok-3-clause-matches g c = λ matches. matches (rw c.in-Ok-3.is refl)

pub returns-in-Err-Device-clause-matches : goal.returns-in-Err-Device-clause-matches
returns-in-Err-Device-clause-matches g c = if_ok_then c.reopened-in-Err-Device.result _ _ c.reopened-in-Err-Device.ensures.matches (λ after now. λ matches. now)
