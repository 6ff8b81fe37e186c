-- The words of a parse that succeeds have no fault but that of a wrong choice of mail, and ask for what was found; those
-- of one that fails have its fault.
use Rattle.std.proofs.Common.{◌≡◌, ◌∙◌, ap, refl, sym, subst, map, true}
use Rattle.std.specs.Prelude.{IfOk}
use Rattle.clap.specs.Words.{fault_of, is_simple, is_simple_and_free, subcommand_of}
use Rattle.clap.specs.Kinds.{FailsBy, HasKind}
use Rattle.clap.proofs.KindLemmas.{fails_by_from}
use Rattle.clap.proofs.OnLiterals.{clap_on_literals}
use Rattle.relay_arguments.specs.Arguments.{asked, asked_of, choice_kinds, relayd}
use Rattle.relay_arguments.proofs.FaultLemmas.{chosen, fails_first}
use Rattle.relay_arguments.proofs.words.arguments.Goals as goal

relayd_is_simple_and_free : is_simple_and_free relayd ≡ true
unfolding clap_on_literals
relayd_is_simple_and_free = refl

relayd_is_simple : is_simple relayd ≡ true
unfolding clap_on_literals
relayd_is_simple = refl

pub returns-clause-faults : goal.returns-clause-faults
returns-clause-faults g c =
    let words = map g.S.AsStr.text c.args.words.now in
    let none = ap (λ app. fault_of app words) (sym c.in_ok-program.ensures)
    ∙ c.in_ok-matches.ensures.kinds (ap is_simple_and_free c.in_ok-program.ensures ∙ relayd_is_simple_and_free) in
    let found = c.in_ok-matches.ensures.matches (ap is_simple c.in_ok-program.ensures ∙ relayd_is_simple) in
    subst (λ kinds. FailsBy kinds c.checked.result)
    (ap choice_kinds (found.1 ∙ ap (λ app. subcommand_of app words) c.in_ok-program.ensures) ∙ sym (chosen words none))
    c.checked.ensures.faults

pub returns-in_err-matches-clause-faults : goal.returns-in_err-matches-clause-faults
returns-in_err-matches-clause-faults g c =
    let words = map g.S.AsStr.text c.args.words.now in
    let error = c.in_err-matches.field-0.0 in
    let has = c.in_err-matches.ensures.kinds (ap is_simple_and_free c.in_ok-program.ensures ∙ relayd_is_simple_and_free) in
    let first : HasKind (fault_of relayd words) error = subst (λ app. HasKind (fault_of app words) error) c.in_ok-program.ensures has in
    fails_by_from _ c.from_residual-in_err-matches.result error
    (fails_first (fault_of relayd words) (choice_kinds (subcommand_of relayd words)) error first)
    c.from_residual-in_err-matches.ensures.0 c.from_residual-in_err-matches.ensures.1

pub returns-clause-asked : goal.returns-clause-asked
returns-clause-asked g c =
    let words = map g.S.AsStr.text c.args.words.now in
    let found = c.in_ok-matches.ensures.matches (ap is_simple c.in_ok-program.ensures ∙ relayd_is_simple) in
    subst (λ rows. IfOk c.checked.result (λ subcommand. asked subcommand ≡ asked_of rows))
    (found.1 ∙ ap (λ app. subcommand_of app words) c.in_ok-program.ensures) c.checked.ensures.asked
