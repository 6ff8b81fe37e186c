-- A text that is read says the configuration, and one that is refused says none.
use Rattle.std.proofs.Common.{IsTrue, ◌⊎◌, inl, inr, false, Err, ◌≡◌, rules}
use Rattle.relay_routes.specs.declared.fault.ConfigFault.TheVariants.{NoMemory}
use Rattle.relay_routes.specs.Config.{ReadsConfig}
use Rattle.relay_check.specs.Check.{SaysConfiguration}
use Rattle.relay_check.proofs.RefusalLemmas.{refused_says_none, unread_says_none}
use Rattle.relay_check.proofs.checking.check_text.Goals as goal

pub returns-in-Ok-read-clause-answers : goal.returns-in-Ok-read-clause-answers
returns-in-Ok-read-clause-answers g c = (λ yes. (c.in-Ok-read.config, c.in-Ok-read.ensures.ok), λ says. search rules)

pub returns-clause-answers : goal.returns-clause-answers
returns-clause-answers g c = (λ yes. absurd (cc yes), λ says. by_fault says c.in-Err-2.ensures.err)
  where
    by_fault : SaysConfiguration c.args.text.now → (c.in-Err-2.fault ≡ NoMemory) ⊎ ReadsConfig c.args.text.now (Err c.in-Err-2.fault) → IsTrue false
    by_fault says (inl memory) = search rules
    by_fault says (inr bad) = absurd (refused_says_none c.args.text.now c.in-Err-2.fault bad says)

pub returns-in-Err-clause-answers : goal.returns-in-Err-clause-answers
returns-in-Err-clause-answers g c =
    (λ yes. absurd (cc yes), λ says. absurd (unread_says_none c.args.text.now (c.in-Err.ensures.refused c.in_ok-check_syntax-in-Err.ensures.syntax) says))
