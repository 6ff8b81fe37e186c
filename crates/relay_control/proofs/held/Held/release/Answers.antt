use Rattle.std.proofs.Common.{bytes_eq, not, refl, rules}
use Rattle.std.proofs.lemmas.Fn.{filter_same}
use Rattle.relay_control.proofs.HeldLemmas.{hop_is_released}
use Rattle.relay_control.proofs.held.Held.release.Goals as goal

pub returns-in-Hop-clause-releases : goal.returns-in-Hop-clause-releases
returns-in-Hop-clause-releases c =
    rw (c.in-Hop.is, ← c.as_slice-name.ensures.value)
    (hop_is_released c.as_slice-name.result.now c.args.self.now _
    (filter_same _ (λ hop. not (bytes_eq hop c.as_slice-name.result.now)) _ (λ x b f called. search rules) _ _ c.retain.ensures.filtered) refl)
