-- The two relays of a play are a network's beginning.
use Rattle.std.proofs.Common.{◌≡◌, List, [], ◌∷◌, ◌++◌, subst, ap, ◌∙◌}
use Rattle.relay_disk.specs.Memory.{memory_words}
use Rattle.relay_routes.specs.declared.config.Config.{Config}
use Rattle.relay_pair.specs.Begin.{HasBegun}
use Rattle.relay_pair.proofs.pair.Pair+MemoryDisk.new.Goals as goal

pub returns-in-Ok-clause-begun : goal.returns-in-Ok-clause-begun
returns-in-Ok-clause-begun c =
    let one = c.in_ok-first_profile.field-0 in
    let other = c.in_ok-second_profile.field-0 in
    let configs : c.push-2.new.self.items ≡ one ∷ other ∷ [] =
    c.in_ok-push-2.ensures.items ∙ ap (λ (l : List Config). l ++ other ∷ [])
    (c.in_ok-push.ensures.items ∙ ap (λ (l : List Config). l ++ one ∷ []) c.new-configs.ensures.items) in
    record {
      one = one;
      first = c.in_ok-first_profile.ensures;
      other = other;
      second = c.in_ok-second_profile.ensures;
      begun = subst (λ (l : List Config). HasBegun (Unit {0}) memory_words l c.in-Ok.pair) configs c.in-Ok.ensures.begun.1;
    }
