-- The two relays of a play, which have just begun.
use Rattle.std.proofs.Common.{◌≡◌, List, [], ◌∷◌, ◌++◌, sym, subst, ap, ◌∙◌, arith, rules}
use Rattle.relay_world.specs.World.{Host, World}
use Rattle.relay_pair.specs.Begin.{AreMadeOf, AreNew}
use Rattle.relay_pair.proofs.BeginLemmas.{two_are_new, two_hosts}
use Rattle.relay_pair.proofs.pair.Pair.begin.Goals as goal

pub of_hosts-requires : goal.of_hosts-requires
of_hosts-requires g c =
    let one = c.in_ok-first_profile.field-0 in
    let other = c.in_ok-second_profile.field-0 in
    let a = c.in-Ok.first in
    let b = c.in-Ok-create.second in
    let hosts : c.push-2.new.self.items ≡ a ∷ b ∷ [] =
    c.in_ok-push-2.ensures.items ∙ ap (λ (l : List (Host _)). l ++ b ∷ [])
    (c.in_ok-push.ensures.items ∙ ap (λ (l : List (Host _)). l ++ a ∷ []) c.new-hosts.ensures.items) in (
      one ∷ other ∷ [],
      subst (λ (l : List (Host _)). AreNew g.D.Disk.honest g.D.Disk.words 0 (one ∷ other ∷ []) l) (sym hosts)
          (two_are_new g.D.Disk.honest g.D.Disk.words one other a b c.in_ok-first_profile.ensures.listen
          c.in_ok-second_profile.ensures.listen c.in-Ok.ensures.new c.in-Ok-create.ensures.new),
      two_hosts one other c.in_ok-first_profile.ensures.host_is c.in_ok-second_profile.ensures.host_is,
      omega arith,
    )

pub returns-clause-begun : goal.returns-clause-begun
returns-clause-begun g c =
    let one = c.in_ok-first_profile.field-0 in
    let other = c.in_ok-second_profile.field-0 in
    let a = c.in-Ok.first in
    let b = c.in-Ok-create.second in
    record {
      one = one;
      first = c.in_ok-first_profile.ensures;
      other = other;
      second = c.in_ok-second_profile.ensures;
      begun = record {
        hosts = a ∷ b ∷ [];
        are_new = two_are_new g.D.Disk.honest g.D.Disk.words one other a b c.in_ok-first_profile.ensures.listen
            c.in_ok-second_profile.ensures.listen c.in-Ok.ensures.new c.in-Ok-create.ensures.new;
        world_is = search rules;
      };
    }

pub returns-clause-calls : goal.returns-clause-calls
returns-clause-calls g c =
    let words = g.D.Disk.words in
    let disks = c.args.first ∷ c.args.second ∷ [] in
    let a = c.in-Ok.first in
    let b = c.in-Ok-create.second in
    let hosts : c.push-2.new.self.items ≡ a ∷ b ∷ [] =
    c.in_ok-push-2.ensures.items ∙ ap (λ (l : List (Host _)). l ++ b ∷ [])
    (c.in_ok-push.ensures.items ∙ ap (λ (l : List (Host _)). l ++ a ∷ []) c.new-hosts.ensures.items) in
    subst (λ (w : World _). AreMadeOf words disks w.hosts) (sym c.of_hosts.ensures)
    (subst (λ (l : List (Host _)). AreMadeOf words disks l) (sym hosts)
    (c.in-Ok.ensures.calls, (c.in-Ok-create.ensures.calls, tt)))
