-- One node more has begun, by the configuration of its place.
use Rattle.std.proofs.Common.{◌≡◌, ◌+◌, None, List, [], ◌∷◌, ◌++◌, length, sym, subst, ◌∙◌, arith, rules}
use Rattle.std.specs.Prelude.{vec_len}
use Rattle.std.proofs.lemmas.Iterator.Adapters.{YieldsList-from_vec}
use Rattle.std.proofs.lemmas.Iterator.Consumers.{YieldsList-end, YieldsList-turn}
use Rattle.std.proofs.lemmas.List.{map-id}
use Rattle.relay_disk.specs.declared.disks.Disks.{Disks}
use Rattle.relay_disk.specs.declared.memory.MemoryDisk.{MemoryDisk}
use Rattle.relay_disk.specs.Disks.{calls_left_of}
use Rattle.relay_disk.specs.Memory.{memory_words}
use Rattle.relay_routes.specs.declared.config.Config.{Config}
use Rattle.relay_pair.specs.Begin.{AreNew, NoneIsSet}
use Rattle.relay_hosts.specs.Begin.{IsNew}
use Rattle.relay_pair.specs.Profiles.{at_place}
use Rattle.relay_pair.proofs.BeginLemmas.{as_many_hosts, made_with_none, none_more, one_more_new}
use Rattle.relay_pair.proofs.network.begin_hosts.Goals as goal

pub at_place-config-requires : goal.at_place-config-requires
at_place-config-requires c =
    let items = c.args.configs.items in
    let gives = c.into_iter-config-iterator.ensures.into_iter_gives in
    let long : vec_len c.args.configs ≡ length items = search rules in
    let turn =
    YieldsList-turn (YieldsList-from_vec items gives.0 (gives.1 ∙ long)) c.loop-config.yielded c.loop-config.config-iterator
    c.loop-config.yielded_by c.next.result c.next.new.self c.in-Some.config c.in-Some.is c.next.ensures.steps in
    let before = turn.0 in
    let many =
    as_many_hosts (Unit {0}) memory_words 0 c.loop-config.yielded c.loop-config.hosts.items c.loop-config.invariant.0 in
    omega (arith, before, many, c.len.ensures, c.requires, c.loop-config.hosts.ok.0)

pub loop-config-preserved : goal.loop-config-preserved
loop-config-preserved c =
    let configs = c.loop-config.yielded in
    let hosts = c.loop-config.hosts.items in
    let host = c.in-Ok.host in
    let place : c.len.result ≡ 0 + length hosts = omega (arith, c.len.ensures, c.loop-config.hosts.ok.0) in
    let new : IsNew (Unit {0}) memory_words (at_place c.len.result c.in-Some.config) host =
    subst (λ (config : Config). IsNew (Unit {0}) memory_words config host) c.at_place-config.ensures c.in-Ok.ensures.new in
    let disks : Disks MemoryDisk = record { first = c.new.result; second = c.new-in-loop-config.result } in
    let none : calls_left_of memory_words disks ≡ None = c.new.ensures.fresh.fuse in (
      subst (AreNew (Unit {0}) memory_words 0 (configs ++ c.in-Some.config ∷ [])) (sym c.in_ok-push.ensures.items)
          (one_more_new (Unit {0}) memory_words 0 configs hosts c.in-Some.config host c.loop-config.invariant.0
          (subst (λ n. IsNew (Unit {0}) memory_words (at_place n c.in-Some.config) host) place new)),
      subst (NoneIsSet memory_words) (sym c.in_ok-push.ensures.items)
          (none_more memory_words hosts host c.loop-config.invariant.1
          (made_with_none memory_words disks host.state c.in-Ok.ensures.calls none)),
    )

pub returns-clause-new : goal.returns-clause-new
returns-clause-new c =
    let items = c.args.configs.items in
    let given = c.loop-config.yielded in
    let gives = c.into_iter-config-iterator.ensures.into_iter_gives in
    let long : vec_len c.args.configs ≡ length items = search rules in
    let end =
    YieldsList-end (YieldsList-from_vec items gives.0 (gives.1 ∙ long)) given c.loop-config.config-iterator
    c.loop-config.yielded_by c.next.result c.next.new.self c.in-None.is c.next.ensures.steps in
    let all : given ≡ items = sym (map-id given) ∙ end.0 in
    subst (λ (l : List Config). AreNew (Unit {0}) memory_words 0 l c.loop-config.hosts.items) all c.loop-config.invariant.0

pub returns-clause-none_set : goal.returns-clause-none_set
returns-clause-none_set c = c.loop-config.invariant.1
