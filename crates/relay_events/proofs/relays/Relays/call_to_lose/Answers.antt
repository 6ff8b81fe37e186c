use Rattle.std.proofs.Common.{◌≡◌, length, refl, subst, sym, arith, rules}
use Rattle.std.specs.Prelude.{slice_index_or, vec_len}
use Rattle.relay_hosts.specs.Call.{HasAttempt, IsToldLoss}
use Rattle.relay_events.proofs.PlaceLemmas.{value_same}
use Rattle.relay_events.proofs.TellLemmas.{get_within}
use Rattle.relay_events.proofs.relays.Relays.call_to_lose.Goals as goal

pub index_mut-requires : goal.index_mut-requires
index_mut-requires g c =
    let within = get_within c.args.self.now.hosts.items c.args.node c.requires.host c.requires.host_at in
    let len : length c.args.self.now.hosts.items ≡ vec_len c.args.self.now.hosts = search rules in
    omega (arith, within, len)

pub lose-requires : goal.lose-requires
lose-requires g c =
    let hosts = c.args.self.now.hosts.items in
    let was = c.index_mut.result.now in
    let at : was ≡ slice_index_or hosts c.args.node was = search rules in
    subst (λ h. HasAttempt g.D.Disk.honest g.D.Disk.words h c.args.slot)
    (sym (value_same hosts c.args.node c.requires.host was c.requires.host_at at)) c.requires.has

pub returns-clause-called : goal.returns-clause-called
returns-clause-called g c =
    let hosts = c.args.self.now.hosts.items in
    let was = c.index_mut.result.now in
    let at : was ≡ slice_index_or hosts c.args.node was = search rules in
    record {
      was = c.requires.host;
      was_at = c.requires.host_at;
      now = c.lose.new.self;
      tells = subst
          (λ h. IsToldLoss g.D.Disk.honest g.D.Disk.words c.args.self.now.clock h c.lose.new.self c.args.slot c.lose.result)
          (value_same hosts c.args.node c.requires.host was c.requires.host_at at) c.lose.ensures;
      new_is = refl;
    }
