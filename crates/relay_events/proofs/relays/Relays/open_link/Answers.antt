use Rattle.std.proofs.Common.{◌≡◌, ◌++◌, [], ◌∷◌, length, Some, sym, subst, ap, ◌∙◌, arith, rules}
use Rattle.std.specs.Prelude.{slice_get, slice_index_or, slice_set, vec_len}
use Rattle.relay_world.specs.Steps.{opened_link}
use Rattle.relay_hosts.specs.Host.{holds_up}
use Rattle.relay_events.specs.Relays.{world_of}
use Rattle.relay_hosts.specs.Work.{RefusesSession}
use Rattle.relay_events.proofs.BoundLemmas.{keeps_changes}
use Rattle.relay_events.proofs.ConnectLemmas.{same_hosts}
use Rattle.relay_events.proofs.PlaceLemmas.{value_same}
use Rattle.relay_events.proofs.StopNowLemmas.{up_there}
use Rattle.relay_events.proofs.TellLemmas.{get_within}
use Rattle.relay_events.proofs.relays.Relays.open_link.Goals as goal

pub index_mut-requires : goal.index_mut-requires
index_mut-requires g c =
    let old = world_of c.args.self.now in
    let its = up_there g.D.Disk.honest g.D.Disk.words old c.args.node 0 c.requires.up in
    let within = get_within old.hosts c.args.node its.0 its.1 in
    let len : length c.args.self.now.hosts.items ≡ vec_len c.args.self.now.hosts = search rules in
    omega (arith, within, len)

pub connect-requires : goal.connect-requires
connect-requires g c =
    let old = world_of c.args.self.now in
    let its = up_there g.D.Disk.honest g.D.Disk.words old c.args.node 0 c.requires.up in
    let was = c.index_mut.result.now in
    let at : was ≡ slice_index_or old.hosts c.args.node was = search rules in
    let same = value_same old.hosts c.args.node its.0 was its.1 at in
    keeps_changes g.D.Disk.honest g.D.Disk.words old c.args.node was c.requires.bound
    (subst (λ h. slice_get old.hosts c.args.node ≡ Some h) (sym same) its.1) (ap (λ (h : _). holds_up h.state) same ∙ its.2)

pub unwrap-requires : goal.unwrap-requires
unwrap-requires g c = c.push.ensures.succeeds c.requires.room

pub returns-clause-opens : goal.returns-clause-opens
returns-clause-opens g c =
    let old = world_of c.args.self.now in
    let its = up_there g.D.Disk.honest g.D.Disk.words old c.args.node 0 c.requires.up in
    let was = c.index_mut.result.now in
    let at : was ≡ slice_index_or old.hosts c.args.node was = search rules in
    let same = value_same old.hosts c.args.node its.0 was its.1 at in
    let connected = c.in-Ok.connected in
    let pushed : c.push.new.self.items ≡ old.links ++ opened_link c.args.node c.args.peer connected ∷ [] = search rules in
    record {
      was = was;
      was_at = subst (λ h. slice_get old.hosts c.args.node ≡ Some h) (sym same) its.1;
      now = c.connect.new.self;
      connected = connected;
      opens = c.in-Ok.ensures;
      greeting_is = search rules;
      new_is = ap (λ ls. record (world_of c.args.self.now) { hosts = slice_set old.hosts c.args.node c.connect.new.self; links = ls }) pushed;
    }

pub returns-in-Err-clause-opens : goal.returns-in-Err-clause-opens
returns-in-Err-clause-opens g c =
    let old = world_of c.args.self.now in
    let its = up_there g.D.Disk.honest g.D.Disk.words old c.args.node 0 c.requires.up in
    let was = c.index_mut.result.now in
    let at : was ≡ slice_index_or old.hosts c.args.node was = search rules in
    let same = value_same old.hosts c.args.node its.0 was its.1 at in
    let was_at = subst (λ h. slice_get old.hosts c.args.node ≡ Some h) (sym same) its.1 in
    record {
      host = was;
      host_at = was_at;
      refuses = subst (λ h. RefusesSession was h c.in-Err.fault) c.in-Err.ensures.new_is c.in-Err.ensures;
      new_is = same_hosts old c.args.node was c.connect.new.self was_at at c.in-Err.ensures.new_is;
    }
