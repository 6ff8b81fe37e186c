use Rattle.std.proofs.Common.{◌≡◌, length, Some, subst, sym, ap, ◌∙◌, arith, rules}
use Rattle.std.specs.Prelude.{slice_get, slice_index_or, vec_len}
use Rattle.std.specs.List.{insert, remove}
use Rattle.relay_events.specs.Relays.{world_of}
use Rattle.relay_hosts.specs.Work.{HasChanges}
use Rattle.relay_events.proofs.BoundLemmas.{keeps_changes}
use Rattle.relay_events.proofs.PlaceLemmas.{value_same}
use Rattle.relay_events.proofs.PutLemmas.{back_in}
use Rattle.relay_events.proofs.StopNowLemmas.{up_there}
use Rattle.relay_events.proofs.TellLemmas.{get_within}
use Rattle.relay_events.proofs.relays.Relays.call_to_compact.Goals as goal

pub remove-host-requires : goal.remove-host-requires
remove-host-requires g c =
    let its = up_there g.D.Disk.honest g.D.Disk.words (world_of c.args.self.now) c.args.node 0 c.requires.up in
    let within = get_within c.args.self.now.hosts.items c.args.node its.0 its.1 in
    let len : length c.args.self.now.hosts.items ≡ vec_len c.args.self.now.hosts = search rules in
    omega (arith, within, len)

pub compact-host-requires : goal.compact-host-requires
compact-host-requires g c =
    let old = world_of c.args.self.now in
    let its = up_there g.D.Disk.honest g.D.Disk.words old c.args.node 0 c.requires.up in
    let was = c.remove-host.result in
    let at : was ≡ slice_index_or c.args.self.now.hosts.items c.args.node was = search rules in
    subst (λ h. HasChanges g.D.Disk.honest g.D.Disk.words h)
    (sym (value_same c.args.self.now.hosts.items c.args.node its.0 was its.1 at))
    (keeps_changes g.D.Disk.honest g.D.Disk.words old c.args.node its.0 c.requires.bound its.1 its.2)

pub returns-clause-called : goal.returns-clause-called
returns-clause-called g c =
    let old = world_of c.args.self.now in
    let hosts = c.args.self.now.hosts.items in
    let node = c.args.node in
    let its = up_there g.D.Disk.honest g.D.Disk.words old node 0 c.requires.up in
    let was = c.remove-host.result in
    let now = c.compact-host.result.0 in
    let at : was ≡ slice_index_or hosts node was = search rules in
    let same = value_same hosts node its.0 was its.1 at in
    let within = get_within hosts node its.0 its.1 in
    let again : c.insert.new.self.items ≡ insert (remove hosts node) node now = search rules in
    let set = again ∙ back_in hosts node now within in
    record {
      was = was;
      was_at = subst (λ h. slice_get hosts node ≡ Some h) (sym same) its.1;
      now = now;
      rewrites = c.compact-host.ensures;
      new_is = ap (λ hs. record old { hosts = hs }) set;
    }
