use Rattle.std.proofs.Common.{◌≡◌, length, refl, subst, sym, ap, ◌∙◌, arith, rules}
use Rattle.std.specs.Prelude.{Some, slice_get, slice_index_or, vec_len}
use Rattle.std.specs.List.{insert, remove}
use Rattle.relay_world.specs.World.{Host}
use Rattle.relay_hosts.specs.Host.{holds_up}
use Rattle.relay_events.specs.Relays.{world_of}
use Rattle.relay_events.proofs.DownLemmas.{opens_at}
use Rattle.relay_events.proofs.PlaceLemmas.{value_same}
use Rattle.relay_events.proofs.PutLemmas.{back_in}
use Rattle.relay_events.proofs.TellLemmas.{get_within}
use Rattle.relay_events.proofs.relays.Relays.open_host.Goals as goal

pub remove-host-requires : goal.remove-host-requires
remove-host-requires g c =
    let within = get_within c.args.self.now.hosts.items c.args.node c.requires.host c.requires.host_at in
    let len : length c.args.self.now.hosts.items ≡ vec_len c.args.self.now.hosts = search rules in
    omega (arith, within, len)

pub open-host-requires : goal.open-host-requires
open-host-requires g c =
    let was = c.remove-host.result in
    let at : was ≡ slice_index_or c.args.self.now.hosts.items c.args.node was = search rules in
    ap (λ (h : Host _). holds_up h.state)
    (value_same c.args.self.now.hosts.items c.args.node c.requires.host was c.requires.host_at at)
    ∙ c.requires.down

pub returns-clause-world : goal.returns-clause-world
returns-clause-world g c =
    let hosts = c.args.self.now.hosts.items in
    let node = c.args.node in
    let was = c.remove-host.result in
    let now = c.open-host.result.0 in
    let at : was ≡ slice_index_or hosts node was = search rules in
    let same = value_same hosts node c.requires.host was c.requires.host_at at in
    let within = get_within hosts node c.requires.host c.requires.host_at in
    let again : c.insert.new.self.items ≡ insert (remove hosts node) node now = search rules in
    opens_at g.D.Disk.honest g.D.Disk.words (world_of c.args.self.now) _ node was now
    (subst (λ h. slice_get hosts node ≡ Some h) (sym same) c.requires.host_at) c.insert.new.self.items
    (again ∙ back_in hosts node now within) c.open-host.result.1 c.open-host.ensures refl
