use Rattle.std.proofs.Common.{◌≡◌, ◌≤◌, ◌-◌, length, refl, subst, sym, ap, ◌∙◌, arith, rules}
use Rattle.std.specs.Prelude.{slice_index_or, vec_len}
use Rattle.relay_world.specs.declared.link.Link.{Link}
use Rattle.relay_world.specs.Steps.{waiting_down}
use Rattle.relay_hosts.specs.Call.{HasAttempt, ReadsOrNot}
use Rattle.relay_events.proofs.PlaceLemmas.{link_same, link_there, number_positive, value_same}
use Rattle.relay_events.proofs.TellLemmas.{get_within}
use Rattle.relay_events.proofs.relays.Relays.call_to_read.Goals as goal

pub overflow_sub-number : goal.overflow_sub-number
overflow_sub-number g c =
    number_positive c.args.self.now.links.items c.args.number c.requires.runs.on.link c.requires.runs.on.link_is

pub index-requires : goal.index-requires
index-requires g c =
    let on = c.requires.runs.on in
    let links = c.args.self.now.links.items in
    let within = get_within links (c.args.number - 1) on.link (link_there links c.args.number on.link on.link_is) in
    let len : length links ≡ vec_len c.args.self.now.links = search rules in
    omega (arith, within, len)

pub waiting_down-piece-requires : goal.waiting_down-piece-requires
waiting_down-piece-requires g c =
    let on = c.requires.runs.on in
    let reads = (c.requires.bound.bound.reads c.args.number on.link on.link_is).down in
    subst (λ (l : Link). l.down_read ≤ length l.down)
    (sym (link_same c.args.self.now.links.items c.args.number on.link c.index.result.now on.link_is c.index.ensures)) reads

pub index_mut-requires : goal.index_mut-requires
index_mut-requires g c =
    let on = c.requires.runs.on in
    let within = get_within c.args.self.now.hosts.items c.args.end.node on.host on.host_at in
    let len : length c.args.self.now.hosts.items ≡ vec_len c.args.self.now.hosts = search rules in
    omega (arith, within, len)

pub read-requires : goal.read-requires
read-requires g c =
    let on = c.requires.runs.on in
    let hosts = c.args.self.now.hosts.items in
    let was = c.index_mut.result.now in
    let at : was ≡ slice_index_or hosts c.args.end.node was = search rules in
    subst (λ h. HasAttempt g.D.Disk.honest g.D.Disk.words h c.args.end.slot)
    (sym (value_same hosts c.args.end.node on.host was on.host_at at)) on.has

pub returns-clause-called : goal.returns-clause-called
returns-clause-called g c =
    let on = c.requires.runs.on in
    let hosts = c.args.self.now.hosts.items in
    let was = c.index_mut.result.now in
    let at : was ≡ slice_index_or hosts c.args.end.node was = search rules in
    let same = link_same c.args.self.now.links.items c.args.number on.link c.index.result.now on.link_is c.index.ensures in
    let clock = c.args.self.now.clock in
    let slot = c.args.end.slot in
    record {
      link = on.link;
      link_is = on.link_is;
      was = on.host;
      was_at = on.host_at;
      now = c.read.new.self;
      reads = subst
          (λ h. ReadsOrNot g.D.Disk.honest g.D.Disk.words clock h c.read.new.self slot (waiting_down c.args.count on.link)
          c.read.result) (value_same hosts c.args.end.node on.host was on.host_at at)
          (subst (λ p. ReadsOrNot g.D.Disk.honest g.D.Disk.words clock was c.read.new.self slot p c.read.result)
          (c.waiting_down-piece.ensures ∙ ap (λ (l : Link). waiting_down c.args.count l) same) c.read.ensures);
      new_is = refl;
    }
