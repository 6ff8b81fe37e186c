use Rattle.std.proofs.Common.{refl, sym, ap, ◌∙◌}
use Rattle.relay_node.specs.Node.{NodeState}
use Rattle.relay_hosts.proofs.StopLemmas.{left_by_stop, state_crashes}
use Rattle.relay_hosts.proofs.host.HostState.crash.Goals as goal

pub returns : goal.returns
returns g c =
    let rest = c.in-Some.ensures.rest in
    state_crashes g.D.Disk.honest g.D.Disk.words c.args.self c.in-Up.node _ c.args.origin c.in-Up.is (record {
      config = c.into_parts-config.ensures.config ∙ ap (λ (n : NodeState _). n.config) rest;
      left = left_by_stop g.D.Disk.honest g.D.Disk.words c.in-Up.node.records _ c.stopped-disk.result
          (c.into_parts-config.ensures.disk ∙ ap (λ (n : NodeState _). n.records.spool.disk) rest) c.stopped-disk.ensures.images
          c.stopped-disk.ensures.fuse;
      noted = c.in-Some.note;
      note_is = sym c.in-Some.ensures.noted;
      some = refl;
    })
