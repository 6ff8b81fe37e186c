use Rattle.std.proofs.Common.{refl}
use Rattle.relay_hosts.proofs.StopLemmas.{left_by_stop, state_stops}
use Rattle.relay_hosts.proofs.host.HostState.stop.Goals as goal

pub returns : goal.returns
returns g c = state_stops g.D.Disk.honest g.D.Disk.words c.args.self c.in-Up.node _ c.in-Up.is (record {
  config = c.into_parts-config.ensures.config;
  left = left_by_stop g.D.Disk.honest g.D.Disk.words c.in-Up.node.records _ c.stopped-disk.result c.into_parts-config.ensures.disk
      c.stopped-disk.ensures.images c.stopped-disk.ensures.fuse;
  none = refl;
})
