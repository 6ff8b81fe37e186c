-- Relays that have just begun are in order.
use Rattle.std.proofs.Common.{sym, subst}
use Rattle.relay_world.specs.Leaks.{NothingLeaks}
use Rattle.relay_world.specs.World.{World}
use Rattle.relay_events.specs.Relays.{AreBound, free_lines}
use Rattle.relay_hosts.specs.Room.{HasRoom}
use Rattle.relay_events.specs.Told.{LearnsOfBreaks}
use Rattle.relay_pair.proofs.BeginLemmas.{begun_are_bound, begun_are_told, begun_has_room, begun_leak_nothing}
use Rattle.relay_pair.proofs.pair.Pair.of_hosts.Goals as goal

pub invariant_of-result : goal.invariant_of-result
invariant_of-result g c =
    let configs = c.requires.0 in
    let hosts = c.args.hosts.items in
    let relays = c.of_hosts.result in
    record {
      order = record {
        bound = subst (λ (w : World _). AreBound g.D.Disk.honest g.D.Disk.words w) (sym c.of_hosts.ensures)
            (begun_are_bound g.D.Disk.honest g.D.Disk.words configs hosts c.requires.1 c.requires.2 c.requires.3 c.once_at_first.ensures
            c.hop_links_at_first.ensures);
        told = subst (λ (w : World _). LearnsOfBreaks w) (sym c.of_hosts.ensures)
            (begun_are_told g.D.Disk.honest g.D.Disk.words configs hosts c.requires.1);
        room = subst (λ (w : World _). HasRoom w (free_lines relays)) (sym c.of_hosts.ensures)
            (begun_has_room g.D.Disk.honest g.D.Disk.words configs hosts c.requires.1 (free_lines relays));
      };
      leaks = subst (λ (w : World _). NothingLeaks w) (sym c.of_hosts.ensures)
          (begun_leak_nothing g.D.Disk.honest g.D.Disk.words configs hosts c.requires.1);
    }
