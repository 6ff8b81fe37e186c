-- The configuration that was read, the queue that was opened, and what was written of it.
use Rattle.std.proofs.Common.{rules, ℕ, List, subst}
use Rattle.relay_queue.specs.Printed.{IsStatus, ShowsFill}
use Rattle.relay_queue.specs.Screen.{AreSafe}
use Rattle.relay_listing.specs.Load.{queue_by_hop}
use Rattle.relay_listing.specs.declared.load.Load.{Load}
use Rattle.relay_queue.proofs.BlankLemmas.{hops_of_look}
use Rattle.relay_queue.proofs.calls.print_status.Goals as goal

pub returns : goal.returns
returns g c =
    let fill : ShowsFill c.args.form c.in_ok-look.look.size c.as_slice.result.now = search rules in
    let by_hop : IsStatus c.args.form c.clock_moment-now.result
    (queue_by_hop c.in_ok-config.config.routes c.in_ok-look.look.queue)
    c.in_ok-look.look.size c.in_ok-config.config.spool_limit c.as_slice.result.now = search rules in
    let safe : AreSafe c.as_slice.result.now = search rules in
    record {
      look = c.in_ok-look.look;
      queue = c.in_ok-look.ensures.0;
      opened = c.in_ok-look.ensures.1;
      document = c.in_ok-config.ensures.0;
      config = c.in_ok-config.config;
      reads = c.in_ok-config.ensures.1;
      now = c.clock_moment-now.result;
      text = c.as_slice.result.now;
      by_hop =
          subst (λ (loads : List (List ℕ × Load)). IsStatus c.args.form c.clock_moment-now.result loads
          c.in_ok-look.look.size c.in_ok-config.config.spool_limit c.as_slice.result.now)
          (hops_of_look c.in_ok-config.config.routes c.in_ok-look.look.queue c.in_ok-look.ensures.0
          c.in_ok-look.ensures.1.shows.blank) by_hop;
      fill = fill;
      safe = safe;
      written = c.in_ok-write_out.ensures;
    }
