-- The configuration that was read, the queue that was opened, and the list that was written of it.
use Rattle.std.proofs.Common.{rules}
use Rattle.relay_queue.specs.Printed.{IsList}
use Rattle.relay_queue.specs.Screen.{AreSafe}
use Rattle.relay_queue.proofs.BlankLemmas.{list_of_look, listed_alike}
use Rattle.relay_queue.proofs.calls.print_list.Goals as goal

pub returns : goal.returns
returns g c =
    let listed : IsList c.args.form c.clock_moment-now.result c.in_ok-config.config.routes c.in_ok-look.look.queue
    c.in_ok-keys.keys.items c.as_slice-2.result.now = search rules in
    let safe : AreSafe c.as_slice-2.result.now = search rules in
    record {
      look = c.in_ok-look.look;
      queue = c.in_ok-look.ensures.0;
      opened = c.in_ok-look.ensures.1;
      document = c.in_ok-config.ensures.0;
      config = c.in_ok-config.config;
      reads = c.in_ok-config.ensures.1;
      now = c.clock_moment-now.result;
      keys = c.in_ok-keys.keys.items;
      picked =
          listed_alike c.args.filter.now c.clock_moment-now.result c.in_ok-config.config.routes c.in_ok-look.look.queue
          c.in_ok-look.ensures.0 c.in_ok-keys.keys.items
          c.in_ok-look.ensures.1.shows.blank c.in_ok-keys.ensures;
      text = c.as_slice-2.result.now;
      listed =
          list_of_look c.args.form c.clock_moment-now.result c.in_ok-config.config.routes c.in_ok-look.look.queue
          c.in_ok-look.ensures.0 c.in_ok-keys.keys.items
          c.as_slice-2.result.now c.in_ok-look.ensures.1.shows.blank listed;
      safe = safe;
      written = c.in_ok-write_out.ensures;
    }
