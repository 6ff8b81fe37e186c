-- What was read lies in its range, and the routes are those of the relay of this name.
use Rattle.std.proofs.Common.{◌∙◌, lit≤}
use Rattle.relay_routes.specs.declared.key.Key.TheVariants.{Host, MaxContent, SpoolLimit}
use Rattle.toml.specs.View.{table_view}
use Rattle.relay_routes.specs.Document.{value_of}
use Rattle.relay_routes.proofs.MemberLemmas.{host_is_name, size_in_range}
use Rattle.relay_routes.proofs.config.Config.of_document.Goals as goal

pub invariant_of-result : goal.invariant_of-result
invariant_of-result c =
    let content = size_in_range MaxContent 1048576 16777216 c.in_ok-max_content.max_content _ (lit≤ tt) (lit≤ tt) c.in_ok-max_content.ensures in
    let room = size_in_range SpoolLimit 67108864 549755813888 c.in_ok-spool_limit.spool_limit _ (lit≤ tt) (lit≤ tt) c.in_ok-spool_limit.ensures in
    record {
      valid = record {
        named = host_is_name c.in_ok-host.host (value_of Host (table_view c.args.document.now)) c.in_ok-host.ensures.ok;
        some_content = content.0;
        few_content = content.1;
        some_room = room.0;
        little_room = room.1;
        same_host = c.in_ok-routes.ensures.ok.1 ∙ c.in_ok-copy.ensures;
      };
      trusting = c.in_ok-trusted_clients.ensures.trusting;
    }
