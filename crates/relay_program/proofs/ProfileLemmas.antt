-- The configuration of a session from standard input.
use Rattle.std.proofs.Common.{◌≡◌, ◌∙◌, codes, None}
use Rattle.relay_routes.specs.declared.bare_newlines.BareNewlines.TheVariants.{Pass}
use Rattle.relay_routes.specs.declared.routed_paths.RoutedPaths.TheVariants as routed
use Rattle.relay_routes.specs.declared.config.Config.{Config}
use Rattle.relay_routes.proofs.Theorems.{all_are_trusted, nobody_is_listed}
use Rattle.relay_program.specs.Setup.{IsProfile, session_limit, session_peer, session_setup}

-- where no trusted clients are named, its client has the whole table, and the rule of the configuration
pub is_profile : (config : Config) → config.host ≡ codes "relay.example" → config.max_content ≡ 1048576 → config.bare_newlines ≡ Pass → config.routes ≡ session_setup.routes → config.trusted_clients ≡ None → config.routed_paths ≡ routed.Pass → config.spool_limit ≡ session_limit
    → IsProfile config
is_profile config host max_content bare_newlines routes none routed_paths limit =
    let table = all_are_trusted config session_peer none ∙ routes in
    let paths = nobody_is_listed config session_peer none ∙ routed_paths in
    record {
      setup = λ j. record { host = host j; max_content = max_content j; bare_newlines = bare_newlines j; routed_paths = paths j; routes = table j };
      limit = limit;
    }
