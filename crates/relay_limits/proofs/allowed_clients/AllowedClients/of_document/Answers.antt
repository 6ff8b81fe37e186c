use Rattle.std.proofs.Common.{ap, sym, ◌∙◌, option_map}
use Rattle.std.proofs.lemmas.Option.{MatchOption-at_none}
use Rattle.toml.specs.Data.{array}
use Rattle.toml.specs.View.{items_view, table_view, view}
use Rattle.toml.proofs.Views.{view-Array}
use Rattle.relay_limits.specs.Limits.{value_of}
use Rattle.relay_limits.specs.declared.limit.Limit.TheVariants.{Clients}
use Rattle.relay_limits.proofs.ClientLemmas.{array_is_refused}
use Rattle.relay_limits.proofs.allowed_clients.AllowedClients.of_document.Goals as goal

pub returns-in-None : goal.returns-in-None
returns-in-None c =
    let there = c.member.ensures ∙ ap (option_map (λ value. view value.now)) c.in-Some.is in
    let is = ap view c.in-Array.is ∙ view-Array c.in-Array.values ∙ ap (λ vs. array (items_view vs)) (sym c.as_slice.ensures.value) in
    array_is_refused (value_of Clients (table_view c.args.document.now)) (view c.in-Some.value.now) (items_view c.as_slice.result.now) there is
    (MatchOption-at_none _ _ c.in-None.is c.in_ok-networks.ensures)
