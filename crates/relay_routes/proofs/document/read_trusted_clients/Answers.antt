use Rattle.std.proofs.Common.{inr, ap, sym, ◌∙◌, option_map}
use Rattle.std.proofs.lemmas.Option.{MatchOption-at_none}
use Rattle.toml.specs.Data.{array}
use Rattle.toml.specs.View.{items_view, table_view, view}
use Rattle.toml.proofs.Views.{view-Array}
use Rattle.relay_routes.specs.Document.{value_of}
use Rattle.relay_routes.specs.declared.key.Key.TheVariants.{TrustedClients}
use Rattle.relay_routes.proofs.ItemLemmas.{array_is_refused}
use Rattle.relay_routes.proofs.document.read_trusted_clients.Goals as goal

pub returns-in-None-clause-err : goal.returns-in-None-clause-err
returns-in-None-clause-err c =
    let there = c.member.ensures ∙ ap (option_map (λ value. view value.now)) c.in-Some.is in
    let is = ap view c.in-Array.is ∙ view-Array c.in-Array.values ∙ ap (λ vs. array (items_view vs)) (sym c.as_slice.ensures.value) in
    inr (array_is_refused (value_of TrustedClients (table_view c.args.document.now)) (view c.in-Some.value.now) (items_view c.as_slice.result.now) there is
    (MatchOption-at_none _ _ c.in-None.is c.in_ok-networks.ensures))
