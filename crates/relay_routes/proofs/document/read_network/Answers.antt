use Rattle.std.proofs.Common.{ap, sym, ◌∙◌}
use Rattle.toml.specs.Data.{string}
use Rattle.toml.specs.View.{view}
use Rattle.toml.proofs.Views.{view-String}
use Rattle.relay_routes.proofs.NetworkLemmas.{read_of_text}
use Rattle.relay_routes.proofs.document.read_network.Goals as goal

pub returns-in-String : goal.returns-in-String
returns-in-String c =
    let is = ap view c.in-String.is ∙ view-String c.in-String.text ∙ ap string (sym c.as_bytes.ensures.value) in
    read_of_text (view c.args.value.now) c.as_bytes.result.now c.read.result is c.read.ensures
