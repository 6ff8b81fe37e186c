use Rattle.std.proofs.Common.{Some, ap, sym, ◌∙◌, option_map}
use Rattle.toml.specs.Data.{get_member}
use Rattle.toml.specs.View.{items_view, table_view, view}
use Rattle.toml.proofs.Views.{table_get}
use Rattle.relay_control.proofs.HeldFileLemmas.{array_found, no_array_found}
use Rattle.relay_control.proofs.held_file.array_at.Goals as goal

pub returns-in_default : goal.returns-in_default
returns-in_default c = λ items is.
    let found = table_get c.get.result c.args.key.now c.args.document.now.entries c.get.ensures.value in
    cc (ap (option_map (λ value. view value.now)) (sym c.in_default.is) ∙ found ∙ is)

pub returns-in-Some-as_array : goal.returns-in-Some-as_array
returns-in-Some-as_array c =
    let found = table_get c.get.result c.args.key.now c.args.document.now.entries c.get.ensures.value in
    array_found (get_member c.args.key.now (table_view c.args.document.now)) (view c.in-Some.value.now) (items_view c.as_slice.result.now)
    (sym found ∙ ap (option_map (λ value. view value.now)) c.in-Some.is)
    (ap (λ vs. Some (items_view vs)) c.as_slice.ensures.value ∙ c.in-Some-as_array.ensures)

pub returns-in-None : goal.returns-in-None
returns-in-None c = λ items.
    let found = table_get c.get.result c.args.key.now c.args.document.now.entries c.get.ensures.value in
    no_array_found (get_member c.args.key.now (table_view c.args.document.now)) (view c.in-Some.value.now) items
    (sym found ∙ ap (option_map (λ value. view value.now)) c.in-Some.is) c.in-None.ensures
