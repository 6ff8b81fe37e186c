use Rattle.std.proofs.Common.{◌≡◌, ◌-◌, rules, sym}
use Rattle.relay_page.specs.Rows.{load_cells, shown_name}
use Rattle.relay_page.proofs.rows.push_load.Goals as goal

pub returns : goal.returns
unfolding load_cells
returns c =
    let name : c.shown_name.result.now ≡ shown_name c.args.name.now = search rules in
    let age : c.saturating_sub.result ≡ c.args.now - c.args.load.now.oldest = search rules in
    let wait : c.saturating_sub-2.result ≡ c.args.load.now.due - c.args.now = search rules in
    rw (sym name, sym age, sym wait) c.push_pieces.ensures
