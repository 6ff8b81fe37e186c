use Rattle.std.proofs.Common.{◌≡◌, ◌-◌, rules, sym}
use Rattle.relay_page.specs.Rows.{waiting_row}
use Rattle.relay_page.proofs.rows.push_waiting.Goals as goal

pub returns : goal.returns
unfolding waiting_row
returns c =
    let age : c.saturating_sub.result ≡ c.args.now - c.args.waiting.accepted = search rules in
    let tries : c.from.result ≡ c.args.waiting.tries = search rules in
    let wait : c.saturating_sub-2.result ≡ c.args.waiting.due - c.args.now = search rules in
    rw (sym age, sym tries, sym wait) c.push_pieces.ensures
