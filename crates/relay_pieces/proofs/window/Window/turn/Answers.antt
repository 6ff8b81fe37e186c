use Rattle.std.proofs.Common.{◌≡◌, length, arith, rules, length-drop}
use Rattle.relay_pieces.proofs.SeamLemmas.{turned}
use Rattle.relay_pieces.proofs.window.Window.turn.Goals as goal

pub returns-clause-text : goal.returns-clause-text
returns-clause-text c =
    let old = c.args.self.now in
    let counted : c.len.result ≡ length old.held.items = search rules in
    let long = length-drop old.used old.held.items in
    let left = c.requires.left in
    rw counted (turned old.held.items c.args.piece.items old.ahead c.requires.overlaps.within c.requires.overlaps.same old.used old.within (omega (arith, long, left)))
