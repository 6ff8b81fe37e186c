use Rattle.std.proofs.Common.{◌≡◌, ◌∙◌, ap, length}
use Rattle.relay_spool.specs.Image.{room_of}
use Rattle.relay_spool.specs.Row.{bodies_of_chain}
use Rattle.relay_spool.proofs.ImageLemmas.{length-chain}
use Rattle.relay_spool.proofs.row.BodyRow.room.Goals as goal

pub returns-clause-room : goal.returns-clause-room
returns-clause-room c =
    let links = c.self.inside.links.items in
    let counted : length c.as_slice.result.now ≡ length links = ap length c.as_slice.ensures.value in
    counted ∙ length-chain links (bodies_of_chain links) c.self.invariant.0 ∙ ap room_of c.self.view_is
