-- the text that serde_json gives for the object
use Rattle.std.proofs.Common.{string_bytes}
use Rattle.relay_listing.specs.Row.{said_by}
use Rattle.relay_listing.proofs.ObjectLemmas.{text_is}
use Rattle.relay_listing.proofs.object.object_text.Goals as goal

pub returns-in-Ok : goal.returns-in-Ok
returns-in-Ok c =
    let sent = c.in-Ok.ensures.events in
    text_is c.args.now (said_by c.args.row.now) sent.0 (string_bytes c.in-Ok.text) sent.1 sent.2
