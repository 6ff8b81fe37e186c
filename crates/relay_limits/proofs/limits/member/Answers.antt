use Rattle.std.proofs.Common.{sym}
use Rattle.toml.proofs.Views.{table_get}
use Rattle.relay_limits.proofs.limits.member.Goals as goal

pub returns : goal.returns
returns c =
    let text = c.text.ensures in
    let found = table_get c.get.result c.text.result.now c.args.document.now.entries c.get.ensures.value in
    sym (rw text at found)
