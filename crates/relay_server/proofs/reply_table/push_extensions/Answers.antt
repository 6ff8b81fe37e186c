use Rattle.std.proofs.Common.{◌≡◌, OnOk, ℕ, List, subst}
use Rattle.relay_server.proofs.ReplyTextLemmas.{extensions_text}
use Rattle.relay_server.proofs.reply_table.push_extensions.Goals as goal

pub returns-clause-ok : goal.returns-clause-ok
returns-clause-ok c =
    let whole = extensions_text c.args.host.now c.args.out.now.items c.write_middle_line.new.out.items c.write_middle_line-2.new.out.items c.write_middle_line-3.new.out.items
    c.in_ok-write_middle_line.ensures.ok c.in_ok-write_middle_line-2.ensures.ok c.in_ok-write_middle_line-3.ensures.ok in
    subst (λ (l : List ℕ). OnOk c.write_line.result (c.write_line.new.out.items ≡ l)) whole c.write_line.ensures.ok
