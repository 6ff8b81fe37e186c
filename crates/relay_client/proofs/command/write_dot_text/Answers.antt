-- the dots are added where the text ends in CR LF
use Rattle.std.proofs.Common.{◌∙◌, sym}
use Rattle.std.proofs.lemmas.Result.{on_ok_weaker}
use Rattle.relay_client.proofs.WrittenLemmas.{dots_written}
use Rattle.relay_client.proofs.command.write_dot_text.Goals as goal

pub returns-then-ends_in_line_end : goal.returns-then-ends_in_line_end
returns-then-ends_in_line_end c = on_ok_weaker c.push_dots.result
    (λ adds dot_text is. dots_written c.args.text.now dot_text c.args.out.now.items c.push_dots.new.out.items
    (sym c.ends_in_line_end.ensures ∙ c.if-ends_in_line_end.true) adds is) c.push_dots.ensures.ok
