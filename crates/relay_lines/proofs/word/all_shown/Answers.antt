use Rattle.std.proofs.Common.{map, ap, ◌∙◌}
use Rattle.std.proofs.lemmas.List.{take_all}
use Rattle.relay_lines.specs.Word.{shown}
use Rattle.relay_lines.proofs.ShownLemmas.{all_is_printable, shown_more}
use Rattle.relay_lines.proofs.word.all_shown.Goals as goal

pub loop-octet-preserved : goal.loop-octet-preserved
loop-octet-preserved c =
    shown_more c.args.text.now c.loop-octet.all.items c.push.new.self.items c.loop-octet.octet-index c.shown.result
    c.loop-octet-test.true c.loop-octet.invariant c.shown.ensures c.in_ok-push.ensures.items

pub returns-clause-shown : goal.returns-clause-shown
returns-clause-shown c =
    c.loop-octet.invariant ∙ ap (map shown) (take_all c.loop-octet.octet-index c.args.text.now c.loop-octet-test.false)

pub returns-clause-printable : goal.returns-clause-printable
returns-clause-printable c =
    all_is_printable c.args.text.now c.loop-octet.all.items c.loop-octet.octet-index c.loop-octet-test.false c.loop-octet.invariant
