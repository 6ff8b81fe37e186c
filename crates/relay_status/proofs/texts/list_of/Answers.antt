-- all recipients, or the first of them and a last line
use Rattle.std.proofs.Common.{ap, ◌∙◌}
use Rattle.relay_status.proofs.ListingLemmas.{cut_list, whole_list}
use Rattle.relay_status.proofs.texts.list_of.Goals as goal
use Rattle.relay_status.proofs.texts.list_of.Goals.{then-listed-marks+in_ok-push_cut, else-listed-marks}

pub returns : goal.returns
returns g c =
    elim c.if-listed-marks.branch [
      | then-listed-marks+in_ok-push_cut w ↦ cut_list c.args.now c.args.node.now.config.routes c.args.node.now.records.queue c.args.marks.now c.min-listed.result c.new-text.result.items c.push_lines.new.text.items _ c.min-listed.ensures
          w.if-listed-marks.true c.new-text.ensures.items c.in_ok-push_lines.ensures (ap (λ v. v.items) w.text-is ∙ w.in_ok-push_cut.ensures)
      | else-listed-marks w ↦ whole_list c.args.now c.args.node.now.config.routes c.args.node.now.records.queue c.args.marks.now c.min-listed.result c.new-text.result.items c.push_lines.new.text.items _ c.min-listed.ensures
          w.if-listed-marks.false c.new-text.ensures.items c.in_ok-push_lines.ensures (ap (λ v. v.items) w.text-is)
    ]
