use Rattle.std.proofs.Common.{[], ◌∷◌, ◌++◌, take, ap, ◌∙◌, sym, subst}
use Rattle.relay_lines.specs.HeldLine.{HeldLine, Holds}
use Rattle.relay_lines.proofs.HeldLineLemmas.{ends_short, ends_long}
use Rattle.relay_lines.proofs.line_buffer.LineBuffer.drop_cr.Goals as goal
use Rattle.relay_lines.proofs.line_buffer.LineBuffer.drop_cr.Goals.{then-not-self, else-not-self}

pub returns : goal.returns
returns c = λ line holds.
    let kept = ap (λ (h : HeldLine). h.kept) c.self.view_is in
    let is_long = ap (λ (h : HeldLine). h.is_long) (sym c.self.view_is) in
    elim c.if-not-self.branch [
      | then-not-self w ↦
          ends_short c.args.self.now c.if-not-self.self c.end.new.self c.self.inside.octets line c.self.inside.len c.self.invariant c.self.told holds kept
          (is_long ∙ w.if-not-self.true)
          (ap (λ (h : HeldLine). h.kept) w.self-is ∙ ap (λ n. take n c.self.inside.octets) w.saturating_sub-self-inside.ensures)
          (ap (λ (h : HeldLine). h.is_long) w.self-is ∙ w.if-not-self.true) c.end.ensures.kept c.end.ensures.is_long
      | else-not-self w ↦
          ends_long c.if-not-self.self c.end.new.self line
          (subst (λ (h : HeldLine). Holds h (line ++ 13 ∷ [])) (sym w.self-is) holds)
          (ap (λ (h : HeldLine). h.is_long) w.self-is ∙ is_long ∙ w.if-not-self.false) c.end.ensures.kept c.end.ensures.is_long
    ]
