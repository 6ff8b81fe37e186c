-- It is one of the three lines, or none of them.
use Rattle.std.proofs.Common.{◌≡◌, ◌⊎◌, inl, inr, Bool, true, false, IsTrue, codes, sym, ◌∙◌, true≢false}
use Rattle.relay_log.specs.Refused.{Refuses}
use Rattle.relay_log.specs.declared.refused.Refused.TheVariants.{Rcpt}
use Rattle.relay_log.proofs.RefusedLemmas.{refuses_rcpt, rcpt_by_no_route, rcpt_by_routed_address, rcpt_by_too_many}
use Rattle.relay_log.proofs.refused.refuses_rcpt.Goals as goal
use Rattle.relay_log.proofs.refused.refuses_rcpt.Goals.{then-is_line, else-is_line}

pub returns-then-is_line-2 : goal.returns-then-is_line-2
returns-then-is_line-2 c = ((λ is. refuses), λ _. c.if-is_line-2.true) where
  refuses : Refuses c.args.reply.now Rcpt
  refuses = elim c.if-is_line.branch [
    | then-is_line w ↦ rcpt_by_no_route c.args.reply.now (c.is_line.ensures.0 w.if-is_line.true)
    | else-is_line w ↦ rcpt_by_routed_address c.args.reply.now (w.is_line-else-is_line.ensures.0 (sym w.value-is ∙ c.if-is_line-2.true))
  ]

pub returns-else-is_line-2 : goal.returns-else-is_line-2
returns-else-is_line-2 c = (
  λ is. rcpt_by_too_many c.args.reply.now (c.is_line-else-is_line-2.ensures.0 is),
  λ refuses. third (refuses_rcpt c.args.reply.now refuses),
) where
  not_true : (value : Bool) → value ≡ false → value ≡ true → ⊥
  not_true value is_false is_true = true≢false (sym is_true ∙ is_false)

  not_first : c.args.reply.now ≡ codes "550 no route" → ⊥
  not_first same = elim c.if-is_line.branch [
    | then-is_line w ↦ not_true c.if-is_line.value c.if-is_line-2.false (w.value-is ∙ w.if-is_line.true)
    | else-is_line w ↦ not_true c.is_line.result w.if-is_line.false (c.is_line.ensures.1 same)
  ]

  not_second : c.args.reply.now ≡ codes "553 routed address refused" → ⊥
  not_second same = elim c.if-is_line.branch [
    | then-is_line w ↦ not_true c.if-is_line.value c.if-is_line-2.false (w.value-is ∙ w.if-is_line.true)
    | else-is_line w ↦ not_true c.if-is_line.value c.if-is_line-2.false (w.value-is ∙ w.is_line-else-is_line.ensures.1 same)
  ]

  third : (c.args.reply.now ≡ codes "550 no route") ⊎ ((c.args.reply.now ≡ codes "553 routed address refused") ⊎ (c.args.reply.now ≡ codes "452 too many recipients"))
      → IsTrue c.is_line-else-is_line-2.result
  third (inl same) = absurd (not_first same)
  third (inr (inl same)) = absurd (not_second same)
  third (inr (inr same)) = c.is_line-else-is_line-2.ensures.1 same
