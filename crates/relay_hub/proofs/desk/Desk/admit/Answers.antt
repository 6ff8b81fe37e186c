-- The list grows by an accept exactly where a receipt is added.
use Rattle.std.proofs.Common.{Err, ap, ◌∙◌, sym, refl}
use Rattle.relay_server.specs.Session.{offered}
use Rattle.relay_server.specs.declared.offer.Answer.TheVariants.{Queued, Full}
use Rattle.relay_records.specs.declared.fault.NodeFault.{NodeFault}
use Rattle.relay_records.specs.declared.fault.NodeFault.TheVariants.{Stopped}
use Rattle.relay_node.specs.Node.{NodeState}
use Rattle.relay_hub.proofs.HubLemmas.{answers_still, gives, grown_by, grown_fault, ok_is_no_err, queued_is_not_full}
use Rattle.relay_hub.proofs.desk.Desk.admit.Goals as goal

pub invariant_of-self-in-Queued-2 : goal.invariant_of-self-in-Queued-2
invariant_of-self-in-Queued-2 g c = (
  grown_by g.D.Disk.honest g.D.Disk.words g.J.Opening.starts c.self.inside.queued.total c.self.inside.node.records c.admit.new.self.records c.self.invariant.0
      c.self.inside.node.config c.args.peer c.args.now (offered c.args.offer.now) c.in_ok-answer.answer (Queued c.in-Queued.number) c.add.new.self.total c.in-Queued.is
      (λ dead. ok_is_no_err c.in_ok-answer.answer Stopped (sym c.in_ok-answer.was ∙ (c.admit.ensures.refused.stopped dead).0))
      (λ changes keeps. c.in_ok-answer.ensures.admits changes keeps)
      (λ is. absurd (queued_is_not_full c.in-Queued.number is)) (λ number is. c.add.ensures.total),
  c.self.invariant.1,
  c.self.invariant.2,
  c.self.invariant.3,
  answers_still g.D.Disk.honest g.D.Disk.words g.J.Opening.starts c.self.inside.node.config c.admit.new.self.config g.J.Opening.has_answered c.admit.ensures.rest.0 c.self.invariant.4,
)

pub invariant_of-self-in-Full-1 : goal.invariant_of-self-in-Full-1
invariant_of-self-in-Full-1 g c = (
  grown_by g.D.Disk.honest g.D.Disk.words g.J.Opening.starts c.self.inside.queued.total c.self.inside.node.records c.admit.new.self.records c.self.invariant.0
      c.self.inside.node.config c.args.peer c.args.now (offered c.args.offer.now) c.in_ok-answer.answer Full c.self.inside.queued.total c.in-Full.is
      (λ dead. ok_is_no_err c.in_ok-answer.answer Stopped (sym c.in_ok-answer.was ∙ (c.admit.ensures.refused.stopped dead).0))
      (λ changes keeps. c.in_ok-answer.ensures.admits changes keeps)
      (λ is. refl) (λ number is. absurd (queued_is_not_full number (sym is))),
  c.self.invariant.1,
  c.self.invariant.2,
  c.self.invariant.3,
  answers_still g.D.Disk.honest g.D.Disk.words g.J.Opening.starts c.self.inside.node.config c.admit.new.self.config g.J.Opening.has_answered c.admit.ensures.rest.0 c.self.invariant.4,
)

pub invariant_of-self : goal.invariant_of-self
invariant_of-self g c = (
  grown_fault g.D.Disk.honest g.D.Disk.words g.J.Opening.starts c.self.inside.queued.total c.self.inside.node.records c.admit.new.self.records c.self.invariant.0
      c.self.inside.node.config c.args.peer c.args.now (offered c.args.offer.now) _
      (λ dead. ap (λ (s : NodeState g.row.D.Denot). s.records) (c.admit.ensures.refused.stopped dead).1)
      (λ live. c.in_err-answer.ensures.refused.refused live)
      (λ is changes keeps. c.admit.ensures.cut changes keeps (c.in_err-answer.was ∙ ap (λ (fault : NodeFault). Err fault) is)),
  c.self.invariant.1,
  c.self.invariant.2,
  c.self.invariant.3,
  answers_still g.D.Disk.honest g.D.Disk.words g.J.Opening.starts c.self.inside.node.config c.admit.new.self.config g.J.Opening.has_answered c.admit.ensures.rest.0 c.self.invariant.4,
)

pub returns-in-Queued-clause-answered : goal.returns-in-Queued-clause-answered
returns-in-Queued-clause-answered g c =
    c.self.invariant.4 c.args.peer c.args.now (offered c.args.offer.now) (Queued c.in-Queued.number)
    (gives g.D.Disk.honest g.D.Disk.words g.J.Opening.starts c.self.inside.queued.total c.self.inside.node.records c.admit.new.self.records c.self.invariant.0
    c.self.inside.node.config c.args.peer c.args.now (offered c.args.offer.now) c.in_ok-answer.answer (Queued c.in-Queued.number) c.in-Queued.is
    (λ dead. ok_is_no_err c.in_ok-answer.answer Stopped (sym c.in_ok-answer.was ∙ (c.admit.ensures.refused.stopped dead).0))
    (λ changes keeps. c.in_ok-answer.ensures.admits changes keeps))

pub returns-in-Full-clause-answered : goal.returns-in-Full-clause-answered
returns-in-Full-clause-answered g c =
    c.self.invariant.4 c.args.peer c.args.now (offered c.args.offer.now) Full
    (gives g.D.Disk.honest g.D.Disk.words g.J.Opening.starts c.self.inside.queued.total c.self.inside.node.records c.admit.new.self.records c.self.invariant.0
    c.self.inside.node.config c.args.peer c.args.now (offered c.args.offer.now) c.in_ok-answer.answer Full c.in-Full.is
    (λ dead. ok_is_no_err c.in_ok-answer.answer Stopped (sym c.in_ok-answer.was ∙ (c.admit.ensures.refused.stopped dead).0))
    (λ changes keeps. c.in_ok-answer.ensures.admits changes keeps))
