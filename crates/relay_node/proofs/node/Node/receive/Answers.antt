-- A session is taken out, heard, and put back.
use Rattle.std.proofs.Common.{◌≡◌, ◌∙◌, None, refl, sym, rules}
use Rattle.relay_records.specs.declared.fault.NodeFault.TheVariants.{Full, Stopped}
use Rattle.relay_slots.proofs.Theorems.{others_of_set}
use Rattle.relay_node.proofs.AttemptLemmas.{refused_queue, same_serves}
use Rattle.relay_node.proofs.NodeLemmas.{comes_there, cuts_there, history_at, receives_by, rest_has_histories, taken_says}
use Rattle.relay_node.specs.declared.receive.Received.{Received}
use Rattle.relay_node.proofs.SeatLemmas.{answered_at, back_histories, back_others, failed, fault_is, has_place, hears_known, leaves_unheard, left_histories, left_others, not_full, refused_hearing, refused_seat, true_is_false, was_stopped}
use Rattle.relay_node.proofs.node.Node.receive.Goals as goal

pub hear-requires-clause-history : goal.hear-requires-clause-history
hear-requires-clause-history g c = history_at c.self.inside.config c.self.inside.seats c.args.session c.in_ok-seat.seat c.self.invariant.0 (sym c.in_ok-seat.ensures.taken.was)

pub put_back-requires : goal.put_back-requires
put_back-requires g c = has_place c.self.inside.records c.args.session c.self.inside.seats c.take_seat.new.seats c.in_ok-seat.seat c.in_ok-seat.ensures.taken

pub invariant_of-self : goal.invariant_of-self
invariant_of-self g c = (
  left_histories c.self.inside.records c.args.session c.self.inside.seats c.take_seat.new.seats c.self.inside.config _ c.in_err-seat.ensures.refused c.self.invariant.0,
  same_serves _ _ c.self.inside.attempts c.take_seat.new.attempts _ _ c.take_seat.ensures.attempts.0 c.take_seat.ensures.attempts.1 refl c.self.invariant.1,
)

pub invariant_of-self-in_err-received : goal.invariant_of-self-in_err-received
invariant_of-self-in_err-received g c = (
  rest_has_histories c.self.inside.config c.self.inside.seats _ c.args.session c.in_ok-seat.ensures.taken.rest c.self.invariant.0,
  same_serves _ _ c.self.inside.attempts c.take_seat.new.attempts c.self.inside.records.queue c.hear.new.records.queue c.take_seat.ensures.attempts.0 c.take_seat.ensures.attempts.1
      (refused_queue g.D.Disk.words c.self.inside.records c.hear.new.records _ c.in_err-received.ensures.refused) c.self.invariant.1,
)

pub invariant_of-self-2 : goal.invariant_of-self-2
invariant_of-self-2 g c = (
  back_histories c.self.inside.records c.args.session c.self.inside.seats c.take_seat.new.seats c.in_ok-seat.seat c.in_ok-seat.ensures.taken c.hear.new.seat c.self.inside.config
      c.in_ok-received.received.close c.put_back.new.seats c.put_back.ensures c.self.invariant.0 c.in_ok-received.ensures.heard.history,
  c.note.ensures.serves c.self.inside.config.host c.self.inside.records.queue c.numbers_rise.ensures c.in_ok-received.ensures.heard.takes
      (same_serves _ _ c.self.inside.attempts c.take_seat.new.attempts _ _ c.take_seat.ensures.attempts.0 c.take_seat.ensures.attempts.1 refl c.self.invariant.1),
)

pub returns-clause-receives : goal.returns-clause-receives
returns-clause-receives g c = rw (← c.self.view_is) (λ changes peer said keeps at.
    receives_by g.D.Disk.honest g.D.Disk.words c.self.inside.config changes peer c.args.now c.args.session said c.args.piece.now c.self.inside.seats c.in_ok-seat.seat c.self.inside.attempts.runs c.note.new.attempts.runs at c.in_ok-seat.ensures.taken.was
    c.hear.new.seat c.in_ok-received.ensures.peer c.self.inside.records c.hear.new.records c.in_ok-received.received (λ says. c.in_ok-received.ensures.hears changes said keeps says)
    c.in_ok-received.received.close refl c.take_seat.new.seats c.put_back.new.seats c.in_ok-seat.ensures.taken.rest
    (has_place c.self.inside.records c.args.session c.self.inside.seats c.take_seat.new.seats c.in_ok-seat.seat c.in_ok-seat.ensures.taken) c.put_back.ensures)

pub returns-clause-rest : goal.returns-clause-rest
returns-clause-rest g c = rw (← c.self.view_is) (
  back_others c.self.inside.records c.args.session c.self.inside.seats c.take_seat.new.seats c.in_ok-seat.seat c.in_ok-seat.ensures.taken c.hear.new.seat
      c.in_ok-received.received.close c.put_back.new.seats c.put_back.ensures,
  refl,
  c.note.ensures.runs ∙ c.take_seat.ensures.attempts.0,
)

pub returns-clause-refused : goal.returns-clause-refused
returns-clause-refused g c = rw (← c.self.view_is) (
    answered_at _ c.self.inside.config c.args.session c.self.inside.seats c.put_back.new.seats c.self.inside.attempts.runs c.note.new.attempts.runs _ c.self.inside.records c.hear.new.records
    c.in_ok-seat.ensures.taken.live c.in_ok-seat.seat c.in_ok-seat.ensures.taken.was c.in_ok-received.received)

pub returns-in_err-seat-clause-cut : goal.returns-in_err-seat-clause-cut
returns-in_err-seat-clause-cut g c = rw (← c.self.view_is) (λ changes peer said keeps at stopped.
    let is : c.from_residual.result ≡ failed Received c.in_err-seat.field-0.0 = search rules in
    let was = was_stopped c.self.inside.records c.args.session c.self.inside.seats c.take_seat.new.seats c.in_err-seat.field-0.0 c.in_err-seat.ensures.refused (fault_is Received c.in_err-seat.field-0.0 Stopped (sym is ∙ stopped)) in
    absurd (true_is_false (sym keeps.live ∙ was)))

pub returns-in_err-seat-clause-full : goal.returns-in_err-seat-clause-full
returns-in_err-seat-clause-full g c = λ peer said at full.
    let is : c.from_residual.result ≡ failed Received c.in_err-seat.field-0.0 = search rules in
    absurd (not_full c.self.inside.records c.args.session c.self.inside.seats c.take_seat.new.seats c.in_err-seat.field-0.0 c.in_err-seat.ensures.refused (fault_is Received c.in_err-seat.field-0.0 Full (sym is ∙ full)))

pub returns-in_err-seat-clause-rest : goal.returns-in_err-seat-clause-rest
returns-in_err-seat-clause-rest g c = rw (← c.self.view_is) (left_others c.self.inside.records c.args.session c.self.inside.seats c.take_seat.new.seats c.in_err-seat.field-0.0 c.in_err-seat.ensures.refused, refl, c.take_seat.ensures.attempts.0)

pub returns-in_err-seat-clause-refused : goal.returns-in_err-seat-clause-refused
returns-in_err-seat-clause-refused g c =
    let is : c.from_residual.result ≡ failed Received c.in_err-seat.field-0.0 = search rules in
    rw (← c.self.view_is) (refused_seat Received c.self.inside.config c.args.session c.self.inside.seats c.take_seat.new.seats c.self.inside.attempts.runs c.take_seat.new.attempts.runs _ c.from_residual.result c.self.inside.records c.in_err-seat.field-0.0 is
    c.take_seat.ensures.attempts.0 c.in_err-seat.ensures.refused (λ gone. gone) (λ same. same))

pub returns-in_err-received-clause-cut : goal.returns-in_err-received-clause-cut
returns-in_err-received-clause-cut g c = rw (← c.self.view_is) (λ changes peer said keeps at stopped.
    let is : c.from_residual-in_err-received.result ≡ failed Received c.in_err-received.field-0.0 = search rules in
    cuts_there g.D.Disk.honest g.D.Disk.words c.self.inside.config changes peer c.args.now c.args.session said c.args.piece.now c.self.inside.seats c.in_ok-seat.seat c.self.inside.records c.hear.new.records at c.in_ok-seat.ensures.taken.was
    (λ says. c.in_err-received.ensures.cut changes said keeps says (sym is ∙ stopped)))

pub returns-in_err-received-clause-full : goal.returns-in_err-received-clause-full
returns-in_err-received-clause-full g c = rw (← c.self.view_is) (λ peer said at full.
    let is : c.from_residual-in_err-received.result ≡ failed Received c.in_err-received.field-0.0 = search rules in
    comes_there c.self.inside.config peer c.args.session said c.self.inside.seats c.in_ok-seat.seat at c.in_ok-seat.ensures.taken.was c.args.piece.now
    (c.in_err-received.ensures.full said (taken_says c.self.inside.config peer c.args.session said c.self.inside.seats c.in_ok-seat.seat at c.in_ok-seat.ensures.taken.was) (sym is ∙ full)))

pub returns-in_err-received-clause-rest : goal.returns-in_err-received-clause-rest
returns-in_err-received-clause-rest g c = rw (← c.self.view_is) (others_of_set c.self.inside.seats c.take_seat.new.seats c.args.session None c.in_ok-seat.ensures.taken.rest, refl, c.take_seat.ensures.attempts.0)

pub returns-in_err-received-clause-refused : goal.returns-in_err-received-clause-refused
returns-in_err-received-clause-refused g c =
    let is : c.from_residual-in_err-received.result ≡ failed Received c.in_err-received.field-0.0 = search rules in
    rw (← c.self.view_is) (refused_hearing Received c.self.inside.config c.args.session c.self.inside.seats c.take_seat.new.seats c.self.inside.attempts.runs c.take_seat.new.attempts.runs _ c.self.inside.records c.hear.new.records
    c.in_ok-seat.ensures.taken.live c.in_ok-seat.seat c.in_ok-seat.ensures.taken.was c.from_residual-in_err-received.result c.in_err-received.field-0.0 is
    (hears_known g.D.Disk.words c.self.inside.records c.hear.new.records c.in_err-received.field-0.0 c.in_err-received.ensures.refused)
    (leaves_unheard g.D.Disk.words c.self.inside.config c.args.session c.self.inside.seats c.take_seat.new.seats c.self.inside.attempts.runs c.take_seat.new.attempts.runs c.self.inside.records c.hear.new.records c.in_ok-seat.ensures.taken.rest c.in_err-received.field-0.0 c.in_err-received.ensures.refused))
