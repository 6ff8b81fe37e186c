-- A session is taken out, heard after a row, and put back.
use Rattle.std.proofs.Common.{◌≡◌, ◌∙◌, None, ap, refl, sym, rules}
use Rattle.relay_records.specs.declared.fault.NodeFault.TheVariants.{Full}
use Rattle.relay_slots.proofs.Theorems.{others_of_set}
use Rattle.relay_records.specs.Records.{Kept}
use Rattle.relay_node.proofs.AttemptLemmas.{same_serves}
use Rattle.relay_node.proofs.NodeLemmas.{comes_there, history_at, rest_has_histories, taken_says}
use Rattle.relay_node.proofs.StageLemmas.{receives_after_by, unstaged}
use Rattle.relay_node.specs.declared.receive.Received.{Received}
use Rattle.relay_node.proofs.SeatLemmas.{answered_at, back_histories, back_others, failed, fault_is, has_place, leaves_unstaged, left_histories, left_others, not_full, refused_hearing, refused_seat, stages_known}
use Rattle.relay_node.proofs.node.Node.receive_into.Goals as goal

pub hear_into-requires : goal.hear_into-requires
hear_into-requires g c = history_at c.self.inside.config c.self.inside.seats c.args.session c.in_ok-seat.seat c.self.invariant.0 (sym c.in_ok-seat.ensures.taken.was)

pub put_back-requires : goal.put_back-requires
put_back-requires g c = has_place c.self.inside.records c.args.session c.self.inside.seats c.take_seat.new.seats c.in_ok-seat.seat c.in_ok-seat.ensures.taken

pub invariant_of-self : goal.invariant_of-self
invariant_of-self g c = (
  left_histories c.self.inside.records c.args.session c.self.inside.seats c.take_seat.new.seats c.self.inside.config _ c.in_err-seat.ensures.refused c.self.invariant.0,
  same_serves _ _ c.self.inside.attempts c.take_seat.new.attempts _ _ c.take_seat.ensures.attempts.0 c.take_seat.ensures.attempts.1 refl c.self.invariant.1,
)

pub invariant_of-self-in_err-received : goal.invariant_of-self-in_err-received
invariant_of-self-in_err-received g c = (
  rest_has_histories c.self.inside.config c.self.inside.seats _ c.args.session c.in_ok-seat.ensures.taken.rest c.self.invariant.0,
  same_serves _ _ c.self.inside.attempts c.take_seat.new.attempts c.self.inside.records.queue c.hear_into.new.records.queue c.take_seat.ensures.attempts.0 c.take_seat.ensures.attempts.1
      (ap (λ (kept : Kept g.row.D.Denot). kept.queue) (unstaged c.self.inside.records c.hear_into.new.records _ _ _ c.in_err-received.ensures.refused).0) c.self.invariant.1,
)

pub invariant_of-self-2 : goal.invariant_of-self-2
invariant_of-self-2 g c = (
  back_histories c.self.inside.records c.args.session c.self.inside.seats c.take_seat.new.seats c.in_ok-seat.seat c.in_ok-seat.ensures.taken c.hear_into.new.seat c.self.inside.config
      c.in_ok-received.received.close c.put_back.new.seats c.put_back.ensures c.self.invariant.0 c.in_ok-received.ensures.heard.history,
  c.note.ensures.serves c.self.inside.config.host c.self.inside.records.queue c.numbers_rise.ensures c.in_ok-received.ensures.heard.takes.takes
      (same_serves _ _ c.self.inside.attempts c.take_seat.new.attempts _ _ c.take_seat.ensures.attempts.0 c.take_seat.ensures.attempts.1 refl c.self.invariant.1),
)

pub returns-clause-receives : goal.returns-clause-receives
returns-clause-receives g c = rw (← c.self.view_is) (λ changes pending awaits.
    receives_after_by g.D.Disk.honest g.D.Disk.words c.self.inside.config changes pending c.args.now c.args.session c.args.piece.now c.self.inside.seats c.in_ok-seat.seat c.self.inside.attempts.runs c.note.new.attempts.runs
    c.in_ok-seat.ensures.taken.was c.hear_into.new.seat c.in_ok-received.ensures.peer c.self.inside.records c.hear_into.new.records _ _ c.in_ok-received.received (c.in_ok-received.ensures.hears changes pending awaits)
    c.in_ok-received.received.close refl c.take_seat.new.seats c.put_back.new.seats c.in_ok-seat.ensures.taken.rest
    (has_place c.self.inside.records c.args.session c.self.inside.seats c.take_seat.new.seats c.in_ok-seat.seat c.in_ok-seat.ensures.taken) c.put_back.ensures)

pub returns-clause-rest : goal.returns-clause-rest
returns-clause-rest g c = rw (← c.self.view_is) (
  back_others c.self.inside.records c.args.session c.self.inside.seats c.take_seat.new.seats c.in_ok-seat.seat c.in_ok-seat.ensures.taken c.hear_into.new.seat
      c.in_ok-received.received.close c.put_back.new.seats c.put_back.ensures,
  refl,
  c.note.ensures.runs ∙ c.take_seat.ensures.attempts.0,
)

pub returns-clause-refused : goal.returns-clause-refused
returns-clause-refused g c = rw (← c.self.view_is) (
    answered_at _ c.self.inside.config c.args.session c.self.inside.seats c.put_back.new.seats c.self.inside.attempts.runs c.note.new.attempts.runs _ c.self.inside.records c.hear_into.new.records
    c.in_ok-seat.ensures.taken.live c.in_ok-seat.seat c.in_ok-seat.ensures.taken.was c.in_ok-received.received)

pub returns-in_err-seat-clause-full : goal.returns-in_err-seat-clause-full
returns-in_err-seat-clause-full g c = λ peer said at full.
    let is : c.from_residual.result ≡ failed Received c.in_err-seat.field-0.0 = search rules in
    absurd (not_full c.self.inside.records c.args.session c.self.inside.seats c.take_seat.new.seats c.in_err-seat.field-0.0 c.in_err-seat.ensures.refused (fault_is Received c.in_err-seat.field-0.0 Full (sym is ∙ full)))

pub returns-in_err-seat-clause-rest : goal.returns-in_err-seat-clause-rest
returns-in_err-seat-clause-rest g c = rw (← c.self.view_is) (left_others c.self.inside.records c.args.session c.self.inside.seats c.take_seat.new.seats c.in_err-seat.field-0.0 c.in_err-seat.ensures.refused, refl, c.take_seat.ensures.attempts.0)

pub returns-in_err-seat-clause-refused : goal.returns-in_err-seat-clause-refused
returns-in_err-seat-clause-refused g c =
    let is : c.from_residual.result ≡ failed Received c.in_err-seat.field-0.0 = search rules in
    rw (← c.self.view_is) (refused_seat Received c.self.inside.config c.args.session c.self.inside.seats c.take_seat.new.seats c.self.inside.attempts.runs c.take_seat.new.attempts.runs _ c.from_residual.result c.self.inside.records c.in_err-seat.field-0.0 is
    c.take_seat.ensures.attempts.0 c.in_err-seat.ensures.refused (λ gone. record { gone = gone; row_is = refl }) (λ same. (same, refl)))

pub returns-in_err-received-clause-full : goal.returns-in_err-received-clause-full
returns-in_err-received-clause-full g c = rw (← c.self.view_is) (λ peer said at full.
    let is : c.from_residual-in_err-received.result ≡ failed Received c.in_err-received.field-0.0 = search rules in
    comes_there c.self.inside.config peer c.args.session said c.self.inside.seats c.in_ok-seat.seat at c.in_ok-seat.ensures.taken.was c.args.piece.now
    (c.in_err-received.ensures.full said (taken_says c.self.inside.config peer c.args.session said c.self.inside.seats c.in_ok-seat.seat at c.in_ok-seat.ensures.taken.was) (sym is ∙ full)))

pub returns-in_err-received-clause-rest : goal.returns-in_err-received-clause-rest
returns-in_err-received-clause-rest g c = rw (← c.self.view_is) (others_of_set c.self.inside.seats c.take_seat.new.seats c.args.session None c.in_ok-seat.ensures.taken.rest, refl, c.take_seat.ensures.attempts.0)

pub returns-in_err-received-clause-refused : goal.returns-in_err-received-clause-refused
returns-in_err-received-clause-refused g c =
    let is : c.from_residual-in_err-received.result ≡ failed Received c.in_err-received.field-0.0 = search rules in
    rw (← c.self.view_is) (refused_hearing Received c.self.inside.config c.args.session c.self.inside.seats c.take_seat.new.seats c.self.inside.attempts.runs c.take_seat.new.attempts.runs _ c.self.inside.records c.hear_into.new.records
    c.in_ok-seat.ensures.taken.live c.in_ok-seat.seat c.in_ok-seat.ensures.taken.was c.from_residual-in_err-received.result c.in_err-received.field-0.0 is
    (stages_known c.self.inside.records c.hear_into.new.records c.args.row.now c.hear_into.new.row c.in_err-received.field-0.0 c.in_err-received.ensures.refused)
    (leaves_unstaged g.D.Disk.words c.self.inside.config c.args.session c.self.inside.seats c.take_seat.new.seats c.self.inside.attempts.runs c.take_seat.new.attempts.runs c.self.inside.records c.hear_into.new.records c.in_ok-seat.ensures.taken.rest c.args.row.now c.hear_into.new.row c.in_err-received.field-0.0 c.in_err-received.ensures.refused))
