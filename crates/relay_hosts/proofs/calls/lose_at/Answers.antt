use Rattle.std.proofs.Common.{◌≡◌, true, false, Err, ap, arith, rules, sym, ◌∙◌}
use Rattle.std.specs.Prelude.{vec_capacity, vec_len}
use Rattle.std.proofs.lemmas.Option.{none-some}
use Rattle.relay_records.specs.declared.fault.NodeFault.TheVariants.{Unknown}
use Rattle.relay_hosts.specs.Call.{is_stop}
use Rattle.relay_hosts.proofs.CallLemmas.{attempt_gone, attempt_lost, attempt_records, attempt_stopped, attempt_why, noted_some, notes_one, owes_less, owes_one, owes_same, owes_stopped, owes_taken, stop_is, stops_losing}
use Rattle.relay_hosts.proofs.calls.lose_at.Goals as goal

pub returns-then-is_stop-clause-told : goal.returns-then-is_stop-clause-told
returns-then-is_stop-clause-told g c =
    let stop : is_stop c.in-Err.fault ≡ true = search rules in
    stops_losing g.D.Disk.honest g.D.Disk.words c.args.node.now c.lost.new.self c.args.records.now.items c.args.slot c.args.now
    c.requires.attempt c.in-Err.ensures.rest.1
    (attempt_stopped c.args.node.now c.lost.new.self c.args.records.now.items c.in-Err.ensures.rest.1 g.D.Disk.words c.args.slot
    c.in-Err.fault stop (c.in-Err.ensures.refused.refused c.requires.attempt.keeps.live))
    (λ changes told keeps tells. c.in-Err.ensures.cut changes told keeps tells (ap (λ f. Err f) (stop_is c.in-Err.fault stop)))

pub returns-then-is_stop-clause-room : goal.returns-then-is_stop-clause-room
returns-then-is_stop-clause-room g c =
    let stop : is_stop c.in-Err.fault ≡ true = search rules in
    let knows = c.requires.attempt in
    let cut = c.in-Err.ensures.cut knows.changes knows.told knows.keeps knows.tells
    (ap (λ f. Err f) (stop_is c.in-Err.fault stop)) in
    owes_stopped g.D.Disk.honest g.D.Disk.words c.args.node.now c.lost.new.self c.args.slot _ _ _ c.requires.attempt
    c.requires.room c.in-Err.ensures.rest.0 cut.cuts.cuts.halted.stopped

pub returns-in-Err-clause-told : goal.returns-in-Err-clause-told
returns-in-Err-clause-told g c =
    let ok : is_stop c.in-Err.fault ≡ false = search rules in
    let knows = c.requires.attempt in
    let refused = c.in-Err.ensures.refused in
    let known = λ (is : c.in-Err.fault ≡ Unknown).
    none-some knows.tells.run (sym (refused.unknown.0 (ap (λ f. Err f) is)).1 ∙ knows.tells.at) in (
      attempt_lost c.args.node.now c.lost.new.self c.args.records.now.items c.in-Err.ensures.rest.1 c.args.slot
          (attempt_records c.args.node.now c.lost.new.self c.args.records.now.items c.in-Err.ensures.rest.1 g.D.Disk.words c.args.slot
          c.in-Err.fault ok (refused.refused knows.keeps.live))
          (attempt_gone c.args.node.now c.lost.new.self c.args.records.now.items c.in-Err.ensures.rest.1 g.D.Disk.words c.args.slot
          c.in-Err.fault ok known (refused.refused knows.keeps.live))
          c.in-Err.ensures.rest.0 c.in-Err.ensures.rest.2,
      attempt_why c.args.node.now c.lost.new.self c.args.records.now.items c.in-Err.ensures.rest.1 g.D.Disk.words c.args.slot
          c.in-Err.fault ok known
          (λ is changes told keeps tells. c.in-Err.ensures.full changes told keeps tells (ap (λ f. Err f) is))
          (refused.refused knows.keeps.live),
    )

pub returns-in-Err-clause-room : goal.returns-in-Err-clause-room
returns-in-Err-clause-room g c =
    let ok : is_stop c.in-Err.fault ≡ false = search rules in
    owes_same g.D.Disk.honest g.D.Disk.words c.args.node.now c.lost.new.self c.args.slot _ _ _ c.requires.attempt
    c.requires.room c.in-Err.ensures.rest.0
    (attempt_records c.args.node.now c.lost.new.self c.args.records.now.items c.in-Err.ensures.rest.1 g.D.Disk.words c.args.slot
    c.in-Err.fault ok (c.in-Err.ensures.refused.refused c.requires.attempt.keeps.live))

pub take_note-recorded-requires-clause-noted : goal.take_note-recorded-requires-clause-noted
take_note-recorded-requires-clause-noted g c =
    let knows = c.requires.attempt in
    let lost = c.in-Ok.ensures.lost knows.changes knows.told knows.keeps knows.tells in
    noted_some _ _ _ _ lost.adds.adds.noted

pub take_note-recorded-requires-clause-room : goal.take_note-recorded-requires-clause-room
take_note-recorded-requires-clause-room g c =
    let one = owes_one g.D.Disk.honest g.D.Disk.words c.args.node.now c.lost.new.self c.args.slot _ _ _ c.requires.attempt
    c.requires.room c.in-Ok.ensures.rest.0 in
    let fits = c.requires.room.1 in
    omega (arith, one, fits)

pub overflow_sub-owed : goal.overflow_sub-owed
overflow_sub-owed g c =
    owes_one g.D.Disk.honest g.D.Disk.words c.args.node.now c.lost.new.self c.args.slot _ _ _ c.requires.attempt
    c.requires.room c.in-Ok.ensures.rest.0

pub returns-clause-told : goal.returns-clause-told
returns-clause-told g c = record {
  before = c.args.node.now;
  up = search rules;
  after = c.lost.new.self;
  loses = c.in-Ok.ensures.lost;
  others = c.in-Ok.ensures.rest.0;
  config = c.in-Ok.ensures.rest.1;
  seats = c.in-Ok.ensures.rest.2;
  notes = notes_one c.args.node.now c.lost.new.self c.take_note-recorded.new.node c.args.records.now.items
      c.take_note-recorded.new.records.items c.take_note-recorded.result c.in-Ok.ensures.rest.1
      c.take_note-recorded.ensures.takes;
}

pub returns-clause-room : goal.returns-clause-room
returns-clause-room g c =
    let knows = c.requires.attempt in
    let lost = c.in-Ok.ensures.lost knows.changes knows.told knows.keeps knows.tells in
    owes_taken c.lost.new.self c.take_note-recorded.new.node _ _ c.take_note-recorded.result _ _ _
    c.take_note-recorded.ensures.takes
    (owes_less g.D.Disk.honest g.D.Disk.words c.args.node.now c.lost.new.self c.args.slot (vec_len c.args.records.now)
    (vec_capacity c.args.records.now) c.args.owed.now knows c.requires.room c.in-Ok.ensures.rest.0
    (vec_len c.take_note-recorded.new.records) (vec_capacity c.take_note-recorded.new.records) lost.gone
    lost.adds.adds.keeps.live c.take_note-recorded.ensures.len c.take_note-recorded.ensures.capacity)
