use Rattle.std.proofs.Common.{◌≡◌, true, false, Err, None, ap, arith, rules, sym, ◌∙◌}
use Rattle.std.specs.Prelude.{vec_capacity, vec_len}
use Rattle.std.proofs.lemmas.Option.{none-some}
use Rattle.relay_records.specs.declared.fault.NodeFault.TheVariants.{Unknown}
use Rattle.relay_hosts.specs.Call.{is_stop}
use Rattle.relay_hosts.proofs.CallLemmas.{attempt_gone, attempt_lost, attempt_records, attempt_stopped, attempt_why, noted_some, notes_none, notes_one, notes_some, read_ended, read_same, owes_less, owes_one, owes_same, owes_stopped, owes_taken, stop_is, stops_reading}
use Rattle.relay_hosts.proofs.calls.read_at.Goals as goal

pub returns-then-is_stop-clause-told : goal.returns-then-is_stop-clause-told
returns-then-is_stop-clause-told g c =
    let stop : is_stop c.in-Err.fault ≡ true = search rules in
    stops_reading g.D.Disk.honest g.D.Disk.words c.args.node.now c.reply.new.self c.args.records.now.items c.args.slot c.args.now
    c.requires.attempt c.in-Err.ensures.rest.1
    (attempt_stopped c.args.node.now c.reply.new.self c.args.records.now.items c.in-Err.ensures.rest.1 g.D.Disk.words c.args.slot
    c.in-Err.fault stop (c.in-Err.ensures.refused.refused c.requires.attempt.keeps.live)) c.args.piece.now
    (λ changes told keeps tells. c.in-Err.ensures.cut changes told keeps tells (ap (λ f. Err f) (stop_is c.in-Err.fault stop)))

pub returns-then-is_stop-clause-room : goal.returns-then-is_stop-clause-room
returns-then-is_stop-clause-room g c =
    let stop : is_stop c.in-Err.fault ≡ true = search rules in
    let knows = c.requires.attempt in
    let cut = c.in-Err.ensures.cut knows.changes knows.told knows.keeps knows.tells
    (ap (λ f. Err f) (stop_is c.in-Err.fault stop)) in
    owes_stopped g.D.Disk.honest g.D.Disk.words c.args.node.now c.reply.new.self c.args.slot _ _ _ c.requires.attempt
    c.requires.room c.in-Err.ensures.rest.0 cut.cuts.cuts.halted.stopped

pub returns-in-Err-clause-told : goal.returns-in-Err-clause-told
returns-in-Err-clause-told g c =
    let ok : is_stop c.in-Err.fault ≡ false = search rules in
    let knows = c.requires.attempt in
    let refused = c.in-Err.ensures.refused in
    let known = λ (is : c.in-Err.fault ≡ Unknown).
    none-some knows.tells.run (sym (refused.unknown.0 (ap (λ f. Err f) is)).1 ∙ knows.tells.at) in (
      attempt_lost c.args.node.now c.reply.new.self c.args.records.now.items c.in-Err.ensures.rest.1 c.args.slot
          (attempt_records c.args.node.now c.reply.new.self c.args.records.now.items c.in-Err.ensures.rest.1 g.D.Disk.words c.args.slot
          c.in-Err.fault ok (refused.refused knows.keeps.live))
          (attempt_gone c.args.node.now c.reply.new.self c.args.records.now.items c.in-Err.ensures.rest.1 g.D.Disk.words c.args.slot
          c.in-Err.fault ok known (refused.refused knows.keeps.live))
          c.in-Err.ensures.rest.0 c.in-Err.ensures.rest.2,
      attempt_why c.args.node.now c.reply.new.self c.args.records.now.items c.in-Err.ensures.rest.1 g.D.Disk.words c.args.slot
          c.in-Err.fault ok known
          (λ is changes told keeps tells. c.in-Err.ensures.full changes told keeps tells (ap (λ f. Err f) is))
          (refused.refused knows.keeps.live),
    )

pub returns-in-Err-clause-room : goal.returns-in-Err-clause-room
returns-in-Err-clause-room g c =
    let ok : is_stop c.in-Err.fault ≡ false = search rules in
    owes_same g.D.Disk.honest g.D.Disk.words c.args.node.now c.reply.new.self c.args.slot _ _ _ c.requires.attempt
    c.requires.room c.in-Err.ensures.rest.0
    (attempt_records c.args.node.now c.reply.new.self c.args.records.now.items c.in-Err.ensures.rest.1 g.D.Disk.words c.args.slot
    c.in-Err.fault ok (c.in-Err.ensures.refused.refused c.requires.attempt.keeps.live))

pub returns-then-is_none-clause-told : goal.returns-then-is_none-clause-told
returns-then-is_none-clause-told g c =
    let none : c.in-Ok.replied.change ≡ None = search rules in
    record {
      before = c.args.node.now;
      up = search rules;
      after = c.reply.new.self;
      replies = c.in-Ok.ensures.replies;
      used = c.in-Ok.ensures.used.within;
      others = c.in-Ok.ensures.rest.0;
      config = c.in-Ok.ensures.rest.1;
      seats = c.in-Ok.ensures.rest.2;
      notes = notes_none c.args.node.now c.reply.new.self c.args.records.now.items c.in-Ok.replied.change
          c.in-Ok.ensures.rest.1 none;
    }

pub returns-then-is_none-clause-room : goal.returns-then-is_none-clause-room
returns-then-is_none-clause-room g c =
    let none : c.in-Ok.replied.change ≡ None = search rules in
    let knows = c.requires.attempt in
    owes_same g.D.Disk.honest g.D.Disk.words c.args.node.now c.reply.new.self c.args.slot _ _ _ knows c.requires.room
    c.in-Ok.ensures.rest.0
    (read_same g.D.Disk.honest g.D.Disk.words c.args.node.now c.reply.new.self _ _ _ _ _ _ c.in-Ok.replied
    (c.in-Ok.ensures.replies knows.changes knows.told knows.keeps knows.tells) none)

pub take_note-recorded-requires-clause-noted : goal.take_note-recorded-requires-clause-noted
take_note-recorded-requires-clause-noted g c =
    let knows = c.requires.attempt in
    let ended = read_ended g.D.Disk.honest g.D.Disk.words c.args.node.now c.reply.new.self _ _ _ _ _ _ c.in-Ok.replied
    (c.in-Ok.ensures.replies knows.changes knows.told knows.keeps knows.tells) (search rules) in
    noted_some _ _ _ _ ended.1.adds.adds.noted

pub take_note-recorded-requires-clause-room : goal.take_note-recorded-requires-clause-room
take_note-recorded-requires-clause-room g c =
    let one = owes_one g.D.Disk.honest g.D.Disk.words c.args.node.now c.reply.new.self c.args.slot _ _ _ c.requires.attempt
    c.requires.room c.in-Ok.ensures.rest.0 in
    let fits = c.requires.room.1 in
    omega (arith, one, fits)

pub overflow_sub-owed : goal.overflow_sub-owed
overflow_sub-owed g c =
    owes_one g.D.Disk.honest g.D.Disk.words c.args.node.now c.reply.new.self c.args.slot _ _ _ c.requires.attempt
    c.requires.room c.in-Ok.ensures.rest.0

pub returns-clause-told : goal.returns-clause-told
returns-clause-told g c = record {
  before = c.args.node.now;
  up = search rules;
  after = c.reply.new.self;
  replies = c.in-Ok.ensures.replies;
  used = c.in-Ok.ensures.used.within;
  others = c.in-Ok.ensures.rest.0;
  config = c.in-Ok.ensures.rest.1;
  seats = c.in-Ok.ensures.rest.2;
  notes = notes_some c.args.node.now c.reply.new.self c.take_note-recorded.new.node c.args.records.now.items
      c.take_note-recorded.new.records.items c.take_note-recorded.result c.in-Ok.replied.change (search rules)
      (notes_one c.args.node.now c.reply.new.self c.take_note-recorded.new.node c.args.records.now.items
      c.take_note-recorded.new.records.items c.take_note-recorded.result c.in-Ok.ensures.rest.1
      c.take_note-recorded.ensures.takes);
}

pub returns-clause-room : goal.returns-clause-room
returns-clause-room g c =
    let knows = c.requires.attempt in
    let ended = read_ended g.D.Disk.honest g.D.Disk.words c.args.node.now c.reply.new.self _ _ _ _ _ _ c.in-Ok.replied
    (c.in-Ok.ensures.replies knows.changes knows.told knows.keeps knows.tells) (search rules) in
    owes_taken c.reply.new.self c.take_note-recorded.new.node _ _ c.take_note-recorded.result _ _ _
    c.take_note-recorded.ensures.takes
    (owes_less g.D.Disk.honest g.D.Disk.words c.args.node.now c.reply.new.self c.args.slot (vec_len c.args.records.now)
    (vec_capacity c.args.records.now) c.args.owed.now knows c.requires.room c.in-Ok.ensures.rest.0
    (vec_len c.take_note-recorded.new.records) (vec_capacity c.take_note-recorded.new.records) ended.1.gone
    ended.1.adds.adds.keeps.live c.take_note-recorded.ensures.len c.take_note-recorded.ensures.capacity)
