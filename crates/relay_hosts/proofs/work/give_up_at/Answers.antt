use Rattle.std.proofs.Common.{◌≡◌, true, false, Err, ap, arith, rules, subst}
use Rattle.std.specs.Prelude.{vec_capacity, vec_len}
use Rattle.relay_attempts.specs.Outcomes.{RefusesToGiveUp}
use Rattle.relay_hosts.specs.Call.{is_stop}
use Rattle.relay_hosts.proofs.CallLemmas.{noted_some, notes_one, owed_stopped, owes_noted, stop_is}
use Rattle.relay_hosts.proofs.WorkLemmas.{given_up_same, owes_unchanged, refuses_giving_up, same_node, stops_giving_up, unroutable_given}
use Rattle.relay_hosts.proofs.work.give_up_at.Goals as goal
use Rattle.relay_report.specs.Report.{reporter_of}

pub returns-then-is_stop-clause-given : goal.returns-then-is_stop-clause-given
returns-then-is_stop-clause-given g c =
    let stop : is_stop c.in-Err.fault ≡ true = search rules in
    stops_giving_up g.D.Disk.honest g.D.Disk.words c.args.node.now c.give_up_unroutable.new.self c.args.records.now.items
    c.reserve.new.self.items c.args.message c.args.now c.requires.changes c.in-Ok.ensures.items c.in-Err.ensures.rest.0
    (subst (λ f. RefusesToGiveUp g.D.Disk.words (reporter_of c.args.node.now.config) c.args.node.now.config.routes c.args.message
    c.args.now c.args.node.now.records c.give_up_unroutable.new.self.records f) (stop_is c.in-Err.fault stop)
    c.in-Err.ensures.refused)
    (λ changes keeps. c.in-Err.ensures.cut changes keeps (ap (λ f. Err f) (stop_is c.in-Err.fault stop)))

pub returns-then-is_stop-clause-room : goal.returns-then-is_stop-clause-room
returns-then-is_stop-clause-room g c =
    let stop : is_stop c.in-Err.fault ≡ true = search rules in
    let knows = c.requires.changes in
    let cut = c.in-Err.ensures.cut knows.changes knows.keeps (ap (λ f. Err f) (stop_is c.in-Err.fault stop)) in
    let one = owed_stopped c.give_up_unroutable.new.self cut.cuts.cuts.halted.stopped in
    let more = c.in-Some.ensures in
    let fits = c.in-Ok.ensures.ok in
    (omega (arith, one, more), omega (arith, fits))

pub returns-in-Err-clause-given : goal.returns-in-Err-clause-given
returns-in-Err-clause-given g c =
    let ok : is_stop c.in-Err.fault ≡ false = search rules in
    let same = given_up_same g.D.Disk.words _ _ _ _ c.args.node.now.records c.give_up_unroutable.new.self.records
    c.in-Err.fault ok c.in-Err.ensures.refused in
    refuses_giving_up g.D.Disk.honest g.D.Disk.words c.args.node.now c.give_up_unroutable.new.self c.args.records.now.items
    c.reserve.new.self.items c.args.message c.args.now c.in-Err.fault
    (same_node c.args.node.now c.give_up_unroutable.new.self c.in-Err.ensures.rest.0 c.in-Err.ensures.rest.1
    c.in-Err.ensures.rest.2 same) c.in-Ok.ensures.items c.in-Err.ensures.refused

pub returns-in-Err-clause-room : goal.returns-in-Err-clause-room
returns-in-Err-clause-room g c =
    let ok : is_stop c.in-Err.fault ≡ false = search rules in
    let same = given_up_same g.D.Disk.words _ _ _ _ c.args.node.now.records c.give_up_unroutable.new.self.records
    c.in-Err.fault ok c.in-Err.ensures.refused in
    let more = c.in-Some.ensures in
    let fits = c.in-Ok.ensures.ok in
    owes_unchanged c.args.node.now c.give_up_unroutable.new.self (vec_len c.args.records.now)
    (vec_capacity c.args.records.now) c.args.owed.now (vec_len c.reserve.new.self) (vec_capacity c.reserve.new.self)
    c.requires.room
    (same_node c.args.node.now c.give_up_unroutable.new.self c.in-Err.ensures.rest.0 c.in-Err.ensures.rest.1
    c.in-Err.ensures.rest.2 same) (omega (arith, more, fits))

pub take_note-recorded-requires-clause-noted : goal.take_note-recorded-requires-clause-noted
take_note-recorded-requires-clause-noted g c =
    let knows = c.requires.changes in
    let given = c.in-Ok-give_up_unroutable.ensures.gives_up knows.changes knows.keeps in
    noted_some _ _ _ _ given.adds.adds.noted

pub take_note-recorded-requires-clause-room : goal.take_note-recorded-requires-clause-room
take_note-recorded-requires-clause-room g c =
    let more = c.in-Some.ensures in
    let fits = c.in-Ok.ensures.ok in
    omega (arith, more, fits)

pub returns-clause-given : goal.returns-clause-given
returns-clause-given g c = record {
  before = c.args.node.now;
  up = search rules;
  after = c.give_up_unroutable.new.self;
  gives_up = λ changes keeps.
      unroutable_given g.D.Disk.honest g.D.Disk.words (reporter_of c.args.node.now.config) c.args.node.now.config.routes c.args.message
      c.args.now changes c.args.node.now.records c.give_up_unroutable.new.self.records _
      (c.in-Ok-give_up_unroutable.ensures.gives_up changes keeps);
  free = tt;
  config = c.in-Ok-give_up_unroutable.ensures.rest.0;
  seats = c.in-Ok-give_up_unroutable.ensures.rest.1;
  attempts = c.in-Ok-give_up_unroutable.ensures.rest.2;
  notes = notes_one c.args.node.now c.give_up_unroutable.new.self c.take_note-recorded.new.node c.args.records.now.items
      c.take_note-recorded.new.records.items c.take_note-recorded.result c.in-Ok-give_up_unroutable.ensures.rest.0
      (rw (← c.in-Ok.ensures.items) c.take_note-recorded.ensures.takes);
}

pub returns-clause-room : goal.returns-clause-room
returns-clause-room g c =
    let knows = c.requires.changes in
    let given = c.in-Ok-give_up_unroutable.ensures.gives_up knows.changes knows.keeps in
    let more = c.in-Some.ensures in
    let fits = c.in-Ok.ensures.ok in
    let len = c.take_note-recorded.ensures.len in
    let capacity = c.take_note-recorded.ensures.capacity in
    owes_noted c.args.node.now c.give_up_unroutable.new.self c.take_note-recorded.new.node _ _ c.take_note-recorded.result
    (vec_len c.args.records.now) (vec_capacity c.args.records.now) c.args.owed.now (vec_len c.take_note-recorded.new.records)
    (vec_capacity c.take_note-recorded.new.records) c.take_note-recorded.ensures.takes c.requires.room knows.keeps.live
    given.adds.adds.keeps.live c.in-Ok-give_up_unroutable.ensures.rest.2 (omega (arith, more, fits, len, capacity))
