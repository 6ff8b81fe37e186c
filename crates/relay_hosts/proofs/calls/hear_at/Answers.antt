use Rattle.std.proofs.Common.{◌≡◌, ℕ, List, true, false, Err, None, subst, ap, sym, ◌∙◌, arith, rules}
use Rattle.std.specs.Prelude.{vec_capacity, vec_len}
use Rattle.std.proofs.lemmas.Option.{none-some}
use Rattle.relay_records.specs.declared.fault.NodeFault.TheVariants.{Unknown}
use Rattle.relay_records.specs.Records.{Kept}
use Rattle.relay_hosts.specs.Call.{LosesSession, NotesChange, is_stop}
use Rattle.relay_hosts.specs.Host.{host_of}
use Rattle.relay_hosts.proofs.CallLemmas.{heard_added, heard_same, notes_none, notes_one, notes_some, owes_heard, owes_noted, owed_stopped, session_gone, session_lost, session_records, session_stopped, session_why, stop_is, stops_hearing}
use Rattle.relay_hosts.proofs.calls.hear_at.Goals as goal

pub returns-then-is_stop-clause-told : goal.returns-then-is_stop-clause-told
returns-then-is_stop-clause-told g c =
    let stop : is_stop c.in-Err.fault ≡ true = search rules in
    stops_hearing g.D.Disk.honest g.D.Disk.words c.args.node.now c.receive.new.self c.args.records.now.items
    c.reserve.new.self.items c.args.session c.args.now c.args.piece.now c.requires.session c.in-Ok.ensures.items
    c.in-Err.ensures.rest.1
    (session_stopped c.args.node.now c.receive.new.self c.args.records.now.items c.in-Err.ensures.rest.1 g.D.Disk.words
    c.args.session c.in-Err.fault stop (c.in-Err.ensures.refused.refused c.requires.session.keeps.live))
    (λ changes peer said keeps says.
    c.in-Err.ensures.cut changes peer said keeps says (ap (λ f. Err f) (stop_is c.in-Err.fault stop)))

pub returns-then-is_stop-clause-room : goal.returns-then-is_stop-clause-room
returns-then-is_stop-clause-room g c =
    let stop : is_stop c.in-Err.fault ≡ true = search rules in
    let knows = c.requires.session in
    let cut = c.in-Err.ensures.cut knows.changes knows.peer knows.said knows.keeps knows.says
    (ap (λ f. Err f) (stop_is c.in-Err.fault stop)) in
    let one = owed_stopped c.receive.new.self cut.cuts.halted.stopped in
    let more = c.in-Some.ensures in
    let fits = c.in-Ok.ensures.ok in
    (omega (arith, one, more), omega (arith, fits))

pub returns-in-Err-clause-told : goal.returns-in-Err-clause-told
returns-in-Err-clause-told g c =
    let ok : is_stop c.in-Err.fault ≡ false = search rules in
    let same = session_records c.args.node.now c.receive.new.self c.args.records.now.items c.in-Err.ensures.rest.1
    g.D.Disk.words c.args.session c.in-Err.fault ok (c.in-Err.ensures.refused.refused c.requires.session.keeps.live) in
    let knows = c.requires.session in
    let refused = c.in-Err.ensures.refused in
    let known = λ (is : c.in-Err.fault ≡ Unknown).
    none-some knows.says.seat (sym (refused.unknown.0 (ap (λ f. Err f) is)).1 ∙ knows.says.at) in (
      subst (λ l. LosesSession (host_of c.args.node.now c.args.records.now.items) (host_of c.receive.new.self l) c.args.session)
          (sym {A = List (List ℕ)} c.in-Ok.ensures.items)
          (session_lost c.args.node.now c.receive.new.self c.args.records.now.items c.in-Err.ensures.rest.1 c.args.session same
          (session_gone c.args.node.now c.receive.new.self c.args.records.now.items c.in-Err.ensures.rest.1 g.D.Disk.words
          c.args.session c.in-Err.fault ok known (refused.refused knows.keeps.live))
          c.in-Err.ensures.rest.0 c.in-Err.ensures.rest.2),
      session_why c.args.node.now c.receive.new.self c.args.records.now.items c.in-Err.ensures.rest.1 g.D.Disk.words
          c.args.session c.args.piece.now c.in-Err.fault ok known
          (λ is peer said says. c.in-Err.ensures.full peer said says (ap (λ f. Err f) is))
          (refused.refused knows.keeps.live),
    )

pub returns-in-Err-clause-room : goal.returns-in-Err-clause-room
returns-in-Err-clause-room g c =
    let ok : is_stop c.in-Err.fault ≡ false = search rules in
    let knows = c.requires.session in
    let same = session_records c.args.node.now c.receive.new.self c.args.records.now.items c.in-Err.ensures.rest.1
    g.D.Disk.words c.args.session c.in-Err.fault ok (c.in-Err.ensures.refused.refused knows.keeps.live) in
    let more = c.in-Some.ensures in
    let fits = c.in-Ok.ensures.ok in
    owes_heard c.args.node.now c.receive.new.self (vec_len c.args.records.now) (vec_capacity c.args.records.now)
    c.args.owed.now (vec_len c.reserve.new.self) (vec_capacity c.reserve.new.self) c.requires.room knows.keeps.live
    (ap (λ (r : Kept g.row.D.Denot). r.spool.live) same ∙ knows.keeps.live) c.in-Err.ensures.rest.2 (omega (arith, more, fits))

pub returns-then-is_none-clause-told : goal.returns-then-is_none-clause-told
returns-then-is_none-clause-told g c =
    let none : c.in-Ok-receive.received.change ≡ None = search rules in
    record {
      before = c.args.node.now;
      up = search rules;
      after = c.receive.new.self;
      receives = c.in-Ok-receive.ensures.receives;
      used = c.in-Ok-receive.ensures.used.within;
      others = c.in-Ok-receive.ensures.rest.0;
      config = c.in-Ok-receive.ensures.rest.1;
      attempts = c.in-Ok-receive.ensures.rest.2;
      notes = subst (λ l. NotesChange (host_of c.args.node.now c.args.records.now.items) (host_of c.receive.new.self l)
          c.receive.new.self c.in-Ok-receive.received.change None) (sym {A = List (List ℕ)} c.in-Ok.ensures.items)
          (notes_none c.args.node.now c.receive.new.self c.args.records.now.items c.in-Ok-receive.received.change
          c.in-Ok-receive.ensures.rest.1 none);
    }

pub returns-then-is_none-clause-room : goal.returns-then-is_none-clause-room
returns-then-is_none-clause-room g c =
    let none : c.in-Ok-receive.received.change ≡ None = search rules in
    let knows = c.requires.session in
    let same = heard_same g.D.Disk.honest g.D.Disk.words c.args.node.now c.receive.new.self _ _ _ _ _ _ c.in-Ok-receive.received
    (c.in-Ok-receive.ensures.receives knows.changes knows.peer knows.said knows.keeps knows.says) none in
    let more = c.in-Some.ensures in
    let fits = c.in-Ok.ensures.ok in
    owes_heard c.args.node.now c.receive.new.self (vec_len c.args.records.now) (vec_capacity c.args.records.now)
    c.args.owed.now (vec_len c.reserve.new.self) (vec_capacity c.reserve.new.self) c.requires.room knows.keeps.live
    (ap (λ (r : Kept g.row.D.Denot). r.spool.live) same ∙ knows.keeps.live) c.in-Ok-receive.ensures.rest.2 (omega (arith, more, fits))

pub take_note-recorded-requires-clause-noted : goal.take_note-recorded-requires-clause-noted
take_note-recorded-requires-clause-noted g c =
    let knows = c.requires.session in
    let added = heard_added g.D.Disk.honest g.D.Disk.words c.args.node.now c.receive.new.self _ _ _ _ _ _ c.in-Ok-receive.received
    (c.in-Ok-receive.ensures.receives knows.changes knows.peer knows.said knows.keeps knows.says) (search rules) in
    added.0

pub take_note-recorded-requires-clause-room : goal.take_note-recorded-requires-clause-room
take_note-recorded-requires-clause-room g c =
    let more = c.in-Some.ensures in
    let fits = c.in-Ok.ensures.ok in
    omega (arith, more, fits)

pub returns-clause-told : goal.returns-clause-told
returns-clause-told g c = record {
  before = c.args.node.now;
  up = search rules;
  after = c.receive.new.self;
  receives = c.in-Ok-receive.ensures.receives;
  used = c.in-Ok-receive.ensures.used.within;
  others = c.in-Ok-receive.ensures.rest.0;
  config = c.in-Ok-receive.ensures.rest.1;
  attempts = c.in-Ok-receive.ensures.rest.2;
  notes = notes_some c.args.node.now c.receive.new.self c.take_note-recorded.new.node c.args.records.now.items
      c.take_note-recorded.new.records.items c.take_note-recorded.result c.in-Ok-receive.received.change (search rules)
      (notes_one c.args.node.now c.receive.new.self c.take_note-recorded.new.node c.args.records.now.items
      c.take_note-recorded.new.records.items c.take_note-recorded.result c.in-Ok-receive.ensures.rest.1
      (rw (← c.in-Ok.ensures.items) c.take_note-recorded.ensures.takes));
}

pub returns-clause-room : goal.returns-clause-room
returns-clause-room g c =
    let knows = c.requires.session in
    let added = heard_added g.D.Disk.honest g.D.Disk.words c.args.node.now c.receive.new.self _ _ _ _ _ _ c.in-Ok-receive.received
    (c.in-Ok-receive.ensures.receives knows.changes knows.peer knows.said knows.keeps knows.says) (search rules) in
    let more = c.in-Some.ensures in
    let fits = c.in-Ok.ensures.ok in
    let len = c.take_note-recorded.ensures.len in
    let capacity = c.take_note-recorded.ensures.capacity in
    owes_noted c.args.node.now c.receive.new.self c.take_note-recorded.new.node _ _ c.take_note-recorded.result
    (vec_len c.args.records.now) (vec_capacity c.args.records.now) c.args.owed.now (vec_len c.take_note-recorded.new.records)
    (vec_capacity c.take_note-recorded.new.records) c.take_note-recorded.ensures.takes c.requires.room knows.keeps.live
    added.1 c.in-Ok-receive.ensures.rest.2 (omega (arith, more, fits, len, capacity))
