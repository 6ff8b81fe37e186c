-- What was heard, and what became of an offer that there is room for after the row.
use Rattle.std.proofs.Common.{inl, inr, refl, ap, ◌∙◌, arith, subst, sym}
use Rattle.relay_book.specs.declared.change.Change.{Change}
use Rattle.relay_book.specs.Queue.{step}
use Rattle.relay_server.specs.Setup.{setup_for}
use Rattle.relay_node.specs.Node.{SessionHasSaid}
use Rattle.relay_node.proofs.ReceiveLemmas.{some_none, uses_all, uses_some}
use Rattle.relay_node.proofs.HeardAfterLemmas.{hears_quietly_after, hears_staged_after}
use Rattle.relay_node.proofs.receive_into.hear_into.Goals as goal

pub returns-in-None-clause-hears : goal.returns-in-None-clause-hears
returns-in-None-clause-hears g c = λ changes pending awaits.
    hears_quietly_after g.D.Disk.honest g.D.Disk.words _ changes pending c.args.piece.now c.args.records.now c.args.row.now (c.next_number.ensures.number ∙ c.awaited_are_numbered.ensures _ changes pending _ awaits)
    (omega (arith, c.size.ensures.size, c.room.ensures.room)) c.args.seat.now.session.value c.speak.new.session c.in_ok-used.field-0 c.in_ok-used.ensures.spoken (λ said says. c.in_ok-used.ensures.speaks said (subst (λ session. SessionHasSaid (setup_for c.args.config.now c.args.seat.now.peer) session said) (sym c.deref_mut.ensures.value) says)) c.in-None.is awaits

pub returns-in-None-clause-heard : goal.returns-in-None-clause-heard
returns-in-None-clause-heard g c =
    let is = c.in_ok-used.ensures.spoken in
    let s = c.in_ok-used.ensures.speaks c.requires.0 (subst (λ session. SessionHasSaid (setup_for c.args.config.now c.args.seat.now.peer) session c.requires.0) (sym c.deref_mut.ensures.value) c.requires.1) in
    record {
      used = record { within = is.within; some = λ made. absurd (made refl); whole = λ _ going. uses_all _ _ _ _ is c.in-None.is going };
      takes = record { takes = refl; spool = refl; noted = refl; room = inl refl };
      history = (s.later, s.says);
    }

pub returns-in-Ok-clause-hears : goal.returns-in-Ok-clause-hears
returns-in-Ok-clause-hears g c = λ changes pending awaits.
    let stages = c.in-Ok.ensures.stages in
    let next = c.awaited_are_numbered.ensures _ changes pending _ awaits in
    hears_staged_after g.D.Disk.honest g.D.Disk.words _ changes pending c.args.piece.now c.args.records.now c.args.row.now (c.next_number.ensures.number ∙ next)
    (omega (arith, c.size.ensures.size, c.room.ensures.room)) c.args.seat.now.session.value c.speak.new.session c.in_ok-used.field-0 c.in_ok-used.ensures.spoken (λ said says. c.in_ok-used.ensures.speaks said (subst (λ session. SessionHasSaid (setup_for c.args.config.now c.args.seat.now.peer) session said) (sym c.deref_mut.ensures.value) says)) c.in-Some.taken c.in-Some.is
    c.stage.new.self c.stage.new.row c.in-Ok.number (stages.number_is ∙ next) (c.in-Ok.ensures.awaits changes pending awaits) stages.note stages.notes stages.notes_next.used_is

pub returns-in-Ok-clause-heard : goal.returns-in-Ok-clause-heard
returns-in-Ok-clause-heard g c =
    let is = c.in_ok-used.ensures.spoken in
    let s = c.in_ok-used.ensures.speaks c.requires.0 (subst (λ session. SessionHasSaid (setup_for c.args.config.now c.args.seat.now.peer) session c.requires.0) (sym c.deref_mut.ensures.value) c.requires.1) in
    let by = uses_some _ _ _ _ is c.in-Some.taken c.in-Some.is in
    let stages = c.in-Ok.ensures.stages in
    record {
      used = record { within = is.within; some = λ _. by.0; whole = λ none _. absurd (some_none c.in-Ok.number none) };
      takes = record {
        takes = (by.2.1.accept, stages.number_is, stages.queue ∙ ap (λ (change : Change). step c.args.records.now.queue change) by.2.1.change_is);
        spool = stages.spool;
        noted = stages.noted;
        room = inr stages.room;
      };
      history = (s.later, s.says);
    }
