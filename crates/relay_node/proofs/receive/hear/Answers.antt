-- What was heard, and what became of an offer that there is room for.
use Rattle.std.proofs.Common.{refl, ap, ◌∙◌, subst, sym}
use Rattle.relay_book.specs.declared.change.Change.{Change}
use Rattle.relay_book.specs.Queue.{step}
use Rattle.relay_server.specs.Setup.{setup_for}
use Rattle.relay_node.specs.Node.{SessionHasSaid}
use Rattle.relay_node.proofs.ReceiveLemmas.{cuts_talk, err_of, hears_queued, hears_quietly, some_none, uses_all, uses_some}
use Rattle.relay_node.proofs.receive.hear.Goals as goal

pub returns-in-None-clause-hears : goal.returns-in-None-clause-hears
returns-in-None-clause-hears g c = λ changes said keeps says.
    hears_quietly g.D.Disk.honest g.D.Disk.words _ changes said c.args.piece.now c.args.records.now (c.next_number.ensures.kept changes keeps) c.size.ensures.size c.speak.new.session c.in_ok-used.field-0
    (c.in_ok-used.ensures.speaks said (subst (λ session. SessionHasSaid (setup_for c.args.config.now c.args.seat.now.peer) session said) (sym c.deref_mut.ensures.value) says)) c.in_ok-used.ensures.spoken c.in-None.is

pub returns-in-None-clause-heard : goal.returns-in-None-clause-heard
returns-in-None-clause-heard g c =
    let is = c.in_ok-used.ensures.spoken in
    let s = c.in_ok-used.ensures.speaks c.requires.history.0 (subst (λ session. SessionHasSaid (setup_for c.args.config.now c.args.seat.now.peer) session c.requires.history.0) (sym c.deref_mut.ensures.value) c.requires.history.1) in
    record {
      used = record { within = is.within; some = λ made. absurd (made refl); whole = λ _ going. uses_all _ _ _ _ is c.in-None.is going; failures = (refl, refl) };
      takes = refl;
      history = (s.later, s.says);
    }

pub returns-in-Ok-clause-hears : goal.returns-in-Ok-clause-hears
returns-in-Ok-clause-hears g c = λ changes said keeps says.
    let added = c.in-Ok.ensures.ok changes keeps in
    hears_queued g.D.Disk.honest g.D.Disk.words _ changes said c.args.piece.now c.args.records.now (c.next_number.ensures.kept changes keeps) c.size.ensures.size c.speak.new.session c.in_ok-used.field-0
    (c.in_ok-used.ensures.speaks said (subst (λ session. SessionHasSaid (setup_for c.args.config.now c.args.seat.now.peer) session said) (sym c.deref_mut.ensures.value) says)) c.in_ok-used.ensures.spoken c.in-Some.taken c.in-Some.is c.add.new.self c.in-Ok.number added.0 added.1 c.in-Ok.ensures.grows.size
    c.in-Ok.ensures.grows.calls

pub returns-in-Ok-clause-heard : goal.returns-in-Ok-clause-heard
returns-in-Ok-clause-heard g c =
    let is = c.in_ok-used.ensures.spoken in
    let s = c.in_ok-used.ensures.speaks c.requires.history.0 (subst (λ session. SessionHasSaid (setup_for c.args.config.now c.args.seat.now.peer) session c.requires.history.0) (sym c.deref_mut.ensures.value) c.requires.history.1) in
    let by = uses_some _ _ _ _ is c.in-Some.taken c.in-Some.is in
    let grows = c.in-Ok.ensures.grows in
    record {
      used = record { within = is.within; some = λ _. by.0; whole = λ none _. absurd (some_none c.in-Ok.number none); failures = grows.failures };
      takes = (by.2.1.accept, grows.number_is, grows.queue ∙ ap (λ (change : Change). step c.args.records.now.queue change) by.2.1.change_is);
      history = (s.later, s.says);
    }

pub returns-in-Err-clause-cut : goal.returns-in-Err-clause-cut
returns-in-Err-clause-cut g c = λ changes said keeps says e.
    cuts_talk g.D.Disk.honest g.D.Disk.words _ changes said c.args.piece.now c.args.records.now (c.next_number.ensures.kept changes keeps) c.size.ensures.size c.speak.new.session c.in_ok-used.field-0
    (c.in_ok-used.ensures.speaks said (subst (λ session. SessionHasSaid (setup_for c.args.config.now c.args.seat.now.peer) session said) (sym c.deref_mut.ensures.value) says)) c.in_ok-used.ensures.spoken c.in-Some.taken c.in-Some.is c.add.new.self (c.in-Err.ensures.cut changes keeps (err_of c.in-Err.fault _ e))
