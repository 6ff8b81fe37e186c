-- What was listened to, and the reply to an offer that there is room for.
use Rattle.std.proofs.Common.{refl, sym, ◌∙◌}
use Rattle.relay_server.specs.Setup.{setup_for}
use Rattle.relay_node.proofs.SpeakLemmas.{closes, ends_for_close, ends_for_more, ends_for_taken, speaks_last, speaks_quietly, waits_not}
use Rattle.relay_node.proofs.intake.Intake.speak.Goals as goal

pub returns-in-More-clause-speaks : goal.returns-in-More-clause-speaks
returns-in-More-clause-speaks c = λ said says.
    let by = ends_for_more _ _ _ _ c.in_ok-used.ensures.ends c.in-More.is in
    speaks_quietly c.args.self.now said c.args.piece.now c.listen.new.session _ (c.in_ok-used.ensures.listens said says.stands) by.0 refl

pub returns-in-More-clause-spoken : goal.returns-in-More-clause-spoken
returns-in-More-clause-spoken c =
    let by = ends_for_more _ _ _ _ c.in_ok-used.ensures.ends c.in-More.is in
    record {
      within = c.in_ok-used.ensures.ends.within;
      uses = λ _. by.1;
      closed = (λ is_last. absurd (closes (sym is_last)), λ told. absurd (waits_not (sym by.2 ∙ told)));
    }

pub returns-in-Close-clause-speaks : goal.returns-in-Close-clause-speaks
returns-in-Close-clause-speaks c = λ said says.
    let by = ends_for_close _ _ _ _ c.in_ok-used.ensures.ends c.in-Close.is in
    speaks_quietly c.args.self.now said c.args.piece.now c.listen.new.session _ (c.in_ok-used.ensures.listens said says.stands) by.0 refl

pub returns-in-Close-clause-spoken : goal.returns-in-Close-clause-spoken
returns-in-Close-clause-spoken c =
    let by = ends_for_close _ _ _ _ c.in_ok-used.ensures.ends c.in-Close.is in
    record {
      within = c.in_ok-used.ensures.ends.within;
      uses = λ going. absurd (closes going);
      closed = (λ _. by.1, λ _. refl);
    }

pub returns-in_ok-reply-in-Taken-clause-speaks : goal.returns-in_ok-reply-in-Taken-clause-speaks
returns-in_ok-reply-in-Taken-clause-speaks c = λ said says.
    let setup = setup_for c.args.self.now.config.now c.args.self.now.peer in
    let by = ends_for_taken _ _ _ _ c.in_ok-used.ensures.ends c.in-Taken.taken c.in-Taken.is in
    let l = c.in_ok-used.ensures.listens said says.stands in
    speaks_last c.args.self.now said c.args.piece.now c.listen.new.session c.reply.new.self _ c.in-Taken.taken by.1.0 _ l by.1.1 by.1.2
    (c.in_ok-reply-in-Taken.ensures.answered setup l.later l.stands) c.in_ok-reply-in-Taken.ensures.settled refl

pub returns-in_ok-reply-in-Taken-clause-spoken : goal.returns-in_ok-reply-in-Taken-clause-spoken
returns-in_ok-reply-in-Taken-clause-spoken c =
    let by = ends_for_taken _ _ _ _ c.in_ok-used.ensures.ends c.in-Taken.taken c.in-Taken.is in
    record {
      within = c.in_ok-used.ensures.ends.within;
      uses = (by.0, refl, (by.1.0, by.1.2));
      closed = (λ is_last. absurd (closes (sym is_last)), λ told. absurd (waits_not (sym c.in_ok-reply-in-Taken.ensures.next ∙ told)));
    }
