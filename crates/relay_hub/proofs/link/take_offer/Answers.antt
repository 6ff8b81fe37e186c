-- The open offer and the hub's answer to it.
use Rattle.std.proofs.Common.{◌≡◌, [], ◌∷◌, rules}
use Rattle.relay_server.specs.Session.{offered, open_offers}
use Rattle.relay_server.specs.Setup.{setup_for}
use Rattle.relay_server.proofs.Theorems.{open_may_be_stored}
use Rattle.relay_hub.proofs.LinkLemmas.{answered, refused_same, untold}
use Rattle.relay_hub.proofs.link.take_offer.Goals as goal

pub ask-requires : goal.ask-requires
ask-requires g c =
    let is_open : open_offers c.args.session.now ≡ offered c.in-Some.offer ∷ [] = search rules in
    let history = c.requires.stands in
    (c.args.terms.now.config.now, c.args.terms.now.peer, open_may_be_stored (setup_for c.args.terms.now.config.now c.args.terms.now.peer) c.args.session.now history.0 (offered c.in-Some.offer) history.1 is_open)

pub returns-in-Err-clause-takes : goal.returns-in-Err-clause-takes
returns-in-Err-clause-takes g c = λ start left held waiting h.
    let is_open : open_offers c.args.session.now ≡ offered c.in-Some.offer ∷ [] = search rules in
    refused_same g.J.Opening.has_answered c.args.terms.now.config.now c.args.terms.now.peer c.args.terms.now.at start c.args.session.now left held waiting c.args.out.now.items c.args.pass.now c.ask.new.pass (offered c.in-Some.offer) c.in-Err.fault is_open h c.in-Err.ensures.notes c.in-Err.ensures.refused

pub returns-in-Ok-reply-clause-takes : goal.returns-in-Ok-reply-clause-takes
returns-in-Ok-reply-clause-takes g c = λ start left held waiting h.
    let is_open : open_offers c.args.session.now ≡ offered c.in-Some.offer ∷ [] = search rules in
    answered g.J.Opening.has_answered c.args.terms.now.config.now c.args.terms.now.peer c.args.terms.now.at start c.args.session.now c.reply.new.self left held waiting c.args.out.now.items c.reply.new.out.items c.args.pass.now c.ask.new.pass (offered c.in-Some.offer) c.in-Ok.answer is_open h
    (λ said stands. c.in-Ok-reply.ensures.answered (setup_for c.args.terms.now.config.now c.args.terms.now.peer) said stands) c.in-Ok.ensures.notes c.in-Ok.ensures.answered

pub returns-in-Ok-reply-clause-history : goal.returns-in-Ok-reply-clause-history
returns-in-Ok-reply-clause-history g c =
    let history = c.requires.stands in
    let a = c.in-Ok-reply.ensures.answered (setup_for c.args.terms.now.config.now c.args.terms.now.peer) history.0 history.1 in
    (a.later, record { stands = a.stands; settled = c.in-Ok-reply.ensures.settled })

pub returns-in-Err-reply-clause-takes : goal.returns-in-Err-reply-clause-takes
returns-in-Err-reply-clause-takes g c = λ start left held waiting h.
    let is_open : open_offers c.args.session.now ≡ offered c.in-Some.offer ∷ [] = search rules in
    untold g.J.Opening.has_answered c.args.terms.now.config.now c.args.terms.now.peer c.args.terms.now.at start c.args.session.now left held waiting c.args.out.now.items c.args.pass.now c.ask.new.pass (offered c.in-Some.offer) c.in-Ok.answer is_open h c.in-Ok.ensures.notes c.in-Ok.ensures.answered
