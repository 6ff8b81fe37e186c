-- What is heard of octets that wait, and where they come to an offer.
use Rattle.std.proofs.Common.{◌≡◌, ◌∙◌, drop, refl, sym, inl}
use Rattle.relay_server.specs.declared.session.Next.TheVariants as next
use Rattle.relay_server.specs.Session.{next_of}
use Rattle.relay_server.specs.Setup.{setup_for}
use Rattle.relay_server.proofs.Theorems.{close_is_closed, none_else_is_open}
use Rattle.relay_hub.proofs.LinkLemmas.{breaks_off, close_is_no_offer, heard, more_is_no_offer}
use Rattle.relay_hub.proofs.link.hear.Goals as goal

pub take_offer-requires-clause-stands : goal.take_offer-requires-clause-stands
take_offer-requires-clause-stands g c =
    let history = c.requires.history in
    let h = c.in-Ok-Offer.ensures.hears (setup_for c.args.terms.now.config.now c.args.terms.now.peer) history.0 (sym c.accepted_table-table.ensures) history.1.stands in
    (h.later, h.stands)

pub returns-in-Ok-More-clause-hears : goal.returns-in-Ok-More-clause-hears
returns-in-Ok-More-clause-hears g c = λ start left held h.
    heard g.J.Opening.has_answered c.args.terms.now.config.now c.args.terms.now.peer c.args.terms.now.at start c.args.session.now c.hear.new.self left held c.args.octets.now c.args.used.now c.hear.new.used c.args.out.now.items c.hear.new.out.items c.args.pass.now c.in-Ok-More.ensures.used.no_less h
    (λ said stands. c.in-Ok-More.ensures.hears (setup_for c.args.terms.now.config.now c.args.terms.now.peer) said (sym c.accepted_table-table.ensures) stands)

pub returns-in-Ok-More-clause-history : goal.returns-in-Ok-More-clause-history
returns-in-Ok-More-clause-history g c =
    let history = c.requires.history in
    let h = c.in-Ok-More.ensures.hears (setup_for c.args.terms.now.config.now c.args.terms.now.peer) history.0 (sym c.accepted_table-table.ensures) history.1.stands in
    let told : next_of c.hear.new.self ≡ next.More = sym c.in-Ok-More.ensures.next ∙ c.in-Ok-More.field-0-is in
    ((h.later, record { stands = h.stands; settled = none_else_is_open c.hear.new.self (λ e. more_is_no_offer (sym told ∙ e)) }), λ e. absurd cc)

pub returns-in-Ok-Close-clause-hears : goal.returns-in-Ok-Close-clause-hears
returns-in-Ok-Close-clause-hears g c = λ start left held h.
    heard g.J.Opening.has_answered c.args.terms.now.config.now c.args.terms.now.peer c.args.terms.now.at start c.args.session.now c.hear.new.self left held c.args.octets.now c.args.used.now c.hear.new.used c.args.out.now.items c.hear.new.out.items c.args.pass.now c.in-Ok-Close.ensures.used.no_less h
    (λ said stands. c.in-Ok-Close.ensures.hears (setup_for c.args.terms.now.config.now c.args.terms.now.peer) said (sym c.accepted_table-table.ensures) stands)

pub returns-in-Ok-Close-clause-history : goal.returns-in-Ok-Close-clause-history
returns-in-Ok-Close-clause-history g c =
    let history = c.requires.history in
    let h = c.in-Ok-Close.ensures.hears (setup_for c.args.terms.now.config.now c.args.terms.now.peer) history.0 (sym c.accepted_table-table.ensures) history.1.stands in
    let told : next_of c.hear.new.self ≡ next.Close = sym c.in-Ok-Close.ensures.next ∙ c.in-Ok-Close.field-0-is in (
      (h.later, record { stands = h.stands; settled = none_else_is_open c.hear.new.self (λ e. close_is_no_offer (sym told ∙ e)) }),
      λ _. close_is_closed (setup_for c.args.terms.now.config.now c.args.terms.now.peer) c.hear.new.self h.later h.stands told,
    )

pub returns-in-Ok-clause-hears : goal.returns-in-Ok-clause-hears
returns-in-Ok-clause-hears g c = λ start left held h.
    c.in-Ok.ensures.takes start left held (drop c.hear.new.used c.args.octets.now)
    (heard g.J.Opening.has_answered c.args.terms.now.config.now c.args.terms.now.peer c.args.terms.now.at start c.args.session.now c.hear.new.self left held c.args.octets.now c.args.used.now c.hear.new.used c.args.out.now.items c.hear.new.out.items c.args.pass.now c.in-Ok-Offer.ensures.used.no_less h
    (λ said stands. c.in-Ok-Offer.ensures.hears (setup_for c.args.terms.now.config.now c.args.terms.now.peer) said (sym c.accepted_table-table.ensures) stands))

pub returns-in-Err-take_offer-clause-hears : goal.returns-in-Err-take_offer-clause-hears
returns-in-Err-take_offer-clause-hears g c = λ start left held h.
    c.in-Err-take_offer.ensures.takes start left held (drop c.hear.new.used c.args.octets.now)
    (heard g.J.Opening.has_answered c.args.terms.now.config.now c.args.terms.now.peer c.args.terms.now.at start c.args.session.now c.hear.new.self left held c.args.octets.now c.args.used.now c.hear.new.used c.args.out.now.items c.hear.new.out.items c.args.pass.now c.in-Ok-Offer.ensures.used.no_less h
    (λ said stands. c.in-Ok-Offer.ensures.hears (setup_for c.args.terms.now.config.now c.args.terms.now.peer) said (sym c.accepted_table-table.ensures) stands))

pub returns-in-Err-clause-hears : goal.returns-in-Err-clause-hears
returns-in-Err-clause-hears g c = λ start left held h. breaks_off g.J.Opening.has_answered c.args.terms.now.config.now c.args.terms.now.peer c.args.terms.now.at start c.args.session.now left held _ c.args.out.now.items c.args.pass.now _ h (inl refl)
