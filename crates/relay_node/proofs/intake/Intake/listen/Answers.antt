-- Each round reads on after the octets before; an offer without room is refused.
use Rattle.std.proofs.Common.{◌≡◌, ◌<◌, ◌^◌, Option, rules, subst, sym}
use Rattle.relay_server.specs.declared.session.Next.TheVariants as next
use Rattle.relay_server.specs.Session.{next_of}
use Rattle.relay_server.specs.Setup.{setup_for}
use Rattle.relay_server.proofs.Theorems.{open_may_be_stored}
use Rattle.relay_node.specs.declared.intake.Taken.{Taken}
use Rattle.relay_node.specs.Listening.{Considers}
use Rattle.relay_node.proofs.ListenLemmas.{comes_to_offer, listened_and_refused, listened_on, listened_to_nothing}
use Rattle.relay_node.proofs.intake.Intake.listen.Goals as goal

pub rounds-init : goal.rounds-init
rounds-init c = record {
  within = search rules;
  settled = c.requires.settled;
  so_far = λ said stands. listened_to_nothing c.args.self.now said c.args.session.now c.new-out.result.items (search rules) c.requires.settled stands;
}

pub returns-in-More-clause-listens : goal.returns-in-More-clause-listens
returns-in-More-clause-listens c = λ said stands.
    let setup = setup_for c.args.self.now.config.now c.args.self.now.peer in
    let heard = c.in_ok-hear.ensures in
    listened_on c.args.self.now said c.rounds.session c.hear.new.self c.args.piece.now c.rounds.used c.hear.new.used _ _ (c.rounds.invariant.so_far said stands) c.rounds.invariant.settled heard.used.no_less
    (λ later stood. heard.hears setup later (sym c.accepted_table-table.ensures) stood)

pub returns-in-Close-clause-listens : goal.returns-in-Close-clause-listens
returns-in-Close-clause-listens c = λ said stands.
    let setup = setup_for c.args.self.now.config.now c.args.self.now.peer in
    let heard = c.in_ok-hear.ensures in
    listened_on c.args.self.now said c.rounds.session c.hear.new.self c.args.piece.now c.rounds.used c.hear.new.used _ _ (c.rounds.invariant.so_far said stands) c.rounds.invariant.settled heard.used.no_less
    (λ later stood. heard.hears setup later (sym c.accepted_table-table.ensures) stood)

pub returns-in-Some-clause-listens : goal.returns-in-Some-clause-listens
returns-in-Some-clause-listens c = λ said stands.
    let setup = setup_for c.args.self.now.config.now c.args.self.now.peer in
    let heard = c.in_ok-hear.ensures in
    listened_on c.args.self.now said c.rounds.session c.hear.new.self c.args.piece.now c.rounds.used c.hear.new.used _ _ (c.rounds.invariant.so_far said stands) c.rounds.invariant.settled heard.used.no_less
    (λ later stood. heard.hears setup later (sym c.accepted_table-table.ensures) stood)

pub consider-requires-clause-stored : goal.consider-requires-clause-stored
consider-requires-clause-stored c = λ offer is_open.
    let setup = setup_for c.args.self.now.config.now c.args.self.now.peer in
    let heard = c.in_ok-hear.ensures in
    let history = c.requires.history in
    let l =
    listened_on c.args.self.now history.0 c.rounds.session c.hear.new.self c.args.piece.now c.rounds.used c.hear.new.used _ _ (c.rounds.invariant.so_far history.0 history.1) c.rounds.invariant.settled heard.used.no_less
    (λ later stood. heard.hears setup later (sym c.accepted_table-table.ensures) stood) in
    open_may_be_stored setup c.hear.new.self l.later offer l.stands is_open

pub returns-in_err-taken-in-Offer-clause-comes : goal.returns-in_err-taken-in-Offer-clause-comes
returns-in_err-taken-in-Offer-clause-comes c = λ is said stands.
    let setup = setup_for c.args.self.now.config.now c.args.self.now.peer in
    let heard = c.in_ok-hear.ensures in
    let told : next_of c.hear.new.self ≡ next.Offer = search rules in
    let many : 2 ^ 62 < c.args.self.now.number = search rules in
    let l =
    listened_on c.args.self.now said c.rounds.session c.hear.new.self c.args.piece.now c.rounds.used c.hear.new.used _ _ (c.rounds.invariant.so_far said stands) c.rounds.invariant.settled heard.used.no_less
    (λ later stood. heard.hears setup later (sym c.accepted_table-table.ensures) stood) in
    comes_to_offer c.args.self.now said c.hear.new.self c.args.piece.now c.hear.new.used _ l told heard.used.within many

pub rounds-preserved : goal.rounds-preserved
rounds-preserved c =
    let setup = setup_for c.args.self.now.config.now c.args.self.now.peer in
    let heard = c.in_ok-hear.ensures in
    let found = subst (λ (taken : Option Taken). Considers c.args.self.now c.hear.new.self taken) c.in-None.is c.in_ok-taken-in-Offer.ensures.considers in
    record {
      within = heard.used.within;
      settled = c.in_ok-reply-in-None.ensures.settled;
      so_far = λ said stands.
          let l =
          listened_on c.args.self.now said c.rounds.session c.hear.new.self c.args.piece.now c.rounds.used c.hear.new.used _ _ (c.rounds.invariant.so_far said stands) c.rounds.invariant.settled heard.used.no_less
          (λ later stood. heard.hears setup later (sym c.accepted_table-table.ensures) stood) in
          listened_and_refused c.args.self.now said c.hear.new.self c.reply.new.self _ _ _ found.0 l found.1 found.2 c.in_ok-reply-in-None.ensures.settled
          (λ later stood. c.in_ok-reply-in-None.ensures.answered setup later stood);
    }
