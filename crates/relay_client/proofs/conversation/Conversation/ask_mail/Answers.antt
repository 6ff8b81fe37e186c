use Rattle.std.proofs.lemmas.Result.{on_ok_weaker}
use Rattle.relay_client.proofs.DoesLemmas.{does_group}
use Rattle.relay_client.proofs.conversation.Conversation.ask_mail.Goals as goal

pub returns-then-self : goal.returns-then-self
returns-then-self c = on_ok_weaker c.ask_rcpts.result
    (λ asks delivery old h is.
    does_group delivery old c.ask_mail_alone.new.self c.ask_rcpts.new.self c.args.out.now.items
    c.ask_mail_alone.new.out.items c.ask_rcpts.new.out.items c.if-self.true
    (c.in_ok-ask_mail_alone.ensures delivery old h is) (λ m hm. asks delivery m hm is)) c.ask_rcpts.ensures
