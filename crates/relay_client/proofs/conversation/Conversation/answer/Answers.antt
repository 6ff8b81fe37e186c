use Rattle.std.proofs.lemmas.Result.{IfOk-weaker}
use Rattle.relay_client.proofs.DoesLemmas.{does_answer}
use Rattle.relay_client.proofs.conversation.Conversation.answer.Goals as goal

pub returns : goal.returns
returns c =
    let s = c.in_ok-settle.ensures in
    IfOk-weaker c.after_answer.result _ _
    (λ ended does delivery old h is.
    does_answer delivery old c.args.self.now c.settle.new.self c.after_answer.new.self c.in-Some.waited
    c.take_first.new.self c.args.reply ended c.args.out.now.items c.after_answer.new.out.items
    h c.in-Some.ensures
    (record {
      host_stays = s.host_stays;
      places_stay = s.places_stay;
      waits_are = s.waits_are;
      asked_stays = s.asked_stays;
      extensions_stay = s.extensions_stay;
      settles = s.settles;
    }) (λ m hm. does delivery m hm is)) c.after_answer.ensures
