use Rattle.std.proofs.Common.{refl}
use Rattle.std.proofs.lemmas.Result.{IfOk-weaker}
use Rattle.relay_course.specs.Progress.{Progress, after_hello}
use Rattle.relay_course.specs.Extensions.{extensions_of}
use Rattle.relay_client.proofs.DoesLemmas.{does_from}
use Rattle.relay_client.proofs.conversation.Conversation.take_offer.Goals as goal

pub returns : goal.returns
returns c = IfOk-weaker c.after_hello.result _ _
    (λ ended does delivery old h is.
    let offered : Progress = record old { extensions = extensions_of c.args.reply.now } in
    does_from delivery offered old (after_hello delivery offered) c.after_hello.new.self ended
    c.args.out.now.items c.after_hello.new.out.items refl
    (does delivery offered (record {
      host_is = h.host_is;
      places_are = h.places_are;
      waits_are = h.waits_are;
      unasked_are = h.unasked_are;
      extensions_are = c.extensions_of-self.ensures;
      settled_is = h.settled_is;
      running = h.running;
    }) is)) c.after_hello.ensures
