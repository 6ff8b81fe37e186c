use Rattle.std.proofs.Common.{refl, ap, ◌∙◌}
use Rattle.relay_envelope.specs.declared.envelope.Envelope.{Envelope}
use Rattle.relay_client.proofs.DoesLemmas.{does_place}
use Rattle.relay_client.proofs.conversation.Conversation.ask_rcpt.Goals as goal

pub returns-clause-does : goal.returns-clause-does
returns-clause-does c = λ delivery old more h is e.
    does_place delivery old c.args.self.now _ c.as_slice-recipients.result.now c.args.place more c.args.out.now.items
    c.write_rcpt_at.new.out.items h
    (c.as_slice-recipients.ensures ∙ ap (λ (v : Envelope). v.recipients) is.envelope_is)
    c.in_ok-write_rcpt_at.ensures refl refl c.in_ok-push.ensures refl refl refl e
