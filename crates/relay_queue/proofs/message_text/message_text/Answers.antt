-- the fields, the recipients, an empty line and the text follow one another
use Rattle.std.proofs.Common.{◌≡◌, ℕ, List, ◌++◌, codes, ap, subst, ◌∙◌}
use Rattle.relay_queue.specs.Message.{envelope_lines, recipients_text}
use Rattle.relay_queue.specs.Screen.{IsShownText}
use Rattle.relay_queue.proofs.message_text.message_text.Goals as goal

pub returns : goal.returns
returns c =
    let envelope = c.in_ok-push_envelope.ensures in
    let recipients = c.in_ok-push_recipients.ensures in
    let body = c.in_ok-push_text.ensures in
    let fields : List ℕ = envelope_lines c.args.now envelope.0 c.args.message.now in
    let lines : List ℕ = recipients_text c.args.table.now c.args.message.now.places recipients.0 in
    let begun : c.push_envelope.new.screen ≡ fields = envelope.1 ∙ ap (λ (l : List ℕ). l ++ fields) c.new-screen.ensures in
    record {
      time = envelope.0;
      rows = recipients.0;
      rows_are = recipients.1;
      body = body.0;
      body_is = subst (λ text. IsShownText text body.0) c.as_slice-text.ensures body.2;
      text_is =
          body.1
          ∙ ap (λ (l : List ℕ). l ++ body.0)
          (c.in_ok-end_line.ensures ∙ ap (λ (l : List ℕ). l ++ codes "\n") (recipients.2 ∙ ap (λ (l : List ℕ). l ++ lines) begun));
    }
