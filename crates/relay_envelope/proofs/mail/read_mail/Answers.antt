-- Where no path begins the text, or it begins with one that may not stand there, which is its only one, none that may does.
use Rattle.std.proofs.Common.{inl, inr, refl, sym, subst, ◌∙◌}
use Rattle.relay_envelope.specs.Path.{is_reverse, value_of}
use Rattle.relay_envelope.specs.Mail.{IsAfterPath, mail_of}
use Rattle.relay_envelope.specs.ParameterRow.{SaysMail}
use Rattle.relay_envelope.proofs.AfterPathLemmas.{after_mail}
use Rattle.relay_envelope.proofs.MailLemmas.{none_allowed}
use Rattle.relay_envelope.proofs.mail.read_mail.Goals as goal

pub returns-in_default : goal.returns-in_default
returns-in_default c =
    inl (record { none_allowed = λ path rest begins. absurd (c.in_default.ensures path rest begins); result_is = refl })

pub returns-then-not-is_reverse : goal.returns-then-not-is_reverse
returns-then-not-is_reverse c =
    let refused = sym c.is_reverse.ensures ∙ c.if-not-is_reverse.true in
    inl (record { none_allowed = none_allowed is_reverse c.args.text.now (value_of c.in-Some.path) c.in-Some.rest.now c.in-Some.ensures refused; result_is = refl })

pub returns : goal.returns
returns c =
    let allowed = sym c.is_reverse.ensures ∙ c.if-not-is_reverse.false in
    let after = after_mail c.args.text.now (value_of c.in-Some.path) c.in-Some.rest.now c.in-Some.ensures allowed in
    inr (subst (IsAfterPath is_reverse SaysMail mail_of c.args.text.now) (sym c.after_path.ensures) after)
