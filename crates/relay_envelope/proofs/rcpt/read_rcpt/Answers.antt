-- Where no path begins the text, or it begins with one that may not stand there, which is its only one, none that may does.
use Rattle.std.proofs.Common.{inl, inr, refl, sym, subst, ◌∙◌}
use Rattle.relay_envelope.specs.Path.{is_forward, value_of}
use Rattle.relay_envelope.specs.Mail.{IsAfterPath, rcpt_of}
use Rattle.relay_envelope.specs.ParameterRow.{SaysRcpt}
use Rattle.relay_envelope.proofs.AfterPathLemmas.{after_rcpt}
use Rattle.relay_envelope.proofs.MailLemmas.{none_allowed}
use Rattle.relay_envelope.proofs.rcpt.read_rcpt.Goals as goal

pub returns-in_default : goal.returns-in_default
returns-in_default c =
    inl (record { none_allowed = λ path rest begins. absurd (c.in_default.ensures path rest begins); result_is = refl })

pub returns-then-not-is_forward : goal.returns-then-not-is_forward
returns-then-not-is_forward c =
    let refused = sym c.is_forward.ensures ∙ c.if-not-is_forward.true in
    inl (record { none_allowed = none_allowed is_forward c.args.text.now (value_of c.in-Some.path) c.in-Some.rest.now c.in-Some.ensures refused; result_is = refl })

pub returns : goal.returns
returns c =
    let allowed = sym c.is_forward.ensures ∙ c.if-not-is_forward.false in
    let after = after_rcpt c.args.text.now (value_of c.in-Some.path) c.in-Some.rest.now c.in-Some.ensures allowed in
    inr (subst (IsAfterPath is_forward SaysRcpt rcpt_of c.args.text.now) (sym c.after_path.ensures) after)
