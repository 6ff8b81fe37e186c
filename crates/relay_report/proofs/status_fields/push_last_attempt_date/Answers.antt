-- by each verdict that is of an attempt
use Rattle.std.proofs.Common.{◌≡◌, ◌++◌, OnOk, sym, subst}
use Rattle.relay_book.specs.declared.change.Verdict.{Verdict}
use Rattle.relay_report.specs.StatusFields.{last_attempt_date}
use Rattle.relay_report.proofs.status_fields.push_last_attempt_date.Goals as goal

pub returns-in-Taken : goal.returns-in-Taken
returns-in-Taken c =
    subst (λ (v : Verdict). OnOk c.push_field.result (c.push_field.new.out.items ≡ c.args.out.now.items ++ last_attempt_date c.args.date.now v))
    (sym c.in-Taken.is) c.push_field.ensures

pub returns-in-Refused : goal.returns-in-Refused
returns-in-Refused c =
    subst (λ (v : Verdict). OnOk c.push_field-in-Refused.result (c.push_field-in-Refused.new.out.items ≡ c.args.out.now.items ++ last_attempt_date c.args.date.now v))
    (sym c.in-Refused.is) c.push_field-in-Refused.ensures

pub returns-in-Later : goal.returns-in-Later
returns-in-Later c =
    subst (λ (v : Verdict). OnOk c.push_field-in-Later.result (c.push_field-in-Later.new.out.items ≡ c.args.out.now.items ++ last_attempt_date c.args.date.now v))
    (sym c.in-Later.is) c.push_field-in-Later.ensures

pub returns-in-CantSend : goal.returns-in-CantSend
returns-in-CantSend c =
    subst (λ (v : Verdict). OnOk c.push_field-in-CantSend.result (c.push_field-in-CantSend.new.out.items ≡ c.args.out.now.items ++ last_attempt_date c.args.date.now v))
    (sym c.in-CantSend.is) c.push_field-in-CantSend.ensures
