-- Lines that are written of what may be stored are within the limit of a command line.
use Rattle.std.proofs.Common.{◌≡◌, ℕ, ◌+◌, ◌≤◌, nat_le, Bool, true, false, List, [], ◌∷◌, ◌++◌, codes, length, Option, None, Some, sym, ap, ◌∙◌, arith, length-append}
use Rattle.std.specs.Int.{is_in_range}
use Rattle.std.specs.Char.{to_ascii_lowercase}
use Rattle.std.proofs.lemmas.List.{length-map}
use Rattle.std.proofs.lemmas.Bool.{and_parts, leb-true}
use Rattle.std.proofs.lemmas.Bool.Decides.{nat_tests}
use Rattle.relay_envelope.specs.Path.{Path, IsPath, path_text}
use Rattle.relay_envelope.specs.Path.Path.{Null, Postmaster, Mailbox}
use Rattle.relay_envelope.specs.Parameters.{is_envid, is_orcpt, is_readable_xtext}
use Rattle.relay_envelope.specs.Envelope.{IsEnvelope, IsRecipient, IsWrittenPath, envid_text, mail_text, may_be_envid, may_be_orcpt, notify_text, orcpt_text, outcomes_of, rcpt_text, ret_text}
use Rattle.relay_envelope.specs.declared.envelope.Envelope.{Envelope}
use Rattle.relay_envelope.specs.declared.envelope.Recipient.{Recipient}
use Rattle.relay_envelope.specs.declared.parameters.Ret.{Ret}
use Rattle.relay_envelope.specs.declared.parameters.Ret.TheVariants.{Full, Hdrs}
use Rattle.relay_envelope.specs.declared.parameters.Notify.{Notify}
use Rattle.relay_envelope.specs.declared.parameters.Notify.TheVariants.{Never, On}

path_fits : (path : Path) → IsPath path → length (path_text path) ≤ 256
path_fits Null valid = omega arith
path_fits (Postmaster word) valid =
    let same = sym (length-map word to_ascii_lowercase) ∙ ap length valid in
    omega (arith, same, length-append word (62 ∷ []))
path_fits (Mailbox route local domain) valid = valid.1

pub written_fits : (is_allowed : Path → Bool) (text : List ℕ) → IsWrittenPath is_allowed text → length text ≤ 256
written_fits is_allowed text written =
    let fits = path_fits written.path written.valid in
    omega (arith, fits, ap length written.text_is)

ret_fits : (ret : Option Ret) → length (ret_text ret) ≤ 9
ret_fits None = omega arith
ret_fits (Some Full) = omega arith
ret_fits (Some Hdrs) = omega arith

in_range_high : (n : ℕ) → is_in_range 1 100 n ≡ true → n ≤ 100
in_range_high n test = grind (arith, nat_tests)

envid_fits : (envid : Option (List ℕ)) → may_be_envid envid ≡ true → length (envid_text envid) ≤ 107
unfolding is_envid
envid_fits None valid = omega arith
envid_fits (Some envid) valid =
    let short = in_range_high (length envid) (and_parts (is_in_range 1 100 (length envid)) (is_readable_xtext envid) valid).0 in
    omega (arith, short, length-append (codes " ENVID=") envid)

outcomes_fit : (success failure delay : Bool) → length (notify_text (Some (On (outcomes_of success failure delay)))) ≤ 29
outcomes_fit true true true = omega arith
outcomes_fit true true false = omega arith
outcomes_fit true false true = omega arith
outcomes_fit true false false = omega arith
outcomes_fit false true true = omega arith
outcomes_fit false true false = omega arith
outcomes_fit false false true = omega arith
outcomes_fit false false false = omega arith

notify_fits : (notify : Option Notify) → length (notify_text notify) ≤ 29
notify_fits None = omega arith
notify_fits (Some Never) = omega arith
notify_fits (Some (On outcomes)) = outcomes_fit outcomes.success outcomes.failure outcomes.delay

orcpt_fits : (orcpt : Option (List ℕ)) → may_be_orcpt orcpt ≡ true → length (orcpt_text orcpt) ≤ 507
unfolding is_orcpt
orcpt_fits None valid = omega arith
orcpt_fits (Some orcpt) valid =
    let short = leb-true (length orcpt) 500 (and_parts (nat_le (length orcpt) 500) _ (and_parts _ _ valid).0).0 in
    omega (arith, short, length-append (codes " ORCPT=") orcpt)

pub mail_fits : (envelope : Envelope) → IsEnvelope envelope → length (codes "MAIL FROM:" ++ mail_text envelope) + 2 ≤ 2048
mail_fits envelope valid =
    let path = written_fits _ envelope.reverse_path valid.reverse_path in
    let ret = ret_fits envelope.ret in
    let envid = envid_fits envelope.envid valid.envid in
    omega (arith, path, ret, envid, length-append (envelope.reverse_path ++ ret_text envelope.ret) (envid_text envelope.envid), length-append envelope.reverse_path (ret_text envelope.ret), length-append (codes "MAIL FROM:") (mail_text envelope))

pub rcpt_fits : (recipient : Recipient) → IsRecipient recipient → length (codes "RCPT TO:" ++ rcpt_text recipient) + 2 ≤ 2048
rcpt_fits recipient valid =
    let path = written_fits _ recipient.path valid.path in
    let notify = notify_fits recipient.notify in
    let orcpt = orcpt_fits recipient.orcpt valid.orcpt in
    omega (arith, path, notify, orcpt, length-append (recipient.path ++ notify_text recipient.notify) (orcpt_text recipient.orcpt), length-append recipient.path (notify_text recipient.notify), length-append (codes "RCPT TO:") (rcpt_text recipient))
