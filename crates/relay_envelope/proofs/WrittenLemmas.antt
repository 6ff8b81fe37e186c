-- What is written is read again.
use Rattle.std.proofs.Common.{◌≡◌, ℕ, ◌==◌, not, Bool, true, false, ◌||◌, inr, List, [], ◌∷◌, ◌++◌, codes, length, Option, None, Some, Ok, refl, sym, subst, ap, ◌∙◌, arith, append_assoc, append-nil}
use Rattle.std.specs.List.{slice_split}
use Rattle.std.proofs.lemmas.Bool.{cond-true, cond-false, not-true, eqb-true, false_from_ne_true, false≢true}
use Rattle.std.proofs.lemmas.List.Sums.{AllPass-from_list_all}
use Rattle.std.proofs.lemmas.List.Splits.{slice_split_none}
use Rattle.relay_lines.specs.Word.{is_word}
use Rattle.relay_envelope.specs.Path.{Path, BeginsWithPath, is_forward, is_reverse, stands_apart}
use Rattle.relay_envelope.specs.Parameters.{is_orcpt, notify_of, rcpt_parameters_of, with_outcome, with_rcpt_parameter, is_envid, is_octet, mail_parameters_of, with_each, with_mail_parameter, and_then, keyword_of, value_of_word, ret_of}
use Rattle.relay_envelope.specs.Mail.{IsAfterPath, Mail, Rcpt, mail_of, rcpt_of}
use Rattle.relay_envelope.specs.ParameterRow.{SaysMail, SaysRcpt}
use Rattle.relay_envelope.proofs.AfterPathLemmas.{after_mail, after_rcpt}
use Rattle.relay_envelope.specs.Envelope.{IsWrittenPath, envid_text, mail_text, may_be_envid, ret_text, may_be_notify, may_be_orcpt, notify_text, orcpt_text, outcomes_of, rcpt_text, MailIsReadAgain, RcptIsReadAgain}
use Rattle.relay_envelope.specs.declared.parameters.Ret.{Ret}
use Rattle.relay_envelope.specs.declared.parameters.Ret.TheVariants.{Full, Hdrs}
use Rattle.relay_envelope.specs.declared.parameters.Notify.{Notify}
use Rattle.relay_envelope.specs.declared.parameters.Notify.TheVariants.{Never, On}
use Rattle.relay_envelope.specs.declared.envelope.Envelope.{Envelope}
use Rattle.relay_envelope.specs.declared.envelope.Recipient.{Recipient}
use Rattle.relay_envelope.proofs.GraphicLemmas.{graphic, lacks_space, envid_graphic, orcpt_graphic}

-- a text without a space is one part
one_word : (text : List ℕ) → graphic text ≡ true → slice_split (is_octet 32) text ≡ text ∷ []
one_word text all =
    let none = AllPass-from_list_all (λ octet. not (octet == 32)) text (lacks_space text all) in
    slice_split_none (is_octet 32) text (λ k d h. not-true _ (none k d h))

not_empty : (octet : ℕ) (text : List ℕ) → length (octet ∷ text) == 0 ≡ false
not_empty octet text =
    false_from_ne_true (length (octet ∷ text) == 0) (λ h. let zero : length (octet ∷ text) ≡ 0 = eqb-true (length (octet ∷ text)) 0 h in omega arith)

-- ENVID in a word is read
envid_is_read : (envid : List ℕ) (ret : Option Ret) → is_envid envid ≡ true → with_mail_parameter (codes "ENVID=" ++ envid) (record { ret = ret; envid = None }) ≡ Ok (record { ret = ret; envid = Some envid })
unfolding with_mail_parameter keyword_of value_of_word is_word
envid_is_read envid ret valid =
    cond-false (length (codes "ENVID=" ++ envid) == 0) _ _ (not_empty 69 (codes "NVID=" ++ envid)) ∙ cond-true (is_envid envid) _ _ valid

-- ENVID as the last word
envid_last : (envid : List ℕ) (ret : Option Ret) → is_envid envid ≡ true → with_each with_mail_parameter (slice_split (is_octet 32) (codes "ENVID=" ++ envid)) (record { ret = ret; envid = None }) ≡ Ok (record { ret = ret; envid = Some envid })
envid_last envid ret valid =
    ap (λ words. with_each with_mail_parameter words (record { ret = ret; envid = None })) (one_word (codes "ENVID=" ++ envid) (envid_graphic envid valid))
    ∙ ap (λ result. and_then (λ new. Ok new) result) (envid_is_read envid ret valid)

-- RET and ENVID are read again
mail_parameters_again : (ret : Option Ret) (envid : Option (List ℕ)) → may_be_envid envid ≡ true → mail_parameters_of (ret_text ret ++ envid_text envid) ≡ Ok (record { ret = ret; envid = envid })
unfolding mail_parameters_of with_mail_parameter keyword_of value_of_word is_word ret_of
mail_parameters_again None None valid = refl
mail_parameters_again (Some Full) None valid = refl
mail_parameters_again (Some Hdrs) None valid = refl
mail_parameters_again None (Some envid) valid = envid_last envid None valid
mail_parameters_again (Some Full) (Some envid) valid = envid_last envid (Some Full) valid
mail_parameters_again (Some Hdrs) (Some envid) valid = envid_last envid (Some Hdrs) valid

mail_rest_apart : (ret : Option Ret) (envid : Option (List ℕ)) → stands_apart (ret_text ret ++ envid_text envid) ≡ true
mail_rest_apart None None = refl
mail_rest_apart None (Some envid) = refl
mail_rest_apart (Some Full) envid = refl
mail_rest_apart (Some Hdrs) envid = refl

-- a path that may stand there, before a rest that stands apart
written_begins : (is_allowed : Path → Bool) (text front rest : List ℕ) (written : IsWrittenPath is_allowed front) → text ≡ front ++ rest → stands_apart rest ≡ true → BeginsWithPath text written.path rest
written_begins is_allowed text front rest written e apart = record {
  spaces = [];
  are_spaces = λ k d h. absurd (omega arith);
  text_is = e ∙ ap (λ l. l ++ rest) written.text_is;
  valid = written.valid;
  apart = apart;
}

pub mail_is_read_again : MailIsReadAgain
mail_is_read_again envelope valid =
    let path = valid.reverse_path.path in
    let rest = ret_text envelope.ret ++ envid_text envelope.envid in
    let mail : Mail = record { reverse_path = path; parameters = record { ret = envelope.ret; envid = envelope.envid } } in
    let begins = written_begins is_reverse (mail_text envelope) envelope.reverse_path rest valid.reverse_path
    (append_assoc envelope.reverse_path (ret_text envelope.ret) (envid_text envelope.envid)) (mail_rest_apart envelope.ret envelope.envid) in (
      mail,
      inr (subst (IsAfterPath is_reverse SaysMail mail_of (mail_text envelope)) (ap (mail_of path) (mail_parameters_again envelope.ret envelope.envid valid.envid)) (after_mail (mail_text envelope) path rest begins valid.reverse_path.allowed)),
      ap (λ (text : List ℕ). let again : Envelope = record { reverse_path = text; ret = envelope.ret; envid = envelope.envid; recipients = [] } in again) (sym valid.reverse_path.text_is),
    )

-- ORCPT in a word is read
orcpt_is_read : (orcpt : List ℕ) (notify : Option Notify) → is_orcpt orcpt ≡ true → with_rcpt_parameter (codes "ORCPT=" ++ orcpt) (record { notify = notify; orcpt = None }) ≡ Ok (record { notify = notify; orcpt = Some orcpt })
unfolding with_rcpt_parameter keyword_of value_of_word is_word
orcpt_is_read orcpt notify valid =
    cond-false (length (codes "ORCPT=" ++ orcpt) == 0) _ _ (not_empty 79 (codes "RCPT=" ++ orcpt)) ∙ cond-true (is_orcpt orcpt) _ _ valid

-- ORCPT as the last word
orcpt_last : (orcpt : List ℕ) (notify : Option Notify) → is_orcpt orcpt ≡ true → with_each with_rcpt_parameter (slice_split (is_octet 32) (codes "ORCPT=" ++ orcpt)) (record { notify = notify; orcpt = None }) ≡ Ok (record { notify = notify; orcpt = Some orcpt })
orcpt_last orcpt notify valid =
    ap (λ words. with_each with_rcpt_parameter words (record { notify = notify; orcpt = None })) (one_word (codes "ORCPT=" ++ orcpt) (orcpt_graphic orcpt valid))
    ∙ ap (λ result. and_then (λ new. Ok new) result) (orcpt_is_read orcpt notify valid)

-- a list of outcomes alone is read again
outcomes_again : (success failure delay : Bool) → success || failure || delay ≡ true → rcpt_parameters_of (notify_text (Some (On (outcomes_of success failure delay)))) ≡ Ok (record { notify = Some (On (outcomes_of success failure delay)); orcpt = None })
unfolding rcpt_parameters_of with_rcpt_parameter keyword_of value_of_word is_word notify_of with_outcome
outcomes_again true true true valid = refl
outcomes_again true true false valid = refl
outcomes_again true false true valid = refl
outcomes_again true false false valid = refl
outcomes_again false true true valid = refl
outcomes_again false true false valid = refl
outcomes_again false false true valid = refl
outcomes_again false false false valid = absurd (false≢true valid)

-- a list of outcomes and ORCPT are read again
both_again : (success failure delay : Bool) (orcpt : List ℕ) → success || failure || delay ≡ true → is_orcpt orcpt ≡ true → rcpt_parameters_of (notify_text (Some (On (outcomes_of success failure delay))) ++ orcpt_text (Some orcpt)) ≡ Ok (record { notify = Some (On (outcomes_of success failure delay)); orcpt = Some orcpt })
unfolding rcpt_parameters_of with_rcpt_parameter keyword_of value_of_word is_word notify_of with_outcome
both_again true true true orcpt valid well = orcpt_last orcpt (Some (On (outcomes_of true true true))) well
both_again true true false orcpt valid well = orcpt_last orcpt (Some (On (outcomes_of true true false))) well
both_again true false true orcpt valid well = orcpt_last orcpt (Some (On (outcomes_of true false true))) well
both_again true false false orcpt valid well = orcpt_last orcpt (Some (On (outcomes_of true false false))) well
both_again false true true orcpt valid well = orcpt_last orcpt (Some (On (outcomes_of false true true))) well
both_again false true false orcpt valid well = orcpt_last orcpt (Some (On (outcomes_of false true false))) well
both_again false false true orcpt valid well = orcpt_last orcpt (Some (On (outcomes_of false false true))) well
both_again false false false orcpt valid well = absurd (false≢true valid)

-- NOTIFY and ORCPT are read again
rcpt_parameters_again : (notify : Option Notify) (orcpt : Option (List ℕ)) → may_be_notify notify ≡ true → may_be_orcpt orcpt ≡ true → rcpt_parameters_of (notify_text notify ++ orcpt_text orcpt) ≡ Ok (record { notify = notify; orcpt = orcpt })
unfolding rcpt_parameters_of with_rcpt_parameter keyword_of value_of_word is_word notify_of
rcpt_parameters_again None None valid well = refl
rcpt_parameters_again None (Some orcpt) valid well = orcpt_last orcpt None well
rcpt_parameters_again (Some Never) None valid well = refl
rcpt_parameters_again (Some Never) (Some orcpt) valid well = orcpt_last orcpt (Some Never) well
rcpt_parameters_again (Some (On outcomes)) None valid well =
    ap rcpt_parameters_of (append-nil (notify_text (Some (On outcomes)))) ∙ outcomes_again outcomes.success outcomes.failure outcomes.delay valid
rcpt_parameters_again (Some (On outcomes)) (Some orcpt) valid well =
    both_again outcomes.success outcomes.failure outcomes.delay orcpt valid well

rcpt_rest_apart : (notify : Option Notify) (orcpt : Option (List ℕ)) → stands_apart (notify_text notify ++ orcpt_text orcpt) ≡ true
rcpt_rest_apart None None = refl
rcpt_rest_apart None (Some orcpt) = refl
rcpt_rest_apart (Some notify) orcpt = refl

pub rcpt_is_read_again : RcptIsReadAgain
rcpt_is_read_again recipient valid =
    let path = valid.path.path in
    let rest = notify_text recipient.notify ++ orcpt_text recipient.orcpt in
    let rcpt : Rcpt = record { path = path; parameters = record { notify = recipient.notify; orcpt = recipient.orcpt } } in
    let begins = written_begins is_forward (rcpt_text recipient) recipient.path rest valid.path
    (append_assoc recipient.path (notify_text recipient.notify) (orcpt_text recipient.orcpt)) (rcpt_rest_apart recipient.notify recipient.orcpt) in (
      rcpt,
      inr (subst (IsAfterPath is_forward SaysRcpt rcpt_of (rcpt_text recipient)) (ap (rcpt_of path) (rcpt_parameters_again recipient.notify recipient.orcpt valid.notify valid.orcpt)) (after_rcpt (rcpt_text recipient) path rest begins valid.path.allowed)),
      ap (λ (text : List ℕ). let again : Recipient = record { path = text; notify = recipient.notify; orcpt = recipient.orcpt } in again) (sym valid.path.text_is),
    )
