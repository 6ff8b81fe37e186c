-- Envelopes (RFC 5321, section 2.3.1; RFC 3461, section 4), and how MAIL and RCPT are written.
use Rattle.std.specs.Prelude.{◌≡◌, ◌≢◌, ℕ, ◌≤◌, Bool, true, ◌||◌, List, [], ◌∷◌, ◌++◌, codes, length, Option, Some}
use Rattle.std.specs.Prelude.{None, Ok, if◌then◌else◌}
use Rattle.std.specs.List.{AllByRecursion, join_with_byte}
use Rattle.relay_lines.specs.Command.{Mail as MailCommand, Rcpt as RcptCommand}
use Rattle.relay_lines.specs.WrittenCommand.{IsCommandLine}
use Rattle.relay_envelope.specs.Path.{Path, IsPath, is_forward, is_reverse, path_text}
use Rattle.relay_envelope.specs.Parameters.{is_envid, is_orcpt}
use Rattle.relay_envelope.specs.Mail.{Mail, Rcpt, ReadsMail, ReadsRcpt}
use Rattle.relay_envelope.specs.declared.parameters.Ret.{Ret}
use Rattle.relay_envelope.specs.declared.parameters.Ret.TheVariants.{Full, Hdrs}
use Rattle.relay_envelope.specs.declared.parameters.Outcomes.{Outcomes}
use Rattle.relay_envelope.specs.declared.parameters.Notify.{Notify}
use Rattle.relay_envelope.specs.declared.parameters.Notify.TheVariants.{Never, On}
use Rattle.relay_envelope.specs.declared.envelope.Envelope.{Envelope}
use Rattle.relay_envelope.specs.declared.envelope.Recipient.{Recipient}

-- a mail transaction begins with what MAIL said
abbrev pub envelope_from : Mail → Envelope
envelope_from mail = record {
  reverse_path = path_text mail.reverse_path;
  ret = mail.parameters.ret;
  envid = mail.parameters.envid;
  recipients = [];
}

-- a recipient is what RCPT said
abbrev pub recipient_from : Rcpt → Recipient
recipient_from rcpt = record {
  path = path_text rcpt.path;
  notify = rcpt.parameters.notify;
  orcpt = rcpt.parameters.orcpt;
}

-- SP "RET=" and its value, if it was given
abbrev pub ret_text : Option Ret → List ℕ
ret_text None = []
ret_text (Some Full) = codes " RET=FULL"
ret_text (Some Hdrs) = codes " RET=HDRS"

-- SP "ENVID=" and its value as it was written
abbrev pub envid_text : Option (List ℕ) → List ℕ
envid_text None = []
envid_text (Some envid) = codes " ENVID=" ++ envid

-- the words of outcomes, in this order
abbrev pub outcome_words : Outcomes → List (List ℕ)
outcome_words outcomes =
    (if outcomes.success then codes "SUCCESS" ∷ [] else [])
    ++ (if outcomes.failure then codes "FAILURE" ∷ [] else [])
    ++ (if outcomes.delay then codes "DELAY" ∷ [] else [])

-- these outcomes
abbrev pub outcomes_of : Bool → Bool → Bool → Outcomes
outcomes_of success failure delay = record { success = success; failure = failure; delay = delay }

-- the value of NOTIFY: "NEVER", or the words with "," between them
abbrev pub notify_value : Notify → List ℕ
notify_value Never = codes "NEVER"
notify_value (On outcomes) = join_with_byte 44 (outcome_words outcomes)

-- SP "NOTIFY=" and its value
abbrev pub notify_text : Option Notify → List ℕ
notify_text None = []
notify_text (Some notify) = codes " NOTIFY=" ++ notify_value notify

-- SP "ORCPT=" and its value as it was written
abbrev pub orcpt_text : Option (List ℕ) → List ℕ
orcpt_text None = []
orcpt_text (Some orcpt) = codes " ORCPT=" ++ orcpt

-- what is written after the colon of MAIL FROM
abbrev pub mail_text : Envelope → List ℕ
mail_text envelope = envelope.reverse_path ++ ret_text envelope.ret ++ envid_text envelope.envid

-- what is written after the colon of RCPT TO
abbrev pub rcpt_text : Recipient → List ℕ
rcpt_text recipient = recipient.path ++ notify_text recipient.notify ++ orcpt_text recipient.orcpt

-- the text is a path that may stand there
pub record IsWrittenPath (is_allowed : Path → Bool) (text : List ℕ) : Type 0 where
  pub path : Path
  pub valid : IsPath path
  pub allowed : is_allowed path ≡ true
  pub text_is : text ≡ path_text path

-- the text is a path of MAIL
abbrev pub IsReversePath : List ℕ → Type 0
IsReversePath text = IsWrittenPath is_reverse text

-- the text is a path of RCPT
abbrev pub IsForwardPath : List ℕ → Type 0
IsForwardPath text = IsWrittenPath is_forward text

-- ENVID, if it was given, is as it may be
abbrev pub may_be_envid : Option (List ℕ) → Bool
may_be_envid None = true
may_be_envid (Some envid) = is_envid envid

-- ORCPT, if it was given, is as it may be
abbrev pub may_be_orcpt : Option (List ℕ) → Bool
may_be_orcpt None = true
may_be_orcpt (Some orcpt) = is_orcpt orcpt

-- a list of outcomes, if it was given, names one at least
abbrev pub may_be_notify : Option Notify → Bool
may_be_notify None = true
may_be_notify (Some Never) = true
may_be_notify (Some (On outcomes)) = outcomes.success || outcomes.failure || outcomes.delay

-- a recipient that may be stored
pub record IsRecipient (recipient : Recipient) : Type 0 where
  pub path : IsForwardPath recipient.path
  pub notify : may_be_notify recipient.notify ≡ true
  pub orcpt : may_be_orcpt recipient.orcpt ≡ true

-- an envelope that may be stored: 1 to 100 recipients (RFC 5321, section 4.5.3.1.8)
pub record IsEnvelope (envelope : Envelope) : Type 0 where
  pub reverse_path : IsReversePath envelope.reverse_path
  pub envid : may_be_envid envelope.envid ≡ true
  pub some : 1 ≤ length envelope.recipients
  pub within : length envelope.recipients ≤ 100
  pub recipients : AllByRecursion IsRecipient envelope.recipients

-- A reverse path that isn't `<>` is a forward path.
abbrev pub ReversePathIsForward : Type 0
ReversePathIsForward = (text : List ℕ) → IsReversePath text → text ≢ codes "<>" → IsForwardPath text

-- What is written of an envelope that may be stored is read again as the same.
abbrev pub MailIsReadAgain : Type 0
MailIsReadAgain =
    (envelope : Envelope) → IsEnvelope envelope
    → (mail : Mail) × ReadsMail (mail_text envelope) (Ok mail)
    × (envelope_from mail ≡ record envelope { recipients = [] })

-- What is written of a recipient that may be stored is read again as the same.
abbrev pub RcptIsReadAgain : Type 0
RcptIsReadAgain =
    (recipient : Recipient) → IsRecipient recipient
    → (rcpt : Rcpt) × ReadsRcpt (rcpt_text recipient) (Ok rcpt) × (recipient_from rcpt ≡ recipient)

-- What a MAIL said may be stored.
abbrev pub ReadMailIsValid : Type 0
ReadMailIsValid =
    (text : List ℕ) (mail : Mail) → ReadsMail text (Ok mail)
    → IsReversePath (path_text mail.reverse_path) × (may_be_envid mail.parameters.envid ≡ true)

-- What a RCPT said may be stored.
abbrev pub ReadRcptIsValid : Type 0
ReadRcptIsValid = (text : List ℕ) (rcpt : Rcpt) → ReadsRcpt text (Ok rcpt) → IsRecipient (recipient_from rcpt)

-- The line of MAIL that is written of what may be stored is one of that MAIL, with its parameters and with none.
abbrev pub MailIsCommandLine : Type 0
MailIsCommandLine =
    (envelope : Envelope) → IsEnvelope envelope
    → IsCommandLine (codes "MAIL FROM:" ++ mail_text envelope) (MailCommand (mail_text envelope))
    × IsCommandLine (codes "MAIL FROM:" ++ envelope.reverse_path) (MailCommand envelope.reverse_path)

-- The line of RCPT that is written of what may be stored is one of that RCPT, with its parameters and with none.
abbrev pub RcptIsCommandLine : Type 0
RcptIsCommandLine =
    (recipient : Recipient) → IsRecipient recipient
    → IsCommandLine (codes "RCPT TO:" ++ rcpt_text recipient) (RcptCommand (rcpt_text recipient))
    × IsCommandLine (codes "RCPT TO:" ++ recipient.path) (RcptCommand recipient.path)
