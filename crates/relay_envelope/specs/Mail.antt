-- What is after the colon of `MAIL FROM:` and of `RCPT TO:` (RFC 5321, sections 4.1.1.2 and 4.1.1.3; RFC 3461, section
-- 4).
use Rattle.std.specs.Prelude.{◌≡◌, ℕ, Bool, true, false, ◌⊎◌, List, Result, Ok, Err}
use Rattle.std.specs.Option.{option_copied}
use Rattle.relay_envelope.specs.Path.{Path, BeginsWithPath, is_forward, is_reverse, value_of}
use Rattle.relay_envelope.specs.Parameters.{MailParameters, RcptParameters}
use Rattle.relay_envelope.specs.ParameterRow.{IsRowOf, SaysMail, SaysRcpt}
use Rattle.relay_envelope.specs.declared.fault.EnvelopeFault.{EnvelopeFault}
use Rattle.relay_envelope.specs.declared.fault.EnvelopeFault.TheVariants.{BadPath}
use Rattle.relay_envelope.specs.declared.mail.Mail.{Mail as MailSliced}
use Rattle.relay_envelope.specs.declared.rcpt.Rcpt.{Rcpt as RcptSliced}

-- what MAIL says
pub record Mail : Type 0 where
  pub reverse_path : Path
  pub parameters : MailParameters

-- what RCPT says
pub record Rcpt : Type 0 where
  pub path : Path
  pub parameters : RcptParameters

-- a path with the parameters after it
abbrev pub mail_of : Path → Result MailParameters EnvelopeFault → Result Mail EnvelopeFault
mail_of path (Ok parameters) = Ok (record { reverse_path = path; parameters = parameters })
mail_of path (Err fault) = Err fault

abbrev pub rcpt_of : Path → Result RcptParameters EnvelopeFault → Result Rcpt EnvelopeFault
rcpt_of path (Ok parameters) = Ok (record { path = path; parameters = parameters })
rcpt_of path (Err fault) = Err fault

-- the text begins with no path that may stand there, so the path is bad
pub record HasBadPath {A : Type 0} (is_allowed : Path → Bool) (text : List ℕ) (result : Result A EnvelopeFault)
    : Type 0 where
  pub none_allowed : (path : Path) (rest : List ℕ) → BeginsWithPath text path rest → is_allowed path ≡ false
  pub result_is : result ≡ Err BadPath

-- the text begins with a path that may stand there, and the row of words after it says these parameters, or this fault
pub record IsAfterPath {P A : Type 0} (is_allowed : Path → Bool)
    (row_says : List (List ℕ) → Result P EnvelopeFault → Type 0)
    (joined : Path → Result P EnvelopeFault → Result A EnvelopeFault) (text : List ℕ) (result : Result A EnvelopeFault)
    : Type 0 where
  pub path : Path
  pub rest : List ℕ
  pub begins : BeginsWithPath text path rest
  pub allowed : is_allowed path ≡ true
  pub words : List (List ℕ)
  pub row : IsRowOf rest words
  pub parameters : Result P EnvelopeFault
  pub says : row_says words parameters
  pub result_is : result ≡ joined path parameters

-- MAIL: a reverse path, and RET and ENVID; faults are found from left to right
abbrev pub ReadsMail : List ℕ → Result Mail EnvelopeFault → Type 0
ReadsMail text result = HasBadPath is_reverse text result ⊎ IsAfterPath is_reverse SaysMail mail_of text result

-- RCPT: a forward path, and NOTIFY and ORCPT
abbrev pub ReadsRcpt : List ℕ → Result Rcpt EnvelopeFault → Type 0
ReadsRcpt text result = HasBadPath is_forward text result ⊎ IsAfterPath is_forward SaysRcpt rcpt_of text result

-- the octets of what the code answers
abbrev pub mail_value : MailSliced → Mail
mail_value mail = record {
  reverse_path = value_of mail.reverse_path;
  parameters = record { ret = mail.ret; envid = option_copied mail.envid };
}

abbrev pub rcpt_value : RcptSliced → Rcpt
rcpt_value rcpt = record {
  path = value_of rcpt.path;
  parameters = record { notify = rcpt.notify; orcpt = option_copied rcpt.orcpt };
}

abbrev pub mail_reading : Result MailSliced EnvelopeFault → Result Mail EnvelopeFault
mail_reading (Ok mail) = Ok (mail_value mail)
mail_reading (Err fault) = Err fault

abbrev pub rcpt_reading : Result RcptSliced EnvelopeFault → Result Rcpt EnvelopeFault
rcpt_reading (Ok rcpt) = Ok (rcpt_value rcpt)
rcpt_reading (Err fault) = Err fault

-- A text of MAIL has no two values or faults.
abbrev pub MailIsOne : Type 0
MailIsOne =
    (text : List ℕ) (one two : Result Mail EnvelopeFault) → ReadsMail text one → ReadsMail text two → one ≡ two

-- A text of RCPT has no two values or faults.
abbrev pub RcptIsOne : Type 0
RcptIsOne =
    (text : List ℕ) (one two : Result Rcpt EnvelopeFault) → ReadsRcpt text one → ReadsRcpt text two → one ≡ two

-- No text of MAIL is without a value or a fault.
abbrev pub MailIsSome : Type 0
MailIsSome = (text : List ℕ) → ¬ ((result : Result Mail EnvelopeFault) → ¬ ReadsMail text result)

-- No text of RCPT is without a value or a fault.
abbrev pub RcptIsSome : Type 0
RcptIsSome = (text : List ℕ) → ¬ ((result : Result Rcpt EnvelopeFault) → ¬ ReadsRcpt text result)
