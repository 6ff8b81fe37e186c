-- The outcome of a row: its first word says what is done with the rest.
use Rattle.std.specs.Prelude.{◌≡◌, ◌≢◌, ◌↔◌, ℕ, Bool, true, false, IsTrue, List, ◌++◌, codes, Option, Some, None}
use Rattle.std.specs.Prelude.{Result, Ok, Err}
use Rattle.relay_envelope.specs.Xtext.{decoded, encoded}
use Rattle.relay_envelope.specs.HostName.{IsHostName}
use Rattle.relay_envelope.specs.Mail.{Mail, Rcpt, ReadsMail, ReadsRcpt}
use Rattle.relay_envelope.specs.Envelope.{IsForwardPath, IsReversePath, envelope_from, mail_text, rcpt_text}
use Rattle.relay_envelope.specs.Envelope.{recipient_from}
use Rattle.relay_envelope.specs.declared.fault.EnvelopeFault.{EnvelopeFault}
use Rattle.relay_envelope.specs.declared.fault.EnvelopeFault.TheVariants.{BadPath, BadValue, Repeated, UnknownParameter}

-- the word that names a fault
abbrev pub word_of : EnvelopeFault → List ℕ
word_of BadPath = codes "BadPath"
word_of BadValue = codes "BadValue"
word_of Repeated = codes "Repeated"
word_of UnknownParameter = codes "UnknownParameter"

-- what was read is written again, and a fault is named
abbrev pub mail_outcome : Result Mail EnvelopeFault → List ℕ
mail_outcome (Ok mail) = mail_text (envelope_from mail)
mail_outcome (Err fault) = word_of fault

abbrev pub rcpt_outcome : Result Rcpt EnvelopeFault → List ℕ
rcpt_outcome (Ok rcpt) = rcpt_text (recipient_from rcpt)
rcpt_outcome (Err fault) = word_of fault

-- the octets that an xtext stands for, and a word where the text is none
abbrev pub decoding_outcome : Option (List ℕ) → List ℕ
decoding_outcome (Some octets) = octets
decoding_outcome None = codes "NotXtext"

-- the text of a MAIL is read, and comes to this
abbrev pub IsMailOutcome : List ℕ → List ℕ → Type 0
IsMailOutcome text outcome = (read : Result Mail EnvelopeFault) × ReadsMail text read × (outcome ≡ mail_outcome read)

-- the text of a RCPT is read, and comes to this
abbrev pub IsRcptOutcome : List ℕ → List ℕ → Type 0
IsRcptOutcome text outcome = (read : Result Rcpt EnvelopeFault) × ReadsRcpt text read × (outcome ≡ rcpt_outcome read)

-- the row doesn't begin with the word
abbrev pub LacksWord : List ℕ → List ℕ → Type 0
LacksWord word row = (text : List ℕ) → row ≢ word ++ text

-- a decision in a word
abbrev pub decision_text : Option Bool → List ℕ
decision_text (Some true) = codes "yes"
decision_text (Some false) = codes "no"
decision_text None = codes "no row"

-- the decision says whether it is so
abbrev pub Says : Option Bool → Type 0 → Type 0
Says decision IsSo = (is_so : Bool) × (decision ≡ Some is_so) × (IsTrue is_so ↔ IsSo)

-- the row asks whether a text is what its first word names, and this is the answer
pub record IsDecision (row : List ℕ) (decision : Option Bool) : Type 0 where
  pub reverse : (text : List ℕ) → row ≡ codes "REVERSE " ++ text → Says decision (IsReversePath text)
  pub forward : (text : List ℕ) → row ≡ codes "FORWARD " ++ text → Says decision (IsForwardPath text)
  pub host : (text : List ℕ) → row ≡ codes "HOST " ++ text → Says decision (IsHostName text)
  pub other : LacksWord (codes "REVERSE ") row → LacksWord (codes "FORWARD ") row → LacksWord (codes "HOST ") row
      → decision ≡ None

-- the outcome is the word of such an answer
abbrev pub IsAnswer : List ℕ → List ℕ → Type 0
IsAnswer row outcome = (decision : Option Bool) × IsDecision row decision × (outcome ≡ decision_text decision)

-- the row comes to this outcome, by the word that it begins with
pub record IsOutcome (row outcome : List ℕ) : Type 0 where
  pub mail : (text : List ℕ) → row ≡ codes "MAIL FROM:" ++ text → IsMailOutcome text outcome
  pub rcpt : (text : List ℕ) → row ≡ codes "RCPT TO:" ++ text → IsRcptOutcome text outcome
  pub decode : (text : List ℕ) → row ≡ codes "DECODE " ++ text → outcome ≡ decoding_outcome (decoded text)
  pub encode : (text : List ℕ) → row ≡ codes "ENCODE " ++ text → outcome ≡ encoded text
  pub other :
      LacksWord (codes "MAIL FROM:") row → LacksWord (codes "RCPT TO:") row
      → LacksWord (codes "DECODE ") row → LacksWord (codes "ENCODE ") row → IsAnswer row outcome

-- the line shows what the row came to, and what is written down for it where that is another text
pub record IsLine (row wanted line : List ℕ) : Type 0 where
  pub outcome : List ℕ
  pub comes_to : IsOutcome row outcome
  pub agrees : outcome ≡ wanted → line ≡ row ++ codes " => " ++ outcome
  pub differs : outcome ≢ wanted → line ≡ row ++ codes " => " ++ outcome ++ codes " DIFFERS FROM " ++ wanted
