-- The lines of a report (RFC 5322, sections 2.1.1 and 2.2): nothing that is filled in breaks one, and none is too long.
use Rattle.std.specs.Prelude.{◌≡◌, ℕ, ◌≤◌, List, length, take, Option, None, Some}
use Rattle.std.specs.List.{AllByRecursion}
use Rattle.relay_octets.specs.Line.{HasNoCrlf, lines_text}
use Rattle.relay_trace.specs.HeaderSection.{header_end_of, received_count_of}
use Rattle.relay_envelope.specs.Parameters.{address_of, address_type_of}
use Rattle.relay_envelope.specs.declared.envelope.Recipient.{Recipient}
use Rattle.relay_book.specs.declared.change.Ruling.{Ruling}
use Rattle.relay_book.specs.declared.change.Verdict.{Verdict}
use Rattle.relay_book.specs.declared.change.Verdict.TheVariants.{Taken, Refused, Later, CantSend, NoRoute, Withdrawn}
use Rattle.relay_report.specs.StatusFields.{plain_of}
use Rattle.relay_report.specs.Multipart.{Told, first_part, second_part}
use Rattle.relay_report.specs.Report.{IsReport}
use Rattle.relay_report.specs.Fits.{MayBeTold}

-- a line of at most 998 octets, without its CR LF (section 2.1.1)
pub record IsShortLine (line : List ℕ) : Type 0 where
  pub no_crlf : HasNoCrlf line
  pub short : length line ≤ 998

-- the text is short lines, each with its CR LF
pub record HasShortLines (text : List ℕ) : Type 0 where
  pub lines : List (List ℕ)
  pub text_is : text ≡ lines_text lines
  pub each : AllByRecursion IsShortLine lines

-- what ENVID stands for breaks no line
abbrev pub HasPlainEnvid : Option (List ℕ) → Type 0
HasPlainEnvid None = Unit {0}
HasPlainEnvid (Some envid) = HasNoCrlf (plain_of envid)

-- nor does the type of ORCPT, or the address that it stands for
abbrev pub HasPlainOrcpt : Option (List ℕ) → Type 0
HasPlainOrcpt None = Unit {0}
HasPlainOrcpt (Some orcpt) = HasNoCrlf (address_type_of orcpt) × HasNoCrlf (plain_of (address_of orcpt))

-- nor what is known of a recipient
pub record IsPlainRecipient (recipient : Recipient) : Type 0 where
  pub path : HasNoCrlf recipient.path
  pub orcpt : HasPlainOrcpt recipient.orcpt

-- nor the text of a refusal
abbrev pub IsPlainVerdict : Verdict → Type 0
IsPlainVerdict (Taken dsn) = Unit {0}
IsPlainVerdict (Refused code text) = HasNoCrlf text
IsPlainVerdict Later = Unit {0}
IsPlainVerdict CantSend = Unit {0}
IsPlainVerdict NoRoute = Unit {0}
IsPlainVerdict (Withdrawn withdrawal) = Unit {0}

-- nor what was said of a place
abbrev pub IsPlainRuling : Ruling → Type 0
IsPlainRuling ruling = IsPlainVerdict ruling.verdict

-- nothing that is filled in breaks a line
pub record BreaksNoLine (told : Told) : Type 0 where
  pub host : HasNoCrlf told.host
  pub hop : HasNoCrlf told.hop
  pub reverse_path : HasNoCrlf told.message.accept.envelope.reverse_path
  pub envid : HasPlainEnvid told.message.accept.envelope.envid
  pub recipients : AllByRecursion IsPlainRecipient told.message.accept.envelope.recipients
  pub rulings : AllByRecursion IsPlainRuling told.rulings

-- Nothing that may be told breaks a line of a report.
abbrev pub ToldBreaksNoLine : Type 0
ToldBreaksNoLine = (told : Told) → MayBeTold told → BreaksNoLine told

-- The header section of a report, its part for people and its delivery status are short lines.
abbrev pub ReportHasShortLines : Type 0
ReportHasShortLines =
    (told : Told) (text : List ℕ) → MayBeTold told → (is : IsReport told text)
    → HasShortLines (take (header_end_of text) text) × HasShortLines (first_part told is.arrival is.until)
    × HasShortLines (second_part told is.date is.arrival is.until)

-- A report has no field `Received:` in its header section.
abbrev pub ReportHasNoReceived : Type 0
ReportHasNoReceived =
    (told : Told) (text : List ℕ) → MayBeTold told → IsReport told text → received_count_of text ≡ 0
