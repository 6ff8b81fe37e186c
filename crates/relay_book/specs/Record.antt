-- Records: the one encoding of a change, and what a change may hold. Numbers are big endian.
use Rattle.std.specs.Prelude.{◌≡◌, ◌≢◌, ℕ, ◌+◌, ◌≤◌, ◌<◌, ◌^◌, Bool, true, false, List, [], ◌∷◌, ◌++◌, length, codes}
use Rattle.std.specs.Prelude.{Option, Some, None, if◌then◌else◌, not}
use Rattle.std.specs.List.{flat_map, AllByRecursion, AllPass}
use Rattle.std.specs.Str.{bytes_eq}
use Rattle.std.specs.Int.{w16, w32, w64, to_be_bytes, is_in_range}
use Rattle.relay_trace.specs.declared.moment.TheConstants.{LAST_SECOND}
use Rattle.relay_envelope.specs.HostName.{IsHostName}
use Rattle.relay_envelope.specs.Envelope.{IsEnvelope}
use Rattle.relay_envelope.specs.declared.envelope.Recipient.{Recipient}
use Rattle.relay_envelope.specs.declared.parameters.Ret.{Ret}
use Rattle.relay_envelope.specs.declared.parameters.Ret.TheVariants.{Full, Hdrs}
use Rattle.relay_envelope.specs.declared.parameters.Notify.{Notify}
use Rattle.relay_envelope.specs.declared.parameters.Notify.TheVariants.{Never, On}
use Rattle.relay_book.specs.declared.version.Version.{Version}
use Rattle.relay_book.specs.declared.version.Version.TheVariants.{WithoutDelay, WithDelay, WithWithdrawal}
use Rattle.relay_book.specs.declared.change.Accept.{Accept as AcceptFields}
use Rattle.relay_book.specs.declared.change.Outcome.{Outcome as OutcomeFields}
use Rattle.relay_book.specs.declared.change.Ruling.{Ruling}
use Rattle.relay_book.specs.declared.change.Verdict.{Verdict}
use Rattle.relay_book.specs.declared.change.Verdict.TheVariants.{Taken, Refused, Later, CantSend, NoRoute, Withdrawn}
use Rattle.relay_book.specs.declared.change.Withdrawal.TheVariants.{Return, Discard}
use Rattle.relay_book.specs.declared.change.Change.{Change}
use Rattle.relay_book.specs.declared.change.Change.TheVariants.{Accept, Outcome}

-- numbers of two, four and eight octets
unfoldable pub octets_2 : ℕ → List ℕ
octets_2 number = to_be_bytes w16 number

unfoldable pub octets_4 : ℕ → List ℕ
octets_4 number = to_be_bytes w32 number

unfoldable pub octets_8 : ℕ → List ℕ
octets_8 number = to_be_bytes w64 number

-- a text after its length of two octets, and of four
abbrev pub sized_2 : List ℕ → List ℕ
sized_2 text = octets_2 (length text) ++ text

abbrev pub sized_4 : List ℕ → List ℕ
sized_4 text = octets_4 (length text) ++ text

-- RET: 0 for none, 1 FULL, 2 HDRS
abbrev pub ret_number : Option Ret → ℕ
ret_number None = 0
ret_number (Some Full) = 1
ret_number (Some Hdrs) = 2

abbrev pub worth : Bool → ℕ → ℕ
worth given number = if given then number else 0

-- NOTIFY: 0 for none, 1 NEVER, else the sum of 2 SUCCESS, 4 FAILURE, 8 DELAY
abbrev pub notify_number : Option Notify → ℕ
notify_number None = 0
notify_number (Some Never) = 1
notify_number (Some (On outcomes)) =
    worth outcomes.success 2 + worth outcomes.failure 4 + worth outcomes.delay 8

-- a parameter as it was written, and no octet where it wasn't given
abbrev pub written : Option (List ℕ) → List ℕ
written None = []
written (Some text) = text

-- a recipient: its path, NOTIFY and ORCPT
abbrev pub recipient_octets : Recipient → List ℕ
recipient_octets recipient =
    sized_2 recipient.path ++ notify_number recipient.notify ∷ sized_2 (written recipient.orcpt)

-- elements after their count of one octet
abbrev pub counted : {A : Type 0} → (A → List ℕ) → List A → List ℕ
counted octets_of elements = length elements ∷ flat_map octets_of elements

-- an accept: its time, what MAIL said, the recipients and the stored text
abbrev pub accept_octets : AcceptFields → List ℕ
accept_octets accept =
    octets_8 accept.at
    ++ (sized_2 accept.envelope.reverse_path
    ++ (ret_number accept.envelope.ret
    ∷ (sized_2 (written accept.envelope.envid)
    ++ (counted recipient_octets accept.envelope.recipients
    ++ sized_4 accept.stored_text))))

-- a verdict by its number; a refusal with its code and its text after a length of one octet
abbrev pub verdict_octets : Verdict → List ℕ
verdict_octets (Taken true) = 1 ∷ []
verdict_octets (Taken false) = 2 ∷ []
verdict_octets (Refused code text) = 3 ∷ (octets_2 code ++ (length text ∷ text))
verdict_octets Later = 4 ∷ []
verdict_octets CantSend = 5 ∷ []
verdict_octets NoRoute = 6 ∷ []
verdict_octets (Withdrawn Return) = 7 ∷ []
verdict_octets (Withdrawn Discard) = 8 ∷ []

abbrev pub ruling_octets : Ruling → List ℕ
ruling_octets ruling = ruling.place ∷ verdict_octets ruling.verdict

-- the fields of an outcome: its message, its time, the hop, the verdicts and the report
abbrev pub outcome_octets : OutcomeFields → List ℕ
outcome_octets outcome =
    octets_8 outcome.message
    ++ (octets_8 outcome.at
    ++ (sized_2 outcome.hop ++ (counted ruling_octets outcome.rulings ++ sized_4 outcome.report)))

-- the first octet of an outcome, by its version
abbrev pub outcome_kind : Version → ℕ
outcome_kind WithoutDelay = 2
outcome_kind WithDelay = 4
outcome_kind WithWithdrawal = 6

-- the one encoding of a change
abbrev pub encode : Change → List ℕ
encode (Accept accept) = 1 ∷ accept_octets accept
encode (Outcome outcome) = outcome_kind outcome.version ∷ outcome_octets outcome

-- the null reverse path (RFC 5321, section 4.5.5)
abbrev pub is_null : List ℕ → Bool
is_null path = bytes_eq path (codes "<>")

-- profile: the most octets of a report, of another stored text, and of a refusal's text
abbrev pub report_limit : ℕ
report_limit = 2 ^ 26

abbrev pub stored_text_limit : ℕ
stored_text_limit = 2 ^ 25

abbrev pub refusal_limit : ℕ
refusal_limit = 200

-- the most octets of a stored text: a report's reverse path is null
abbrev pub text_limit : List ℕ → ℕ
text_limit reverse_path = if is_null reverse_path then report_limit else stored_text_limit

-- an accept that may be stored
pub record IsAccept (accept : AcceptFields) : Type 0 where
  pub moment : accept.at ≤ LAST_SECOND
  pub envelope : IsEnvelope accept.envelope
  pub text : length accept.stored_text ≤ text_limit accept.envelope.reverse_path

-- a refusal's code is one that a reply may have: three digits, the first 2 to 5 (RFC 5321, section 4.2); profile: of
-- its text this many octets are kept at most, each printable
pub record IsRefusal (code : ℕ) (text : List ℕ) : Type 0 where
  pub low : 200 ≤ code
  pub high : code < 600
  pub printable : AllPass (is_in_range 32 126) text
  pub text_fits : length text ≤ refusal_limit

-- a verdict that may be stored
abbrev pub IsVerdict : Verdict → Type 0
IsVerdict (Taken dsn) = Unit {0}
IsVerdict (Refused code text) = IsRefusal code text
IsVerdict Later = Unit {0}
IsVerdict CantSend = Unit {0}
IsVerdict NoRoute = Unit {0}
IsVerdict (Withdrawn withdrawal) = Unit {0}

-- the postmaster's verdict
abbrev pub is_withdrawn : Verdict → Bool
is_withdrawn (Taken dsn) = false
is_withdrawn (Refused code text) = false
is_withdrawn Later = false
is_withdrawn CantSend = false
is_withdrawn NoRoute = false
is_withdrawn (Withdrawn withdrawal) = true

-- profile: outcomes of the third version have the postmaster's verdicts alone, and others none of these
abbrev pub is_of_version : Version → Verdict → Bool
is_of_version WithoutDelay verdict = not (is_withdrawn verdict)
is_of_version WithDelay verdict = not (is_withdrawn verdict)
is_of_version WithWithdrawal verdict = is_withdrawn verdict

abbrev pub AreOfVersion : Version → List Ruling → Type 0
AreOfVersion version rulings = AllByRecursion (λ ruling. is_of_version version ruling.verdict ≡ true) rulings

-- a place is a number of one octet
pub record IsRuling (ruling : Ruling) : Type 0 where
  pub place : ruling.place < 2 ^ 8
  pub verdict : IsVerdict ruling.verdict

-- the name of a hop, or nothing
abbrev pub MayBeHop : List ℕ → Type 0
MayBeHop [] = Unit {0}
MayBeHop (octet ∷ octets) = IsHostName (octet ∷ octets)

-- an outcome that may be stored, by its fields alone
pub record IsOutcome (outcome : OutcomeFields) : Type 0 where
  pub message : outcome.message < 2 ^ 64
  pub moment : outcome.at ≤ LAST_SECOND
  pub hop : MayBeHop outcome.hop
  pub some : 1 ≤ length outcome.rulings
  pub within : length outcome.rulings ≤ 100
  pub rulings : AllByRecursion IsRuling outcome.rulings
  pub version : AreOfVersion outcome.version outcome.rulings
  pub report : length outcome.report ≤ report_limit

-- a change that may be stored, by its fields alone
abbrev pub IsChange : Change → Type 0
IsChange (Accept accept) = IsAccept accept
IsChange (Outcome outcome) = IsOutcome outcome

-- the octets are the record of no change
pub record IsNoRecord (text : List ℕ) : Type 0 where
  pub none : (change : Change) → IsChange change → text ≢ encode change

-- Two changes that may be stored have two encodings.
abbrev pub EncodingIsOne : Type 0
EncodingIsOne =
    (change other : Change) → IsChange change → IsChange other → encode change ≡ encode other → change ≡ other
