-- Parameters of MAIL and RCPT (RFC 5321, section 4.1.2; RFC 3461, section 4): RET and ENVID, NOTIFY and ORCPT.
use Rattle.std.specs.Prelude.{◌≡◌, ℕ, ◌<◌, ◌==◌, nat_lt, nat_le, Bool, true, false, ◌&&◌, ◌||◌, List, [], ◌∷◌, codes}
use Rattle.std.specs.Prelude.{length, Option, Some, None, is_some, option_map, ok_or, Result, Ok, Err, if◌then◌else◌}
use Rattle.std.specs.List.{after_first, before_first, list_all, slice_split}
use Rattle.std.specs.Option.{option_and_then, option_copied}
use Rattle.std.specs.Int.{is_in_range}
use Rattle.std.specs.Char.{is_ascii_alphanumeric}
use Rattle.relay_lines.specs.Word.{is_printable, is_word}
use Rattle.relay_envelope.specs.Xtext.{decoded}
use Rattle.relay_envelope.specs.declared.fault.EnvelopeFault.{EnvelopeFault}
use Rattle.relay_envelope.specs.declared.fault.EnvelopeFault.TheVariants.{BadValue, Repeated, UnknownParameter}
use Rattle.relay_envelope.specs.declared.parameters.Ret.{Ret}
use Rattle.relay_envelope.specs.declared.parameters.Ret.TheVariants.{Full, Hdrs}
use Rattle.relay_envelope.specs.declared.parameters.Outcomes.{Outcomes}
use Rattle.relay_envelope.specs.declared.parameters.Notify.{Notify}
use Rattle.relay_envelope.specs.declared.parameters.Notify.TheVariants.{Never, On}
use Rattle.relay_envelope.specs.declared.parameters.MailParameters.{MailParameters as MailSliced}
use Rattle.relay_envelope.specs.declared.parameters.RcptParameters.{RcptParameters as RcptSliced}

-- a test of one octet
abbrev pub is_octet : ℕ → ℕ → Bool
is_octet wanted octet = octet == wanted

-- esmtp-keyword: what is before the first "="
unfoldable pub keyword_of : List ℕ → List ℕ
keyword_of word = before_first (is_octet 61) word

-- esmtp-value: what is after it, and nothing if there is none
unfoldable pub value_of_word : List ℕ → List ℕ
value_of_word word = after_first (is_octet 61) word

-- "FULL" / "HDRS" (RFC 3461, section 4.3)
unfoldable pub ret_of : List ℕ → Option Ret
ret_of value =
    if is_word value (codes "FULL") then Some Full else (if is_word value (codes "HDRS") then Some Hdrs else None)

-- the octets are printable (section 4.4); if there are none they are not
abbrev pub are_readable : Option (List ℕ) → Bool
are_readable None = false
are_readable (Some octets) = list_all is_printable octets

-- xtext that stands for printable octets
unfoldable pub is_readable_xtext : List ℕ → Bool
is_readable_xtext text = are_readable (decoded text)

-- a value of ENVID: at most 100 octets (section 4.4), and not empty
unfoldable pub is_envid : List ℕ → Bool
is_envid value = is_in_range 1 100 (length value) && is_readable_xtext value

-- profile: an octet of an address type is a letter, a digit or `-`
abbrev pub is_type_octet : ℕ → Bool
is_type_octet octet = is_ascii_alphanumeric octet || octet == 45

-- the type of an original recipient's address is not empty (section 4.2)
unfoldable pub is_address_type : List ℕ → Bool
is_address_type text = nat_lt 0 (length text) && list_all is_type_octet text

-- an original recipient's address is not empty, and xtext
unfoldable pub is_original_address : List ℕ → Bool
is_original_address text = nat_lt 0 (length text) && is_readable_xtext text

-- the type of the address that a value of ORCPT gives: what is before its first ";"
abbrev pub address_type_of : List ℕ → List ℕ
address_type_of value = before_first (is_octet 59) value

-- that address: what is after it
abbrev pub address_of : List ℕ → List ℕ
address_of value = after_first (is_octet 59) value

-- a value of ORCPT: a type, ";" and an address (section 4.2), of at most 500 octets
unfoldable pub is_orcpt : List ℕ → Bool
is_orcpt value =
    nat_le (length value) 500
    && is_address_type (address_type_of value) && is_original_address (address_of value)

-- no outcome is to be reported yet
abbrev pub no_outcomes : Outcomes
no_outcomes = record { success = false; failure = false; delay = false }

-- a list's further word: one that it has not (section 4.1)
unfoldable pub with_outcome : List ℕ → Outcomes → Option Outcomes
with_outcome word old =
    if is_word word (codes "SUCCESS") then (if old.success then None else Some (record old { success = true }))
    else (if is_word word (codes "FAILURE") then (if old.failure then None else Some (record old { failure = true }))
    else (if is_word word (codes "DELAY") then (if old.delay then None else Some (record old { delay = true }))
    else None))

-- the outcomes that a list names, and those of before
abbrev pub with_outcomes : List (List ℕ) → Outcomes → Option Outcomes
with_outcomes [] old = Some old
with_outcomes (word ∷ words) old = option_and_then (λ new. with_outcomes words new) (with_outcome word old)

-- a value of NOTIFY: "NEVER", or a list of outcomes with "," between them
unfoldable pub notify_of : List ℕ → Option Notify
notify_of value =
    if is_word value (codes "NEVER") then Some Never
    else option_map On (with_outcomes (slice_split (is_octet 44) value) no_outcomes)

-- the parameters of MAIL, ENVID as it was written
pub record MailParameters : Type 0 where
  pub ret : Option Ret
  pub envid : Option (List ℕ)

-- the parameters of RCPT, ORCPT as it was written
pub record RcptParameters : Type 0 where
  pub notify : Option Notify
  pub orcpt : Option (List ℕ)

-- RET, if it was not given before
abbrev pub with_ret : List ℕ → MailParameters → Result MailParameters EnvelopeFault
with_ret value old =
    if is_some old.ret then Err Repeated
    else ok_or (option_map (λ ret. record old { ret = Some ret }) (ret_of value)) BadValue

-- ENVID, if it was not given before
abbrev pub with_envid : List ℕ → MailParameters → Result MailParameters EnvelopeFault
with_envid value old =
    if is_some old.envid then Err Repeated
    else (if is_envid value then Ok (record old { envid = Some value }) else Err BadValue)

-- NOTIFY, if it was not given before
abbrev pub with_notify : List ℕ → RcptParameters → Result RcptParameters EnvelopeFault
with_notify value old =
    if is_some old.notify then Err Repeated
    else ok_or (option_map (λ notify. record old { notify = Some notify }) (notify_of value)) BadValue

-- ORCPT, if it was not given before
abbrev pub with_orcpt : List ℕ → RcptParameters → Result RcptParameters EnvelopeFault
with_orcpt value old =
    if is_some old.orcpt then Err Repeated
    else (if is_orcpt value then Ok (record old { orcpt = Some value }) else Err BadValue)

-- a parameter of MAIL, by its keyword in any letter case; profile: an empty part between two spaces says nothing
unfoldable pub with_mail_parameter : List ℕ → MailParameters → Result MailParameters EnvelopeFault
with_mail_parameter word old =
    if length word == 0 then Ok old
    else (if is_word (keyword_of word) (codes "RET") then with_ret (value_of_word word) old
    else (if is_word (keyword_of word) (codes "ENVID") then with_envid (value_of_word word) old
    else Err UnknownParameter))

-- a parameter of RCPT
unfoldable pub with_rcpt_parameter : List ℕ → RcptParameters → Result RcptParameters EnvelopeFault
with_rcpt_parameter word old =
    if length word == 0 then Ok old
    else (if is_word (keyword_of word) (codes "NOTIFY") then with_notify (value_of_word word) old
    else (if is_word (keyword_of word) (codes "ORCPT") then with_orcpt (value_of_word word) old
    else Err UnknownParameter))

-- what follows from a result
abbrev pub and_then : {A : Type 0} → (A → Result A EnvelopeFault) → Result A EnvelopeFault → Result A EnvelopeFault
and_then next (Ok value) = next value
and_then next (Err fault) = Err fault

-- the parameters from left to right; the first fault is the line's
abbrev pub with_each :
    {A : Type 0} → (List ℕ → A → Result A EnvelopeFault) → List (List ℕ) → A → Result A EnvelopeFault
with_each with_one [] old = Ok old
with_each with_one (word ∷ words) old = and_then (λ new. with_each with_one words new) (with_one word old)

-- what is after a path of MAIL: parameters with spaces between them
unfoldable pub mail_parameters_of : List ℕ → Result MailParameters EnvelopeFault
mail_parameters_of text =
    with_each with_mail_parameter (slice_split (is_octet 32) text) (record { ret = None; envid = None })

-- what is after a path of RCPT
unfoldable pub rcpt_parameters_of : List ℕ → Result RcptParameters EnvelopeFault
rcpt_parameters_of text =
    with_each with_rcpt_parameter (slice_split (is_octet 32) text) (record { notify = None; orcpt = None })

-- the octets of the parameters that the code answers
abbrev pub mail_value : MailSliced → MailParameters
mail_value given = record { ret = given.ret; envid = option_copied given.envid }

abbrev pub rcpt_value : RcptSliced → RcptParameters
rcpt_value given = record { notify = given.notify; orcpt = option_copied given.orcpt }

abbrev pub mail_answer : Result MailSliced EnvelopeFault → Result MailParameters EnvelopeFault
mail_answer (Ok given) = Ok (mail_value given)
mail_answer (Err fault) = Err fault

abbrev pub rcpt_answer : Result RcptSliced EnvelopeFault → Result RcptParameters EnvelopeFault
rcpt_answer (Ok given) = Ok (rcpt_value given)
rcpt_answer (Err fault) = Err fault

-- the text falls into a first part before this octet, and the rest after it
pub record FirstPart (octet : ℕ) (text front back : List ℕ) : Type 0 where
  pub parts : slice_split (is_octet octet) text ≡ front ∷ slice_split (is_octet octet) back
  pub front_is : front ≡ before_first (is_octet octet) text
  pub back_is : back ≡ after_first (is_octet octet) text
  pub shorter : length back < length text

-- the text is one part, since this octet does not stand in it
pub record OnePart (octet : ℕ) (text : List ℕ) : Type 0 where
  pub parts : slice_split (is_octet octet) text ≡ text ∷ []
  pub front_is : text ≡ before_first (is_octet octet) text
  pub back_is : [] ≡ after_first (is_octet octet) text
