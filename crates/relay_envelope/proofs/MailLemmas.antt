-- Texts of MAIL and RCPT: each has one reading.
use Rattle.std.proofs.Common.{◌≡◌, ℕ, Bool, true, false, ◌⊎◌, inl, inr, List, Result, Err, refl, sym, ap, ◌∙◌}
use Rattle.std.proofs.lemmas.Bool.{true≢false}
use Rattle.relay_envelope.specs.Path.{Path, BeginsWithPath, is_forward, is_reverse}
use Rattle.relay_envelope.specs.Parameters.{mail_parameters_of, rcpt_parameters_of}
use Rattle.relay_envelope.specs.ParameterRow.{SaysMail, SaysRcpt}
use Rattle.relay_envelope.specs.Mail.{HasBadPath, IsAfterPath, MailIsOne, MailIsSome, RcptIsOne, RcptIsSome, mail_of, rcpt_of}
use Rattle.relay_envelope.specs.declared.fault.EnvelopeFault.{EnvelopeFault}
use Rattle.relay_envelope.specs.declared.fault.EnvelopeFault.TheVariants.{BadPath}
use Rattle.relay_envelope.proofs.PathLemmas.{path_is_one}
use Rattle.relay_envelope.proofs.AfterPathLemmas.{after_mail, after_rcpt, mail_is_read_so, rcpt_is_read_so}

-- where the text begins with a path that may not stand there, none that may does
pub none_allowed : (is_allowed : Path → Bool) (text : List ℕ) (path : Path) (rest : List ℕ) → BeginsWithPath text path rest
    → is_allowed path ≡ false → (other : Path) (more : List ℕ) → BeginsWithPath text other more → is_allowed other ≡ false
none_allowed is_allowed text path rest begins refused other more also =
    ap is_allowed (sym (path_is_one text path rest other more begins also).0) ∙ refused

-- a text whose path is bad begins with none that may stand there
bad_or_after : {P A : Type 0} (is_allowed : Path → Bool) (row_says : List (List ℕ) → Result P EnvelopeFault → Type 0)
    (joined : Path → Result P EnvelopeFault → Result A EnvelopeFault) (text : List ℕ) (one two : Result A EnvelopeFault)
    → HasBadPath is_allowed text one → IsAfterPath is_allowed row_says joined text two → ⊥
bad_or_after is_allowed row_says joined text one two bad after =
    true≢false (sym after.allowed ∙ bad.none_allowed after.path after.rest after.begins)

-- where each row after a path is read in one way, a text has one reading
reading_is_one : {P A : Type 0} (is_allowed : Path → Bool) (row_says : List (List ℕ) → Result P EnvelopeFault → Type 0)
    (joined : Path → Result P EnvelopeFault → Result A EnvelopeFault) (read : List ℕ → Result P EnvelopeFault)
    → ((text : List ℕ) (result : Result A EnvelopeFault) (after : IsAfterPath is_allowed row_says joined text result)
    → after.parameters ≡ read after.rest)
    → (text : List ℕ) (one two : Result A EnvelopeFault)
    → HasBadPath is_allowed text one ⊎ IsAfterPath is_allowed row_says joined text one
    → HasBadPath is_allowed text two ⊎ IsAfterPath is_allowed row_says joined text two → one ≡ two
reading_is_one is_allowed row_says joined read is_read text one two (inl bad) (inl worse) = bad.result_is ∙ sym worse.result_is
reading_is_one is_allowed row_says joined read is_read text one two (inl bad) (inr after) =
    absurd (bad_or_after is_allowed row_says joined text one two bad after)
reading_is_one is_allowed row_says joined read is_read text one two (inr after) (inl bad) =
    absurd (bad_or_after is_allowed row_says joined text two one bad after)
reading_is_one is_allowed row_says joined read is_read text one two (inr after) (inr other) =
    let same = path_is_one text after.path after.rest other.path other.rest after.begins other.begins in
    after.result_is ∙ ap (joined after.path) (is_read text one after) ∙ ap (λ path. joined path (read after.rest)) same.0
    ∙ ap (λ rest. joined other.path (read rest)) same.1 ∙ ap (joined other.path) (sym (is_read text two other)) ∙ sym other.result_is

pub mail_is_one : MailIsOne
mail_is_one text one two first second =
    reading_is_one is_reverse SaysMail mail_of mail_parameters_of mail_is_read_so text one two first second

pub rcpt_is_one : RcptIsOne
rcpt_is_one text one two first second =
    reading_is_one is_forward SaysRcpt rcpt_of rcpt_parameters_of rcpt_is_read_so text one two first second

-- what can't be true is false
false_by : (test : Bool) → (test ≡ true → ⊥) → test ≡ false
false_by true never = absurd (never refl)
false_by false never = refl

pub mail_is_some : MailIsSome
mail_is_some text none =
    none (Err BadPath) (inl (record {
      none_allowed = λ path rest begins. false_by (is_reverse path) (λ allowed. none (mail_of path (mail_parameters_of rest)) (inr (after_mail text path rest begins allowed)));
      result_is = refl;
    }))

pub rcpt_is_some : RcptIsSome
rcpt_is_some text none =
    none (Err BadPath) (inl (record {
      none_allowed = λ path rest begins. false_by (is_forward path) (λ allowed. none (rcpt_of path (rcpt_parameters_of rest)) (inr (after_rcpt text path rest begins allowed)));
      result_is = refl;
    }))
