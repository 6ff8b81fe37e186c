-- Values of fields are one for each number or text.
use Rattle.std.proofs.Common.{◌≡◌, ℕ, ◌==◌, ◌||◌, Bool, true, false, List, [], ◌∷◌, ◌++◌, drop, length, Option, None, Some, refl, sym, ap, ◌∙◌, append_assoc, if◌then◌else◌, arith}
use Rattle.std.proofs.lemmas.Bool.{false≢true}
use Rattle.relay_envelope.specs.declared.parameters.Ret.{Ret}
use Rattle.relay_envelope.specs.declared.parameters.Ret.TheVariants.{Full, Hdrs}
use Rattle.relay_envelope.specs.declared.parameters.Notify.{Notify}
use Rattle.relay_envelope.specs.declared.parameters.Notify.TheVariants.{Never, On}
use Rattle.relay_envelope.specs.Parameters.{is_envid, is_orcpt, is_address_type}
use Rattle.relay_envelope.specs.Envelope.{IsRecipient, may_be_envid, may_be_notify, may_be_orcpt, outcomes_of}
use Rattle.relay_book.specs.declared.change.Verdict.{Verdict}
use Rattle.relay_book.specs.declared.change.Withdrawal.TheVariants.{Return, Discard}
use Rattle.relay_book.specs.declared.change.Verdict.TheVariants.{Taken, Refused, Later, CantSend, NoRoute, Withdrawn}
use Rattle.relay_book.specs.Record.{IsRefusal, IsRuling, IsVerdict, notify_number, octets_2, recipient_octets, ret_number, ruling_octets, verdict_octets, written}
use Rattle.relay_book.specs.Fields.{refusal_octets}
use Rattle.relay_book.proofs.CodeLemmas.{first_of, IsCode, code_2, fronts}
use Rattle.relay_book.proofs.FieldLemmas.{fields_are_one, same_head, spells}

-- RET
ret_from : ℕ → Option Ret
ret_from number = if number == 0 then None else (if number == 1 then Some Full else Some Hdrs)

ret_again : (ret : Option Ret) → ret_from (ret_number ret) ≡ ret
unfolding ret_from
ret_again None = refl
ret_again (Some Full) = refl
ret_again (Some Hdrs) = refl

pub ret_is_one : (ret other : Option Ret) → ret_number ret ≡ ret_number other → ret ≡ other
ret_is_one ret other same = sym (ret_again ret) ∙ ap ret_from same ∙ ret_again other

-- NOTIFY
notify_from : ℕ → Option Notify
notify_from n =
    if n == 0 then None else (if n == 1 then Some Never
    else Some (On (outcomes_of (n == 2 || n == 6 || n == 10 || n == 14) (n == 4 || n == 6 || n == 12 || n == 14) (n == 8 || n == 10 || n == 12 || n == 14))))

outcomes_again : (success failure delay : Bool) → (success || failure || delay) ≡ true
    → notify_from (notify_number (Some (On (outcomes_of success failure delay)))) ≡ Some (On (outcomes_of success failure delay))
unfolding notify_from
outcomes_again true true true some = refl
outcomes_again true true false some = refl
outcomes_again true false true some = refl
outcomes_again true false false some = refl
outcomes_again false true true some = refl
outcomes_again false true false some = refl
outcomes_again false false true some = refl
outcomes_again false false false some = absurd (false≢true some)

notify_again : (notify : Option Notify) → may_be_notify notify ≡ true → notify_from (notify_number notify) ≡ notify
unfolding notify_from
notify_again None valid = refl
notify_again (Some Never) valid = refl
notify_again (Some (On outcomes)) valid = outcomes_again outcomes.success outcomes.failure outcomes.delay valid

pub notify_is_one : (notify other : Option Notify) → may_be_notify notify ≡ true → may_be_notify other ≡ true → notify_number notify ≡ notify_number other → notify ≡ other
notify_is_one notify other valid also same = sym (notify_again notify valid) ∙ ap notify_from same ∙ notify_again other also

-- ORCPT and ENVID: what was given isn't empty
no_orcpt_is_empty : is_orcpt [] ≡ false
unfolding is_orcpt is_address_type
no_orcpt_is_empty = refl

no_envid_is_empty : is_envid [] ≡ false
unfolding is_envid
no_envid_is_empty = refl

-- a text that was given or not
texts_are_one : (test : List ℕ → Bool) → test [] ≡ false → (given other : Option (List ℕ)) → (given ≡ Some [] → ⊥) → (other ≡ Some [] → ⊥) → written given ≡ written other → given ≡ other
texts_are_one test none None None some also same = refl
texts_are_one test none None (Some text) some also same = absurd (also (ap Some (sym same)))
texts_are_one test none (Some text) None some also same = absurd (some (ap Some same))
texts_are_one test none (Some text) (Some other) some also same = ap Some same

orcpt_is_some : (given : Option (List ℕ)) → may_be_orcpt given ≡ true → given ≡ Some [] → ⊥
orcpt_is_some given valid is = false≢true (sym no_orcpt_is_empty ∙ sym (ap may_be_orcpt is) ∙ valid)

envid_is_some : (given : Option (List ℕ)) → may_be_envid given ≡ true → given ≡ Some [] → ⊥
envid_is_some given valid is = false≢true (sym no_envid_is_empty ∙ sym (ap may_be_envid is) ∙ valid)

pub orcpt_is_one : (given other : Option (List ℕ)) → may_be_orcpt given ≡ true → may_be_orcpt other ≡ true → written given ≡ written other → given ≡ other
orcpt_is_one given other valid also same = texts_are_one is_orcpt no_orcpt_is_empty given other (orcpt_is_some given valid) (orcpt_is_some other also) same

pub envid_is_one : (given other : Option (List ℕ)) → may_be_envid given ≡ true → may_be_envid other ≡ true → written given ≡ written other → given ≡ other
envid_is_one given other valid also same = texts_are_one is_envid no_envid_is_empty given other (envid_is_some given valid) (envid_is_some other also) same

-- recipients
pub code_recipient : IsCode IsRecipient recipient_octets
code_recipient one two x y valid also e =
    let text = recipient_octets one ++ x in
    let same = fields_are_one text one.path (notify_number one.notify) (written one.orcpt) x two.path (notify_number two.notify) (written two.orcpt) y (spells text x one valid refl) (spells text y two also e) in
    let notify = notify_is_one one.notify two.notify valid.notify also.notify same.1 in
    let orcpt = orcpt_is_one one.orcpt two.orcpt valid.orcpt also.orcpt same.2 in
    ((λ i. record { path = same.0 i; notify = notify i; orcpt = orcpt i }), same.3)

-- verdicts by their numbers
unfoldable pub tag : Verdict → ℕ
tag (Taken true) = 1
tag (Taken false) = 2
tag (Refused code text) = 3
tag Later = 4
tag CantSend = 5
tag NoRoute = 6
tag (Withdrawn Return) = 7
tag (Withdrawn Discard) = 8

from_tag : ℕ → Verdict
from_tag n =
    if n == 1 then Taken true else (if n == 2 then Taken false else (if n == 4 then Later else (if n == 5 then CantSend
    else (if n == 7 then Withdrawn Return else (if n == 8 then Withdrawn Discard else NoRoute)))))

is_refusal : Verdict → Bool
is_refusal (Taken dsn) = false
is_refusal (Refused code text) = true
is_refusal Later = false
is_refusal CantSend = false
is_refusal NoRoute = false
is_refusal (Withdrawn withdrawal) = false

by_tag : (verdict : Verdict) → is_refusal verdict ≡ (tag verdict == 3)
unfolding is_refusal tag
by_tag (Taken true) = refl
by_tag (Taken false) = refl
by_tag (Refused code text) = refl
by_tag Later = refl
by_tag CantSend = refl
by_tag NoRoute = refl
by_tag (Withdrawn Return) = refl
by_tag (Withdrawn Discard) = refl

plain_again : (verdict : Verdict) → is_refusal verdict ≡ false → from_tag (tag verdict) ≡ verdict
unfolding is_refusal tag from_tag
plain_again (Taken true) plain = refl
plain_again (Taken false) plain = refl
plain_again (Refused code text) plain = absurd (false≢true (sym plain))
plain_again Later plain = refl
plain_again CantSend plain = refl
plain_again NoRoute plain = refl
plain_again (Withdrawn Return) plain = refl
plain_again (Withdrawn Discard) plain = refl

plain_text : (verdict : Verdict) (rest : List ℕ) → is_refusal verdict ≡ false → verdict_octets verdict ++ rest ≡ tag verdict ∷ rest
unfolding is_refusal tag
plain_text (Taken true) rest plain = refl
plain_text (Taken false) rest plain = refl
plain_text (Refused code text) rest plain = absurd (false≢true (sym plain))
plain_text Later rest plain = refl
plain_text CantSend rest plain = refl
plain_text NoRoute rest plain = refl
plain_text (Withdrawn Return) rest plain = refl
plain_text (Withdrawn Discard) rest plain = refl

pub tag_first : (verdict : Verdict) (rest : List ℕ) → first_of (verdict_octets verdict ++ rest) ≡ tag verdict
unfolding tag
tag_first (Taken true) rest = refl
tag_first (Taken false) rest = refl
tag_first (Refused code text) rest = refl
tag_first Later rest = refl
tag_first CantSend rest = refl
tag_first NoRoute rest = refl
tag_first (Withdrawn Return) rest = refl
tag_first (Withdrawn Discard) rest = refl

-- a refusal's fields are one
pub refusal_is_one : (code other : ℕ) (text field x y : List ℕ) → IsRefusal code text → IsRefusal other field → refusal_octets code text ++ x ≡ refusal_octets other field ++ y
    → (code ≡ other) × (text ≡ field) × (x ≡ y)
refusal_is_one code other text field x y valid also e =
    let first = code_2 code other (length text ∷ (text ++ x)) (length field ∷ (field ++ y)) (omega (arith, valid.high)) (omega (arith, also.high))
    (sym (append_assoc (octets_2 code) (length text ∷ text) x) ∙ e ∙ append_assoc (octets_2 other) (length field ∷ field) y) in
    let second = same_head (length text) (length field) (text ++ x) (field ++ y) first.1 in
    let third = fronts (length field) text field x y second.0 refl second.1 in
    (first.0, third.0, third.1)

code_refusals : (code other : ℕ) (text field x y : List ℕ) → IsRefusal code text → IsRefusal other field
    → verdict_octets (Refused code text) ++ x ≡ verdict_octets (Refused other field) ++ y → (Refused code text ≡ Refused other field) × (x ≡ y)
code_refusals code other text field x y valid also e =
    let same = refusal_is_one code other text field x y valid also (ap (drop 1) e) in
    ((λ i. Refused (same.0 i) (same.1 i)), same.2)

refusals_are_one : (v w : Verdict) (x y : List ℕ) → IsVerdict v → IsVerdict w → is_refusal v ≡ true → is_refusal w ≡ true → verdict_octets v ++ x ≡ verdict_octets w ++ y → (v ≡ w) × (x ≡ y)
unfolding is_refusal
refusals_are_one (Refused code text) (Refused other field) x y hv hw r s e = code_refusals code other text field x y hv hw e
refusals_are_one (Taken dsn) w x y hv hw r s e = absurd (false≢true r)
refusals_are_one Later w x y hv hw r s e = absurd (false≢true r)
refusals_are_one CantSend w x y hv hw r s e = absurd (false≢true r)
refusals_are_one NoRoute w x y hv hw r s e = absurd (false≢true r)
refusals_are_one (Withdrawn withdrawal) w x y hv hw r s e = absurd (false≢true r)
refusals_are_one (Refused code text) (Taken dsn) x y hv hw r s e = absurd (false≢true s)
refusals_are_one (Refused code text) Later x y hv hw r s e = absurd (false≢true s)
refusals_are_one (Refused code text) CantSend x y hv hw r s e = absurd (false≢true s)
refusals_are_one (Refused code text) NoRoute x y hv hw r s e = absurd (false≢true s)
refusals_are_one (Refused code text) (Withdrawn withdrawal) x y hv hw r s e = absurd (false≢true s)

pub code_verdict : IsCode IsVerdict verdict_octets
code_verdict one two x y valid also e = by (is_refusal one) refl
  where
    same_tag : tag one ≡ tag two
    same_tag = sym (tag_first one x) ∙ ap first_of e ∙ tag_first two y

    alike : is_refusal two ≡ is_refusal one
    alike = by_tag two ∙ ap (λ (n : ℕ). n == 3) (sym same_tag) ∙ sym (by_tag one)

    by : (test : Bool) → is_refusal one ≡ test → (one ≡ two) × (x ≡ y)
    by true r = refusals_are_one one two x y valid also r (alike ∙ r) e
    by false r = (
      sym (plain_again one r) ∙ ap from_tag same_tag ∙ plain_again two (alike ∙ r),
      ap (drop 1) (sym (plain_text one x r) ∙ e ∙ plain_text two y (alike ∙ r)),
    )

pub code_ruling : IsCode IsRuling ruling_octets
code_ruling one two x y valid also e =
    let first = same_head one.place two.place (verdict_octets one.verdict ++ x) (verdict_octets two.verdict ++ y) e in
    let second = code_verdict one.verdict two.verdict x y valid.verdict also.verdict first.1 in
    ((λ i. record { place = first.0 i; verdict = second.0 i }), second.1)
