-- Lengths that fit their fields.
use Rattle.std.proofs.Common.{◌≡◌, ℕ, ◌+◌, ◌<◌, ◌≤◌, ◌^◌, if◌then◌else◌, Bool, true, false, nat_le, List, [], ◌∷◌, length, Option, None, Some, sym, ap, ◌∙◌, arith, length-append}
use Rattle.std.proofs.lemmas.List.{length-map}
use Rattle.std.proofs.lemmas.Bool.{and_parts, leb-true}
use Rattle.std.specs.Char.{to_ascii_lowercase}
use Rattle.relay_envelope.specs.declared.envelope.Recipient.{Recipient}
use Rattle.relay_envelope.specs.Path.{Path, Null, Postmaster, Mailbox, IsPath, path_text}
use Rattle.relay_envelope.specs.Mailbox.{in_brackets}
use Rattle.relay_envelope.specs.Parameters.{is_envid, is_orcpt}
use Rattle.relay_envelope.specs.Envelope.{IsEnvelope, IsRecipient, IsWrittenPath, may_be_envid, may_be_orcpt}
use Rattle.relay_envelope.specs.declared.envelope.Envelope.{Envelope}
use Rattle.relay_book.specs.declared.change.Accept.{Accept as AcceptFields}
use Rattle.relay_book.specs.Record.{IsAccept, MayBeHop, is_null, text_limit, written}

in_brackets_length : (body : List ℕ) → length (in_brackets body) ≡ length body + 2
in_brackets_length body = let parts = length-append body (62 ∷ []) in omega (arith, parts)

path_short : (path : Path) → IsPath path → length (path_text path) ≤ 256
path_short Null valid = omega arith
path_short (Postmaster word) valid =
    let same = ap length valid in
    let word_length = length-map word to_ascii_lowercase in
    let all = in_brackets_length word in
    omega (arith, same, word_length, all)
path_short (Mailbox route local domain) valid = valid.1

pub written_path_fits : (is_allowed : Path → Bool) (text : List ℕ) → IsWrittenPath is_allowed text → length text < 2 ^ 16
written_path_fits is_allowed text valid =
    let short = path_short valid.path valid.valid in
    let same = ap length valid.text_is in
    omega (arith, short, same)

pub path_fits : (recipient : Recipient) → IsRecipient recipient → length recipient.path < 2 ^ 16
path_fits recipient valid = written_path_fits _ recipient.path valid.path

orcpt_short : (orcpt : List ℕ) → is_orcpt orcpt ≡ true → length orcpt ≤ 500
unfolding is_orcpt
orcpt_short orcpt valid =
    let parts = and_parts _ _ valid in
    let first = and_parts (nat_le (length orcpt) 500) _ parts.0 in
    leb-true (length orcpt) 500 first.0

pub written_orcpt_fits : (orcpt : Option (List ℕ)) → may_be_orcpt orcpt ≡ true → length (written orcpt) < 2 ^ 16
written_orcpt_fits None valid = omega arith
written_orcpt_fits (Some orcpt) valid = let short = orcpt_short orcpt valid in omega (arith, short)

envid_short : (envid : List ℕ) → is_envid envid ≡ true → length envid ≤ 100
unfolding is_envid
envid_short envid valid =
    let parts = and_parts _ _ valid in
    let range = and_parts (nat_le 1 (length envid)) (nat_le (length envid) 100) parts.0 in
    leb-true (length envid) 100 range.1

pub written_envid_fits : (envid : Option (List ℕ)) → may_be_envid envid ≡ true → length (written envid) < 2 ^ 16
written_envid_fits None valid = omega arith
written_envid_fits (Some envid) valid = let short = envid_short envid valid in omega (arith, short)

pub given_orcpt_fits : (recipient : Recipient) (orcpt : List ℕ) → IsRecipient recipient → recipient.orcpt ≡ Some orcpt → length orcpt < 2 ^ 16
given_orcpt_fits recipient orcpt valid is = written_orcpt_fits (Some orcpt) (sym (ap may_be_orcpt is) ∙ valid.orcpt)

pub given_envid_fits : (envelope : Envelope) (envid : List ℕ) → IsEnvelope envelope → envelope.envid ≡ Some envid → length envid < 2 ^ 16
given_envid_fits envelope envid valid is = written_envid_fits (Some envid) (sym (ap may_be_envid is) ∙ valid.envid)

pub reverse_path_fits : (envelope : Envelope) → IsEnvelope envelope → length envelope.reverse_path < 2 ^ 16
reverse_path_fits envelope valid = written_path_fits _ envelope.reverse_path valid.reverse_path

cases_limit : (test : Bool) → (if test then 2 ^ 26 else 2 ^ 25) ≤ 2 ^ 26
cases_limit true = omega arith
cases_limit false = omega arith

-- any stored text fits a length of four octets
pub limit_fits : (reverse_path : List ℕ) → text_limit reverse_path ≤ 2 ^ 26
limit_fits reverse_path = cases_limit (is_null reverse_path)

pub text_fits : (accept : AcceptFields) → IsAccept accept → length accept.stored_text < 2 ^ 32
text_fits accept valid = let text = valid.text in let limit = limit_fits accept.envelope.reverse_path in omega (arith, text, limit)

hop_short : (hop : List ℕ) → MayBeHop hop → length hop ≤ 255
hop_short [] valid = omega arith
hop_short (octet ∷ octets) valid = valid.few_octets

pub hop_fits : (hop : List ℕ) → MayBeHop hop → length hop < 2 ^ 16
hop_fits hop valid = let short = hop_short hop valid in omega (arith, short)

-- fields whose lengths fit their octets
pub ruleset fields_fit = (reverse_path_fits, given_envid_fits, text_fits)
