-- Nothing that is filled into a report breaks a line.
use Rattle.std.proofs.Common.{◌≡◌, ℕ, nat_le, nat_lt, true, ◌&&◌, List, [], ◌∷◌, codes, length, Option, None, Some, refl}
use Rattle.std.proofs.lemmas.Bool.{and_parts}
use Rattle.std.proofs.lemmas.List.Sums.{AllPass-from_list_all}
use Rattle.std.specs.List.{list_all, AllByRecursion}
use Rattle.std.specs.Int.{is_in_range}
use Rattle.relay_octets.specs.Line.{HasNoCrlf}
use Rattle.relay_octets.proofs.Theorems.{no_cr_is_no_crlf, no_crlf_back, no_crlf_nil}
use Rattle.relay_envelope.specs.Xtext.{decoded}
use Rattle.relay_envelope.specs.Parameters.{address_of, address_type_of, are_readable, is_address_type, is_envid, is_orcpt, is_original_address, is_readable_xtext, is_type_octet}
use Rattle.relay_envelope.specs.Envelope.{IsRecipient, may_be_envid, may_be_orcpt}
use Rattle.relay_envelope.specs.declared.envelope.Recipient.{Recipient}
use Rattle.relay_envelope.proofs.Theorems.{host_name_is_host_word, host_word_has_no_crlf, mail_is_command_line, rcpt_is_command_line}
use Rattle.relay_book.specs.declared.change.Ruling.{Ruling}
use Rattle.relay_book.specs.declared.change.Verdict.{Verdict}
use Rattle.relay_book.specs.declared.change.Verdict.TheVariants.{Taken, Refused, Later, CantSend, NoRoute, Withdrawn}
use Rattle.relay_book.specs.Record.{IsRuling, IsVerdict, MayBeHop}
use Rattle.relay_report.specs.StatusFields.{octets_or, plain_of}
use Rattle.relay_report.specs.Lines.{HasPlainEnvid, HasPlainOrcpt, IsPlainRecipient, IsPlainRuling, IsPlainVerdict, ToldBreaksNoLine}

printable_none : (text : List ℕ) → list_all (is_in_range 32 126) text ≡ true → HasNoCrlf text
printable_none text each = no_cr_is_no_crlf (is_in_range 32 126) text refl (AllPass-from_list_all (is_in_range 32 126) text each)

-- xtext that stands for printable octets
readable_none : (text : List ℕ) → is_readable_xtext text ≡ true → HasNoCrlf (plain_of text)
unfolding is_readable_xtext
readable_none text readable = by (decoded text) readable
  where
    by : (o : Option (List ℕ)) → are_readable o ≡ true → HasNoCrlf (octets_or text o)
    by None is = printable_none text (cc)
    by (Some octets) is = printable_none octets is

envid_none : (envid : List ℕ) → is_envid envid ≡ true → HasNoCrlf (plain_of envid)
unfolding is_envid
envid_none envid is = readable_none envid (and_parts (is_in_range 1 100 (length envid)) (is_readable_xtext envid) is).1

type_none : (text : List ℕ) → is_address_type text ≡ true → HasNoCrlf text
unfolding is_address_type
type_none text is =
    no_cr_is_no_crlf is_type_octet text refl (AllPass-from_list_all is_type_octet text (and_parts (nat_lt 0 (length text)) (list_all is_type_octet text) is).1)

address_none : (text : List ℕ) → is_original_address text ≡ true → HasNoCrlf (plain_of text)
unfolding is_original_address
address_none text is = readable_none text (and_parts (nat_lt 0 (length text)) (is_readable_xtext text) is).1

orcpt_none : (orcpt : List ℕ) → is_orcpt orcpt ≡ true → HasNoCrlf (address_type_of orcpt) × HasNoCrlf (plain_of (address_of orcpt))
unfolding is_orcpt
orcpt_none orcpt is =
    let parts = and_parts (nat_le (length orcpt) 500 && is_address_type (address_type_of orcpt)) (is_original_address (address_of orcpt)) is in
    let front = and_parts (nat_le (length orcpt) 500) (is_address_type (address_type_of orcpt)) parts.0 in
    (type_none (address_type_of orcpt) front.1, address_none (address_of orcpt) parts.1)

plain_envid : (envid : Option (List ℕ)) → may_be_envid envid ≡ true → HasPlainEnvid envid
plain_envid None may = tt
plain_envid (Some envid) may = envid_none envid may

plain_orcpt : (orcpt : Option (List ℕ)) → may_be_orcpt orcpt ≡ true → HasPlainOrcpt orcpt
plain_orcpt None may = tt
plain_orcpt (Some orcpt) may = orcpt_none orcpt may

plain_recipient : (recipient : Recipient) → IsRecipient recipient → IsPlainRecipient recipient
plain_recipient recipient valid = record {
  path = no_crlf_back (codes "RCPT TO:") recipient.path (rcpt_is_command_line recipient valid).1.has_no_crlf;
  orcpt = plain_orcpt recipient.orcpt valid.orcpt;
}

plain_recipients : (recipients : List Recipient) → AllByRecursion IsRecipient recipients → AllByRecursion IsPlainRecipient recipients
plain_recipients [] each = tt
plain_recipients (recipient ∷ recipients) each = (plain_recipient recipient each.0, plain_recipients recipients each.1)

plain_verdict : (verdict : Verdict) → IsVerdict verdict → IsPlainVerdict verdict
plain_verdict (Taken dsn) valid = tt
plain_verdict (Refused code text) valid = no_cr_is_no_crlf (is_in_range 32 126) text refl valid.printable
plain_verdict Later valid = tt
plain_verdict CantSend valid = tt
plain_verdict NoRoute valid = tt
plain_verdict (Withdrawn withdrawal) valid = tt

plain_rulings : (rulings : List Ruling) → AllByRecursion IsRuling rulings → AllByRecursion IsPlainRuling rulings
plain_rulings [] each = tt
plain_rulings (ruling ∷ rulings) each = (plain_verdict ruling.verdict each.0.verdict, plain_rulings rulings each.1)

plain_hop : (hop : List ℕ) → MayBeHop hop → HasNoCrlf hop
plain_hop [] may = no_crlf_nil
plain_hop (octet ∷ octets) may = host_word_has_no_crlf (octet ∷ octets) (host_name_is_host_word (octet ∷ octets) may)

pub told_breaks_no_line : ToldBreaksNoLine
told_breaks_no_line told may = record {
  host = host_word_has_no_crlf told.host (host_name_is_host_word told.host may.host);
  hop = plain_hop told.hop may.hop;
  reverse_path = no_crlf_back (codes "MAIL FROM:") told.message.accept.envelope.reverse_path (mail_is_command_line told.message.accept.envelope may.accept.envelope).1.has_no_crlf;
  envid = plain_envid told.message.accept.envelope.envid may.accept.envelope.envid;
  recipients = plain_recipients told.message.accept.envelope.recipients may.accept.envelope.recipients;
  rulings = plain_rulings told.rulings may.rulings;
}
