-- What stands before the recipients or the verdicts of a record.
use Rattle.std.proofs.Common.{◌≡◌, inl, inr, ℕ, ◌≤◌, ◌<◌, ◌^◌, List, ◌∷◌, ◌++◌, length, refl, arith}
use Rattle.relay_envelope.specs.declared.envelope.Envelope.{Envelope}
use Rattle.relay_envelope.specs.declared.envelope.Recipient.{Recipient}
use Rattle.relay_book.specs.declared.version.Version.{Version}
use Rattle.relay_book.specs.declared.change.Ruling.{Ruling}
use Rattle.relay_book.specs.Record.{octets_8, outcome_kind, written}
use Rattle.relay_book.specs.Fields.{BeginsAccept, BeginsWithHop, BeginsWithMail, HasCount}
use Rattle.relay_book.specs.Fields.{MayBeRecord, SpellsAccept, SpellsFields, SpellsHead}
use Rattle.relay_book.specs.Fields.{SpellsOutcome}
use Rattle.relay_book.proofs.FitLemmas.{reverse_path_fits, written_envid_fits}
use Rattle.relay_book.proofs.ChangeFieldLemmas.{no_accept}
use Rattle.relay_book.proofs.AcceptLemmas.{begins_record}

pub has_count : (text : List ℕ) (count : ℕ) (rest : List ℕ) → text ≡ count ∷ rest → 1 ≤ count
    → count ≤ 100 → HasCount text
has_count text count rest is some within = record {
  count = count;
  rest = rest;
  text_is = is;
  some = some;
  within = within;
}

pub begins_with_mail : (text : List ℕ) (at : ℕ) (said path : List ℕ) (ret : ℕ)
    (envid recipients : List ℕ) → text ≡ octets_8 at ++ said → at < 2 ^ 64
    → SpellsFields said path ret envid recipients → HasCount recipients → BeginsWithMail text
begins_with_mail text at said path ret envid recipients is fits mail counts = record {
  at = at;
  said = said;
  path = path;
  ret = ret;
  envid = envid;
  recipients = recipients;
  text_is = is;
  at_fits = fits;
  mail = mail;
  counts = counts;
}

pub spelled_with_mail : (text : List ℕ) (at : ℕ) (path : List ℕ) (ret : ℕ) (envid : List ℕ)
    (recipients : List Recipient) (stored : List ℕ)
    → SpellsAccept text at path ret envid recipients stored → BeginsWithMail text
spelled_with_mail text at path ret envid recipients stored spelled =
    let are = spelled.are_recipients in
    begins_with_mail text at _ path ret envid _ spelled.text_is spelled.at_fits
    (record { text_is = refl; first_fits = spelled.path_fits; second_fits = spelled.envid_fits })
    (has_count _ (length recipients) _ refl are.some are.within)

pub begun_with_mail : (text : List ℕ) (at : ℕ) (envelope : Envelope) (head : ℕ)
    → BeginsAccept text at envelope head → BeginsWithMail text
begun_with_mail text at envelope head begun =
    let valid = begun.valid in
    let moment = valid.moment in
    begins_with_mail text at _ envelope.reverse_path _ (written envelope.envid) _ begun.text_is
    (omega (arith, moment))
    (record {
      text_is = refl;
      first_fits = reverse_path_fits envelope valid.envelope;
      second_fits = written_envid_fits envelope.envid valid.envelope.envid;
    })
    (has_count _ (length envelope.recipients) _ refl valid.envelope.some valid.envelope.within)

pub begins_with_hop : (text : List ℕ) (message at : ℕ) (hop rulings : List ℕ)
    → SpellsHead text message at hop rulings → HasCount rulings → BeginsWithHop text
begins_with_hop text message at hop rulings head counts = record {
  message = message;
  at = at;
  hop = hop;
  rulings = rulings;
  head = head;
  counts = counts;
}

pub spelled_with_hop : (text : List ℕ) (message at : ℕ) (hop : List ℕ) (rulings : List Ruling)
    (report : List ℕ) → SpellsOutcome text message at hop rulings report → BeginsWithHop text
spelled_with_hop text message at hop rulings report spelled =
    let are = spelled.are_rulings in
    begins_with_hop text message at hop _
    (record {
      text_is = spelled.text_is;
      message_fits = spelled.message_fits;
      at_fits = spelled.at_fits;
      hop_fits = spelled.hop_fits;
    })
    (has_count _ (length rulings) _ refl are.some are.within)

pub may_be_accept : (text fields : List ℕ) → text ≡ 1 ∷ fields → BeginsWithMail fields
    → MayBeRecord text
may_be_accept text fields is begins =
    record { begins = inl (record { fields = fields; text_is = is; begins = begins }) }

pub may_be_outcome : (version : Version) (text fields : List ℕ) → text ≡ outcome_kind version ∷ fields
    → BeginsWithHop fields → MayBeRecord text
may_be_outcome version text fields is begins =
    record { begins = inr (version, record { fields = fields; text_is = is; begins = begins }) }

-- octets that may begin one
pub ruleset begun_changes = (may_be_accept, may_be_outcome)

-- a record of an accept, of which the text may be cut off
pub ruleset accept_records = (no_accept, begins_record, may_be_accept)
