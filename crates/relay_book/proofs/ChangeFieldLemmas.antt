-- Where the octets are the record of no change; two changes have two records.
use Rattle.std.proofs.Common.{◌≡◌, ◌≢◌, ℕ, ◌≤◌, List, [], ◌∷◌, drop, length, refl, sym, ap, ◌∙◌, arith}
use Rattle.relay_book.specs.declared.version.Version.{Version}
use Rattle.relay_book.specs.declared.version.Version.TheVariants.{WithoutDelay, WithDelay, WithWithdrawal}
use Rattle.relay_book.specs.declared.change.Accept.{Accept as AcceptFields}
use Rattle.relay_book.specs.declared.change.Outcome.{Outcome as OutcomeFields}
use Rattle.relay_book.specs.declared.change.Change.{Change}
use Rattle.relay_book.specs.declared.change.Change.TheVariants.{Accept, Outcome}
use Rattle.relay_book.specs.Record.{EncodingIsOne, IsAccept, IsChange, IsNoRecord, IsOutcome, accept_octets, encode, outcome_kind, outcome_octets, ret_number, written}
use Rattle.relay_book.specs.Fields.{SpellsNoAccept, SpellsNoneOf}
use Rattle.relay_book.proofs.CodeLemmas.{first_of}
use Rattle.relay_book.proofs.AcceptLemmas.{accepts_are_one, spells_accept}
use Rattle.relay_book.proofs.OutcomeLemmas.{same_as, spells_outcome}
use Rattle.relay_book.proofs.ValueLemmas.{envid_is_one, ret_is_one}

pub kinds_are_one : (version other : Version) → outcome_kind version ≡ outcome_kind other → version ≡ other
kinds_are_one WithoutDelay WithoutDelay e = refl
kinds_are_one WithDelay WithDelay e = refl
kinds_are_one WithWithdrawal WithWithdrawal e = refl
kinds_are_one WithoutDelay WithDelay e = absurd (omega (arith, e))
kinds_are_one WithoutDelay WithWithdrawal e = absurd (omega (arith, e))
kinds_are_one WithDelay WithoutDelay e = absurd (omega (arith, e))
kinds_are_one WithDelay WithWithdrawal e = absurd (omega (arith, e))
kinds_are_one WithWithdrawal WithoutDelay e = absurd (omega (arith, e))
kinds_are_one WithWithdrawal WithDelay e = absurd (omega (arith, e))

kind_within : (version : Version) → (1 ≤ outcome_kind version) × (outcome_kind version ≡ 1 → ⊥)
kind_within WithoutDelay = (omega arith, λ e. omega (arith, e))
kind_within WithDelay = (omega arith, λ e. omega (arith, e))
kind_within WithWithdrawal = (omega arith, λ e. omega (arith, e))

kind_above : (change : Change) → 1 ≤ first_of (encode change)
kind_above (Accept accept) = omega arith
kind_above (Outcome outcome) = (kind_within outcome.version).0

first_of_none : (text : List ℕ) → length text ≡ 0 → first_of text ≡ 0
first_of_none [] empty = refl
first_of_none (octet ∷ octets) empty = omega (arith, empty)

pub no_octet : (text : List ℕ) → length text ≡ 0 → IsNoRecord text
no_octet text empty = record {
  none = λ change valid e.
      let kind = kind_above change in
      let same = ap first_of e in
      let none = first_of_none text empty in
      omega (arith, kind, same, none);
}

pub no_kind : (text : List ℕ) (kind : ℕ) (fields : List ℕ) → text ≡ kind ∷ fields → kind ≢ 1 → kind ≢ 2 → kind ≢ 4 → kind ≢ 6 → IsNoRecord text
no_kind text kind fields is one two four six = record { none = λ change valid e. by change (ap first_of (sym is ∙ e)) }
  where
    of_version : (version : Version) → kind ≡ outcome_kind version → ⊥
    of_version WithoutDelay same = two same
    of_version WithDelay same = four same
    of_version WithWithdrawal same = six same

    by : (change : Change) → kind ≡ first_of (encode change) → ⊥
    by (Accept accept) same = one same
    by (Outcome outcome) same = of_version outcome.version same

other_kind : (kind : ℕ) (fields other : List ℕ) (n : ℕ) → kind ∷ fields ≡ n ∷ other → (kind ≡ n → ⊥) → ⊥
other_kind kind fields other n e off = off (ap first_of e)

pub no_accept : (text fields : List ℕ) → text ≡ 1 ∷ fields → SpellsNoAccept fields → IsNoRecord text
no_accept text fields is out = record { none = λ change valid e. by change valid (sym is ∙ e) }
  where
    by : (change : Change) → IsChange change → 1 ∷ fields ≡ encode change → ⊥
    by (Accept accept) valid e = out.none accept valid (ap (drop 1) e)
    by (Outcome outcome) valid e =
        other_kind 1 fields (outcome_octets outcome) (outcome_kind outcome.version) e (λ same. (kind_within outcome.version).1 (sym same))

pub no_outcome : (version : Version) (text fields : List ℕ) → text ≡ outcome_kind version ∷ fields → SpellsNoneOf version fields → IsNoRecord text
no_outcome version text fields is out = record { none = λ change valid e. by change valid (sym is ∙ e) }
  where
    by : (change : Change) → IsChange change → outcome_kind version ∷ fields ≡ encode change → ⊥
    by (Accept accept) valid e = other_kind (outcome_kind version) fields (accept_octets accept) 1 e (kind_within version).1
    by (Outcome outcome) valid e =
        out.none outcome valid (kinds_are_one outcome.version version (sym (ap first_of e))) (ap (drop 1) e)

accept_is_one : (accept other : AcceptFields) → IsAccept accept → IsAccept other → accept_octets accept ≡ accept_octets other → accept ≡ other
accept_is_one accept other valid also e =
    let text = accept_octets accept in
    let same = accepts_are_one text accept.at accept.envelope.reverse_path (ret_number accept.envelope.ret) (written accept.envelope.envid) accept.envelope.recipients accept.stored_text
    other.at other.envelope.reverse_path (ret_number other.envelope.ret) (written other.envelope.envid) other.envelope.recipients other.stored_text
    (spells_accept text accept valid refl) (spells_accept text other also e) in
    let ret = ret_is_one accept.envelope.ret other.envelope.ret same.ret_is in
    let envid = envid_is_one accept.envelope.envid other.envelope.envid valid.envelope.envid also.envelope.envid same.envid_is in
    (λ i. record {
      at = same.at_is i;
      envelope = record { reverse_path = same.path_is i; ret = ret i; envid = envid i; recipients = same.recipients_are i };
      stored_text = same.stored_is i;
    })

outcome_is_one : (outcome other : OutcomeFields) → IsOutcome outcome → IsOutcome other → outcome.version ≡ other.version
    → outcome_octets outcome ≡ outcome_octets other → outcome ≡ other
outcome_is_one outcome other valid also version e =
    let text = outcome_octets outcome in
    let same = same_as text outcome.message outcome.at outcome.hop outcome.rulings outcome.report other (spells_outcome text outcome valid refl) also e in
    (λ i. record { version = version i; message = same.message_is i; at = same.at_is i; hop = same.hop_is i; rulings = same.rulings_are i; report = same.report_is i })

pub encoding_is_one : EncodingIsOne
encoding_is_one (Accept accept) (Accept other) valid also e = ap Accept (accept_is_one accept other valid also (ap (drop 1) e))
encoding_is_one (Accept accept) (Outcome other) valid also e =
    absurd (other_kind 1 (accept_octets accept) (outcome_octets other) (outcome_kind other.version) e (λ same. (kind_within other.version).1 (sym same)))
encoding_is_one (Outcome outcome) (Accept other) valid also e =
    absurd (other_kind (outcome_kind outcome.version) (outcome_octets outcome) (accept_octets other) 1 e (kind_within outcome.version).1)
encoding_is_one (Outcome outcome) (Outcome other) valid also e =
    ap Outcome (outcome_is_one outcome other valid also (kinds_are_one outcome.version other.version (ap first_of e)) (ap (drop 1) e))

-- octets that are no record of a change
pub ruleset refused_changes = (no_octet, no_kind, no_accept, no_outcome)
