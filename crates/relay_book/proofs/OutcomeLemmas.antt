-- The fields of an outcome are one.
use Rattle.std.proofs.Common.{◌≡◌, ℕ, ◌<◌, ◌≤◌, ◌^◌, List, [], ◌++◌, length, sym, subst, ap, ◌∙◌, arith, append-nil}
use Rattle.relay_trace.specs.declared.moment.TheConstants.{LAST_SECOND}
use Rattle.relay_book.specs.declared.version.Version.{Version}
use Rattle.relay_book.specs.declared.change.Outcome.{Outcome as OutcomeFields}
use Rattle.relay_book.specs.declared.change.Ruling.{Ruling}
use Rattle.relay_book.specs.Record.{AreOfVersion, IsOutcome, IsRuling, MayBeHop, counted, octets_2, octets_4, octets_8, outcome_octets, ruling_octets, sized_2, sized_4}
use Rattle.relay_book.specs.Fields.{AreSome, HasNoCounted, HasNoHead, HasNoSized, IsNoSized, SpellsHead, SpellsNoOutcome, SpellsNoneOf, SpellsOutcome}
use Rattle.relay_book.proofs.CodeLemmas.{code_2, code_4, code_8, code_sized}
use Rattle.relay_book.proofs.FitLemmas.{hop_fits}
use Rattle.relay_book.proofs.AcceptLemmas.{long_8}
use Rattle.relay_book.proofs.RowLemmas.{counted_are_one}
use Rattle.relay_book.proofs.ValueLemmas.{code_ruling}

-- an outcome spells its fields
pub spells_outcome : (text : List ℕ) (outcome : OutcomeFields) → IsOutcome outcome → text ≡ outcome_octets outcome
    → SpellsOutcome text outcome.message outcome.at outcome.hop outcome.rulings outcome.report
spells_outcome text outcome valid e = record {
  text_is = e;
  message_fits = valid.message;
  at_fits = let moment = valid.moment in omega (arith, moment);
  hop_fits = hop_fits outcome.hop valid.hop;
  are_rulings = record { some = valid.some; within = valid.within; valid = valid.rulings };
  report_fits = let report = valid.report in omega (arith, report);
}

pub are_rulings : (outcome : OutcomeFields) → IsOutcome outcome → AreSome IsRuling outcome.rulings
are_rulings outcome valid = record { some = valid.some; within = valid.within; valid = valid.rulings }

outcome_head : (text : List ℕ) (outcome : OutcomeFields) → IsOutcome outcome → text ≡ outcome_octets outcome
    → SpellsHead text outcome.message outcome.at outcome.hop (counted ruling_octets outcome.rulings ++ sized_4 outcome.report)
outcome_head text outcome valid e = record {
  text_is = e;
  message_fits = valid.message;
  at_fits = let moment = valid.moment in omega (arith, moment);
  hop_fits = hop_fits outcome.hop valid.hop;
}

-- a text has one head
heads_are_one : (text : List ℕ) (message at : ℕ) (hop rest : List ℕ) (message2 at2 : ℕ) (hop2 rest2 : List ℕ) → SpellsHead text message at hop rest → SpellsHead text message2 at2 hop2 rest2
    → (message ≡ message2) × (at ≡ at2) × (hop ≡ hop2) × (rest ≡ rest2)
heads_are_one text message at hop rest message2 at2 hop2 rest2 one two =
    let first = code_8 message message2 _ _ one.message_fits two.message_fits (sym one.text_is ∙ two.text_is) in
    let second = code_8 at at2 _ _ one.at_fits two.at_fits first.1 in
    let third = code_sized octets_2 (2 ^ 16) code_2 hop hop2 rest rest2 one.hop_fits two.hop_fits second.1 in
    (first.0, second.0, third.0, third.1)

-- where a part of the head is missing
pub no_message : (text : List ℕ) → length text < 8 → HasNoHead text
no_message text short = record { none = λ message at hop rest two. let long = long_8 text message _ two.text_is in omega (arith, short, long) }

pub no_moment : (text : List ℕ) (message : ℕ) (after : List ℕ) → text ≡ octets_8 message ++ after → message < 2 ^ 64 → length after < 8 → HasNoHead text
no_moment text message after is small short = record {
  none = λ other at hop rest two.
      let long = long_8 after at _ (code_8 message other after _ small two.message_fits (sym is ∙ two.text_is)).1 in
      omega (arith, short, long);
}

pub no_hop : (text : List ℕ) (message : ℕ) (after : List ℕ) (at : ℕ) (more : List ℕ) → text ≡ octets_8 message ++ after → message < 2 ^ 64 → after ≡ octets_8 at ++ more → at < 2 ^ 64
    → HasNoSized more → HasNoHead text
no_hop text message after at more is small at_is at_small out = record {
  none = λ other at2 hop rest two.
      let first = code_8 message other after _ small two.message_fits (sym is ∙ two.text_is) in
      let second = code_8 at at2 more _ at_small two.at_fits (sym at_is ∙ first.1) in
      out.none hop rest two.hop_fits second.1;
}

pub head_is : (text : List ℕ) (message : ℕ) (after : List ℕ) (at : ℕ) (more hop rest : List ℕ) → text ≡ octets_8 message ++ after → message < 2 ^ 64 → after ≡ octets_8 at ++ more → at < 2 ^ 64
    → more ≡ sized_2 hop ++ rest → length hop < 2 ^ 16 → SpellsHead text message at hop rest
head_is text message after at more hop rest is small at_is at_small hop_is hop_small = record {
  text_is = is ∙ ap (λ (l : List ℕ). octets_8 message ++ l) (at_is ∙ ap (λ (l : List ℕ). octets_8 at ++ l) hop_is);
  message_fits = small;
  at_fits = at_small;
  hop_fits = hop_small;
}

-- where a field is missing
pub no_head : (text : List ℕ) → HasNoHead text → SpellsNoOutcome text
no_head text out = record { none = λ outcome valid e. out.none _ _ _ _ (outcome_head text outcome valid e) }

after_head : (text : List ℕ) (message at : ℕ) (hop rest : List ℕ) (outcome : OutcomeFields) → SpellsHead text message at hop rest → IsOutcome outcome → text ≡ outcome_octets outcome
    → rest ≡ counted ruling_octets outcome.rulings ++ sized_4 outcome.report
after_head text message at hop rest outcome head valid e = (heads_are_one text message at hop rest _ _ _ _ head (outcome_head text outcome valid e)).3

pub no_rulings : (text : List ℕ) (message at : ℕ) (hop rest : List ℕ) → SpellsHead text message at hop rest → HasNoCounted IsRuling ruling_octets rest → SpellsNoOutcome text
no_rulings text message at hop rest head out = record {
  none = λ outcome valid e. out.none outcome.rulings (sized_4 outcome.report) (are_rulings outcome valid) (after_head text message at hop rest outcome head valid e);
}

pub no_report : (text : List ℕ) (message at : ℕ) (hop rest : List ℕ) (rulings : List Ruling) (last : List ℕ) → SpellsHead text message at hop rest
    → rest ≡ counted ruling_octets rulings ++ last → AreSome IsRuling rulings → IsNoSized last → SpellsNoOutcome text
no_report text message at hop rest rulings last head counted_is some out = record {
  none = λ outcome valid e.
      let same = counted_are_one IsRuling ruling_octets code_ruling rulings outcome.rulings last (sized_4 outcome.report) some (are_rulings outcome valid)
      (sym counted_is ∙ after_head text message at hop rest outcome head valid e) in
      let report = valid.report in
      out.none outcome.report (omega (arith, report)) same.1;
}

pub outcome_spelled : (text : List ℕ) (message at : ℕ) (hop rest : List ℕ) (rulings : List Ruling) (last report : List ℕ) → SpellsHead text message at hop rest
    → rest ≡ counted ruling_octets rulings ++ last → AreSome IsRuling rulings → last ≡ sized_4 report → length report < 2 ^ 32
    → SpellsOutcome text message at hop rulings report
outcome_spelled text message at hop rest rulings last report head counted_is some last_is fits = record {
  text_is = head.text_is
      ∙ ap (λ (l : List ℕ). octets_8 message ++ (octets_8 at ++ (sized_2 hop ++ l))) (counted_is ∙ ap (λ (l : List ℕ). counted ruling_octets rulings ++ l) last_is);
  message_fits = head.message_fits;
  at_fits = head.at_fits;
  hop_fits = head.hop_fits;
  are_rulings = some;
  report_fits = fits;
}

-- two spellings have the same fields
pub record AreSameOutcomes (message message2 at at2 : ℕ) (hop hop2 : List ℕ) (rulings rulings2 : List Ruling) (report report2 : List ℕ) : Type 0 where
  pub message_is : message ≡ message2
  pub at_is : at ≡ at2
  pub hop_is : hop ≡ hop2
  pub rulings_are : rulings ≡ rulings2
  pub report_is : report ≡ report2

pub same_as : (text : List ℕ) (message at : ℕ) (hop : List ℕ) (rulings : List Ruling) (report : List ℕ) (outcome : OutcomeFields)
    → SpellsOutcome text message at hop rulings report → IsOutcome outcome → text ≡ outcome_octets outcome
    → AreSameOutcomes message outcome.message at outcome.at hop outcome.hop rulings outcome.rulings report outcome.report
same_as text message at hop rulings report outcome spelled valid e =
    let mine : SpellsHead text message at hop (counted ruling_octets rulings ++ sized_4 report) =
    record { text_is = spelled.text_is; message_fits = spelled.message_fits; at_fits = spelled.at_fits; hop_fits = spelled.hop_fits } in
    let first = heads_are_one text message at hop _ _ _ _ _ mine (outcome_head text outcome valid e) in
    let fourth = counted_are_one IsRuling ruling_octets code_ruling rulings outcome.rulings (sized_4 report) (sized_4 outcome.report) spelled.are_rulings (are_rulings outcome valid) first.3 in
    let limit = valid.report in
    let fifth = code_sized octets_4 (2 ^ 32) code_4 report outcome.report [] [] spelled.report_fits (omega (arith, limit)) (append-nil (sized_4 report) ∙ fourth.1 ∙ sym (append-nil (sized_4 outcome.report))) in
    record { message_is = first.0; at_is = first.1; hop_is = first.2; rulings_are = fourth.0; report_is = fifth.0 }

-- what is no outcome is none of a version
pub none_of : (version : Version) (text : List ℕ) → SpellsNoOutcome text → SpellsNoneOf version text
none_of version text out = record { none = λ outcome valid version_is e. out.none outcome valid e }

-- where a field is not as it may be
pub bad_moment : (version : Version) (text : List ℕ) (message at : ℕ) (hop : List ℕ) (rulings : List Ruling) (report : List ℕ) → SpellsOutcome text message at hop rulings report → LAST_SECOND < at → SpellsNoneOf version text
bad_moment version text message at hop rulings report spelled late = record {
  none = λ outcome valid version_is e.
      let same = (same_as text message at hop rulings report outcome spelled valid e).at_is in
      let moment = valid.moment in
      omega (arith, same, moment, late);
}

pub bad_hop : (version : Version) (text : List ℕ) (message at : ℕ) (hop : List ℕ) (rulings : List Ruling) (report : List ℕ) → SpellsOutcome text message at hop rulings report → (MayBeHop hop → ⊥) → SpellsNoneOf version text
bad_hop version text message at hop rulings report spelled out = record {
  none = λ outcome valid version_is e. out (subst MayBeHop (sym (same_as text message at hop rulings report outcome spelled valid e).hop_is) valid.hop);
}

pub bad_report : (version : Version) (text : List ℕ) (message at : ℕ) (hop : List ℕ) (rulings : List Ruling) (report : List ℕ) → SpellsOutcome text message at hop rulings report → 2 ^ 26 < length report → SpellsNoneOf version text
bad_report version text message at hop rulings report spelled long = record {
  none = λ outcome valid version_is e.
      let same = ap length (same_as text message at hop rulings report outcome spelled valid e).report_is in
      let limit = valid.report in
      omega (arith, same, limit, long);
}

pub bad_verdicts : (version : Version) (text : List ℕ) (message at : ℕ) (hop : List ℕ) (rulings : List Ruling) (report : List ℕ) → SpellsOutcome text message at hop rulings report → (AreOfVersion version rulings → ⊥) → SpellsNoneOf version text
bad_verdicts version text message at hop rulings report spelled out = record {
  none = λ outcome valid version_is e.
      out (subst (λ (v : Version). AreOfVersion v rulings) version_is
      (subst (AreOfVersion outcome.version) (sym (same_as text message at hop rulings report outcome spelled valid e).rulings_are) valid.version));
}

pub is_outcome : (version : Version) (text : List ℕ) (message at : ℕ) (hop : List ℕ) (rulings : List Ruling) (report : List ℕ) → SpellsOutcome text message at hop rulings report
    → at ≤ LAST_SECOND → MayBeHop hop → length report ≤ 2 ^ 26 → AreOfVersion version rulings
    → IsOutcome (record { version = version; message = message; at = at; hop = hop; rulings = rulings; report = report })
is_outcome version text message at hop rulings report spelled moment may short verdicts = record {
  message = spelled.message_fits;
  moment = moment;
  hop = may;
  some = spelled.are_rulings.some;
  within = spelled.are_rulings.within;
  rulings = spelled.are_rulings.valid;
  version = verdicts;
  report = short;
}

pub outcome_is : (version : Version) (text : List ℕ) (message at : ℕ) (hop : List ℕ) (rulings : List Ruling) (report : List ℕ) → SpellsOutcome text message at hop rulings report
    → text ≡ outcome_octets (record { version = version; message = message; at = at; hop = hop; rulings = rulings; report = report })
outcome_is version text message at hop rulings report spelled = spelled.text_is

-- the outcome that was made of the fields
pub outcome_found : (version : Version) (text : List ℕ) (message at : ℕ) (hop : List ℕ) (rulings : List Ruling) (report : List ℕ) (moment : ℕ) (copy : List ℕ) (all : List Ruling) (other : List ℕ)
    → SpellsOutcome text message at hop rulings report → moment ≡ at → moment ≤ LAST_SECOND → MayBeHop hop → length report ≤ 2 ^ 26 → AreOfVersion version rulings → copy ≡ hop → all ≡ rulings → other ≡ report
    → IsOutcome (record { version = version; message = message; at = moment; hop = copy; rulings = all; report = other })
    × (text ≡ outcome_octets (record { version = version; message = message; at = moment; hop = copy; rulings = all; report = other }))
outcome_found version text message at hop rulings report moment copy all other spelled moment_is late may short verdicts copy_is all_are other_is =
    let given : OutcomeFields = record { version = version; message = message; at = at; hop = hop; rulings = rulings; report = report } in
    let made : given ≡ record { version = version; message = message; at = moment; hop = copy; rulings = all; report = other } =
    (λ i. record { version = version; message = message; at = sym moment_is i; hop = sym copy_is i; rulings = sym all_are i; report = sym other_is i }) in (
      subst IsOutcome made (is_outcome version text message at hop rulings report spelled (omega (arith, moment_is, late)) may short verdicts),
      subst (λ (o : OutcomeFields). text ≡ outcome_octets o) made (outcome_is version text message at hop rulings report spelled),
    )

pub may_be_stored : (outcome : OutcomeFields) → outcome.message < 2 ^ 64 → outcome.at ≤ LAST_SECOND → MayBeHop outcome.hop → AreSome IsRuling outcome.rulings → AreOfVersion outcome.version outcome.rulings → length outcome.report ≤ 2 ^ 26 → IsOutcome outcome
may_be_stored outcome message moment hop some version report =
    record { message = message; moment = moment; hop = hop; some = some.some; within = some.within; rulings = some.valid; version = version; report = report }

-- the head of an outcome, or octets without one
pub ruleset outcome_heads = (no_message, no_moment, no_hop, head_is)

-- fields that are judged: no outcome, or one
pub ruleset judged_outcomes = (bad_moment, bad_hop, bad_report, bad_verdicts, is_outcome, outcome_is)
