-- Where no verdict begins a text.
use Rattle.std.proofs.Common.{◌≡◌, ℕ, suc, ◌+◌, ◌<◌, ◌≤◌, ◌^◌, List, [], ◌∷◌, ◌++◌, drop, length, refl, sym, subst, ap, ◌∙◌, arith, append_assoc, length-append}
use Rattle.std.specs.List.{AllPass}
use Rattle.std.specs.Int.{is_in_range}
use Rattle.relay_book.specs.declared.change.Verdict.{Verdict}
use Rattle.relay_book.specs.declared.change.Withdrawal.TheVariants.{Return, Discard}
use Rattle.relay_book.specs.declared.change.Verdict.TheVariants.{Taken, Refused, Later, CantSend, NoRoute, Withdrawn}
use Rattle.relay_book.specs.Record.{IsRefusal, IsRuling, IsVerdict, octets_2, ruling_octets, verdict_octets}
use Rattle.relay_book.specs.Fields.{HasNoRefusal, HasNone, refusal_octets}
use Rattle.relay_book.proofs.CodeLemmas.{first_of, code_2, fronts, short_of_2}
use Rattle.std.proofs.Common.{true, false}
use Rattle.relay_book.proofs.FieldLemmas.{same_head}
use Rattle.relay_book.proofs.ValueLemmas.{tag, tag_first}

spelled : (text : List ℕ) (code : ℕ) (field rest : List ℕ) → text ≡ refusal_octets code field ++ rest → text ≡ octets_2 code ++ (length field ∷ (field ++ rest))
spelled text code field rest e = e ∙ append_assoc (octets_2 code) (length field ∷ field) rest

pub none_short : (text : List ℕ) → length text < 2 → HasNoRefusal text
none_short text short = record {
  none = λ code field rest valid e.
      let long = short_of_2 text code (length field ∷ (field ++ rest)) (spelled text code field rest e) in
      omega (arith, short, long);
}

-- what stands after a code
after_code : (text : List ℕ) (code : ℕ) (after : List ℕ) (other : ℕ) (field rest : List ℕ) → text ≡ octets_2 code ++ after → code < 2 ^ 16 → IsRefusal other field
    → text ≡ refusal_octets other field ++ rest → after ≡ length field ∷ (field ++ rest)
after_code text code after other field rest is small valid e =
    (code_2 code other after (length field ∷ (field ++ rest)) small (omega (arith, valid.high)) (sym is ∙ spelled text other field rest e)).1

-- a code that no reply has
pub none_of_code : (text : List ℕ) (code : ℕ) (after : List ℕ) → text ≡ octets_2 code ++ after → code < 2 ^ 16 → ((200 ≤ code) × (code < 600) → ⊥) → HasNoRefusal text
none_of_code text code after is small out = record {
  none = λ other field rest valid e.
      let same = (code_2 code other after (length field ∷ (field ++ rest)) small (omega (arith, valid.high)) (sym is ∙ spelled text other field rest e)).0 in
      out (omega (arith, same, valid.low), omega (arith, same, valid.high));
}

pub none_without_length : (text : List ℕ) (code : ℕ) (after : List ℕ) → text ≡ octets_2 code ++ after → code < 2 ^ 16 → length after ≡ 0 → HasNoRefusal text
none_without_length text code after is small empty = record {
  none = λ other field rest valid e.
      let long : length after ≡ suc (length (field ++ rest)) = ap length (after_code text code after other field rest is small valid e) in
      omega (arith, long, empty);
}

-- what stands after a length
after_length : (text : List ℕ) (code len : ℕ) (after : List ℕ) (other : ℕ) (field rest : List ℕ) → text ≡ octets_2 code ++ (len ∷ after) → code < 2 ^ 16 → IsRefusal other field
    → text ≡ refusal_octets other field ++ rest → (len ≡ length field) × (after ≡ field ++ rest)
after_length text code len after other field rest is small valid e =
    same_head len (length field) after (field ++ rest) (after_code text code (len ∷ after) other field rest is small valid e)

pub none_cut : (text : List ℕ) (code len : ℕ) (after : List ℕ) → text ≡ octets_2 code ++ (len ∷ after) → code < 2 ^ 16 → length after < len → HasNoRefusal text
none_cut text code len after is small less = record {
  none = λ other field rest valid e.
      let same = after_length text code len after other field rest is small valid e in
      let parts : length after ≡ length field + length rest = ap length same.1 ∙ length-append field rest in
      omega (arith, parts, less, same.0);
}

pub none_long : (text : List ℕ) (code len : ℕ) (after : List ℕ) → text ≡ octets_2 code ++ (len ∷ after) → code < 2 ^ 16 → 200 < len → HasNoRefusal text
none_long text code len after is small more = record {
  none = λ other field rest valid e.
      let same = after_length text code len after other field rest is small valid e in
      let few = valid.text_fits in
      omega (arith, more, same.0, few);
}

pub none_bad : (text : List ℕ) (code len : ℕ) (field rest : List ℕ) → text ≡ octets_2 code ++ (len ∷ (field ++ rest)) → code < 2 ^ 16 → length field ≡ len
    → (AllPass (is_in_range 32 126) field → ⊥) → HasNoRefusal text
none_bad text code len field rest is small len_is out = record {
  none = λ other found more valid e.
      let same = after_length text code len (field ++ rest) other found more is small valid e in
      let parts = fronts (length found) field found rest more (len_is ∙ same.0) refl same.1 in
      out (subst (AllPass (is_in_range 32 126)) (sym parts.0) valid.printable);
}

-- verdicts by their numbers, from 1 to 8
tag_within : (verdict : Verdict) → (1 ≤ tag verdict) × (tag verdict ≤ 8)
unfolding tag
tag_within (Taken true) = (omega arith, omega arith)
tag_within (Taken false) = (omega arith, omega arith)
tag_within (Refused code text) = (omega arith, omega arith)
tag_within Later = (omega arith, omega arith)
tag_within CantSend = (omega arith, omega arith)
tag_within NoRoute = (omega arith, omega arith)
tag_within (Withdrawn Return) = (omega arith, omega arith)
tag_within (Withdrawn Discard) = (omega arith, omega arith)

pub no_tag : (text : List ℕ) → length text ≡ 0 → HasNone IsVerdict verdict_octets text
no_tag text empty = record {
  none = λ verdict rest valid e.
      let within = tag_within verdict in
      let first = tag_first verdict rest in
      let none = ap first_of e in
      let nothing = head_of_empty text empty in
      omega (arith, within.0, first, none, nothing);
}
  where
    head_of_empty : (text : List ℕ) → length text ≡ 0 → first_of text ≡ 0
    head_of_empty [] empty = refl
    head_of_empty (octet ∷ octets) empty = omega (arith, empty)

pub other_tag : (text : List ℕ) (number : ℕ) (rest : List ℕ) → text ≡ number ∷ rest → (1 ≤ number → number ≤ 8 → ⊥) → HasNone IsVerdict verdict_octets text
other_tag text number rest is out = record {
  none = λ verdict more valid e.
      let within = tag_within verdict in
      let same : number ≡ tag verdict = ap first_of (sym is ∙ e) ∙ tag_first verdict more in
      out (omega (arith, same, within.0)) (omega (arith, same, within.1));
}

pub no_refusal : (text rest : List ℕ) → text ≡ 3 ∷ rest → HasNoRefusal rest → HasNone IsVerdict verdict_octets text
no_refusal text rest is out = record { none = λ verdict more valid e. by verdict more valid (sym is ∙ e) }
  where
    other : (n : ℕ) (rest more : List ℕ) → 3 ∷ rest ≡ n ∷ more → (n ≡ 3 → ⊥) → ⊥
    other n rest more e off = off (sym (ap first_of e))

    by : (verdict : Verdict) (more : List ℕ) → IsVerdict verdict → 3 ∷ rest ≡ verdict_octets verdict ++ more → ⊥
    by (Taken true) more valid e = other 1 rest more e (λ same. omega (arith, same))
    by (Taken false) more valid e = other 2 rest more e (λ same. omega (arith, same))
    by (Refused code text) more valid e = out.none code text more valid (ap (drop 1) e)
    by Later more valid e = other 4 rest more e (λ same. omega (arith, same))
    by CantSend more valid e = other 5 rest more e (λ same. omega (arith, same))
    by NoRoute more valid e = other 6 rest more e (λ same. omega (arith, same))
    by (Withdrawn Return) more valid e = other 7 rest more e (λ same. omega (arith, same))
    by (Withdrawn Discard) more valid e = other 8 rest more e (λ same. omega (arith, same))

-- places
pub no_place : (text : List ℕ) → length text ≡ 0 → HasNone IsRuling ruling_octets text
no_place text empty = record {
  none = λ ruling rest valid e.
      let long : length text ≡ suc (length (verdict_octets ruling.verdict ++ rest)) = ap length e in
      omega (arith, long, empty);
}

pub no_verdict : (text : List ℕ) (place : ℕ) (after : List ℕ) → text ≡ place ∷ after → HasNone IsVerdict verdict_octets after → HasNone IsRuling ruling_octets text
no_verdict text place after is out = record {
  none = λ ruling rest valid e. out.none ruling.verdict rest valid.verdict (ap (drop 1) (sym is ∙ e));
}

-- octets that are no refusal
pub ruleset malformed_refusals = (none_short, none_of_code, none_without_length, none_cut, none_long, none_bad)

-- octets that are no verdict
pub ruleset malformed_verdicts = (no_tag, other_tag, no_refusal)
