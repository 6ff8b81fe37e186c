-- Parameters: from left to right, and lists of outcomes.
use Rattle.std.proofs.Math.Bool.{and-false}
use Rattle.std.proofs.Common.{◌≡◌, ℕ, ◌==◌, Bool, false, ◌&&◌, List, [], ◌∷◌, length, Option, None, Some, Result, Ok, Err, refl, sym, ap, ◌∙◌, arith}
use Rattle.std.specs.List.{slice_split}
use Rattle.std.specs.Option.{option_and_then}
use Rattle.std.proofs.lemmas.Bool.{eqb-true, false_from_ne_true}
use Rattle.relay_lines.specs.Word.{is_printable}
use Rattle.relay_envelope.specs.Xtext.{decoded, joined_octets, FirstOctet}
use Rattle.relay_envelope.specs.Parameters.{FirstPart, OnePart, and_then, are_readable, is_octet, with_each, with_outcome, with_outcomes}
use Rattle.relay_envelope.specs.declared.fault.EnvelopeFault.{EnvelopeFault}
use Rattle.relay_envelope.specs.declared.parameters.Outcomes.{Outcomes}

-- after a first part
pub each_more : {A : Type 0} (with_one : List ℕ → A → Result A EnvelopeFault) (octet : ℕ) (text word after : List ℕ) (old new : A) → FirstPart octet text word after → Ok new ≡ with_one word old → with_each with_one (slice_split (is_octet octet) text) old ≡ with_each with_one (slice_split (is_octet octet) after) new
each_more with_one octet text word after old new first e =
    ap (λ parts. with_each with_one parts old) first.parts
    ∙ ap (λ r. and_then (λ next. with_each with_one (slice_split (is_octet octet) after) next) r) (sym e)

-- a fault in the first part
pub each_fault : {A : Type 0} (with_one : List ℕ → A → Result A EnvelopeFault) (octet : ℕ) (text word after : List ℕ) (old : A) (fault : EnvelopeFault) → FirstPart octet text word after → Err fault ≡ with_one word old → with_each with_one (slice_split (is_octet octet) text) old ≡ Err fault
each_fault with_one octet text word after old fault first e =
    ap (λ parts. with_each with_one parts old) first.parts
    ∙ ap (λ r. and_then (λ next. with_each with_one (slice_split (is_octet octet) after) next) r) (sym e)

and_then-ok : {A : Type 0} (result : Result A EnvelopeFault) → and_then (λ value. Ok value) result ≡ result
and_then-ok (Ok value) = refl
and_then-ok (Err fault) = refl

-- the last part
pub each_last : {A : Type 0} (with_one : List ℕ → A → Result A EnvelopeFault) (octet : ℕ) (text : List ℕ) (old : A) → OnePart octet text → with_each with_one (slice_split (is_octet octet) text) old ≡ with_one text old
each_last with_one octet text old one =
    ap (λ parts. with_each with_one parts old) one.parts ∙ and_then-ok (with_one text old)

-- outcomes after a first word
pub outcomes_more : (text word after : List ℕ) (old : Outcomes) (new : Option Outcomes) → FirstPart 44 text word after → new ≡ with_outcome word old → with_outcomes (slice_split (is_octet 44) text) old ≡ option_and_then (λ next. with_outcomes (slice_split (is_octet 44) after) next) new
outcomes_more text word after old new first e =
    ap (λ parts. with_outcomes parts old) first.parts
    ∙ ap (λ o. option_and_then (λ next. with_outcomes (slice_split (is_octet 44) after) next) o) (sym e)

some_then : (outcomes : Option Outcomes) → option_and_then (λ next. Some next) outcomes ≡ outcomes
some_then None = refl
some_then (Some outcomes) = refl

pub outcomes_last : (text : List ℕ) (old : Outcomes) → OnePart 44 text → with_outcomes (slice_split (is_octet 44) text) old ≡ with_outcome text old
outcomes_last text old one = ap (λ parts. with_outcomes parts old) one.parts ∙ some_then (with_outcome text old)

readable-joined : (octet : ℕ) (octets : Option (List ℕ)) → are_readable (joined_octets (octet ∷ []) octets) ≡ is_printable octet && are_readable octets
readable-joined octet None = sym (and-false (is_printable octet))
readable-joined octet (Some octets) = refl

-- the first octet that a text stands for, and those after it
pub readable_more : (text : List ℕ) (octet : ℕ) (rest : List ℕ) → FirstOctet text octet rest → are_readable (decoded text) ≡ is_printable octet && are_readable (decoded rest)
readable_more text octet rest first = ap are_readable first.decoding ∙ readable-joined octet (decoded rest)

-- at the text's end
pub readable_end : (text : List ℕ) (b : Bool) → ((text ≡ [] → ⊥) → decoded text ≡ None) → b ≡ (length text == 0) → are_readable (decoded text) ≡ b
unfolding decoded
readable_end [] b none e = sym e
readable_end (octet ∷ text) b none e =
    let not_empty : (length (octet ∷ text) == 0) ≡ false =
    false_from_ne_true (length (octet ∷ text) == 0) (λ h. let zero : length (octet ∷ text) ≡ 0 = eqb-true (length (octet ∷ text)) 0 h in omega arith) in
    ap are_readable (none (λ same. let no : ⊥ = cc in no)) ∙ sym (e ∙ not_empty)
