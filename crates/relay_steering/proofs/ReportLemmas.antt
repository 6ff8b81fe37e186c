-- No outcome is left to tell.
use Rattle.std.proofs.Common.{◌≡◌, ◌⊎◌, inl, inr, ℕ, ◌+◌, ◌-◌, ◌^◌, ◌<◌, min, List, [], ◌∷◌, ◌++◌, Option, None, Some, Result, Ok, Err, OnOk, refl, sym, ◌∙◌, ap, arith, append_assoc, append-nil}
use Rattle.std.specs.Io.KnownBytes.{Appends, Keeps}
use Rattle.relay_queue.specs.declared.groups.Selected.{Selected}
use Rattle.relay_steering.specs.Report.{refused_lines, withdrawn_in}
use Rattle.relay_steering.specs.declared.offline.Outcome.{Outcome}

-- no message is left, or no outcome
pub no_lines : (messages : List Selected) (outcomes : List Outcome) → (messages ≡ []) ⊎ (outcomes ≡ []) → refused_lines messages outcomes ≡ []
no_lines messages [] none = refl
no_lines [] (outcome ∷ outcomes) none = refl
no_lines (selected ∷ messages) (outcome ∷ outcomes) (inl e) = let no : ⊥ = cc in absurd no
no_lines (selected ∷ messages) (outcome ∷ outcomes) (inr e) = let no : ⊥ = cc in absurd no

pub none_in : (messages : List Selected) (outcomes : List Outcome) → (messages ≡ []) ⊎ (outcomes ≡ []) → withdrawn_in messages outcomes ≡ 0
none_in messages [] none = refl
none_in [] (outcome ∷ outcomes) none = refl
none_in (selected ∷ messages) (outcome ∷ outcomes) (inl e) = let no : ⊥ = cc in absurd no
none_in (selected ∷ messages) (outcome ∷ outcomes) (inr e) = let no : ⊥ = cc in absurd no

pub all_lines : (lines rest total : List ℕ) → lines ++ rest ≡ total → rest ≡ [] → lines ≡ total
all_lines lines rest total ends none = sym (append-nil lines) ∙ ap (λ (it : List ℕ). lines ++ it) (sym none) ∙ ends

pub all_counted : (old between new count more sum : ℕ) → new ≡ min (between + count) (2 ^ 64 - 1) → between ≡ old → min (count + more) (2 ^ 64 - 1) ≡ min sum (2 ^ 64 - 1) → more ≡ 0 → count < 2 ^ 64
    → new ≡ min (old + sum) (2 ^ 64 - 1)
all_counted old between new count more sum is same ends zero fits =
    let it : count ≡ min sum (2 ^ 64 - 1) = omega (arith, ends, zero, fits) in
    omega (arith, is, same, it)

-- what was written in two parts
pub appends_both : (old between new : Option (List ℕ)) (one two : List ℕ) → Appends old between one → Appends between new two → Appends old new (one ++ two)
appends_both None between new one two first second = tt
appends_both (Some old) None new one two first second = absurd first
appends_both (Some old) (Some between) None one two first second = absurd second
appends_both (Some old) (Some between) (Some new) one two first second = second ∙ ap (λ (list : List ℕ). list ++ two) first ∙ append_assoc old one two

pub appends_on : (old now later : Option (List ℕ)) (octets : List ℕ) → Appends old now octets → Keeps now later → Appends old later octets
appends_on None now later octets appends keeps = tt
appends_on (Some old) None later octets appends keeps = absurd appends
appends_on (Some old) (Some now) None octets appends keeps = absurd keeps
appends_on (Some old) (Some now) (Some later) octets appends keeps = keeps ∙ appends

pub on_ok : {A E : Type 0} (result : Result A E) (P : Type 0) → P → OnOk result P
on_ok (Ok value) P p = p
on_ok (Err why) P p = tt
