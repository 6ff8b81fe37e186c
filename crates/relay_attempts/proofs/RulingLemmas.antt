-- Places, each with its verdict, one after another.
use Rattle.std.proofs.Common.{◌≡◌, ℕ, suc, ◌<◌, ◌≤◌, List, [], ◌∷◌, ◌++◌, length, get_or, refl, sym, ap, ◌∙◌, arith}
use Rattle.relay_book.specs.declared.change.Ruling.{Ruling}
use Rattle.relay_book.specs.declared.change.Verdict.{Verdict}
use Rattle.relay_attempts.specs.Outcomes.{rulings_of}

abbrev pub ruling : ℕ → Verdict → Ruling
ruling place verdict = record { place = place; verdict = verdict }

-- no verdict, no ruling
pub none_ruled : (places : List ℕ) → rulings_of places [] ≡ []
none_ruled [] = refl
none_ruled (place ∷ places) = refl

-- the next verdict is that of the next place
pub ruled_more : (places : List ℕ) (verdicts : List Verdict) (verdict : Verdict) (index : ℕ)
    → index ≡ length (rulings_of places verdicts) → index < length places
    → rulings_of places (verdicts ++ verdict ∷ []) ≡ rulings_of places verdicts ++ ruling (get_or places index 0) verdict ∷ []
ruled_more [] verdicts verdict index is within = absurd (omega (arith, within))
ruled_more (place ∷ places) [] verdict index is within =
    ap (λ (l : List Ruling). ruling place verdict ∷ l) (none_ruled places)
    ∙ ap (λ n. ruling (get_or (place ∷ places) n 0) verdict ∷ []) (sym is)
ruled_more (place ∷ places) (first ∷ verdicts) verdict index is within =
    let count : ℕ = length (rulings_of places verdicts) in
    let at : index ≡ suc count = is in
    ap (λ (l : List Ruling). ruling place first ∷ l) (ruled_more places verdicts verdict count refl (omega (arith, at, within)))
    ∙ ap
    (λ n. ruling place first ∷ (rulings_of places verdicts ++ ruling (get_or (place ∷ places) n 0) verdict ∷ []))
    (sym at)

-- there is none after the last place
pub ruled_all : (places : List ℕ) (verdicts : List Verdict) (verdict : Verdict)
    → length places ≤ length (rulings_of places verdicts)
    → rulings_of places (verdicts ++ verdict ∷ []) ≡ rulings_of places verdicts
ruled_all [] verdicts verdict past = refl
ruled_all (place ∷ places) [] verdict past = absurd (omega (arith, past))
ruled_all (place ∷ places) (first ∷ verdicts) verdict past =
    ap (λ (l : List Ruling). ruling place first ∷ l) (ruled_all places verdicts verdict (omega (arith, past)))
