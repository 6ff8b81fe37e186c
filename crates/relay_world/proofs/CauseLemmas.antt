-- Each place that has left has left for a cause, with the report that is due.
use Rattle.std.proofs.Common.{◌≡◌, ℕ, zero, suc, ◌+◌, nat_le, Bool, true, false, List, [], ◌∷◌, ◌++◌, take, Some, refl, sym, subst, ap, cond, arith}
use Rattle.std.specs.Prelude.{slice_get}
use Rattle.std.specs.Option.{is_some, option_map_or}
use Rattle.std.proofs.lemmas.Bool.{false≢true, leb-true}
use Rattle.std.proofs.lemmas.List.{append_assoc, append-nil}
use Rattle.std.proofs.lemmas.Option.{same_Some}
use Rattle.relay_book.specs.declared.change.Change.{Change}
use Rattle.relay_book.specs.declared.change.Change.TheVariants as change
use Rattle.relay_book.specs.declared.change.Verdict.{Verdict}
use Rattle.relay_book.specs.declared.change.Verdict.TheVariants.{Taken, Refused, Later, CantSend, NoRoute, Withdrawn}
use Rattle.relay_book.specs.declared.change.Withdrawal.{Withdrawal}
use Rattle.relay_book.specs.declared.change.Withdrawal.TheVariants.{Return}
use Rattle.relay_book.specs.declared.fate.Way.{Way}
use Rattle.relay_book.specs.declared.fate.Way.TheVariants.{ByTransfer, ByEnd, ByWithdrawal}
use Rattle.relay_book.specs.declared.fate.Fate.TheVariants.{Waits, Late, Failed}
use Rattle.relay_book.specs.DueReport.{fate_of, lateness, patience, way_of}
use Rattle.relay_book.specs.Marks.{LeavesAt, change_at}
use Rattle.relay_report.specs.Report.{Reported, Reporter}
use Rattle.relay_world.specs.Bound.{ReportsAfter}
use Rattle.relay_world.specs.Custody.{HasCause, LeftFor, changes_before}

abbrev way_tag : Way → ℕ
way_tag ByTransfer = 0
way_tag ByEnd = 1
way_tag (ByWithdrawal withdrawal) = 2

-- one way isn't another
apart : (one other : Way) → Some one ≡ Some other → (way_tag one ≡ way_tag other → ⊥) → ⊥
apart one other same off = off (ap (λ o. option_map_or way_tag o 0) same)

abbrev withdrawal_in : Way → Withdrawal
withdrawal_in ByTransfer = Return
withdrawal_in ByEnd = Return
withdrawal_in (ByWithdrawal withdrawal) = withdrawal

-- a place that is tried for too long has failed
too_long : (accepted at : ℕ) (way : Way) (is late : Bool) → nat_le (accepted + patience) at ≡ is
    → way_of (cond is Failed (cond late Late Waits)) ≡ Some way → HasCause accepted at way Later
too_long accepted at ByTransfer true late test leaves = apart ByEnd ByTransfer leaves (λ e. omega (arith, e))
too_long accepted at ByEnd true late test leaves = leb-true (accepted + patience) at test
too_long accepted at (ByWithdrawal withdrawal) true late test leaves =
    apart ByEnd (ByWithdrawal withdrawal) leaves (λ e. omega (arith, e))
too_long accepted at way false true test leaves = absurd (false≢true (ap is_some leaves))
too_long accepted at way false false test leaves = absurd (false≢true (ap is_some leaves))

pub has_cause : (accepted at : ℕ) (way : Way) (verdict : Verdict) → way_of (fate_of accepted at verdict) ≡ Some way
    → HasCause accepted at way verdict
has_cause accepted at ByTransfer (Taken dsn) leaves = tt
has_cause accepted at ByEnd (Taken dsn) leaves = apart ByTransfer ByEnd leaves (λ e. omega (arith, e))
has_cause accepted at (ByWithdrawal withdrawal) (Taken dsn) leaves =
    apart ByTransfer (ByWithdrawal withdrawal) leaves (λ e. omega (arith, e))
has_cause accepted at ByTransfer (Refused code text) leaves = apart ByEnd ByTransfer leaves (λ e. omega (arith, e))
has_cause accepted at ByEnd (Refused code text) leaves = tt
has_cause accepted at (ByWithdrawal withdrawal) (Refused code text) leaves =
    apart ByEnd (ByWithdrawal withdrawal) leaves (λ e. omega (arith, e))
has_cause accepted at way Later leaves =
    too_long accepted at way (nat_le (accepted + patience) at) (nat_le (accepted + lateness) at) refl leaves
has_cause accepted at ByTransfer CantSend leaves = apart ByEnd ByTransfer leaves (λ e. omega (arith, e))
has_cause accepted at ByEnd CantSend leaves = tt
has_cause accepted at (ByWithdrawal withdrawal) CantSend leaves =
    apart ByEnd (ByWithdrawal withdrawal) leaves (λ e. omega (arith, e))
has_cause accepted at ByTransfer NoRoute leaves = apart ByEnd ByTransfer leaves (λ e. omega (arith, e))
has_cause accepted at ByEnd NoRoute leaves = tt
has_cause accepted at (ByWithdrawal withdrawal) NoRoute leaves =
    apart ByEnd (ByWithdrawal withdrawal) leaves (λ e. omega (arith, e))
has_cause accepted at ByTransfer (Withdrawn withdrawal) leaves =
    apart (ByWithdrawal withdrawal) ByTransfer leaves (λ e. omega (arith, e))
has_cause accepted at ByEnd (Withdrawn withdrawal) leaves =
    apart (ByWithdrawal withdrawal) ByEnd leaves (λ e. omega (arith, e))
has_cause accepted at (ByWithdrawal other) (Withdrawn withdrawal) leaves =
    ap (λ o. option_map_or withdrawal_in o Return) leaves

-- each change of a list has the report that is due after those before it
reported_at : (reporter : Reporter) (front changes : List Change) (n : ℕ) (change : Change) → ReportsAfter reporter front changes
    → slice_get changes n ≡ Some change → Reported reporter (front ++ take n changes) change
reported_at reporter front [] n change all found = absurd (false≢true (ap is_some found))
reported_at reporter front (first ∷ changes) zero change all found =
    subst (λ l. Reported reporter l change) (sym (append-nil front))
    (subst (λ c. Reported reporter front c) (same_Some first change found) all.0)
reported_at reporter front (first ∷ changes) (suc n) change all found =
    subst (λ l. Reported reporter l change) (append_assoc front (first ∷ []) (take n changes))
    (reported_at reporter (front ++ first ∷ []) changes n change all.1 found)

reported_by : (reporter : Reporter) (changes : List Change) (at : ℕ) (change : Change) → ReportsAfter reporter [] changes
    → change_at changes at ≡ Some change → Reported reporter (changes_before at changes) change
reported_by reporter changes zero change all found = absurd (false≢true (ap is_some found))
reported_by reporter changes (suc n) change all found = reported_at reporter [] changes n change all found

pub left_for : (reporter : Reporter) (changes : List Change) (at number place : ℕ) (way : Way) → ReportsAfter reporter [] changes
    → LeavesAt changes at number place way → LeftFor reporter changes at number place way
left_for reporter changes at number place way all leaves = record {
  leaves = leaves;
  cause = has_cause leaves.accept.at leaves.outcome.at way leaves.verdict leaves.leaves;
  reported = reported_by reporter changes at (change.Outcome leaves.outcome) all leaves.change;
}
