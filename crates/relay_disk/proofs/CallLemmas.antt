-- Stored calls, oldest first in a disk and newest first in its definitions.
use Rattle.std.proofs.Common.{◌≡◌, ℕ, ◌+◌, ◌<◌, Bool, true, false, ◌&&◌, List, [], ◌∷◌, ◌++◌, length, take, drop, reverse, get_or, refl, sym, ap, ◌∙◌}
use Rattle.std.proofs.lemmas.List.{take_more, take-append-drop, reverse-append}
use Rattle.relay_disk.specs.declared.call.Call.{Call}
use Rattle.relay_disk.specs.declared.call.Call.TheVariants.{Write, FailedWrite, Cut, Sync}
use Rattle.relay_disk.specs.MayLeave.{seen_after, are_within}

pub and_left : (a b : Bool) → a && b ≡ true → a ≡ true
and_left true b both = refl
and_left false b both = both

pub and_right : (a b : Bool) → a && b ≡ true → b ≡ true
and_right true b both = both
and_right false b both = cc

and_true : (a : Bool) → a ≡ true → a && true ≡ true
and_true a is = cc

-- the next call begins within what a read gives after the earlier ones
first_within : (start : List ℕ) (call : Call) (earlier : List Call) → are_within start (call ∷ earlier) ≡ true → are_within (seen_after start earlier) (call ∷ []) ≡ true
first_within start (Write place octets) earlier within = and_true _ (and_left _ _ within)
first_within start (FailedWrite place count) earlier within = refl
first_within start (Cut size) earlier within = refl
first_within start Sync earlier within = refl

are_within-earlier : (start : List ℕ) (later earlier : List Call) → are_within start (later ++ earlier) ≡ true → are_within start earlier ≡ true
are_within-earlier start [] earlier within = within
are_within-earlier start (Write place octets ∷ later) earlier within = are_within-earlier start later earlier (and_right _ _ within)
are_within-earlier start (FailedWrite place count ∷ later) earlier within = are_within-earlier start later earlier within
are_within-earlier start (Cut size ∷ later) earlier within = are_within-earlier start later earlier within
are_within-earlier start (Sync ∷ later) earlier within = are_within-earlier start later earlier within

reverse-take : (calls : List Call) (at : ℕ) (call : Call) → at < length calls → call ≡ get_or calls at call → reverse (take (at + 1) calls) ≡ call ∷ reverse (take at calls)
reverse-take calls at call below is =
    ap reverse (take_more calls at call below)
    ∙ reverse-append (take at calls) (get_or calls at call ∷ [])
    ∙ ap (λ (other : Call). other ∷ reverse (take at calls)) (sym is)

-- a call of a disk begins within what a read gave before it
pub next_within : (start : List ℕ) (calls : List Call) (at : ℕ) (call : Call) → at < length calls → call ≡ get_or calls at call
    → are_within start (reverse calls) ≡ true → are_within (seen_after start (reverse (take at calls))) (call ∷ []) ≡ true
next_within start calls at call below is within =
    let parts : reverse calls ≡ reverse (drop (at + 1) calls) ++ (call ∷ reverse (take at calls)) =
    ap reverse (sym (take-append-drop (at + 1) calls)) ∙ reverse-append (take (at + 1) calls) (drop (at + 1) calls)
    ∙ ap (λ (front : List Call). reverse (drop (at + 1) calls) ++ front) (reverse-take calls at call below is) in
    first_within start call (reverse (take at calls))
    (are_within-earlier start (reverse (drop (at + 1) calls)) (call ∷ reverse (take at calls))
    (ap (λ (all : List Call). are_within start all) (sym parts) ∙ within))
