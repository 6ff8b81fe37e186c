-- A list of changes, and one change more.
use Rattle.std.proofs.Common.{◌≡◌, ◌⊎◌, inl, inr, ℕ, zero, suc, ◌<◌, ◌≤◌, false, List, [], ◌∷◌, ◌++◌, length, slice_get, Option, None, Some, refl, sym, ap, ◌∙◌, arith, option_and_then, length-append}
use Rattle.std.proofs.lemmas.Bool.{cases_eq, cases_lt, false≢true}
use Rattle.std.proofs.lemmas.Option.{slice_get_past, slice_get_within}
use Rattle.relay_book.specs.declared.change.Accept.{Accept as AcceptFields}
use Rattle.relay_book.specs.declared.change.Outcome.{Outcome as OutcomeFields}
use Rattle.relay_book.specs.declared.change.Change.{Change}
use Rattle.relay_book.specs.declared.change.Change.TheVariants.{Accept, Outcome}
use Rattle.relay_book.specs.Record.{is_null}
use Rattle.relay_book.specs.Queue.{report_of}
use Rattle.relay_book.specs.declared.fate.Way.{Way}
use Rattle.relay_book.specs.Marks.{change_at, own_accept, report_for, made_by, message_at, Added, LeavesAt}
use Rattle.relay_book.proofs.PlaceLemmas.{none_some, some_is}

-- one change more
abbrev pub joined : List Change → Change → List Change
joined changes change = changes ++ change ∷ []

-- its number
abbrev pub last : List Change → ℕ
last changes = suc (length changes)

pub last_joined : (changes : List Change) (change : Change) → last (joined changes change) ≡ suc (last changes)
last_joined changes change = let parts = length-append changes (change ∷ []) in omega (arith, parts)

get_left : {A : Type 0} (xs ys : List A) (n : ℕ) → n < length xs → slice_get (xs ++ ys) n ≡ slice_get xs n
get_left [] ys n below = absurd (omega (arith, below))
get_left (x ∷ xs) ys zero below = refl
get_left (x ∷ xs) ys (suc n) below = get_left xs ys n (omega (arith, below))

get_last : {A : Type 0} (xs : List A) (x : A) → slice_get (xs ++ x ∷ []) (length xs) ≡ Some x
get_last [] x = refl
get_last (y ∷ xs) x = get_last xs x

pub change_last : (changes : List Change) (change : Change) → change_at (joined changes change) (last changes) ≡ Some change
change_last changes change = get_last changes change

pub change_within : (changes : List Change) (n : ℕ) (change : Change) → change_at changes n ≡ Some change → n ≤ length changes
change_within changes zero change e = omega arith
change_within changes (suc n) change e = let within = slice_get_within changes n change e in omega (arith, within)

pub change_other : (changes : List Change) (change : Change) (n : ℕ) → (n ≡ last changes → ⊥) → change_at (joined changes change) n ≡ change_at changes n
change_other changes change zero out = refl
change_other changes change (suc n) out = by (cases_lt n (length changes))
  where
    by : (n < length changes) ⊎ (length changes ≤ n) → slice_get (changes ++ change ∷ []) n ≡ slice_get changes n
    by (inl below) = get_left changes (change ∷ []) n below
    by (inr after) =
        let parts = length-append changes (change ∷ []) in
        let beyond : suc (length changes) ≤ n = (elim (cases_eq n (length changes)) [ inl same ↦ absurd (out (ap suc same)) | inr off ↦ omega (arith, off, after) ]) in
        slice_get_past (changes ++ change ∷ []) n (omega (arith, parts, beyond)) ∙ sym (slice_get_past changes n after)

-- the message of an outcome came before it
abbrev pub Back : List Change → Type 0
Back changes = (at : ℕ) (outcome : OutcomeFields) → change_at changes at ≡ Some (Outcome outcome) → outcome.message < at

pub message_other : (changes : List Change) (change : Change) (n : ℕ) → Back changes → (n ≡ last changes → ⊥) → message_at (joined changes change) n ≡ message_at changes n
message_other changes change n back out =
    ap (made_by (joined changes change)) (change_other changes change n out) ∙ by (change_at changes n) refl
  where
    by : (o : Option Change) → change_at changes n ≡ o → made_by (joined changes change) o ≡ made_by changes o
    by None is = refl
    by (Some (Accept accept)) is = refl
    by (Some (Outcome outcome)) is =
        let before = back n outcome is in
        let within = change_within changes n (Outcome outcome) is in
        ap (λ o. report_for outcome outcome.report (option_and_then own_accept o))
        (change_other changes change outcome.message (λ same. omega (arith, same, before, within)))

pub message_within : (changes : List Change) (n : ℕ) (accept : AcceptFields) → message_at changes n ≡ Some accept → n ≤ length changes
message_within changes n accept is = by (change_at changes n) refl is
  where
    by : (o : Option Change) → change_at changes n ≡ o → made_by changes o ≡ Some accept → n ≤ length changes
    by None e is = absurd (none_some accept is)
    by (Some change) e is = change_within changes n change e

pub message_last : (changes : List Change) (change : Change) → message_at (joined changes change) (last changes) ≡ made_by (joined changes change) (Some change)
message_last changes change = ap (made_by (joined changes change)) (change_last changes change)

-- a message whose reverse path isn't null is its own accept
pub own_from : (changes : List Change) (n : ℕ) (accept : AcceptFields) → message_at changes n ≡ Some accept → is_null accept.envelope.reverse_path ≡ false
    → option_and_then own_accept (change_at changes n) ≡ Some accept
own_from changes n accept is some = by (change_at changes n) is
  where
    of_report : (outcome : OutcomeFields) (report : List ℕ) (message : Option AcceptFields) → report_for outcome report message ≡ Some accept → ⊥
    of_report outcome [] message e = none_some accept e
    of_report outcome (octet ∷ report) None e = none_some accept e
    of_report outcome (octet ∷ report) (Some message) e =
        false≢true (sym some ∙ ap (λ (a : AcceptFields). is_null a.envelope.reverse_path) (sym (some_is (report_of message outcome) accept e)))

    by : (o : Option Change) → made_by changes o ≡ Some accept → option_and_then own_accept o ≡ Some accept
    by None e = absurd (none_some accept e)
    by (Some (Accept own)) e = e
    by (Some (Outcome outcome)) e = absurd (of_report outcome outcome.report (option_and_then own_accept (change_at changes outcome.message)) e)

-- what was added stays added
pub added_other : (changes : List Change) (change : Change) (n place : ℕ) → Back changes → (n ≡ last changes → ⊥) → Added changes n place → Added (joined changes change) n place
added_other changes change n place back out added = (added.0, message_other changes change n back out ∙ added.1, added.2)

pub added_was : (changes : List Change) (change : Change) (n place : ℕ) → Back changes → (n ≡ last changes → ⊥) → Added (joined changes change) n place → Added changes n place
added_was changes change n place back out added = (added.0, sym (message_other changes change n back out) ∙ added.1, added.2)

pub added_before : (changes : List Change) (n place : ℕ) → Added changes n place → n ≡ last changes → ⊥
added_before changes n place added same = let within = message_within changes n added.0 added.1 in omega (arith, within, same)

-- what left before has left
pub leaves_before : (changes : List Change) (at n place : ℕ) (way : Way) → LeavesAt changes at n place way → (n ≡ last changes → ⊥) × (at ≡ last changes → ⊥)
leaves_before changes at n place way leaves =
    let within = message_within changes n leaves.accept leaves.message in
    let at_within = change_within changes at (Outcome leaves.outcome) leaves.change in
    (λ same. omega (arith, within, same), λ same. omega (arith, at_within, same))

pub leaves_still : (changes : List Change) (change : Change) (at n place : ℕ) (way : Way) → Back changes → LeavesAt changes at n place way → LeavesAt (joined changes change) at n place way
leaves_still changes change at n place way back leaves =
    let before = leaves_before changes at n place way leaves in
    record {
      accept = leaves.accept;
      outcome = leaves.outcome;
      verdict = leaves.verdict;
      message = message_other changes change n back before.0 ∙ leaves.message;
      change = change_other changes change at before.1 ∙ leaves.change;
      its_message = leaves.its_message;
      ruling = leaves.ruling;
      leaves = leaves.leaves;
    }

pub leaves_was : (changes : List Change) (change : Change) (at n place : ℕ) (way : Way) → Back changes → (at ≡ last changes → ⊥) → LeavesAt (joined changes change) at n place way → LeavesAt changes at n place way
leaves_was changes change at n place way back off leaves =
    let change_is = sym (change_other changes change at off) ∙ leaves.change in
    let before = back at leaves.outcome change_is in
    let within = change_within changes at (Outcome leaves.outcome) change_is in
    let its = leaves.its_message in
    record {
      accept = leaves.accept;
      outcome = leaves.outcome;
      verdict = leaves.verdict;
      message = sym (message_other changes change n back (λ same. omega (arith, same, its, before, within))) ∙ leaves.message;
      change = change_is;
      its_message = leaves.its_message;
      ruling = leaves.ruling;
      leaves = leaves.leaves;
    }

-- a message leaves after it came
pub leaves_later : (changes : List Change) (at n place : ℕ) (way : Way) → Back changes → LeavesAt changes at n place way → n < at
leaves_later changes at n place way back leaves =
    let before = back at leaves.outcome leaves.change in
    let its = leaves.its_message in
    omega (arith, before, its)
