-- The position of the reply that settles a place stays the same, whatever replies come after it.
use Rattle.std.proofs.Common.{◌≡◌, ℕ, zero, suc, ◌+◌, Bool, true, false, List, [], ◌∷◌, ◌++◌, Option, Some, None}
use Rattle.std.proofs.Common.{refl, subst, if◌then◌else◌}
use Rattle.std.specs.Prelude.{slice_get}
use Rattle.relay_course.specs.declared.reply_kind.ReplyKind.{ReplyKind}
use Rattle.relay_course.specs.declared.reply_kind.ReplyKind.TheVariants.{Completion, Intermediate, Transient, Permanent}
use Rattle.relay_course.specs.Settling.{first_refusal, is_completion, is_intermediate, is_permanent, settling_position}

-- an element of a list's front
pub get_front : {A : Type 0} (xs ys : List A) (n : ℕ) (x : A) → slice_get xs n ≡ Some x
    → slice_get (xs ++ ys) n ≡ Some x
get_front [] ys n x e = absurd (cc)
get_front (y ∷ xs) ys zero x e = e
get_front (y ∷ xs) ys (suc n) x e = get_front xs ys n x e

-- a reply that is there isn't one that is missing
missing : (kinds : List ReplyKind) (position rest : ℕ) (kind : ReplyKind) → slice_get kinds position ≡ None
    → slice_get kinds (if is_completion (slice_get kinds position) then rest else position) ≡ Some kind → ⊥
missing kinds position rest kind is e =
    let found : slice_get kinds position ≡ Some kind =
    subst (λ (one : Option ReplyKind). slice_get kinds (if is_completion one then rest else position) ≡ Some kind) is e
    in absurd (cc)

-- of a reply and those after it the same is chosen, if it is there
chosen : (kinds more : List ReplyKind) (position rest other : ℕ) (kind : ReplyKind)
    → slice_get kinds (if is_completion (slice_get kinds position) then rest else position) ≡ Some kind
    → (slice_get kinds rest ≡ Some kind → other ≡ rest)
    → (if is_completion (slice_get (kinds ++ more) position) then other else position)
    ≡ (if is_completion (slice_get kinds position) then rest else position)
chosen kinds more position rest other kind e next = by (slice_get kinds position) refl e
  where
    by : (one : Option ReplyKind) → slice_get kinds position ≡ one
        → slice_get kinds (if is_completion one then rest else position) ≡ Some kind
        → (if is_completion (slice_get (kinds ++ more) position) then other else position)
        ≡ (if is_completion one then rest else position)
    by None is e = absurd (cc)
    by (Some Completion) is e = rw (get_front kinds more position Completion is) (next e)
    by (Some Intermediate) is e = rw (get_front kinds more position Intermediate is)
    by (Some Transient) is e = rw (get_front kinds more position Transient is)
    by (Some Permanent) is e = rw (get_front kinds more position Permanent is)

-- the position of the reply to the content, where DATA's has this one
abbrev content_at : Bool → List ReplyKind → ℕ → ℕ
content_at by_data kinds next =
    if by_data then (if is_intermediate (slice_get kinds next) then next + 1 else next) else next

content_stays : (by_data : Bool) (kinds more : List ReplyKind) (next : ℕ) (kind : ReplyKind)
    → slice_get kinds (content_at by_data kinds next) ≡ Some kind
    → content_at by_data (kinds ++ more) next ≡ content_at by_data kinds next
content_stays false kinds more next kind e = refl
content_stays true kinds more next kind e = by (slice_get kinds next) refl e
  where
    by : (one : Option ReplyKind) → slice_get kinds next ≡ one
        → slice_get kinds (if is_intermediate one then next + 1 else next) ≡ Some kind
        → (if is_intermediate (slice_get (kinds ++ more) next) then next + 1 else next)
        ≡ (if is_intermediate one then next + 1 else next)
    by None is e = absurd (cc)
    by (Some Completion) is e = rw (get_front kinds more next Completion is)
    by (Some Intermediate) is e = rw (get_front kinds more next Intermediate is)
    by (Some Transient) is e = rw (get_front kinds more next Transient is)
    by (Some Permanent) is e = rw (get_front kinds more next Permanent is)

-- the position after an accepted greeting, where the reply to EHLO or HELO has this one
abbrev settling_from : Bool → List ReplyKind → ℕ → ℕ → ℕ → ℕ
settling_from by_data kinds hello count index =
    first_refusal kinds (hello ∷ (hello + 1) ∷ (hello + 1 + 1 + index) ∷ [])
    (content_at by_data kinds (hello + 1 + 1 + count))

from_stays : (by_data : Bool) (kinds more : List ReplyKind) (hello count index : ℕ) (kind : ReplyKind)
    → slice_get kinds (settling_from by_data kinds hello count index) ≡ Some kind
    → settling_from by_data (kinds ++ more) hello count index ≡ settling_from by_data kinds hello count index
from_stays by_data kinds more hello count index kind e =
    let rcpt : ℕ = hello + 1 + 1 + index in
    let next : ℕ = hello + 1 + 1 + count in
    let content : ℕ = content_at by_data kinds next in
    let other : ℕ = content_at by_data (kinds ++ more) next in
    chosen kinds more hello (first_refusal kinds ((hello + 1) ∷ rcpt ∷ []) content)
    (first_refusal (kinds ++ more) ((hello + 1) ∷ rcpt ∷ []) other) kind e
    (λ mail. chosen kinds more (hello + 1) (first_refusal kinds (rcpt ∷ []) content)
    (first_refusal (kinds ++ more) (rcpt ∷ []) other) kind mail
    (λ own. chosen kinds more rcpt content other kind own
    (λ last. content_stays by_data kinds more next kind last)))

abbrev hello_at : Option ReplyKind → ℕ
hello_at one = if is_permanent one then 2 else 1

pub position_stays : (by_data : Bool) (kinds more : List ReplyKind) (count index : ℕ) (kind : ReplyKind)
    → slice_get kinds (settling_position by_data kinds count index) ≡ Some kind
    → settling_position by_data (kinds ++ more) count index ≡ settling_position by_data kinds count index
position_stays by_data kinds more count index kind e =
    chosen kinds more 0 (settling_from by_data kinds (hello_at (slice_get kinds 1)) count index)
    (settling_from by_data (kinds ++ more) (hello_at (slice_get (kinds ++ more) 1)) count index) kind e
    (λ greeted. by (slice_get kinds 1) refl greeted)
  where
    by : (one : Option ReplyKind) → slice_get kinds 1 ≡ one
        → slice_get kinds (settling_from by_data kinds (hello_at one) count index) ≡ Some kind
        → settling_from by_data (kinds ++ more) (hello_at (slice_get (kinds ++ more) 1)) count index
        ≡ settling_from by_data kinds (hello_at one) count index
    by None is e =
        absurd (missing kinds 1
        (first_refusal kinds ((1 + 1) ∷ (1 + 1 + 1 + index) ∷ []) (content_at by_data kinds (1 + 1 + 1 + count)))
        kind is e)
    by (Some one) is e =
        rw (get_front kinds more 1 one is) (from_stays by_data kinds more (hello_at (Some one)) count index kind e)
