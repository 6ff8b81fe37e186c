-- The RCPTs that an attempt has had answered.
use Rattle.std.proofs.Common.{◌≡◌, ◌⊎◌, inl, inr, ℕ, zero, suc, Bool, true, false, List, [], ◌∷◌, ◌++◌, Some, refl, subst, ap, ◌∙◌, cond}
use Rattle.std.specs.Prelude.{nat_lt, slice_get}
use Rattle.std.specs.List.{Contains}
use Rattle.std.proofs.lemmas.Bool.{false≢true}
use Rattle.std.proofs.lemmas.Option.{none-some, same_Some}
use Rattle.relay_octets.specs.Beginning.{Begins}
use Rattle.relay_lines.specs.Reply.{Reply}
use Rattle.relay_course.specs.declared.awaited.Awaited.{Awaited}
use Rattle.relay_course.specs.declared.awaited.Awaited.TheVariants.{Greeting, Ehlo, Helo, Mail, Rcpt, Data, Content}
use Rattle.relay_course.specs.declared.reply_kind.ReplyKind.TheVariants.{Completion, Intermediate, Transient, Permanent}
use Rattle.relay_course.specs.VerdictTable.{is_accepted, kind_of}
use Rattle.relay_course.specs.Progress.{Answered, answer_of}
use Rattle.relay_course.specs.Laws.{accepted_places, rcpt_places, rcpts_in}
use Rattle.relay_world.proofs.AmongLemmas.{in_cons, in_first, in_found, in_front, in_none, in_rest}

-- the RCPT of the place, at an index among those that were answered, was accepted
abbrev pub WasAccepted : List Answered → ℕ → Type 0
WasAccepted answered place =
    (k : ℕ) × (rcpt : Reply) × (slice_get (rcpts_in answered) k ≡ Some (answer_of (Rcpt place) rcpt)) × (is_accepted rcpt ≡ true)

rcpt_more : (is : Bool) (first : ℕ) (reply : Reply) (answered : List Answered) (place : ℕ) → is_accepted reply ≡ is
    → (Contains (accepted_places answered) place → WasAccepted answered place)
    → Contains (cond is (first ∷ []) [] ++ accepted_places answered) place
    → WasAccepted (answer_of (Rcpt first) reply ∷ answered) place
rcpt_more true first reply answered place test more has = by (in_cons first place (accepted_places answered) has)
  where
    by : (first ≡ place) ⊎ Contains (accepted_places answered) place
        → WasAccepted (answer_of (Rcpt first) reply ∷ answered) place
    by (inl same) = (0, reply, ap (λ p. Some (answer_of (Rcpt p) reply)) same, test)
    by (inr after) = let was = more after in (suc was.0, was.1, was.2, was.3)
rcpt_more false first reply answered place test more has = let was = more has in (suc was.0, was.1, was.2, was.3)

answer_more : (waited : Awaited) (reply : Reply) (answered : List Answered) (place : ℕ)
    → (Contains (accepted_places answered) place → WasAccepted answered place)
    → Contains (accepted_places (answer_of waited reply ∷ answered)) place
    → WasAccepted (answer_of waited reply ∷ answered) place
answer_more Greeting reply answered place more has = more has
answer_more Ehlo reply answered place more has = more has
answer_more Helo reply answered place more has = more has
answer_more Mail reply answered place more has = more has
answer_more (Rcpt first) reply answered place more has =
    rcpt_more (is_accepted reply) first reply answered place refl more has
answer_more Data reply answered place more has = more has
answer_more Content reply answered place more has = more has

-- an accepted place has an RCPT that was accepted
pub was_accepted : (answered : List Answered) (place : ℕ) → Contains (accepted_places answered) place
    → WasAccepted answered place
was_accepted [] place has = absurd (in_none place has)
was_accepted (one ∷ answered) place has =
    answer_more one.waited one.reply answered place (λ after. was_accepted answered place after) has

-- the place of a RCPT
abbrev place_of : Awaited → ℕ
place_of (Rcpt place) = place
place_of _ = 0

accept_first : (is : Bool) (place : ℕ) (places : List ℕ) → is ≡ true → Contains (cond is (place ∷ []) [] ++ places) place
accept_first true place places test = in_first place places
accept_first false place places test = absurd (false≢true test)

accept_after : (is : Bool) (first place : ℕ) (places : List ℕ) → Contains places place
    → Contains (cond is (first ∷ []) [] ++ places) place
accept_after true first place places has = in_rest first place places has
accept_after false first place places has = has

-- what an answered RCPT says of its place
abbrev pub IsRcptThere : List Answered → ℕ → ℕ → Reply → Type 0
IsRcptThere answered k place rcpt =
    Contains answered (answer_of (Rcpt place) rcpt) × (slice_get (rcpt_places answered) k ≡ Some place)
    × (is_accepted rcpt ≡ true → Contains (accepted_places answered) place)

abbrev FindsRcpts : List Answered → ℕ → Reply → Type 0
FindsRcpts answered place rcpt =
    (k : ℕ) → slice_get (rcpts_in answered) k ≡ Some (answer_of (Rcpt place) rcpt) → IsRcptThere answered k place rcpt

other_there : (waited : Awaited) (reply : Reply) (answered : List Answered) (place : ℕ) (rcpt : Reply)
    → FindsRcpts answered place rcpt → (k : ℕ) → slice_get (rcpts_in answered) k ≡ Some (answer_of (Rcpt place) rcpt)
    → Contains (answer_of waited reply ∷ answered) (answer_of (Rcpt place) rcpt)
other_there waited reply answered place rcpt more k is =
    in_rest (answer_of waited reply) (answer_of (Rcpt place) rcpt) answered (more k is).0

rcpt_there : (waited : Awaited) (reply : Reply) (answered : List Answered) (place : ℕ) (rcpt : Reply)
    → FindsRcpts answered place rcpt → FindsRcpts (answer_of waited reply ∷ answered) place rcpt
rcpt_there Greeting reply answered place rcpt more k is =
    (other_there Greeting reply answered place rcpt more k is, (more k is).1, (more k is).2)
rcpt_there Ehlo reply answered place rcpt more k is =
    (other_there Ehlo reply answered place rcpt more k is, (more k is).1, (more k is).2)
rcpt_there Helo reply answered place rcpt more k is =
    (other_there Helo reply answered place rcpt more k is, (more k is).1, (more k is).2)
rcpt_there Mail reply answered place rcpt more k is =
    (other_there Mail reply answered place rcpt more k is, (more k is).1, (more k is).2)
rcpt_there (Rcpt first) reply answered place rcpt more zero is =
    let same : answer_of (Rcpt first) reply ≡ answer_of (Rcpt place) rcpt =
    same_Some (answer_of (Rcpt first) reply) (answer_of (Rcpt place) rcpt) is in
    let its_place : first ≡ place = ap (λ (a : Answered). place_of a.waited) same in
    let its_reply : reply ≡ rcpt = ap (λ (a : Answered). a.reply) same in (
      in_found (answer_of (Rcpt first) reply ∷ answered) (answer_of (Rcpt place) rcpt) 0 is,
      ap (λ p. Some p) its_place,
      λ test. subst (λ p. Contains (accepted_places (answer_of (Rcpt first) reply ∷ answered)) p) its_place
          (accept_first (is_accepted reply) first (accepted_places answered) (ap is_accepted its_reply ∙ test)),
    )
rcpt_there (Rcpt first) reply answered place rcpt more (suc k) is = (
  in_rest (answer_of (Rcpt first) reply) (answer_of (Rcpt place) rcpt) answered (more k is).0,
  (more k is).1,
  λ test. accept_after (is_accepted reply) first place (accepted_places answered) ((more k is).2 test),
)
rcpt_there Data reply answered place rcpt more k is =
    (other_there Data reply answered place rcpt more k is, (more k is).1, (more k is).2)
rcpt_there Content reply answered place rcpt more k is =
    (other_there Content reply answered place rcpt more k is, (more k is).1, (more k is).2)

pub rcpt_is_there : (answered : List Answered) (place : ℕ) (rcpt : Reply) → FindsRcpts answered place rcpt
rcpt_is_there [] place rcpt k is = absurd (none-some (answer_of (Rcpt place) rcpt) is)
rcpt_is_there (one ∷ answered) place rcpt k is =
    rcpt_there one.waited one.reply answered place rcpt (rcpt_is_there answered place rcpt) k is

-- it is one of the places that are tried
pub place_tried : (answered : List Answered) (places : List ℕ) (k place : ℕ) (rcpt : Reply)
    → Begins (rcpt_places answered) places → slice_get (rcpts_in answered) k ≡ Some (answer_of (Rcpt place) rcpt)
    → slice_get places k ≡ Some place
place_tried answered places k place rcpt begins is =
    ap (λ l. slice_get l k) begins.1
    ∙ in_front (rcpt_places answered) begins.0 k place (rcpt_is_there answered place rcpt k is).1

-- a reply of 2yz is one whose code begins so
completion_by : (first second third : Bool)
    → cond first Completion (cond second Intermediate (cond third Transient Permanent)) ≡ Completion → first ≡ true
completion_by true second third is = refl
completion_by false true third is = absurd (cc)
completion_by false false true is = absurd (cc)
completion_by false false false is = absurd (cc)

pub accepted_is : (reply : Reply) → kind_of reply.code ≡ Completion → is_accepted reply ≡ true
accepted_is reply is = completion_by (nat_lt reply.code 300) (nat_lt reply.code 400) (nat_lt reply.code 500) is

pub is_completion : (reply : Reply) → is_accepted reply ≡ true → kind_of reply.code ≡ Completion
is_completion reply is =
    ap (λ b. cond b Completion (cond (nat_lt reply.code 400) Intermediate (cond (nat_lt reply.code 500) Transient Permanent))) is
