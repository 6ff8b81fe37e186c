-- Whose an outcome is: before an event and after it, it is that of an attempt that has ended with it, or gives up places without a
-- hop.
use Rattle.std.proofs.Common.{◌≡◌, ◌≢◌, ◌⊎◌, inl, inr, ℕ, zero, suc, List, [], ◌∷◌, ◌++◌, length, Some, refl, sym, subst, ap, ◌∙◌, arith}
use Rattle.std.specs.Prelude.{slice_get}
use Rattle.relay_octets.specs.Beginning.{Begins}
use Rattle.std.proofs.lemmas.Option.{none-some, same_Some, slice_get_within}
use Rattle.relay_disk.specs.Device.{DiskWords}
use Rattle.relay_book.specs.declared.change.Change.{Change}
use Rattle.relay_book.specs.declared.change.Change.TheVariants as change
use Rattle.relay_book.specs.declared.change.Outcome.{Outcome}
use Rattle.relay_book.specs.Marks.{change_at}
use Rattle.relay_world.specs.GivingUp.{Withdrawing}
use Rattle.relay_world.specs.declared.attempt.Attempt.{Attempt}
use Rattle.relay_world.specs.declared.attempt.Fate.TheVariants.{Running}
use Rattle.relay_world.specs.Bound.{IsBound, IsListOf}
use Rattle.relay_world.specs.Once.{EndsAlone, IsOutcomeOf, IsTriedOnce}
use Rattle.relay_world.specs.Steps.{IsPut}
use Rattle.relay_world.specs.World.{Host, World}
use Rattle.relay_world.proofs.ClaimLemmas.{HostGrows, HostsGrow, OutcomesKept, alone_kept, list_before, there_too}
use Rattle.relay_world.proofs.GrowLemmas.{one_list}
use Rattle.relay_world.proofs.MoveLemmas.{put_cases}
use Rattle.relay_world.proofs.FateLemmas.{lost_ends, replied_ends}

-- an element of a list with one after it
last_or : {A : Type 0} (xs : List A) (last x : A) (k : ℕ) → slice_get (xs ++ last ∷ []) k ≡ Some x
    → (slice_get xs k ≡ Some x) ⊎ ((k ≡ length xs) × (last ≡ x))
last_or [] last x zero is = inr (refl, same_Some last x is)
last_or [] last x (suc k) is = absurd (none-some x is)
last_or (y ∷ xs) last x zero is = inl is
last_or (y ∷ xs) last x (suc k) is = elim (last_or xs last x k is) [
  | inl there ↦ inl there
  | inr end ↦ inr (ap suc end.0, end.1)
]

-- an outcome of a list with one change after it is one of the list, or that change
outcome_last : (before : List Change) (one : Change) (number : ℕ) (outcome : Outcome)
    → change_at (before ++ one ∷ []) number ≡ Some (change.Outcome outcome)
    → (change_at before number ≡ Some (change.Outcome outcome))
    ⊎ ((number ≡ suc (length before)) × (one ≡ change.Outcome outcome))
outcome_last before one zero outcome is = absurd (none-some (change.Outcome outcome) is)
outcome_last before one (suc k) outcome is = elim (last_or before one (change.Outcome outcome) k is) [
  | inl there ↦ inl there
  | inr end ↦ inr (ap suc end.0, end.1)
]

module _ {D : Type 0} (honest : Type 0) (words : DiskWords D) (old new : World D) (lists later : List (List Change))
    (bound : IsBound honest words old lists) {asked : List Withdrawing} (once : IsTriedOnce old lists asked) (now : IsBound honest words new later) where
  -- a change after these that is an outcome is that of an attempt, or gives up places without one
  abbrev pub HasTakers : ℕ → List Change → Change → Type 0
  HasTakers n before one =
      (outcome : Outcome) → one ≡ change.Outcome outcome → (was : Host D) → slice_get old.hosts n ≡ Some was
      → IsOutcomeOf new n (suc (length before)) ⊎ EndsAlone asked n was.config.routes before outcome

  -- a list has stayed, or has such a change more
  abbrev pub AddsTo : ℕ → List Change → List Change → Type 0
  AddsTo n before after =
      (after ≡ before) ⊎ ((one : Change) × (after ≡ before ++ one ∷ []) × HasTakers n before one)

  abbrev pub ListsAdd : Type 0
  ListsAdd = (n : ℕ) (before after : List Change) → slice_get lists n ≡ Some before → slice_get later n ≡ Some after
      → AddsTo n before after

  -- an attempt that has ended with an outcome stays so
  abbrev pub EndedStay : Type 0
  EndedStay = (n number : ℕ) → IsOutcomeOf old n number → IsOutcomeOf new n number

  pub takers_kept : HostsGrow honest words old new lists later bound once now → ListsAdd → EndedStay
      → OutcomesKept honest words old new lists later bound once now
  takers_kept grow adds stay n number host changes outcome stands is =
      elim (adds n before.0 changes before.1 stands.list_at) [
        | inl same ↦ was (ap (λ l. change_at l number) (sym same) ∙ is)
        | inr more ↦
            elim (outcome_last before.0 more.0 number outcome (ap (λ l. change_at l number) (sym more.1) ∙ is)) [
              | inl there ↦ was there
              | inr last ↦ elim (more.2 outcome last.1 grows.was grows.was_there) [
                | inl ended ↦ inl (subst (λ k. IsOutcomeOf new n k) (sym last.0) ended)
                | inr none ↦ inr (kept none)
              ]
            ]
      ]
    where
      before : (list : List Change) × (slice_get lists n ≡ Some list) × Begins list changes
      before = list_before honest words old new lists later bound once now grow n changes stands.list_at

      grows : HostGrows honest words old new lists later bound once now n host
      grows = grow n host stands.host_at

      kept : EndsAlone asked n grows.was.config.routes before.0 outcome → EndsAlone asked n host.config.routes changes outcome
      kept none = alone_kept asked n before.0 changes grows.was.config host.config outcome before.2 grows.config none

      was : change_at before.0 number ≡ Some (change.Outcome outcome)
          → IsOutcomeOf new n number ⊎ EndsAlone asked n host.config.routes changes outcome
      was at = elim (once.outcomes n number grows.was before.0 outcome
          (record { host_at = grows.was_there; list_at = before.1 }) at) [
            | inl ended ↦ inl (stay n number ended)
            | inr none ↦ inr (kept none)
          ]

  -- the lists, where one node has moved on, or none
  pub lists_put : (node : ℕ) (host moved : Host D) → slice_get old.hosts node ≡ Some host → IsPut old.hosts new.hosts node moved
      → ((before after : List Change) → slice_get lists node ≡ Some before → slice_get later node ≡ Some after
      → IsListOf host.records before → IsListOf moved.records after → AddsTo node before after) → ListsAdd
  lists_put node host moved at put adds n before after first second =
      let there = there_too later new.hosts n after now.even second in
      let list : IsListOf there.0.records after =
      (now.hosts n there.0 after (record { host_at = there.1; list_at = second })).list in
      elim (put_cases old.hosts new.hosts node moved put n there.0 there.1) [
        | inl here ↦
            subst (λ k. AddsTo k before after) (sym here.0)
            (adds before after (ap (λ k. slice_get lists k) (sym here.0) ∙ first)
            (ap (λ k. slice_get later k) (sym here.0) ∙ second)
            (bound.hosts node host before (record {
              host_at = at;
              list_at = ap (λ k. slice_get lists k) (sym here.0) ∙ first;
            })).list
            (subst (λ (h : Host D). IsListOf h.records after) (sym here.1) list))
        | inr other ↦
            inl (one_list there.0.records there.0.records before after
            (bound.hosts n there.0 before (record { host_at = other.1; list_at = first })).list list refl)
      ]

  pub lists_stay : (node : ℕ) (host moved : Host D) → slice_get old.hosts node ≡ Some host → IsPut old.hosts new.hosts node moved
      → moved.records ≡ host.records → ListsAdd
  lists_stay node host moved at put same =
      lists_put node host moved at put
      (λ before after first second is later_is. inl (one_list host.records moved.records before after is later_is same))

  pub lists_same : new.hosts ≡ old.hosts → ListsAdd
  lists_same same n before after first second =
      let there = there_too later new.hosts n after now.even second in
      inl (one_list there.0.records there.0.records before after
      (bound.hosts n there.0 before (record { host_at = ap (λ l. slice_get l n) (sym same) ∙ there.1; list_at = first })).list
      (now.hosts n there.0 after (record { host_at = there.1; list_at = second })).list refl)

  -- the attempts that have ended, where none has changed, or one that went on, or another has begun
  pub ended_same : new.attempts ≡ old.attempts → EndedStay
  ended_same same n number ended = record {
    at = ended.at;
    attempt = ended.attempt;
    is_there = ap (λ l. slice_get l ended.at) same ∙ ended.is_there;
    its_node = ended.its_node;
    ended = ended.ended;
  }

  pub ended_put : (place : ℕ) (attempt : Attempt) → IsPut old.attempts new.attempts place attempt
      → ((n number : ℕ) (ended : IsOutcomeOf old n number) → ended.at ≢ place) → EndedStay
  ended_put place attempt put off n number ended = record {
    at = ended.at;
    attempt = ended.attempt;
    is_there = put.others ended.at (off n number ended) ∙ ended.is_there;
    its_node = ended.its_node;
    ended = ended.ended;
  }

  pub ended_still : (place slot : ℕ) (was attempt : Attempt) → slice_get old.attempts place ≡ Some was → was.fate ≡ Running slot
      → IsPut old.attempts new.attempts place attempt → EndedStay
  ended_still place slot was attempt at runs put =
      ended_put place attempt put (λ n number ended same.
      let its_fate = ap (λ (a : Attempt). a.fate)
      (same_Some ended.attempt was (sym ended.is_there ∙ ap (λ k. slice_get old.attempts k) same ∙ at)) in
      elim ended.ended [
        | inl replied ↦ replied_ends number slot (sym replied ∙ its_fate ∙ runs)
        | inr lost ↦ lost_ends number slot (sym lost ∙ its_fate ∙ runs)
      ])

  pub ended_before : (attempt : Attempt) → IsPut old.attempts new.attempts (length old.attempts) attempt → EndedStay
  ended_before attempt put =
      ended_put (length old.attempts) attempt put (λ n number ended same.
      let within = slice_get_within old.attempts ended.at ended.attempt ended.is_there in omega (arith, within, same))
