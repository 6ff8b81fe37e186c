-- The places of a message that pass a test: they rise, and what the test says holds of each.
use Rattle.std.proofs.Common.{◌≡◌, ℕ, suc, ◌+◌, ◌≤◌, Bool, true, false, List, [], ◌∷◌, ◌++◌, slice_get, take, zero, Option, None, Some, refl, ap, ◌∙◌, subst, arith, if◌then◌else◌}
use Rattle.std.specs.List.{AllByRecursion}
use Rattle.std.specs.Option.{option_map_or}
use Rattle.std.proofs.lemmas.Bool.{and_parts}
use Rattle.relay_routes.specs.Routes.{RouteTable}
use Rattle.relay_book.specs.declared.message.Message.{Message}
use Rattle.relay_book.specs.declared.message.Place.{Place}
use Rattle.relay_book.specs.Queue.{is_due_at, is_held}
use Rattle.relay_attempts.specs.Hops.{at_most, due_places_in, goes_to, is_due_for, is_stranded, places_where, stranded_places}
use Rattle.relay_attempts.specs.Runs.{AllGoTo, AreHeld}
use Rattle.relay_attempts.specs.Withdrawals.{is_held_of, is_named, named_places}

lower : (all : List Place) (less least : ℕ) (numbers : List ℕ) → less ≤ least → AreHeld all least numbers → AreHeld all less numbers
lower all less least [] below held = tt
lower all less least (number ∷ numbers) below held = (omega (arith, below, held.0), held.1, held.2)

-- what stands from a number on, and after the first
next_at : (all : List Place) (n : ℕ) (place : Place) (places : List Place) → ((i : ℕ) → slice_get all (n + i) ≡ slice_get (place ∷ places) i)
    → (i : ℕ) → slice_get all (suc n + i) ≡ slice_get places i
next_at all n place places at i = let next : suc n + i ≡ n + suc i = omega arith in ap (slice_get all) next ∙ at (suc i)

held_from : (test : ℕ → Place → Bool) → ((n : ℕ) (place : Place) → test n place ≡ true → place.held ≡ true) → (all : List Place) (n : ℕ) (places : List Place)
    → ((i : ℕ) → slice_get all (n + i) ≡ slice_get places i) → AreHeld all n (places_where test n places)
held_from test only all n [] at = tt
held_from test only all n (place ∷ places) at = by (held_from test only all (suc n) places (next_at all n place places at)) (test n place) refl
  where
    by : AreHeld all (suc n) (places_where test (suc n) places) → (b : Bool) → test n place ≡ b
        → AreHeld all n ((if b then n ∷ [] else []) ++ places_where test (suc n) places)
    by rest true is =
        let same : n + 0 ≡ n = omega arith in
        let here : slice_get all n ≡ Some place = subst (λ k. slice_get all k ≡ Some place) same (at 0) in
        (omega arith, ap (λ (o : Option Place). option_map_or is_held o false) here ∙ only n place is, lower all (n + 1) (suc n) (places_where test (suc n) places) (omega arith) rest)
    by rest false is = lower all n (suc n) (places_where test (suc n) places) (omega arith) rest

from_start : (places : List Place) (i : ℕ) → slice_get places (0 + i) ≡ slice_get places i
from_start places i = let same : 0 + i ≡ i = omega arith in ap (slice_get places) same

pub each_passes : (P : ℕ → Type 0) (test : ℕ → Place → Bool) → ((n : ℕ) (place : Place) → test n place ≡ true → P n) → (n : ℕ) (places : List Place)
    → AllByRecursion P (places_where test n places)
each_passes P test says n [] = tt
each_passes P test says n (place ∷ places) = by (each_passes P test says (suc n) places) (test n place) refl
  where
    by : AllByRecursion P (places_where test (suc n) places) → (b : Bool) → test n place ≡ b → AllByRecursion P ((if b then n ∷ [] else []) ++ places_where test (suc n) places)
    by rest true is = (says n place is, rest)
    by rest false is = rest

-- the due places of a hop are held, and go to it
pub due_are_held : (table : RouteTable) (hop : List ℕ) (now : ℕ) (message : Message) → AreHeld message.places 0 (due_places_in table hop now message)
due_are_held table hop now message =
    held_from (is_due_for table message.accept.envelope.recipients hop now)
    (λ n place is. (and_parts place.held _ (and_parts (is_due_at now place) (goes_to table message.accept.envelope.recipients hop n) is).0).0) message.places 0 message.places
    (from_start message.places)

pub due_go_there : (table : RouteTable) (hop : List ℕ) (now : ℕ) (message : Message) → AllGoTo table hop message (due_places_in table hop now message)
due_go_there table hop now message =
    each_passes (λ n. goes_to table message.accept.envelope.recipients hop n ≡ true) (is_due_for table message.accept.envelope.recipients hop now)
    (λ n place is. (and_parts (is_due_at now place) (goes_to table message.accept.envelope.recipients hop n) is).1) 0 message.places

-- the first of some places are held as all are, and go where all go
held_first : (all : List Place) (least most : ℕ) (numbers : List ℕ) → AreHeld all least numbers → AreHeld all least (take most numbers)
held_first all least zero numbers held = tt
held_first all least (suc most) [] held = tt
held_first all least (suc most) (number ∷ numbers) held = (held.0, held.1, held_first all (number + 1) most numbers held.2)

pub held_at_most : (all : List Place) (least : ℕ) (most : Option ℕ) (numbers : List ℕ) → AreHeld all least numbers → AreHeld all least (at_most most numbers)
held_at_most all least None numbers held = held
held_at_most all least (Some most) numbers held = held_first all least most numbers held

each_first : (P : ℕ → Type 0) (most : ℕ) (numbers : List ℕ) → AllByRecursion P numbers → AllByRecursion P (take most numbers)
each_first P zero numbers each = tt
each_first P (suc most) [] each = tt
each_first P (suc most) (number ∷ numbers) each = (each.0, each_first P most numbers each.1)

pub each_at_most : (P : ℕ → Type 0) (most : Option ℕ) (numbers : List ℕ) → AllByRecursion P numbers → AllByRecursion P (at_most most numbers)
each_at_most P None numbers each = each
each_at_most P (Some most) numbers each = each_first P most numbers each

-- the held places without a hop are held
pub stranded_are_held : (table : RouteTable) (message : Message) → AreHeld message.places 0 (stranded_places table message)
stranded_are_held table message =
    held_from (is_stranded table message.accept.envelope.recipients)
    (λ n place is. (and_parts place.held _ is).0) message.places 0 message.places (from_start message.places)

-- the held places that are named are held
pub named_are_held : (names : List ℕ) (message : Message) → AreHeld message.places 0 (named_places names message)
named_are_held names message =
    held_from (is_held_of names)
    (λ n place is. (and_parts place.held (is_named names n) is).0) message.places 0 message.places (from_start message.places)
