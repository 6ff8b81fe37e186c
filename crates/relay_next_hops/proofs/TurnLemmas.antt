-- Which lanes are done, while others have their turn.
use Rattle.std.proofs.Common.{◌≡◌, ◌≢◌, ◌⊎◌, inl, inr, ℕ, ◌+◌, ◌<◌, ◌≤◌, Bool, true, false, not, List, [], ◌∷◌, length, MatchOption, Option, None, Some, option_map, refl, sym, ap, subst, ◌∙◌, arith, if◌then◌else◌}
use Rattle.std.specs.Prelude.{slice_get, slice_set}
use Rattle.std.specs.Option.{option_map_or}
use Rattle.std.proofs.lemmas.Bool.{cases_eq, false≢true}
use Rattle.relay_limits.specs.declared.pace.Pace.{Pace}
use Rattle.relay_limits.specs.Pace.{MayBegin}
use Rattle.relay_slots.specs.Slots.{slot_at}
use Rattle.relay_connections.specs.Table.{count_of_such, is_such}
use Rattle.relay_next_hops.specs.Counts.{is_unanswered, unanswered_of}
use Rattle.relay_next_hops.specs.Lanes.{OnlyLane, tasks_at}
use Rattle.relay_lanes.specs.Lane.{tasks_of}
use Rattle.relay_lanes.specs.Paces.{HasLane, MayBeginAt, changed_at, has_answered_at, put_at}
use Rattle.relay_next_hops.specs.declared.hop.Hop.{Hop}
use Rattle.relay_lanes.specs.declared.lane.Lane.{Lane}
use Rattle.relay_next_hops.specs.declared.lanes.Lanes.{Lanes}
use Rattle.relay_next_hops.proofs.ListingLemmas.{get_beside, get_own}
use Rattle.relay_next_hops.proofs.SlotLemmas.{count_set}

not_true : (b : Bool) → not b ≡ true → b ≡ false
not_true true is = absurd (false≢true is)
not_true false is = refl

-- of what passes more there are no fewer
pub count_more : {A : Type 0} (some other : A → Bool) → ((value : A) → some value ≡ true → other value ≡ true) → (slots : List (Option A)) → count_of_such some slots ≤ count_of_such other slots
count_more some other passes [] = omega arith
count_more some other passes (None ∷ slots) = omega (arith, count_more some other passes slots)
count_more some other passes (Some value ∷ slots) = by (some value) refl (count_more some other passes slots) where
  either : (is : Bool) → count_of_such some slots ≤ count_of_such other slots → count_of_such some slots ≤ (if is then 1 else 0) + count_of_such other slots
  either true rest = omega (arith, rest)
  either false rest = omega (arith, rest)

  by : (is : Bool) → some value ≡ is → count_of_such some slots ≤ count_of_such other slots → (if is then 1 else 0) + count_of_such some slots ≤ (if other value then 1 else 0) + count_of_such other slots
  by true is rest = subst (λ (passed : Bool). 1 + count_of_such some slots ≤ (if passed then 1 else 0) + count_of_such other slots) (sym (passes value is)) (omega (arith, rest))
  by false is rest = omega (arith, either (other value) rest)

-- A call for one lane leaves no fewer unanswered.
pub unanswered_stay : {S : Type 0} (hops : List (Option (Hop S))) (lane : ℕ) (old new : Lanes) → OnlyLane lane old new → unanswered_of hops old.paces ≤ unanswered_of hops new.paces
unanswered_stay {S} hops lane old new only = count_more (is_unanswered old.paces) (is_unanswered new.paces) (λ hop is. by hop is (cases_eq hop.aim.lane lane)) hops where
  by : (hop : Hop S) → is_unanswered old.paces hop ≡ true → (hop.aim.lane ≡ lane) ⊎ (hop.aim.lane ≡ lane → ⊥) → is_unanswered new.paces hop ≡ true
  by hop is (inl same) = ap not (subst (λ (lane : ℕ). has_answered_at new.paces lane ≡ false) (sym same) (only.silent (subst (λ (lane : ℕ). has_answered_at old.paces lane ≡ false) same (not_true (has_answered_at old.paces hop.aim.lane) is))))
  by hop is (inr apart) = ap (λ (pace : Option Pace). not (option_map_or (λ (pace : Pace). pace.has_answered) pace false)) (only.paces hop.aim.lane apart) ∙ is

-- nor does one that is put under a free number
pub unanswered_put : {S : Type 0} (paces : List Pace) (hops : List (Option (Hop S))) (number : ℕ) (hop : Hop S) → slot_at hops number ≡ None → number < length hops → unanswered_of hops paces ≤ unanswered_of (slice_set hops number (Some hop)) paces
unanswered_put {S} paces hops number hop free low =
    let set = count_set (is_unanswered paces) hops number (Some hop) low in
    let none : ◌≡◌ {A = ℕ} (if is_such (is_unanswered paces) (slot_at hops number) then 1 else 0) 0 = ap (λ (slot : Option (Hop S)). if is_such (is_unanswered paces) slot then 1 else 0) free in
    omega (arith, set, none)

-- a pace that lets one begin is a lane's
pub has_lane : (most tick : ℕ) (paces : List Pace) (lane : ℕ) → MayBeginAt most tick paces lane → HasLane paces lane
has_lane most tick paces lane may none =
    subst (λ (pace : Option Pace). MatchOption pace ⊥ (MayBegin most tick)) none may

-- two calls for one lane after one another
pub only_then : (lane : ℕ) (old between new : Lanes) → OnlyLane lane old between → OnlyLane lane between new → OnlyLane lane old new
only_then lane old between new one other = record {
  held = other.held ∙ one.held;
  most = other.most ∙ one.most;
  tasks = λ number apart. other.tasks number apart ∙ one.tasks number apart;
  paces = λ number apart. other.paces number apart ∙ one.paces number apart;
  silent = λ silent. other.silent (one.silent silent);
  opened = other.opened ∙ one.opened;
  unroutable = other.unroutable ∙ one.unroutable;
  walk = other.walk ∙ one.walk;
  stale = λ is. other.stale (one.stale is);
}

-- a lane that another takes the place of leaves the others' tasks
pub tasks_beside : (old new : Lanes) (number : ℕ) (lane : Lane) → new.lanes.items ≡ slice_set old.lanes.items number lane → (other : ℕ) → other ≢ number → tasks_at new other ≡ tasks_at old other
tasks_beside old new number lane is other apart =
    ap (λ (lanes : List Lane). option_map_or tasks_of (slice_get lanes other) []) is
    ∙ ap (λ (lane : Option Lane). option_map_or tasks_of lane []) (get_beside old.lanes.items number lane other apart)

-- a pace that has changed leaves the others
pub paces_beside : (change : Pace → Pace) (paces : List Pace) (number other : ℕ) → other ≢ number → slice_get (changed_at change paces number) other ≡ slice_get paces other
paces_beside change paces number other apart = by (slice_get paces number) where
  by : (pace : Option Pace) → slice_get (put_at paces number (option_map change pace)) other ≡ slice_get paces other
  by None = refl
  by (Some pace) = get_beside paces number (change pace) other apart

-- a change that makes no next hop answer
pub silent_changed : (change : Pace → Pace) (paces : List Pace) (number : ℕ) → ((pace : Pace) → pace.has_answered ≡ false → (change pace).has_answered ≡ false) → has_answered_at paces number ≡ false → has_answered_at (changed_at change paces number) number ≡ false
silent_changed change paces number silent is = by (slice_get paces number) refl where
  by : (pace : Option Pace) → slice_get paces number ≡ pace → has_answered_at (put_at paces number (option_map change pace)) number ≡ false
  by None there = is
  by (Some pace) there =
      ap (λ (pace : Option Pace). option_map_or (λ (pace : Pace). pace.has_answered) pace false) (get_own paces number (change pace) pace there)
      ∙ silent pace (ap (λ (pace : Option Pace). option_map_or (λ (pace : Pace). pace.has_answered) pace false) (sym there) ∙ is)
