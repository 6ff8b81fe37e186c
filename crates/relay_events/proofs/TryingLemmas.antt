-- Which nodes have a running attempt: fewer, where attempts end, and one less, where a node drops all of its own.
use Rattle.std.proofs.Common.{inl, inr, ◌≡◌, ◌≢◌, ◌≤◌, ◌<◌, ◌+◌, ℕ, zero, suc, nat_eq, Bool, true, false, List, [], ◌∷◌, length, map, Option, None, Some, refl, sym, subst, ap, ◌∙◌, arith}
use Rattle.std.specs.Prelude.{if◌then◌else◌, slice_get, ◌&&◌, ◌||◌}
use Rattle.std.specs.Option.{is_none}
use Rattle.std.proofs.lemmas.Bool.{and_parts, cases_Bool, cases_eq, cases_lt, false≢true, or_cases, true≢false}
use Rattle.std.proofs.lemmas.Bool.Decides.{eqb_tells}
use Rattle.std.proofs.lemmas.Option.{same_Some, slice_get_within}
use Rattle.relay_disk.specs.Device.{DiskWords}
use Rattle.relay_node.specs.Node.{NodeState}
use Rattle.relay_world.specs.declared.attempt.Attempt.{Attempt}
use Rattle.relay_world.specs.declared.attempt.Fate.{Fate}
use Rattle.relay_world.specs.declared.attempt.Fate.TheVariants.{Running, Replied, Lost, Dropped}
use Rattle.relay_world.specs.HangUp.{dropped, hung_up_attempt}
use Rattle.relay_world.specs.Steps.{IsPut}
use Rattle.relay_world.specs.Stops.{Decides, Finds}
use Rattle.relay_world.specs.World.{FromClient, FromGivingUp, FromLoss, FromReplies, Host, Origin, Undecided, World}
use Rattle.relay_records.specs.declared.noted.Noted.{Noted}
use Rattle.relay_hosts.specs.Links.{is_running}
use Rattle.relay_events.specs.declared.tell.Loss.{Loss}
use Rattle.relay_events.specs.declared.tell.Loss.TheVariants as loss
use Rattle.relay_events.specs.Carried.{TellsLoss, stops_by}
use Rattle.relay_events.specs.Told.{CrashesTold, IsOpened, runs_for, trying_of}

-- a running attempt of this node
pub record HasRunning (attempts : List Attempt) (node : ℕ) : Type 0 where
  pub place : ℕ
  pub attempt : Attempt
  pub is_there : slice_get attempts place ≡ Some attempt
  pub its_node : attempt.node ≡ node
  pub runs : is_running attempt.fate ≡ true

same_number : (one other : ℕ) → one ≡ other → nat_eq one other ≡ true
same_number one other same = elim (eqb_tells one other) [ inl is ↦ is.0 | inr off ↦ absurd (off.1 same) ]

number_same : (one other : ℕ) → nat_eq one other ≡ true → one ≡ other
number_same one other is = elim (eqb_tells one other) [ inl same ↦ same.1 | inr off ↦ absurd (true≢false (sym is ∙ off.0)) ]

either_one : (one other : Bool) → one ≡ true → (one || other) ≡ true
either_one true other is = refl
either_one false other is = absurd (false≢true is)

either_other : (one other : Bool) → other ≡ true → (one || other) ≡ true
either_other true other is = refl
either_other false other is = is

both : (one other : Bool) → one ≡ true → other ≡ true → (one && other) ≡ true
both true other one_is is = is
both false other one_is is = absurd (false≢true one_is)

found : (node : ℕ) (attempts : List Attempt) → runs_for node attempts ≡ true → HasRunning attempts node
found node [] is = absurd (false≢true is)
found node (x ∷ xs) is = elim (or_cases (nat_eq x.node node && is_running x.fate) (runs_for node xs) is) [
  | inl here ↦
      let parts = and_parts (nat_eq x.node node) (is_running x.fate) here in
      record { place = 0; attempt = x; is_there = refl; its_node = number_same x.node node parts.0; runs = parts.1 }
  | inr later ↦
      let rest = found node xs later in
      record {
        place = suc rest.place;
        attempt = rest.attempt;
        is_there = rest.is_there;
        its_node = rest.its_node;
        runs = rest.runs;
      }
]

counted : (node place : ℕ) (attempt : Attempt) (attempts : List Attempt) → slice_get attempts place ≡ Some attempt
    → attempt.node ≡ node → is_running attempt.fate ≡ true → runs_for node attempts ≡ true
counted node place attempt [] there its runs = absurd (true≢false (ap is_none there))
counted node zero attempt (x ∷ xs) there its runs =
    let same = same_Some x attempt there in
    either_one (nat_eq x.node node && is_running x.fate) (runs_for node xs)
    (both (nat_eq x.node node) (is_running x.fate)
    (same_number x.node node (ap (λ (a : Attempt). a.node) same ∙ its))
    (ap (λ (a : Attempt). is_running a.fate) same ∙ runs))
counted node (suc place) attempt (x ∷ xs) there its runs =
    either_other (nat_eq x.node node && is_running x.fate) (runs_for node xs)
    (counted node place attempt xs there its runs)

-- a count of a test
abbrev count_of : Bool → ℕ
count_of going = if going then 1 else 0

no_more : (was is : Bool) → (is ≡ true → was ≡ true) → count_of is ≤ count_of was
no_more was false still = omega arith
no_more was true still = let all : count_of was ≡ 1 = ap count_of (still refl) in omega (arith, all)

-- no node runs an attempt now that ran none before
abbrev pub NoneBegins : List Attempt → List Attempt → Type 0
NoneBegins old new = (node : ℕ) → HasRunning new node → HasRunning old node

still_counted : (old new : List Attempt) → NoneBegins old new → (node : ℕ) → runs_for node new ≡ true → runs_for node old ≡ true
still_counted old new none node is =
    let was = none node (found node new is) in counted node was.place was.attempt old was.is_there was.its_node was.runs

pub trying_fewer : (old new : List Attempt) → NoneBegins old new → (nodes : ℕ) → trying_of nodes new ≤ trying_of nodes old
unfolding trying_of
trying_fewer old new none zero = omega arith
trying_fewer old new none (suc node) =
    let one = no_more (runs_for node old) (runs_for node new) (still_counted old new none node) in
    let rest = trying_fewer old new none node in
    omega (arith, one, rest)

-- a node that ran one runs none now
pub trying_less : (old new : List Attempt) → NoneBegins old new → (node : ℕ) → HasRunning old node → (HasRunning new node → ⊥)
    → (nodes : ℕ) → node < nodes → 1 + trying_of nodes new ≤ trying_of nodes old
unfolding trying_of
trying_less old new none node was over zero within = absurd (omega (arith, within))
trying_less old new none node was over (suc top) within = elim (cases_eq node top) [
  | inl here ↦
      let ran : count_of (runs_for top old) ≡ 1 =
      ap count_of (subst (λ n. runs_for n old ≡ true) here (counted node was.place was.attempt old was.is_there was.its_node was.runs)) in
      let over_now : runs_for top new ≡ false = elim (cases_Bool (runs_for top new)) [
        | inl is ↦ absurd (over (subst (λ n. HasRunning new n) (sym here) (found top new is)))
        | inr is ↦ is
      ] in
      let runs : count_of (runs_for top new) ≡ count_of false = ap count_of over_now in
      let rest = trying_fewer old new none top in
      omega (arith, ran, runs, rest)
  | inr off ↦
      let one = no_more (runs_for top old) (runs_for top new) (still_counted old new none top) in
      let rest = trying_less old new none node was over top (below node top within off) in
      omega (arith, one, rest)
]
  where
    below : (n m : ℕ) → n < suc m → n ≢ m → n < m
    below n m less off = elim (cases_lt n m) [ inl under ↦ under | inr above ↦ absurd (off (omega (arith, less, above))) ]

count_few : (is : Bool) → count_of is ≤ 1
count_few true = omega arith
count_few false = omega arith

pub few_try : (nodes : ℕ) (attempts : List Attempt) → trying_of nodes attempts ≤ nodes
unfolding trying_of
few_try zero attempts = omega arith
few_try (suc node) attempts =
    let one = count_few (runs_for node attempts) in
    let rest = few_try node attempts in
    omega (arith, one, rest)

-- an attempt that is put in the place of another, and doesn't run
pub put_begins_none : (old new : List Attempt) (place : ℕ) (ended : Attempt) → IsPut old new place ended
    → is_running ended.fate ≡ false → NoneBegins old new
put_begins_none old new place ended put over node is = elim (cases_eq is.place place) [
  | inl here ↦
      let same = same_Some is.attempt ended (sym is.is_there ∙ ap (λ n. slice_get new n) here ∙ put.at) in
      absurd (true≢false (sym is.runs ∙ ap (λ (a : Attempt). is_running a.fate) same ∙ over))
  | inr off ↦ record {
    place = is.place;
    attempt = is.attempt;
    is_there = sym (put.others is.place off) ∙ is.is_there;
    its_node = is.its_node;
    runs = is.runs;
  }
]

pub same_begins_none : (old new : List Attempt) → new ≡ old → NoneBegins old new
same_begins_none old new same node is = subst (λ l. HasRunning l node) same is

pub both_begin_none : (old next new : List Attempt) → NoneBegins old next → NoneBegins next new → NoneBegins old new
both_begin_none old next new first more node is = first node (more node is)

stops : (fate : Fate) → is_running (dropped fate) ≡ false
stops (Running slot) = refl
stops (Replied number) = refl
stops (Lost number) = refl
stops Dropped = refl

-- a node that drops all of its attempts
abbrev hung_if : Bool → Attempt → Attempt
hung_if hangs attempt = if hangs then record attempt { fate = dropped attempt.fate } else attempt

hung_as : (hangs mine : Bool) (attempt : Attempt) → is_running (hung_if hangs attempt).fate ≡ true
    → (hangs ≡ false) × (is_running attempt.fate ≡ true)
hung_as true mine attempt runs = absurd (false≢true (sym (stops attempt.fate) ∙ runs))
hung_as false mine attempt runs = (refl, runs)

hung_node : (hangs : Bool) (attempt : Attempt) → (hung_if hangs attempt).node ≡ attempt.node
hung_node true attempt = refl
hung_node false attempt = refl

-- one that still runs is as it was, and another node's
hung_still : (node : ℕ) (attempts : List Attempt) (place : ℕ) (attempt : Attempt)
    → slice_get (map (hung_up_attempt node) attempts) place ≡ Some attempt → is_running attempt.fate ≡ true
    → (attempt.node ≢ node) × HasRunning attempts attempt.node
hung_still node [] place attempt there runs = absurd (true≢false (ap is_none there))
hung_still node (x ∷ xs) zero attempt there runs =
    let same = same_Some (hung_up_attempt node x) attempt there in
    let its = hung_as (nat_eq x.node node) true x (ap (λ (a : Attempt). is_running a.fate) same ∙ runs) in
    let number = sym (hung_node (nat_eq x.node node) x) ∙ ap (λ (a : Attempt). a.node) same in (
      λ mine. true≢false (sym (same_number x.node node (number ∙ mine)) ∙ its.0),
      record { place = 0; attempt = x; is_there = refl; its_node = number; runs = its.1 },
    )
hung_still node (x ∷ xs) (suc place) attempt there runs =
    let rest = hung_still node xs place attempt there runs in (
      rest.0,
      record {
        place = suc rest.1.place;
        attempt = rest.1.attempt;
        is_there = rest.1.is_there;
        its_node = rest.1.its_node;
        runs = rest.1.runs;
      },
    )

pub hung_begins_none : (node : ℕ) (attempts : List Attempt) → NoneBegins attempts (map (hung_up_attempt node) attempts)
hung_begins_none node attempts other is =
    subst (λ n. HasRunning attempts n) is.its_node (hung_still node attempts is.place is.attempt is.is_there is.runs).1

pub hung_runs_none : (node : ℕ) (attempts : List Attempt) → HasRunning (map (hung_up_attempt node) attempts) node → ⊥
hung_runs_none node attempts is = (hung_still node attempts is.place is.attempt is.is_there is.runs).0 is.its_node

module _ {D : Type 0} (old new : World D) where
  found_begins_none : (note : Noted) (origin : Origin) → Finds old new note origin → NoneBegins old.attempts new.attempts
  found_begins_none note (FromClient number) finds = same_begins_none old.attempts new.attempts finds.attempts
  found_begins_none note (FromReplies number place message) finds =
      put_begins_none old.attempts new.attempts place (record finds.attempt { fate = Replied note.number }) finds.attempts refl
  found_begins_none note (FromLoss number place message) finds =
      put_begins_none old.attempts new.attempts place (record finds.attempt { fate = Lost note.number }) finds.attempts refl
  found_begins_none note (FromGivingUp message) finds = same_begins_none old.attempts new.attempts finds.1

  decided_begins_none : (node : ℕ) (host : Host D) (after : NodeState D) (undecided : Option Undecided)
      → Decides old new node host after undecided → NoneBegins old.attempts new.attempts
  decided_begins_none node host after None none = same_begins_none old.attempts new.attempts none.attempts
  decided_begins_none node host after (Some undecided) (inl none) =
      same_begins_none old.attempts new.attempts none.1.attempts
  decided_begins_none node host after (Some undecided) (inr its) =
      found_begins_none undecided.note undecided.origin its.1.finds

module _ {D : Type 0} (honest : Type 0) (words : DiskWords D) where
  opened_begins_none : (old new : World D) (node : ℕ) → IsOpened honest words old new node
      → NoneBegins old.attempts new.attempts
  opened_begins_none old new node (inl opens) =
      decided_begins_none old new node opens.host opens.after opens.undecided opens.decides
  opened_begins_none old new node (inr refused) = same_begins_none old.attempts new.attempts refused.stays.rest.1

  -- a node that stops, because an attempt of it was lost, has no running attempt after that
  crash_tries_less : (old new : World D) (number node : ℕ) → length old.hosts ≤ 16 → CrashesTold honest words old new number node
      → 1 + trying_of 16 new.attempts ≤ trying_of 16 old.attempts
  crash_tries_less old new number node few told =
      let of = told.crash.of in
      let its = of.attempt.node in
      let hung : told.down.attempts ≡ map (hung_up_attempt its) old.attempts =
      ap (λ (w : World D). w.attempts) told.crash.crash.down.new_is in
      let opened : NoneBegins told.down.attempts new.attempts = opened_begins_none told.down new node told.opened in
      let none : NoneBegins old.attempts new.attempts =
      both_begin_none old.attempts told.down.attempts new.attempts
      (subst (λ l. NoneBegins old.attempts l) (sym hung) (hung_begins_none its old.attempts)) opened in
      let ran : HasRunning old.attempts its =
      record { place = of.place; attempt = of.attempt; is_there = of.attempt_at; its_node = refl; runs = ap is_running of.runs } in
      let within = slice_get_within old.hosts its of.host of.host_at in
      trying_less old.attempts new.attempts none its ran
      (λ runs. hung_runs_none its old.attempts (subst (λ l. HasRunning l its) hung (opened its runs))) 16
      (omega (arith, few, within))

  -- Where a node is told of a loss, nodes with a running attempt are no more, and one less where it stops.
  pub tells_fewer : (old new : World D) (number : ℕ) (its : Loss) → length old.hosts ≤ 16
      → TellsLoss honest words old new number its
      → length (stops_by its) + trying_of 16 new.attempts ≤ trying_of 16 old.attempts
  tells_fewer old new number (loss.Ended change) few told =
      let less = trying_fewer old.attempts new.attempts
      (put_begins_none old.attempts new.attempts told.of.place (record told.of.attempt { fate = Lost change })
      told.records.attempts refl) 16 in
      omega (arith, less)
  tells_fewer old new number (loss.Gone why) few told =
      let less = trying_fewer old.attempts new.attempts
      (put_begins_none old.attempts new.attempts told.0.of.place (record told.0.of.attempt { fate = Dropped })
      told.0.attempts refl) 16 in
      omega (arith, less)
  tells_fewer old new number (loss.Stopped node) few told =
      let less = crash_tries_less old new number node few told in omega (arith, less)
