-- The first work of a node, and the faults that stand against it.
use Rattle.std.proofs.Common.{inl, inr, ◌≡◌, ℕ, true, false, List, [], ◌∷◌, Option, None, Some, Err, refl, sym, subst, ap, ◌∙◌}
use Rattle.std.specs.Prelude.{if◌then◌else◌, slice_get}
use Rattle.std.proofs.lemmas.Bool.{false≢true}
use Rattle.std.proofs.lemmas.Option.{none-some, same_Some}
use Rattle.relay_disk.specs.Device.{DiskWords}
use Rattle.relay_attempts.specs.declared.work.Work.{Work}
use Rattle.relay_attempts.specs.declared.work.Work.TheVariants.{NoRoute, Try}
use Rattle.relay_world.specs.declared.attempt.Attempt.{Attempt}
use Rattle.relay_world.specs.declared.line.Line.{Line}
use Rattle.relay_world.specs.declared.link.Link.{Link}
use Rattle.relay_world.specs.World.{Down, HostState, Host, Up, World}
use Rattle.relay_events.specs.declared.event.Event.TheVariants.{Give}
use Rattle.relay_events.specs.declared.fault.PairFault.{PairFault}
use Rattle.relay_events.specs.declared.fault.PairFault.TheVariants as fault
use Rattle.relay_events.specs.FirstFault.{due_fault, first_fault, give_fault, names_down, unless_up, work_fault}
use Rattle.relay_hosts.specs.Host.{holds_up, is_up}
use Rattle.relay_events.specs.Give.{IsFirstWork, IsWhyNotBegun, IsWhyNotGivenUp}
use Rattle.relay_events.specs.Relays.{AreBound}
use Rattle.relay_events.specs.Step.{Refuses, RefusesToGiveUp, Steps, fault_of}
use Rattle.relay_events.specs.Told.{LearnsOfBreaks}
use Rattle.relay_records.specs.declared.fault.NodeFault.{NodeFault}
use Rattle.relay_hosts.specs.declared.work.Begun.TheVariants as begun
use Rattle.relay_hosts.specs.Work.{BeginsUnlessFull, HasChanges, works_in}
use Rattle.relay_events.proofs.BoundLemmas.{keeps_changes}
use Rattle.relay_events.proofs.StepLemmas.{told_already}

-- where a host has work, it is up
pub works_up : {D : Type 0} (now : ℕ) (state : HostState D) (work : Work) → slice_get (works_in now state) 0 ≡ Some work
    → holds_up state ≡ true
works_up now (Up standing) work first = refl
works_up now (Down disk undecided) work first = absurd (none-some work first)

module _ {D : Type 0} (world : World D) (node : ℕ) where
  cut : (work : Work) (works : List Work) → work_fault world (work ∷ works) ≡ work_fault world (work ∷ [])
  cut (NoRoute number) works = refl
  cut (Try number hop) works = refl

  head : (works : List Work) (work : Work) → slice_get works 0 ≡ Some work → work_fault world works ≡ work_fault world (work ∷ [])
  head [] work first = absurd (none-some work first)
  head (x ∷ xs) work first = cut x xs ∙ ap (λ w. work_fault world (w ∷ [])) (same_Some x work first)

  due_is : (state : HostState D) (work : Work) → slice_get (works_in world.clock state) 0 ≡ Some work
      → due_fault world state ≡ work_fault world (work ∷ [])
  due_is (Up standing) work first = head (works_in world.clock (Up standing)) work first
  due_is (Down disk undecided) work first = absurd (none-some work first)

  -- the first fault is that of the first work
  pub first_is : (work : Work) → IsFirstWork world node work → first_fault world (Give node) ≡ work_fault world (work ∷ [])
  first_is work its = ap (λ h. give_fault world h) its.host_at ∙ due_is its.host.state work its.first

  pub first_not_down : (message : ℕ) (hop : List ℕ) → IsFirstWork world node (Try message hop) → names_down world hop world.hosts ≡ false
      → first_fault world (Give node) ≡ None
  first_not_down message hop its up =
      first_is (Try message hop) its ∙ ap (λ b. if b then Some fault.Down else None) up

  pub first_down : (message : ℕ) (hop : List ℕ) → IsFirstWork world node (Try message hop) → names_down world hop world.hosts ≡ true
      → first_fault world (Give node) ≡ Some fault.Down
  first_down message hop its down =
      first_is (Try message hop) its ∙ ap (λ b. if b then Some fault.Down else None) down

  none_due : (state : HostState D) → holds_up state ≡ true → slice_get (works_in world.clock state) 0 ≡ None
      → due_fault world state ≡ Some fault.Nothing
  none_due (Up standing) up none = by (works_in world.clock (Up standing)) none
    where
      by : (works : List Work) → slice_get works 0 ≡ None → work_fault world works ≡ Some fault.Nothing
      by [] none = refl
      by (work ∷ works) none = absurd (none-some work (sym none))
  none_due (Down disk undecided) up none = absurd (false≢true up)

  -- where there is no work, there is nothing to do
  pub no_work : (host : Host D) → slice_get world.hosts node ≡ Some host → holds_up host.state ≡ true
      → slice_get (works_in world.clock host.state) 0 ≡ None → first_fault world (Give node) ≡ Some fault.Nothing
  no_work host at up none = ap (λ h. give_fault world h) at ∙ none_due host.state up none

  due_down : (state : HostState D) (why : PairFault) → (if holds_up state then None else Some fault.Down) ≡ Some why
      → due_fault world state ≡ Some why
  due_down (Up standing) why is = absurd (none-some why is)
  due_down (Down disk undecided) why is = is

  give_down : (host : Option (Host D)) (why : PairFault) → (if is_up host then None else Some fault.Down) ≡ Some why
      → give_fault world host ≡ Some why
  give_down None why is = is
  give_down (Some host) why is = due_down host.state why is

  -- a node that is down does nothing
  pub down_first : (why : PairFault) → unless_up world node None ≡ Some why → first_fault world (Give node) ≡ Some why
  down_first why is = give_down (slice_get world.hosts node) why is

-- a node that has work may be called
pub first_has : {D : Type 0} (honest : Type 0) (words : DiskWords D) (world : World D) (node : ℕ) (work : Work)
    → (first : IsFirstWork world node work) → AreBound honest words world → HasChanges honest words first.host
first_has honest words world node work first bound =
    keeps_changes honest words world node first.host bound first.host_at (works_up world.clock first.host.state work first.first)

-- parts that have got room are the same parts
pub same_parts : {D : Type 0} (world : World D) (links : List Link) (attempts : List Attempt) (ledger : List Line)
    → links ≡ world.links → attempts ≡ world.attempts → ledger ≡ world.ledger
    → record world { links = links; attempts = attempts; ledger = ledger } ≡ world
same_parts world links attempts ledger one two three =
    ap (λ (l : List Link). record world { links = l; attempts = attempts; ledger = ledger }) one
    ∙ ap (λ (a : List Attempt). record world { attempts = a; ledger = ledger }) two
    ∙ ap (λ (l : List Line). record world { ledger = l }) three

-- why an attempt was refused
pub why_not_begun : {D : Type 0} (host : Host D) (why : NodeFault) → BeginsUnlessFull host (begun.Refused why) → IsWhyNotBegun host why
why_not_begun host why (inl none) = inl none.0
why_not_begun host why (inr full) = inr full

module _ {D : Type 0} (honest : Type 0) (words : DiskWords D) (old new : World D) (node message : ℕ) (why : NodeFault)
    (first : IsFirstWork old node (NoRoute message)) where
  -- a node that refused to give up places
  pub ungiven_steps : (host : Host D) → host ≡ first.host → IsWhyNotGivenUp honest words old.clock host message why → new ≡ old
      → LearnsOfBreaks old → Steps honest words old (Give node) new (Err (fault_of why))
  ungiven_steps host same because is told =
      inr (inr (
        first_is old node (NoRoute message) first,
        (
          new,
          (
            Refuses (fault_of why),
            RefusesToGiveUp message first why (subst (λ h. IsWhyNotGivenUp honest words old.clock h message why) same because) is,
            (told_already honest words new (subst (λ (w : World D). LearnsOfBreaks w) (sym is) told), refl),
          ),
        ),
      ))
