-- An attempt that begins on a link which its node has opened to the node that the hop is.
use Rattle.std.proofs.Common.{inl, inr, ◌≡◌, ◌↔◌, ◌≤◌, ◌+◌, ℕ, suc, Bool, true, false, not, List, [], ◌∷◌, ◌++◌, length, Option, None, Some, Result, Ok, Err, refl, sym, subst, ap, ◌∙◌, arith, length-append}
use Rattle.std.specs.Prelude.{if◌then◌else◌, IsTrue, slice_get, slice_set}
use Rattle.std.proofs.lemmas.Bool.{true≢false}
use Rattle.std.proofs.lemmas.Bool.Decides.{eqb_tells}
use Rattle.std.proofs.lemmas.Option.{none-some, same_Some}
use Rattle.relay_disk.specs.Device.{DiskWords}
use Rattle.relay_slots.specs.Slots.{IsFull}
use Rattle.relay_records.specs.declared.fault.NodeFault.TheVariants as node_fault
use Rattle.relay_attempts.specs.declared.runs.Run.{Run}
use Rattle.relay_attempts.specs.declared.work.Work.TheVariants.{Try}
use Rattle.relay_records.specs.declared.fault.NodeFault.{NodeFault}
use Rattle.relay_routes.specs.declared.config.Config.{Config}
use Rattle.relay_world.specs.declared.link.Link.{Link}
use Rattle.relay_world.specs.HopLinks.{IsLinkedToHop}
use Rattle.relay_world.specs.Once.{RunsKeepAll}
use Rattle.relay_world.specs.Steps.{Breaks, IsBlank, IsPutAt, opened_link}
use Rattle.relay_world.specs.World.{Host, World, link_at}
use Rattle.relay_events.specs.declared.event.Event.TheVariants.{Give}
use Rattle.relay_events.specs.declared.fault.PairFault.{PairFault}
use Rattle.relay_events.specs.declared.fault.PairFault.TheVariants as fault
use Rattle.relay_events.specs.declared.seen.Seen.{Seen}
use Rattle.relay_events.specs.declared.seen.Seen.TheVariants as seen
use Rattle.relay_events.specs.BreakOff.{BreaksAfter}
use Rattle.relay_events.specs.FirstFault.{first_fault, names_down, unless_up}
use Rattle.relay_hosts.specs.Host.{holds_up, is_up}
use Rattle.relay_events.specs.Give.{HasBegun, HasBegunOn, IsFirstWork, IsWhyNotBegun, LeadsOn}
use Rattle.relay_hosts.specs.Named.{IsFirstNamed}
use Rattle.relay_events.specs.Open.{LinksTo, RefusesClient}
use Rattle.relay_events.specs.Happened.{HasHappened}
use Rattle.relay_events.specs.Relays.{AreBound}
use Rattle.relay_hosts.specs.Room.{HasRoom, lines_left, lines_to_come}
use Rattle.relay_events.specs.Step.{BreaksUnstarted, IsSeen, Refuses, RefusesToOpen, RefusesToStart, Shows, StartsAtNode, Steps, fault_of}
use Rattle.relay_events.specs.Told.{LearnsOfBreaks}
use Rattle.relay_hosts.specs.Work.{attempts_in, works_in}
use Rattle.relay_events.proofs.ConnectLemmas.{has_linked, linked_happened, linked_held, linked_host, linked_put, linked_told}
use Rattle.relay_hosts.proofs.Theorems.{same_attempts, same_work}
use Rattle.relay_events.proofs.GiveLemmas.{first_not_down}
use Rattle.relay_events.proofs.NamedLemmas.{first_is_down}
use Rattle.relay_events.proofs.NamesLemmas.{SameNames, names_put}
use Rattle.relay_events.proofs.RunLemmas.{both_happened}
use Rattle.relay_events.proofs.StartLemmas.{has_started, linked_there, started_bound, started_happened, started_room, started_told}
use Rattle.relay_events.proofs.StepLemmas.{done_steps, told_already}

-- a node has told that not all numbers of its attempts are taken
pub has_free : (told : Bool) (runs : List (Option Run)) → (IsTrue told ↔ IsFull runs) → told ≡ false → IsFull runs → ⊥
has_free told runs tells is full = true≢false (sym (tells.1 full) ∙ is)

-- and then an attempt is refused for want of memory alone
memory_alone : {D : Type 0} (host : Host D) (why : NodeFault) → (IsFull (attempts_in host.state) → ⊥) → IsWhyNotBegun host why
    → why ≡ node_fault.NoMemory
memory_alone host why free (inl none) = none
memory_alone host why free (inr full) = absurd (free full.1)

module _ {D : Type 0} (old : World D) (hop : List ℕ) (to : ℕ) (named : IsFirstNamed old.hosts hop to) where
  -- the node of the name is up, so that it isn't down
  pub up_named : unless_up old to None ≡ None → names_down old hop old.hosts ≡ false
  up_named up =
      first_is_down old old.hosts hop to named.host named.host_at named.named named.first ∙ ap not (up_state up)
    where
      up_state : unless_up old to None ≡ None → holds_up named.host.state ≡ true
      up_state up = by (is_up (slice_get old.hosts to)) up (ap is_up named.host_at)
        where
          by : (b : Bool) → (if b then None else Some fault.Down) ≡ None → b ≡ holds_up named.host.state
              → holds_up named.host.state ≡ true
          by true up is = sym is
          by false up is = absurd (none-some fault.Down (sym up))

module _ {D : Type 0} (honest : Type 0) (words : DiskWords D) (old opened : World D) (node message : ℕ) (hop : List ℕ)
    (to : ℕ) (peer : List ℕ) (greeting : ℕ) (links : LinksTo old opened to peer greeting)
    (first : IsFirstWork old node (Try message hop)) where
  same_clock : opened.clock ≡ old.clock
  same_clock = ap (λ (w : World D). w.clock) links.new_is

  works_still : (host : Host D) → slice_get (works_in old.clock host.state) 0 ≡ Some (Try message hop)
      → slice_get (works_in opened.clock host.state) 0 ≡ Some (Try message hop)
  works_still host its = ap (λ n. slice_get (works_in n host.state) 0) same_clock ∙ its

  -- the work is still the first
  pub first_still : IsFirstWork opened node (Try message hop)
  first_still = elim (eqb_tells node to) [
    | inl here ↦
        let same : links.was ≡ first.host = same_Some links.was first.host
        (sym links.was_at ∙ ap (λ n. slice_get old.hosts n) (sym here.1) ∙ first.host_at) in
        record {
          host = links.now;
          host_at =
              ap (λ n. slice_get opened.hosts n) here.1
              ∙ (linked_host honest words old opened to peer greeting links).at;
          first = works_still links.now
              (ap (λ ws. slice_get ws 0) (same_work old.clock links.was links.now peer links.connected links.opens)
              ∙ ap (λ (h : Host D). slice_get (works_in old.clock h.state) 0) same ∙ first.first);
        }
    | inr off ↦ record {
      host = first.host;
      host_at = (linked_host honest words old opened to peer greeting links).others node off.1 ∙ first.host_at;
      first = works_still first.host first.first;
    }
  ]

  -- and as many of its attempts run
  attempts_still : (host : Host D) → slice_get opened.hosts node ≡ Some host
      → attempts_in host.state ≡ attempts_in first.host.state
  attempts_still host at = elim (eqb_tells node to) [
    | inl here ↦
        let same : links.was ≡ first.host = same_Some links.was first.host
        (sym links.was_at ∙ ap (λ n. slice_get old.hosts n) (sym here.1) ∙ first.host_at) in
        let now : host ≡ links.now = same_Some host links.now
        (sym at ∙ ap (λ n. slice_get opened.hosts n) here.1
        ∙ (linked_host honest words old opened to peer greeting links).at) in
        ap (λ (h : Host D). attempts_in h.state) now
        ∙ same_attempts links.was links.now peer links.connected links.opens
        ∙ ap (λ (h : Host D). attempts_in h.state) same
    | inr off ↦
        ap (λ (h : Host D). attempts_in h.state)
        (same_Some host first.host
        (sym at ∙ (linked_host honest words old opened to peer greeting links).others node off.1 ∙ first.host_at))
  ]

  names_still : SameNames old.hosts opened.hosts
  names_still =
      names_put old.hosts opened.hosts to links.was links.now links.was_at
      (linked_host honest words old opened to peer greeting links) (ap (λ (h : Host D). h.config) links.opens.runs.new_is)

  -- the link that was opened is the last
  pub link_opened : (number : ℕ) → number ≡ suc (length old.links)
      → link_at opened.links number ≡ Some (opened_link to peer links.connected)
  link_opened number is =
      ap (λ n. link_at opened.links n) is ∙ (linked_put honest words old opened to peer greeting links).at

  pub next_number : length opened.links ≡ suc (length old.links)
  next_number =
      let long = length-append old.links (opened_link to peer links.connected ∷ []) in
      let its : length opened.links ≡ length (old.links ++ opened_link to peer links.connected ∷ []) =
      ap (λ (w : World D). length w.links) links.new_is in
      omega (arith, long, its)

  pub same_places : length opened.attempts ≡ length old.attempts
  same_places = ap (λ (w : World D). length w.attempts) links.new_is

  pub opened_lines : (free : ℕ) → lines_to_come old.attempts + lines_left 0 old.hosts + 100 ≤ free
      → lines_to_come opened.attempts + lines_left 0 opened.hosts + 100 ≤ free
  opened_lines free room =
      let held = linked_held honest words old opened to peer greeting links in
      let attempts = ap (λ (w : World D). lines_to_come w.attempts) links.new_is in
      omega (arith, room, held, attempts)

  module _ (named : IsFirstNamed old.hosts hop to) (from : peer ≡ first.host.config.listen.ip.octets)
      (up : unless_up old to None ≡ None) where
    leads : LeadsOn old node hop to peer
    leads = record {
      opener = first.host;
      opener_at = first.host_at;
      from = from;
      host = named.host;
      host_at = named.host_at;
      named = named.named;
    }

    none : first_fault old (Give node) ≡ None
    none = first_not_down old node message hop first (up_named old hop to named up)

    module _ (new : World D) (place number : ℕ) (number_is : number ≡ suc (length old.links))
        (begins : HasBegunOn honest words opened new node message hop number place)
        (bound : AreBound honest words opened) where
      abbrev next : ℕ
      next = suc (length old.links)

      abbrev blank : Link
      blank = opened_link to peer links.connected

      its : HasBegunOn honest words opened new node message hop next place
      its = subst (λ n. HasBegunOn honest words opened new node message hop n place) number_is begins

      blank_is : its.blank ≡ blank
      blank_is = same_Some its.blank blank (sym its.blank_at ∙ link_opened next refl)

      abbrev mid : World D
      mid = its.middle

      abbrev begun : HasBegun honest words opened mid node message hop next place
      begun = its.begun

      abbrev moved : List Link
      moved = its.moved

      put : IsPutAt opened.links moved next (record blank { client = Some (length opened.attempts) })
      put =
          subst (λ (l : Link). IsPutAt opened.links moved next (record l { client = Some (length opened.attempts) })) blank_is
          its.put

      new_is : new ≡ record mid { links = moved }
      new_is = its.new_is

      full_is : new ≡ record opened {
        hosts = slice_set opened.hosts node begun.now;
        attempts = opened.attempts ++ begun.attempt ∷ [];
        links = moved;
      }
      full_is = new_is ∙ ap (λ (w : World D). record w { links = moved }) begun.new_is

      is_blank : IsBlank opened next blank
      is_blank = record {
        client = refl;
        up = refl;
        down_read = refl;
        whole = refl;
        there = inl (linked_put honest words old opened to peer greeting links).at;
      }

      end_from : peer ≡ begun.was.config.listen.ip.octets
      end_from =
          let was = names_still node begun.was begun.was_at in
          from
          ∙ ap (λ (h : Host D). h.config.listen.ip.octets) (same_Some first.host was.0 (sym first.host_at ∙ was.1))
          ∙ ap (λ (c : Config). c.listen.ip.octets) (sym was.2)

      now_named : links.now.config.host ≡ hop
      now_named =
          ap (λ (h : Host D). h.config.host) links.opens.runs.new_is
          ∙ ap (λ (h : Host D). h.config.host) (same_Some links.was named.host (sym links.was_at ∙ named.host_at)) ∙ named.named

      linked : IsLinkedToHop new begun.attempt
      linked =
          linked_there honest words opened mid new node message hop next place begun moved blank is_blank put full_is to
          (record { node = to; peer = peer; session = Some links.connected.session }) links.now refl refl
          (linked_host honest words old opened to peer greeting links).at now_named bound.named end_from

      pub begun_happened : HasHappened honest words old new
      begun_happened =
          both_happened honest words old opened new (linked_happened honest words old opened to peer greeting links)
          (started_happened honest words opened mid new node message hop next place begun moved blank is_blank put full_is linked)

      pub begun_bound : honest → RunsKeepAll honest words → AreBound honest words new
      begun_bound is_honest keeps =
          started_bound honest words opened mid new node message hop next place begun moved blank is_blank put full_is linked is_honest keeps
          bound

      pub begun_told : LearnsOfBreaks old → LearnsOfBreaks new
      begun_told told =
          started_told honest words opened mid new node message hop next place begun moved blank is_blank put full_is bound
          (linked_told honest words old opened to peer greeting links told)

      pub begun_room : (free : ℕ) → AreBound honest words new → lines_to_come old.attempts + lines_left 0 old.hosts + 100 ≤ free
          → HasRoom new free
      begun_room free still room =
          started_room honest words opened mid new node message hop next place begun moved blank is_blank put full_is free still
          (opened_lines free room)

      pub begun_steps : LearnsOfBreaks old → Steps honest words old (Give node) new (Ok (seen.Started place))
      begun_steps told = (
        none,
        (
          new,
          (
            Shows (seen.Started (length old.attempts)),
            StartsAtNode message hop first to peer opened (has_linked honest words old opened to peer greeting links)
                (has_started honest words opened mid new node message hop next place begun moved blank is_blank put full_is linked)
                (begun.is_attempt.0),
            (
              told_already honest words new (begun_told told),
              ap (λ p. Ok (seen.Started p)) (begun.place_is ∙ same_places),
            ),
          ),
        ),
      )

    -- the node had no memory for the attempt, since not all were taken, and the link breaks
    pub unstarted_steps : (IsFull (attempts_in first.host.state) → ⊥)
        → (still new : World D) (number : ℕ) (why : NodeFault) (answer : Result Seen PairFault)
        → (still ≡ opened) × ((host : Host D) × (slice_get opened.hosts node ≡ Some host) × IsWhyNotBegun host why)
        → number ≡ suc (length old.links) → BreaksAfter honest words still new number why answer
        → Steps honest words old (Give node) new answer
    unstarted_steps free still new number why answer refused is breaks =
        let its : Breaks opened breaks.middle (suc (length old.links)) =
        subst (λ n. Breaks opened breaks.middle n) is
        (subst (λ (w : World D). Breaks w breaks.middle number) refused.0 breaks.breaks) in
        let free_still : IsFull (attempts_in refused.1.0.state) → ⊥ =
        subst (λ (runs : List (Option Run)). IsFull runs → ⊥) (sym (attempts_still refused.1.0 refused.1.1)) free in
        let memory : why ≡ node_fault.NoMemory = memory_alone refused.1.0 why free_still refused.1.2 in
        done_steps honest words old (Give node) new answer (
          none,
          (
            breaks.middle,
            (
              Refuses fault.NoMemory,
              BreaksUnstarted message hop first free to peer leads opened (has_linked honest words old opened to peer greeting links)
                  its,
              (
                breaks.told,
                subst (λ f. IsSeen (Refuses (fault_of f)) breaks.told.stopped answer) memory breaks.seen,
              ),
            ),
          ),
        )

-- the other node refused to open a session
module _ {D : Type 0} (honest : Type 0) (words : DiskWords D) (old new : World D) (node message : ℕ) (hop : List ℕ) (to : ℕ)
    (why : NodeFault) (first : IsFirstWork old node (Try message hop)) (named : IsFirstNamed old.hosts hop to)
    (up : unless_up old to None ≡ None) (refuses : RefusesClient old new to why) where
  pub unopened_steps : (IsFull (attempts_in first.host.state) → ⊥) → LearnsOfBreaks old
      → Steps honest words old (Give node) new (Err (fault_of why))
  unopened_steps free told =
      inr (inr (
        first_not_down old node message hop first (up_named old hop to named up),
        (
          new,
          (
            Refuses (fault_of why),
            RefusesToOpen message hop first free to refuses.host refuses.host_at
                (ap (λ (h : Host D). h.config.host) (same_Some refuses.host named.host (sym refuses.host_at ∙ named.host_at)) ∙ named.named)
                why refuses.refuses refuses.new_is,
            (told_already honest words new (subst (λ (w : World D). LearnsOfBreaks w) (sym refuses.new_is) told), refl),
          ),
        ),
      ))

-- all numbers of the node's attempts are taken
module _ {D : Type 0} (honest : Type 0) (words : DiskWords D) (old : World D) (node message : ℕ) (hop : List ℕ) (to : ℕ)
    (first : IsFirstWork old node (Try message hop)) (named : IsFirstNamed old.hosts hop to)
    (up : unless_up old to None ≡ None) where
  pub one_too_many : IsFull (attempts_in first.host.state) → LearnsOfBreaks old
      → Steps honest words old (Give node) old (Err (fault.Node node_fault.TooMany))
  one_too_many full told =
      inr (inr (
        first_not_down old node message hop first (up_named old hop to named up),
        (
          old,
          (
            Refuses (fault.Node node_fault.TooMany),
            RefusesToStart message hop first node_fault.TooMany (inr (refl, full)) refl,
            (told_already honest words old told, refl),
          ),
        ),
      ))
