-- A link that is opened to a node.
use Rattle.std.proofs.Common.{inr, ◌≡◌, ℕ, suc, List, [], ◌∷◌, ◌++◌, length, None, Some, Ok, Err, refl, sym, subst, ap, ◌∙◌, arith}
use Rattle.std.specs.Prelude.{slice_get, slice_index_or, slice_set}
use Rattle.std.proofs.lemmas.List.{length-set, set-get_or}
use Rattle.relay_disk.specs.Device.{DiskWords}
use Rattle.relay_records.specs.declared.fault.NodeFault.{NodeFault}
use Rattle.relay_world.specs.declared.link.Link.{Link}
use Rattle.relay_world.specs.Once.{Opens, RunsKeepAll}
use Rattle.relay_world.specs.Steps.{HasOpened, IsPut, IsPutAt, opened_link}
use Rattle.relay_world.specs.World.{Host, World}
use Rattle.relay_events.specs.declared.event.Event.TheVariants.{Connect}
use Rattle.relay_events.specs.declared.seen.Seen.TheVariants.{Linked}
use Rattle.relay_events.specs.FirstFault.{unless_up}
use Rattle.relay_events.specs.Open.{LinksTo, RefusesClient}
use Rattle.relay_events.specs.Happened.{HasHappened}
use Rattle.relay_events.specs.Relays.{AreBound}
use Rattle.relay_hosts.specs.Room.{HasRoom, lines_held, lines_left, lines_to_come}
use Rattle.relay_events.specs.Step.{OpensLink, Refuses, RefusesLink, Shows, Steps, fault_of, outside_address}
use Rattle.relay_events.specs.Told.{LearnsOfBreaks}
use Rattle.relay_events.proofs.EventLemmas.{opened}
use Rattle.relay_events.proofs.PlaceLemmas.{value_put}
use Rattle.relay_events.proofs.PutLemmas.{put_at_push}
use Rattle.relay_events.proofs.ReopenLemmas.{held_put}
use Rattle.relay_events.proofs.RunLemmas.{one_happened, still_bound}
use Rattle.relay_events.proofs.SendLemmas.{told_put}
use Rattle.relay_events.proofs.StepLemmas.{told_already}

-- links that have got room are the same links
pub same_links : {D : Type 0} (world : World D) (links : List Link) → links ≡ world.links → record world { links = links } ≡ world
same_links world links same = ap (λ (ls : List Link). record world { links = ls }) same

-- a host that a call has left as it was
pub same_hosts : {D : Type 0} (world : World D) (node : ℕ) (was now : Host D) → slice_get world.hosts node ≡ Some was
    → was ≡ slice_index_or world.hosts node was → now ≡ was
    → record world { hosts = slice_set world.hosts node now } ≡ world
same_hosts world node was now at there same =
    ap (λ (hs : List (Host _)). record world { hosts = hs })
    (ap (λ (h : Host _). slice_set world.hosts node h) (same ∙ there) ∙ set-get_or world.hosts node was)

module _ {D : Type 0} (honest : Type 0) (words : DiskWords D) (old new : World D) (node : ℕ) (peer : List ℕ) (greeting : ℕ)
    (linked : LinksTo old new node peer greeting) where
  abbrev its_link : Link
  its_link = opened_link node peer linked.connected

  hosts_are : new.hosts ≡ slice_set old.hosts node linked.now
  hosts_are = ap (λ (w : World D). w.hosts) linked.new_is

  pub linked_put : IsPutAt old.links new.links (suc (length old.links)) (opened_link node peer linked.connected)
  linked_put =
      subst (λ ls. IsPutAt old.links ls (suc (length old.links)) its_link) (sym (ap (λ (w : World D). w.links) linked.new_is))
      (put_at_push old.links its_link)

  pub linked_host : IsPut old.hosts new.hosts node linked.now
  linked_host =
      subst (λ hs. IsPut old.hosts hs node linked.now) (sym hosts_are)
      (value_put old.hosts node linked.was linked.now linked.was_at)

  abbrev pub has_linked : HasOpened old new node peer
  has_linked =
      opened honest words old new node peer linked.was linked.now linked.connected linked.was_at linked.opens linked_host linked_put (
        ap (λ (w : World D). w.attempts) linked.new_is,
        ap (λ (w : World D). w.ledger) linked.new_is,
        ap (λ (w : World D). w.clock) linked.new_is,
        ap (λ (w : World D). length w.hosts) linked.new_is ∙ length-set old.hosts node linked.now,
      )

  pub linked_happened : HasHappened honest words old new
  linked_happened = one_happened honest words old new (Opens node peer has_linked)

  pub linked_bound : honest → RunsKeepAll honest words → AreBound honest words old → AreBound honest words new
  linked_bound is_honest keeps bound = still_bound honest words is_honest keeps old new bound linked_happened

  pub linked_told : LearnsOfBreaks old → LearnsOfBreaks new
  linked_told told =
      subst (λ (w : World D). LearnsOfBreaks w) (sym linked.new_is)
      (told_put old (old.links ++ its_link ∷ []) (suc (length old.links)) its_link (put_at_push old.links its_link) refl told)

  pub linked_held : lines_left 0 new.hosts ≡ lines_left 0 old.hosts
  linked_held =
      let put = held_put old.hosts node 0 node linked.was linked.now (omega arith) linked.was_at in
      let none : lines_held node linked.was.state ≡ 0 = ap (λ h. lines_held node h) linked.opens.runs.up in
      let none_now : lines_held node linked.now.state ≡ 0 =
      ap (λ (h : Host D). lines_held node h.state) linked.opens.runs.new_is in
      let hosts : lines_left 0 new.hosts ≡ lines_left 0 (slice_set old.hosts node linked.now) =
      ap (λ (hs : List (Host D)). lines_left 0 hs) hosts_are in
      omega (arith, put, none, none_now, hosts)

  pub linked_room : (free : ℕ) → HasRoom old free → HasRoom new free
  linked_room free room =
      let held = linked_held in
      let attempts = ap (λ (w : World D). lines_to_come w.attempts) linked.new_is in
      omega (arith, room, held, attempts)

module _ {D : Type 0} (honest : Type 0) (words : DiskWords D) (old new : World D) (node : ℕ) where
  pub linked_steps : (greeting number : ℕ) (linked : LinksTo old new node outside_address greeting) → unless_up old node None ≡ None
      → LearnsOfBreaks old → number ≡ length new.links → Steps honest words old (Connect node) new (Ok (Linked number greeting))
  linked_steps greeting number linked none told is = (
    none,
    (
      new,
      (
        Shows (Linked (length new.links) (length linked.connected.out.items)),
        OpensLink (has_linked honest words old new node outside_address greeting linked),
        (
          told_already honest words new (linked_told honest words old new node outside_address greeting linked told),
          ap (λ n. Ok (Linked n greeting)) is ∙ ap (λ g. Ok (Linked (length new.links) g)) linked.greeting_is,
        ),
      ),
    ),
  )

  pub unlinked_steps : (why : NodeFault) → RefusesClient old new node why → unless_up old node None ≡ None → LearnsOfBreaks old
      → Steps honest words old (Connect node) new (Err (fault_of why))
  unlinked_steps why refuses none told =
      inr (inr (
        none,
        (
          new,
          (
            Refuses (fault_of why),
            RefusesLink refuses.host refuses.host_at why refuses.refuses refuses.new_is,
            (
              told_already honest words new (subst (λ (w : World D). LearnsOfBreaks w) (sym refuses.new_is) told),
              refl,
            ),
          ),
        ),
      ))
