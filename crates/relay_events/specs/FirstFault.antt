-- Why an event is refused before a node is called: the first of these that holds. There is no such link; the end
-- belongs to another; the node is down; there is nothing to do.
use Rattle.std.specs.Prelude.{ℕ, zero, suc, Bool, false, not, List, [], ◌∷◌, bytes_eq, Option, None, Some}
use Rattle.std.specs.Prelude.{if◌then◌else◌, slice_get}
use Rattle.std.specs.Option.{is_some}
use Rattle.relay_attempts.specs.declared.work.Work.{Work}
use Rattle.relay_attempts.specs.declared.work.Work.TheVariants.{NoRoute, Try}
use Rattle.relay_attempts.specs.Work.{works_of}
use Rattle.relay_world.specs.declared.link.Link.{Link}
use Rattle.relay_world.specs.Crashes.{is_tried_for, serves_for}
use Rattle.relay_world.specs.World.{Down, HostState, Host, Up, World}
use Rattle.relay_events.specs.declared.event.Event.{Event}
use Rattle.relay_events.specs.declared.event.Event.TheVariants.{Connect, Send, Carry, Break, Tick, Give, Compact, Stop}
use Rattle.relay_events.specs.declared.event.Event.TheVariants.{Withdraw}
use Rattle.relay_events.specs.declared.fault.PairFault.{PairFault}
use Rattle.relay_events.specs.declared.fault.PairFault.TheVariants as fault
use Rattle.relay_hosts.specs.Links.{client_idles, has_outside, server_idles, whole_link}
use Rattle.relay_hosts.specs.Host.{holds_up, is_up}

module _ {D : Type 0} (world : World D) where
  abbrev pub unless_up : ℕ → Option PairFault → Option PairFault
  unless_up node rest = if is_up (slice_get world.hosts node) then rest else Some fault.Down

  abbrev pub carry_idles : ℕ → Bool → Option PairFault
  carry_idles zero idles = Some fault.Nothing
  carry_idles (suc count) idles = if idles then Some fault.Nothing else None

  -- the first fault of carrying octets on a link, if it is whole
  abbrev pub carry_fault : Option Link → ℕ → ℕ → Option PairFault
  carry_fault None node count = Some fault.NoLink
  carry_fault (Some link) node count =
      if serves_for node link.server then unless_up node (carry_idles count (server_idles world.attempts link)) else
      (if is_tried_for node world.attempts link.client
      then unless_up node (carry_idles count (client_idles world.attempts link))
      else Some fault.NotYours)

  abbrev pub send_fault : Option Link → Option PairFault
  send_fault None = Some fault.NoLink
  send_fault (Some link) = if has_outside link then None else Some fault.NotYours

  abbrev pub break_fault : Option Link → Option PairFault
  break_fault None = Some fault.NoLink
  break_fault (Some link) = None

  -- whether a node has this name and is down
  abbrev pub names_down : List ℕ → List (Host D) → Bool
  names_down name [] = false
  names_down name (host ∷ hosts) =
      if bytes_eq host.config.host name then not (holds_up host.state) else names_down name hosts

  -- the first fault of doing this work
  abbrev pub work_fault : List Work → Option PairFault
  work_fault [] = Some fault.Nothing
  work_fault (NoRoute number ∷ works) = None
  work_fault (Try number hop ∷ works) = if names_down hop world.hosts then Some fault.Down else None

  abbrev pub due_fault : HostState D → Option PairFault
  due_fault (Up node) = work_fault (works_of node.config.routes node.attempts world.clock node.records.queue)
  due_fault (Down disk undecided) = Some fault.Down

  abbrev pub give_fault : Option (Host D) → Option PairFault
  give_fault None = Some fault.Down
  give_fault (Some host) = due_fault host.state

  -- only a node that stops now may be down already
  abbrev pub stop_fault : ℕ → ℕ → Option PairFault
  stop_fault node zero = if is_some (slice_get world.hosts node) then None else Some fault.Down
  stop_fault node (suc calls) = unless_up node None

  abbrev pub first_fault : Event → Option PairFault
  first_fault (Connect node) = unless_up node None
  first_fault (Send number octets) = send_fault (whole_link world.links number)
  first_fault (Carry number node count) = carry_fault (whole_link world.links number) node count
  first_fault (Break number) = break_fault (whole_link world.links number)
  first_fault (Tick now) = None
  first_fault (Give node) = give_fault (slice_get world.hosts node)
  first_fault (Compact node) = unless_up node None
  first_fault (Withdraw node message place withdrawal) = unless_up node None
  first_fault (Stop node calls pick) = stop_fault node calls
