-- What happens to a node's ends of links when the node stops: all its sessions are gone, and all its attempts dropped,
-- at once.
use Rattle.std.specs.Prelude.{◌≡◌, ◌⊎◌, ◌≤◌, ℕ, nat_eq, true, List, length, map, Option, None, if◌then◌else◌, slice_get}
use Rattle.std.specs.Option.{option_map}
use Rattle.relay_disk.specs.Device.{DiskWords}
use Rattle.relay_book.specs.declared.change.Change.{Change}
use Rattle.relay_world.specs.declared.attempt.Attempt.{Attempt}
use Rattle.relay_world.specs.declared.attempt.Fate.{Fate}
use Rattle.relay_world.specs.declared.attempt.Fate.TheVariants.{Dropped, Lost, Replied, Running}
use Rattle.relay_world.specs.declared.link.Link.{Link}
use Rattle.relay_world.specs.declared.link.ServerEnd.{ServerEnd}
use Rattle.relay_world.specs.Bound.{IsBound}
use Rattle.relay_world.specs.Stops.{NoAttempt, NoSession}
use Rattle.relay_world.specs.World.{World, link_at}

-- a server end, without its session if it belongs to this node
abbrev pub hung_up_end : ℕ → ServerEnd → ServerEnd
hung_up_end node end = if nat_eq end.node node then record end { session = None } else end

abbrev pub hung_up_link : ℕ → Link → Link
hung_up_link node link = record link { server = option_map (hung_up_end node) link.server }

-- the state of an attempt after it was dropped: unchanged if it had ended
abbrev pub dropped : Fate → Fate
dropped (Running slot) = Dropped
dropped (Replied number) = Replied number
dropped (Lost number) = Lost number
dropped Dropped = Dropped

-- an attempt, dropped if it belongs to this node
abbrev pub hung_up_attempt : ℕ → Attempt → Attempt
hung_up_attempt node attempt =
    if nat_eq attempt.node node then record attempt { fate = dropped attempt.fate } else attempt

-- the world with all sessions of a node gone, and its attempts dropped
abbrev pub hung_up : {D : Type 0} → ℕ → World D → World D
hung_up node world = record world {
  links = map (hung_up_link node) world.links;
  attempts = map (hung_up_attempt node) world.attempts;
}

-- the link, broken
abbrev pub broken_link : Link → Link
broken_link link = record link { broken = true }

-- A link is unchanged; or it has lost a session of the node, or is broken, or both.
abbrev pub IsLetGo : ℕ → Option Link → Option Link → Type 0
IsLetGo node was now =
    (now ≡ was) ⊎ (now ≡ option_map (hung_up_link node) was) ⊎ (now ≡ option_map broken_link was)
    ⊎ (now ≡ option_map (λ link. broken_link (hung_up_link node link)) was)

-- Some or all sessions of a node are gone, attempts of it dropped, and links broken. Nothing else changes.
pub record HangsUp {D : Type 0} (old new : World D) (node : ℕ) : Type 0 where
  pub links : List Link
  pub each_link : (number : ℕ) → IsLetGo node (link_at old.links number) (link_at links number)
  pub grows : length old.links ≤ length links
  pub attempts : List Attempt
  pub each_attempt : (place : ℕ) → (slice_get attempts place ≡ slice_get old.attempts place)
      ⊎ (slice_get attempts place ≡ option_map (hung_up_attempt node) (slice_get old.attempts place))
  pub new_is : new ≡ record old { links = links; attempts = attempts }

-- hanging up preserves the invariant
abbrev pub HangingUpKeeps : {D : Type 0} → Type 0 → DiskWords D → Type 0
HangingUpKeeps {D} honest words =
    (old new : World D) (lists : List (List Change)) (node : ℕ) → IsBound honest words old lists
    → HangsUp old new node → IsBound honest words new lists

-- a node that has hung up has no session and no running attempt
abbrev pub HangingUpEnds : Type 0 → Type 0
HangingUpEnds D =
    (world : World D) (node : ℕ)
    → HangsUp world (hung_up node world) node × NoSession (hung_up node world) node
    × NoAttempt (hung_up node world) node
