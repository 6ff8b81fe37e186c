-- A link that breaks.
use Rattle.std.proofs.Common.{◌≡◌, ◌-◌, ℕ, true, Option, None, Some, refl, sym, subst}
use Rattle.std.specs.Prelude.{slice_set}
use Rattle.std.proofs.lemmas.Option.{none-some}
use Rattle.relay_disk.specs.Device.{DiskWords}
use Rattle.relay_world.specs.declared.link.Link.{Link}
use Rattle.relay_world.specs.Once.{BreaksOff, RunsKeepAll}
use Rattle.relay_world.specs.Steps.{Breaks, IsPutAt}
use Rattle.relay_world.specs.World.{World, link_at}
use Rattle.relay_events.specs.declared.fault.PairFault.TheVariants as fault
use Rattle.relay_events.specs.BreakOff.{IsLink}
use Rattle.relay_events.specs.FirstFault.{break_fault}
use Rattle.relay_hosts.specs.Links.{whole_link}
use Rattle.relay_events.specs.Happened.{HasHappened}
use Rattle.relay_events.specs.Relays.{AreBound}
use Rattle.relay_hosts.specs.Room.{HasRoom}
use Rattle.relay_events.proofs.PlaceLemmas.{link_put}
use Rattle.relay_events.proofs.RunLemmas.{both_happened, one_happened, still_bound}
use Rattle.relay_events.proofs.SendLemmas.{whole_there}

-- where no fault stands against its breaking, there is a link
pub is_link : {D : Type 0} (world : World D) (number : ℕ) → break_fault world (whole_link world.links number) ≡ None
    → IsLink world number
is_link world number none = by (whole_link world.links number) none refl
  where
    by : (found : Option Link) → break_fault world found ≡ None → whole_link world.links number ≡ found
        → IsLink world number
    by None is found = absurd (none-some fault.NoLink (sym is))
    by (Some link) is found = record { link = link; link_is = (whole_there (link_at world.links number) link found).0 }

-- it breaks
pub breaks_there : {D : Type 0} (world : World D) (number : ℕ) (link moved : Link) → link_at world.links number ≡ Some link
    → moved ≡ record link { broken = true }
    → Breaks world (record world { links = slice_set world.links (number - 1) moved }) number
breaks_there world number link moved is moved_is = record {
  link = link;
  link_is = is;
  links = slice_set world.links (number - 1) moved;
  put = subst (λ l. IsPutAt world.links (slice_set world.links (number - 1) moved) number l) moved_is
      (link_put world.links number link moved is);
  new_is = refl;
}

module _ {D : Type 0} (honest : Type 0) (words : DiskWords D) where
  pub off_happened : (old new : World D) (number : ℕ) → Breaks old new number → HasHappened honest words old new
  off_happened old new number breaks = one_happened honest words old new (BreaksOff number breaks)

  pub off_bound : honest → RunsKeepAll honest words → (old new : World D) (number : ℕ) → Breaks old new number
      → AreBound honest words old → AreBound honest words new
  off_bound is_honest keeps old new number breaks bound =
      still_bound honest words is_honest keeps old new bound (off_happened old new number breaks)

  -- after other events
  pub then_broken : (old next new : World D) (number : ℕ) → HasHappened honest words old next → Breaks next new number
      → HasHappened honest words old new
  then_broken old next new number happened breaks =
      both_happened honest words old next new happened (off_happened next new number breaks)

  -- there is as much room, and as much runs
  pub room_broken : (old new : World D) (number free : ℕ) → HasRoom old free → Breaks old new number → HasRoom new free
  room_broken old new number free room breaks = subst (λ (w : World D). HasRoom w free) (sym breaks.new_is) room
