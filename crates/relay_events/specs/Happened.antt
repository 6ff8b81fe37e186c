-- What has happened to relays: the events of their world, and what the postmaster asked for by them.
use Rattle.std.specs.Prelude.{◌≡◌, ℕ, List, [], ◌∷◌, ◌++◌}
use Rattle.relay_disk.specs.Device.{DiskWords}
use Rattle.relay_world.specs.GivingUp.{Withdrawing}
use Rattle.relay_world.specs.Once.{Happen, asked_in}
use Rattle.relay_world.specs.World.{World}
use Rattle.relay_events.specs.declared.event.Event.{Event}
use Rattle.relay_events.specs.declared.event.Event.TheVariants.{Connect, Send, Carry, Break, Tick, Give, Compact, Stop}
use Rattle.relay_events.specs.declared.event.Event.TheVariants.{Withdraw}

-- The other world was made of the one by events, each of which keeps relays bound, and by which the postmaster asked
-- for just this, the last first.
pub record HasHappenedAsking {D : Type 0} (honest : Type 0) (words : DiskWords D) (asked : List Withdrawing)
    (old new : World D) : Type 0 where
  pub count : ℕ
  pub run : Happen honest words count old new
  pub asks : (before : List Withdrawing) → asked_in honest words count old new run before ≡ asked ++ before

-- It was made so, and the postmaster asked for nothing.
abbrev pub HasHappened : {D : Type 0} → Type 0 → DiskWords D → World D → World D → Type 0
HasHappened honest words old new = HasHappenedAsking honest words [] old new

-- what the postmaster asks for by an event of a network
abbrev pub asked_for : Event → List Withdrawing
asked_for (Connect node) = []
asked_for (Send number octets) = []
asked_for (Carry number node count) = []
asked_for (Break number) = []
asked_for (Tick now) = []
asked_for (Give node) = []
asked_for (Compact node) = []
asked_for (Withdraw node message place withdrawal) =
    record { node = node; message = message; withdrawal = withdrawal; names = place ∷ [] } ∷ []
asked_for (Stop node calls pick) = []

-- It was made so by an event: the postmaster asked for what that says, or, if it was refused, for nothing.
pub data HasHappenedFor {D : Type 0} (honest : Type 0) (words : DiskWords D) (event : Event) (old new : World D)
    : Type 0 where
  Asking : HasHappenedAsking honest words (asked_for event) old new → HasHappenedFor honest words event old new
  Unasked : HasHappened honest words old new → HasHappenedFor honest words event old new
