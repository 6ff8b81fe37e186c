-- Carrying octets to the client end of a link, and notifying an attempt of a loss.
use Rattle.std.specs.Prelude.{◌≡◌, ◌<◌, ℕ, ◌+◌, ◌-◌, Bool, true, false, List, [], ◌∷◌, ◌++◌, length, Option, Some}
use Rattle.std.specs.Prelude.{slice_get, slice_set}
use Rattle.std.specs.Option.{is_some}
use Rattle.relay_attempts.specs.declared.reply.Replied.{Replied}
use Rattle.relay_disk.specs.Device.{DiskWords}
use Rattle.relay_world.specs.declared.attempt.Attempt.{Attempt}
use Rattle.relay_world.specs.declared.link.Link.{Link}
use Rattle.relay_world.specs.Crashes.{is_tried_for, serves_for}
use Rattle.relay_world.specs.Steps.{DropsAttempt, HasLost}
use Rattle.relay_world.specs.World.{World, link_at}
use Rattle.relay_events.specs.declared.act.Act.{Act}
use Rattle.relay_events.specs.declared.act.Act.TheVariants as act
use Rattle.relay_events.specs.declared.fault.PairFault.TheVariants as fault
use Rattle.relay_hosts.specs.declared.recorded.Recorded.{Recorded}
use Rattle.relay_events.specs.declared.seen.Seen.TheVariants as seen
use Rattle.relay_events.specs.declared.tell.Loss.{Loss}
use Rattle.relay_events.specs.declared.tell.Loss.TheVariants as loss
use Rattle.relay_hosts.specs.Call.{IsWhyUntold}
use Rattle.relay_hosts.specs.Links.{tries_on, waits_down}
use Rattle.relay_events.specs.Told.{CrashesTold}
use Rattle.relay_hosts.specs.Replied.{replied_attempt, replied_lines}

-- an attempt runs at the client end of an unbroken link
pub record TriesWhole {D : Type 0} (world : World D) (number : ℕ) : Type 0 where
  pub link : Link
  pub link_is : link_at world.links number ≡ Some link
  pub whole : link.broken ≡ false
  pub tries : tries_on world.attempts link.client ≡ true

-- the attempt there belongs to this node, which doesn't have the server end too
pub record RunsAt {D : Type 0} (world : World D) (number node : ℕ) : Type 0 where
  pub link : Link
  pub link_is : link_at world.links number ≡ Some link
  pub whole : link.broken ≡ false
  pub tries : tries_on world.attempts link.client ≡ true
  pub its : is_tried_for node world.attempts link.client ≡ true
  pub unserved : serves_for node link.server ≡ false

-- there are unread octets for the attempt, or none
pub record RunsAndWaits {D : Type 0} (world : World D) (number node : ℕ) (waits : Bool) : Type 0 where
  pub at : RunsAt world number node
  pub waiting : waits_down at.link ≡ waits

-- The node of the attempt at the client end of a link was notified of the loss: the attempt has an outcome, or is gone
-- without one, or the node stopped in that call.
abbrev pub TellsLoss : {D : Type 0} → Type 0 → DiskWords D → World D → World D → ℕ → Loss → Type 0
TellsLoss honest words old new number (loss.Ended change) = HasLost honest words old new number change
TellsLoss honest words old new number (loss.Gone why) =
    (drops : DropsAttempt old new number)
    × IsWhyUntold honest words old.clock drops.of.host.state drops.of.slot why
TellsLoss honest words old new number (loss.Stopped node) = CrashesTold honest words old new number node

-- the node that stopped, if one did
abbrev pub stops_by : Loss → List ℕ
stops_by (loss.Ended change) = []
stops_by (loss.Gone why) = []
stops_by (loss.Stopped node) = node ∷ []

-- A link after replies were read there: the node's answer is written on it; or memory for the answer ran out, and the
-- link is broken.
abbrev pub IsAnswered : Link → Link → Replied → Act → Type 0
IsAnswered old new replied (act.Shows own) =
    (new ≡ record old { up = old.up ++ replied.out.items; down_read = old.down_read + replied.used })
    × (own ≡ seen.Carried replied.used (length replied.out.items) replied.change (is_some replied.change))
IsAnswered old new replied (act.Refuses why) =
    (new ≡ record old { down_read = old.down_read + replied.used; broken = true }) × (why ≡ fault.NoMemory)
    × (0 < length replied.out.items)
IsAnswered old new replied (act.Stops node) = ⊥

-- The replies are marked as read, and the node's answer is written on the link, or isn't. If a change was added, the
-- attempt has ended, and the places that left or were delayed are in the ledger.
pub record TakesReplies {D : Type 0} (old new : World D) (number place : ℕ) (replied : Replied)
    (recorded : Option Recorded) (did : Act) : Type 0
  where
    pub link : Link
    pub link_is : link_at old.links number ≡ Some link
    pub moved : Link
    pub answered : IsAnswered link moved replied did
    pub attempt : Attempt
    pub attempt_at : slice_get old.attempts place ≡ Some attempt
    pub new_is : new ≡ record old {
      links = slice_set old.links (number - 1) moved;
      attempts = slice_set old.attempts place (replied_attempt attempt replied.change);
      ledger = old.ledger ++ replied_lines number attempt replied.change recorded;
    }
