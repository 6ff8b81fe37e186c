-- Calls that were refused and have changed nothing, and attempts for all places that are due.
use Rattle.std.proofs.Common.{◌≡◌, ◌≢◌, ◌<◌, ◌∷◌, ℕ, zero, suc, List, [], Option, Some, length, take, refl, subst, ap}
use Rattle.std.proofs.Common.{◌∙◌, arith}
use Rattle.relay_disk.specs.Device.{DiskWords}
use Rattle.relay_routes.specs.declared.config.Config.{Config}
use Rattle.relay_routes.specs.Routes.{RouteTable}
use Rattle.relay_slots.specs.Slots.{slot_at}
use Rattle.relay_book.specs.declared.change.Change.{Change}
use Rattle.relay_book.specs.declared.change.Withdrawal.{Withdrawal}
use Rattle.relay_records.specs.Records.{Keeps, Kept}
use Rattle.relay_records.specs.declared.fault.NodeFault.{NodeFault}
use Rattle.relay_records.specs.declared.fault.NodeFault.TheVariants.{Busy, Full, NoMemory, NoSecond, NotDue, Open}
use Rattle.relay_records.specs.declared.fault.NodeFault.TheVariants.{Stopped, TooMany, Unknown}
use Rattle.relay_report.specs.Report.{Reporter}
use Rattle.relay_attempts.specs.declared.runs.Run.{Run}
use Rattle.relay_attempts.specs.declared.start.Started.{Started}
use Rattle.relay_attempts.specs.Hops.{due_places_in}
use Rattle.relay_attempts.specs.Outcomes.{RefusesToGiveUp}
use Rattle.relay_attempts.specs.Withdrawals.{RefusesToWithdraw}
use Rattle.relay_node.specs.declared.seat.Seat.{Seat}
use Rattle.relay_node.specs.Node.{NodeState, RefusesToConnect}
use Rattle.relay_loop.specs.declared.group.Piece.{Piece}
use Rattle.relay_loop.specs.declared.replying.ReplyPiece.{ReplyPiece}
use Rattle.relay_loop.specs.Calls.{SameConnections, SameRest, StartSays}
use Rattle.relay_loop.specs.Groups.{RefusesToReadAll}
use Rattle.relay_loop.specs.Hops.{StartsTo, StartsToAtMost}
use Rattle.relay_loop.specs.Relay.{OnlyHop, RelayState}

-- a prefix that is shorter than it may be is the whole
take_short : (most : ℕ) (xs : List ℕ) → length (take most xs) < most → take most xs ≡ xs
take_short zero xs short = absurd (omega (arith, short))
take_short (suc most) [] short = refl
take_short (suc most) (x ∷ xs) short = ap (λ (l : List ℕ). x ∷ l) (take_short most xs (omega (arith, short)))

module _ {D : Type 0} where
  -- a relay with the same node and connections is the same
  same_relay : (old new : RelayState D) → new.node ≡ old.node → new.clients ≡ old.clients → new.hops ≡ old.hops
      → new ≡ old
  same_relay old new node clients hops =
      ap (λ (n : NodeState D). record new { node = n }) node
      ∙ ap (λ (c : List (Option (List ℕ))). record new { node = old.node; clients = c }) clients
      ∙ ap (λ (h : List (Option (List ℕ))). record old { hops = h }) hops

  same_node : (old new : NodeState D) → new.config ≡ old.config → new.seats ≡ old.seats
      → new.attempts ≡ old.attempts → new.records ≡ old.records → new ≡ old
  same_node old new config seats attempts records =
      ap (λ (c : Config). record new { config = c }) config
      ∙ ap (λ (s : List (Option Seat)). record new { config = old.config; seats = s }) seats
      ∙ ap (λ (a : List (Option Run)). record new { config = old.config; seats = old.seats; attempts = a }) attempts
      ∙ ap (λ (r : Kept D). record old { records = r }) records

  not_connected : (old new : NodeState D) (fault : NodeFault) → RefusesToConnect old new fault → new ≡ old
  not_connected old new NoMemory refused = refused
  not_connected old new Stopped refused = refused
  not_connected old new TooMany refused = refused
  not_connected old new Unknown refused = absurd refused
  not_connected old new NotDue refused = absurd refused
  not_connected old new Busy refused = absurd refused
  not_connected old new (Open cause) refused = absurd refused
  not_connected old new Full refused = absurd refused
  not_connected old new NoSecond refused = absurd refused

  not_given_up : (words : DiskWords D) (reporter : Reporter) (routes : RouteTable) (message now : ℕ)
      (old new : Kept D) (fault : NodeFault) → RefusesToGiveUp words reporter routes message now old new fault
      → fault ≢ Stopped → new ≡ old
  not_given_up words reporter routes message now old new NoMemory refused off = refused.2
  not_given_up words reporter routes message now old new Stopped refused off = absurd (off refl)
  not_given_up words reporter routes message now old new Unknown refused off = refused.2
  not_given_up words reporter routes message now old new NotDue refused off = refused.2
  not_given_up words reporter routes message now old new Full refused off = refused.1
  not_given_up words reporter routes message now old new TooMany refused off = absurd refused
  not_given_up words reporter routes message now old new Busy refused off = absurd refused
  not_given_up words reporter routes message now old new (Open cause) refused off = absurd refused
  not_given_up words reporter routes message now old new NoSecond refused off = absurd refused

  not_withdrawn : (words : DiskWords D) (reporter : Reporter) (runs : List (Option Run)) (message now : ℕ)
      (withdrawal : Withdrawal) (places : List ℕ) (old new : Kept D) (fault : NodeFault)
      → RefusesToWithdraw words reporter runs message now withdrawal places old new fault → fault ≢ Stopped
      → new ≡ old
  not_withdrawn words reporter runs message now withdrawal places old new NoMemory refused off = refused.3
  not_withdrawn words reporter runs message now withdrawal places old new Stopped refused off = absurd (off refl)
  not_withdrawn words reporter runs message now withdrawal places old new Unknown refused off = refused.2
  not_withdrawn words reporter runs message now withdrawal places old new Busy refused off = refused.3
  not_withdrawn words reporter runs message now withdrawal places old new Full refused off = refused.2
  not_withdrawn words reporter runs message now withdrawal places old new TooMany refused off = absurd refused
  not_withdrawn words reporter runs message now withdrawal places old new NotDue refused off = absurd refused
  not_withdrawn words reporter runs message now withdrawal places old new (Open cause) refused off = absurd refused
  not_withdrawn words reporter runs message now withdrawal places old new NoSecond refused off = absurd refused

  pub connects_not : (old new : RelayState D) (fault : NodeFault) → RefusesToConnect old.node new.node fault
      → new.clients ≡ old.clients → new.hops ≡ old.hops → new ≡ old
  connects_not old new fault refused clients hops =
      same_relay old new (not_connected old.node new.node fault refused) clients hops

  pub gives_up_not : (words : DiskWords D) (reporter : Reporter) (routes : RouteTable) (message now : ℕ)
      (old new : RelayState D) (fault : NodeFault)
      → RefusesToGiveUp words reporter routes message now old.node.records new.node.records fault → fault ≢ Stopped
      → SameRest old new → SameConnections old new → new ≡ old
  gives_up_not words reporter routes message now old new fault refused off rest connections =
      same_relay old new
      (same_node old.node new.node rest.0 rest.1 rest.2
      (not_given_up words reporter routes message now old.node.records new.node.records fault refused off))
      connections.0 connections.1

  pub withdraws_not : (words : DiskWords D) (reporter : Reporter) (runs : List (Option Run)) (message now : ℕ)
      (withdrawal : Withdrawal) (places : List ℕ) (old new : RelayState D) (fault : NodeFault)
      → RefusesToWithdraw words reporter runs message now withdrawal places old.node.records new.node.records fault
      → fault ≢ Stopped → SameRest old new → SameConnections old new → new ≡ old
  withdraws_not words reporter runs message now withdrawal places old new fault refused off rest connections =
      same_relay old new
      (same_node old.node new.node rest.0 rest.1 rest.2
      (not_withdrawn words reporter runs message now withdrawal places old.node.records new.node.records fault refused
      off)) connections.0 connections.1

  pub reads_not : (pieces : List Piece) (replies : List ReplyPiece) (old new : RelayState D) (fault : NodeFault)
      → RefusesToReadAll pieces replies old new fault → fault ≡ NoMemory → new ≡ old
  reads_not pieces replies old new fault refused is =
      (subst (λ f. RefusesToReadAll pieces replies old new f) is refused).0

  -- An attempt for fewer places than it might have is for all that are due.
  all_begun : (changes : List Change) (message : ℕ) (hop : List ℕ) (most now : ℕ) (old new : RelayState D)
      (started : Started) → StartsToAtMost changes message hop (Some most) now old new started
      → length started.places.items < most → StartsTo changes message hop now old new started
  all_begun changes message hop most now old new started starts few =
      let due = due_places_in old.node.config.routes hop now starts.begins.message in
      let short : length (take most due) < most = subst (λ l. length l < most) starts.begins.places few in
      record {
        begins = record {
          least = starts.begins.least;
          free = starts.begins.free;
          message = starts.begins.message;
          found = starts.begins.found;
          places = starts.begins.places ∙ take_short most due short;
          some = starts.begins.some;
          tells = starts.begins.tells;
          others = starts.begins.others;
        };
        hands = starts.hands;
      }

  pub starts_all : (honest : Type 0) (words : DiskWords D) (message : ℕ) (hop : List ℕ) (most now : ℕ)
      (old new : RelayState D) (started : Started)
      → ((changes : List Change) → Keeps honest words old.node.records changes
      → StartsToAtMost changes message hop (Some most) now old new started)
      → slot_at new.hops started.attempt ≡ Some [] → OnlyHop old new started.attempt
      → new.node.records ≡ old.node.records → length started.places.items < most
      → StartSays honest words old new message hop now started
  starts_all honest words message hop most now old new started starts connection only records few = record {
    starts = λ changes keeps.
        all_begun changes message hop most now old new started (starts changes keeps) few;
    connection = connection;
    only = only;
    records = records;
  }
