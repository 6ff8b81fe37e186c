-- Pieces of clients and replies of hops that a relay was given one after another in a group.
use Rattle.std.proofs.Common.{◌≡◌, ◌≢◌, ◌++◌, ◌∷◌, ℕ, List, [], Option, Some, Result, refl, sym, subst, ap, ◌∙◌}
use Rattle.std.proofs.Common.{append-nil}
use Rattle.std.specs.List.{AllByRecursion}
use Rattle.relay_disk.specs.Device.{DiskWords}
use Rattle.relay_routes.specs.declared.config.Config.{Config}
use Rattle.relay_slots.specs.Slots.{slot_at}
use Rattle.relay_server.specs.Setup.{setup_for}
use Rattle.relay_book.specs.declared.change.Change.{Change}
use Rattle.relay_book.specs.Queue.{Fitting}
use Rattle.relay_records.specs.declared.fault.NodeFault.{NodeFault}
use Rattle.relay_records.specs.ListLaws.{NoneIsAwaited}
use Rattle.relay_records.specs.Staged.{Awaits, Row, no_row}
use Rattle.relay_attempts.specs.declared.runs.Run.{Run}
use Rattle.relay_node.specs.Attempts.{Tells}
use Rattle.relay_node.specs.Node.{SessionHasSaid}
use Rattle.relay_loop.specs.declared.clients.Heard.{Heard}
use Rattle.relay_loop.specs.declared.group.Piece.{Piece}
use Rattle.relay_loop.specs.declared.hops.Answered.{Answered}
use Rattle.relay_loop.specs.declared.replying.ReplyPiece.{ReplyPiece}
use Rattle.relay_loop.specs.GroupCalls.{HearsPieces, ReadsReplies}
use Rattle.relay_loop.specs.GroupPieces.{AreOfOthers}
use Rattle.relay_loop.specs.GroupReplies.{AreToOthers}
use Rattle.relay_loop.specs.Relay.{OnlyClient, OnlyHop, RelayState}
use Rattle.relay_world.specs.Bound.{IsBound}
use Rattle.relay_world.specs.Groups.{HasHeardEach, Piece as Carried}
use Rattle.relay_world.specs.World.{World}
use Rattle.relay_daemon.specs.Events.{HearingAllIsAnEvent, moved}
use Rattle.relay_daemon.specs.Given.{ClientWrote, ClientsWrote, HaveOnePiece, HaveOneReply, HopWrote, HopsWrote}
use Rattle.relay_daemon.specs.Runs.{RunsAt}
use Rattle.relay_daemon.proofs.GrownLemmas.{AtMostOne, awaited_fit, tells_more}
use Rattle.relay_daemon.proofs.KeepLemmas.{its_changes, its_keeps}
use Rattle.relay_daemon.proofs.LoseLemmas.{tells_by}
use Rattle.relay_daemon.proofs.SettleLemmas.{settling}
use Rattle.relay_daemon.proofs.StepLemmas.{IsReady, IsTold, client_step, hop_step}
use Rattle.relay_daemon.proofs.TalkLemmas.{says_there}

module _ {D : Type 0} (honest : Type 0) (words : DiskWords D) (node at : ℕ) where
  -- so it is with all pieces, and all replies, if nothing is unwritten for their connections
  abbrev AreReady : World D → RelayState D → List Piece → Type 0
  AreReady world relay pieces =
      AllByRecursion (λ (piece : Piece). slot_at relay.clients piece.session ≡ Some []
      → IsReady honest words node at world relay piece) pieces

  abbrev AreTold : World D → RelayState D → List Change → List ReplyPiece → Type 0
  AreTold world relay list replies =
      AllByRecursion (λ (reply : ReplyPiece). slot_at relay.hops reply.attempt ≡ Some []
      → IsTold honest words node at world relay list reply) replies

  -- events of one row, and then others
  each_join : (old mid new : World D) (front back : List Carried) (row between left : Row)
      → HasHeardEach honest words at old mid node front row between
      → HasHeardEach honest words at mid new node back between left
      → HasHeardEach honest words at old new node (front ++ back) row left
  each_join old mid new [] back row between left first second =
      subst (λ (w : World D). HasHeardEach honest words at w new node back row left) first.0
      (subst (λ (r : Row). HasHeardEach honest words at mid new node back r left) first.1 second)
  each_join old mid new (piece ∷ front) back row between left first second =
      (first.0, first.1, first.2, each_join first.0 mid new front back first.1 between left first.3 second)

  -- a piece of another session is as ready after a step
  ready_on : (world next : World D) (old new : RelayState D) (session : ℕ) (other : Piece) → OnlyClient old new session
      → session ≢ other.session
      → (ClientWrote world node other.session other.octets.now → ClientWrote next node other.session other.octets.now)
      → (slot_at old.clients other.session ≡ Some [] → IsReady honest words node at world old other)
      → slot_at new.clients other.session ≡ Some [] → IsReady honest words node at next new other
  ready_on world next old new session other only off wrote ready connected =
      let first = ready (sym (only.clients other.session (λ same. off (sym same))) ∙ connected) in
      record {
        wrote = wrote first.wrote;
        peer = first.peer;
        said = first.said;
        says = record {
          seat = first.says.seat;
          at = only.seats other.session (λ same. off (sym same)) ∙ first.says.at;
          peer_is = first.says.peer_is;
          says = subst
              (λ (c : Config). SessionHasSaid (setup_for c first.peer) first.says.seat.session.value first.said)
              (sym only.config) first.says.says;
        };
      }

  all_ready_on : (world next : World D) (old new : RelayState D) (session : ℕ) (pieces : List Piece)
      → OnlyClient old new session → AreOfOthers session pieces
      → ((other : ℕ) (octets : List ℕ) → other ≢ session → ClientWrote world node other octets
      → ClientWrote next node other octets) → AreReady world old pieces → AreReady next new pieces
  all_ready_on world next old new session [] only off wrote ready = tt
  all_ready_on world next old new session (other ∷ pieces) only off wrote ready = (
    ready_on world next old new session other only off.0
        (wrote other.session other.octets.now (λ same. off.0 (sym same))) ready.0,
    all_ready_on world next old new session pieces only off.1 wrote ready.1,
  )

  -- What is told of an attempt is told after a step that left it, with at most one change more.
  told_on : (world next : World D) (old new : RelayState D) (changes pending more : List Change) (reply : ReplyPiece)
      → AtMostOne more → Fitting (changes ++ (pending ++ more)) → new.node.config ≡ old.node.config
      → slot_at new.hops reply.attempt ≡ slot_at old.hops reply.attempt
      → slot_at new.node.attempts reply.attempt ≡ slot_at old.node.attempts reply.attempt
      → (HopWrote world node reply.attempt reply.octets.now → HopWrote next node reply.attempt reply.octets.now)
      → (slot_at old.hops reply.attempt ≡ Some [] → IsTold honest words node at world old (changes ++ pending) reply)
      → slot_at new.hops reply.attempt ≡ Some []
      → IsTold honest words node at next new (changes ++ (pending ++ more)) reply
  told_on world next old new changes pending more reply few fitting config hops attempts wrote ready connected =
      let first = ready (sym hops ∙ connected) in
      record {
        wrote = wrote first.wrote;
        told = first.told;
        tells = subst
            (λ (c : Config). Tells c.host (changes ++ (pending ++ more)) new.node.attempts reply.attempt first.told)
            (sym config)
            (tells_more old.node.config.host old.node.attempts new.node.attempts reply.attempt first.told attempts
            changes pending more few fitting first.tells);
      }

  all_told_on : (world next : World D) (old new : RelayState D) (changes pending more : List Change) (session : ℕ)
      (replies : List ReplyPiece) → AtMostOne more → Fitting (changes ++ (pending ++ more)) → OnlyClient old new session
      → ((slot : ℕ) (octets : List ℕ) → HopWrote world node slot octets → HopWrote next node slot octets)
      → AreTold world old (changes ++ pending) replies → AreTold next new (changes ++ (pending ++ more)) replies
  all_told_on world next old new changes pending more session [] few fitting only wrote told = tt
  all_told_on world next old new changes pending more session (reply ∷ replies) few fitting only wrote told = (
    told_on world next old new changes pending more reply few fitting only.config
        (ap (λ (t : List (Option (List ℕ))). slot_at t reply.attempt) only.hops)
        (ap (λ (t : List (Option Run)). slot_at t reply.attempt) only.attempts)
        (wrote reply.attempt reply.octets.now) told.0,
    all_told_on world next old new changes pending more session replies few fitting only wrote told.1,
  )

  others_told_on : (world next : World D) (old new : RelayState D) (changes pending more : List Change) (slot : ℕ)
      (replies : List ReplyPiece) → AtMostOne more → Fitting (changes ++ (pending ++ more)) → OnlyHop old new slot
      → AreToOthers slot replies
      → ((other : ℕ) (octets : List ℕ) → other ≢ slot → HopWrote world node other octets
      → HopWrote next node other octets) → AreTold world old (changes ++ pending) replies
      → AreTold next new (changes ++ (pending ++ more)) replies
  others_told_on world next old new changes pending more slot [] few fitting only off wrote told = tt
  others_told_on world next old new changes pending more slot (reply ∷ replies) few fitting only off wrote told =
      let other : reply.attempt ≢ slot = λ same. off.0 (sym same) in (
        told_on world next old new changes pending more reply few fitting only.config (only.hops reply.attempt other)
            (only.attempts reply.attempt other) (wrote reply.attempt reply.octets.now other) told.0,
        others_told_on world next old new changes pending more slot replies few fitting only off.1 wrote told.1,
      )

  -- A group was heard or read so far, and these replies are still to be read.
  record Went (world : World D) (new : RelayState D) (row left : Row) (changes : List Change)
      (replies : List ReplyPiece) : Type 0 where
    carried : List Carried
    next : World D
    each : HasHeardEach honest words at world next node carried row left
    there : RunsAt next node new
    pending : List Change
    awaits : Awaits honest words new.node.records changes pending left
    told : AreTold next new (changes ++ pending) replies

  went_nowhere : (world : World D) (old new : RelayState D) (row left : Row) (changes pending : List Change)
      (replies : List ReplyPiece) → RunsAt world node old → AreTold world old (changes ++ pending) replies
      → Awaits honest words old.node.records changes pending row → new ≡ old → left ≡ row
      → Went world new row left changes replies
  went_nowhere world old new row left changes pending replies runs told awaits same unmoved =
      subst (λ (r : RelayState D). Went world r row left changes replies) (sym same)
      (subst (λ (l : Row). Went world old row l changes replies) (sym unmoved) (record {
        carried = [];
        next = world;
        each = (refl, refl);
        there = runs;
        pending = pending;
        awaits = awaits;
        told = told;
      }))

  hear_each : (world : World D) (pieces : List Piece) (results : List (Result Heard NodeFault))
      (changes pending : List Change) (old new : RelayState D) (row left : Row) (replies : List ReplyPiece)
      → RunsAt world node old → AreReady world old pieces → HaveOnePiece pieces
      → AreTold world old (changes ++ pending) replies → Awaits honest words old.node.records changes pending row
      → HearsPieces honest words at pieces results old row new left → Went world new row left changes replies
  hear_each world [] results changes pending old new row left replies runs ready distinct told awaits
      (none, same, unmoved) =
      went_nowhere world old new row left changes pending replies runs told awaits same unmoved
  hear_each world (piece ∷ pieces) results changes pending old new row left replies runs ready distinct told awaits
      (result, rest, is, mid, between, says, others) =
      let one = client_step honest words node at world changes pending old mid row between piece result runs ready.0
      awaits says in
      let step = one.step in
      let fitting = awaited_fit honest words changes (pending ++ step.more) mid.node.records between step.awaits in
      let after = hear_each step.next pieces rest changes (pending ++ step.more) mid new between left replies step.there
      (all_ready_on world step.next old mid piece.session pieces says.only distinct.0 one.clients_on ready.1) distinct.1
      (all_told_on world step.next old mid changes pending step.more piece.session replies step.few fitting says.only
      one.hops_on told) step.awaits others in
      record {
        carried = step.carried ++ after.carried;
        next = after.next;
        each = each_join world step.next after.next step.carried after.carried row between left step.each after.each;
        there = after.there;
        pending = after.pending;
        awaits = after.awaits;
        told = after.told;
      }

  read_each : (world : World D) (replies : List ReplyPiece) (results : List (Result Answered NodeFault))
      (changes pending : List Change) (old new : RelayState D) (row left : Row) → RunsAt world node old
      → AreTold world old (changes ++ pending) replies → HaveOneReply replies
      → Awaits honest words old.node.records changes pending row
      → ReadsReplies honest words at replies results old row new left → Went world new row left changes []
  read_each world [] results changes pending old new row left runs told distinct awaits (none, same, unmoved) =
      went_nowhere world old new row left changes pending [] runs tt awaits same unmoved
  read_each world (reply ∷ replies) results changes pending old new row left runs told distinct awaits
      (result, rest, is, mid, between, says, others) =
      let one = hop_step honest words node at world changes pending old mid row between reply result runs told.0 awaits
      says in
      let step = one.step in
      let fitting = awaited_fit honest words changes (pending ++ step.more) mid.node.records between step.awaits in
      let after = read_each step.next replies rest changes (pending ++ step.more) mid new between left step.there
      (others_told_on world step.next old mid changes pending step.more reply.attempt replies step.few fitting says.only
      distinct.0 one.hops_on told.1) distinct.1 step.awaits others in
      record {
        carried = step.carried ++ after.carried;
        next = after.next;
        each = each_join world step.next after.next step.carried after.carried row between left step.each after.each;
        there = after.there;
        pending = after.pending;
        awaits = after.awaits;
        told = tt;
      }

module _ {D : Type 0} (honest : Type 0) (words : DiskWords D) where
  module _ (world : World D) (lists : List (List Change)) (node : ℕ) (relay : RelayState D)
      (runs : RunsAt world node relay) (bound : IsBound honest words world lists) where
    all_ready : (pieces : List Piece) → ClientsWrote world node relay pieces
        → AreReady honest words node world.clock world relay pieces
    all_ready [] wrote = tt
    all_ready (piece ∷ pieces) wrote = (
      (λ connected.
          let its = wrote.0 connected in
          let says = says_there honest words world lists node piece.session [] relay runs bound its.serves in
          record { wrote = its; peer = says.0; said = says.1; says = says.2 }),
      all_ready pieces wrote.1,
    )

    all_told : (replies : List ReplyPiece) → HopsWrote world node relay replies
        → AreTold honest words node world.clock world relay
        (its_changes honest words world lists node relay runs bound ++ []) replies
    all_told [] wrote = tt
    all_told (reply ∷ replies) wrote = (
      (λ connected.
          let its = wrote.0 connected in
          let by = tells_by honest words world lists node reply.attempt [] relay runs bound its.reaches in
          record {
            wrote = its;
            told = by.told;
            tells = subst
                (λ (l : List Change). Tells relay.node.config.host l relay.node.attempts reply.attempt by.told)
                (sym (append-nil (its_changes honest words world lists node relay runs bound))) by.tells;
          }),
      all_told replies wrote.1,
    )

  pub hearing_all : NoneIsAwaited honest words → HearingAllIsAnEvent honest words
  hearing_all awaits world lists node pieces replies group old new runs bound one_piece one_reply clients hops says =
      let changes = its_changes honest words world lists node old runs bound in
      let none = awaits old.node.records changes (its_keeps honest words world lists node old runs bound) in
      let first = hear_each honest words node world.clock world pieces group.heard.items changes [] old says.between
      no_row says.beside replies runs (all_ready world lists node old runs bound pieces clients) one_piece
      (all_told world lists node old runs bound replies hops) none says.hears in
      let second = read_each honest words node world.clock first.next replies group.answered.items changes first.pending
      says.between says.before says.beside says.row first.there first.told one_reply first.awaits says.reads in
      let carried = first.carried ++ second.carried in
      let all = settling honest words world second.next node carried says.row old says.before new runs second.there
      (each_join honest words node world.clock world first.next second.next first.carried second.carried no_row
      says.beside says.row first.each second.each) says.adds in
      (carried, moved second.next node says.before new second.there, all.0, all.1)
