-- Octets of clients and of next hops that a relay is given in one call, in a world: the first unread ones on its links.
use Rattle.std.specs.Prelude.{◌≡◌, ℕ, List, [], ◌∷◌, ◌++◌, Some, length}
use Rattle.std.specs.List.{AllByRecursion}
use Rattle.relay_disk.specs.Device.{DiskWords}
use Rattle.relay_slots.specs.Slots.{slot_at}
use Rattle.relay_book.specs.declared.change.Change.{Change}
use Rattle.relay_records.specs.Staged.{Awaits, Row}
use Rattle.relay_server.specs.Dialogue.{Said}
use Rattle.relay_attempts.specs.Reply.{Told}
use Rattle.relay_node.specs.Attempts.{Tells}
use Rattle.relay_node.specs.Node.{SeatHasSaid}
use Rattle.relay_loop.specs.declared.group.Piece.{Piece}
use Rattle.relay_loop.specs.declared.replying.ReplyPiece.{ReplyPiece}
use Rattle.relay_loop.specs.GroupPieces.{AreOfOthers}
use Rattle.relay_loop.specs.GroupReplies.{AreToOthers}
use Rattle.relay_loop.specs.Relay.{RelayState}
use Rattle.relay_world.specs.Steps.{waiting_down, waiting_up}
use Rattle.relay_world.specs.World.{World}
use Rattle.relay_daemon.specs.Runs.{ReachesHop, ServesClient}

module _ {D : Type 0} (world : World D) (node : ℕ) where
  -- the octets are the first unread ones on the link of this session's client, on which the node has nothing unwritten
  pub record ClientWrote (session : ℕ) (octets : List ℕ) : Type 0 where
    pub serves : ServesClient world node session []
    pub unread : waiting_up (length octets) serves.link ≡ octets

  -- the octets are the first unread ones on the link of this attempt, on which the node has nothing unwritten
  pub record HopWrote (slot : ℕ) (octets : List ℕ) : Type 0 where
    pub reaches : ReachesHop world node slot []
    pub unread : waiting_down (length octets) reaches.link ≡ octets

  -- so it is with each of these pieces of clients, and of these replies, if nothing is unwritten for its connection
  abbrev pub ClientsWrote : RelayState D → List Piece → Type 0
  ClientsWrote relay pieces =
      AllByRecursion (λ (piece : Piece). slot_at relay.clients piece.session ≡ Some []
      → ClientWrote piece.session piece.octets.now) pieces

  abbrev pub HopsWrote : RelayState D → List ReplyPiece → Type 0
  HopsWrote relay replies =
      AllByRecursion (λ (reply : ReplyPiece). slot_at relay.hops reply.attempt ≡ Some []
      → HopWrote reply.attempt reply.octets.now) replies

-- no session has two pieces
abbrev pub HaveOnePiece : List Piece → Type 0
HaveOnePiece [] = Unit {0}
HaveOnePiece (piece ∷ pieces) = AreOfOthers piece.session pieces × HaveOnePiece pieces

-- no attempt has two replies
abbrev pub HaveOneReply : List ReplyPiece → Type 0
HaveOneReply [] = Unit {0}
HaveOneReply (reply ∷ replies) = AreToOthers reply.attempt replies × HaveOneReply replies

module _ {D : Type 0} (honest : Type 0) (words : DiskWords D) (relay : RelayState D) (row : Row) where
  -- the node of a relay keeps changes, and awaits those that the row records; and an exchange of this session is known
  pub record KnowsSession (session : ℕ) : Type 0 where
    pub changes : List Change
    pub pending : List Change
    pub awaits : Awaits honest words relay.node.records changes pending row
    pub peer : List ℕ
    pub said : Said
    pub says : SeatHasSaid relay.node.config relay.node.seats session peer said

  -- the same, and this is told of this attempt
  pub record KnowsAttempt (slot : ℕ) : Type 0 where
    pub changes : List Change
    pub pending : List Change
    pub awaits : Awaits honest words relay.node.records changes pending row
    pub told : Told
    pub tells : Tells relay.node.config.host (changes ++ pending) relay.node.attempts slot told
