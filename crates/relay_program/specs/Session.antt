-- What `relayd session` has done: a dialogue over a new node, whose spool is empty and is gone when the program ends.
use Rattle.std.specs.Prelude.{◌≡◌, ◌≢◌, ◌⊎◌, ℕ, Option, List, [], ◌++◌, codes}
use Rattle.std.specs.Io.KnownBytes.{Appends, Consumes, IsAtEnd}
use Rattle.relay_disk.specs.declared.memory.MemoryDisk.{MemoryDisk}
use Rattle.relay_disk.specs.Memory.{memory_words}
use Rattle.relay_server.specs.Dialogue.{Said, IsDialogue}
use Rattle.relay_server.specs.State.{Closed}
use Rattle.relay_book.specs.declared.change.Change.{Change}
use Rattle.relay_records.specs.Records.{Keeps}
use Rattle.relay_node.specs.declared.node.Connected.{Connected}
use Rattle.relay_node.specs.Node.{SeatHasSaid, NodeState, greeted_by}
use Rattle.relay_links.specs.Accepted.{Accepts, Rule}
use Rattle.relay_program.specs.Setup.{IsProfile, session_limit, session_moment, session_peer, session_setup}

-- how the mail of `session` is accepted
abbrev pub session_rule : Rule
session_rule = record {
  acceptance = λ number. record {
    host = codes "relay.example";
    peer = session_peer;
    number = number;
    at = session_moment;
  };
  limit = session_limit;
}

-- The answers to the offers: the k-th one with room in the spool got the number k, and the others were refused. An
-- empty spool has 18 octets.
pub record AreAnswered (said : Said) : Type 0 where
  pub added : List Change
  pub size : ℕ
  pub come : Accepts session_rule 0 18 said.answers said.offers added size

-- what was read and written is a dialogue, up to a close or the end of the input
pub record IsServed (left new_left held new_held : Option (List ℕ)) : Type 0 where
  pub said : Said
  pub dialogue : IsDialogue session_setup said
  pub read : Consumes left new_left said.input
  pub written : Appends held new_held said.output
  pub ended : (dialogue.state ≡ Closed) ⊎ IsAtEnd new_left
  pub answered : AreAnswered said

-- what was written is a prefix of a dialogue's output, whose input is a prefix of what was read
pub record IsBegun (left new_left held new_held : Option (List ℕ)) : Type 0 where
  pub said : Said
  pub dialogue : IsDialogue session_setup said
  pub unread : List ℕ
  pub read : Consumes left new_left (said.input ++ unread)
  pub front : List ℕ
  pub unwritten : List ℕ
  pub output : said.output ≡ front ++ unwritten
  pub written : Appends held new_held front
  pub answered : AreAnswered said

-- the session ended with status 0, or by a fault with status 1
pub record EndsAs (status : ℕ) (left new_left held new_held : Option (List ℕ)) : Type 0 where
  pub served : status ≡ 0 → IsServed left new_left held new_held
  pub fault : status ≢ 0 → (status ≡ 1) × IsBegun left new_left held new_held

-- a new node over memory has one session, with its greeting
pub record IsOpened (node : NodeState MemoryDisk) (connected : Connected) : Type 0 where
  pub keeps : Keeps (Unit {0}) memory_words node.records []
  pub size : node.records.spool.size ≡ 18
  pub profile : IsProfile node.config
  pub says : SeatHasSaid node.config node.seats connected.session session_peer (greeted_by connected.out.items)
