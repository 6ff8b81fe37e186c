-- A session of the program is a link of a new node.
use Rattle.std.proofs.Common.{◌≡◌, ◌⊎◌, inl, ℕ, List, [], ◌∷◌, ◌++◌, Option, Result, Ok, Err, OnErr, refl, sym, ap, ap₂, subst, append-nil}
use Rattle.std.specs.Io.KnownBytes.{IsAtEnd}
use Rattle.std.proofs.KnownBytes.{Appends-nil, Consumes-nil}
use Rattle.relay_disk.specs.declared.memory.MemoryDisk.{MemoryDisk}
use Rattle.relay_disk.specs.Memory.{memory_words}
use Rattle.relay_server.specs.Dialogue.{IsDialogue, Said, greeted_only}
use Rattle.relay_server.specs.Setup.{Setup}
use Rattle.relay_server.specs.State.{Closed, start}
use Rattle.relay_server.proofs.Theorems.{no_unit_is_empty}
use Rattle.relay_book.specs.declared.change.Change.{Change}
use Rattle.relay_records.specs.Records.{Kept}
use Rattle.relay_node.specs.Node.{NodeState}
use Rattle.relay_links.specs.declared.fault.LinkFault.{LinkFault}
use Rattle.relay_links.specs.declared.fault.LinkFault.TheVariants.{Input, Output, NoMemory, Full, Device}
use Rattle.relay_links.specs.Accepted.{Accepts, Rule}
use Rattle.relay_links.specs.Link.{HasBegun, HasServed, HaveCome, Leaves, Start, rule, start_at}
use Rattle.relay_program.specs.Session.{AreAnswered, IsBegun, IsServed, session_rule}
use Rattle.relay_program.specs.Setup.{IsProfile, session_moment, session_peer, session_setup}

-- what holds in any case holds on an error
pub on_err : {T E : Type 0} (result : Result T E) (P : Type 0) → P → OnErr result P
on_err (Ok value) P holds = tt
on_err (Err error) P holds = holds

-- where the link of a session begins
abbrev session_start : Option (List ℕ) → Option (List ℕ) → NodeState MemoryDisk → Start
session_start left held node = start_at left held session_peer node []

rule_by : List ℕ → ℕ → Rule
rule_by host limit = record {
  acceptance = λ number. record { host = host; peer = session_peer; number = number; at = session_moment };
  limit = limit;
}

module _ (left held : Option (List ℕ)) (node : NodeState MemoryDisk) (profile : IsProfile node.config) (size : node.records.spool.size ≡ 18) where
  rule_is : rule {D = MemoryDisk} (Unit {0}) memory_words (session_start left held node) session_moment ≡ session_rule
  unfolding rule_by
  rule_is = ap₂ rule_by (ap (λ (setup : Setup). setup.host) profile.setup) profile.limit

  -- what has come of the link's offers has come of the session's
  answered : (said : Said) (added : List Change) (new_size : ℕ) → HaveCome {D = MemoryDisk} (Unit {0}) memory_words (session_start left held node) session_moment said added new_size → AreAnswered said
  answered said added new_size come = record {
    added = added;
    size = new_size;
    come =
        subst (λ (r : Rule). Accepts r 0 18 said.answers said.offers added new_size) rule_is
        (subst (λ first. Accepts (rule {D = MemoryDisk} (Unit {0}) memory_words (session_start left held node) session_moment) 0 first said.answers said.offers added new_size) size come);
  }

  -- a fault leaves the offers answered
  answered_by_fault : (fault : LinkFault) (said : Said) (added : List Change) (records : Kept MemoryDisk) → Leaves (Unit {0}) memory_words (session_start left held node) session_moment fault said added records → AreAnswered said
  answered_by_fault Input said added records l = answered said added records.spool.size l.come
  answered_by_fault Output said added records l = answered said added records.spool.size l.come
  answered_by_fault NoMemory said added records l = answered said added records.spool.size l.come
  answered_by_fault Full said added records l = answered said added records.spool.size l.taken.come
  answered_by_fault Device said added records l = answered said added l.size l.come

  -- a link that was served
  pub served : (new_left new_held : Option (List ℕ)) (records : Kept MemoryDisk) → HasServed (Unit {0}) memory_words (session_start left held node) session_moment new_left new_held records → IsServed left new_left held new_held
  served new_left new_held records h =
      let at_profile = subst (λ (setup : Setup). (dialogue : IsDialogue setup h.said) × ((dialogue.state ≡ Closed) ⊎ IsAtEnd new_left)) profile.setup (h.dialogue, h.ended) in
      record {
        said = h.said;
        dialogue = at_profile.0;
        read = h.read;
        written = h.written;
        ended = at_profile.1;
        answered = answered h.said h.added records.spool.size h.taken.come;
      }

  -- a link that a fault has ended
  pub begun : (new_left new_held : Option (List ℕ)) (records : Kept MemoryDisk) (fault : LinkFault) → HasBegun (Unit {0}) memory_words (session_start left held node) session_moment new_left new_held records fault → IsBegun left new_left held new_held
  begun new_left new_held records fault h = record {
    said = h.said;
    dialogue = subst (λ (setup : Setup). IsDialogue setup h.said) profile.setup h.dialogue;
    unread = h.unread;
    read = h.read;
    front = h.front;
    unwritten = h.unwritten;
    output = h.output;
    written = h.written;
    answered = answered_by_fault fault h.said h.added records h.leaves;
  }

nil_front : (xs ys : List ℕ) → [] ≡ xs ++ ys → xs ≡ []
nil_front [] ys e = refl
nil_front (x ∷ xs) ys e = absurd (cc)

-- nothing was said yet but the greeting
greeted : IsDialogue session_setup (greeted_only session_setup.host)
greeted = record {
  turns = [];
  state = start;
  rest = [];
  unanswered = [];
  runs = refl;
  input = refl;
  output = sym (append-nil (greeted_only session_setup.host).output);
  answers = refl;
  offers = refl;
  left = inl (λ unit more is e. no_unit_is_empty start unit is (nil_front unit more e), refl);
}

-- before the greeting nothing is read or written
pub begun_nothing : (left held : Option (List ℕ)) → IsBegun left left held held
begun_nothing left held = record {
  said = greeted_only session_setup.host;
  dialogue = greeted;
  unread = [];
  read = Consumes-nil left;
  front = [];
  unwritten = (greeted_only session_setup.host).output;
  output = refl;
  written = Appends-nil held;
  answered = record { added = []; size = 18; come = refl };
}
