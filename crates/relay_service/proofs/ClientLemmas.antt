-- A client that the node refuses, and one that it greets.
use Rattle.std.proofs.Common.{◌≡◌, inl, ℕ, List, [], ◌∷◌, ◌++◌, Option, refl, sym, ap₂, subst, append-nil}
use Rattle.std.proofs.KnownBytes.{Appends-nil, Consumes-nil}
use Rattle.relay_disk.specs.Device.{DiskWords}
use Rattle.relay_routes.specs.declared.config.Config.{Config}
use Rattle.relay_server.specs.Dialogue.{IsDialogue, greeted_only}
use Rattle.relay_server.specs.Setup.{Setup, setup_for}
use Rattle.relay_server.specs.State.{start}
use Rattle.relay_server.proofs.Theorems.{no_unit_is_empty}
use Rattle.relay_book.specs.declared.change.Change.{Change}
use Rattle.relay_records.specs.Records.{Keeps, Kept}
use Rattle.relay_node.specs.Node.{NodeState}
use Rattle.relay_links.specs.declared.fault.LinkFault.TheVariants.{NoMemory}
use Rattle.relay_links.specs.Link.{HasBegun, Start, start_at}

nil_front : (xs ys : List ℕ) → [] ≡ xs ++ ys → xs ≡ []
nil_front [] ys e = refl
nil_front (x ∷ xs) ys e = absurd (cc)

-- nothing was said but the greeting
greeted : (setup : Setup) → IsDialogue setup (greeted_only setup.host)
greeted setup = record {
  turns = [];
  state = start;
  rest = [];
  unanswered = [];
  runs = refl;
  input = refl;
  output = sym (append-nil (greeted_only setup.host).output);
  answers = refl;
  offers = refl;
  left = inl (λ unit more is e. no_unit_is_empty start unit is (nil_front unit more e), refl);
}

-- a link of a client that the node refused: before the greeting nothing is read or written
pub refused : {D : Type 0} (honest : Type 0) (words : DiskWords D) (at : ℕ) (left held : Option (List ℕ)) (peer : List ℕ) (node : NodeState D) (changes : List Change) → Keeps honest words node.records changes
    → HasBegun honest words (start_at left held peer node changes) at left held node.records NoMemory
refused honest words at left held peer node changes keeps = record {
  said = greeted_only node.config.host;
  dialogue = greeted (setup_for node.config peer);
  unread = [];
  read = Consumes-nil left;
  front = [];
  unwritten = (greeted_only node.config.host).output;
  output = refl;
  whole = λ e. cc;
  written = Appends-nil held;
  added = [];
  leaves = record {
    come = refl;
    keeps = subst (Keeps honest words node.records) (sym (append-nil changes)) keeps;
    note = inl (refl, refl);
  };
}

-- a link begins where it began before the client was greeted
pub same_start : {D : Type 0} (left held : Option (List ℕ)) (peer : List ℕ) (old new : NodeState D) (changes : List Change) → new.records ≡ old.records → new.config ≡ old.config → start_at left held peer new changes ≡ start_at left held peer old changes
same_start {D} left held peer old new changes records config = ap₂ from records config
  where
    from : Kept D → Config → Start
    from kept by = record { left = left; held = held; peer = peer; config = by; changes = changes; size = kept.spool.size; noted = kept.noted }
