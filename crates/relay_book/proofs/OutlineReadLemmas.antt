-- The outline of a queue is read from a snapshot.
use Rattle.std.proofs.Common.{◌≡◌, ℕ, ◌+◌, ◌≤◌, List, [], ◌∷◌, ◌++◌, map, refl, sym, ap, ◌∙◌, subst, inl, inr}
use Rattle.std.proofs.lemmas.List.{map-append}
use Rattle.relay_book.specs.declared.message.Message.{Message}
use Rattle.relay_book.specs.declared.version.SnapshotVersion.{SnapshotVersion}
use Rattle.relay_book.specs.Queue.{Queue, empty_queue, last_number}
use Rattle.relay_book.specs.Snapshot.{entry_octets}
use Rattle.relay_book.specs.SnapshotFields.{IsQueuedIn, ReadsEntries, SpellsSnapshot, numbered}
use Rattle.relay_book.specs.Outline.{OutlinesEntries, OutlinesSnapshot, ReadsFirstOutline, ReadsOutline, outline_entry, outline_message, outline_of}
use Rattle.relay_book.proofs.SnapshotReadLemmas.{is_snapshot, none_read, one_read}

abbrev with_messages : ℕ → List (ℕ × Message) → Queue
with_messages next messages = record { next = next; messages = messages }

-- messages were read into a queue of this outline
pub record ReadsOutlined (version : SnapshotVersion) (count next : ℕ) (text : List ℕ) (outline : Queue) (rest : List ℕ) : Type 0 where
  pub queue : Queue
  pub reads : ReadsEntries version count next text queue rest
  pub outline_is : outline ≡ outline_of queue

pub none_outlined : (version : SnapshotVersion) (next : ℕ) (text : List ℕ) (outline : Queue) → outline ≡ empty_queue → 1 ≤ next → ReadsOutlined version 0 next text outline text
none_outlined version next text outline is some = record { queue = empty_queue; reads = none_read version next text some; outline_is = is }

pub one_outlined : (version : SnapshotVersion) (count next : ℕ) (text : List ℕ) (outline : Queue) (rest : List ℕ) (message : Message) (after : List ℕ) (left : Queue)
    → ReadsOutlined version count next text outline rest → IsQueuedIn version outline.next next (numbered message) → rest ≡ entry_octets version (numbered message) ++ after
    → left.next ≡ message.number + 1 → left.messages ≡ outline.messages ++ (message.number, outline_message message) ∷ [] → ReadsOutlined version (count + 1) next text left after
one_outlined version count next text outline rest message after left state valid is next_is messages_are =
    let queue = state.queue in
    let more = with_messages (message.number + 1) (queue.messages ++ numbered message ∷ []) in
    let here : IsQueuedIn version queue.next next (numbered message) = subst (λ (q : Queue). IsQueuedIn version q.next next (numbered message)) state.outline_is valid in
    let all : left.messages ≡ map outline_entry (queue.messages ++ numbered message ∷ []) =
    messages_are ∙ ap (λ (q : Queue). q.messages ++ (message.number, outline_message message) ∷ []) state.outline_is
    ∙ sym (map-append outline_entry queue.messages (numbered message ∷ [])) in
    record {
      queue = more;
      reads = one_read version count next text queue rest message after more state.reads here is refl refl;
      outline_is = λ i. record { next = next_is i; messages = all i };
    }

pub outlines_snapshot : (version : SnapshotVersion) (octets : List ℕ) (next count : ℕ) (rest : List ℕ) (outline : Queue) → SpellsSnapshot version octets next count rest
    → next ≤ last_number + 1 → outline.next ≡ next → OutlinesEntries version count next rest outline.messages → OutlinesSnapshot octets outline
outlines_snapshot version octets next count rest outline spelled few next_is entries =
    let left = with_messages next entries.messages in
    record {
      left = left;
      is = is_snapshot version octets next count rest left spelled few refl entries.are;
      outline_is = λ i. record { next = next_is i; messages = entries.outlined_are i };
    }

-- a first body is a snapshot, or records a change
pub first_snapshot : (body : List ℕ) (outline : Queue) → OutlinesSnapshot body outline → ReadsFirstOutline body outline
first_snapshot body outline snapshot = record { left = snapshot.left; reads = inl snapshot.is; outline_is = snapshot.outline_is }

pub first_change : (body text : List ℕ) (outline : Queue) → text ≡ body → ReadsOutline empty_queue text outline → ReadsFirstOutline body outline
first_change body text outline same read =
    subst (λ (octets : List ℕ). ReadsFirstOutline octets outline) same (record { left = read.left; reads = inr read.reads; outline_is = read.outline_is })
