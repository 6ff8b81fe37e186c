-- A snapshot is written, one entry of a map after another.
use Rattle.std.proofs.Common.{◌≡◌, ℕ, ◌+◌, ◌≤◌, List, [], ◌∷◌, ◌++◌, drop, length, slice_get, Option, None, Some, refl, sym, subst, ap, ◌∙◌, arith, append_assoc, append-nil, add-one, length-append}
use Rattle.std.specs.List.{AllByRecursion, flat_map}
use Rattle.relay_book.specs.declared.version.SnapshotVersion.TheVariants.{WithDelay}
use Rattle.relay_book.specs.declared.message.Message.{Message}
use Rattle.relay_book.specs.Book.{if_there, live}
use Rattle.relay_book.specs.Record.{octets_4, octets_8}
use Rattle.relay_book.specs.Snapshot.{IsQueued, entry_octets, snapshot, snapshot_by}
use Rattle.relay_book.proofs.MarkRowLemmas.{drop_past, entry_at}

-- the messages from an entry on
pub live_from : (entries : List (ℕ × Option Message)) (index number : ℕ) (slot : Option Message) → Some (number, slot) ≡ slice_get entries index
    → live (drop index entries) ≡ if_there number slot ++ live (drop (index + 1) entries)
live_from entries index number slot is =
    ap live (entry_at entries index (number, slot) (sym is))
    ∙ ap (λ (n : ℕ). if_there number slot ++ live (drop n entries)) (sym (add-one index))

same_count : (number : ℕ) (slot : Option Message) → length (if_there number slot) ≡ length (if_there 0 slot)
same_count number None = refl
same_count number (Some message) = refl

pub count_step : (entries : List (ℕ × Option Message)) (index number : ℕ) (slot : Option Message) (old one all : ℕ) → Some (number, slot) ≡ slice_get entries index
    → old + length (live (drop index entries)) ≡ all → one ≡ length (if_there 0 slot) → old + one + length (live (drop (index + 1) entries)) ≡ all
count_step entries index number slot old one all is before one_is =
    let from = ap length (live_from entries index number slot is) in
    let parts = length-append (if_there number slot) (live (drop (index + 1) entries)) in
    let same = same_count number slot in
    omega (arith, from, parts, same, before, one_is)

pub one_at_most : (slot : Option Message) → length (if_there 0 slot) ≤ 1
one_at_most None = omega arith
one_at_most (Some message) = omega arith

pub count_end : (entries : List (ℕ × Option Message)) (index count : ℕ) → length entries ≤ index → count + length (live (drop index entries)) ≡ length (live entries)
    → count ≡ length (live entries)
count_end entries index count past before =
    let none = ap (λ (l : List (ℕ × Option Message)). length (live l)) (drop_past entries index past) in
    omega (arith, none, before)

-- the octets of the messages
flat_joined : (entries more : List (ℕ × Message)) → flat_map (entry_octets WithDelay) (entries ++ more) ≡ flat_map (entry_octets WithDelay) entries ++ flat_map (entry_octets WithDelay) more
flat_joined [] more = refl
flat_joined (entry ∷ entries) more =
    ap (λ (l : List ℕ). entry_octets WithDelay entry ++ l) (flat_joined entries more)
    ∙ sym (append_assoc (entry_octets WithDelay entry) (flat_map (entry_octets WithDelay) entries) (flat_map (entry_octets WithDelay) more))

front_valid : (entries more : List (ℕ × Message)) → AllByRecursion IsQueued (entries ++ more) → AllByRecursion IsQueued entries
front_valid [] more all = tt
front_valid (entry ∷ entries) more all = (all.0, front_valid entries more all.1)

back_valid : (entries more : List (ℕ × Message)) → AllByRecursion IsQueued (entries ++ more) → AllByRecursion IsQueued more
back_valid [] more all = all
back_valid (entry ∷ entries) more all = back_valid entries more all.1

-- an entry's message may be stored, and so may those after it
pub slot_valid : (entries : List (ℕ × Option Message)) (index number : ℕ) (slot : Option Message) → Some (number, slot) ≡ slice_get entries index
    → AllByRecursion IsQueued (live (drop index entries)) → AllByRecursion IsQueued (if_there number slot)
slot_valid entries index number slot is all =
    front_valid (if_there number slot) (live (drop (index + 1) entries)) (subst (AllByRecursion IsQueued) (live_from entries index number slot is) all)

pub rest_valid : (entries : List (ℕ × Option Message)) (index number : ℕ) (slot : Option Message) → Some (number, slot) ≡ slice_get entries index
    → AllByRecursion IsQueued (live (drop index entries)) → AllByRecursion IsQueued (live (drop (index + 1) entries))
rest_valid entries index number slot is all =
    back_valid (if_there number slot) (live (drop (index + 1) entries)) (subst (AllByRecursion IsQueued) (live_from entries index number slot is) all)

pub entries_step : (entries : List (ℕ × Option Message)) (index number : ℕ) (slot : Option Message) (old new all : List ℕ) → Some (number, slot) ≡ slice_get entries index
    → old ++ flat_map (entry_octets WithDelay) (live (drop index entries)) ≡ all → new ≡ old ++ flat_map (entry_octets WithDelay) (if_there number slot)
    → new ++ flat_map (entry_octets WithDelay) (live (drop (index + 1) entries)) ≡ all
entries_step entries index number slot old new all is before new_is =
    let more = live (drop (index + 1) entries) in
    ap (λ (l : List ℕ). l ++ flat_map (entry_octets WithDelay) more) new_is
    ∙ append_assoc old (flat_map (entry_octets WithDelay) (if_there number slot)) (flat_map (entry_octets WithDelay) more)
    ∙ ap (λ (l : List ℕ). old ++ l) (sym (flat_joined (if_there number slot) more))
    ∙ ap (λ (l : List (ℕ × Message)). old ++ flat_map (entry_octets WithDelay) l) (sym (live_from entries index number slot is))
    ∙ before

pub entries_end : (entries : List (ℕ × Option Message)) (index : ℕ) (out all : List ℕ) → length entries ≤ index
    → out ++ flat_map (entry_octets WithDelay) (live (drop index entries)) ≡ all → out ≡ all
entries_end entries index out all past before =
    sym (append-nil out) ∙ ap (λ (l : List (ℕ × Option Message)). out ++ flat_map (entry_octets WithDelay) (live l)) (sym (drop_past entries index past)) ∙ before

-- the head and the messages make the snapshot
pub snapshot_written : (next count : ℕ) (messages : List (ℕ × Message)) (none kind numbered counted all : List ℕ) → none ≡ [] → kind ≡ none ++ 5 ∷ []
    → numbered ≡ kind ++ octets_8 next → counted ≡ numbered ++ octets_4 count → all ≡ counted ++ flat_map (entry_octets WithDelay) messages → count ≡ length messages
    → all ≡ snapshot (record { next = next; messages = messages })
unfolding snapshot_by
snapshot_written next count messages none kind numbered counted all none_is kind_is numbered_is counted_is all_is count_is =
    all_is
    ∙ ap (λ (l : List ℕ). l ++ flat_map (entry_octets WithDelay) messages)
    (counted_is ∙ ap (λ (l : List ℕ). l ++ octets_4 count) (numbered_is ∙ ap (λ (l : List ℕ). l ++ octets_8 next) (kind_is ∙ ap (λ (l : List ℕ). l ++ 5 ∷ []) none_is)))
    ∙ ap (λ (l : List ℕ). 5 ∷ l) (append_assoc (octets_8 next) (octets_4 count) (flat_map (entry_octets WithDelay) messages))
    ∙ ap (λ (n : ℕ). 5 ∷ (octets_8 next ++ (octets_4 n ++ flat_map (entry_octets WithDelay) messages))) count_is
