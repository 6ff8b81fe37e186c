-- How long a snapshot is; one that is short enough to be a body has few enough messages.
use Rattle.std.proofs.Common.{◌≡◌, ℕ, ◌+◌, ◌-◌, ◌*◌, ◌<◌, ◌≤◌, ◌^◌, min, List, [], ◌∷◌, ◌++◌, drop, length, slice_get, Option, None, Some, refl, sym, ap, ◌∙◌, arith, length-append}
use Rattle.std.specs.List.{AllByRecursion, flat_map, zip}
use Rattle.relay_envelope.specs.declared.envelope.Recipient.{Recipient}
use Rattle.relay_book.specs.declared.version.SnapshotVersion.{SnapshotVersion}
use Rattle.relay_book.specs.declared.version.SnapshotVersion.TheVariants.{WithDelay}
use Rattle.relay_book.specs.declared.message.Message.{Message}
use Rattle.relay_book.specs.declared.message.Place.{Place}
use Rattle.relay_book.specs.Book.{if_there, live}
use Rattle.relay_book.specs.Queue.{Queue}
use Rattle.relay_book.specs.Record.{counted, notify_number, octets_2, octets_4, octets_8, recipient_octets, ret_number, sized_2, sized_4, written}
use Rattle.relay_book.specs.Snapshot.{IsQueued, entry_octets, place_octets, placed_octets, snapshot, snapshot_by}
use Rattle.relay_book.specs.SnapshotFields.{entries_length, entry_length, row_length}
use Rattle.relay_book.proofs.LengthLemmas.{length_8, length_sized_2, length_sized_4}
use Rattle.relay_book.proofs.MarkRowLemmas.{drop_past}
use Rattle.relay_book.proofs.SnapshotWriteLemmas.{live_from}

after : (front rest : List ℕ) (n : ℕ) → n ≤ length rest → n ≤ length (front ++ rest)
after front rest n few = let all = length-append front rest in omega (arith, all, few)

-- after a number of eight octets, and a text after its length
after_8 : (number : ℕ) (rest : List ℕ) (n : ℕ) → n ≤ length rest → n + 8 ≤ length (octets_8 number ++ rest)
unfolding octets_8
after_8 number rest n few = omega (arith, few)

after_sized_2 : (text rest : List ℕ) (n : ℕ) → n ≤ length rest → n + 2 ≤ length (sized_2 text ++ rest)
unfolding octets_2
after_sized_2 text rest n few = let all = length-append text rest in omega (arith, few, all)

sized_4_long : (text : List ℕ) → 4 ≤ length (sized_4 text)
unfolding octets_4
sized_4_long text = omega arith

-- a message takes some octets: its numbers and the lengths of its texts
pub entry_long : (version : SnapshotVersion) (entry : ℕ × Message) → 26 ≤ length (entry_octets version entry)
unfolding entry_octets
entry_long version entry =
    let accept = entry.1.accept in
    let placed = counted (placed_octets version) (zip accept.envelope.recipients entry.1.places) in
    let stored = after (flat_map (placed_octets version) (zip accept.envelope.recipients entry.1.places)) (sized_4 accept.stored_text) 4 (sized_4_long accept.stored_text) in
    let envid = after_sized_2 (written accept.envelope.envid) (placed ++ sized_4 accept.stored_text) 5 (omega (arith, stored)) in
    let path = after_sized_2 accept.envelope.reverse_path (ret_number accept.envelope.ret ∷ (sized_2 (written accept.envelope.envid) ++ (placed ++ sized_4 accept.stored_text))) 8
    (omega (arith, envid)) in
    let moment = after_8 accept.at _ 10 path in
    let number = after_8 entry.0 _ 18 moment in
    omega (arith, number)

pub rows_long : (version : SnapshotVersion) (entries : List (ℕ × Message)) → 26 * length entries ≤ length (flat_map (entry_octets version) entries)
rows_long version [] = omega arith
rows_long version (entry ∷ entries) =
    let one = entry_long version entry in
    let rest = rows_long version entries in
    let parts = length-append (entry_octets version entry) (flat_map (entry_octets version) entries) in
    omega (arith, one, rest, parts)

pub few_messages : (queue : Queue) → length (snapshot queue) < 2 ^ 32 → length queue.messages < 2 ^ 32
unfolding snapshot_by
few_messages queue short =
    let rows = rows_long WithDelay queue.messages in
    let all = after (octets_8 queue.next) _ _ (after (octets_4 (length queue.messages)) _ _ rows) in
    omega (arith, all, short)

-- exactly, where it has a place for each recipient
pair_length : (recipient : Recipient) (place : Place) → length (placed_octets WithDelay (recipient, place)) ≡ 16 + length recipient.path + length (written recipient.orcpt)
pair_length recipient place =
    let path = length_sized_2 recipient.path in
    let orcpt = length_sized_2 (written recipient.orcpt) in
    let due = length_8 place.due in
    let first = length-append (sized_2 recipient.path) (notify_number recipient.notify ∷ sized_2 (written recipient.orcpt)) in
    let all = length-append (recipient_octets recipient) (place_octets WithDelay place) in
    omega (arith, path, orcpt, due, first, all)

row_is_long : (recipients : List Recipient) (places : List Place) → length places ≡ length recipients
    → length (flat_map (placed_octets WithDelay) (zip recipients places)) ≡ row_length recipients
row_is_long [] places many = refl
row_is_long (recipient ∷ recipients) [] many = absurd (omega (arith, many))
row_is_long (recipient ∷ recipients) (place ∷ places) many =
    let rest = row_is_long recipients places (omega (arith, many)) in
    let one = pair_length recipient place in
    let parts = length-append (placed_octets WithDelay (recipient, place)) (flat_map (placed_octets WithDelay) (zip recipients places)) in
    omega (arith, rest, one, parts)

entry_is_long : (entry : ℕ × Message) → length entry.1.places ≡ length entry.1.accept.envelope.recipients → length (entry_octets WithDelay entry) ≡ entry_length entry.1
unfolding entry_octets
entry_is_long entry many =
    let accept = entry.1.accept in
    let placed = zip accept.envelope.recipients entry.1.places in
    let row = row_is_long accept.envelope.recipients entry.1.places many in
    let number_is = length_8 entry.0 in
    let at_is = length_8 accept.at in
    let path_is = length_sized_2 accept.envelope.reverse_path in
    let envid_is = length_sized_2 (written accept.envelope.envid) in
    let text_is = length_sized_4 accept.stored_text in
    let rows = counted (placed_octets WithDelay) placed in
    let stored = sized_4 accept.stored_text in
    let one = length-append rows stored in
    let two = length-append (sized_2 (written accept.envelope.envid)) (rows ++ stored) in
    let three = length-append (sized_2 accept.envelope.reverse_path) (ret_number accept.envelope.ret ∷ (sized_2 (written accept.envelope.envid) ++ (rows ++ stored))) in
    let four = length-append (octets_8 accept.at) (sized_2 accept.envelope.reverse_path ++ (ret_number accept.envelope.ret ∷ (sized_2 (written accept.envelope.envid) ++ (rows ++ stored)))) in
    let five = length-append (octets_8 entry.0)
    (octets_8 accept.at ++ (sized_2 accept.envelope.reverse_path ++ (ret_number accept.envelope.ret ∷ (sized_2 (written accept.envelope.envid) ++ (rows ++ stored))))) in
    omega (arith, row, number_is, at_is, path_is, envid_is, text_is, one, two, three, four, five)

entries_are_long : (entries : List (ℕ × Message)) → AllByRecursion IsQueued entries → length (flat_map (entry_octets WithDelay) entries) ≡ entries_length entries
entries_are_long [] all = refl
entries_are_long (entry ∷ entries) all =
    let one = entry_is_long entry all.0.as_many in
    let rest = entries_are_long entries all.1 in
    let parts = length-append (entry_octets WithDelay entry) (flat_map (entry_octets WithDelay) entries) in
    omega (arith, one, rest, parts)

snapshot_is_long : (next : ℕ) (messages : List (ℕ × Message)) → AllByRecursion IsQueued messages
    → length (snapshot (record { next = next; messages = messages })) ≡ 13 + entries_length messages
unfolding snapshot_by octets_4
snapshot_is_long next messages all =
    let rows = entries_are_long messages all in
    let next_is = length_8 next in
    let four : length (octets_4 (length messages)) ≡ 4 = refl in
    let one = length-append (octets_4 (length messages)) (flat_map (entry_octets WithDelay) messages) in
    let two = length-append (octets_8 next) (octets_4 (length messages) ++ flat_map (entry_octets WithDelay) messages) in
    omega (arith, rows, next_is, four, one, two)

pub length_is : (next : ℕ) (messages : List (ℕ × Message)) (found : ℕ) → AllByRecursion IsQueued messages → found ≡ min (13 + entries_length messages) (2 ^ 64 - 1)
    → found ≡ min (length (snapshot (record { next = next; messages = messages }))) (2 ^ 64 - 1)
length_is next messages found all is = is ∙ ap (λ (n : ℕ). min n (2 ^ 64 - 1)) (sym (snapshot_is_long next messages all))

-- sums that stop at the greatest number
slot_length_is : (entries : List (ℕ × Option Message)) (index number : ℕ) (slot : Option Message) → Some (number, slot) ≡ slice_get entries index
    → entries_length (live (drop index entries)) ≡ entries_length (if_there 0 slot) + entries_length (live (drop (index + 1) entries))
slot_length_is entries index number slot is = ap entries_length (live_from entries index number slot is) ∙ by slot
  where
    by : (slot : Option Message) → entries_length (if_there number slot ++ live (drop (index + 1) entries)) ≡ entries_length (if_there 0 slot) + entries_length (live (drop (index + 1) entries))
    by None = omega arith
    by (Some message) = omega arith

pub length_step : (entries : List (ℕ × Option Message)) (index number : ℕ) (slot : Option Message) (old one new : ℕ) → Some (number, slot) ≡ slice_get entries index
    → min (old + entries_length (live (drop index entries))) (2 ^ 64 - 1) ≡ min (13 + entries_length (live entries)) (2 ^ 64 - 1)
    → one ≡ min (entries_length (if_there 0 slot)) (2 ^ 64 - 1) → new ≡ min (old + one) (2 ^ 64 - 1)
    → min (new + entries_length (live (drop (index + 1) entries))) (2 ^ 64 - 1) ≡ min (13 + entries_length (live entries)) (2 ^ 64 - 1)
length_step entries index number slot old one new is before one_is new_is =
    let split = slot_length_is entries index number slot is in
    sums old (entries_length (if_there 0 slot)) (entries_length (live (drop (index + 1) entries))) one new (2 ^ 64 - 1) one_is new_is
    ∙ ap (λ (n : ℕ). min (old + n) (2 ^ 64 - 1)) (sym split) ∙ before
  where
    sums : (old here rest one new most : ℕ) → one ≡ min here most → new ≡ min (old + one) most → min (new + rest) most ≡ min (old + (here + rest)) most
    sums old here rest one new most one_is new_is = omega (arith, one_is, new_is)

pub length_end : (entries : List (ℕ × Option Message)) (index found : ℕ) → length entries ≤ index → found < 2 ^ 64
    → min (found + entries_length (live (drop index entries))) (2 ^ 64 - 1) ≡ min (13 + entries_length (live entries)) (2 ^ 64 - 1)
    → found ≡ min (13 + entries_length (live entries)) (2 ^ 64 - 1)
length_end entries index found past fits before =
    let none = ap (λ (l : List (ℕ × Option Message)). entries_length (live l)) (drop_past entries index past) in
    omega (arith, none, fits, before)
