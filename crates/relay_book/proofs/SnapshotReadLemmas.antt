-- A snapshot is read back: its head, and its messages one after another.
use Rattle.std.proofs.Common.{◌≡◌, ◌≢◌, ℕ, suc, ◌+◌, ◌-◌, ◌/◌, ◌<◌, ◌≤◌, ◌^◌, List, [], ◌∷◌, ◌++◌, length, min, refl, sym, subst, ap, ◌∙◌, arith, append_assoc, append-nil, add-one, length-append}
use Rattle.std.specs.List.{AllByRecursion, flat_map}
use Rattle.relay_book.specs.declared.version.SnapshotVersion.{SnapshotVersion}
use Rattle.relay_book.specs.declared.version.SnapshotVersion.TheVariants.{WithoutDelay, WithDelay}
use Rattle.relay_book.specs.declared.message.Message.{Message}
use Rattle.relay_book.specs.Book.{Rise}
use Rattle.relay_book.specs.Fields.{HaveCount, HasNone}
use Rattle.relay_book.specs.Queue.{Queue, empty_queue, last_number}
use Rattle.relay_book.specs.Record.{octets_4, octets_8}
use Rattle.relay_book.specs.Snapshot.{IsNoSnapshot, IsQueued, IsQueuedBy, IsSnapshotBy, IsSnapshotOf, entry_octets, snapshot_by, snapshot_kind}
use Rattle.relay_book.specs.SnapshotFields.{AreEntries, HasNoEntries, IsQueuedIn, MayBeSnapshot, ReadsEntries, SpellsCounts, SpellsNoCounts, SpellsNoSnapshot, SpellsSnapshot, next_after, numbered}
use Rattle.relay_book.proofs.AcceptLemmas.{long_4, long_8}
use Rattle.relay_book.proofs.CodeLemmas.{code_4, code_8, first_of}
use Rattle.relay_book.proofs.FieldLemmas.{same_head}
use Rattle.relay_book.proofs.LiveLemmas.{least_below, rise_last, rise_to}
use Rattle.relay_book.proofs.RowLemmas.{one_more_read, one_more_valid}
use Rattle.relay_book.proofs.SnapshotLemmas.{code_entry, kind_of, next_fits}
use Rattle.relay_book.proofs.SnapshotLengthLemmas.{rows_long}

-- the head of a snapshot
pub no_kind : (octets : List ℕ) → length octets ≡ 0 → SpellsNoSnapshot octets
no_kind octets empty = record {
  none = λ version next count rest spelled.
      let long : length octets ≡ suc (length (octets_8 next ++ (octets_4 count ++ rest))) = ap length spelled.octets_are in
      omega (arith, long, empty);
}

pub other_kind : (octets : List ℕ) (kind : ℕ) (rest : List ℕ) → octets ≡ kind ∷ rest → ((version : SnapshotVersion) → kind ≢ snapshot_kind version)
    → SpellsNoSnapshot octets
other_kind octets kind rest is other = record {
  none = λ version next count after spelled.
      other version (same_head kind (snapshot_kind version) rest (octets_8 next ++ (octets_4 count ++ after)) (sym is ∙ spelled.octets_are)).0;
}

pub no_counts : (octets : List ℕ) (kind : ℕ) (rest : List ℕ) → octets ≡ kind ∷ rest → SpellsNoCounts rest → SpellsNoSnapshot octets
no_counts octets kind rest is out = record {
  none = λ version next count after spelled.
      out.none next count after (record {
        text_is = (same_head kind (snapshot_kind version) rest (octets_8 next ++ (octets_4 count ++ after)) (sym is ∙ spelled.octets_are)).1;
        next_fits = spelled.next_fits;
        count_fits = spelled.count_fits;
      });
}

pub head_is : (version : SnapshotVersion) (octets rest : List ℕ) (kind next count : ℕ) (after : List ℕ) → octets ≡ kind ∷ rest → kind ≡ snapshot_kind version
    → SpellsCounts rest next count after → SpellsSnapshot version octets next count after
head_is version octets rest kind next count after is kind_is spelled = record {
  octets_are = is ∙ (λ i. kind_is i ∷ spelled.text_is i);
  next_fits = spelled.next_fits;
  count_fits = spelled.count_fits;
}

-- a first octet of no version
pub no_version : (kind : ℕ) → (kind ≡ 3 → ⊥) → (kind ≡ 5 → ⊥) → (version : SnapshotVersion) → kind ≢ snapshot_kind version
no_version kind first second WithoutDelay is = first is
no_version kind first second WithDelay is = second is

pub no_next : (text : List ℕ) → length text < 8 → SpellsNoCounts text
no_next text short = record {
  none = λ next count rest spelled. let long = long_8 text next _ spelled.text_is in omega (arith, long, short);
}

pub no_count : (text : List ℕ) (next : ℕ) (more : List ℕ) → text ≡ octets_8 next ++ more → next < 2 ^ 64 → length more < 4 → SpellsNoCounts text
no_count text next more is small short = record {
  none = λ other count rest spelled.
      let same = code_8 next other more _ small spelled.next_fits (sym is ∙ spelled.text_is) in
      let long = long_4 more count rest same.1 in
      omega (arith, long, short);
}

pub counts_are : (text : List ℕ) (next : ℕ) (more : List ℕ) (count : ℕ) (rest : List ℕ) → text ≡ octets_8 next ++ more → next < 2 ^ 64 → more ≡ octets_4 count ++ rest
    → count < 2 ^ 32 → SpellsCounts text next count rest
counts_are text next more count rest is small then less = record {
  text_is = is ∙ ap (λ (l : List ℕ). octets_8 next ++ l) then;
  next_fits = small;
  count_fits = less;
}

pub may_be : (version : SnapshotVersion) (octets : List ℕ) (next count : ℕ) (rest : List ℕ) → SpellsSnapshot version octets next count rest → MayBeSnapshot octets
may_be version octets next count rest spelled = record { version = version; next = next; count = count; rest = rest; begins = spelled }

-- a snapshot spells its head
pub spells_snapshot : (version : SnapshotVersion) (octets : List ℕ) (queue : Queue) → IsSnapshotBy version octets queue
    → SpellsSnapshot version octets queue.next (length queue.messages) (flat_map (entry_octets version) queue.messages)
unfolding snapshot_by
spells_snapshot version octets queue is = record { octets_are = is.octets_are; next_fits = next_fits queue is.valid; count_fits = is.few }

record AreSameHeads (next other count count2 : ℕ) (rest rest2 : List ℕ) : Type 0 where
  next_is : next ≡ other
  count_is : count ≡ count2
  rest_is : rest ≡ rest2

same_by_version : (version : SnapshotVersion) (octets : List ℕ) (next count : ℕ) (rest : List ℕ) (queue : Queue) → SpellsSnapshot version octets next count rest
    → IsSnapshotBy version octets queue → AreSameHeads next queue.next count (length queue.messages) rest (flat_map (entry_octets version) queue.messages)
same_by_version version octets next count rest queue spelled is =
    let other = spells_snapshot version octets queue is in
    let first = same_head (snapshot_kind version) (snapshot_kind version) _ _ (sym spelled.octets_are ∙ other.octets_are) in
    let second = code_8 next queue.next _ _ spelled.next_fits other.next_fits first.1 in
    let third = code_4 count (length queue.messages) rest (flat_map (entry_octets version) queue.messages) spelled.count_fits other.count_fits second.1 in
    record { next_is = second.0; count_is = third.0; rest_is = third.1 }

kinds_are_one : (version other : SnapshotVersion) → snapshot_kind version ≡ snapshot_kind other → other ≡ version
kinds_are_one WithoutDelay WithoutDelay e = refl
kinds_are_one WithDelay WithDelay e = refl
kinds_are_one WithoutDelay WithDelay e = absurd (omega (arith, e))
kinds_are_one WithDelay WithoutDelay e = absurd (omega (arith, e))

-- two heads that begin the same octets
pub record AreOneHead (version version2 : SnapshotVersion) (next next2 count count2 : ℕ) (rest rest2 : List ℕ) : Type 0 where
  pub version_is : version2 ≡ version
  pub next_is : next ≡ next2
  pub count_is : count ≡ count2
  pub rest_is : rest ≡ rest2

pub heads_are_one : (version version2 : SnapshotVersion) (octets : List ℕ) (next next2 count count2 : ℕ) (rest rest2 : List ℕ) → SpellsSnapshot version octets next count rest
    → SpellsSnapshot version2 octets next2 count2 rest2 → AreOneHead version version2 next next2 count count2 rest rest2
heads_are_one version version2 octets next next2 count count2 rest rest2 one two =
    let first = same_head (snapshot_kind version) (snapshot_kind version2) _ _ (sym one.octets_are ∙ two.octets_are) in
    let second = code_8 next next2 _ _ one.next_fits two.next_fits first.1 in
    let third = code_4 count count2 rest rest2 one.count_fits two.count_fits second.1 in
    record { version_is = kinds_are_one version version2 first.0; next_is = second.0; count_is = third.0; rest_is = third.1 }

-- what begins as a snapshot of a version is one of that version, if it is one
by_version : (version : SnapshotVersion) (octets : List ℕ) (next count : ℕ) (rest : List ℕ) (queue : Queue) → SpellsSnapshot version octets next count rest
    → IsSnapshotOf octets queue → IsSnapshotBy version octets queue
by_version version octets next count rest queue spelled is =
    let kind = kind_of is.0 octets queue is.1 in
    subst (λ (v : SnapshotVersion). IsSnapshotBy v octets queue) (kinds_are_one version is.0 (ap first_of (sym spelled.octets_are) ∙ kind)) is.1

pub bad_head : (octets : List ℕ) → SpellsNoSnapshot octets → IsNoSnapshot octets
bad_head octets out = record { none = λ queue is. out.none is.0 _ _ _ (spells_snapshot is.0 octets queue is.1) }

pub bad_next : (version : SnapshotVersion) (octets : List ℕ) (next count : ℕ) (rest : List ℕ) → SpellsSnapshot version octets next count rest
    → (1 ≤ next → next ≤ last_number + 1 → ⊥) → IsNoSnapshot octets
bad_next version octets next count rest spelled out = record {
  none = λ queue any.
      let is = by_version version octets next count rest queue spelled any in
      let same = (same_by_version version octets next count rest queue spelled is).next_is in
      let least = least_below 1 queue.next queue.messages is.valid.rise in
      let most = is.valid.next in
      out (omega (arith, same, least)) (omega (arith, same, most));
}

pub bad_entries : (version : SnapshotVersion) (octets : List ℕ) (next count : ℕ) (rest : List ℕ) → SpellsSnapshot version octets next count rest
    → HasNoEntries version count next rest → IsNoSnapshot octets
bad_entries version octets next count rest spelled out = record {
  none = λ queue any.
      let is = by_version version octets next count rest queue spelled any in
      let same = same_by_version version octets next count rest queue spelled is in
      out.none queue.messages (record {
        are = record { have_count = sym same.count_is; valid = is.messages };
        rise = subst (λ (n : ℕ). Rise 1 n queue.messages) (sym same.next_is) is.valid.rise;
        text_is = same.rest_is;
      });
}

-- messages that may be stored by a version may be stored
pub are_queued : (version : SnapshotVersion) (messages : List (ℕ × Message)) → AllByRecursion (IsQueuedBy version) messages → AllByRecursion IsQueued messages
are_queued version [] all = tt
are_queued version (entry ∷ messages) all = (all.0.is, are_queued version messages all.1)

pub is_snapshot : (version : SnapshotVersion) (octets : List ℕ) (next count : ℕ) (rest : List ℕ) (queue : Queue) → SpellsSnapshot version octets next count rest
    → next ≤ last_number + 1 → queue.next ≡ next → AreEntries version count next rest queue.messages → IsSnapshotOf octets queue
unfolding snapshot_by
is_snapshot version octets next count rest queue spelled few is entries =
    let have_count = entries.are.have_count in
    let count_fits = spelled.count_fits in (
      version,
      record {
        valid = record {
          next = omega (arith, is, few);
          rise = subst (λ (n : ℕ). Rise 1 n queue.messages) (sym is) entries.rise;
          messages = are_queued version queue.messages entries.are.valid;
        };
        messages = entries.are.valid;
        few = omega (arith, have_count, count_fits);
        octets_are = spelled.octets_are
            ∙ (λ i. snapshot_kind version ∷ (octets_8 (sym is i) ++ (octets_4 (sym have_count i) ++ entries.text_is i)));
      },
    )

module _ (version : SnapshotVersion) where
  -- the messages, one after another
  pub none_read : (next : ℕ) (text : List ℕ) → 1 ≤ next → ReadsEntries version 0 next text empty_queue text
  none_read next text some = record {
    are = record { have_count = refl; valid = tt };
    rise = omega arith;
    after = refl;
    below = some;
    text_is = refl;
  }

  after_last : (least : ℕ) (entries : List (ℕ × Message)) (entry : ℕ × Message) → next_after least (entries ++ entry ∷ []) ≡ suc entry.0
  after_last least [] entry = refl
  after_last least (first ∷ entries) entry = after_last (suc first.0) entries entry

  pub one_read : (count next : ℕ) (text : List ℕ) (queue : Queue) (rest : List ℕ) (message : Message) (after : List ℕ) (left : Queue)
      → ReadsEntries version count next text queue rest → IsQueuedIn version queue.next next (numbered message) → rest ≡ entry_octets version (numbered message) ++ after
      → left.next ≡ message.number + 1 → left.messages ≡ queue.messages ++ numbered message ∷ [] → ReadsEntries version (count + 1) next text left after
  one_read count next text queue rest message after left reads valid is next_is messages_are =
      let high = valid.high in
      let up = rise_to 1 queue.next message.number queue.messages reads.rise valid.low in
      let rise = rise_last 1 message.number queue.messages message up in
      record {
        are = subst (HaveCount (IsQueuedBy version) (count + 1)) (sym messages_are) (one_more_valid (IsQueuedBy version) count queue.messages (numbered message) reads.are valid.queued);
        rise = subst (λ (n : ℕ). Rise 1 n left.messages) (sym next_is) (subst (Rise 1 (message.number + 1)) (sym messages_are) rise);
        after = next_is ∙ add-one message.number ∙ sym (after_last 1 queue.messages (numbered message)) ∙ ap (next_after 1) (sym messages_are);
        below = omega (arith, next_is, high);
        text_is = one_more_read (entry_octets version) text queue.messages (numbered message) rest after reads.text_is is
            ∙ ap (λ (l : List (ℕ × Message)). flat_map (entry_octets version) l ++ after) (sym messages_are);
      }

  -- a row that begins with the octets of others begins with these
  pub begins_so : (done values : List (ℕ × Message)) (after rest : List ℕ) → length done ≤ length values → AllByRecursion (IsQueuedBy version) done → AllByRecursion (IsQueuedBy version) values
      → flat_map (entry_octets version) done ++ after ≡ flat_map (entry_octets version) values ++ rest
      → (more : List (ℕ × Message)) × (values ≡ done ++ more) × (after ≡ flat_map (entry_octets version) more ++ rest)
  begins_so [] values after rest fewer all also e = (values, refl, e)
  begins_so (first ∷ done) [] after rest fewer all also e = absurd (omega (arith, fewer))
  begins_so (first ∷ done) (value ∷ values) after rest fewer all also e =
      let same = code_entry version first value (flat_map (entry_octets version) done ++ after) (flat_map (entry_octets version) values ++ rest) all.0 also.0
      (sym (append_assoc (entry_octets version first) (flat_map (entry_octets version) done) after) ∙ e ∙ append_assoc (entry_octets version value) (flat_map (entry_octets version) values) rest) in
      let rest_is = begins_so done values after rest (omega (arith, fewer)) all.1 also.1 same.1 in
      (rest_is.0, (λ i. sym same.0 i ∷ rest_is.1 i), rest_is.2)

  -- a number in the middle of a row
  rise_middle : (least next : ℕ) (done : List (ℕ × Message)) (entry : ℕ × Message) (more : List (ℕ × Message)) → Rise least next (done ++ entry ∷ more)
      → (next_after least done ≤ entry.0) × (entry.0 < next)
  rise_middle least next [] entry more rise = let below = least_below (suc entry.0) next more rise.1 in (rise.0, omega (arith, below))
  rise_middle least next (first ∷ done) entry more rise = rise_middle (suc first.0) next done entry more rise.1

  valid_middle : (done : List (ℕ × Message)) (entry : ℕ × Message) (more : List (ℕ × Message)) → AllByRecursion (IsQueuedBy version) (done ++ entry ∷ more) → IsQueuedBy version entry
  valid_middle [] entry more all = all.0
  valid_middle (first ∷ done) entry more all = valid_middle done entry more all.1

  read_so : (count next : ℕ) (text : List ℕ) (done : ℕ) (queue : Queue) (rest : List ℕ) (messages : List (ℕ × Message)) → done ≤ count
      → ReadsEntries version done next text queue rest → AreEntries version count next text messages
      → (more : List (ℕ × Message)) × (messages ≡ queue.messages ++ more) × (rest ≡ flat_map (entry_octets version) more ++ [])
  read_so count next text done queue rest messages fewer reads entries =
      let here = reads.are.have_count in
      let there = entries.are.have_count in
      begins_so queue.messages messages rest [] (omega (arith, here, there, fewer)) reads.are.valid entries.are.valid
      (sym reads.text_is ∙ entries.text_is ∙ sym (append-nil (flat_map (entry_octets version) messages)))

  pub no_next_entry : (count next : ℕ) (text : List ℕ) (done : ℕ) (queue : Queue) (rest : List ℕ) → done < count → ReadsEntries version done next text queue rest
      → HasNone (IsQueuedIn version queue.next next) (entry_octets version) rest → HasNoEntries version count next text
  no_next_entry count next text done queue rest fewer reads out = record {
    none = λ messages entries.
        let so = read_so count next text done queue rest messages (omega (arith, fewer)) reads entries in
        by messages entries so.0 so.1 so.2;
  }
    where
      by : (messages : List (ℕ × Message)) → AreEntries version count next text messages → (more : List (ℕ × Message)) → messages ≡ queue.messages ++ more
          → rest ≡ flat_map (entry_octets version) more ++ [] → ⊥
      by messages entries [] are is =
          let same = ap length (are ∙ append-nil queue.messages) in
          let here = reads.are.have_count in
          let there = entries.are.have_count in
          omega (arith, same, here, there, fewer)
      by messages entries (entry ∷ more) are is =
          let rise = rise_middle 1 next queue.messages entry more (subst (Rise 1 next) are entries.rise) in
          let after = reads.after in
          let low = rise.0 in
          out.none entry (flat_map (entry_octets version) more ++ [])
          (record {
            queued = valid_middle queue.messages entry more (subst (AllByRecursion (IsQueuedBy version)) are entries.are.valid);
            low = subst (λ (n : ℕ). n ≤ entry.0) (sym after) low;
            high = rise.1;
          })
          (is ∙ append_assoc (entry_octets version entry) (flat_map (entry_octets version) more) [])

  pub too_many : (count next : ℕ) (text : List ℕ) → length text / 26 < count → HasNoEntries version count next text
  too_many count next text many = record {
    none = λ messages entries.
        let rows = rows_long version messages in
        let long = ap length entries.text_is in
        let have_count = entries.are.have_count in
        omega (arith, rows, long, have_count, many);
  }

  -- by a count of octets that stops at a word's greatest number
  pub too_many_counted : (count next : ℕ) (text : List ℕ) → count < 2 ^ 32 → min (length text) (2 ^ 64 - 1) / 26 < count → HasNoEntries version count next text
  too_many_counted count next text small many = too_many count next text (omega (arith, small, many))

  pub octets_after : (count next : ℕ) (text : List ℕ) (queue : Queue) (rest : List ℕ) → ReadsEntries version count next text queue rest → length rest ≢ 0
      → HasNoEntries version count next text
  octets_after count next text queue rest reads some = record {
    none = λ messages entries.
        let so = read_so count next text count queue rest messages (omega arith) reads entries in
        by messages entries so.0 so.1 so.2;
  }
    where
      by : (messages : List (ℕ × Message)) → AreEntries version count next text messages → (more : List (ℕ × Message)) → messages ≡ queue.messages ++ more
          → rest ≡ flat_map (entry_octets version) more ++ [] → ⊥
      by messages entries [] are is = some (ap length is)
      by messages entries (entry ∷ more) are is =
          let same = ap length are in
          let longer = length-append queue.messages (entry ∷ more) in
          let here = reads.are.have_count in
          let there = entries.are.have_count in
          omega (arith, same, longer, here, there)

  pub all_read : (count next : ℕ) (text : List ℕ) (queue : Queue) (rest : List ℕ) (messages : List (ℕ × Message)) → ReadsEntries version count next text queue rest
      → length rest ≡ 0 → messages ≡ queue.messages → AreEntries version count next text messages
  all_read count next text queue [] messages reads none are = record {
    are = subst (HaveCount (IsQueuedBy version) count) (sym are) reads.are;
    rise = subst (Rise 1 next) (sym are) (rise_to 1 queue.next next queue.messages reads.rise reads.below);
    text_is = reads.text_is ∙ append-nil (flat_map (entry_octets version) queue.messages) ∙ ap (flat_map (entry_octets version)) (sym are);
  }
  all_read count next text queue (octet ∷ rest) messages reads none are = absurd (omega (arith, none))

-- octets that are no snapshot, and the head of those that may be one
pub ruleset refused_snapshots = (bad_head, bad_next, bad_entries, may_be)

-- entries of a snapshot, as many as its head counts
pub ruleset counted_entries = (none_read, too_many_counted)

-- the head of a snapshot, or octets without one
pub ruleset snapshot_heads = (no_kind, other_kind, no_counts, head_is)
