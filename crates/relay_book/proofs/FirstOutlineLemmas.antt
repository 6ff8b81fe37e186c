-- A first body is read block by block.
use Rattle.std.proofs.Common.{◌≡◌, inl, ℕ, ◌+◌, ◌-◌, ◌<◌, ◌≤◌, true, List, [], ◌∷◌, ◌++◌, length, min, take, drop, refl, sym, subst, ap, ◌∙◌, arith, append_assoc, append-nil, length-append, length-drop, take-append-drop, replicate}
use Rattle.std.specs.List.{AllByRecursion, flat_map}
use Rattle.std.proofs.lemmas.List.{length-replicate, length-take-le}
use Rattle.relay_pieces.specs.Pieces.{InPieces, text_of}
use Rattle.relay_book.specs.declared.book.first_outline.SnapshotHead.{SnapshotHead}
use Rattle.relay_book.specs.declared.message.Message.{Message}
use Rattle.relay_book.specs.declared.version.SnapshotVersion.{SnapshotVersion}
use Rattle.relay_book.specs.declared.version.SnapshotVersion.TheVariants.{WithoutDelay, WithDelay}
use Rattle.relay_book.specs.Fields.{HasNone}
use Rattle.relay_book.specs.FirstOutline.{HasOutlined, IsReading, OutlinesHead, PassesOver, ReadsSoFar}
use Rattle.relay_book.specs.Outline.{OutlinesSnapshot, ReadsFirstOutline, outline_of}
use Rattle.relay_book.specs.Queue.{Queue, empty_queue, last_number}
use Rattle.relay_book.specs.Record.{octets_4, octets_8}
use Rattle.relay_book.specs.Snapshot.{IsNoSnapshot, IsQueuedBy, IsSnapshotBy, IsSnapshotOf, entry_octets, snapshot_kind}
use Rattle.relay_book.specs.SnapshotFields.{HasNoEntries, IsQueuedIn, ReadsEntries, SpellsSnapshot, is_of_snapshot, numbered}
use Rattle.relay_book.specs.StandsFor.{ReadsNoFirst}
use Rattle.relay_book.proofs.FirstLemmas.{no_snapshot_first}
use Rattle.relay_book.proofs.OutlineReadLemmas.{first_snapshot, one_outlined, outlines_snapshot}
use Rattle.relay_book.proofs.PieceLemmas.{after_first, rest_is}
use Rattle.relay_book.proofs.SnapshotReadLemmas.{all_read, bad_entries, begins_so, heads_are_one, no_next_entry, none_read, octets_after, spells_snapshot}

-- what begins what is held begins the text
pub held_within : (version : SnapshotVersion) (least next : ℕ) (text : List ℕ) (outline : Message) (count : ℕ) (rest : List ℕ)
    → OutlinesHead version least next text outline count rest → length rest ≤ length text
held_within version least next text outline count rest found = after_first text found.head rest found.text_is

pub head_in_text : (version : SnapshotVersion) (least next : ℕ) (old new : InPieces) (outline : Message) (count : ℕ) (rest : List ℕ)
    → OutlinesHead version least next old.front outline count rest → new.front ≡ drop (length old.front - length rest) old.front → new.after ≡ old.after
    → OutlinesHead version least next (text_of old) outline count (text_of new)
head_in_text version least next old new outline count rest found left stays =
    let new_is : text_of new ≡ rest ++ old.after = (λ i. (left ∙ rest_is old.front found.head rest found.text_is) i ++ stays i) in
    record {
      head = found.head;
      text_is = ap (λ (l : List ℕ). l ++ old.after) found.text_is ∙ append_assoc found.head rest old.after ∙ ap (λ (l : List ℕ). found.head ++ l) (sym new_is);
      has = λ stored after more long e.
          subst (λ (text : List ℕ). HasOutlined version least next text outline after) (sym (append_assoc old.front old.after more))
          (found.has stored after (old.after ++ more) long (sym (append_assoc rest old.after more) ∙ ap (λ (l : List ℕ). l ++ more) (sym new_is) ∙ e));
    }

-- octets are passed over, and others are missing
pub passes_none : (start : List ℕ) (count : ℕ) → PassesOver start start count count
passes_none start count = record { passed = []; text_is = refl; counted = omega arith }

pub passes_on : (start : List ℕ) (old new : InPieces) (missing here fewer count : ℕ) → PassesOver start (text_of old) missing count → here ≡ min (length old.front) missing
    → new.front ≡ drop here old.front → new.after ≡ old.after → fewer ≡ missing - here → PassesOver start (text_of new) fewer count
passes_on start old new missing here fewer count so_far is left stays fewer_is =
    let counted = so_far.counted in
    let longer = length-append so_far.passed (take here old.front) in
    let long = length-take-le here old.front (omega (arith, is)) in
    record {
      passed = so_far.passed ++ take here old.front;
      text_is = so_far.text_is
          ∙ ap (λ (l : List ℕ). so_far.passed ++ (l ++ old.after)) (sym (take-append-drop here old.front))
          ∙ ap (λ (l : List ℕ). so_far.passed ++ l) (append_assoc (take here old.front) (drop here old.front) old.after)
          ∙ sym (append_assoc so_far.passed (take here old.front) (drop here old.front ++ old.after))
          ∙ (λ i. (so_far.passed ++ take here old.front) ++ (sym left i ++ sym stays i));
      counted = omega (arith, counted, longer, long, fewer_is, is);
    }

no_octets : (octets : List ℕ) → length octets ≡ 0 → octets ≡ []
no_octets [] none = refl
no_octets (octet ∷ octets) none = absurd (omega (arith, none))

-- all of a text was
pub passes_all : (old new : InPieces) (missing here : ℕ) → here ≡ min (length old.front) missing → here < missing → new.front ≡ drop here old.front
    → new.after ≡ [] → text_of new ≡ []
passes_all old new missing here is some left none =
    let fewer = length-drop here old.front in
    let gone : new.front ≡ [] = left ∙ no_octets (drop here old.front) (omega (arith, is, some, fewer)) in
    (λ i. gone i ++ none i)

-- octets of a stored text were passed over, and others are missing
seam : (mid passed new more : List ℕ) (missing : ℕ) → mid ≡ passed ++ new → (0 < missing → new ≡ []) → length more ≡ missing → mid ++ more ≡ (passed ++ more) ++ new
seam mid passed new [] missing is none long = append-nil mid ∙ is ∙ ap (λ (l : List ℕ). l ++ new) (sym (append-nil passed))
seam mid passed new (octet ∷ more) missing is none long =
    let nothing = none (omega (arith, long)) in
    let all : mid ≡ passed = is ∙ ap (λ (l : List ℕ). passed ++ l) nothing ∙ append-nil passed in
    ap (λ (l : List ℕ). l ++ (octet ∷ more)) all ∙ sym (append-nil (passed ++ (octet ∷ more))) ∙ ap (λ (l : List ℕ). (passed ++ (octet ∷ more)) ++ l) (sym nothing)

pub text_found : (version : SnapshotVersion) (least next : ℕ) (old mid new : List ℕ) (outline : Message) (count missing : ℕ) → OutlinesHead version least next old outline count mid
    → PassesOver mid new missing count → (0 < missing → new ≡ [])
    → (more : List ℕ) → length more ≡ missing → HasOutlined version least next (old ++ more) outline new
text_found version least next old mid new outline count missing found passing none more long =
    let longer = length-append passing.passed more in
    let counted = passing.counted in
    found.has (passing.passed ++ more) new more (omega (arith, longer, counted, long)) (seam mid passing.passed new more missing passing.text_is none long)

-- octets that follow
spells_more : (version : SnapshotVersion) (octets : List ℕ) (next count : ℕ) (rest more : List ℕ) → SpellsSnapshot version octets next count rest
    → SpellsSnapshot version (octets ++ more) next count (rest ++ more)
spells_more version octets next count rest more spelled = record {
  octets_are = ap (λ (l : List ℕ). l ++ more) spelled.octets_are
      ∙ ap (λ (l : List ℕ). snapshot_kind version ∷ l)
      (append_assoc (octets_8 next) (octets_4 count ++ rest) more ∙ ap (λ (l : List ℕ). octets_8 next ++ l) (append_assoc (octets_4 count) rest more));
  next_fits = spelled.next_fits;
  count_fits = spelled.count_fits;
}

reads_more : (version : SnapshotVersion) (count next : ℕ) (text : List ℕ) (queue : Queue) (rest more : List ℕ) → ReadsEntries version count next text queue rest
    → ReadsEntries version count next (text ++ more) queue (rest ++ more)
reads_more version count next text queue rest more reads = record {
  are = reads.are;
  rise = reads.rise;
  after = reads.after;
  below = reads.below;
  text_is = ap (λ (l : List ℕ). l ++ more) reads.text_is ∙ append_assoc (flat_map (entry_octets version) queue.messages) rest more;
}

pub so_far_more : (version : SnapshotVersion) (next left : ℕ) (octets : List ℕ) (outline : Queue) (rest more : List ℕ) → ReadsSoFar version next left octets outline rest
    → ReadsSoFar version next left (octets ++ more) outline (rest ++ more)
so_far_more version next left octets outline rest more so_far = record {
  count = so_far.count;
  done = so_far.done;
  entries = so_far.entries ++ more;
  queue = so_far.queue;
  counted = so_far.counted;
  few = so_far.few;
  spelled = spells_more version octets next so_far.count so_far.entries more so_far.spelled;
  reads = reads_more version so_far.done next so_far.entries so_far.queue rest more so_far.reads;
  outline_is = so_far.outline_is;
}

-- none do
so_far_still : (version : SnapshotVersion) (next left : ℕ) (octets : List ℕ) (outline : Queue) (rest more : List ℕ) → length more ≡ 0
    → ReadsSoFar version next left octets outline rest → ReadsSoFar version next left (octets ++ more) outline rest
so_far_still version next left octets outline rest [] none so_far =
    subst (λ (l : List ℕ). ReadsSoFar version next left l outline rest) (sym (append-nil octets)) so_far
so_far_still version next left octets outline rest (octet ∷ more) none so_far = absurd (omega (arith, none))

-- the head was read
pub so_far_none : (version : SnapshotVersion) (octets : List ℕ) (next count : ℕ) (rest : List ℕ) (outline : Queue) → SpellsSnapshot version octets next count rest → 1 ≤ next
    → next ≤ last_number + 1 → outline ≡ empty_queue → ReadsSoFar version next count octets outline rest
so_far_none version octets next count rest outline spelled some few is = record {
  count = count;
  done = 0;
  entries = rest;
  queue = empty_queue;
  counted = omega arith;
  few = few;
  spelled = spelled;
  reads = none_read version next rest some;
  outline_is = is;
}

-- one message more was read
pub so_far_one : (version : SnapshotVersion) (next left fewer least : ℕ) (octets : List ℕ) (outline : Queue) (rest more : List ℕ) (found : Message) (after : List ℕ) (new : Queue)
    → ReadsSoFar version next left octets outline rest → HasOutlined version least next (rest ++ more) found after → least ≡ outline.next → left ≡ fewer + 1
    → new.next ≡ found.number + 1 → new.messages ≡ outline.messages ++ (found.number, found) ∷ [] → ReadsSoFar version next fewer (octets ++ more) new after
so_far_one version next left fewer least octets outline rest more found after new so_far has least_is one next_is messages_are =
    let counted = so_far.counted in
    let number_is : found.number ≡ has.message.number = ap (λ (m : Message). m.number) has.outline_is in
    let valid = subst (λ (n : ℕ). IsQueuedIn version n next (numbered has.message)) least_is has.is_queued in
    let all = one_outlined version so_far.done next (so_far.entries ++ more) outline (rest ++ more) has.message after new
    (record {
      queue = so_far.queue;
      reads = reads_more version so_far.done next so_far.entries so_far.queue rest more so_far.reads;
      outline_is = so_far.outline_is;
    })
    valid has.text_is (next_is ∙ ap (λ (n : ℕ). n + 1) number_is)
    (messages_are ∙ (λ i. outline.messages ++ (number_is i, has.outline_is i) ∷ [])) in
    record {
      count = so_far.count;
      done = so_far.done + 1;
      entries = so_far.entries ++ more;
      queue = all.queue;
      counted = omega (arith, counted, one);
      few = so_far.few;
      spelled = spells_more version octets next so_far.count so_far.entries more so_far.spelled;
      reads = all.reads;
      outline_is = all.outline_is;
    }

-- the same where nothing of its stored text is missing
pub so_far_whole : (version : SnapshotVersion) (next left fewer least : ℕ) (octets : List ℕ) (outline : Queue) (rest : List ℕ) (found : Message) (after : List ℕ) (new : Queue)
    → ReadsSoFar version next left octets outline rest → ((more : List ℕ) → length more ≡ 0 → HasOutlined version least next (rest ++ more) found after) → least ≡ outline.next
    → left ≡ fewer + 1 → new.next ≡ found.number + 1 → new.messages ≡ outline.messages ++ (found.number, found) ∷ [] → ReadsSoFar version next fewer octets new after
so_far_whole version next left fewer least octets outline rest found after new so_far has least_is one next_is messages_are =
    subst (λ (l : List ℕ). ReadsSoFar version next fewer l new after) (append-nil octets)
    (so_far_one version next left fewer least octets outline rest [] found after new so_far (has [] refl) least_is one next_is messages_are)

-- the first octet
spelled_first : (version : SnapshotVersion) (octets : List ℕ) (next count : ℕ) (rest : List ℕ) → SpellsSnapshot version octets next count rest → is_of_snapshot octets ≡ true
spelled_first WithoutDelay octets next count rest spelled = ap is_of_snapshot spelled.octets_are
spelled_first WithDelay octets next count rest spelled = ap is_of_snapshot spelled.octets_are

first_more : (octets more : List ℕ) → is_of_snapshot octets ≡ true → is_of_snapshot (octets ++ more) ≡ true
first_more [] more of = absurd (cc)
first_more (octet ∷ octets) more of = of

-- no octets of a stored text are missing
pub reading_ready : (head : SnapshotHead) (octets : List ℕ) (outline : Queue) (rest : List ℕ) → head.skip ≡ 0
    → ReadsSoFar head.version head.next head.left octets outline rest
    → (0 < head.left → HasNone (IsQueuedIn head.version outline.next head.next) (entry_octets head.version) rest) → IsReading head octets outline rest
reading_ready head octets outline rest ready so_far none = record {
  reads = λ more long. so_far_still head.version head.next head.left octets outline rest more (omega (arith, long, ready)) so_far;
  none = λ _. none;
  ended = λ some. absurd (omega (arith, some, ready));
  first = spelled_first head.version octets head.next so_far.count so_far.entries so_far.spelled;
}

-- some are
pub reading_within : (head : SnapshotHead) (octets : List ℕ) (old new : Queue) (rest after : List ℕ) (left least : ℕ) (found : Message) → 0 < head.skip
    → ReadsSoFar head.version head.next left octets old rest
    → ((more : List ℕ) → length more ≡ head.skip → HasOutlined head.version least head.next (rest ++ more) found after) → (0 < head.skip → after ≡ [])
    → least ≡ old.next → left ≡ head.left + 1 → new.next ≡ found.number + 1 → new.messages ≡ old.messages ++ (found.number, found) ∷ [] → IsReading head octets new after
reading_within head octets old new rest after left least found some so_far has ended least_is one next_is messages_are = record {
  reads = λ more long.
      so_far_one head.version head.next left head.left least octets old rest more found after new so_far (has more long) least_is one next_is messages_are;
  none = λ ready. absurd (omega (arith, some, ready));
  ended = ended;
  first = spelled_first head.version octets head.next so_far.count so_far.entries so_far.spelled;
}

-- a block within a stored text
pub reading_on : (head now : SnapshotHead) (octets block : List ℕ) (outline : Queue) (rest : List ℕ) → IsReading head octets outline rest → length block < head.skip
    → now.version ≡ head.version → now.next ≡ head.next → now.left ≡ head.left → now.skip ≡ head.skip - length block → IsReading now (octets ++ block) outline rest
reading_on head now octets block outline rest reading within version_is next_is left_is skip_is = record {
  reads = λ more long.
      let longer = length-append block more in
      subst (λ (l : List ℕ). ReadsSoFar now.version now.next now.left l outline rest) (sym (append_assoc octets block more))
      (subst (λ (n : ℕ). ReadsSoFar now.version now.next n (octets ++ (block ++ more)) outline rest) (sym left_is)
      (subst (λ (n : ℕ). ReadsSoFar now.version n head.left (octets ++ (block ++ more)) outline rest) (sym next_is)
      (subst (λ (v : SnapshotVersion). ReadsSoFar v head.next head.left (octets ++ (block ++ more)) outline rest) (sym version_is)
      (reading.reads (block ++ more) (omega (arith, longer, long, skip_is, within))))));
  none = λ ready. absurd (omega (arith, ready, skip_is, within));
  ended = λ some. reading.ended (omega (arith, within));
  first = first_more octets block reading.first;
}

-- a block that ends one
pub reading_after : (head : SnapshotHead) (octets block : List ℕ) (outline : Queue) (rest now : List ℕ) → IsReading head octets outline rest → head.skip ≤ length block
    → now ≡ rest ++ drop head.skip block → ReadsSoFar head.version head.next head.left (octets ++ block) outline now
reading_after head octets block outline rest now reading within is =
    let passed = take head.skip block in
    let after = drop head.skip block in
    let here = so_far_more head.version head.next head.left (octets ++ passed) outline rest after (reading.reads passed (length-take-le head.skip block within)) in
    subst (λ (l : List ℕ). ReadsSoFar head.version head.next head.left l outline now) (append_assoc octets passed after ∙ ap (λ (l : List ℕ). octets ++ l) (take-append-drop head.skip block))
    (subst (λ (l : List ℕ). ReadsSoFar head.version head.next head.left ((octets ++ passed) ++ after) outline l) (sym is) here)

-- the octets end within a stored text: they are no snapshot
pub cut_within : (version : SnapshotVersion) (next left : ℕ) (octets more : List ℕ) (outline : Queue) → ReadsSoFar version next left (octets ++ more) outline [] → 0 < length more
    → IsNoSnapshot octets
cut_within version next left octets more outline so_far some = record { none = by }
  where
    by : (queue : Queue) → IsSnapshotOf octets queue → ⊥
    by queue is =
        let whole = spells_more is.0 octets queue.next (length queue.messages) (flat_map (entry_octets is.0) queue.messages) more (spells_snapshot is.0 octets queue is.1) in
        let same = heads_are_one version is.0 (octets ++ more) next queue.next so_far.count (length queue.messages) so_far.entries (flat_map (entry_octets is.0) queue.messages ++ more)
        so_far.spelled whole in
        let messages = subst (λ (v : SnapshotVersion). AllByRecursion (IsQueuedBy v) queue.messages) same.version_is is.1.messages in
        let rest : so_far.entries ≡ flat_map (entry_octets version) queue.messages ++ more =
        same.rest_is ∙ ap (λ (v : SnapshotVersion). flat_map (entry_octets v) queue.messages ++ more) same.version_is in
        let here = so_far.reads.are.have_count in
        let there = same.count_is in
        let counted = so_far.counted in
        let so = begins_so version so_far.queue.messages queue.messages [] more (omega (arith, here, there, counted)) so_far.reads.are.valid messages (sym so_far.reads.text_is ∙ rest) in
        let long = ap length so.2 in
        let longer = length-append (flat_map (entry_octets version) so.0) more in
        omega (arith, long, longer, some)

pub cut_off : (head : SnapshotHead) (octets : List ℕ) (outline : Queue) (rest : List ℕ) → IsReading head octets outline rest → 0 < head.skip → ReadsNoFirst octets
cut_off head octets outline rest reading some =
    let more = replicate head.skip 0 in
    let long : length more ≡ head.skip = length-replicate head.skip 0 in
    let so_far = subst (λ (l : List ℕ). ReadsSoFar head.version head.next head.left (octets ++ more) outline l) (reading.ended some) (reading.reads more long) in
    no_snapshot_first octets reading.first (cut_within head.version head.next head.left octets more outline so_far (omega (arith, some, long)))

so_far_here : (head : SnapshotHead) (octets : List ℕ) (outline : Queue) (rest : List ℕ) → IsReading head octets outline rest → head.skip ≡ 0
    → ReadsSoFar head.version head.next head.left octets outline rest
so_far_here head octets outline rest reading ready =
    subst (λ (l : List ℕ). ReadsSoFar head.version head.next head.left l outline rest) (append-nil octets) (reading.reads [] (sym ready))

-- messages are missing
pub some_left : (head : SnapshotHead) (octets : List ℕ) (outline : Queue) (rest : List ℕ) → IsReading head octets outline rest → head.skip ≡ 0 → 0 < head.left → ReadsNoFirst octets
some_left head octets outline rest reading ready some =
    let so_far = so_far_here head octets outline rest reading ready in
    let counted = so_far.counted in
    let none = subst (λ (q : Queue). HasNone (IsQueuedIn head.version q.next head.next) (entry_octets head.version) rest) so_far.outline_is (reading.none ready some) in
    no_snapshot_first octets reading.first
    (bad_entries head.version octets head.next so_far.count so_far.entries so_far.spelled
    (no_next_entry head.version so_far.count head.next so_far.entries so_far.done so_far.queue rest (omega (arith, counted, some)) so_far.reads none))

-- all were read
all_done : (head : SnapshotHead) (octets : List ℕ) (outline : Queue) (rest : List ℕ) → (so_far : ReadsSoFar head.version head.next head.left octets outline rest) → head.left ≡ 0
    → ReadsEntries head.version so_far.count head.next so_far.entries so_far.queue rest
all_done head octets outline rest so_far none =
    let counted = so_far.counted in
    let whole : so_far.done ≡ so_far.count = omega (arith, counted, none) in
    subst (λ (n : ℕ). ReadsEntries head.version n head.next so_far.entries so_far.queue rest) whole so_far.reads

-- octets follow the messages
pub some_after : (head : SnapshotHead) (octets : List ℕ) (outline : Queue) (rest : List ℕ) → IsReading head octets outline rest → head.skip ≡ 0 → head.left ≡ 0 → (length rest ≡ 0 → ⊥)
    → ReadsNoFirst octets
some_after head octets outline rest reading ready none some =
    let so_far = so_far_here head octets outline rest reading ready in
    no_snapshot_first octets reading.first
    (bad_entries head.version octets head.next so_far.count so_far.entries so_far.spelled
    (octets_after head.version so_far.count head.next so_far.entries so_far.queue rest (all_done head octets outline rest so_far none) some))

-- the outline is below the next number
pub below : (head : SnapshotHead) (octets : List ℕ) (outline : Queue) (rest : List ℕ) → IsReading head octets outline rest → head.skip ≡ 0 → outline.next ≤ head.next
below head octets outline rest reading ready =
    let so_far = so_far_here head octets outline rest reading ready in
    subst (λ (q : Queue). q.next ≤ head.next) (sym so_far.outline_is) so_far.reads.below

-- nothing does: the outline is that of the queue
pub whole_outline : (head : SnapshotHead) (octets : List ℕ) (outline left : Queue) (rest : List ℕ) → IsReading head octets outline rest → head.skip ≡ 0 → head.left ≡ 0 → length rest ≡ 0
    → left.next ≡ head.next → left.messages ≡ outline.messages → ReadsFirstOutline octets left
whole_outline head octets outline left rest reading ready none end next_is messages_are =
    let so_far = so_far_here head octets outline rest reading ready in
    first_snapshot octets left
    (outlines_snapshot head.version octets head.next so_far.count so_far.entries left so_far.spelled so_far.few next_is
    (record {
      messages = so_far.queue.messages;
      are = all_read head.version so_far.count head.next so_far.entries so_far.queue rest so_far.queue.messages (all_done head octets outline rest so_far none) end refl;
      outlined_are = messages_are ∙ ap (λ (q : Queue). q.messages) so_far.outline_is;
    }))
