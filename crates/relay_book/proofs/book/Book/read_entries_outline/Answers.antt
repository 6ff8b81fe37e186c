-- One message more was read, or is the first that isn't one.
use Rattle.std.proofs.Common.{◌≡◌, ◌≢◌, ◌≤◌, ℕ, ap, arith, length, refl, rules, subst, sym, ◌∙◌}
use Rattle.relay_pieces.specs.Pieces.{text_of}
use Rattle.relay_book.specs.Fields.{HasNone}
use Rattle.relay_book.specs.Queue.{Queue, empty_queue}
use Rattle.relay_book.specs.Snapshot.{entry_octets}
use Rattle.relay_book.specs.SnapshotFields.{IsQueuedIn, ReadsEntries, numbered}
use Rattle.relay_book.proofs.FaultLemmas.{fault_as, no_memory}
use Rattle.relay_book.proofs.OutlineReadLemmas.{none_outlined, one_outlined}
use Rattle.relay_book.proofs.SnapshotReadLemmas.{all_read, no_next_entry, octets_after}
use Rattle.relay_book.proofs.book.Book.read_entries_outline.Goals as goal

pub loop-index-init : goal.loop-index-init
loop-index-init c =
    let empty : c.make_room.new.self.queue ≡ empty_queue = search rules in
    none_outlined c.args.version c.args.next (text_of c.args.text) c.make_room.new.self.queue empty c.requires.some

pub loop-index-preserved : goal.loop-index-preserved
loop-index-preserved c =
    let least_is : c.next_number.result ≡ c.loop-index.self.queue.next = search rules in
    one_outlined c.args.version c.loop-index.index c.args.next (text_of c.args.text) c.loop-index.self.queue (text_of c.loop-index.text) c.in-Ok.message (text_of c.next_entry.new.text)
    c.restore_outline.new.self.queue c.loop-index.invariant
    (subst (λ (n : ℕ). IsQueuedIn c.args.version n c.args.next (numbered c.in-Ok.message)) least_is c.in-Ok.ensures.entry.0) c.in-Ok.ensures.entry.1
    c.in_ok-restore_outline-in-Ok.ensures.next c.in_ok-restore_outline-in-Ok.ensures.messages

pub returns-in-Err-clause-bad : goal.returns-in-Err-clause-bad
returns-in-Err-clause-bad c =
    let state = c.loop-index.invariant in
    let least_is : c.next_number.result ≡ c.loop-index.self.queue.next = search rules in
    λ bad. no_next_entry c.args.version c.args.count c.args.next (text_of c.args.text) c.loop-index.index state.queue (text_of c.loop-index.text) c.loop-index-test.true state.reads
    (subst (λ (n : ℕ). HasNone (IsQueuedIn c.args.version n c.args.next) (entry_octets c.args.version) (text_of c.loop-index.text))
    (least_is ∙ ap (λ (q : Queue). q.next) state.outline_is) (c.in-Err.ensures.bad (fault_as _ c.in-Err.fault _ bad)))

pub returns-then-len-gt0-clause-bad : goal.returns-then-len-gt0-clause-bad
returns-then-len-gt0-clause-bad c =
    let state = c.loop-index.invariant in
    let past = c.loop-index-test.false in
    let within = c.loop-index.auto.index-end in
    let whole : c.loop-index.index ≡ c.args.count = omega (arith, past, within) in
    let some : length (text_of c.loop-index.text) ≢ 0 = search rules in
    λ _. octets_after c.args.version c.args.count c.args.next (text_of c.args.text) state.queue (text_of c.loop-index.text)
    (subst (λ (n : ℕ). ReadsEntries c.args.version n c.args.next (text_of c.args.text) state.queue (text_of c.loop-index.text)) whole state.reads) some

pub returns-clause-entries : goal.returns-clause-entries
returns-clause-entries c =
    let state = c.loop-index.invariant in
    let past = c.loop-index-test.false in
    let within = c.loop-index.auto.index-end in
    let whole : c.loop-index.index ≡ c.args.count = omega (arith, past, within) in
    let none : length (text_of c.loop-index.text) ≡ 0 = search rules in
    record {
      messages = state.queue.messages;
      are = all_read c.args.version c.args.count c.args.next (text_of c.args.text) state.queue (text_of c.loop-index.text) state.queue.messages
          (subst (λ (n : ℕ). ReadsEntries c.args.version n c.args.next (text_of c.args.text) state.queue (text_of c.loop-index.text)) whole state.reads) none refl;
      outlined_are = c.skip_to.ensures.messages ∙ ap (λ (q : Queue). q.messages) state.outline_is;
    }

pub skip_to-requires : goal.skip_to-requires
skip_to-requires c =
    let state = c.loop-index.invariant in
    subst (λ (q : Queue). q.next ≤ c.args.next) (sym state.outline_is) state.reads.below

pub returns-in_err-make_room-clause-bad : goal.returns-in_err-make_room-clause-bad
returns-in_err-make_room-clause-bad c = no_memory c.from_residual.result c.from_residual.ensures.1

pub returns-in_err-restore_outline-in-Ok-clause-bad : goal.returns-in_err-restore_outline-in-Ok-clause-bad
returns-in_err-restore_outline-in-Ok-clause-bad c = no_memory c.from_residual-in_err-restore_outline-in-Ok.result c.from_residual-in_err-restore_outline-in-Ok.ensures.1
