-- What was accepted stays, and a report may be stored.
use Rattle.std.proofs.Common.{◌≡◌, ◌≢◌, ◌==◌, ◌++◌, ℕ, zero, suc, Bool, true, false, if◌then◌else◌, fold, List, [], ◌∷◌, slice_get, codes, Option, None, Some, MatchOption, refl, sym, subst, ap, ◌∙◌, arith, option_and_then}
use Rattle.std.specs.List.{AllByRecursion, list_any}
use Rattle.std.proofs.lemmas.Bool.{false≢true}
use Rattle.relay_envelope.specs.Path.{Null}
use Rattle.relay_envelope.specs.Envelope.{IsForwardPath}
use Rattle.relay_envelope.proofs.Theorems.{reverse_path_is_forward}
use Rattle.relay_book.specs.declared.change.Accept.{Accept as AcceptFields}
use Rattle.relay_book.specs.declared.change.Outcome.{Outcome as OutcomeFields}
use Rattle.relay_book.specs.declared.change.Change.{Change}
use Rattle.relay_book.specs.declared.change.Change.TheVariants.{Accept, Outcome}
use Rattle.relay_book.specs.declared.message.Message.{Message}
use Rattle.relay_book.specs.Record.{IsAccept, IsOutcome, is_null}
use Rattle.relay_book.specs.Queue.{Queue, FitsFrom, FitsMessage, FitsQueue, Fitting, accepted, empty_queue, is_held, message_after, message_of, queue_of, report_of, reported, ruled, step}
use Rattle.relay_book.specs.Marks.{MessageStays, QueuedMayBeStored, ReportMayBeStored, change_at, own_accept}
use Rattle.relay_book.proofs.PlaceLemmas.{none_some, some_is}
use Rattle.relay_book.proofs.ChangeLemmas.{message_other, message_within, own_from}
use Rattle.relay_book.proofs.CustodyLemmas.{not_null}
use Rattle.relay_book.proofs.MarkLaws.{fits_before, stand}

pub message_stays : MessageStays
message_stays changes change fitting number accept is =
    let within = message_within changes number accept is in
    message_other changes change number (stand changes (fits_before empty_queue changes change fitting)).knows.back (λ same. omega (arith, within, same)) ∙ is

-- each accept of a list may be stored
accepts_are_valid : (queue : Queue) (changes : List Change) (k : ℕ) (accept : AcceptFields) → FitsFrom queue changes → slice_get changes k ≡ Some (Accept accept) → IsAccept accept
accepts_are_valid queue [] k accept fits is = absurd (none_some (Accept accept) is)
accepts_are_valid queue (first ∷ changes) zero accept fits is = (subst (FitsQueue queue) (some_is first (Accept accept) is) fits.0).1
accepts_are_valid queue (first ∷ changes) (suc k) accept fits is = accepts_are_valid (step queue first) changes k accept fits.1 is

own_is_valid : (changes : List Change) (number : ℕ) (accept : AcceptFields) → Fitting changes → option_and_then own_accept (change_at changes number) ≡ Some accept → IsAccept accept
own_is_valid changes zero accept fits is = absurd (none_some accept is)
own_is_valid changes (suc k) accept fits is = by (slice_get changes k) refl is
  where
    by : (o : Option Change) → slice_get changes k ≡ o → option_and_then own_accept o ≡ Some accept → IsAccept accept
    by None e is = absurd (none_some accept is)
    by (Some (Accept own)) e is = accepts_are_valid empty_queue changes k accept fits (e ∙ ap (λ (a : AcceptFields). Some (Accept a)) (some_is own accept is))
    by (Some (Outcome outcome)) e is = absurd (none_some accept is)

pub not_null_text : (path : List ℕ) → is_null path ≡ false → path ≢ codes "<>"
not_null_text path some is = false≢true (sym some ∙ ap is_null is)

pub report_is_accept : (accept : AcceptFields) (outcome : OutcomeFields) → IsOutcome outcome → IsForwardPath accept.envelope.reverse_path → IsAccept (report_of accept outcome)
report_is_accept accept outcome valid forward = record {
  moment = valid.moment;
  envelope = record {
    reverse_path = record { path = Null; valid = tt; allowed = refl; text_is = refl };
    envid = refl;
    some = omega arith;
    within = omega arith;
    recipients = (record { path = forward; notify = refl; orcpt = refl }, tt);
  };
  text = valid.report;
}

pub report_may_be_stored : ReportMayBeStored
report_may_be_stored changes fitting outcome message fits found some = by outcome.report refl
  where
    fits_it : FitsMessage message outcome
    fits_it = subst (λ (o : Option Message). MatchOption o ⊥ (λ message. FitsMessage message outcome)) found fits.1

    by : (report : List ℕ) → outcome.report ≡ report → IsAccept (report_of message.accept outcome)
    by [] is = absurd (some is)
    by (octet ∷ rest) is =
        let path = not_null message outcome octet rest fits_it is in
        let known = (stand changes fitting).knows.accept outcome.message message found in
        let valid = own_is_valid changes outcome.message message.accept fitting (own_from changes outcome.message message.accept known path) in
        report_is_accept message.accept outcome fits.2 (reverse_path_is_forward message.accept.envelope.reverse_path valid.envelope.reverse_path (not_null_text message.accept.envelope.reverse_path path))

-- all these messages may be stored
abbrev AreStored : List (ℕ × Message) → Type 0
AreStored entries = AllByRecursion (λ entry. IsAccept entry.1.accept) entries

both_stored : (entries more : List (ℕ × Message)) → AreStored entries → AreStored more → AreStored (entries ++ more)
both_stored [] more stored rest = rest
both_stored (entry ∷ entries) more stored rest = (stored.0, both_stored entries more stored.1 rest)

found_stored : (entries : List (ℕ × Message)) (number : ℕ) (message : Message) → AreStored entries → message_of entries number ≡ Some message → IsAccept message.accept
found_stored [] number message stored found = absurd (none_some message found)
found_stored (entry ∷ entries) number message stored found = by (entry.0 == number) (found_stored entries number message stored.1) found
  where
    by : (here : Bool) → (message_of entries number ≡ Some message → IsAccept message.accept)
        → (if here then Some entry.1 else message_of entries number) ≡ Some message → IsAccept message.accept
    by true more is = subst (λ (m : Message). IsAccept m.accept) (some_is entry.1 message is) stored.0
    by false more is = more is

ruled_stored : (outcome : OutcomeFields) (entries : List (ℕ × Message)) → AreStored entries → AreStored (ruled outcome entries)
ruled_stored outcome [] stored = tt
ruled_stored outcome (entry ∷ entries) stored = by (entry.0 == outcome.message) (list_any is_held (message_after outcome entry.1).places) (ruled_stored outcome entries stored.1)
  where
    by : (here held : Bool) → AreStored (ruled outcome entries)
        → AreStored (if here then (if held then (entry.0, message_after outcome entry.1) ∷ [] else []) ++ entries else entry ∷ ruled outcome entries)
    by true true rest = (stored.0, stored.1)
    by true false rest = stored.1
    by false held rest = (stored.0, rest)

reported_stored : (number : ℕ) (outcome : OutcomeFields) (entries : List (ℕ × Message)) (message : Option Message) → IsOutcome outcome
    → MatchOption message ⊥ (λ message. FitsMessage message outcome) → AreStored entries → message_of entries outcome.message ≡ message
    → (report : List ℕ) → outcome.report ≡ report → AreStored (reported number outcome report message)
reported_stored number outcome entries message valid fits stored found [] is = tt
reported_stored number outcome entries None valid fits stored found (octet ∷ rest) is = tt
reported_stored number outcome entries (Some message) valid fits stored found (octet ∷ rest) is =
    let path = not_null message outcome octet rest fits is in
    let accept = found_stored entries outcome.message message stored found in
    (report_is_accept message.accept outcome valid (reverse_path_is_forward message.accept.envelope.reverse_path accept.envelope.reverse_path (not_null_text message.accept.envelope.reverse_path path)), tt)

step_stored : (queue : Queue) (change : Change) → FitsQueue queue change → AreStored queue.messages → AreStored (step queue change).messages
step_stored queue (Accept accept) fits stored = both_stored queue.messages ((queue.next, accepted queue.next accept) ∷ []) stored (fits.1, tt)
step_stored queue (Outcome outcome) fits stored =
    both_stored (ruled outcome queue.messages) (reported queue.next outcome outcome.report (message_of queue.messages outcome.message))
    (ruled_stored outcome queue.messages stored)
    (reported_stored queue.next outcome queue.messages (message_of queue.messages outcome.message) fits.2 fits.1 stored refl outcome.report refl)

all_stored : (queue : Queue) (changes : List Change) → FitsFrom queue changes → AreStored queue.messages → AreStored (fold step queue changes).messages
all_stored queue [] fits stored = stored
all_stored queue (change ∷ changes) fits stored = all_stored (step queue change) changes fits.1 (step_stored queue change fits.0 stored)

pub queued_may_be_stored : QueuedMayBeStored
queued_may_be_stored changes fitting number message found = found_stored (queue_of changes).messages number message (all_stored empty_queue changes fitting tt) found
