-- What a change makes ready.
use Rattle.std.proofs.Common.{◌≡◌, ℕ, ◌<◌, ◌==◌, List, [], ◌∷◌, ◌++◌, Option, Some, refl, sym, subst, ap, ◌∙◌, if◌then◌else◌}
use Rattle.relay_book.specs.declared.change.Accept.{Accept as AcceptFields}
use Rattle.relay_book.specs.declared.change.Outcome.{Outcome as OutcomeFields}
use Rattle.relay_book.specs.declared.change.Change.{Change}
use Rattle.relay_book.specs.declared.change.Change.TheVariants.{Accept, Outcome}
use Rattle.relay_book.specs.declared.message.Message.{Message}
use Rattle.relay_book.specs.Queue.{FitsQueue, accepted, message_after, message_of, report_of, reported, ruled, step, if_held}
use Rattle.relay_book.specs.Book.{AllTold, AreTold, Shown}
use Rattle.relay_book.specs.Ready.{IsReady, entry_of}
use Rattle.relay_book.proofs.ToldLemmas.{told_back, told_both, told_front, told_ruled}

-- an outcome without a report queues none
pub none_reported : (number : ℕ) (outcome : OutcomeFields) (report : List ℕ) (message : Message) → report ≡ [] → [] ≡ reported number outcome report (Some message)
none_reported number outcome report message empty = sym (ap (λ (l : List ℕ). reported number outcome l (Some message)) empty)

pub one_reported : (number : ℕ) (outcome : OutcomeFields) (report : List ℕ) (message made : Message) → (report ≡ [] → ⊥) → made ≡ accepted number (report_of message.accept outcome)
    → (number, made) ∷ [] ≡ reported number outcome report (Some message)
one_reported number outcome [] message made some is = absurd (some refl)
one_reported number outcome (octet ∷ rest) message made some is = ap (λ (m : Message). (number, m) ∷ []) is

-- the text of the report says nothing of the places
pub ruled_report : (outcome : OutcomeFields) (text : List ℕ) (entries : List (ℕ × Message)) → ruled outcome entries ≡ ruled (record outcome { report = text }) entries
ruled_report outcome text [] = refl
ruled_report outcome text (entry ∷ entries) =
    ap (λ (l : List (ℕ × Message)). if entry.0 == outcome.message then if_held entry.0 (message_after outcome entry.1) ++ entries else entry ∷ l) (ruled_report outcome text entries)

pub is_ready_accept : (book : Shown) (accept : AcceptFields) (message : Message) → FitsQueue book.queue (Accept accept) → message ≡ accepted book.queue.next accept → 0 < book.room
    → AllTold book.told book.queue.messages → AllTold book.told (entry_of book.queue.next (Some message))
    → IsReady book (record { change = Accept message.accept; message = Some message })
is_ready_accept book accept message fits is room told also =
    let same : message.accept ≡ accept = ap (λ (m : Message). m.accept) is in
    let again : accepted book.queue.next message.accept ≡ message = ap (accepted book.queue.next) same ∙ sym is in
    record {
      fits = subst (λ (a : AcceptFields). FitsQueue book.queue (Accept a)) (sym same) fits;
      added = ap (λ (m : Message). (book.queue.next, m) ∷ []) again;
      room = room;
      told = told_both book.told book.queue.messages ((book.queue.next, accepted book.queue.next message.accept) ∷ []) told
          (subst (λ (m : Message). AllTold book.told ((book.queue.next, m) ∷ [])) (sym again) also);
    }

pub is_ready_outcome : (book : Shown) (outcome : OutcomeFields) (message : Message) (change : Change) (queued : Option Message) → FitsQueue book.queue (Outcome outcome)
    → message_of book.queue.messages outcome.message ≡ Some message → change ≡ Outcome outcome
    → entry_of book.queue.next queued ≡ reported book.queue.next outcome outcome.report (Some message)
    → 0 < book.room → AllTold book.told book.queue.messages → AreTold book.told outcome.message (message_after outcome message).places
    → AllTold book.told (entry_of book.queue.next queued) → IsReady book (record { change = change; message = queued })
is_ready_outcome book outcome message change queued fits found is made room told after also =
    subst (λ (c : Change). IsReady book (record { change = c; message = queued })) (sym is)
    (record {
      fits = fits;
      added = added;
      room = room;
      told = told_both book.told (ruled outcome book.queue.messages) _ (told_ruled book.told outcome book.queue.messages message told found after) (subst (AllTold book.told) (sym added) also);
    })
  where
    added : reported book.queue.next outcome outcome.report (message_of book.queue.messages outcome.message) ≡ entry_of book.queue.next queued
    added = ap (reported book.queue.next outcome outcome.report) found ∙ sym made

-- what is after an outcome, and what is added
pub ready_ruled : (book : Shown) (outcome : OutcomeFields) (text : List ℕ) (queued : Option Message) → IsReady book (record { change = Outcome (record outcome { report = text }); message = queued })
    → AllTold book.told (ruled outcome book.queue.messages)
ready_ruled book outcome text queued ready =
    subst (AllTold book.told) (sym (ruled_report outcome text book.queue.messages))
    (told_front book.told (ruled (record outcome { report = text }) book.queue.messages) _ ready.told)

pub ready_added : (book : Shown) (outcome : OutcomeFields) (text : List ℕ) (queued : Option Message) → IsReady book (record { change = Outcome (record outcome { report = text }); message = queued })
    → AllTold book.told (entry_of book.queue.next queued)
ready_added book outcome text queued ready =
    subst (AllTold book.told) ready.added (told_back book.told (ruled (record outcome { report = text }) book.queue.messages) _ ready.told)

pub ready_step : (book : Shown) (outcome : OutcomeFields) (text : List ℕ) (queued : Option Message) → IsReady book (record { change = Outcome (record outcome { report = text }); message = queued })
    → ruled outcome book.queue.messages ++ entry_of book.queue.next queued ≡ (step book.queue (Outcome (record outcome { report = text }))).messages
ready_step book outcome text queued ready = λ i. ruled_report outcome text book.queue.messages i ++ sym ready.added i

pub accept_added : (book : Shown) (accept : AcceptFields) (queued : Option Message) → IsReady book (record { change = Accept accept; message = queued })
    → AllTold book.told (entry_of book.queue.next queued)
accept_added book accept queued ready = subst (AllTold book.told) ready.added (told_back book.told book.queue.messages _ ready.told)

pub accept_step : (book : Shown) (accept : AcceptFields) (queued : Option Message) → IsReady book (record { change = Accept accept; message = queued })
    → book.queue.messages ++ entry_of book.queue.next queued ≡ (step book.queue (Accept accept)).messages
accept_step book accept queued ready = ap (λ (l : List (ℕ × Message)). book.queue.messages ++ l) (sym ready.added)
