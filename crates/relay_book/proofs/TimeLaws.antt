-- The law of due moments.
use Rattle.std.proofs.Common.{◌≡◌, ◌⊎◌, inl, inr, ℕ, suc, ◌<◌, ◌==◌, Bool, ◌&&◌, if◌then◌else◌, List, [], ◌∷◌, ◌++◌, length, fold, slice_get, Option, None, Some, MatchOption, refl, sym, subst, ap, ◌∙◌, arith, append_assoc, append-nil}
use Rattle.std.proofs.lemmas.List.Sums.{fold_push}
use Rattle.std.proofs.lemmas.Bool.{cond-true, cond-false, cases_eq, eq-eqb, ne_eqb}
use Rattle.relay_book.specs.declared.change.Accept.{Accept as AcceptFields}
use Rattle.relay_book.specs.declared.change.Outcome.{Outcome as OutcomeFields}
use Rattle.relay_book.specs.declared.change.Change.{Change}
use Rattle.relay_book.specs.declared.change.Change.TheVariants.{Accept, Outcome}
use Rattle.relay_book.specs.declared.message.Place.{Place}
use Rattle.relay_book.specs.declared.message.Message.{Message}
use Rattle.relay_book.specs.DueMoment.{laters_of, laters_with, waits_in}
use Rattle.relay_book.specs.DueLaw.{FoldDue}
use Rattle.relay_book.specs.Queue.{Queue, FitsQueue, FitsFrom, FitsMessage, accepted, empty_queue, message_after, message_of, report_of, reported, ruled, step}
use Rattle.relay_book.specs.Book.{Rise}
use Rattle.relay_book.proofs.PlaceLemmas.{none_some, some_is}
use Rattle.relay_book.proofs.EntryLemmas.{joined_here, joined_other, kept_or_not, message_below, none_before, none_after, rise_ruled, ruled_at, ruled_other, ruled_past}
use Rattle.relay_book.proofs.ChangeLemmas.{joined, Back, change_within}
use Rattle.relay_book.proofs.CustodyLemmas.{Knows, grows, report_or_not}
use Rattle.relay_book.proofs.MarkLaws.{Stands, none_known, none_told}
use Rattle.relay_book.proofs.TimeLemmas.{AreTimed, IsTimed, timed_new, timed_ruled}

never_from : (changes : List Change) (number place : ℕ) → ((k : ℕ) (outcome : OutcomeFields) → slice_get changes k ≡ Some (Outcome outcome) → outcome.message ≡ number → ⊥)
    → (before : List ℕ) → fold (laters_with number place) before changes ≡ before
never_from [] number place out before = refl
never_from (Accept accept ∷ changes) number place out before = never_from changes number place (λ k outcome is. out (suc k) outcome is) before
never_from (Outcome outcome ∷ changes) number place out before =
    ap (λ (test : Bool). fold (laters_with number place) (if test && waits_in place outcome.rulings then outcome.at ∷ before else before) changes)
    (ne_eqb outcome.message number (out 0 outcome refl))
    ∙ never_from changes number place (λ k other is. out (suc k) other is) before

-- a message that is still to come has no Later verdicts
never : (changes : List Change) (number place : ℕ) → Back changes → length changes < number → laters_of changes number place ≡ []
never changes number place back above =
    never_from changes number place
    (λ k outcome is same.
    let before = back (suc k) outcome is in
    let within = change_within changes (suc k) (Outcome outcome) is in
    omega (arith, before, within, same, above))
    []

more_laters : (changes : List Change) (change : Change) (number place : ℕ) → laters_of (joined changes change) number place ≡ laters_with number place (laters_of changes number place) change
more_laters changes change number place = fold_push (laters_with number place) [] changes change

other_laters : (changes : List Change) (outcome : OutcomeFields) (number place : ℕ) → (outcome.message ≡ number → ⊥) → laters_of (joined changes (Outcome outcome)) number place ≡ laters_of changes number place
other_laters changes outcome number place off =
    more_laters changes (Outcome outcome) number place
    ∙ ap (λ (test : Bool). if test && waits_in place outcome.rulings then outcome.at ∷ laters_of changes number place else laters_of changes number place) (ne_eqb outcome.message number off)

its_laters : (changes : List Change) (outcome : OutcomeFields) (place : ℕ)
    → laters_of (joined changes (Outcome outcome)) outcome.message place
    ≡ (if waits_in place outcome.rulings then outcome.at ∷ laters_of changes outcome.message place else laters_of changes outcome.message place)
its_laters changes outcome place =
    more_laters changes (Outcome outcome) outcome.message place
    ∙ ap (λ (test : Bool). if test && waits_in place outcome.rulings then outcome.at ∷ laters_of changes outcome.message place else laters_of changes outcome.message place) (eq-eqb outcome.message outcome.message refl)

-- each queued message's places are timed
pub record Clocked (changes : List Change) (entries : List (ℕ × Message)) : Type 0 where
  pub timed : (number : ℕ) (message : Message) → message_of entries number ≡ Some message → AreTimed message.accept.at (laters_of changes number) message.places

timed_as : (since : ℕ) (laters other : ℕ → List ℕ) (places : List Place) → ((n : ℕ) → laters n ≡ other n) → AreTimed since laters places → AreTimed since other places
timed_as since laters other places same timed n place got held = subst (λ (l : List ℕ). IsTimed since l place) (same n) (timed n place got held)

-- a new message
timed_first : (changes : List Change) (number own : ℕ) (accept : AcceptFields) (message : Message) → ((place : ℕ) → laters_of changes number place ≡ []) → accepted own accept ≡ message
    → AreTimed message.accept.at (laters_of changes number) message.places
timed_first changes number own accept message none same =
    subst (λ (m : Message). AreTimed m.accept.at (laters_of changes number) m.places) same
    (λ n place got held. subst (λ (l : List ℕ). IsTimed accept.at l place) (sym (none n)) (timed_new accept.at accept.envelope.recipients n place got))

clocked_accept : (changes : List Change) (accept : AcceptFields) (queue : Queue) → Knows changes queue → Clocked changes queue.messages → Clocked (joined changes (Accept accept)) (step queue (Accept accept)).messages
clocked_accept changes accept queue knows clocked = record { timed = λ number message is. by number message is (cases_eq queue.next number) }
  where
    by : (number : ℕ) (message : Message) → message_of (queue.messages ++ (queue.next, accepted queue.next accept) ∷ []) number ≡ Some message → (queue.next ≡ number) ⊎ (queue.next ≡ number → ⊥)
        → AreTimed message.accept.at (laters_of (joined changes (Accept accept)) number) message.places
    by number message is (inl same) =
        let none = none_after 0 queue.next queue.messages queue.next knows.rise (omega arith) in
        let here = some_is (accepted queue.next accept) message (sym (joined_here queue.messages queue.next (accepted queue.next accept) none) ∙ subst (λ n. message_of (queue.messages ++ (queue.next, accepted queue.next accept) ∷ []) n ≡ Some message) (sym same) is) in
        let next = knows.next in
        timed_first (joined changes (Accept accept)) number queue.next accept message
        (λ place. more_laters changes (Accept accept) number place ∙ never changes number place knows.back (omega (arith, next, same))) here
    by number message is (inr off) =
        timed_as message.accept.at (laters_of changes number) (laters_of (joined changes (Accept accept)) number) message.places
        (λ place. sym (more_laters changes (Accept accept) number place))
        (clocked.timed number message (sym (joined_other queue.messages queue.next number (accepted queue.next accept) off) ∙ is))

-- the message of an outcome is ruled on
pub ruled_is : (outcome : OutcomeFields) (least next : ℕ) (entries : List (ℕ × Message)) (old new : Message) → Rise least next entries
    → message_of entries outcome.message ≡ Some old → message_of (ruled outcome entries) outcome.message ≡ Some new → message_after outcome old ≡ new
ruled_is outcome least next [] old new rise was is = absurd (none_some old was)
ruled_is outcome least next (entry ∷ entries) old new rise was is =
    by (ruled_is outcome (suc entry.0) next entries old new rise.1) (cases_eq entry.0 outcome.message)
  where
    by : (message_of entries outcome.message ≡ Some old → message_of (ruled outcome entries) outcome.message ≡ Some new → message_after outcome old ≡ new)
        → (entry.0 ≡ outcome.message) ⊎ (entry.0 ≡ outcome.message → ⊥) → message_after outcome old ≡ new
    by more (inl same) =
        let on = eq-eqb entry.0 outcome.message same in
        let it = some_is entry.1 old (sym (cond-true (entry.0 == outcome.message) (Some entry.1) (message_of entries outcome.message) on) ∙ was) in
        sym (ap (message_after outcome) it)
        ∙ kept_or_not (λ l. message_of l outcome.message ≡ Some new → message_after outcome entry.1 ≡ new) entry.0 (message_after outcome entry.1) entries
        (λ _ is. some_is (message_after outcome entry.1) new (sym (cond-true (entry.0 == outcome.message) (Some (message_after outcome entry.1)) (message_of entries outcome.message) on) ∙ is))
        (λ _ is. absurd (none_some new (sym (none_before (suc entry.0) next entries outcome.message rise.1 (omega (arith, same))) ∙ is)))
        (sym (ap (λ (l : List (ℕ × Message)). message_of l outcome.message) (ruled_at outcome entry entries same)) ∙ is)
    by more (inr out) =
        let off = ne_eqb entry.0 outcome.message out in
        more (sym (cond-false (entry.0 == outcome.message) (Some entry.1) (message_of entries outcome.message) off) ∙ was)
        (sym (cond-false (entry.0 == outcome.message) (Some entry.1) (message_of (ruled outcome entries) outcome.message) off)
        ∙ sym (ap (λ (l : List (ℕ × Message)). message_of l outcome.message) (ruled_past outcome entry entries out)) ∙ is)

clocked_outcome : (changes : List Change) (outcome : OutcomeFields) (queue : Queue) (message : Message) → Knows changes queue → message_of queue.messages outcome.message ≡ Some message
    → FitsMessage message outcome → Clocked changes queue.messages
    → Clocked (joined changes (Outcome outcome)) (ruled outcome queue.messages ++ reported queue.next outcome outcome.report (Some message))
clocked_outcome changes outcome queue message knows found fits clocked = record { timed = all }
  where
    IsKnown : ℕ → Message → Type 0
    IsKnown number one = AreTimed one.accept.at (laters_of (joined changes (Outcome outcome)) number) one.places

    old : (number : ℕ) (one : Message) → message_of (ruled outcome queue.messages) number ≡ Some one → (outcome.message ≡ number) ⊎ (outcome.message ≡ number → ⊥) → IsKnown number one
    old number one is (inl same) =
        let it = ruled_is outcome 0 queue.next queue.messages message one knows.rise found (subst (λ n. message_of (ruled outcome queue.messages) n ≡ Some one) (sym same) is) in
        subst (λ n. IsKnown n one) same (subst (IsKnown outcome.message) it
        (timed_as message.accept.at (λ n. if waits_in n outcome.rulings then outcome.at ∷ laters_of changes outcome.message n else laters_of changes outcome.message n)
        (laters_of (joined changes (Outcome outcome)) outcome.message) (message_after outcome message).places (λ place. sym (its_laters changes outcome place))
        (timed_ruled outcome.version message.accept outcome.at (laters_of changes outcome.message) message.places 0 outcome.rulings fits.rulings (clocked.timed outcome.message message found))))
    old number one is (inr off) =
        timed_as one.accept.at (laters_of changes number) (laters_of (joined changes (Outcome outcome)) number) one.places
        (λ place. sym (other_laters changes outcome number place off))
        (clocked.timed number one (sym (ruled_other outcome queue.messages number off) ∙ is))

    new : (number : ℕ) (one : Message) → message_of (ruled outcome queue.messages ++ (queue.next, accepted queue.next (report_of message.accept outcome)) ∷ []) number ≡ Some one
        → (queue.next ≡ number) ⊎ (queue.next ≡ number → ⊥) → IsKnown number one
    new number one is (inl same) =
        let none = none_after 0 queue.next (ruled outcome queue.messages) queue.next (rise_ruled outcome 0 queue.next queue.messages knows.rise) (omega arith) in
        let here = some_is (accepted queue.next (report_of message.accept outcome)) one
        (sym (joined_here (ruled outcome queue.messages) queue.next (accepted queue.next (report_of message.accept outcome)) none)
        ∙ subst (λ n. message_of (ruled outcome queue.messages ++ (queue.next, accepted queue.next (report_of message.accept outcome)) ∷ []) n ≡ Some one) (sym same) is) in
        let next = knows.next in
        let below = message_below 0 queue.next queue.messages outcome.message message knows.rise found in
        timed_first (joined changes (Outcome outcome)) number queue.next (report_of message.accept outcome) one
        (λ place. other_laters changes outcome number place (λ e. omega (arith, e, same, below)) ∙ never changes number place knows.back (omega (arith, next, same))) here
    new number one is (inr off) =
        old number one (sym (joined_other (ruled outcome queue.messages) queue.next number (accepted queue.next (report_of message.accept outcome)) off) ∙ is) (cases_eq outcome.message number)

    all : (number : ℕ) (one : Message) → message_of (ruled outcome queue.messages ++ reported queue.next outcome outcome.report (Some message)) number ≡ Some one → IsKnown number one
    all number one = report_or_not (λ tail. message_of (ruled outcome queue.messages ++ tail) number ≡ Some one → IsKnown number one) queue.next outcome outcome.report message
        (λ _ is. old number one (sym (ap (λ (l : List (ℕ × Message)). message_of l number) (append-nil (ruled outcome queue.messages))) ∙ is) (cases_eq outcome.message number))
        (λ _ _ _ is. new number one is (cases_eq queue.next number))

clocked_more : (changes : List Change) (change : Change) (queue : Queue) → Knows changes queue → FitsQueue queue change → Clocked changes queue.messages → Clocked (joined changes change) (step queue change).messages
clocked_more changes (Accept accept) queue knows fits clocked = clocked_accept changes accept queue knows clocked
clocked_more changes (Outcome outcome) queue knows fits clocked = by (message_of queue.messages outcome.message) refl fits.1
  where
    by : (o : Option Message) → message_of queue.messages outcome.message ≡ o → MatchOption o ⊥ (λ message. FitsMessage message outcome)
        → Clocked (joined changes (Outcome outcome)) (step queue (Outcome outcome)).messages
    by None is none = absurd none
    by (Some message) is fits =
        subst (Clocked (joined changes (Outcome outcome)))
        (sym (ap (λ (o : Option Message). ruled outcome queue.messages ++ reported queue.next outcome outcome.report o) is))
        (clocked_outcome changes outcome queue message knows is fits clocked)

all_clocked : (done : List Change) (queue : Queue) (rest : List Change) → Stands done queue → Clocked done queue.messages → FitsFrom queue rest → Clocked (done ++ rest) (fold step queue rest).messages
all_clocked done queue [] stands clocked fits = subst (λ (l : List Change). Clocked l queue.messages) (sym (append-nil done)) clocked
all_clocked done queue (change ∷ rest) stands clocked fits =
    let more = grows done change queue stands.knows stands.tells fits.0 in
    subst (λ (l : List Change). Clocked l (fold step (step queue change) rest).messages) (append_assoc done (change ∷ []) rest)
    (all_clocked (joined done change) (step queue change) rest (record { knows = more.knows; tells = more.tells }) (clocked_more done change queue stands.knows fits.0 clocked) fits.1)

pub fold_due : FoldDue
fold_due changes fitting number place message held found got is =
    let none : Clocked [] [] = record { timed = λ number message is. absurd (none_some message is) } in
    ((all_clocked [] empty_queue changes (record { knows = none_known; tells = none_told }) none fitting).timed number message found place held got is).due
