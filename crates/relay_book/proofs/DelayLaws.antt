-- The law of which held places were reported as delayed.
use Rattle.std.proofs.Common.{◌≡◌, ◌⊎◌, inl, inr, ℕ, suc, ◌<◌, Bool, true, false, ◌&&◌, ◌||◌, if◌then◌else◌, List, [], ◌∷◌, ◌++◌, length, fold, slice_get, Option, None, Some, MatchOption, refl, sym, subst, ap, ◌∙◌, arith, append_assoc, append-nil}
use Rattle.std.specs.List.{list_any}
use Rattle.std.proofs.lemmas.List.Folds.{list_any-append}
use Rattle.std.proofs.lemmas.Bool.{cases_eq, eq-eqb, ne_eqb}
use Rattle.relay_book.specs.declared.change.Accept.{Accept as AcceptFields}
use Rattle.relay_book.specs.declared.change.Outcome.{Outcome as OutcomeFields}
use Rattle.relay_book.specs.declared.change.Change.{Change}
use Rattle.relay_book.specs.declared.change.Change.TheVariants.{Accept, Outcome}
use Rattle.relay_book.specs.declared.message.Place.{Place}
use Rattle.relay_book.specs.declared.message.Message.{Message}
use Rattle.relay_book.specs.DelayLaw.{FoldDelays, delays_with, is_delay}
use Rattle.relay_book.specs.DueMoment.{waits_in}
use Rattle.relay_book.specs.Queue.{Queue, FitsQueue, FitsFrom, FitsMessage, accepted, empty_queue, message_after, message_of, report_of, reported, ruled, step}
use Rattle.relay_book.proofs.PlaceLemmas.{none_some, some_is}
use Rattle.relay_book.proofs.EntryLemmas.{joined_here, joined_other, message_below, none_after, rise_ruled, ruled_other}
use Rattle.relay_book.proofs.ChangeLemmas.{joined, Back, change_within}
use Rattle.relay_book.proofs.CustodyLemmas.{Knows, grows, report_or_not}
use Rattle.relay_book.proofs.MarkLaws.{Stands, none_known, none_told}
use Rattle.relay_book.proofs.TimeLaws.{ruled_is}
use Rattle.relay_book.proofs.DelayLemmas.{AreMarked, marked_new, marked_ruled}

never_from : (accept : AcceptFields) (changes : List Change) (number place : ℕ)
    → ((k : ℕ) (outcome : OutcomeFields) → slice_get changes k ≡ Some (Outcome outcome) → outcome.message ≡ number → ⊥)
    → list_any (delays_with accept number place) changes ≡ false
never_from accept [] number place out = refl
never_from accept (Accept other ∷ changes) number place out = never_from accept changes number place (λ k outcome is. out (suc k) outcome is)
never_from accept (Outcome outcome ∷ changes) number place out =
    ap (λ (test : Bool). (test && (waits_in place outcome.rulings && is_delay outcome.version accept outcome.at place)) || list_any (delays_with accept number place) changes)
    (ne_eqb outcome.message number (out 0 outcome refl))
    ∙ never_from accept changes number place (λ k other is. out (suc k) other is)

-- a message that is still to come was put off by no change
never : (accept : AcceptFields) (changes : List Change) (number place : ℕ) → Back changes → length changes < number
    → list_any (delays_with accept number place) changes ≡ false
never accept changes number place back above =
    never_from accept changes number place
    (λ k outcome is same.
    let before = back (suc k) outcome is in
    let within = change_within changes (suc k) (Outcome outcome) is in
    omega (arith, before, within, same, above))

or_false : (b : Bool) → (b || false) ≡ b
or_false true = refl
or_false false = refl

more_marks : (accept : AcceptFields) (changes : List Change) (change : Change) (number place : ℕ)
    → list_any (delays_with accept number place) (joined changes change)
    ≡ (list_any (delays_with accept number place) changes || delays_with accept number place change)
more_marks accept changes change number place =
    list_any-append (delays_with accept number place) changes (change ∷ [])
    ∙ ap (λ (b : Bool). list_any (delays_with accept number place) changes || b) (or_false (delays_with accept number place change))

other_marks : (accept : AcceptFields) (changes : List Change) (outcome : OutcomeFields) (number place : ℕ) → (outcome.message ≡ number → ⊥)
    → list_any (delays_with accept number place) (joined changes (Outcome outcome)) ≡ list_any (delays_with accept number place) changes
other_marks accept changes outcome number place off =
    more_marks accept changes (Outcome outcome) number place
    ∙ ap (λ (test : Bool). list_any (delays_with accept number place) changes || (test && (waits_in place outcome.rulings && is_delay outcome.version accept outcome.at place)))
    (ne_eqb outcome.message number off)
    ∙ or_false (list_any (delays_with accept number place) changes)

where_waits : (before waits delay : Bool) → (before || (true && (waits && delay))) ≡ (if waits then before || delay else before)
where_waits before true delay = refl
where_waits true false delay = refl
where_waits false false delay = refl

its_marks : (accept : AcceptFields) (changes : List Change) (outcome : OutcomeFields) (place : ℕ)
    → list_any (delays_with accept outcome.message place) (joined changes (Outcome outcome))
    ≡ (if waits_in place outcome.rulings then list_any (delays_with accept outcome.message place) changes || is_delay outcome.version accept outcome.at place
    else list_any (delays_with accept outcome.message place) changes)
its_marks accept changes outcome place =
    more_marks accept changes (Outcome outcome) outcome.message place
    ∙ ap (λ (test : Bool). list_any (delays_with accept outcome.message place) changes
    || (test && (waits_in place outcome.rulings && is_delay outcome.version accept outcome.at place)))
    (eq-eqb outcome.message outcome.message refl)
    ∙ where_waits (list_any (delays_with accept outcome.message place) changes) (waits_in place outcome.rulings) (is_delay outcome.version accept outcome.at place)

abbrev marks_of : AcceptFields → List Change → ℕ → ℕ → Bool
marks_of accept changes number place = list_any (delays_with accept number place) changes

-- each queued message's places are marked
pub record Marked (changes : List Change) (entries : List (ℕ × Message)) : Type 0 where
  pub marked : (number : ℕ) (message : Message) → message_of entries number ≡ Some message → AreMarked (marks_of message.accept changes number) message.places

marked_as : (marks other : ℕ → Bool) (places : List Place) → ((n : ℕ) → marks n ≡ other n) → AreMarked marks places → AreMarked other places
marked_as marks other places same marked n place got held = marked n place got held ∙ same n

-- a new message
marked_first : (changes : List Change) (number own : ℕ) (accept : AcceptFields) (message : Message) → ((place : ℕ) → marks_of accept changes number place ≡ false)
    → accepted own accept ≡ message → AreMarked (marks_of message.accept changes number) message.places
marked_first changes number own accept message none same =
    subst (λ (m : Message). AreMarked (marks_of m.accept changes number) m.places) same
    (λ n place got held. marked_new accept.at accept.envelope.recipients n place got ∙ sym (none n))

marked_accept : (changes : List Change) (accept : AcceptFields) (queue : Queue) → Knows changes queue → Marked changes queue.messages
    → Marked (joined changes (Accept accept)) (step queue (Accept accept)).messages
marked_accept changes accept queue knows marked = record { marked = λ number message is. by number message is (cases_eq queue.next number) }
  where
    same_marks : (other : AcceptFields) (number place : ℕ) → marks_of other (joined changes (Accept accept)) number place ≡ marks_of other changes number place
    same_marks other number place = more_marks other changes (Accept accept) number place ∙ or_false (marks_of other changes number place)

    by : (number : ℕ) (message : Message) → message_of (queue.messages ++ (queue.next, accepted queue.next accept) ∷ []) number ≡ Some message → (queue.next ≡ number) ⊎ (queue.next ≡ number → ⊥)
        → AreMarked (marks_of message.accept (joined changes (Accept accept)) number) message.places
    by number message is (inl same) =
        let none = none_after 0 queue.next queue.messages queue.next knows.rise (omega arith) in
        let here = some_is (accepted queue.next accept) message (sym (joined_here queue.messages queue.next (accepted queue.next accept) none) ∙ subst (λ n. message_of (queue.messages ++ (queue.next, accepted queue.next accept) ∷ []) n ≡ Some message) (sym same) is) in
        let next = knows.next in
        marked_first (joined changes (Accept accept)) number queue.next accept message
        (λ place. same_marks accept number place ∙ never accept changes number place knows.back (omega (arith, next, same))) here
    by number message is (inr off) =
        marked_as (marks_of message.accept changes number) (marks_of message.accept (joined changes (Accept accept)) number) message.places
        (λ place. sym (same_marks message.accept number place))
        (marked.marked number message (sym (joined_other queue.messages queue.next number (accepted queue.next accept) off) ∙ is))

marked_outcome : (changes : List Change) (outcome : OutcomeFields) (queue : Queue) (message : Message) → Knows changes queue → message_of queue.messages outcome.message ≡ Some message
    → FitsMessage message outcome → Marked changes queue.messages
    → Marked (joined changes (Outcome outcome)) (ruled outcome queue.messages ++ reported queue.next outcome outcome.report (Some message))
marked_outcome changes outcome queue message knows found fits marked = record { marked = all }
  where
    IsKnown : ℕ → Message → Type 0
    IsKnown number one = AreMarked (marks_of one.accept (joined changes (Outcome outcome)) number) one.places

    old : (number : ℕ) (one : Message) → message_of (ruled outcome queue.messages) number ≡ Some one → (outcome.message ≡ number) ⊎ (outcome.message ≡ number → ⊥) → IsKnown number one
    old number one is (inl same) =
        let it = ruled_is outcome 0 queue.next queue.messages message one knows.rise found (subst (λ n. message_of (ruled outcome queue.messages) n ≡ Some one) (sym same) is) in
        subst (λ n. IsKnown n one) same (subst (IsKnown outcome.message) it
        (marked_as
        (λ n. if waits_in n outcome.rulings then marks_of message.accept changes outcome.message n || is_delay outcome.version message.accept outcome.at n
        else marks_of message.accept changes outcome.message n)
        (marks_of message.accept (joined changes (Outcome outcome)) outcome.message) (message_after outcome message).places
        (λ place. sym (its_marks message.accept changes outcome place))
        (marked_ruled outcome.version message.accept outcome.at (marks_of message.accept changes outcome.message) message.places 0 outcome.rulings fits.rulings (marked.marked outcome.message message found))))
    old number one is (inr off) =
        marked_as (marks_of one.accept changes number) (marks_of one.accept (joined changes (Outcome outcome)) number) one.places
        (λ place. sym (other_marks one.accept changes outcome number place off))
        (marked.marked number one (sym (ruled_other outcome queue.messages number off) ∙ is))

    new : (number : ℕ) (one : Message) → message_of (ruled outcome queue.messages ++ (queue.next, accepted queue.next (report_of message.accept outcome)) ∷ []) number ≡ Some one
        → (queue.next ≡ number) ⊎ (queue.next ≡ number → ⊥) → IsKnown number one
    new number one is (inl same) =
        let none = none_after 0 queue.next (ruled outcome queue.messages) queue.next (rise_ruled outcome 0 queue.next queue.messages knows.rise) (omega arith) in
        let here = some_is (accepted queue.next (report_of message.accept outcome)) one
        (sym (joined_here (ruled outcome queue.messages) queue.next (accepted queue.next (report_of message.accept outcome)) none)
        ∙ subst (λ n. message_of (ruled outcome queue.messages ++ (queue.next, accepted queue.next (report_of message.accept outcome)) ∷ []) n ≡ Some one) (sym same) is) in
        let next = knows.next in
        let below = message_below 0 queue.next queue.messages outcome.message message knows.rise found in
        marked_first (joined changes (Outcome outcome)) number queue.next (report_of message.accept outcome) one
        (λ place. other_marks (report_of message.accept outcome) changes outcome number place (λ e. omega (arith, e, same, below))
        ∙ never (report_of message.accept outcome) changes number place knows.back (omega (arith, next, same))) here
    new number one is (inr off) =
        old number one (sym (joined_other (ruled outcome queue.messages) queue.next number (accepted queue.next (report_of message.accept outcome)) off) ∙ is) (cases_eq outcome.message number)

    all : (number : ℕ) (one : Message) → message_of (ruled outcome queue.messages ++ reported queue.next outcome outcome.report (Some message)) number ≡ Some one → IsKnown number one
    all number one = report_or_not (λ tail. message_of (ruled outcome queue.messages ++ tail) number ≡ Some one → IsKnown number one) queue.next outcome outcome.report message
        (λ _ is. old number one (sym (ap (λ (l : List (ℕ × Message)). message_of l number) (append-nil (ruled outcome queue.messages))) ∙ is) (cases_eq outcome.message number))
        (λ _ _ _ is. new number one is (cases_eq queue.next number))

marked_more : (changes : List Change) (change : Change) (queue : Queue) → Knows changes queue → FitsQueue queue change → Marked changes queue.messages → Marked (joined changes change) (step queue change).messages
marked_more changes (Accept accept) queue knows fits marked = marked_accept changes accept queue knows marked
marked_more changes (Outcome outcome) queue knows fits marked = by (message_of queue.messages outcome.message) refl fits.1
  where
    by : (o : Option Message) → message_of queue.messages outcome.message ≡ o → MatchOption o ⊥ (λ message. FitsMessage message outcome)
        → Marked (joined changes (Outcome outcome)) (step queue (Outcome outcome)).messages
    by None is none = absurd none
    by (Some message) is fits =
        subst (Marked (joined changes (Outcome outcome)))
        (sym (ap (λ (o : Option Message). ruled outcome queue.messages ++ reported queue.next outcome outcome.report o) is))
        (marked_outcome changes outcome queue message knows is fits marked)

all_marked : (done : List Change) (queue : Queue) (rest : List Change) → Stands done queue → Marked done queue.messages → FitsFrom queue rest → Marked (done ++ rest) (fold step queue rest).messages
all_marked done queue [] stands marked fits = subst (λ (l : List Change). Marked l queue.messages) (sym (append-nil done)) marked
all_marked done queue (change ∷ rest) stands marked fits =
    let more = grows done change queue stands.knows stands.tells fits.0 in
    subst (λ (l : List Change). Marked l (fold step (step queue change) rest).messages) (append_assoc done (change ∷ []) rest)
    (all_marked (joined done change) (step queue change) rest (record { knows = more.knows; tells = more.tells }) (marked_more done change queue stands.knows fits.0 marked) fits.1)

pub fold_delays : FoldDelays
fold_delays changes fitting number place message held found got is =
    let none : Marked [] [] = record { marked = λ number message is. absurd (none_some message is) } in
    (all_marked [] empty_queue changes (record { knows = none_known; tells = none_told }) none fitting).marked number message found place held got is
