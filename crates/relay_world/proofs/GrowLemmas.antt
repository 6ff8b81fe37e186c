-- A node's list of changes grows with its records, so that what it told of a message or an outcome stays told.
use Rattle.std.proofs.Common.{◌≡◌, ℕ, zero, suc, List, [], ◌∷◌, ◌++◌, map, Option, None, Some, refl, sym, ap, ◌∙◌}
use Rattle.std.specs.Prelude.{slice_get}
use Rattle.std.specs.Option.{option_and_then}
use Rattle.std.specs.List.{AllByRecursion}
use Rattle.std.proofs.lemmas.List.{map-append}
use Rattle.std.proofs.lemmas.Option.{none-some}
use Rattle.relay_octets.specs.Beginning.{Begins}
use Rattle.relay_book.specs.declared.change.Accept.{Accept}
use Rattle.relay_book.specs.declared.change.Change.{Change}
use Rattle.relay_book.specs.declared.change.Change.TheVariants as change
use Rattle.relay_book.specs.declared.change.Outcome.{Outcome}
use Rattle.relay_book.specs.Marks.{change_at, made_by, message_at, own_accept, report_for}
use Rattle.relay_book.specs.Queue.{FitsFrom, FitsQueue, Fitting, Queue, empty_queue, step}
use Rattle.relay_book.specs.Record.{IsChange, encode}
use Rattle.relay_book.proofs.Theorems.{encoding_is_one}
use Rattle.relay_world.specs.Bound.{IsListOf}
use Rattle.relay_world.proofs.AmongLemmas.{in_front}
use Rattle.relay_world.proofs.FrameLemmas.{ChangesStay, MessagesStay}

-- a change that fits may be stored
pub stored_fits : (queue : Queue) (one : Change) → FitsQueue queue one → IsChange one
stored_fits queue (change.Accept accept) fits = fits.1
stored_fits queue (change.Outcome outcome) fits = fits.2

all_stored : (queue : Queue) (changes : List Change) → FitsFrom queue changes → AllByRecursion IsChange changes
all_stored queue [] fits = tt
all_stored queue (one ∷ changes) fits = (stored_fits queue one fits.0, all_stored (step queue one) changes fits.1)

-- records fix the changes
grown_by : (old new : List Change) (more : List (List ℕ)) → AllByRecursion IsChange old → AllByRecursion IsChange new
    → map encode new ≡ map encode old ++ more → Begins old new
grown_by [] new more first second same = (new, refl)
grown_by (one ∷ old) [] more first second same = absurd (cc)
grown_by (one ∷ old) (other ∷ new) more first second same =
    let head : encode other ≡ encode one = cc in
    let rest : map encode new ≡ map encode old ++ more = cc in
    let begins = grown_by old new more first.1 second.1 rest in
    (begins.0, ap (λ c. c ∷ new) (encoding_is_one other one second.0 first.0 head) ∙ ap (λ l. one ∷ l) begins.1)

-- where a node's records grow, so does its list
pub list_grown : (records grown more : List (List ℕ)) (old new : List Change) → IsListOf records old → IsListOf grown new
    → grown ≡ records ++ more → Begins old new
list_grown records grown more old new is now same =
    grown_by old new more (all_stored empty_queue old is.fitting) (all_stored empty_queue new now.fitting)
    (sym now.records_are ∙ same ∙ ap (λ l. l ++ more) is.records_are)

same_by : (old new : List Change) → AllByRecursion IsChange old → AllByRecursion IsChange new
    → map encode new ≡ map encode old → new ≡ old
same_by [] [] first second same = refl
same_by [] (other ∷ new) first second same = absurd (cc)
same_by (one ∷ old) [] first second same = absurd (cc)
same_by (one ∷ old) (other ∷ new) first second same =
    let head : encode other ≡ encode one = cc in
    let rest : map encode new ≡ map encode old = cc in
    ap (λ c. c ∷ new) (encoding_is_one other one second.0 first.0 head)
    ∙ ap (λ l. one ∷ l) (same_by old new first.1 second.1 rest)

-- records have one list
pub one_list : (records grown : List (List ℕ)) (old new : List Change) → IsListOf records old → IsListOf grown new
    → grown ≡ records → new ≡ old
one_list records grown old new is now same =
    same_by old new (all_stored empty_queue old is.fitting) (all_stored empty_queue new now.fitting)
    (sym now.records_are ∙ same ∙ is.records_are)

-- with the record of a change after them, that with the change
pub one_more : (records : List (List ℕ)) (octets : List ℕ) (old new : List Change) (one : Change) → IsListOf records old
    → Fitting (old ++ one ∷ []) → octets ≡ encode one → IsListOf (records ++ octets ∷ []) new → new ≡ old ++ one ∷ []
one_more records octets old new one is fitting same now =
    one_list (records ++ octets ∷ []) (records ++ octets ∷ []) (old ++ one ∷ []) new (record {
      fitting = fitting;
      records_are = ap (λ l. l ++ octets ∷ []) is.records_are ∙ ap (λ o. map encode old ++ o ∷ []) same
          ∙ sym (map-append encode old (one ∷ []));
    }) now refl

last_by : (new : List Change) (octets : List ℕ) → map encode new ≡ octets ∷ [] → (one : Change) × (new ≡ one ∷ [])
last_by [] octets same = absurd (cc)
last_by (one ∷ []) octets same = (one, refl)
last_by (one ∷ other ∷ new) octets same = absurd (cc)

some_by : (old new : List Change) (octets : List ℕ) → AllByRecursion IsChange old → AllByRecursion IsChange new
    → map encode new ≡ map encode old ++ octets ∷ [] → (one : Change) × (new ≡ old ++ one ∷ [])
some_by [] new octets first second same = last_by new octets same
some_by (one ∷ old) [] octets first second same = absurd (cc)
some_by (one ∷ old) (other ∷ new) octets first second same =
    let head : encode other ≡ encode one = cc in
    let rest : map encode new ≡ map encode old ++ octets ∷ [] = cc in
    let last = some_by old new octets first.1 second.1 rest in
    (last.0, ap (λ c. c ∷ new) (encoding_is_one other one second.0 first.0 head) ∙ ap (λ l. one ∷ l) last.1)

-- and with any record, that with some change
pub some_more : (records : List (List ℕ)) (octets : List ℕ) (old new : List Change) → IsListOf records old
    → IsListOf (records ++ octets ∷ []) new → (one : Change) × (new ≡ old ++ one ∷ [])
some_more records octets old new is now =
    some_by old new octets (all_stored empty_queue old is.fitting) (all_stored empty_queue new now.fitting)
    (sym now.records_are ∙ ap (λ l. l ++ octets ∷ []) is.records_are)

pub changes_kept : (old new : List Change) → Begins old new → ChangesStay old new
changes_kept old new begins zero c is = absurd (none-some c is)
changes_kept old new begins (suc k) c is = ap (λ l. slice_get l k) begins.1 ∙ in_front old begins.0 k c is

-- the report of an outcome, where its message is told
report_kept : (outcome : Outcome) (report : List ℕ) (old new : Option Accept) (accept : Accept)
    → ((a : Accept) → old ≡ Some a → new ≡ Some a) → report_for outcome report old ≡ Some accept
    → report_for outcome report new ≡ Some accept
report_kept outcome [] old new accept stays is = absurd (none-some accept is)
report_kept outcome (octet ∷ report) None new accept stays is = absurd (none-some accept is)
report_kept outcome (octet ∷ report) (Some message) new accept stays is =
    ap (λ m. report_for outcome (octet ∷ report) m) (stays message refl) ∙ is

own_kept : (old new : Option Change) (accept : Accept) → ((c : Change) → old ≡ Some c → new ≡ Some c)
    → option_and_then own_accept old ≡ Some accept → option_and_then own_accept new ≡ Some accept
own_kept None new accept stays is = absurd (none-some accept is)
own_kept (Some one) new accept stays is = ap (λ c. option_and_then own_accept c) (stays one refl) ∙ is

made_kept : (old new : List Change) → ChangesStay old new → (one : Option Change) (accept : Accept)
    → made_by old one ≡ Some accept → made_by new one ≡ Some accept
made_kept old new stay None accept is = absurd (none-some accept is)
made_kept old new stay (Some (change.Accept own)) accept is = is
made_kept old new stay (Some (change.Outcome outcome)) accept is =
    report_kept outcome outcome.report (option_and_then own_accept (change_at old outcome.message))
    (option_and_then own_accept (change_at new outcome.message)) accept
    (λ a own. own_kept (change_at old outcome.message) (change_at new outcome.message) a (λ c. stay outcome.message c) own) is

message_by : (old new : List Change) → ChangesStay old new → (number : ℕ) (accept : Accept) (one : Option Change)
    → change_at old number ≡ one → made_by old one ≡ Some accept → message_at new number ≡ Some accept
message_by old new stay number accept None at is = absurd (none-some accept is)
message_by old new stay number accept (Some one) at is =
    ap (λ c. made_by new c) (stay number one at) ∙ made_kept old new stay (Some one) accept is

pub messages_kept : (old new : List Change) → ChangesStay old new → MessagesStay old new
messages_kept old new stay number accept is = message_by old new stay number accept (change_at old number) refl is
