-- A queue and its outline go through the same changes.
use Rattle.std.proofs.Common.{◌≡◌, ◌↔◌, ℕ, ◌<◌, ◌≤◌, ◌^◌, ◌==◌, Bool, true, false, List, [], ◌∷◌, ◌++◌, length, map, Option, None, Some, Result, Ok, Err, OnOk, refl, sym, ap, ◌∙◌, subst, arith, if◌then◌else◌}
use Rattle.std.specs.Prelude.{option_map, MatchOption}
use Rattle.std.specs.List.{flat_map, list_any}
use Rattle.std.proofs.lemmas.List.{map-append}
use Rattle.std.proofs.lemmas.Nat.{from_be_bytes-to_be_bytes_8}
use Rattle.relay_book.specs.declared.change.Accept.{Accept as AcceptFields}
use Rattle.relay_book.specs.declared.change.Outcome.{Outcome as OutcomeFields}
use Rattle.relay_book.specs.declared.change.Change.{Change}
use Rattle.relay_book.specs.declared.change.Change.TheVariants.{Accept, Outcome}
use Rattle.relay_book.specs.declared.message.Message.{Message}
use Rattle.relay_book.specs.Queue.{Queue, FitsMessage, FitsQueue, accepted, is_held, marks_of_entry, message_after, message_of, reported, ruled, step}
use Rattle.relay_book.specs.Record.{IsAccept, IsChange, IsOutcome, encode, is_null, octets_8, report_limit, stored_text_limit, text_limit}
use Rattle.relay_book.specs.StandsFor.{ReadsNoBody}
use Rattle.relay_book.specs.Outline.{OutlineFinds, OutlineFits, OutlineHolds, OutlineSteps, OutlineTells, ReadsOutline}
use Rattle.relay_book.specs.FirstOutline.{outline_of_length}
use Rattle.relay_book.specs.Outline.{length_in, outline_accept, outline_change, outline_entry, outline_message, outline_of, outline_outcome, outline_text}
use Rattle.relay_book.proofs.FirstLemmas.{no_fit}

-- what stands in for a text

eight : (n : ℕ) → length (octets_8 n) ≡ 8
unfolding octets_8
eight n = refl

length_nothing : (xs : List ℕ) → xs ≡ [] → length xs ≡ 0
length_nothing xs is = ap length is

not_nothing : (n : ℕ) → octets_8 n ≡ [] → ⊥
not_nothing n is =
    let long = eight n in
    let none = length_nothing (octets_8 n) is in
    omega (arith, long, none)

-- what stands in for a text is told by its length
pub outline_by_length : (text : List ℕ) → outline_of_length (length text) ≡ outline_text text
outline_by_length [] = refl
outline_by_length (octet ∷ text) = refl

outline_short : (text : List ℕ) → length (outline_text text) ≤ 8
outline_short [] = omega arith
outline_short (octet ∷ text) = let long = eight (length (octet ∷ text)) in omega (arith, long)

outline_nothing : (text : List ℕ) → (outline_text text ≡ []) ↔ (text ≡ [])
outline_nothing [] = (λ is. is, λ is. is)
outline_nothing (octet ∷ text) = (
  λ is. absurd (not_nothing (length (octet ∷ text)) is),
  λ is. let none = length_nothing (octet ∷ text) is in absurd (omega (arith, none)),
)

told_by : (n : ℕ) → n < 2 ^ 64 → length_in (octets_8 n) ≡ n
unfolding octets_8
told_by n few = from_be_bytes-to_be_bytes_8 n few

pub outline_tells : OutlineTells
outline_tells [] few = refl
outline_tells (octet ∷ text) few = told_by (length (octet ∷ text)) few

-- what may be stored

either_long : (b : Bool) → 8 ≤ (if b then report_limit else stored_text_limit)
either_long true = omega arith
either_long false = omega arith

outline_within : (path text : List ℕ) → length (outline_text text) ≤ text_limit path
outline_within path text =
    let short = outline_short text in
    let long = either_long (is_null path) in
    omega (arith, short, long)

outline_is_accept : (accept : AcceptFields) → IsAccept accept → IsAccept (outline_accept accept)
outline_is_accept accept is = record {
  moment = is.moment;
  envelope = is.envelope;
  text = outline_within accept.envelope.reverse_path accept.stored_text;
}

outline_is_outcome : (outcome : OutcomeFields) → IsOutcome outcome → IsOutcome (outline_outcome outcome)
outline_is_outcome outcome is = record {
  message = is.message;
  moment = is.moment;
  hop = is.hop;
  some = is.some;
  within = is.within;
  rulings = is.rulings;
  version = is.version;
  report = let short = outline_short outcome.report in omega (arith, short);
}

pub outline_is_change : (change : Change) → IsChange change → IsChange (outline_change change)
outline_is_change (Accept accept) is = outline_is_accept accept is
outline_is_change (Outcome outcome) is = outline_is_outcome outcome is

-- what is found

found_if : (b : Bool) (message : Message) (rest : Option Message) (found : Option Message) → found ≡ option_map outline_message rest
    → (if b then Some (outline_message message) else found) ≡ option_map outline_message (if b then Some message else rest)
found_if true message rest found is = refl
found_if false message rest found is = is

find : (entries : List (ℕ × Message)) (number : ℕ) → message_of (map outline_entry entries) number ≡ option_map outline_message (message_of entries number)
find [] number = refl
find (entry ∷ entries) number =
    found_if (entry.0 == number) entry.1 (message_of entries number) (message_of (map outline_entry entries) number) (find entries number)

pub outline_finds : OutlineFinds
outline_finds queue number = find queue.messages number

-- what is held

hold : (entries : List (ℕ × Message)) → flat_map (marks_of_entry is_held) (map outline_entry entries) ≡ flat_map (marks_of_entry is_held) entries
hold [] = refl
hold (entry ∷ entries) = ap (λ (marks : List (ℕ × ℕ)). marks_of_entry is_held entry ++ marks) (hold entries)

pub outline_holds : OutlineHolds
outline_holds queue = hold queue.messages

-- one change more

ruled_if : (here held : Bool) (entry after : ℕ × Message) (entries rest others : List (ℕ × Message)) → others ≡ map outline_entry rest
    → (if here then (if held then outline_entry after ∷ [] else []) ++ map outline_entry entries else outline_entry entry ∷ others)
    ≡ map outline_entry (if here then (if held then after ∷ [] else []) ++ entries else entry ∷ rest)
ruled_if true true entry after entries rest others is = refl
ruled_if true false entry after entries rest others is = refl
ruled_if false held entry after entries rest others is = ap (λ (all : List (ℕ × Message)). outline_entry entry ∷ all) is

rule : (outcome : OutcomeFields) (entries : List (ℕ × Message)) → ruled (outline_outcome outcome) (map outline_entry entries) ≡ map outline_entry (ruled outcome entries)
rule outcome [] = refl
rule outcome (entry ∷ entries) =
    let after = message_after outcome entry.1 in
    ruled_if (entry.0 == outcome.message) (list_any is_held after.places) entry (entry.0, after) entries (ruled outcome entries)
    (ruled (outline_outcome outcome) (map outline_entry entries)) (rule outcome entries)

report_one : (number : ℕ) (outcome : OutcomeFields) (octet : ℕ) (text : List ℕ) (message : Option Message) → outcome.report ≡ octet ∷ text
    → reported number (outline_outcome outcome) (octets_8 (length (octet ∷ text))) (option_map outline_message message)
    ≡ map outline_entry (reported number outcome (octet ∷ text) message)
unfolding octets_8
report_one number outcome octet text None is = refl
report_one number outcome octet text (Some message) is = refl

report : (number : ℕ) (outcome : OutcomeFields) (text : List ℕ) (message : Option Message) → outcome.report ≡ text
    → reported number (outline_outcome outcome) (outline_text text) (option_map outline_message message)
    ≡ map outline_entry (reported number outcome text message)
report number outcome [] message is = refl
report number outcome (octet ∷ text) message is = report_one number outcome octet text message is

abbrev with_messages : ℕ → List (ℕ × Message) → Queue
with_messages next messages = record { next = next; messages = messages }

of_messages : (next : ℕ) (one other : List (ℕ × Message)) → one ≡ other → with_messages next one ≡ with_messages next other
of_messages next one other is = ap (with_messages next) is

pub outline_steps : OutlineSteps
outline_steps queue (Accept accept) =
    of_messages _ _ _ (map-append outline_entry queue.messages ((queue.next, accepted queue.next accept) ∷ []))
outline_steps queue (Outcome outcome) =
    let message = message_of queue.messages outcome.message in
    let new = reported queue.next outcome outcome.report message in
    of_messages _ _ _
    (map-append outline_entry (ruled outcome queue.messages) new
    ∙ sym (ap (λ (old : List (ℕ × Message)). old ++ map outline_entry new) (rule outcome queue.messages))
    ∙ sym (ap (λ (more : List (ℕ × Message)). ruled (outline_outcome outcome) (map outline_entry queue.messages) ++ more)
    (ap (λ (found : Option Message). reported queue.next (outline_outcome outcome) (outline_text outcome.report) found) (find queue.messages outcome.message)
    ∙ report queue.next outcome outcome.report message refl)))

-- what fits

fits_message : (message : Message) (outcome : OutcomeFields) → FitsMessage (outline_message message) (outline_outcome outcome) ↔ FitsMessage message outcome
fits_message message outcome =
    let none = outline_nothing outcome.report in (
      λ fits. record {
        rulings = fits.rulings;
        hop = fits.hop;
        report = (λ is. fits.report.0 (none.1 is), λ is. none.0 (fits.report.1 is));
      },
      λ fits. record {
        rulings = fits.rulings;
        hop = fits.hop;
        report = (λ is. fits.report.0 (none.0 is), λ is. none.1 (fits.report.1 is));
      },
    )

fits_found : (found : Option Message) (outcome : OutcomeFields)
    → MatchOption (option_map outline_message found) ⊥ (λ message. FitsMessage message (outline_outcome outcome))
    ↔ MatchOption found ⊥ (λ message. FitsMessage message outcome)
fits_found None outcome = (λ none. none, λ none. none)
fits_found (Some message) outcome = fits_message message outcome

pub outline_fits : OutlineFits
outline_fits queue (Accept accept) is = (λ fits. (fits.0, is), λ fits. (fits.0, outline_is_accept accept is))
outline_fits queue (Outcome outcome) is =
    let same = find queue.messages outcome.message in
    let Fits : Option Message → Type 0 = λ found. MatchOption found ⊥ (λ message. FitsMessage message (outline_outcome outcome)) in
    let found = fits_found (message_of queue.messages outcome.message) outcome in (
      λ fits. (fits.0, found.0 (subst Fits same fits.1), is),
      λ fits. (fits.0, subst Fits (sym same) (found.1 fits.1), outline_is_outcome outcome is),
    )

-- a body was read, or records no change that fits

pub outline_read : {T E : Type 0} (result : Result T E) (queue outline left : Queue) (body : List ℕ) (change applied : Change) → outline ≡ outline_of queue → IsChange change
    → body ≡ encode change → applied ≡ outline_change change → OnOk result (FitsQueue outline applied) → OnOk result (left ≡ step outline applied)
    → OnOk result (ReadsOutline queue body left)
outline_read (Ok value) queue outline left body change applied is valid body_is applied_is fits left_is =
    let fits_outlined : FitsQueue (outline_of queue) (outline_change change) = subst (λ (q : Queue). FitsQueue q (outline_change change)) is (subst (FitsQueue outline) applied_is fits) in
    record {
      left = step queue change;
      reads = record {
        change = change;
        fits = (outline_fits queue change valid).0 fits_outlined;
        body_is = body_is;
        left_is = refl;
      };
      outline_is = left_is ∙ ap (step outline) applied_is ∙ ap (λ (q : Queue). step q (outline_change change)) is ∙ sym (outline_steps queue change);
    }
outline_read (Err fault) queue outline left body change applied is valid body_is applied_is fits left_is = tt

pub outline_unread : (queue outline : Queue) (body : List ℕ) (change applied : Change) → outline ≡ outline_of queue → IsChange change → body ≡ encode change
    → applied ≡ outline_change change → (FitsQueue outline applied → ⊥) → ReadsNoBody queue body
outline_unread queue outline body change applied is valid body_is applied_is misfit =
    no_fit queue body change valid body_is
    (λ fits. misfit (subst (FitsQueue outline) (sym applied_is)
    (subst (λ (q : Queue). FitsQueue q (outline_change change)) (sym is) ((outline_fits queue change valid).1 fits))))

pub outlined_is_change : (change applied : Change) → IsChange change → applied ≡ outline_change change → IsChange applied
outlined_is_change change applied valid is = subst IsChange (sym is) (outline_is_change change valid)
