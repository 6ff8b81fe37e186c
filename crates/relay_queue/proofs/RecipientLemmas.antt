-- The lines of recipients, one after another, each by its place.
use Rattle.std.proofs.Common.{◌≡◌, ℕ, suc, ◌+◌, ◌<◌, ◌≤◌, List, [], ◌∷◌, ◌++◌, length, map, take, drop, get_or, slice_get, refl, sym, ap, ◌∙◌, append_assoc, append-nil, arith}
use Rattle.std.proofs.lemmas.List.{take_all, take_more}
use Rattle.relay_envelope.specs.declared.envelope.Recipient.{Recipient}
use Rattle.relay_routes.specs.Routes.{RouteTable}
use Rattle.relay_book.specs.declared.message.Message.{Message}
use Rattle.relay_book.specs.declared.message.Place.{Place}
use Rattle.relay_queue.specs.Message.{AddsRecipients, recipient_lines, recipients_text}

abbrev Row : Type 0
Row = Recipient × List ℕ

one_place_on : (places : List Place) (i : ℕ) → slice_get (drop 1 places) i ≡ slice_get places (suc i)
one_place_on [] i = refl
one_place_on (place ∷ places) i = refl

text_more : (table : RouteTable) (places : List Place) (rows : List Row) (row : Row)
    → recipients_text table places (rows ++ row ∷ []) ≡ recipients_text table places rows ++ recipient_lines table (slice_get places (length rows)) row
text_more table places [] row = append-nil (recipient_lines table (slice_get places 0) row)
text_more table places (first ∷ rows) row =
    let lines : List ℕ = recipient_lines table (slice_get places 0) first in
    ap (λ l. lines ++ l) (text_more table (drop 1 places) rows row
    ∙ ap (λ place. recipients_text table (drop 1 places) rows ++ recipient_lines table place row) (one_place_on places (length rows)))
    ∙ sym (append_assoc lines (recipients_text table (drop 1 places) rows) (recipient_lines table (slice_get places (length (first ∷ rows))) row))

-- the lines of the first recipients follow what stood before them
pub record AreLines (table : RouteTable) (message : Message) (i : ℕ) (before now : List ℕ) : Type 0 where
  pub rows : List Row
  pub rows_are : map (λ row. row.0) rows ≡ take i message.accept.envelope.recipients
  pub count : length rows ≡ i
  pub text_is : now ≡ before ++ recipients_text table message.places rows

pub no_lines : (table : RouteTable) (message : Message) (before : List ℕ) → AreLines table message 0 before before
no_lines table message before = record { rows = []; rows_are = refl; count = refl; text_is = sym (append-nil before) }

firsts_more : (rows : List Row) (row : Row) → map (λ row. row.0) (rows ++ row ∷ []) ≡ map (λ row. row.0) rows ++ row.0 ∷ []
firsts_more [] row = refl
firsts_more (first ∷ rows) row = ap (λ l. first.0 ∷ l) (firsts_more rows row)

plus_one : (n : ℕ) → suc n ≡ n + 1
plus_one n = omega arith

one_longer : (rows : List Row) (row : Row) → length (rows ++ row ∷ []) ≡ suc (length rows)
one_longer [] row = refl
one_longer (first ∷ rows) row = ap suc (one_longer rows row)

pub one_line_more : (table : RouteTable) (message : Message) (i : ℕ) (d : Recipient) (before now new time : List ℕ) → i < length message.accept.envelope.recipients
    → AreLines table message i before now
    → new ≡ now ++ recipient_lines table (slice_get message.places i) (get_or message.accept.envelope.recipients i d, time)
    → AreLines table message (i + 1) before new
one_line_more table message i d before now new time more so_far is =
    let recipients : List Recipient = message.accept.envelope.recipients in
    let row : Row = (get_or recipients i d, time) in
    let old : List ℕ = recipients_text table message.places so_far.rows in
    record {
      rows = so_far.rows ++ row ∷ [];
      rows_are =
          firsts_more so_far.rows row ∙ ap (λ l. l ++ get_or recipients i d ∷ []) so_far.rows_are
          ∙ sym (take_more recipients i d more);
      count = one_longer so_far.rows row ∙ ap suc so_far.count ∙ plus_one i;
      text_is =
          is ∙ ap (λ l. l ++ recipient_lines table (slice_get message.places i) row) so_far.text_is
          ∙ append_assoc before old (recipient_lines table (slice_get message.places i) row)
          ∙ ap (λ l. before ++ l)
          (ap (λ n. old ++ recipient_lines table (slice_get message.places n) row) (sym so_far.count)
          ∙ sym (text_more table message.places so_far.rows row));
    }

pub all_lines : (table : RouteTable) (message : Message) (i : ℕ) (before now : List ℕ) → length message.accept.envelope.recipients ≤ i
    → AreLines table message i before now → AddsRecipients table message before now
all_lines table message i before now all so_far =
    (so_far.rows, so_far.rows_are ∙ take_all i message.accept.envelope.recipients all, so_far.text_is)
