-- Rows of messages whose texts are blank.
use Rattle.std.proofs.Common.{◌≡◌, ℕ, zero, suc, ◌==◌, Bool, true, false, List, [], ◌∷◌, length, map, replicate}
use Rattle.std.proofs.Common.{slice_get, Option, None, Some, refl, sym, ap, ◌∙◌, if◌then◌else◌}
use Rattle.std.specs.Prelude.{option_map}
use Rattle.std.specs.Option.{option_and_then}
use Rattle.relay_envelope.specs.declared.envelope.Recipient.{Recipient}
use Rattle.relay_routes.specs.Routes.{RouteTable}
use Rattle.relay_book.specs.declared.change.Accept.{Accept}
use Rattle.relay_book.specs.declared.message.Message.{Message}
use Rattle.relay_book.specs.declared.message.Place.{Place}
use Rattle.relay_book.specs.Outline.{length_in}
use Rattle.relay_book.specs.Queue.{message_of}
use Rattle.relay_outlines.specs.Look.{blank, blank_as_told, blank_entry, with_blank}
use Rattle.relay_listing.specs.Blank.{BlankTextsShow}
use Rattle.relay_listing.specs.Row.{Queued, queued_for, queued_if_held, queued_in}

-- a recipient whose message has another size
abbrev pub with_size : ℕ → Queued → Queued
with_size size queued = record queued { size = size }

length-blank : (count : ℕ) → length {A = ℕ} (replicate count 0) ≡ count
length-blank zero = refl
length-blank (suc count) = ap (λ (n : ℕ). suc n) (length-blank count)

abbrev blank_accept : ℕ → Accept → Accept
blank_accept count accept = record accept { stored_text = replicate count 0 }

sized_held : (table : RouteTable) (number place : ℕ) (accept : Accept) (count : ℕ) (waiting : Place)
    (recipient : Option Recipient) (held : Bool)
    → (if held then option_map (queued_for table number place (blank_accept count accept) waiting) recipient else None)
    ≡ option_map (with_size count) (if held then option_map (queued_for table number place accept waiting) recipient
    else None)
sized_held table number place accept count waiting recipient false = refl
sized_held table number place accept count waiting None true = refl
sized_held table number place accept count waiting (Some recipient) true =
    ap (λ (size : ℕ). Some (with_size size (queued_for table number place accept waiting recipient)))
    (length-blank count)

sized_at : (table : RouteTable) (number place : ℕ) (accept : Accept) (count : ℕ) (recipient : Option Recipient)
    (waiting : Option Place)
    → option_and_then (queued_if_held table number place (blank_accept count accept) recipient) waiting
    ≡ option_map (with_size count) (option_and_then (queued_if_held table number place accept recipient) waiting)
sized_at table number place accept count recipient None = refl
sized_at table number place accept count recipient (Some waiting) =
    sized_held table number place accept count waiting recipient waiting.held

-- a message with a blank text shows the same, with the size of that
pub sized_in : (table : RouteTable) (number place : ℕ) (message : Message) (count : ℕ)
    → queued_in table number place (with_blank count message) ≡ option_map (with_size count)
    (queued_in table number place message)
sized_in table number place message count =
    sized_at table number place message.accept count (slice_get message.accept.envelope.recipients place)
    (slice_get message.places place)

-- as its outline says
pub sized_as_told : (table : RouteTable) (number place : ℕ) (message : Message) (found : Option Queued)
    → found ≡ queued_in table number place message
    → option_map (with_size (length_in message.accept.stored_text)) found ≡ queued_in table number place
    (blank_as_told message)
sized_as_told table number place message found is =
    ap (option_map (with_size (length_in message.accept.stored_text))) is ∙ sym
    (sized_in table number place message (length_in message.accept.stored_text))

-- a message with a blank text of its own length shows the same

same_held : (table : RouteTable) (number place : ℕ) (accept : Accept) (waiting : Place) (recipient : Option Recipient)
    (held : Bool)
    → option_map (with_size (length accept.stored_text))
    (if held then option_map (queued_for table number place accept waiting) recipient else None)
    ≡ (if held then option_map (queued_for table number place accept waiting) recipient else None)
same_held table number place accept waiting recipient false = refl
same_held table number place accept waiting None true = refl
same_held table number place accept waiting (Some recipient) true = refl

same_at : (table : RouteTable) (number place : ℕ) (accept : Accept) (recipient : Option Recipient)
    (waiting : Option Place)
    → option_map (with_size (length accept.stored_text))
    (option_and_then (queued_if_held table number place accept recipient) waiting)
    ≡ option_and_then (queued_if_held table number place accept recipient) waiting
same_at table number place accept recipient None = refl
same_at table number place accept recipient (Some waiting) =
    same_held table number place accept waiting recipient waiting.held

blank_in : (table : RouteTable) (number place : ℕ) (message : Message)
    → queued_in table number place (blank message) ≡ queued_in table number place message
blank_in table number place message =
    sized_in table number place message (length message.accept.stored_text)
    ∙ same_at table number place message.accept (slice_get message.accept.envelope.recipients place)
    (slice_get message.places place)

shown_if : (table : RouteTable) (number place : ℕ) (here : Bool) (message : Message) (rest found : Option Message)
    → option_and_then (queued_in table number place) found ≡ option_and_then (queued_in table number place) rest
    → option_and_then (queued_in table number place) (if here then Some (blank message) else found)
    ≡ option_and_then (queued_in table number place) (if here then Some message else rest)
shown_if table number place true message rest found is = blank_in table number place message
shown_if table number place false message rest found is = is

show_in : (table : RouteTable) (entries : List (ℕ × Message)) (number place : ℕ)
    → option_and_then (queued_in table number place) (message_of (map blank_entry entries) number)
    ≡ option_and_then (queued_in table number place) (message_of entries number)
show_in table [] number place = refl
show_in table (entry ∷ entries) number place =
    shown_if table number place (entry.0 == number) entry.1 (message_of entries number)
    (message_of (map blank_entry entries) number)
    (show_in table entries number place)

pub blank_texts_show : BlankTextsShow
blank_texts_show table queue mark = show_in table queue.messages mark.0 mark.1
