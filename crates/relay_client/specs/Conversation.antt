-- How a conversation keeps up with the course of its attempt, between calls and within one.
use Rattle.std.specs.Prelude.{◌≡◌, ℕ, Bool, true, false, List, [], ◌∷◌, ◌++◌, drop, map, unwrap_or, Option, Some, None}
use Rattle.std.specs.Prelude.{MatchOption}
use Rattle.relay_lines.specs.Reply.{Reply}
use Rattle.relay_book.specs.declared.change.Verdict.{Verdict}
use Rattle.relay_course.specs.declared.awaited.Awaited.{Awaited}
use Rattle.relay_course.specs.declared.awaited.Awaited.TheVariants.{Greeting}
use Rattle.relay_course.specs.Extensions.{no_extensions}
use Rattle.relay_course.specs.VerdictTable.{rcpt_verdict}
use Rattle.relay_course.specs.Progress.{Delivery, Progress, if_rcpt, rcpt_replies, with_rcpts}
use Rattle.relay_course.specs.Course.{IsSentAs, joined}
use Rattle.relay_client.specs.declared.mail_object.MailObject.{MailObject}
use Rattle.relay_client.specs.declared.conversation.Conversation.{Conversation}

-- the delivery is to relay this mail object
pub record IsDeliveryOf (delivery : Delivery) (mail : MailObject) : Type 0 where
  pub envelope_is : mail.envelope.now ≡ delivery.envelope
  pub text_is : mail.stored_text.now ≡ delivery.text
  pub sent : IsSentAs delivery.text delivery.dot_text

-- the conversation waits for the greeting, on behalf of this host and for these places
pub record IsAtGreeting (host places : List ℕ) (talk : Conversation) : Type 0 where
  pub host_is : talk.host ≡ host
  pub places_are : talk.places.items ≡ places
  pub waits_are : talk.waits ≡ Greeting ∷ []
  pub asked_is : talk.asked ≡ 0
  pub extensions_are : talk.extensions ≡ no_extensions
  pub settled_is : talk.settled ≡ []

-- the conversation is as far as the progress, which hasn't come to an end
pub record Holds (talk : Conversation) (delivery : Delivery) (progress : Progress) : Type 0 where
  pub host_is : talk.host ≡ delivery.host
  pub places_are : talk.places.items ≡ delivery.places
  pub waits_are : talk.waits ≡ progress.waits
  pub unasked_are : drop talk.asked talk.places.items ≡ progress.unasked
  pub extensions_are : talk.extensions ≡ progress.extensions
  pub settled_is : talk.settled ≡ map rcpt_verdict (rcpt_replies progress.answered)
  pub running : progress.verdicts ≡ None

-- from the old progress to the new one: the commands between them are what was added to the output, and the
-- conversation is as far as the new one, or has given its verdicts
pub record Does (delivery : Delivery) (old new : Progress) (talk : Conversation) (ended : Option (List Verdict))
    (out more : List ℕ) : Type 0 where
  pub commands : List (List ℕ)
  pub commands_are : new.commands ≡ old.commands ++ commands
  pub written : more ≡ out ++ joined commands
  pub stands : MatchOption ended (Holds talk delivery new) (λ verdicts. new.verdicts ≡ Some verdicts)

-- each place has what was settled at its RCPT, and where that is none, or hasn't come, the last verdict
abbrev pub verdicts_from : List ℕ → List (Option Verdict) → Verdict → List Verdict
verdicts_from [] settled last = []
verdicts_from (place ∷ places) [] last = last ∷ verdicts_from places [] last
verdicts_from (place ∷ places) (one ∷ settled) last = unwrap_or one last ∷ verdicts_from places settled last

-- a place is left
abbrev pub has_open : List (Option Verdict) → Bool
has_open [] = false
has_open (None ∷ settled) = true
has_open (Some verdict ∷ settled) = has_open settled

-- the RCPTs of some of the unasked places are written, and those of the rest lead to where all of them lead
pub record AsksOn (delivery : Delivery) (old : Progress) (talk : Conversation) (out more : List ℕ) : Type 0 where
  pub so_far : Progress
  pub does : Does delivery old so_far talk None out more
  pub rest : with_rcpts delivery so_far.unasked so_far ≡ with_rcpts delivery old.unasked old

-- what waited is answered, and of a RCPT's reply the verdict is kept
pub record SettlesOne (old new : Conversation) (waited : Awaited) (waits : List Awaited) (reply : Reply) : Type 0 where
  pub host_stays : new.host ≡ old.host
  pub places_stay : new.places.items ≡ old.places.items
  pub waits_are : new.waits ≡ waits
  pub asked_stays : new.asked ≡ old.asked
  pub extensions_stay : new.extensions ≡ old.extensions
  pub settles : (replies : List Reply) → old.settled ≡ map rcpt_verdict replies
      → new.settled ≡ map rcpt_verdict (replies ++ if_rcpt waited reply)
