-- A message as people see it: its envelope, the state of each recipient, and its text.
use Rattle.std.specs.Prelude.{◌≡◌, ℕ, ◌-◌, List, [], ◌∷◌, ◌++◌, codes, decimal, drop, length, map, slice_get, unwrap_or}
use Rattle.std.specs.Prelude.{Option, None, Some, if◌then◌else◌}
use Rattle.std.specs.Net.Text.{socket_v4_text}
use Rattle.relay_envelope.specs.declared.envelope.Envelope.{Envelope}
use Rattle.relay_envelope.specs.declared.envelope.Recipient.{Recipient}
use Rattle.relay_envelope.specs.declared.parameters.Notify.{Notify}
use Rattle.relay_envelope.specs.declared.parameters.Notify.TheVariants.{Never, On}
use Rattle.relay_envelope.specs.declared.parameters.Outcomes.{Outcomes}
use Rattle.relay_envelope.specs.declared.parameters.Ret.{Ret}
use Rattle.relay_envelope.specs.declared.parameters.Ret.TheVariants.{Full, Hdrs}
use Rattle.relay_routes.specs.Routes.{RouteTable, hop_at}
use Rattle.relay_routes.specs.declared.hop.Hop.{Hop}
use Rattle.relay_book.specs.declared.message.Message.{Message}
use Rattle.relay_book.specs.declared.message.Place.{Place}
use Rattle.relay_listing.specs.Amounts.{size_text, span_text}
use Rattle.relay_queue.specs.Screen.{IsShownText, shown}
use Rattle.relay_queue.specs.Table.{left_cell, tries_in_words}

-- the line of a field: its name, and its value from column 16
abbrev pub field_line : List ℕ → List ℕ → List ℕ
field_line name value = left_cell 16 name ++ shown value ++ codes "\n"

-- a parameter as it was given, or what stands for none
abbrev pub given_text : Option (List ℕ) → List ℕ
given_text given = unwrap_or given (codes "-")

-- RET (RFC 3461, section 4.3)
abbrev pub ret_text : Option Ret → List ℕ
ret_text None = codes "-"
ret_text (Some Full) = codes "FULL"
ret_text (Some Hdrs) = codes "HDRS"

abbrev pub number_line : ℕ → List ℕ
number_line number = left_cell 16 (codes "message") ++ decimal number ++ codes "\n"

-- when the message was accepted, as this text shows that time, and how long ago
abbrev pub accepted_line : ℕ → List ℕ → ℕ → List ℕ
accepted_line now time at =
    left_cell 16 (codes "accepted") ++ shown time ++ codes ", " ++ span_text (now - at) ++ codes " ago" ++ codes "\n"

abbrev pub size_line : ℕ → List ℕ
size_line size = left_cell 16 (codes "size") ++ size_text size ++ codes "\n"

-- the reverse path and the parameters of MAIL
abbrev pub mail_lines : Envelope → List ℕ
mail_lines envelope =
    field_line (codes "reverse path") envelope.reverse_path ++ field_line (codes "RET") (ret_text envelope.ret)
    ++ field_line (codes "ENVID") (given_text envelope.envid)

-- the fields of the message itself, with a text for the time at which it was accepted
abbrev pub envelope_lines : ℕ → List ℕ → Message → List ℕ
envelope_lines now time message =
    number_line message.number ++ accepted_line now time message.accept.at
    ++ size_line (length message.accept.stored_text) ++ mail_lines message.accept.envelope

-- the names of the outcomes that are to be reported (RFC 3461, section 4.1)
abbrev pub outcome_names : Outcomes → List (List ℕ)
outcome_names outcomes =
    (if outcomes.success then codes "SUCCESS" ∷ [] else []) ++ (if outcomes.failure then codes "FAILURE" ∷ [] else [])
    ++ (if outcomes.delay then codes "DELAY" ∷ [] else [])

-- names with commas between them, or what stands for none
abbrev pub with_commas : List (List ℕ) → List ℕ
with_commas [] = codes "-"
with_commas (name ∷ []) = name
with_commas (name ∷ next ∷ names) = name ++ codes "," ++ with_commas (next ∷ names)

-- NOTIFY (RFC 3461, section 4.1)
abbrev pub notify_text : Option Notify → List ℕ
notify_text None = codes "-"
notify_text (Some Never) = codes "NEVER"
notify_text (Some (On outcomes)) = with_commas (outcome_names outcomes)

-- the path and the parameters of RCPT
abbrev pub rcpt_lines : Recipient → List ℕ
rcpt_lines recipient =
    field_line (codes "recipient") recipient.path ++ field_line (codes "  NOTIFY") (notify_text recipient.notify)
    ++ field_line (codes "  ORCPT") (given_text recipient.orcpt)

-- the name and the address of a next hop, if there is one
abbrev pub next_hop_text : Option Hop → List ℕ
next_hop_text None = codes "no next hop"
next_hop_text (Some hop) = shown hop.name ++ codes " at " ++ shown (socket_v4_text hop.at)

-- a recipient that is queued: its next hop, how often it was deferred, and when it is due, as this text shows that time
abbrev pub queued_text : List ℕ → Option Hop → Place → List ℕ
queued_text time hop place =
    codes "queued for " ++ next_hop_text hop ++ codes "; " ++ tries_in_words place.laters ++ codes ", next "
    ++ shown time

-- whether a recipient is queued, by its place
abbrev pub state_text : List ℕ → Option Hop → Option Place → List ℕ
state_text time hop None = codes "relayed, refused or expired"
state_text time hop (Some place) =
    if place.held then queued_text time hop place else codes "relayed, refused or expired"

abbrev pub state_line : List ℕ → Option Hop → Option Place → List ℕ
state_line time hop place = left_cell 16 (codes "  state") ++ state_text time hop place ++ codes "\n"

-- the lines of a recipient at a place, with a text for the time at which it is due
abbrev pub recipient_lines : RouteTable → Option Place → Recipient × List ℕ → List ℕ
recipient_lines table place row = rcpt_lines row.0 ++ state_line row.1 (hop_at table row.0.path) place

-- the lines of these recipients, each with such a text, in the order of their places
abbrev pub recipients_text : RouteTable → List Place → List (Recipient × List ℕ) → List ℕ
recipients_text table places [] = []
recipients_text table places (row ∷ rows) =
    recipient_lines table (slice_get places 0) row ++ recipients_text table (drop 1 places) rows

-- the lines of all recipients of a message were added
abbrev pub AddsRecipients : RouteTable → Message → List ℕ → List ℕ → Type 0
AddsRecipients table message old new =
    (rows : List (Recipient × List ℕ)) × (map (λ row. row.0) rows ≡ message.accept.envelope.recipients)
    × (new ≡ old ++ recipients_text table message.places rows)

-- profile: a message for people: its fields, those of each of its recipients, an empty line, and its text
pub record IsMessageText (now : ℕ) (table : RouteTable) (message : Message) (text : List ℕ) : Type 0 where
  pub time : List ℕ
  pub rows : List (Recipient × List ℕ)
  pub rows_are : map (λ row. row.0) rows ≡ message.accept.envelope.recipients
  pub body : List ℕ
  pub body_is : IsShownText message.accept.stored_text body
  pub text_is :
      text ≡ envelope_lines now time message ++ recipients_text table message.places rows ++ codes "\n" ++ body
