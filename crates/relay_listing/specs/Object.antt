-- A queued recipient as a JSON object (RFC 8259), and lines of such objects.
use Rattle.std.specs.Prelude.{ℕ, ◌-◌, List, [], ◌∷◌, ◌++◌, codes, Option, if◌then◌else◌}
use Rattle.std.specs.List.{list_all}
use Rattle.std.specs.Option.{option_map_or}
use Rattle.serde.specs.Event.{Log, Logs, field_key}
use Rattle.serde.specs.declared.name.Case.TheVariants.{AsIs}
use Rattle.serde_json.specs.Data.{Data, Members, unsigned, null, number, string, object, member, no_members}
use Rattle.serde_json.specs.Events.{SendsValue}
use Rattle.serde_json.specs.Written.{compact_text}
use Rattle.relay_lines.specs.Word.{is_printable}
use Rattle.relay_routes.specs.Routes.{RouteTable}
use Rattle.relay_book.specs.Queue.{Queue}
use Rattle.relay_listing.specs.Row.{Queued, queued_at}

-- the text of a path or a name; profile: empty if an octet isn't printable ASCII
abbrev pub text_of : List ℕ → List ℕ
text_of octets = if list_all is_printable octets then octets else []

-- a number; a path or a name; the name of a next hop, or null without one
abbrev pub number_value : ℕ → Data
number_value count = number (unsigned count)

abbrev pub text_value : List ℕ → Data
text_value octets = string (text_of octets)

abbrev pub hop_value : Option (List ℕ) → Data
hop_value hop = option_map_or text_value hop null

-- a name and its value are written
abbrev pub WritesMember : List ℕ → Data → Log → Log → Type 0
WritesMember name value old new = (named : Log) × Logs old named (field_key name AsIs) × SendsValue value named new

-- what an object says of a recipient, by name: times in seconds since 1970; the age in seconds, 0 where the clock is
-- before the acceptance; the size in octets
abbrev pub members_of : ℕ → Queued → List (List ℕ × Data)
members_of now queued =
    (codes "message", number_value queued.number)
    ∷ (codes "place", number_value queued.place)
    ∷ (codes "accepted", number_value queued.accepted)
    ∷ (codes "age", number_value (now - queued.accepted))
    ∷ (codes "size", number_value queued.size)
    ∷ (codes "reverse_path", text_value queued.reverse_path)
    ∷ (codes "recipient", text_value queued.path)
    ∷ (codes "hop", hop_value queued.hop)
    ∷ (codes "tries", number_value queued.tries)
    ∷ (codes "next_try", number_value queued.due)
    ∷ []

-- members in this order
abbrev pub in_order : List (List ℕ × Data) → Members
in_order [] = no_members
in_order (first ∷ rest) = member first.0 first.1 (in_order rest)

-- a recipient as an object
abbrev pub object_of : ℕ → Queued → Data
object_of now queued = object (in_order (members_of now queued))

-- the line of a recipient: its object without spaces
abbrev pub object_line : ℕ → Queued → List ℕ
object_line now queued = compact_text (object_of now queued) ++ 10 ∷ []

-- the line of the recipient at a place of the message of this number, if it is queued
abbrev pub object_at : ℕ → RouteTable → Queue → ℕ × ℕ → List ℕ
object_at now table queue mark = option_map_or (object_line now) (queued_at table queue mark) []
