-- Where the places of a message go (RFC 5321, section 5.1): the hop of a place is that of its recipient's path as it is
-- stored.
use Rattle.std.specs.Prelude.{ℕ, suc, ◌==◌, Bool, true, false, not, ◌&&◌, List, [], ◌∷◌, ◌++◌, map, slice_get, bytes_eq}
use Rattle.std.specs.Prelude.{Option, None, Some, is_some, take, if◌then◌else◌}
use Rattle.std.specs.List.{filter, filter_map}
use Rattle.std.specs.Option.{option_and_then, option_map, option_map_or}
use Rattle.relay_envelope.specs.declared.envelope.Recipient.{Recipient}
use Rattle.relay_routes.specs.Routes.{RouteTable, hop_at}
use Rattle.relay_book.specs.declared.message.Place.{Place}
use Rattle.relay_book.specs.declared.message.Message.{Message}
use Rattle.relay_book.specs.Queue.{is_due_at, message_of}

-- the name of the next hop of a path, if it has one
unfoldable pub hop_name : RouteTable → List ℕ → Option (List ℕ)
hop_name table path = option_map (λ hop. hop.name) (hop_at table path)

-- the name of the hop of this place of a message
abbrev pub hop_of_place : RouteTable → List Recipient → ℕ → Option (List ℕ)
hop_of_place table recipients place =
    option_and_then (λ recipient. hop_name table recipient.path) (slice_get recipients place)

-- the place goes to the hop of this name
abbrev pub goes_to : RouteTable → List Recipient → List ℕ → ℕ → Bool
goes_to table recipients hop place =
    option_map_or (λ name. bytes_eq name hop) (hop_of_place table recipients place) false

-- it is held, and has no hop
abbrev pub is_stranded : RouteTable → List Recipient → ℕ → Place → Bool
is_stranded table recipients n place = place.held && not (is_some (hop_of_place table recipients n))

-- it is held, due at this time or before, and goes to this hop
abbrev pub is_due_for : RouteTable → List Recipient → List ℕ → ℕ → ℕ → Place → Bool
is_due_for table recipients hop now n place = is_due_at now place && goes_to table recipients hop n

-- the numbers of the places that pass a test on number and place, where the first has this number
abbrev pub places_where : (ℕ → Place → Bool) → ℕ → List Place → List ℕ
places_where test n [] = []
places_where test n (place ∷ places) = (if test n place then n ∷ [] else []) ++ places_where test (suc n) places

-- the held places of a message without a hop, in order
abbrev pub stranded_places : RouteTable → Message → List ℕ
stranded_places table message = places_where (is_stranded table message.accept.envelope.recipients) 0 message.places

-- the due places of a message that go to this hop, in order
abbrev pub due_places_in : RouteTable → List ℕ → ℕ → Message → List ℕ
due_places_in table hop now message =
    places_where (is_due_for table message.accept.envelope.recipients hop now) 0 message.places

-- the first of these places, as many as there may be at most; all of them where no most is said
abbrev pub at_most : Option ℕ → List ℕ → List ℕ
at_most None places = places
at_most (Some most) places = take most places

-- the hop of a place that is due
abbrev pub due_hop : RouteTable → ℕ → List Recipient → ℕ → Place → Option (List ℕ)
due_hop table now recipients n place = if is_due_at now place then hop_of_place table recipients n else None

-- the hops of the due places of a message, place by place
abbrev pub due_hops : RouteTable → ℕ → List Recipient → List Place → List (List ℕ)
due_hops table now recipients places =
    filter_map (hop_of_place table recipients) (places_where (λ n place. is_due_at now place) 0 places)

-- each name once, in the order of their first places
abbrev pub each_once : List (List ℕ) → List (List ℕ)
each_once [] = []
each_once (name ∷ names) = name ∷ filter (λ other. not (bytes_eq name other)) (each_once names)

abbrev pub is_any : {A : Type 0} → List A → Bool
is_any [] = false
is_any (x ∷ xs) = true

-- the numbers of the messages with a held place that has no hop
abbrev pub stranded_of : RouteTable → List (ℕ × Message) → List ℕ
stranded_of table messages = map (λ entry. entry.0) (filter (λ entry. is_any (stranded_places table entry.1)) messages)

-- the number, where a held place of its message has no hop
abbrev pub if_stranded : RouteTable → ℕ → Message → List ℕ
if_stranded table number message = if is_any (stranded_places table message) then number ∷ [] else []

-- a held place of the message of a number has no hop
abbrev pub is_stranded_at : RouteTable → List (ℕ × Message) → ℕ → Bool
is_stranded_at table messages number =
    option_map_or (λ message. is_any (stranded_places table message)) (message_of messages number) false

-- all numbers but this one
abbrev pub without : ℕ → List ℕ → List ℕ
without number numbers = filter (λ other. not (other == number)) numbers
