-- The work of a node: what there is to do for its queue at a time.
use Rattle.std.specs.Prelude.{ℕ, Bool, false, not, ◌&&◌, bytes_eq, List, [], ◌∷◌, ◌++◌, map, Option, if◌then◌else◌}
use Rattle.std.specs.List.{filter, flat_map, list_any}
use Rattle.relay_routes.specs.Routes.{RouteTable}
use Rattle.relay_book.specs.declared.message.Message.{Message}
use Rattle.relay_book.specs.Queue.{Queue}
use Rattle.relay_attempts.specs.declared.runs.Run.{Run}
use Rattle.relay_attempts.specs.declared.work.Work.{Work}
use Rattle.relay_attempts.specs.declared.work.Work.TheVariants.{NoRoute, Try}
use Rattle.relay_attempts.specs.Hops.{due_hops, each_once, is_any, stranded_places}
use Rattle.relay_attempts.specs.Runs.{is_running}

-- a held place of the message has no hop
abbrev pub no_route : RouteTable → ℕ → Message → List Work
no_route table number message = if is_any (stranded_places table message) then NoRoute number ∷ [] else []

-- the hops to try, where these names are those of the due places: each once, and none that an attempt is running for
abbrev pub tries : List (Option Run) → ℕ → List (List ℕ) → List Work
tries runs number hops = map (Try number) (filter (λ hop. not (is_running runs number hop)) (each_once hops))

-- a try of this hop
abbrev pub is_try_of : List ℕ → Work → Bool
is_try_of hop (NoRoute number) = false
is_try_of hop (Try number name) = bytes_eq name hop

-- a try of this hop after those, unless an attempt is running for it or it is among them
abbrev pub one_try : List (Option Run) → ℕ → List Work → List ℕ → List Work
one_try runs number before hop =
    if not (is_running runs number hop) && not (list_any (is_try_of hop) before) then Try number hop ∷ [] else []

-- the work of a message
abbrev pub message_works : RouteTable → List (Option Run) → ℕ → ℕ → Message → List Work
message_works table runs now number message =
    no_route table number message
    ++ tries runs number (due_hops table now message.accept.envelope.recipients message.places)

-- the work of a queue, in order of the messages' numbers
abbrev pub works_of : RouteTable → List (Option Run) → ℕ → Queue → List Work
works_of table runs now queue = flat_map (λ entry. message_works table runs now entry.0 entry.1) queue.messages
