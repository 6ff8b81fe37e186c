-- Laws of requests and answers, whoever reads them.
use Rattle.std.specs.Prelude.{ℕ, ◌+◌, ◌*◌, ◌≤◌, List, [], ◌∷◌, ◌++◌, length, Option, None, Some, Result, Ok, Err}
use Rattle.relay_control.specs.Request.{Asks, AsksSame, IsRequest, Judges, request_text}
use Rattle.relay_control.specs.declared.refusal.Refusal.{Refusal}
use Rattle.relay_control.specs.declared.named.Named.{Named}
use Rattle.relay_control.specs.declared.request.Request.{Request}
use Rattle.relay_control.specs.declared.request.Request.TheVariants.{Return, Discard}

-- A line asks for one thing.
abbrev pub RequestIsOne : Type 0
RequestIsOne = (line : List ℕ) (one other : Request) → Asks line one → Asks line other → AsksSame one other

-- octets are read as this request
abbrev pub IsReadAs : Request → Option (Result Request Refusal) → Type 0
IsReadAs request (Some (Ok other)) = AsksSame other request
IsReadAs request (Some (Err refusal)) = ⊥
IsReadAs request None = ⊥

-- What a caller writes is read as what it asks for, whatever follows the line.
abbrev pub RequestIsRead : Type 0
RequestIsRead =
    (request : Request) (rest : List ℕ) (answer : Option (Result Request Refusal)) → IsRequest request
    → Judges (request_text request ++ 10 ∷ rest) answer
    → IsReadAs request answer

-- the most octets of requests: 21 for a message that is named, with what parts it, and 3 for each of its places
abbrev pub most_of_names : List Named → ℕ
most_of_names [] = 0
most_of_names (named ∷ names) = (21 + 3 * length named.places.items) + most_of_names names

abbrev pub most_octets : Request → ℕ
most_octets (Return names) = 8 + most_of_names names.items
most_octets (Discard names) = 8 + most_of_names names.items
most_octets _ = 271

-- A request has at most 271 octets, or the octets of its names and 8: only one with many names can exceed a line.
abbrev pub RequestIsShort : Type 0
RequestIsShort = (request : Request) → IsRequest request → length (request_text request) ≤ most_octets request
