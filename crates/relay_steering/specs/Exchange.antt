-- Requests to a running relay, and its answers, over streams of which is known what was written and what will be read.
use Rattle.std.specs.Prelude.{◌≡◌, ℕ, List, [], ◌∷◌, ◌++◌, take, Option, IfSome}
use Rattle.std.specs.Io.KnownBytes.{Appends}
use Rattle.relay_control.specs.Request.{request_text}
use Rattle.relay_control.specs.declared.request.Request.{Request}
use Rattle.relay_files.specs.declared.fault.Fault.TheVariants.{NoMemory}
use Rattle.relay_steering.specs.declared.exchange.TheConstants.{MOST_OCTETS}
use Rattle.relay_steering.specs.declared.steering_fault.SteeringFault.{SteeringFault}
use Rattle.relay_steering.specs.declared.steering_fault.SteeringFault.TheVariants as fault

-- The octets answer a request over a stream: the line of the request was written to the stream, and nothing else, and
-- they are what the stream gave after that, up to the most octets of an answer.
pub record Answers {S : Type 0} (contents remaining : S → Option (List ℕ)) (stream : S) (request : Request)
    (octets : List ℕ) : Type 0 where
  pub asked : S
  pub written : Appends (contents stream) (contents asked) (request_text request ++ 10 ∷ [])
  pub read : IfSome (remaining asked) (λ left. octets ≡ take MOST_OCTETS left)

-- they answer it over a connection that was new
pub record IsAnswered {S : Type 0} (is_new : S → Type 0) (contents remaining : S → Option (List ℕ))
    (request : Request) (octets : List ℕ) : Type 0 where
  pub stream : S
  pub new : is_new stream
  pub answers : Answers contents remaining stream request octets

-- no answer has come: no relay listens, the connection broke, or memory ran out
abbrev pub HasNone : SteeringFault → Type 0
HasNone fault.NoRelay = Unit {0}
HasNone fault.NoAnswer = Unit {0}
HasNone (fault.Files NoMemory) = Unit {0}
HasNone other = ⊥
