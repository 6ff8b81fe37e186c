-- Requests to a running relay.
use Rattle.std.specs.Prelude.{◌≡◌, ℕ, List, Option, None, Some}
use Rattle.std.specs.Io.KnownBytes.{Appends}
use Rattle.relay_arguments.specs.declared.steering.Mail.{Mail}
use Rattle.relay_arguments.specs.declared.steering.Mail.TheVariants as mail
use Rattle.relay_arguments.specs.declared.steering.Steering.{Steering}
use Rattle.relay_arguments.specs.declared.steering.Steering.TheVariants.{Flush, Hold, Release, Drain, Reload}
use Rattle.relay_control.specs.Answer.{HasNoAnswer, ReadsAnswer}
use Rattle.relay_control.specs.declared.answer.End.{End}
use Rattle.relay_control.specs.declared.answer.End.TheVariants.{Done, Refused}
use Rattle.relay_control.specs.declared.answer.Reply.{Reply}
use Rattle.relay_control.specs.declared.request.Request.{Request}
use Rattle.relay_control.specs.declared.request.Request.TheVariants as asks
use Rattle.relay_control.specs.declared.scope.Scope.{Scope}
use Rattle.relay_control.specs.declared.scope.Scope.TheVariants as scope
use Rattle.relay_files.specs.declared.fault.Fault.TheVariants.{NoMemory}
use Rattle.relay_routes.specs.Value.{IsHostName}
use Rattle.relay_steering.specs.Exchange.{IsAnswered}
use Rattle.relay_steering.specs.Lines.{printed}
use Rattle.relay_steering.specs.declared.steering_fault.SteeringFault.{SteeringFault}
use Rattle.relay_steering.specs.declared.steering_fault.SteeringFault.TheVariants as fault

-- a request is about this mail
abbrev pub Names : Mail → Scope → Type 0
Names (mail.Hop name) (scope.Hop asked) = asked ≡ name.now
Names (mail.Hop name) (scope.Message number) = ⊥
Names (mail.Message number) (scope.Hop asked) = ⊥
Names (mail.Message number) (scope.Message asked) = asked ≡ number

-- no next hop can have the name, or memory ran out
abbrev pub HasNoScope : Mail → SteeringFault → Type 0
HasNoScope (mail.Hop name) fault.BadHop = ¬ IsHostName name.now
HasNoScope (mail.Hop name) (fault.Files NoMemory) = Unit {0}
HasNoScope named other = ⊥

-- the request is the one that the arguments ask for
abbrev pub AsksFor : Steering → Request → Type 0
AsksFor (Flush None) (asks.Flush None) = Unit {0}
AsksFor (Flush (Some named)) (asks.Flush (Some asked)) = Names named asked
AsksFor (Hold named) (asks.Hold asked) = Names named asked
AsksFor (Release named) (asks.Release asked) = Names named asked
AsksFor (Drain seconds) (asks.Drain asked) = asked ≡ seconds
AsksFor Reload asks.Reload = Unit {0}
AsksFor asked request = ⊥

-- they ask for none, because of the mail that they name
abbrev pub HasNoRequest : Steering → SteeringFault → Type 0
HasNoRequest (Flush (Some named)) why = HasNoScope named why
HasNoRequest (Hold named) why = HasNoScope named why
HasNoRequest (Release named) why = HasNoScope named why
HasNoRequest asked why = ⊥

-- the request was refused for this reason, or memory ran out for it
abbrev pub IsRefusal : End → SteeringFault → Type 0
IsRefusal (Refused reason) (fault.Refused octets) = octets.items ≡ reason.now
IsRefusal (Refused reason) (fault.Files NoMemory) = Unit {0}
IsRefusal last other = ⊥

-- the octets that a relay sent are an answer: the request was done
pub record IsDone (octets : List ℕ) : Type 0 where
  pub reply : Reply
  pub reads : ReadsAnswer octets reply
  pub done : reply.end ≡ Done

-- they are an answer: the request was done, and the lines were printed
pub record TellsDone (octets : List ℕ) (old new : Option (List ℕ)) : Type 0 where
  pub reply : Reply
  pub reads : ReadsAnswer octets reply
  pub done : reply.end ≡ Done
  pub printed : Appends old new (printed reply.lines.now)

-- they are an answer: it was refused
pub record IsRefused (octets : List ℕ) (why : SteeringFault) : Type 0 where
  pub reply : Reply
  pub reads : ReadsAnswer octets reply
  pub refused : IsRefusal reply.end why

-- they are no answer, or one that refuses the request; else memory ran out, or the output failed
abbrev pub IsNotDone : List ℕ → SteeringFault → Type 0
IsNotDone octets fault.NoAnswer = HasNoAnswer octets
IsNotDone octets (fault.Refused reason) = IsRefused octets (fault.Refused reason)
IsNotDone octets (fault.Files other) = Unit {0}
IsNotDone octets other = ⊥

-- The words below are of a relay to which connections are made.
module _ {S : Type 0} (is_new : S → Type 0) (contents remaining : S → Option (List ℕ)) where
  -- the relay has answered this request: it was done
  pub record HasDone (request : Request) : Type 0 where
    pub octets : List ℕ
    pub answered : IsAnswered is_new contents remaining request octets
    pub done : IsDone octets

  -- it was refused for this reason
  pub record HasRefused (request : Request) (why : SteeringFault) : Type 0 where
    pub octets : List ℕ
    pub answered : IsAnswered is_new contents remaining request octets
    pub refused : IsRefused octets why

  -- it was done, and the lines of the answer were printed
  pub record HasTold (old new : Option (List ℕ)) (request : Request) : Type 0 where
    pub octets : List ℕ
    pub answered : IsAnswered is_new contents remaining request octets
    pub told : TellsDone octets old new

  -- the relay has done what the arguments ask for, and the lines of its answer were printed
  pub record IsObeyed (old new : Option (List ℕ)) (asked : Steering) : Type 0 where
    pub request : Request
    pub asks : AsksFor asked request
    pub done : HasTold old new request

  -- it has refused that
  pub record IsDenied (asked : Steering) (why : SteeringFault) : Type 0 where
    pub request : Request
    pub asks : AsksFor asked request
    pub refused : HasRefused request why

  -- the arguments ask for no request, or the relay refused it; else no answer has come, or the output failed
  abbrev pub IsNotObeyed : Steering → SteeringFault → Type 0
  IsNotObeyed asked fault.BadHop = HasNoRequest asked fault.BadHop
  IsNotObeyed asked (fault.Refused reason) = IsDenied asked (fault.Refused reason)
  IsNotObeyed asked fault.NoRelay = Unit {0}
  IsNotObeyed asked fault.NoAnswer = Unit {0}
  IsNotObeyed asked (fault.Files other) = Unit {0}
  IsNotObeyed asked other = ⊥
